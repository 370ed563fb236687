-- One token on: what the answer to the tokens left is, by the next one.
use Rattle.std.proofs.Common.{◌≡◌, ◌∙◌, ap, refl, sym, subst, arith, ℕ, ◌+◌, ◌&&◌, Bool, true, false, List, [], ◌∷◌, ◌++◌, Option, Some, None, length, nat_le, cond}
use Rattle.std.proofs.lemmas.List.{append-nil}
use Rattle.ext_mean.specs.declared.codes.SyntaxCode.TheVariants as code
use Rattle.ext_mean.specs.declared.token.Placed.{Placed}
use Rattle.ext_mean.specs.declared.token.Token.{Token}
use Rattle.ext_mean.specs.Wording.{is_operator}
use Rattle.ext_grammar.specs.Coming.{Coming, Move, on_token}
use Rattle.ext_grammar.specs.Reading.{Counted, Ending, faulty, Met, goes, stops, met, met_by, open_operators, at_end, answer, answered}
use Rattle.ext_parse.specs.Readers.{Stand, left, next, first_of, behind_first, first_line, advanced, going_on, with_operator, with_local, with_function, begun, refusal, refused, crowding, crowded, remaining}

-- the answer to the tokens that are left, where this one is the next
step-list : (coming after : Coming) (this : Token) (counted : Counted) (then_counted : ℕ → Counted) → ((line : ℕ) → met coming counted (record { token = this; line = line }) ≡ goes after (then_counted line)) → (ending : Ending) (first : Placed) (rest : List Placed) → first.token ≡ this → answer coming counted ending (first ∷ rest) ≡ answer after (then_counted first.line) ending rest
step-list coming after this counted then_counted moves ending first rest is =
    ap (λ (t : Token). answer coming counted ending (record { token = t; line = first.line } ∷ rest)) is
    ∙ ap (λ (m : Met). answered m (λ c k. answer c k ending rest)) (moves first.line)

-- the same counts, behind a token that begins no item
abbrev pub kept : Counted → Counted
kept counted = record {
  functions = counted.functions;
  locals = counted.locals;
  operators = counted.operators;
  lines = counted.lines ++ [];
}

-- the counts behind an operator
abbrev pub with_one : Counted → Counted
with_one counted = record {
  functions = counted.functions;
  locals = counted.locals;
  operators = counted.operators + 1;
  lines = counted.lines ++ [];
}

-- the counts behind the name of a local
abbrev pub with_name : Counted → Counted
with_name counted = record {
  functions = counted.functions;
  locals = counted.locals + 1;
  operators = counted.operators;
  lines = counted.lines ++ [];
}

same-kept : (counted : Counted) → kept counted ≡ counted
same-kept counted =
    ap
    (λ (lines : List ℕ). let c : Counted = record { functions = counted.functions; locals = counted.locals; operators = counted.operators; lines = lines } in c)
    (append-nil counted.lines)

quiet-list : (coming after : Coming) (this : Token) (counted other : Counted) → ((line : ℕ) → met coming counted (record { token = this; line = line }) ≡ goes after (kept other)) → (ending : Ending) (placed : List Placed) → first_of placed ≡ Some this → answer coming counted ending placed ≡ answer after other ending (behind_first placed)
quiet-list coming after this counted other moves ending [] e = cc
quiet-list coming after this counted other moves ending (first ∷ rest) e =
    step-list coming after this counted (λ _. kept other) moves ending first rest (cc)
    ∙ ap (λ (k : Counted). answer after k ending rest) (same-kept other)

-- behind a token that begins an item on this line
abbrev pub started : Counted → List ℕ → Counted
started counted line = record {
  functions = counted.functions;
  locals = counted.locals;
  operators = 0;
  lines = counted.lines ++ line;
}

start-list : (coming after : Coming) (this : Token) (counted other : Counted) → ((line : ℕ) → met coming counted (record { token = this; line = line }) ≡ goes after (started other (line ∷ []))) → (ending : Ending) (placed : List Placed) → first_of placed ≡ Some this → answer coming counted ending placed ≡ answer after (started other (first_line placed)) ending (behind_first placed)
start-list coming after this counted other moves ending [] e = cc
start-list coming after this counted other moves ending (first ∷ rest) e =
    step-list coming after this counted (λ line. started other (line ∷ [])) moves ending first rest (cc)

-- a token that changes no count
pub quiet : (coming after : Coming) (this : Token) (there : Stand) → ((line : ℕ) → met coming there.counted (record { token = this; line = line }) ≡ goes after (kept there.counted)) → next there ≡ Some this → left coming there ≡ left after (advanced there)
unfolding left next advanced
quiet coming after this there moves e =
    quiet-list coming after this there.counted there.counted moves there.ending there.rest e

-- an operator
pub operating : (coming after : Coming) (this : Token) (there : Stand) → ((line : ℕ) → met coming there.counted (record { token = this; line = line }) ≡ goes after (with_one there.counted)) → next there ≡ Some this → left coming there ≡ left after (advanced (with_operator there))
unfolding left next advanced with_operator
operating coming after this there moves e =
    quiet-list coming after this there.counted _ moves there.ending there.rest e

-- the name of a local
pub naming_one : (coming after : Coming) (this : Token) (there : Stand) → ((line : ℕ) → met coming there.counted (record { token = this; line = line }) ≡ goes after (with_name there.counted)) → next there ≡ Some this → left coming there ≡ left after (advanced (with_local there))
unfolding left next advanced with_local
naming_one coming after this there moves e =
    quiet-list coming after this there.counted _ moves there.ending there.rest e

-- a token behind which an item goes on that has so many operators, or none is open
pub ending_one : (coming after : Coming) (this : Token) (operators : ℕ) (there : Stand) → ((line : ℕ) → met coming there.counted (record { token = this; line = line }) ≡ goes after (kept (record { functions = there.counted.functions; locals = there.counted.locals; operators = operators; lines = there.counted.lines }))) → next there ≡ Some this → left coming there ≡ left after (going_on operators (advanced there))
unfolding left next advanced going_on
ending_one coming after this operators there moves e =
    quiet-list coming after this there.counted _ moves there.ending there.rest e

-- the first token of an item
pub starting : (coming after : Coming) (this : Token) (there : Stand) → ((line : ℕ) → met coming there.counted (record { token = this; line = line }) ≡ goes after (started there.counted (line ∷ []))) → next there ≡ Some this → left coming there ≡ left after (advanced (begun there))
unfolding left next advanced begun
starting coming after this there moves e =
    start-list coming after this there.counted there.counted moves there.ending there.rest e

-- the first token of a function
pub founding : (coming after : Coming) (this : Token) (there : Stand) → ((line : ℕ) → met coming there.counted (record { token = this; line = line }) ≡ goes after (started (record { functions = there.counted.functions + 1; locals = 0; operators = there.counted.operators; lines = there.counted.lines }) (line ∷ []))) → next there ≡ Some this → left coming there ≡ left after (advanced (begun (with_function there)))
unfolding left next advanced begun with_function
founding coming after this there moves e =
    start-list coming after this there.counted (record { functions = there.counted.functions + 1; locals = 0; operators = there.counted.operators; lines = there.counted.lines }) moves there.ending there.rest e

-- two states that are answered alike
alike-list : (first second : Coming) (counted : Counted) (ending : Ending) (placed : List Placed) → at_end first counted ending ≡ at_end second counted ending → ((there : Placed) → first_of placed ≡ Some there.token → met first counted there ≡ met second counted there) → answer first counted ending placed ≡ answer second counted ending placed
alike-list first second counted ending [] ends meets = ends
alike-list first second counted ending (there ∷ rest) ends meets =
    ap (λ (m : Met). answered m (λ c k. answer c k ending rest)) (meets there refl)

pub alike-at : (first second : Coming) (there : Stand) → at_end first there.counted there.ending ≡ at_end second there.counted there.ending → ((placed : Placed) → next there ≡ Some placed.token → met first there.counted placed ≡ met second there.counted placed) → left first there ≡ left second there
unfolding left next
alike-at first second there ends meets = alike-list first second there.counted there.ending there.rest ends meets

pub alike : (first second : Coming) (there : Stand) → at_end first there.counted there.ending ≡ at_end second there.counted there.ending → ((placed : Placed) → met first there.counted placed ≡ met second there.counted placed) → left first there ≡ left second there
alike first second there ends meets = alike-at first second there ends (λ placed _. meets placed)

-- two states that the next token leads on alike
pub alike-moves : (first second : Coming) (there : Stand) → at_end first there.counted there.ending ≡ at_end second there.counted there.ending → open_operators first there.counted.operators ≡ there.counted.operators → open_operators second there.counted.operators ≡ there.counted.operators → ((this : Token) → next there ≡ Some this → on_token first there.counted.operators this ≡ on_token second there.counted.operators this) → left first there ≡ left second there
alike-moves first second there ends same_first same_second moves =
    alike-at first second there ends (λ placed e. by_operators first there.counted placed same_first ∙ ap (λ (m : Option Move). met_with there.counted placed m) (moves placed.token e) ∙ sym (by_operators second there.counted placed same_second))
  where
    met_with : Counted → Placed → Option Move → Met
    met_with counted placed move = cond (is_operator placed.token && nat_le 64 counted.operators) (stops placed.line code.Many) (met_by counted placed move)

    by_operators : (coming : Coming) (counted : Counted) (placed : Placed) → open_operators coming counted.operators ≡ counted.operators → met coming counted placed ≡ cond (is_operator placed.token && nat_le 64 counted.operators) (stops placed.line code.Many) (met_by counted placed (on_token coming counted.operators placed.token))
    by_operators coming counted placed same = ap (λ (n : ℕ). cond (is_operator placed.token && nat_le 64 n) (stops placed.line code.Many) (met_by counted placed (on_token coming n placed.token))) same

-- a token that no program has there
refuses-list : (coming : Coming) (counted : Counted) (ending : Ending) (placed : List Placed) → at_end coming counted ending ≡ faulty ending.line ending.code → open_operators coming counted.operators ≡ counted.operators → ((this : Token) → first_of placed ≡ Some this → on_token coming counted.operators this ≡ None) → answer coming counted ending placed ≡ refused counted ending placed
refuses-list coming counted ending [] ends same none = ends
refuses-list coming counted ending (there ∷ rest) ends same none =
    let at_same : met coming counted there ≡ cond (is_operator there.token && nat_le 64 counted.operators) (stops there.line code.Many) (met_by counted there (on_token coming counted.operators there.token)) =
    ap (λ (n : ℕ). cond (is_operator there.token && nat_le 64 n) (stops there.line code.Many) (met_by counted there (on_token coming n there.token))) same in
    let at_none : met coming counted there ≡ cond (is_operator there.token && nat_le 64 counted.operators) (stops there.line code.Many) (stops there.line code.Expected) =
    at_same ∙ ap (λ (m : Option Move). cond (is_operator there.token && nat_le 64 counted.operators) (stops there.line code.Many) (met_by counted there m)) (none there.token refl) in
    ap (λ (m : Met). answered m (λ c k. answer c k ending rest)) at_none
    ∙ by_test (is_operator there.token && nat_le 64 counted.operators) there.line ending rest
  where
    by_test : (test : Bool) (line : ℕ) (ending : Ending) (rest : List Placed) → answered (cond test (stops line code.Many) (stops line code.Expected)) (λ c k. answer c k ending rest) ≡ cond test (faulty line code.Many) (faulty line code.Expected)
    by_test true line ending rest = refl
    by_test false line ending rest = refl

pub refuses : (coming : Coming) (there : Stand) → at_end coming there.counted there.ending ≡ faulty there.ending.line there.ending.code → open_operators coming there.counted.operators ≡ there.counted.operators → ((this : Token) → next there ≡ Some this → on_token coming there.counted.operators this ≡ None) → left coming there ≡ refusal there
unfolding left next refusal
refuses coming there ends same none = refuses-list coming there.counted there.ending there.rest ends same none

-- how many tokens are left, by the next one
abbrev pub more_by : Option Token → ℕ → ℕ
more_by None count = 0
more_by (Some this) count = count + 1

remaining-list : (placed : List Placed) → length placed ≡ more_by (first_of placed) (length (behind_first placed))
remaining-list [] = refl
remaining-list (first ∷ rest) = omega arith

pub remaining-by : (there : Stand) → remaining there ≡ more_by (next there) (remaining (advanced there))
unfolding remaining next advanced
remaining-by there = remaining-list there.rest

pub remaining-going_on : (operators : ℕ) (there : Stand) → remaining (going_on operators there) ≡ remaining there
unfolding remaining going_on
remaining-going_on operators there = refl

pub remaining-with_operator : (there : Stand) → remaining (advanced (with_operator there)) ≡ remaining (advanced there)
unfolding remaining advanced with_operator
remaining-with_operator there = refl

-- an operator that is one too many
full-list : (coming : Coming) (counted : Counted) (ending : Ending) (placed : List Placed) (this : Token) → open_operators coming counted.operators ≡ counted.operators → first_of placed ≡ Some this → is_operator this ≡ true → nat_le 64 counted.operators ≡ true → answer coming counted ending placed ≡ refused counted ending placed
full-list coming counted ending [] this same e is many = cc
full-list coming counted ending (there ∷ rest) this same e is many =
    let is_one : is_operator there.token ≡ true = subst (λ (t : Token). is_operator t ≡ true) (let t : this ≡ there.token = cc in t) is in
    let both : (is_operator there.token && nat_le 64 counted.operators) ≡ true = ap (λ (b : Bool). b && nat_le 64 counted.operators) is_one ∙ many in
    let opened : (is_operator there.token && nat_le 64 (open_operators coming counted.operators)) ≡ true = ap (λ (n : ℕ). is_operator there.token && nat_le 64 n) same ∙ both in
    let at : answer coming counted ending (there ∷ rest) ≡ faulty there.line code.Many =
    ap (λ (b : Bool). answered (cond b (stops there.line code.Many) (met_by counted there (on_token coming (open_operators coming counted.operators) there.token))) (λ c k. answer c k ending rest)) opened in
    at ∙ sym (ap (λ (b : Bool). cond b (faulty there.line code.Many) (faulty there.line code.Expected)) both)

pub full : (coming : Coming) (there : Stand) (this : Token) → open_operators coming there.counted.operators ≡ there.counted.operators → next there ≡ Some this → is_operator this ≡ true → nat_le 64 there.counted.operators ≡ true → left coming there ≡ refusal there
unfolding left next refusal
full coming there this same e is many =
    full-list coming there.counted there.ending there.rest this same e is many

-- a token that is one too many
crowded-list : (coming : Coming) (counted : Counted) (ending : Ending) (placed : List Placed) (this : Token) → ((line : ℕ) → met coming counted (record { token = this; line = line }) ≡ stops line code.Many) → first_of placed ≡ Some this → answer coming counted ending placed ≡ crowded counted ending placed
crowded-list coming counted ending [] this stopped e = cc
crowded-list coming counted ending (first ∷ rest) this stopped e =
    let is : first.token ≡ this = cc in
    ap (λ (t : Token). answer coming counted ending (record { token = t; line = first.line } ∷ rest)) is
    ∙ ap (λ (m : Met). answered m (λ c k. answer c k ending rest)) (stopped first.line)

pub too_many : (coming : Coming) (this : Token) (there : Stand) → ((line : ℕ) → met coming there.counted (record { token = this; line = line }) ≡ stops line code.Many) → next there ≡ Some this → left coming there ≡ crowding there
unfolding left next crowding
too_many coming this there stopped e = crowded-list coming there.counted there.ending there.rest this stopped e

pub remaining-with_local : (there : Stand) → remaining (advanced (with_local there)) ≡ remaining (advanced there)
unfolding remaining advanced with_local
remaining-with_local there = refl

pub remaining-begun : (there : Stand) → remaining (begun there) ≡ remaining there
unfolding remaining begun
remaining-begun there = refl

pub remaining-begun-advanced : (there : Stand) → remaining (advanced (begun there)) ≡ remaining (advanced there)
unfolding remaining advanced begun
remaining-begun-advanced there = refl

pub remaining-with_function : (there : Stand) → remaining (advanced (begun (with_function there))) ≡ remaining (advanced there)
unfolding remaining advanced begun with_function
remaining-with_function there = refl

-- how many tokens are left, call by call
pub ruleset counting_down = (remaining-by, remaining-going_on, remaining-with_operator, remaining-with_local, remaining-begun, remaining-begun-advanced, remaining-with_function)
