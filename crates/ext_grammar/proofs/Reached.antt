-- What holds where a reader stands behind some tokens of a text.
use Rattle.std.proofs.Common.{◌≡◌, ℕ, ◌⊎◌, List, [], ◌∷◌, ◌++◌, Option, Some, refl, sym, ◌∙◌, ap, subst, append_assoc, inl, inr}
use Rattle.ext_mean.specs.declared.token.Placed.{Placed}
use Rattle.ext_mean.specs.declared.token.Token.{Token}
use Rattle.ext_mean.specs.declared.tree.Program.{Program}
use Rattle.ext_mean.specs.Bounds.{functions_with, functions_behind, locals_with, locals_behind, IsBounded, AreBounded}
use Rattle.ext_mean.specs.Text.{line_if_begins, item_lines}
use Rattle.ext_mean.specs.Tokens.{tokens_of}
use Rattle.ext_mean.specs.Wording.{Standing, begins, Slot, slot, slot_tokens}
use Rattle.ext_grammar.specs.Coming.{Coming, functions, Move, on_token}
use Rattle.ext_grammar.specs.Reading.{Counted, open_operators}
use Rattle.ext_grammar.proofs.Walks.{Takes, Walk}
use Rattle.ext_grammar.proofs.Continuing.{Continues}
use Rattle.ext_grammar.proofs.Joined.{Then}
use Rattle.ext_grammar.proofs.Steps.{step}
use Rattle.ext_grammar.proofs.Kept.{Zeroed, Kept}
use Rattle.ext_grammar.proofs.KeptByTokens.{keeps}

-- what is counted behind this token
abbrev pub counting : Counted → Placed → Move → Counted
counting counted next move = record {
  functions = functions_with counted.functions next.token;
  locals = locals_with counted.locals next.token move.standing;
  operators = move.operators;
  lines = counted.lines ++ line_if_begins move.standing next.line [];
}

abbrev pub none_counted : Counted
none_counted = record { functions = 0; locals = 0; operators = 0; lines = [] }

-- behind these tokens the reader is in this state, and they are these slots, within the bounds
pub data Reached : List Placed → Coming → Counted → List Slot → Type 0 where
  start : Reached [] (functions []) none_counted []
  onward : {placed : List Placed} {coming : Coming} {counted : Counted} {slots : List Slot} →
      Reached placed coming counted slots → (next : Placed) (move : Move) →
      on_token coming (open_operators coming counted.operators) next.token ≡ Some move →
      IsBounded slots (slot next.token move.standing) →
      Reached (placed ++ next ∷ []) move.coming (counting counted next move)
      (slots ++ slot next.token move.standing ∷ [])

-- lists
pub tokens_of-append : (first second : List Placed) → tokens_of (first ++ second) ≡ tokens_of first
    ++ tokens_of second
tokens_of-append [] second = refl
tokens_of-append (next ∷ first) second = ap (λ it. next.token ∷ it) (tokens_of-append first second)

pub slot_tokens-append : (first second : List Slot) → slot_tokens (first ++ second) ≡ slot_tokens first
    ++ slot_tokens second
slot_tokens-append [] second = refl
slot_tokens-append (next ∷ first) second =
    ap (λ it. next.token ∷ it) (slot_tokens-append first second)

pub split-slots : (slots : List Slot) (first second : List Token) → slot_tokens slots ≡ first
    ++ second → (front : List Slot) × (more : List Slot) × (slots ≡ front ++ more)
    × (slot_tokens front ≡ first) × (slot_tokens more ≡ second)
split-slots slots [] second same = ([], slots, refl, refl, same)
split-slots [] (token ∷ first) second same = absurd (cc)
split-slots (next ∷ slots) (token ∷ first) second same =
    let (front, more, one, two, three) = split-slots slots first second (cc) in
    (next ∷ front, more, ap (λ it. next ∷ it) one, cc, three)

pub slot-is : (there : Slot) (token : Token) (standing : Standing) → there.token ≡ token →
    standing ≡ there.standing → there ≡ slot token standing
slot-is there token standing one two = λ i. record { token = one i; standing = sym two i }

-- a step that is known
pub takes-move : (found : Option Move) (move : Move) (standing : Standing)
    (more : Coming → ℕ → Type 0) → found ≡ Some move → Takes found standing more →
    (move.standing ≡ standing) × more move.coming move.operators
takes-move found move standing more same takes =
    let P : Option Move → Type 0 = λ it. Takes it standing more in subst P same takes

pub then-move : (found : Option Move) (move : Move) (tokens : List Token) → found ≡ Some move →
    Continues move.coming tokens → Then found tokens
then-move found move tokens same more =
    let P : Option Move → Type 0 = λ it. Then it tokens in subst P (sym same) more

pub kept-move : (state : Coming) (before : ℕ) (next : Token) (found : Option Move) (move : Move) →
    found ≡ Some move → Kept state before next found → Kept state before next (Some move)
kept-move state before next found move same kept =
    let P : Option Move → Type 0 = λ it. Kept state before next it in subst P same kept

-- the tokens of the slots are those that were read
pub reached-tokens : {placed : List Placed} {coming : Coming} {counted : Counted}
    {slots : List Slot} → Reached placed coming counted slots → slot_tokens slots ≡ tokens_of placed
reached-tokens start = refl
reached-tokens (onward {placed = placed} {slots = slots} reached next move same bounded) =
    slot_tokens-append slots (slot next.token move.standing ∷ []) ∙ ap (λ it. it ++ next.token ∷ [])
    (reached-tokens reached) ∙ sym (tokens_of-append placed (next ∷ []))

pub reached-zeroed : {placed : List Placed} {coming : Coming} {counted : Counted}
    {slots : List Slot} → Reached placed coming counted slots → Zeroed coming counted.operators
reached-zeroed start = refl
reached-zeroed (onward {coming = coming} {counted = counted} reached next move same bounded) =
    (kept-move coming (open_operators coming counted.operators) next.token
    (on_token coming (open_operators coming counted.operators) next.token) move same
    (keeps coming counted.operators (reached-zeroed reached) next.token)).1

-- what may follow makes a program with what was read
pub reached-back : {placed : List Placed} {coming : Coming} {counted : Counted}
    {slots : List Slot} → Reached placed coming counted slots → (tokens : List Token) →
    Continues coming tokens → Continues (functions []) (tokens_of placed ++ tokens)
reached-back start tokens continues = continues
reached-back (onward {placed =
    placed} {coming = coming} {counted = counted} reached next move same bounded) tokens continues =
    let before : ℕ = open_operators coming counted.operators in
    let P : List Token → Type 0 = λ it. Continues (functions []) it in
    subst P (sym (ap (λ it. it ++ tokens) (tokens_of-append placed (next ∷ []))
    ∙ append_assoc (tokens_of placed) (next.token ∷ []) tokens))
    (reached-back reached (next.token ∷ tokens)
    (step coming before next.token tokens
    (then-move (on_token coming before next.token) move tokens same continues)))

one-slot : (slots : List Slot) (token : Token) → slot_tokens slots ≡ token ∷ [] →
    (there : Slot) × (slots ≡ there ∷ []) × (there.token ≡ token)
one-slot [] token same = absurd (cc)
one-slot (there ∷ []) token same = (there, refl, cc)
one-slot (there ∷ other ∷ slots) token same = absurd (cc)

-- the tokens alone decide where they stand
pub reached-decides : {placed : List Placed} {coming : Coming} {counted : Counted}
    {slots : List Slot} → Reached placed coming counted slots → (others more : List Slot)
    (program : Program) → slot_tokens others ≡ tokens_of placed → Walk (others ++ more)
    (functions []) 0 program → (others ≡ slots) × Walk more coming counted.operators program
reached-decides start [] more program same walk = (refl, walk)
reached-decides start (there ∷ others) more program same walk = absurd (cc)
reached-decides (onward {placed =
    placed} {coming = coming} {counted = counted} {slots = slots} reached next move moved bounded)
    others more program same walk =
    let (front, last, one, two, three) = split-slots others (tokens_of placed) (next.token ∷ [])
    (same ∙ tokens_of-append placed (next ∷ [])) in
    let (there, four, five) = one-slot last next.token three in
    let P : List Slot → Type 0 = λ it. Walk it (functions []) 0 program in
    let all : others ++ more ≡ front ++ (there ∷ more) =
    ap (λ it. it ++ more) (one ∙ ap (λ it. front ++ it) four)
    ∙ append_assoc front (there ∷ []) more in
    let (six, onwards) = reached-decides reached front (there ∷ more) program two
    (subst P all walk) in
    let before : ℕ = open_operators coming counted.operators in
    let (seven, rest) = takes-move (on_token coming before there.token) move there.standing
    (λ then_coming then_before. Walk more then_coming then_before program)
    (ap (λ it. on_token coming before it) five ∙ moved) onwards in (
      one ∙ ap (λ it. front ++ it) four ∙ ap (λ it. it ++ there ∷ []) six
          ∙ ap (λ it. slots ++ it ∷ []) (slot-is there next.token move.standing five seven),
      rest,
    )

-- the counts
functions-last : (slots : List Slot) (there : Slot) (before : ℕ) →
    functions_behind before (slots ++ there ∷ []) ≡ functions_with (functions_behind before slots)
    there.token
functions-last [] there before = refl
functions-last (first ∷ slots) there before =
    functions-last slots there (functions_with before first.token)

locals-last : (slots : List Slot) (there : Slot) (before : ℕ) →
    locals_behind before (slots ++ there ∷ []) ≡ locals_with (locals_behind before slots)
    there.token there.standing
locals-last [] there before = refl
locals-last (first ∷ slots) there before =
    locals-last slots there (locals_with before first.token first.standing)

pub line-last : (standing : Standing) (line : ℕ) (lines : List ℕ) →
    line_if_begins standing line lines ≡ line_if_begins standing line [] ++ lines
line-last begins line lines = refl
line-last _ line lines = refl

lines-last : (slots : List Slot) (placed : List Placed) (there : Slot) (next : Placed) →
    slot_tokens slots ≡ tokens_of placed → item_lines (slots ++ there ∷ []) (placed ++ next ∷ [])
    ≡ item_lines slots placed ++ line_if_begins there.standing next.line []
lines-last [] [] there next same = refl
lines-last [] (one ∷ placed) there next same = absurd (cc)
lines-last (first ∷ slots) [] there next same = absurd (cc)
lines-last (first ∷ slots) (one ∷ placed) there next same =
    let rest : item_lines (slots ++ there ∷ []) (placed ++ next ∷ []) ≡ item_lines slots placed
    ++ line_if_begins there.standing next.line [] = lines-last slots placed there next (cc) in
    line-last first.standing one.line (item_lines (slots ++ there ∷ []) (placed ++ next ∷ []))
    ∙ ap (λ it. line_if_begins first.standing one.line [] ++ it) rest
    ∙ sym (append_assoc (line_if_begins first.standing one.line []) (item_lines slots placed)
    (line_if_begins there.standing next.line []))
    ∙ ap (λ it. it ++ line_if_begins there.standing next.line [])
    (sym (line-last first.standing one.line (item_lines slots placed)))

pub record Counts (placed : List Placed) (counted : Counted) (slots : List Slot) : Type 0 where
  pub functions : counted.functions ≡ functions_behind 0 slots
  pub locals : counted.locals ≡ locals_behind 0 slots
  pub lines : counted.lines ≡ item_lines slots placed

pub reached-counts : {placed : List Placed} {coming : Coming} {counted : Counted}
    {slots : List Slot} → Reached placed coming counted slots → Counts placed counted slots
reached-counts start = record { functions = refl; locals = refl; lines = refl }
reached-counts (onward {placed = placed} {slots = slots} reached next move same bounded) =
    let counts = reached-counts reached in
    record {
      functions =
          ap (λ it. functions_with it next.token) counts.functions
          ∙ sym (functions-last slots (slot next.token move.standing) 0);
      locals =
          ap (λ it. locals_with it next.token move.standing) counts.locals
          ∙ sym (locals-last slots (slot next.token move.standing) 0);
      lines = ap (λ it. it ++ line_if_begins move.standing next.line []) counts.lines
          ∙ sym (lines-last slots placed (slot next.token move.standing) next
          (reached-tokens reached));
    }

-- the last slot, or one before it
last-split : (slots : List Slot) (last there : Slot) (before rest : List Slot) →
    slots ++ last ∷ [] ≡ before ++ there ∷ rest →
    ((before ≡ slots) × (there ≡ last)) ⊎ ((more : List Slot) × (slots ≡ before ++ there ∷ more))
last-split [] last there [] rest same = inl (refl, cc)
last-split [] last there (one ∷ []) rest same = absurd (cc)
last-split [] last there (one ∷ other ∷ before) rest same = absurd (cc)
last-split (first ∷ slots) last there [] rest same = inr (slots, cc)
last-split (first ∷ slots) last there (one ∷ before) rest same =
    elim (last-split slots last there before rest (cc)) [
      | inl (two, three) ↦ inl (cc, three)
      | inr (more, two) ↦ inr (more, cc)
    ]

bounded-last : (slots : List Slot) (last : Slot) → AreBounded slots → IsBounded slots last →
    AreBounded (slots ++ last ∷ [])
bounded-last slots last all one before there rest same =
    elim (last-split slots last there before rest same) [
      | inl (two, three) ↦
          (let P : List Slot → Type 0 = λ it. IsBounded it there in
          let Q : Slot → Type 0 = λ it. IsBounded slots it in
          subst P (sym two) (subst Q (sym three) one))
      | inr (more, two) ↦ all before there more two
    ]

no-slots : (before rest : List Slot) (there : Slot) → [] ≡ before ++ there ∷ rest → ⊥
no-slots [] rest there same = cc
no-slots (first ∷ before) rest there same = cc

pub reached-bounded : {placed : List Placed} {coming : Coming} {counted : Counted}
    {slots : List Slot} → Reached placed coming counted slots → AreBounded slots
reached-bounded start before there rest same = absurd (no-slots before rest there same)
reached-bounded (onward {slots = slots} reached next move same bounded) before there rest split =
    bounded-last slots (slot next.token move.standing) (reached-bounded reached) bounded before
    there rest split
