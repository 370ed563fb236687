-- Why a token that is refused is a fault, and which.
use Rattle.std.proofs.Common.{◌≡◌, ◌≤◌, ℕ, ◌&&◌, true, false, IsTrue, List, [], ◌∷◌, ◌++◌, Option, Some, None, nat_le, refl, sym, ◌∙◌, ap, subst, append_assoc, arith, inl, inr}
use Rattle.ext_mean.specs.declared.token.Placed.{Placed}
use Rattle.ext_mean.specs.declared.token.Token.{Token}
use Rattle.ext_mean.specs.declared.token.Token.TheVariants as token
use Rattle.ext_mean.specs.Bounds.{IsTooLong, IsTooDeep, IsTooMany, IsBounded, IsNaming, IsAnyName, functions_behind, locals_behind, operators_at}
use Rattle.ext_mean.specs.Derived.{program_tree}
use Rattle.ext_mean.specs.Grammar.{Whole}
use Rattle.ext_mean.specs.SyntaxFaults.{GoesOnTooMany, IsBeginning}
use Rattle.ext_mean.specs.Tokens.{tokens_of}
use Rattle.ext_mean.specs.Wording.{Slot, slot, Standing, is_operator, slot_tokens, program_slots}
use Rattle.ext_grammar.specs.Coming.{Coming, Move, on_token}
use Rattle.ext_grammar.specs.Reading.{Counted, open_operators, is_full_of_functions, is_full_of_locals}
use Rattle.ext_grammar.proofs.Walks.{Takes, Walk}
use Rattle.ext_grammar.proofs.Completions.{some}
use Rattle.ext_grammar.proofs.Steps.{step}
use Rattle.ext_grammar.proofs.Kept.{Kept}
use Rattle.ext_grammar.proofs.KeptByTokens.{keeps, any-name}
use Rattle.ext_grammar.proofs.Reached.{Reached, split-slots, takes-move, then-move, kept-move, reached-tokens, reached-zeroed, reached-counts}
use Rattle.ext_grammar.proofs.Completed.{fitting, completed}
use Rattle.ext_grammar.proofs.Bounding.{not-both, le-true, functions-full, functions-room, locals-full, locals-room, taken-operators, taken-name, ended-zero}

module _ (placed : List Placed) (coming : Coming) (counted : Counted) (slots : List Slot)
    (reached : Reached placed coming counted slots) (next : Token) where
  abbrev before : ℕ
  before = open_operators coming counted.operators

  kept : (there : Token) → Kept coming before there (on_token coming before there)
  kept there = keeps coming counted.operators (reached-zeroed reached) there

  -- the 65th operator
  more-operators : (whole : Whole) (more : List Slot) → program_slots whole ≡ slots ++ more →
      Walk more coming counted.operators (program_tree whole) → IsTrue (is_operator next) →
      64 ≤ before → GoesOnTooMany (tokens_of placed) next
  more-operators whole [] split walk operator high =
      absurd (let low : before ≡ 0 = ended-zero coming counted.operators (program_tree whole) walk
      (reached-zeroed reached) in omega arith)
  more-operators whole (there ∷ rest) split walk operator high = record {
    whole = whole;
    front = slots;
    there = there;
    rest = rest;
    slots = split;
    behind = reached-tokens reached;
    many = inr (inr (
      operator,
      (let same : operators_at there.standing ≡ before = taken-operators coming before there.token
          (on_token coming before there.token) there.standing _ (kept there.token) walk in
          omega arith),
    ));
  }

  pub many-operators : IsTrue (is_operator next) → 64 ≤ before →
      GoesOnTooMany (tokens_of placed) next
  many-operators operator high =
      let (tokens, continues) = some coming in
      let found = completed reached tokens continues in
      more-operators found.whole found.more found.split found.walk operator high

  -- a token that leads on is one that a program has
  pub record Led (move : Move) : Type 0 where
    pub whole : Whole
    pub there : Slot
    pub rest : List Slot
    pub split : program_slots whole ≡ slots ++ there ∷ rest
    pub same : there.token ≡ next
    pub stands : move.standing ≡ there.standing

  led-by : (whole : Whole) (more : List Slot) (tokens : List Token) (move : Move) →
      program_slots whole ≡ slots ++ more → slot_tokens more ≡ next ∷ tokens →
      Walk more coming counted.operators (program_tree whole) → on_token coming before next
      ≡ Some move → Led move
  led-by whole [] tokens move split same walk moved = absurd (cc)
  led-by whole (there ∷ rest) tokens move split same walk moved =
      let token-same : there.token ≡ next = cc in
      record {
        whole = whole;
        there = there;
        rest = rest;
        split = split;
        same = token-same;
        stands =
            (takes-move (on_token coming before there.token) move there.standing
            (λ then_coming then_before. Walk rest then_coming then_before (program_tree whole))
            (ap (λ it. on_token coming before it) token-same ∙ moved) walk).0;
      }

  pub led : (move : Move) → on_token coming before next ≡ Some move → Led move
  led move moved =
      let (tokens, continues) = some move.coming in
      let found = completed reached (next ∷ tokens)
      (step coming before next tokens
      (then-move (on_token coming before next) move tokens moved continues)) in
      led-by found.whole found.more tokens move found.split found.same found.walk moved

  -- the 33rd function and the 257th local
  pub many-functions : (move : Move) → on_token coming before next ≡ Some move →
      is_full_of_functions counted.functions next ≡ true → GoesOnTooMany (tokens_of placed) next
  many-functions move moved full =
      let found = led move moved in
      let (one, two) = functions-full counted.functions next full in
      let counts = reached-counts reached in
      record {
        whole = found.whole;
        front = slots;
        there = found.there;
        rest = found.rest;
        slots = found.split;
        behind = reached-tokens reached;
        many =
            inl (
              one,
              found.same ∙ one,
              (let same : counted.functions ≡ functions_behind 0 slots =
                  counts.functions in omega arith),
            );
      }

  pub many-locals : (move : Move) → on_token coming before next ≡ Some move →
      is_full_of_locals counted.locals move.standing ≡ true → GoesOnTooMany (tokens_of placed) next
  many-locals move moved full =
      let found = led move moved in
      let (one, two) = locals-full counted.locals move.standing full in
      let counts = reached-counts reached in
      let keeping : Kept coming before next (Some move) = kept-move coming before next
      (on_token coming before next) move moved (kept next) in
      let P : Standing → Type 0 = λ it. IsNaming it in
      record {
        whole = found.whole;
        front = slots;
        there = found.there;
        rest = found.rest;
        slots = found.split;
        behind = reached-tokens reached;
        many =
            inr (inl (
              (keeping.2 one).1,
              subst P found.stands one,
              (let same : counted.locals ≡ locals_behind 0 slots =
                  counts.locals in omega arith),
            ));
      }

  -- a token that leads nowhere
  module _ (none : on_token coming before next ≡ None) where
    nowhere : (there : Token) (standing : Standing) (more : Coming → ℕ → Type 0) → there ≡ next →
        Takes (on_token coming before there) standing more → ⊥
    nowhere there standing more same takes =
        let P : Option Move → Type 0 = λ it. Takes it standing more in
        subst P (ap (λ it. on_token coming before it) same ∙ none) takes

    any-nowhere : (it : Token) → it ≡ next → IsAnyName it →
        (there : Slot) (more : Coming → ℕ → Type 0) →
        Takes (on_token coming before there.token) there.standing more → IsNaming there.standing → ⊥
    any-nowhere (token.Name name) same any there more takes named =
        any-name coming (taken-name coming before there.token (on_token coming before there.token)
        there.standing more (kept there.token) takes named).0 before name
        (ap (λ it. on_token coming before it) same ∙ none)
    any-nowhere _ same any there more takes named = any

    none-many : (whole : Whole) (there : Slot) (rest : List Slot) →
        is_operator next && nat_le 64 before ≡ false →
        Walk (there ∷ rest) coming counted.operators (program_tree whole) →
        IsTooMany slots there next → ⊥
    none-many whole there rest few walk (inl (one, two, three)) =
        nowhere there.token there.standing _ (two ∙ sym one) walk
    none-many whole there rest few walk (inr (inl (one, two, three))) =
        any-nowhere next refl one there _ walk two
    none-many whole there rest few walk (inr (inr (one, two))) =
        let same : operators_at there.standing ≡ before = taken-operators coming before there.token
        (on_token coming before there.token) there.standing _ (kept there.token) walk in
        let high : 64 ≤ before = omega arith in
        let yes-test : nat_le 64 before ≡ true = le-true 64 before high in
        let no-test : nat_le 64 before ≡ false = not-both (is_operator next) (nat_le 64 before) few
        one in
        cc

    pub not-many : is_operator next && nat_le 64 before ≡ false →
        GoesOnTooMany (tokens_of placed) next → ⊥
    not-many few goes =
        let (same, walk) = fitting reached goes.whole goes.front (goes.there ∷ goes.rest) goes.slots
        goes.behind in
        let P : List Slot → Type 0 = λ it. IsTooMany it goes.there next in
        none-many goes.whole goes.there goes.rest few walk (subst P same goes.many)

    none-begun : (whole : Whole) (more : List Slot) (rest : List Token) →
        slot_tokens more ≡ next ∷ rest → Walk more coming counted.operators (program_tree whole) → ⊥
    none-begun whole [] rest same walk = cc
    none-begun whole (there ∷ more) rest same walk = nowhere there.token there.standing _ (cc) walk

    pub not-begun : IsBeginning (tokens_of placed ++ next ∷ []) → ⊥
    not-begun (whole, rest, same) =
        let (front, more, one, two, three) = split-slots (program_slots whole) (tokens_of placed)
        (next ∷ rest) (same ∙ append_assoc (tokens_of placed) (next ∷ []) rest) in
        none-begun whole more rest three (fitting reached whole front more one two).1

  -- a token within the bounds
  pub bounded : (move : Move) → on_token coming before next ≡ Some move → (IsTooLong next → ⊥) →
      (IsTooDeep (tokens_of placed) next → ⊥) → is_operator next && nat_le 64 before ≡ false →
      is_full_of_functions counted.functions next ≡ false →
      is_full_of_locals counted.locals move.standing ≡ false →
      IsBounded slots (slot next move.standing)
  bounded move moved short shallow few functions-few locals-few =
      let counts = reached-counts reached in
      let keeping : Kept coming before next (Some move) = kept-move coming before next
      (on_token coming before next) move moved (kept next) in
      let P : List Token → Type 0 = λ it. IsTooDeep it next in
      record {
        short = short;
        shallow = λ deep. shallow (subst P (reached-tokens reached) deep);
        few = too-few move counts.functions counts.locals keeping.0 few functions-few locals-few;
      }
    where
      too-few : (move : Move) → counted.functions ≡ functions_behind 0 slots →
          counted.locals ≡ locals_behind 0 slots → operators_at move.standing ≡ before →
          is_operator next && nat_le 64 before ≡ false → is_full_of_functions counted.functions next
          ≡ false → is_full_of_locals counted.locals move.standing ≡ false →
          IsTooMany slots (slot next move.standing) next → ⊥
      too-few move one two three few functions-few locals-few (inl (four, five, six)) =
          functions-room counted.functions next functions-few four (omega arith)
      too-few move one two three few functions-few locals-few (inr (inl (four, five, six))) =
          locals-room counted.locals move.standing locals-few five (omega arith)
      too-few move one two three few functions-few locals-few (inr (inr (four, five))) =
          let high : 64 ≤ before = omega arith in
          let yes-test : nat_le 64 before ≡ true = le-true 64 before high in
          let no-test : nat_le 64 before ≡ false = not-both (is_operator next) (nat_le 64 before)
          few four in
          cc
