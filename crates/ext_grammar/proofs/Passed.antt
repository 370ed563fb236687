-- A token behind which a program within the bounds goes on has no code.
use Rattle.std.proofs.Common.{◌≡◌, ℕ, IsTrue, List, [], ◌∷◌, ◌++◌, Some, refl, sym, ◌∙◌, ap, subst, append_assoc, append-nil, arith, inl, inr}
use Rattle.ext_mean.specs.declared.codes.SyntaxCode.{SyntaxCode}
use Rattle.ext_mean.specs.declared.token.Placed.{Placed}
use Rattle.ext_mean.specs.declared.token.Token.{Token}
use Rattle.ext_mean.specs.declared.tree.Program.{Program}
use Rattle.ext_mean.specs.Bounds.{IsTooLong, IsTooDeep, IsTooMany, IsBounded, AreBounded, IsAnyName, operators_at}
use Rattle.ext_mean.specs.Derived.{program_tree}
use Rattle.ext_mean.specs.Grammar.{Whole}
use Rattle.ext_mean.specs.SyntaxFaults.{HasCode, long, deep, many, expected, GoesOnTooMany}
use Rattle.ext_mean.specs.Tokens.{tokens_of}
use Rattle.ext_mean.specs.Wording.{Slot, slot, is_operator, slot_tokens, program_slots, program_tokens}
use Rattle.ext_grammar.specs.Agreement.{Begin, PassedHaveNoCode}
use Rattle.ext_grammar.specs.Coming.{Coming, functions, on_token}
use Rattle.ext_grammar.specs.Reading.{Counted, open_operators}
use Rattle.ext_grammar.proofs.Walks.{Walk}
use Rattle.ext_grammar.proofs.LedPrograms.{program-leads}
use Rattle.ext_grammar.proofs.Kept.{Kept, Declares}
use Rattle.ext_grammar.proofs.KeptByTokens.{keeps, names-any}
use Rattle.ext_grammar.proofs.Reached.{Reached, start, onward, counting, none_counted, split-slots, slot-is, slot_tokens-append, tokens_of-append, reached-zeroed}
use Rattle.ext_grammar.proofs.Completed.{fitting}
use Rattle.ext_grammar.proofs.Bounding.{taken-operators, taken-name}
use Rattle.ext_grammar.proofs.Accepted.{move-of}

-- a reader stands behind these tokens
record Stood (placed : List Placed) : Type 0 where
  pub coming : Coming
  pub counted : Counted
  pub slots : List Slot
  pub reached : Reached placed coming counted slots

-- a reader that walks within the bounds comes behind each token
reaching : (program : Program) (more front : List Slot) (rest placed : List Placed)
    (coming : Coming) (counted : Counted) (slots : List Slot) →
    Reached placed coming counted slots →
    Walk (front ++ more) coming counted.operators program → slot_tokens front ≡ tokens_of rest →
    AreBounded (slots ++ front) → Stood (placed ++ rest)
reaching program more [] [] placed coming counted slots reached walk same bounds =
    let P : List Placed → Type 0 = λ it. Stood it in
    subst P (sym (append-nil placed))
    (record { coming = coming; counted = counted; slots = slots; reached = reached })
reaching program more [] (next ∷ rest) placed coming counted slots reached walk same bounds =
    absurd (cc)
reaching program more (there ∷ front) [] placed coming counted slots reached walk same bounds =
    absurd (cc)
reaching program more (there ∷ front) (next ∷ rest) placed coming counted slots reached walk same
    bounds =
    let before : ℕ = open_operators coming counted.operators in
    let token-same : there.token ≡ next.token = cc in
    let (move, found, stands, onwards) = move-of (on_token coming before there.token)
    there.standing
    (λ then_coming then_before. Walk (front ++ more) then_coming then_before program) walk in
    let moved : on_token coming before next.token ≡ Some move =
    ap (λ it. on_token coming before it) (sym token-same) ∙ found in
    let there-is : there ≡ slot next.token move.standing =
    slot-is there next.token move.standing token-same stands in
    let P : Slot → Type 0 = λ it. IsBounded slots it in
    let one : IsBounded slots (slot next.token move.standing) =
    subst P there-is (bounds slots there front refl) in
    let Q : List Slot → Type 0 = λ it. AreBounded it in
    let all : slots ++ there ∷ front ≡ (slots ++ slot next.token move.standing ∷ []) ++ front =
    ap (λ it. slots ++ it ∷ front) there-is
    ∙ sym (append_assoc slots (slot next.token move.standing ∷ []) front) in
    let R : List Placed → Type 0 = λ it. Stood it in
    subst R (append_assoc placed (next ∷ []) rest)
    (reaching program more front rest (placed ++ next ∷ []) move.coming
    (counting counted next move) (slots ++ slot next.token move.standing ∷ [])
    (onward reached next move moved one) onwards (cc) (subst Q all bounds))

-- a program within the bounds, parted before one of its tokens
record Parted (before : List Placed) (next : Placed) : Type 0 where
  pub whole : Whole
  pub front : List Slot
  pub there : Slot
  pub more : List Slot
  pub slots : program_slots whole ≡ front ++ there ∷ more
  pub same : slot_tokens front ≡ tokens_of before
  pub token : there.token ≡ next.token
  pub bounds : AreBounded front
  pub bounded : IsBounded front there

parted-so : (before : List Placed) (next : Placed) (rest : List Placed)
    (begin : Begin (before ++ next ∷ rest)) (front more : List Slot) →
    begin.front ≡ front ++ more → slot_tokens front ≡ tokens_of before →
    slot_tokens more ≡ next.token ∷ tokens_of rest → Parted before next
parted-so before next rest begin front [] one two three = absurd (cc)
parted-so before next rest begin front (there ∷ more) one two three = record {
  whole = begin.whole;
  front = front;
  there = there;
  more = more ++ begin.more;
  slots = begin.slots ∙ ap (λ it. it ++ begin.more) one
      ∙ append_assoc front (there ∷ more) begin.more;
  same = two;
  token = cc;
  bounds = λ others other rest same. begin.bounds others other (rest ++ there ∷ more)
      (one ∙ ap (λ it. it ++ there ∷ more) same
      ∙ append_assoc others (other ∷ rest) (there ∷ more));
  bounded = begin.bounds front there more one;
}

parted : (before : List Placed) (next : Placed) (rest : List Placed) →
    Begin (before ++ next ∷ rest) → Parted before next
parted before next rest begin =
    let (front, more, one, two, three) = split-slots begin.front (tokens_of before)
    (next.token ∷ tokens_of rest) (begin.same ∙ tokens_of-append before (next ∷ rest)) in
    parted-so before next rest begin front more one two three

-- where the tokens before it lead
stood : (before : List Placed) (next : Placed) → Parted before next → Stood before
stood before next part =
    let P : List Slot → Type 0 = λ it. Walk it (functions []) 0 (program_tree part.whole) in
    reaching (program_tree part.whole) (part.there ∷ part.more) part.front before []
    (functions []) none_counted [] start
    (subst P part.slots (program-leads part.whole)) part.same part.bounds

module _ (before : List Placed) (next : Placed) (part : Parted before next) (coming : Coming)
    (counted : Counted) (slots : List Slot) (reached : Reached before coming counted slots) where
  abbrev so-far : ℕ
  so-far = open_operators coming counted.operators

  kept : (there : Token) → Kept coming so-far there (on_token coming so-far there)
  kept there = keeps coming counted.operators (reached-zeroed reached) there

  -- one too many for any place behind them is one too many for its own
  also-many : (other : Slot) (rest rest' : List Slot) (program program' : Program) →
      Walk (part.there ∷ rest) coming counted.operators program →
      Walk (other ∷ rest') coming counted.operators program' →
      IsTooMany slots other next.token → IsTooMany slots part.there part.there.token
  also-many other rest rest' program program' walk walk' (inl (one, two, three)) =
      inl (part.token ∙ one, part.token ∙ one, three)
  also-many other rest rest' program program' walk walk' (inr (inl (one, two, three))) =
      let P : Token → Type 0 = λ it. IsAnyName it in
      let any : IsAnyName part.there.token = subst P (sym part.token) one in
      let declares : Declares coming = (taken-name coming so-far other.token
      (on_token coming so-far other.token) other.standing _ (kept other.token) walk' two).0 in
      inr (inl (any, names-any coming declares so-far part.there.token part.there.standing _ any walk, three))
  also-many other rest rest' program program' walk walk' (inr (inr (one, two))) =
      let P : Token → Type 0 = λ it. IsTrue (is_operator it) in
      let here : operators_at part.there.standing ≡ so-far = taken-operators coming so-far
      part.there.token (on_token coming so-far part.there.token) part.there.standing _
      (kept part.there.token) walk in
      let there : operators_at other.standing ≡ so-far = taken-operators coming so-far
      other.token (on_token coming so-far other.token) other.standing _ (kept other.token) walk' in
      inr (inr (subst P (sym part.token) one, (omega arith)))

  not-too-many : GoesOnTooMany (tokens_of before) next.token → ⊥
  not-too-many goes =
      let (same, walk) = fitting reached part.whole part.front (part.there ∷ part.more) part.slots
      part.same in
      let (same', walk') = fitting reached goes.whole goes.front (goes.there ∷ goes.rest)
      goes.slots goes.behind in
      let P : List Slot → Type 0 = λ it. IsTooMany it goes.there next.token in
      let Q : List Slot → Type 0 = λ it. IsTooMany it part.there part.there.token in
      part.bounded.few
      (subst Q (sym same)
      (also-many goes.there part.more goes.rest (program_tree part.whole) (program_tree goes.whole)
      walk walk' (subst P same' goes.many)))

-- the program that goes on behind it
begun-with : (before : List Placed) (next : Placed) (part : Parted before next) →
    program_tokens part.whole ≡ (tokens_of before ++ next.token ∷ []) ++ slot_tokens part.more
begun-with before next part =
    ap slot_tokens part.slots ∙ slot_tokens-append part.front (part.there ∷ part.more)
    ∙ ap (λ it. it ++ part.there.token ∷ slot_tokens part.more) part.same
    ∙ ap (λ it. tokens_of before ++ it ∷ slot_tokens part.more) part.token
    ∙ sym (append_assoc (tokens_of before) (next.token ∷ []) (slot_tokens part.more))

has-none : (before : List Placed) (next : Placed) (part : Parted before next)
    (which : SyntaxCode) → HasCode (tokens_of before) next.token which → ⊥
has-none before next part which (long is) =
    let P : Token → Type 0 = λ it. IsTooLong it in
    part.bounded.short (subst P (sym part.token) is)
has-none before next part which (deep short is) =
    let P : Token → Type 0 = λ it. IsTooDeep (slot_tokens part.front) it in
    let Q : List Token → Type 0 = λ it. IsTooDeep it next.token in
    part.bounded.shallow (subst P (sym part.token) (subst Q (sym part.same) is))
has-none before next part which (many short shallow goes) =
    let there = stood before next part in
    not-too-many before next part there.coming there.counted there.slots there.reached goes
has-none before next part which (expected short shallow few none) =
    none (part.whole, slot_tokens part.more, begun-with before next part)

pub passed-have-no-code : PassedHaveNoCode
passed-have-no-code before next rest which begin has =
    has-none before next (parted before next rest begin) which has
