-- The reader accepts the tokens of each program within the bounds.
use Rattle.std.proofs.Common.{◌≡◌, ◌≤◌, ℕ, ◌&&◌, Bool, true, false, List, [], ◌∷◌, ◌++◌, Option, Some, None, nat_le, refl, sym, ◌∙◌, ap, subst, append_assoc, append-nil, arith, inl, inr, if◌then◌else◌}
use Rattle.std.proofs.lemmas.Bool.{leb-true}
use Rattle.ext_mean.specs.declared.token.Placed.{Placed}
use Rattle.ext_mean.specs.declared.tree.Program.{Program}
use Rattle.ext_mean.specs.Bounds.{IsBounded, AreBounded, operators_at, functions_behind, locals_behind, IsNaming}
use Rattle.ext_mean.specs.Text.{item_lines, line_if_begins}
use Rattle.ext_mean.specs.Tokens.{tokens_of}
use Rattle.ext_mean.specs.Wording.{Slot, slot, Standing, is_operator, slot_tokens}
use Rattle.ext_grammar.specs.Coming.{Coming, functions, Move, on_token}
use Rattle.ext_grammar.specs.Reading.{Counted, Ending, Answer, accepted, faulty, goes, stops, met, met_by, open_operators, is_full_of_functions, is_full_of_locals, answer, answered}
use Rattle.ext_grammar.specs.Reading as reading
use Rattle.ext_grammar.proofs.Walks.{Takes, Walk, Ended}
use Rattle.ext_grammar.proofs.Kept.{Kept}
use Rattle.ext_grammar.proofs.KeptByTokens.{keeps}
use Rattle.ext_grammar.proofs.Reached.{Reached, onward, counting, kept-move, slot-is, line-last, reached-zeroed, reached-counts}
use Rattle.ext_grammar.proofs.Bounding.{both-true, functions-full, locals-full}

pub move-of : (found : Option Move) (standing : Standing) (more : Coming → ℕ → Type 0) →
    Takes found standing more → (move : Move) × (found ≡ Some move) × (move.standing ≡ standing)
    × more move.coming move.operators
move-of None standing more takes = absurd takes
move-of (Some move) standing more takes = (move, refl, takes.0, takes.1)

module _ (ending : Ending) (complete : ending.complete ≡ true) (program : Program) where
  lines-on : (lines : List ℕ) (first second : Standing) (line : ℕ) (rest : List ℕ) →
      first ≡ second → (lines ++ line_if_begins first line []) ++ rest ≡ lines
      ++ line_if_begins second line rest
  lines-on lines first second line rest same =
      append_assoc lines (line_if_begins first line []) rest
      ∙ ap (λ it. lines ++ (line_if_begins it line [] ++ rest)) same
      ∙ ap (λ it. lines ++ it) (sym (line-last second line rest))

  -- where the tokens end
  ended-so : (coming : Coming) (counted : Counted) → Ended coming program →
      reading.at_end coming counted ending ≡ accepted program counted.lines
  ended-so (functions (first ∷ more)) counted ended =
      let P : Bool → Type 0 = λ it. (if it then accepted (record { functions = first ∷ more })
      counted.lines else faulty ending.line ending.code) ≡ accepted program counted.lines in
      subst P (sym complete) (ap (λ it. accepted it counted.lines) ended)
  ended-so _ counted ended = absurd ended

  -- at the next token
  module _ (placed : List Placed) (coming : Coming) (counted : Counted) (slots : List Slot)
      (reached : Reached placed coming counted slots) (next : Placed) (rest : List Placed)
      (standing : Standing) (one : IsBounded slots (slot next.token standing)) where
    abbrev before : ℕ
    before = open_operators coming counted.operators

    kept : Kept coming before next.token (on_token coming before next.token)
    kept = keeps coming counted.operators (reached-zeroed reached) next.token

    fits-functions : (test : Bool) → is_full_of_functions counted.functions next.token ≡ test →
        test ≡ false
    fits-functions true full =
        let (same, high) = functions-full counted.functions next.token full in
        let counts = reached-counts reached in
        absurd
        (one.few (inl (
          same,
          same,
          (let equal : counted.functions ≡ functions_behind 0 slots =
              counts.functions in omega arith),
        )))
    fits-functions false full = refl

    fits-locals : (move : Move) → on_token coming before next.token ≡ Some move →
        move.standing ≡ standing → (test : Bool) → is_full_of_locals counted.locals move.standing
        ≡ test → test ≡ false
    fits-locals move moved stands true full =
        let (named, high) = locals-full counted.locals move.standing full in
        let counts = reached-counts reached in
        let keeping : Kept coming before next.token (Some move) = kept-move coming before next.token
        (on_token coming before next.token) move moved kept in
        let P : Standing → Type 0 = λ it. IsNaming it in
        absurd
        (one.few
        (inr (inl (
          (keeping.2 named).1,
          subst P stands named,
          (let equal : counted.locals ≡ locals_behind 0 slots = counts.locals in omega arith),
        ))))
    fits-locals move moved stands false full = refl

    fits-operators : (move : Move) → on_token coming before next.token ≡ Some move →
        move.standing ≡ standing → (test : Bool) → is_operator next.token && nat_le 64 before
        ≡ test → test ≡ false
    fits-operators move moved stands true full =
        let (operator, high) = both-true (is_operator next.token) (nat_le 64 before) full in
        let keeping : Kept coming before next.token (Some move) = kept-move coming before next.token
        (on_token coming before next.token) move moved kept in
        let low : 64 ≤ before = leb-true 64 before high in
        let equal : operators_at standing ≡ before = ap operators_at (sym stands) ∙ keeping.0 in
        absurd (one.few (inr (inr (operator, (omega arith)))))
    fits-operators move moved stands false full = refl

    pub goes-on : (move : Move) → on_token coming before next.token ≡ Some move →
        move.standing ≡ standing → answered (met coming counted next)
        (λ then_coming then_counted. answer then_coming then_counted ending rest)
        ≡ answer move.coming (counting counted next move) ending rest
    goes-on move moved stands =
        rw (fits-operators move moved stands (is_operator next.token && nat_le 64 before) refl)
        (rw moved
        (rw (fits-functions (is_full_of_functions counted.functions next.token) refl)
        (rw (fits-locals move moved stands (is_full_of_locals counted.locals move.standing) refl)
        refl)))

  pub followed : (more : List Slot) (rest placed : List Placed) (coming : Coming)
      (counted : Counted) (slots : List Slot) → Reached placed coming counted slots →
      Walk more coming counted.operators program → slot_tokens more ≡ tokens_of rest →
      AreBounded (slots ++ more) → answer coming counted ending rest
      ≡ accepted program (counted.lines ++ item_lines more rest)
  followed [] [] placed coming counted slots reached walk same bounds =
      ended-so coming counted walk ∙ ap (λ it. accepted program it) (sym (append-nil counted.lines))
  followed [] (next ∷ rest) placed coming counted slots reached walk same bounds = absurd (cc)
  followed (there ∷ more) [] placed coming counted slots reached walk same bounds = absurd (cc)
  followed (there ∷ more) (next ∷ rest) placed coming counted slots reached walk same bounds =
      let before : ℕ = open_operators coming counted.operators in
      let token-same : there.token ≡ next.token = cc in
      let (move, found, stands, onwards) = move-of (on_token coming before there.token)
      there.standing (λ then_coming then_before. Walk more then_coming then_before program)
      walk in
      let moved : on_token coming before next.token ≡ Some move =
      ap (λ it. on_token coming before it) (sym token-same) ∙ found in
      let there-is : there ≡ slot next.token move.standing =
      slot-is there next.token move.standing token-same stands in
      let P : Slot → Type 0 = λ it. IsBounded slots it in
      let one : IsBounded slots (slot next.token move.standing) =
      subst P there-is (bounds slots there more refl) in
      let Q : List Slot → Type 0 = λ it. AreBounded it in
      let all : slots ++ there ∷ more ≡ (slots ++ slot next.token move.standing ∷ []) ++ more =
      ap (λ it. slots ++ it ∷ more) there-is
      ∙ sym (append_assoc slots (slot next.token move.standing ∷ []) more) in
      goes-on placed coming counted slots reached next rest move.standing one move moved refl
      ∙ followed more rest (placed ++ next ∷ []) move.coming (counting counted next move)
      (slots ++ slot next.token move.standing ∷ []) (onward reached next move moved one) onwards
      (cc) (subst Q all bounds)
      ∙ ap (λ it. accepted program it)
      (lines-on counted.lines move.standing there.standing next.line (item_lines more rest)
      stands)
