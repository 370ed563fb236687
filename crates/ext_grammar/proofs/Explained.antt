-- What the reader answers of tokens is so: they are those of a program, or have that first fault.
use Rattle.std.proofs.Common.{◌≡◌, ℕ, ◌&&◌, ◌||◌, Bool, true, false, List, [], ◌∷◌, ◌++◌, Option, Some, None, nat_le, refl, sym, ◌∙◌, ap, subst, append_assoc, append-nil, inl, inr, if◌then◌else◌}
use Rattle.std.proofs.lemmas.Bool.{leb-true}
use Rattle.ext_mean.specs.declared.codes.SyntaxCode.TheVariants as code
use Rattle.ext_mean.specs.declared.token.Placed.{Placed}
use Rattle.ext_mean.specs.declared.tree.Function.{Function}
use Rattle.ext_mean.specs.declared.tree.Program.{Program}
use Rattle.ext_mean.specs.Bounds.{IsTooLong, IsTooDeep, IsBounded, AreBounded}
use Rattle.ext_mean.specs.Derived.{program_tree}
use Rattle.ext_mean.specs.Grammar.{end_functions}
use Rattle.ext_mean.specs.SyntaxFaults.{many, expected, GoesOnTooMany}
use Rattle.ext_mean.specs.Text.{item_lines}
use Rattle.ext_mean.specs.Tokens.{tokens_of}
use Rattle.ext_mean.specs.Wording.{Slot, slot, is_operator, program_slots, program_tokens}
use Rattle.ext_grammar.specs.Agreement.{AreSoundAlone, Make, First, at_token, at_end}
use Rattle.ext_grammar.specs.Coming.{Coming, functions, Move, on_token}
use Rattle.ext_grammar.specs.Reading.{Counted, Ending, Answer, accepted, faulty, Met, goes, stops, met, met_by, open_operators, is_full_of_functions, is_full_of_locals, answer, answered}
use Rattle.ext_grammar.specs.Reading as reading
use Rattle.ext_grammar.proofs.Walks.{Ended}
use Rattle.ext_grammar.proofs.BareTokens.{whole-are}
use Rattle.ext_grammar.proofs.Reached.{Reached, start, onward, counting, none_counted, reached-back, reached-bounded, reached-counts}
use Rattle.ext_grammar.proofs.Completed.{begun, fitting}
use Rattle.ext_grammar.proofs.Bounding.{both-true, either-true, neither-true}
use Rattle.ext_grammar.proofs.Faults.{many-operators, many-functions, many-locals, not-many, not-begun, bounded}

module _ (all : List Placed) (ending : Ending) where
  abbrev pub Explains : Answer → Type 0
  Explains (accepted program lines) = (ending.complete ≡ true) × Make all program lines
  Explains (faulty line which) = First all ending line which

  -- at the end of the tokens
  unended : (coming : Coming) (counted : Counted) (slots : List Slot) →
      Reached all coming counted slots → ((program : Program) → Ended coming program → ⊥) →
      First all ending ending.line ending.code
  unended coming counted slots reached none =
      at_end (begun reached) (λ complete whole same.
      none (program_tree whole) (fitting reached whole (program_slots whole) []
      (sym (append-nil (program_slots whole))) same).1)

  made : (first : Function) (more : List Function) (counted : Counted) (slots : List Slot) →
      Reached all (functions (first ∷ more)) counted slots →
      Make all (record { functions = first ∷ more }) counted.lines
  made first more counted slots reached =
      let (whole, same) = reached-back reached [] (end_functions, refl) in
      let sentence : program_tokens whole ≡ tokens_of all = whole-are whole ∙ sym same
      ∙ append-nil (tokens_of all) in
      let (front, ended) = fitting reached whole (program_slots whole) []
      (sym (append-nil (program_slots whole))) sentence in
      let P : List Slot → Type 0 = λ it. AreBounded it in
      record {
        whole = whole;
        sentence = sentence;
        bounds = subst P (sym front) (reached-bounded reached);
        tree = ended;
        places = (reached-counts reached).lines ∙ ap (λ it. item_lines it all) (sym front);
      }

  ended-so : (complete : Bool) (first : Function) (more : List Function) (counted : Counted)
      (slots : List Slot) → ending.complete ≡ complete →
      Reached all (functions (first ∷ more)) counted slots →
      Explains (if complete then accepted (record { functions = first ∷ more }) counted.lines else
      faulty ending.line ending.code)
  ended-so true first more counted slots same reached =
      (same, made first more counted slots reached)
  ended-so false first more counted slots same reached =
      at_end (begun reached) (λ complete whole others. absurd (cc))

  end-explained : (coming : Coming) (counted : Counted) (slots : List Slot) →
      Reached all coming counted slots → Explains (reading.at_end coming counted ending)
  end-explained (functions (first ∷ more)) counted slots reached =
      ended-so ending.complete first more counted slots refl reached
  end-explained coming counted slots reached =
      unended coming counted slots reached (λ program ended. ended)

  -- at the next token
  module _ (placed : List Placed) (coming : Coming) (counted : Counted) (slots : List Slot)
      (reached : Reached placed coming counted slots) (next : Placed) (rest : List Placed)
      (split : all ≡ placed ++ next ∷ rest) (short : IsTooLong next.token → ⊥)
      (shallow : IsTooDeep (tokens_of placed) next.token → ⊥) where
    abbrev before : ℕ
    before = open_operators coming counted.operators

    abbrev onwards : Coming → Counted → Answer
    onwards then_coming then_counted = answer then_coming then_counted ending rest

    too-many : GoesOnTooMany (tokens_of placed) next.token → First all ending next.line code.Many
    too-many too = at_token placed next rest split (begun reached) (many short shallow too)

    moved-so : (full : Bool) (move : Move) → on_token coming before next.token ≡ Some move →
        is_operator next.token && nat_le 64 before ≡ false →
        is_full_of_functions counted.functions next.token || is_full_of_locals counted.locals
        move.standing ≡ full → (IsBounded slots (slot next.token move.standing) →
        Explains (answer move.coming (counting counted next move) ending rest)) →
        Explains (answered (if full then stops next.line code.Many else goes move.coming
        (counting counted next move)) onwards)
    moved-so true move moved few full again =
        elim (either-true (is_full_of_functions counted.functions next.token)
        (is_full_of_locals counted.locals move.standing) full) [
          | inl one ↦ too-many (many-functions placed coming counted slots reached next.token move
              moved one)
          | inr one ↦ too-many (many-locals placed coming counted slots reached next.token move
              moved one)
        ]
    moved-so false move moved few full again =
        let (one, two) = neither-true (is_full_of_functions counted.functions next.token)
        (is_full_of_locals counted.locals move.standing) full in
        again (bounded placed coming counted slots reached next.token move moved short shallow few
        one two)

    found-so : (found : Option Move) → on_token coming before next.token ≡ found →
        is_operator next.token && nat_le 64 before ≡ false →
        ((move : Move) → on_token coming before next.token ≡ Some move →
        IsBounded slots (slot next.token move.standing) →
        Explains (answer move.coming (counting counted next move) ending rest)) →
        Explains (answered (met_by counted next found) onwards)
    found-so None none few again =
        at_token placed next rest split (begun reached) (expected short shallow
        (not-many placed coming counted slots reached next.token none few)
        (not-begun placed coming counted slots reached next.token none))
    found-so (Some move) moved few again =
        moved-so (is_full_of_functions counted.functions next.token || is_full_of_locals
        counted.locals move.standing) move moved few refl (again move moved)

    token-so : (full : Bool) → is_operator next.token && nat_le 64 before ≡ full →
        ((move : Move) → on_token coming before next.token ≡ Some move →
        IsBounded slots (slot next.token move.standing) →
        Explains (answer move.coming (counting counted next move) ending rest)) →
        Explains (answered (if full then stops next.line code.Many else met_by counted next
        (on_token coming before next.token)) onwards)
    token-so true full again =
        let (one, two) = both-true (is_operator next.token) (nat_le 64 before) full in
        too-many (many-operators placed coming counted slots reached next.token one
        (leb-true 64 before two))
    token-so false few again = found-so (on_token coming before next.token) refl few again

    pub next-explained : ((move : Move) → on_token coming before next.token ≡ Some move →
        IsBounded slots (slot next.token move.standing) →
        Explains (answer move.coming (counting counted next move) ending rest)) →
        Explains (answered (met coming counted next) onwards)
    next-explained again = token-so (is_operator next.token && nat_le 64 before) refl again

  module _ (sound : AreSoundAlone all) where
    explained : (rest placed : List Placed) (coming : Coming) (counted : Counted)
        (slots : List Slot) → Reached placed coming counted slots → all ≡ placed ++ rest →
        Explains (answer coming counted ending rest)
    explained [] placed coming counted slots reached split =
        let P : List Placed → Type 0 = λ it. Reached it coming counted slots in
        end-explained coming counted slots (subst P (sym (split ∙ append-nil placed)) reached)
    explained (next ∷ rest) placed coming counted slots reached split =
        next-explained placed coming counted slots reached next rest split
        (sound placed next rest split).0 (sound placed next rest split).1
        (λ move moved within. explained rest (placed ++ next ∷ []) move.coming
        (counting counted next move) (slots ++ slot next.token move.standing ∷ [])
        (onward reached next move moved within)
        (split ∙ sym (append_assoc placed (next ∷ []) rest)))

    pub whole-explained : Explains (answer (functions []) none_counted ending all)
    whole-explained = explained all [] (functions []) none_counted [] start refl
