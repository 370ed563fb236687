-- A text spells at most one program.
use Rattle.std.proofs.Common.{◌≡◌, ◌≤◌, ℕ, ◌⊎◌, inl, inr, List, [], ◌++◌, length, refl, sym, subst, ap, ◌∙◌, arith}
use Rattle.std.specs.Prelude.{Bool, true, false, nat_le}
use Rattle.std.proofs.lemmas.Bool.{leb-true}
use Rattle.std.proofs.lemmas.Bool.Decides.{nat_tests}
use Rattle.ext_mean.specs.declared.codes.SyntaxCode.TheVariants as code
use Rattle.ext_mean.specs.declared.token.Placed.{Placed}
use Rattle.ext_mean.specs.declared.tree.Program.{Program}
use Rattle.ext_mean.specs.SyntaxFaults.{line_behind}
use Rattle.ext_mean.specs.Text.{SpellsAt}
use Rattle.ext_mean.specs.Tokens.{Tokens, IsGap}
use Rattle.ext_tokens.proofs.Readings.{tokens-one, none-behind-gap}
use Rattle.ext_grammar.specs.Agreement.{Make}
use Rattle.ext_grammar.specs.Reading.{Answer, Ending, accepted, faulty, whole_answer}
use Rattle.ext_grammar.proofs.AgreementProved.{programs-are-accepted}
use Rattle.ext_parse.specs.Laws.{TextsSpellOneProgram}
use Rattle.ext_parse.proofs.OnlyProved.{append-none}

-- of two readings of a whole text, one that is no longer is the other
no-longer : (text last behind : List ℕ) (some others : List Placed) → Tokens text 1 some last → IsGap last → Tokens text 1 others behind → length some ≤ length others → others ≡ some
no-longer text last behind some others tokens gap other fewer =
    let more = tokens-one text last behind 1 some others tokens other fewer in
    let none : more.0 ≡ [] = none-behind-gap last behind (line_behind 1 some) more.0 gap more.2 in
    more.1 ∙ ap (λ z. some ++ z) none ∙ append-none some

either-way : (text last behind : List ℕ) (some others : List Placed) → Tokens text 1 some last → IsGap last → Tokens text 1 others behind → IsGap behind → (length some ≤ length others) ⊎ (length others ≤ length some) → some ≡ others
either-way text last behind some others tokens gap other gap' (inl fewer) = sym (no-longer text last behind some others tokens gap other fewer)
either-way text last behind some others tokens gap other gap' (inr fewer) = no-longer text behind last others some other gap' tokens fewer

total-by : (m n : ℕ) (b : Bool) → nat_le m n ≡ b → (m ≤ n) ⊎ (n ≤ m)
total-by m n true e = inl (leb-true m n e)
total-by m n false e = inr (grind (arith, nat_tests, e))

total : (m n : ℕ) → (m ≤ n) ⊎ (n ≤ m)
total m n = total-by m n (nat_le m n) refl

-- behind the last token the text ends
abbrev ended : Ending
ended = record { complete = true; line = 0; code = code.Expected }

abbrev program_or : Answer → Program
program_or (accepted program lines) = program
program_or (faulty line which) = record { functions = [] }

abbrev lines_or : Answer → List ℕ
lines_or (accepted program lines) = lines
lines_or (faulty line which) = []

made : (text : List ℕ) (tree : Program) (lines : List ℕ) (spelled : SpellsAt text tree lines) → Make spelled.reading.placed tree lines
made text tree lines spelled = record {
  whole = spelled.reading.whole;
  sentence = spelled.reading.sentence;
  bounds = spelled.reading.bounds;
  tree = spelled.tree;
  places = spelled.places;
}

pub one-program : TextsSpellOneProgram
one-program text one other lines others first second =
    let r = first.reading in
    let s = second.reading in
    let same : r.placed ≡ s.placed = either-way text r.last s.last r.placed s.placed r.tokens r.gap s.tokens s.gap (total (length r.placed) (length s.placed)) in
    let left : whole_answer ended s.placed ≡ accepted one lines = programs-are-accepted s.placed ended one lines refl (subst (λ z. Make z one lines) same (made text one lines first)) in
    let right : whole_answer ended s.placed ≡ accepted other others = programs-are-accepted s.placed ended other others refl (made text other others second) in
    let both : accepted one lines ≡ accepted other others = sym left ∙ right in
    (ap program_or both, ap lines_or both)
