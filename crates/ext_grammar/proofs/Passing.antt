-- What slots lead to, one list of them behind the other.
use Rattle.std.proofs.Common.{◌≡◌, ℕ, List, ◌++◌, sym, subst, append_assoc}
use Rattle.ext_mean.specs.declared.token.Token.{Token}
use Rattle.ext_mean.specs.declared.tree.Program.{Program}
use Rattle.ext_mean.specs.Wording.{Slot, going_on}
use Rattle.ext_grammar.specs.Coming.{Coming}
use Rattle.ext_grammar.proofs.Walks.{Walk, goes, goes-is}

module _ (program : Program) where
  -- these slots lead from here to there, whatever follows them
  abbrev pub Passes : List Slot → Coming → ℕ → Coming → ℕ → Type 0
  Passes slots from before to after =
      (rest : List Slot) → Walk rest to after program → Walk (slots ++ rest) from before program

  along : (from : Coming) (before : ℕ) (slots others : List Slot) → slots ≡ others →
      Walk others from before program → Walk slots from before program
  along from before slots others same walk =
      let P : List Slot → Type 0 = λ it. Walk it from before program in subst P (sym same) walk

  pub passes-both : (first second : List Slot) (from middle to : Coming)
      (before between after : ℕ) →
      Passes first from before middle between → Passes second middle between to after →
      Passes (first ++ second) from before to after
  passes-both first second from middle to before between after one two rest walk =
      along from before ((first ++ second) ++ rest) (first ++ (second ++ rest))
      (append_assoc first second rest) (one (second ++ rest) (two rest walk))

  -- tokens of an item behind its first
  pub passes-on : (tokens : List Token) (from to : Coming) (after : ℕ) →
      ((rest : List Slot) → Walk rest to after program → Walk (goes 0 tokens rest) from 0 program) →
      Passes (going_on 0 tokens) from 0 to after
  passes-on tokens from to after leads rest walk =
      along from 0 (going_on 0 tokens ++ rest) (goes 0 tokens rest) (goes-is tokens 0 rest)
      (leads rest walk)
