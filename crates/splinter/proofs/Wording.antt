-- Words name one command at most.
use Rattle.std.specs.Prelude.{String}
use Rattle.std.proofs.Common.{◌≡◌, ◌↔◌, ℕ, List, Option, Some, None, ap, refl, sym}
use Rattle.std.specs.declared.alloc.Global.{Global}
use Rattle.words.specs.declared.command.Command.{Command}
use Rattle.words.specs.declared.command.Command.TheVariants.{Check, Run, Drill}
use Rattle.words.specs.Words.{Names}
use Rattle.splinter.specs.Naming.{NamesOnly}

abbrev count_of : Option Command → ℕ
count_of (Some (Drill count seed)) = count
count_of other = 0

abbrev seed_of : Option Command → ℕ
seed_of (Some (Drill count seed)) = seed
seed_of other = 0

pub names-only : (found : Option Command) (words : List (String Global)) → ((command : Command) → (found ≡ Some command) ↔ Names command words)
    → NamesOnly found words
names-only (Some Check) words named = record {
  check = (named Check).0 refl;
  no_run = λ is. let same : Some Check ≡ Some Run = (named Run).1 is in absurd cc;
  no_drill = λ count seed is. let same : Some Check ≡ Some (Drill count seed) = (named (Drill count seed)).1 is in absurd cc;
}
names-only (Some Run) words named = record {
  run = (named Run).0 refl;
  no_check = λ is. let same : Some Run ≡ Some Check = (named Check).1 is in absurd cc;
  no_drill = λ count seed is. let same : Some Run ≡ Some (Drill count seed) = (named (Drill count seed)).1 is in absurd cc;
}
names-only (Some (Drill count seed)) words named = record {
  drill = (named (Drill count seed)).0 refl;
  one_count = λ other another is. let same : Some (Drill count seed) ≡ Some (Drill other another) = (named (Drill other another)).1 is in sym (ap count_of same);
  one_seed = λ other another is. let same : Some (Drill count seed) ≡ Some (Drill other another) = (named (Drill other another)).1 is in sym (ap seed_of same);
  no_run = λ is. let same : Some (Drill count seed) ≡ Some Run = (named Run).1 is in absurd cc;
  no_check = λ is. let same : Some (Drill count seed) ≡ Some Check = (named Check).1 is in absurd cc;
}
names-only None words named = record {
  no_run = λ is. let same : None ≡ Some Run = (named Run).1 is in absurd cc;
  no_check = λ is. let same : None ≡ Some Check = (named Check).1 is in absurd cc;
  no_drill = λ count seed is. let same : None ≡ Some (Drill count seed) = (named (Drill count seed)).1 is in absurd cc;
}
