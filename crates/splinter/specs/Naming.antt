-- Which command the words name.
use Rattle.std.specs.Prelude.{◌≡◌, ℕ, List, Option, Some, None, String}
use Rattle.std.specs.declared.alloc.Global.{Global}
use Rattle.words.specs.declared.command.Command.{Command}
use Rattle.words.specs.declared.command.Command.TheVariants.{Check, Run, Drill}
use Rattle.words.specs.Words.{AreCheck, AreDrill, AreRun}

-- the words are those of no drill
abbrev pub AreNoDrill : List (String Global) → Type 0
AreNoDrill words = (count seed : ℕ) → AreDrill count seed words → ⊥

-- the words are those of `check` alone, of `run` alone, of this drill alone, or of no command
pub record NamesCheck (words : List (String Global)) : Type 0 where
  pub check : AreCheck words
  pub no_run : AreRun words → ⊥
  pub no_drill : AreNoDrill words

pub record NamesRun (words : List (String Global)) : Type 0 where
  pub run : AreRun words
  pub no_check : AreCheck words → ⊥
  pub no_drill : AreNoDrill words

pub record NamesDrill (count seed : ℕ) (words : List (String Global)) : Type 0 where
  pub drill : AreDrill count seed words
  pub one_count : (other another : ℕ) → AreDrill other another words → other ≡ count
  pub one_seed : (other another : ℕ) → AreDrill other another words → another ≡ seed
  pub no_run : AreRun words → ⊥
  pub no_check : AreCheck words → ⊥

pub record NamesNone (words : List (String Global)) : Type 0 where
  pub no_run : AreRun words → ⊥
  pub no_check : AreCheck words → ⊥
  pub no_drill : AreNoDrill words

abbrev pub NamesOnly : Option Command → List (String Global) → Type 0
NamesOnly (Some Check) words = NamesCheck words
NamesOnly (Some Run) words = NamesRun words
NamesOnly (Some (Drill count seed)) words = NamesDrill count seed words
NamesOnly None words = NamesNone words
