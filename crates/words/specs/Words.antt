-- How the words of a command are written.
use Rattle.std.specs.Prelude.{◌≡◌, ◌≤◌, ◌<◌, ◌^◌, ℕ, List, [], ◌∷◌, codes, map, String, string_bytes}
use Rattle.std.specs.Fmt.{decimal}
use Rattle.std.specs.declared.alloc.Global.{Global}
use Rattle.words.specs.declared.command.Command.{Command}
use Rattle.words.specs.declared.command.Command.TheVariants.{Check, Run, Drill}

-- the words are this one word
abbrev pub AreOnly : List ℕ → List (String Global) → Type 0
AreOnly word words = map string_bytes words ≡ word ∷ []

-- the words are the one word `check`, or `run`
abbrev pub AreCheck : List (String Global) → Type 0
AreCheck words = AreOnly (codes "check") words

abbrev pub AreRun : List (String Global) → Type 0
AreRun words = AreOnly (codes "run") words

-- the words are `drill` and two decimal numbers, at most 10,000 calls and a seed of 64 bits
pub record AreDrill (count seed : ℕ) (words : List (String Global)) : Type 0 where
  pub words_are : map string_bytes words ≡ codes "drill" ∷ decimal count ∷ decimal seed ∷ []
  pub few : count ≤ 10000
  pub small : seed < 2 ^ 64

-- the words name the command
abbrev pub Names : Command → List (String Global) → Type 0
Names Check words = AreCheck words
Names Run words = AreRun words
Names (Drill count seed) words = AreDrill count seed words
