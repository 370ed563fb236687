-- The command that words name.
use Rattle.std.specs.Prelude.{ℕ, Bool, false, ◌==◌, ◌||◌, List, [], ◌∷◌, codes, Option, Some, None, option_and_then, option_map, if◌then◌else◌}
use Rattle.std.specs.Borrow.{Bor}
use Rattle.std.specs.Str.{bytes_eq}
use Rattle.sched_text.specs.Fields.{at_most, number_of, u64_max}
use Rattle.words.specs.declared.command.Command.{Command}
use Rattle.words.specs.declared.command.Command.TheVariants.{Check, Run, Drill}

-- a drill, where the two words are numbers in their ranges
abbrev pub drill_with : List ℕ → List ℕ → Option Command
drill_with count seed =
    option_and_then (λ calls. option_map (λ number. Drill calls number) (at_most u64_max (number_of seed)))
    (at_most 10000 (number_of count))

-- the text of an argument that was given
abbrev pub text_given : Option (Bor (List ℕ)) → Option (List ℕ)
text_given = option_map (λ given. given.now)

-- the command of this name that has no arguments
abbrev pub alone : List ℕ → Option Command
alone name =
    if bytes_eq name (codes "check") then Some Check
    else if bytes_eq name (codes "run") then Some Run else None

-- the command of this name with these arguments
abbrev pub command_with : List ℕ → Option (List ℕ) → Option (List ℕ) → Option Command
command_with name None None = alone name
command_with name None (Some seed) = None
command_with name (Some count) None = None
command_with name (Some count) (Some seed) =
    if bytes_eq name (codes "drill") then drill_with count seed else None

abbrev pub command_of : List (List ℕ) → Option Command
command_of [] = None
command_of (name ∷ []) = command_with name None None
command_of (name ∷ count ∷ []) = None
command_of (name ∷ count ∷ seed ∷ []) = command_with name (Some count) (Some seed)
command_of (name ∷ count ∷ seed ∷ other ∷ more) = None

-- ---- words that no command has, and that a parser of command lines may read otherwise

abbrev pub begins_with_dash : List ℕ → Bool
begins_with_dash [] = false
begins_with_dash (first ∷ more) = first == 45

abbrev pub is_refused : List ℕ → Bool
is_refused word = begins_with_dash word || bytes_eq word (codes "help")
