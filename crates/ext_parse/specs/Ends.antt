-- Where a program may end.
use Rattle.std.specs.Prelude.{◌≡◌, Bool, true, false, List, [], ◌∷◌, Result, Ok, Err}
use Rattle.ext_mean.specs.declared.token.Placed.{Placed}
use Rattle.ext_mean.specs.declared.tree.Function.{Function}
use Rattle.ext_mean.specs.declared.tree.Program.{Program}
use Rattle.ext_grammar.specs.Reading.{Answer, accepted, faulty}
use Rattle.ext_parse.specs.declared.fault.ParseFault.{ParseFault}
use Rattle.ext_parse.specs.declared.fault.ParseFault.TheVariants as fault
use Rattle.ext_parse.specs.declared.parsed.Parsed.{Parsed}
use Rattle.ext_parse.specs.Readers.{Stand}

-- no token is left, and nothing behind the last one is faulty by itself
abbrev pub ends_there : Bool → List Placed → Bool
ends_there complete [] = complete
ends_there complete (first ∷ rest) = false

unfoldable pub ends : Stand → Bool
ends there = ends_there there.ending.complete there.rest

-- a function is to come: the text goes on, or none is known
abbrev pub may_follow : Bool → List Function → Bool
may_follow false known = true
may_follow true [] = true
may_follow true (first ∷ more) = false

abbrev pub program_of : List Function → Program
program_of functions = record { functions = functions }

-- What was read is the answer: the program with the lines of its items, or the first fault. Where memory
-- ran out nothing is said of the answer.
abbrev pub IsAnswered : Result Parsed ParseFault → Answer → Type 0
IsAnswered (Ok parsed) answer = answer ≡ accepted parsed.program parsed.lines.items
IsAnswered (Err (fault.Syntax line which)) answer = answer ≡ faulty line which
IsAnswered (Err fault.Memory) answer = Unit {0}
