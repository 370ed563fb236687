-- The command that a parse tells, by what it found.
use Rattle.std.specs.Prelude.{Box, option_map, unwrap_or}
use Rattle.std.proofs.Common.{◌≡◌, false, List, [], ◌∷◌, Option, Some, None, codes, refl, ap, ap₂, inl, inr, ◌∙◌}
use Rattle.std.specs.Box.{box_value}
use Rattle.std.specs.List.{list_any}
use Rattle.clap.specs.Faults.{fault_of}
use Rattle.clap.specs.Kinds.{HasKind, Kinds}
use Rattle.clap.specs.Matches.{subcommand_name_of}
use Rattle.clap.specs.Simple.{subcommand_of, subcommand_rows, subcommand_rows_of}
use Rattle.clap.specs.Values.{kind_of}
use Rattle.clap.specs.Walk.{Row, Text, first_of}
use Rattle.clap.specs.declared.error.Error.{Error}
use Rattle.clap.specs.declared.error.kind.ErrorKind.TheVariants.{OutOfMemory}
use Rattle.clap.specs.declared.parser.matches.ArgMatches.{ArgMatches}
use Rattle.clap.specs.declared.parser.matches.ArgMatches.TheViews.{out-ArgMatches, out-SubCommand}
use Rattle.clap.specs.declared.parser.matches.SubCommand.{SubCommand}
use Rattle.words.specs.Grammar.{command_of, command_with, is_refused}
use Rattle.words.specs.Parser.{splinter_app}
use Rattle.words.proofs.Taking.{Reads, reads, takes, refuses}

-- an error that is not want of memory has a kind
has-kind : (kinds : Kinds) (e : Error) → kinds ≡ [] → HasKind kinds e → kind_of e ≡ OutOfMemory
has-kind [] e none (inl memory) = memory
has-kind [] e none (inr among) = absurd among
has-kind (kind ∷ kinds) e none has = absurd cc

by-error : (words : List Text) (e : Error) → HasKind (fault_of splinter_app words) e → (kind_of e ≡ OutOfMemory → ⊥) → Reads words → command_of words ≡ None
by-error words e has other (takes name rows fault sub is) = absurd (other (has-kind (fault_of splinter_app words) e fault has))
by-error words e has other (refuses kind kinds fault is) = is

pub error-names-none : (words : List Text) → list_any is_refused words ≡ false → (e : Error) → HasKind (fault_of splinter_app words) e
    → (kind_of e ≡ OutOfMemory → ⊥) → command_of words ≡ None
error-names-none words none e has other = by-error words e has other (reads words none)

-- the name of a subcommand that was entered
module _ {Z : Type 0} where
  name-of-rows : (met : Option (Box SubCommand Z))
      → option_map (λ b. (out-SubCommand (box_value b)).name.now) met ≡ option_map (λ p. p.0) (subcommand_rows met)
  name-of-rows None = refl
  name-of-rows (Some sub) = refl

name-of : (m : ArgMatches) → subcommand_name_of m ≡ option_map (λ p. p.0) (subcommand_rows_of m)
name-of m = name-of-rows (out-ArgMatches m).subcommand

some-is : {A : Type 0} (x y : A) → Some x ≡ Some y → x ≡ y
some-is x y is = ap (λ o. unwrap_or o x) is

by-match : (words : List Text) (m : ArgMatches) (name : Text) (rows : List Row) → fault_of splinter_app words ≡ [] → subcommand_rows_of m ≡ subcommand_of splinter_app words
    → Some name ≡ subcommand_name_of m → Some rows ≡ option_map (λ p. p.1) (subcommand_rows_of m) → Reads words
    → command_with name (first_of (codes "count") rows) (first_of (codes "seed") rows) ≡ command_of words
by-match words m name rows passes met named found (takes its_name its_rows fault sub is) =
    let same_name : name ≡ its_name =
    some-is name its_name (named ∙ name-of m ∙ ap (λ (o : Option (Text × List Row)). option_map (λ p. p.0) o) (met ∙ sub)) in
    let same_rows : rows ≡ its_rows =
    some-is rows its_rows (found ∙ ap (λ (o : Option (Text × List Row)). option_map (λ p. p.1) o) (met ∙ sub)) in
    ap₂ (λ (n : Text) (r : List Row). command_with n (first_of (codes "count") r) (first_of (codes "seed") r)) same_name same_rows ∙ is
by-match words m name rows passes met named found (refuses kind kinds fault is) = absurd cc

pub match-names : (words : List Text) → list_any is_refused words ≡ false → (m : ArgMatches) (name : Text) (rows : List Row) → fault_of splinter_app words ≡ []
    → subcommand_rows_of m ≡ subcommand_of splinter_app words → Some name ≡ subcommand_name_of m → Some rows ≡ option_map (λ p. p.1) (subcommand_rows_of m)
    → command_with name (first_of (codes "count") rows) (first_of (codes "seed") rows) ≡ command_of words
match-names words none m name rows passes met named found = by-match words m name rows passes met named found (reads words none)
