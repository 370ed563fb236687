-- What `clap` finds and refuses is what the grammar does.
use Rattle.std.specs.Prelude.{Bool, map, string_bytes}
use Rattle.std.proofs.Common.{◌≡◌, ◌∙◌, List, ℕ, true, false, [], ap, ap₂, codes, subst, sym}
use Rattle.clap.specs.Faults.{fault_of, is_simple_and_free}
use Rattle.clap.specs.Kinds.{HasKind}
use Rattle.clap.specs.Matches.{found_of}
use Rattle.clap.specs.Simple.{App, app_of, is_simple, subcommand_of}
use Rattle.clap.specs.Values.{kind_of}
use Rattle.clap.specs.Walk.{rows_of}
use Rattle.clap.specs.declared.error.kind.ErrorKind.TheVariants.{OutOfMemory}
use Rattle.clap.proofs.WalkLemmas.{first_value-rows, list_any-map}
use Rattle.words.specs.Grammar.{command_with, is_refused}
use Rattle.words.specs.Parser.{splinter_app}
use Rattle.words.proofs.Parsed.{error-names-none, match-names}
use Rattle.words.proofs.parser.parse.Goals as goal

pub returns-in-Err-2 : goal.returns-in-Err-2
returns-in-Err-2 c =
    let words : List (List ℕ) = map string_bytes c.args.words.now in
    let none = sym (list_any-map is_refused string_bytes c.args.words.now) ∙ c.requires in
    let app : app_of c.in_ok-parser.parser ≡ splinter_app = c.in_ok-parser.ensures in
    let fails : HasKind (fault_of splinter_app words) c.in-Err.error =
    subst (λ (a : App). HasKind (fault_of a words) c.in-Err.error) app (c.in-Err.ensures.kinds (ap is_simple_and_free app)) in
    let other : kind_of c.in-Err.error ≡ OutOfMemory → ⊥ = λ memory. not-both c.is_memory.result (c.is_memory.ensures.1 memory) c.if-is_memory.false in
    sym (error-names-none words none c.in-Err.error fails other)
  where
    not-both : (test : Bool) → test ≡ true → test ≡ false → ⊥
    not-both true is other = absurd cc
    not-both false is other = absurd cc

pub returns-in-Some : goal.returns-in-Some
returns-in-Some c =
    let words : List (List ℕ) = map string_bytes c.args.words.now in
    let none = sym (list_any-map is_refused string_bytes c.args.words.now) ∙ c.requires in
    let app : app_of c.in_ok-parser.parser ≡ splinter_app = c.in_ok-parser.ensures in
    let passes : fault_of splinter_app words ≡ [] =
    ap (λ (a : App). fault_of a words) (sym app) ∙ c.in-Ok.ensures.kinds (ap is_simple_and_free app) in
    let met = (c.in-Ok.ensures.matches (ap is_simple app)).1 ∙ ap (λ (a : App). subcommand_of a words) app in
    let rows = rows_of (found_of c.in-Some.given.now) in
    let count = c.get_str.ensures ∙ first_value-rows (found_of c.in-Some.given.now) (codes "count") in
    let seed = c.get_str-in-Some.ensures ∙ first_value-rows (found_of c.in-Some.given.now) (codes "seed") in
    c.command_with.ensures ∙ ap₂ (command_with c.in-Some.name.now) count seed
    ∙ match-names words none c.in-Ok.matches c.in-Some.name.now rows passes met c.in-Some.ensures.name c.in-Some.ensures.rows
