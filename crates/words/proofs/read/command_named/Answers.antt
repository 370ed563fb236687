-- A line with a word that is refused names no command.
use Rattle.std.specs.Prelude.{map, string_bytes}
use Rattle.std.proofs.Common.{◌∙◌, sym}
use Rattle.clap.proofs.WalkLemmas.{list_any-map}
use Rattle.words.specs.Grammar.{is_refused}
use Rattle.words.proofs.Refusing.{refused-names-none}
use Rattle.words.proofs.read.command_named.Goals as goal

pub returns-then-has_refused : goal.returns-then-has_refused
returns-then-has_refused c =
    sym (refused-names-none (map string_bytes c.args.words.now)
    (sym (list_any-map is_refused string_bytes c.args.words.now) ∙ sym c.has_refused.ensures ∙ c.if-has_refused.true))

pub parse-requires : goal.parse-requires
parse-requires c = sym c.has_refused.ensures ∙ c.if-has_refused.false
