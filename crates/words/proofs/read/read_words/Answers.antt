-- The grammar finds the command whose words they are.
use Rattle.std.proofs.Common.{◌∙◌, sym}
use Rattle.words.proofs.Naming.{names-its-words}
use Rattle.words.proofs.read.read_words.Goals as goal

pub returns : goal.returns
returns c = λ command.
    let both = names-its-words c.args.words.now command in
    let is = c.command_named.ensures in
    (λ found. both.0 (sym is ∙ found), λ names. is ∙ both.1 names)
