-- The words name the command that was read, and no other.
use Rattle.splinter.proofs.Wording.{names-only}
use Rattle.splinter.proofs.top.command_of.Goals as goal

pub returns : goal.returns
returns c = names-only c.read_words.result c.args.words.now c.read_words.ensures
