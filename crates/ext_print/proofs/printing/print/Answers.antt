-- The canonical text spells its program, and is no longer than any text of it.
use Rattle.ext_print.proofs.Canonical.{spelled, short}
use Rattle.ext_print.proofs.printing.print.Goals as goal

pub returns-clause-spelled : goal.returns-clause-spelled
returns-clause-spelled c = spelled c.args.program.now c.canonical_text.result c.canonical_text.ensures

pub returns-clause-short : goal.returns-clause-short
returns-clause-short c = short c.args.program.now c.canonical_text.result c.canonical_text.ensures
