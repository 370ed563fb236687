-- The lines of the play, and then those of its journal.
use Rattle.std.proofs.Common.{rules, sym, subst}
use Rattle.book.specs.Standing.{StandsFor}
use Rattle.splinter.specs.Playing.{TellsPlay}
use Rattle.splinter.proofs.Whole.{text-of, with_line}
use Rattle.splinter.proofs.text.text_of_play.Goals as goal

pub returns : goal.returns
returns c =
    text-of c.args.script c.in_ok-sim.sim c.book.result.now c.entries.result.now c.play.new.listener c.add.new.self
    (subst (λ start. TellsPlay with_line c.args.script c.in_ok-sim.sim start c.play.new.listener) c.new-text.ensures c.in_ok-sim.ensures)
    c.book.ensures.journal (subst (λ entries. StandsFor c.book.result.now entries) (sym c.entries.ensures) c.journal.ensures) (search rules)
