-- A finished run may join each journal for which the book stands.
use Rattle.std.specs.Arc.{arc_value}
use Rattle.book.proofs.Joining.{done-joins}
use Rattle.book.proofs.book.Book.commit.Goals as goal

pub judge-requires : goal.judge-requires
judge-requires c =
    let done = c.args.done in
    rw c.here.ensures.ended (record {
      joins = λ journal stands.
          done-joins _ _ journal done.call (arc_value done.program) done.rights done.outcome done.writes done.reads
          c.requires.arguments c.here.ensures.few done.meant done.asked done.complete (c.requires.ran journal stands);
    })
