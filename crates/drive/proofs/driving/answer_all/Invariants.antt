-- The bodies so far were answered, and what was said stands behind what was said before.
use Rattle.std.specs.Vec.Iter.{into_iter_items}
use Rattle.std.proofs.Common.{◌≡◌, List, ◌++◌, false}
use Rattle.journal.specs.declared.entry.Entry.{Entry}
use Rattle.book.specs.Standing.{KeepsFixed, StandsFor}
use Rattle.drive.specs.Hearing.{Hears, MayBeDriven}
use Rattle.drive.proofs.driving.answer_all.Given as goal

abbrev pub invariant-loop-body : goal.invariant-loop-body
invariant-loop-body l = record {
  whole : l.yielded ++ into_iter_items l.body-iterator ≡ l.fn.bodies.items;
  ready : MayBeDriven l.session l.book;
  fixed : KeepsFixed l.fn.book l.book;
  conf : l.session.conf ≡ l.fn.session.conf;
  heard : (journal : List Entry) → StandsFor l.fn.book journal
      → Hears l.fn.session l.session l.fn.book l.book journal l.yielded l.fn.said.items l.said.items false;
}
