-- What became of the calls so far.
use Rattle.std.specs.Prelude.{map}
use Rattle.std.specs.List.{AllByRecursion}
use Rattle.std.specs.Vec.Iter.{into_iter_items}
use Rattle.std.proofs.Common.{◌≡◌, List, ◌++◌, length}
use Rattle.sp_base.specs.Limits.{IsArguments}
use Rattle.journal.specs.declared.entry.Entry.{Entry}
use Rattle.book.specs.Standing.{StandsFor}
use Rattle.session.specs.Standing.{Fits}
use Rattle.session.specs.Starting.{AllStart, caller_of}
use Rattle.session.proofs.batch.start_all.Given as goal

abbrev pub invariant-loop-asked : goal.invariant-loop-asked
invariant-loop-asked l = record {
  whole : l.yielded ++ into_iter_items l.asked-iterator ≡ l.fn.calls;
  args : AllByRecursion (λ asked. IsArguments asked.args) (into_iter_items l.asked-iterator);
  callers : l.callers.items ≡ map caller_of l.yielded;
  many : length l.started.items.items ≡ length l.yielded;
  started : (journal : List Entry) → StandsFor l.book journal → Fits l.session journal l.book.grants
      → AllStart l.session l.book journal l.tenant l.yielded l.started.items.items l.started.begun.items;
}
