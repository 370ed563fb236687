-- the calls so far, and the generator's number of the last
use Rattle.std.proofs.Common.{◌≡◌, ◌++◌, [], ◌∷◌}
use Rattle.sched_text.specs.declared.event.Event.TheVariants.{Ext}
use Rattle.load_gen.specs.Drill.{generated, one, counter, calls_of}
use Rattle.load_gen.proofs.drill.script_of.Given as goal

abbrev pub invariant-loop-i : goal.invariant-loop-i
invariant-loop-i l = record {
  number : l.x ≡ generated l.seed l.i;
  calls : l.events ≡ ((5, Ext one counter) ∷ []) ++ calls_of l.seed l.i;
}
