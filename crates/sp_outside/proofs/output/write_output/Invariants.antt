use Rattle.std.proofs.Common.{◌-◌, ◌≤◌, length}
use Rattle.sp_outside.proofs.WritingSteps.{HasWritten}
use Rattle.sp_outside.proofs.output.write_output.Given as goal

abbrev pub invariant-loop-done : goal.invariant-loop-done
invariant-loop-done g l = record {
  within : l.done ≤ length l.text;
  never_falls : g.K.Sink.faults l.initial.sink ≤ g.K.Sink.faults l.sink;
  written : HasWritten (g.K.Sink.held l.initial.sink) (g.K.Sink.held l.sink) l.text l.done;
}

abbrev pub decreases-loop-done : goal.decreases-loop-done
decreases-loop-done g l = length l.text - l.done
