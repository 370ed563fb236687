-- The session may be driven on.
use Rattle.drive.specs.Hearing.{MayBeDriven}
use Rattle.short_memory.proofs.dialogue.asked.Given as goal

abbrev pub invariant-loop-ask : goal.invariant-loop-ask
invariant-loop-ask l = MayBeDriven l.dialogue.bench.session l.dialogue.bench.book
