-- the lines so far were there
use Rattle.sched_text.proofs.TextLines.{Passed}
use Rattle.sched_text.proofs.texts.end_of_lines.Given as goal

abbrev pub invariant-loop : goal.invariant-loop
invariant-loop l = Passed l.count l.counter l.text l.rest
