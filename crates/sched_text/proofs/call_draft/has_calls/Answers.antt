use Rattle.std.proofs.Common.{◌≡◌, ◌∙◌, sym, arith}
use Rattle.sched_text.specs.Texts.{lines_of}
use Rattle.sched_text.proofs.Calling.{none_left}
use Rattle.sched_text.proofs.call_draft.has_calls.Goals as goal

pub returns : goal.returns
returns c =
    let none : c.loop-left.left ≡ 0 = omega arith in
    sym (none_left (lines_of c.loop-left.rest.now)) ∙ (rw none at c.loop-left.invariant)
