use Rattle.std.proofs.lemmas.Result.{err_from_is_err_and}
use Rattle.wire.specs.Readers.{repeated}
use Rattle.wire.specs.Fields.{read_at}
use Rattle.wire.proofs.Loops.{goes_on, ends, is_done}
use Rattle.wire.proofs.lists.read_list.Goals as goal

pub returns-in_err-next : goal.returns-in_err-next
returns-in_err-next c =
    let p = err_from_is_err_and c.from_residual.result c.from_residual.ensures.1 in
    rw (p.1, p.2) (ends read_at c.in_err-next.field-0.0 c.loop.list.items c.args.count c.loop.counter c.loop.rest.now (repeated read_at c.args.count c.args.bytes.now) c.loop-test.true c.in_err-next.ensures c.loop.invariant)

pub loop-preserved : goal.loop-preserved
loop-preserved c =
    rw c.in_ok-push.ensures.items (goes_on read_at c.loop.list.items c.args.count c.loop.counter c.loop.rest.now c.in_ok-next.next c.in_ok-next.after.now (repeated read_at c.args.count c.args.bytes.now) c.loop-test.true c.in_ok-next.ensures c.loop.invariant)

pub returns : goal.returns
returns c = is_done read_at c.loop.list.items c.args.count c.loop.counter c.loop.rest.now (repeated read_at c.args.count c.args.bytes.now) c.loop-test.false c.loop.invariant
