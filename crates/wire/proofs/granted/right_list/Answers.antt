use Rattle.std.proofs.Common.{◌≡◌, ◌-◌, ◌+◌, ◌++◌, ◌∷◌, [], ℕ, ap, arith}
use Rattle.std.proofs.lemmas.Result.{err_from_is_err_and}
use Rattle.wire.specs.Fields.{tables_from}
use Rattle.wire.proofs.Loops.{with_front, rights_go_on, rights_end, rights_done}
use Rattle.wire.proofs.granted.right_list.Goals as goal

pub returns-in_err-next : goal.returns-in_err-next
returns-in_err-next c =
    let p = err_from_is_err_and c.from_residual.result c.from_residual.ensures.1 in
    let most : 4294967295 - c.from-most.result ≡ 4294967295 - (c.args.count - 1 - c.loop-i.i) = ap (λ (n : ℕ). 4294967295 - n) c.from-most.ensures in
    rw (p.1, p.2) (rights_end c.in_err-next.field-0.0 c.loop-i.list.items c.args.count c.loop-i.i c.loop-i.least (4294967295 - c.from-most.result) c.loop-i.rest.now
    (tables_from c.args.count 0 c.args.bytes.now) c.loop-i-test.true most c.in_err-next.ensures.given c.loop-i.invariant.read)

pub loop-i-preserved : goal.loop-i-preserved
loop-i-preserved c =
    let most : 4294967295 - c.from-most.result ≡ 4294967295 - (c.args.count - 1 - c.loop-i.i) = ap (λ (n : ℕ). 4294967295 - n) c.from-most.ensures in
    let next = c.in_ok-next.next in
    let least : c.from-least.result ≡ next.0.0 = c.from-least.ensures in
    let total = tables_from c.args.count 0 c.args.bytes.now in
    let read : with_front (c.loop-i.list.items ++ next ∷ []) (tables_from (c.args.count - (c.loop-i.i + 1)) (next.0.0 + 1) c.in_ok-next.after.now) ≡ total =
    rights_go_on c.loop-i.list.items c.args.count c.loop-i.i c.loop-i.least (4294967295 - c.from-most.result) c.loop-i.rest.now next c.in_ok-next.after.now
    total c.loop-i-test.true most c.in_ok-next.ensures.given c.loop-i.invariant.read in
    record {
      room = omega (arith, most, least, c.in_ok-next.ensures.within.1);
      read = rw (c.in_ok-push.ensures.items, least) read;
    }

pub returns : goal.returns
returns c = rights_done c.loop-i.list.items c.args.count c.loop-i.i c.loop-i.least c.loop-i.rest.now (tables_from c.args.count 0 c.args.bytes.now) c.loop-i-test.false c.loop-i.invariant.read
