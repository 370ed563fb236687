-- A call is refused by the first rule that applies, or begins.
use Rattle.std.proofs.Common.{sym, subst, ap, ◌∙◌}
use Rattle.std.specs.Arc.{arc_value}
use Rattle.sp_base.specs.declared.calls.Call.{Call}
use Rattle.ext_check.specs.Checking.{IsAccepted}
use Rattle.records.specs.GrantsList.{RightsList}
use Rattle.task.specs.Extensions.{ExtValue}
use Rattle.task.specs.Turning.{begun}
use Rattle.wire.specs.declared.items.Item.TheVariants as item
use Rattle.session.specs.declared.batch.Start.TheVariants as start
use Rattle.session.specs.Batches.{call_of}
use Rattle.session.specs.Starting.{Starts}
use Rattle.session.proofs.Starting.{among-is, starts-absent, starts-bad, starts-begun, starts-busy, starts-memory, starts-repeated, unparked-so}
use Rattle.session.proofs.batch.begin_one.Goals as goal

pub returns-then-contains : goal.returns-then-contains
returns-then-contains c = λ journal stands fits before callers.
    starts-repeated c.args.session.now c.args.book.now journal c.args.tenant before c.args.asked
    (among-is c.args.earlier.now before c.args.asked.caller c.contains.result _ callers c.contains.ensures.value c.if-contains.true)

pub returns-in-Some : goal.returns-in-Some
returns-in-Some c = λ journal stands fits before callers.
    subst (λ (call : Call). Starts c.args.session.now c.args.book.now journal c.args.tenant before c.args.asked (start.Refused (item.Busy call.number))) (sym c.call.ensures)
    (starts-busy c.args.session.now c.args.book.now journal c.args.tenant before c.args.asked c.in-Some.parked.now
    (among-is c.args.earlier.now before c.args.asked.caller c.contains.result _ callers c.contains.ensures.value c.if-contains.false)
    (sym c.in-Some.ensures))

pub returns-then-is_bad_budget : goal.returns-then-is_bad_budget
returns-then-is_bad_budget c = λ journal stands fits before callers.
    starts-bad c.args.session.now c.args.book.now journal c.args.tenant before c.args.asked
    (unparked-so c.args.session.now.parked before c.args.asked
    (among-is c.args.earlier.now before c.args.asked.caller c.contains.result _ callers c.contains.ensures.value c.if-contains.false) (sym c.in_default.ensures))
    (sym c.is_bad_budget.ensures ∙ c.if-is_bad_budget.true)

pub returns-in-Ok-None : goal.returns-in-Ok-None
returns-in-Ok-None c = λ journal stands fits before callers.
    let none = rw c.in-Ok-None.field-0-is at (c.in-Ok-None.ensures journal stands) in
    starts-absent c.args.session.now c.args.book.now journal c.args.tenant before c.args.asked c.ext_count.result c.len.result fits
    (unparked-so c.args.session.now.parked before c.args.asked
    (among-is c.args.earlier.now before c.args.asked.caller c.contains.result _ callers c.contains.ensures.value c.if-contains.false) (sym c.in_default.ensures))
    (sym c.is_bad_budget.ensures ∙ c.if-is_bad_budget.false) (c.ext_count.ensures journal stands) (c.len.ensures journal stands) (sym none)

pub returns-in-Err : goal.returns-in-Err
returns-in-Err c = λ journal stands fits before callers.
    starts-memory c.args.session.now c.args.book.now journal c.args.tenant before c.args.asked
    (unparked-so c.args.session.now.parked before c.args.asked
    (among-is c.args.earlier.now before c.args.asked.caller c.contains.result _ callers c.contains.ensures.value c.if-contains.false) (sym c.in_default.ensures))

pub returns-in_default-rights : goal.returns-in_default-rights
returns-in_default-rights c = λ journal stands fits before callers.
    starts-memory c.args.session.now c.args.book.now journal c.args.tenant before c.args.asked
    (unparked-so c.args.session.now.parked before c.args.asked
    (among-is c.args.earlier.now before c.args.asked.caller c.contains.result _ callers c.contains.ensures.value c.if-contains.false) (sym c.in_default.ensures))

pub returns-in-Ok-begin : goal.returns-in-Ok-begin
returns-in-Ok-begin c = λ journal stands fits before callers.
    let ext : ExtValue = arc_value c.in-Ok-Some.ext in
    let found = rw c.in-Ok-Some.field-0-is at (c.in-Ok-Some.ensures journal stands) in
    starts-begun c.args.session.now c.args.book.now journal c.args.tenant before c.args.asked ext c.in-Ok-begin.task
    (unparked-so c.args.session.now.parked before c.args.asked
    (among-is c.args.earlier.now before c.args.asked.caller c.contains.result _ callers c.contains.ensures.value c.if-contains.false) (sym c.in_default.ensures))
    (sym c.is_bad_budget.ensures ∙ c.if-is_bad_budget.false) found
    (subst (λ (e : ExtValue). IsAccepted e.text e.program) c.deref.ensures c.program-accepted.ensures.accepted)
    (c.in-Ok-begin.ensures.ok
    ∙ ap (λ (call : Call). begun call ext c.in-Ok.rights) c.call_of.ensures
    ∙ ap (λ (rights : RightsList). begun (call_of c.args.tenant c.args.asked) ext rights) (c.in-Ok.ensures journal stands))

pub returns : goal.returns
returns c = λ journal stands fits before callers.
    starts-memory c.args.session.now c.args.book.now journal c.args.tenant before c.args.asked
    (unparked-so c.args.session.now.parked before c.args.asked
    (among-is c.args.earlier.now before c.args.asked.caller c.contains.result _ callers c.contains.ensures.value c.if-contains.false) (sym c.in_default.ensures))
