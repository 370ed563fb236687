-- A record is told by the first rule that applies.
use Rattle.std.proofs.Common.{◌/◌, length, refl, sym, ap, ◌∙◌}
use Rattle.std.proofs.lemmas.Bool.{leb-false, leb-true}
use Rattle.sp_base.specs.declared.calls.Call.{Call}
use Rattle.sp_base.specs.RightsList.{can_read}
use Rattle.journal.specs.Granted.{granted}
use Rattle.book.specs.Verdict.{item_at}
use Rattle.session.specs.Fetching as fetching
use Rattle.session.specs.Keeping.{has_number}
use Rattle.session.proofs.Fetching.{found-told, join-told, may-join, other-number, parked-paid, read-denied, read-found, unpaid}
use Rattle.session.proofs.Keeping.{apart}
use Rattle.session.proofs.session.Session.fetched.Goals as goal

pub returns-in_default-clause-told : goal.returns-in_default-clause-told
returns-in_default-clause-told c = λ journal stands.
    fetching.not_parked (ap (has_number c.args.number.0) (sym c.in_default.ensures)) refl

pub returns-then-call-number-clause-told : goal.returns-then-call-number-clause-told
returns-then-call-number-clause-told c = λ journal stands.
    fetching.not_parked
    (other-number c.args.self.now.parked c.args.caller c.args.number.0 c.in-Some.parked.now (sym c.in-Some.ensures)
    (apart c.in-Some.parked.now.call.number.0 c.args.number.0
    (λ same. c.if-call-number.true (ap (λ (call : Call). call.number.0) c.call.ensures ∙ same))))
    refl

pub returns-in-Some-read_before-clause-told : goal.returns-in-Some-read_before-clause-told
returns-in-Some-read_before-clause-told c = λ journal stands.
    found-told c.args.book.now.grants c.args.tenant journal c.args.self.now.parked c.args.caller c.args.number.0 c.args.table c.args.key.now
    c.in-Some.parked.now c.in-Some-read_before.read.now c.found.result
    (record {
      found = sym c.in-Some.ensures;
      number_is = ap (λ (call : Call). call.number.0) (sym c.call.ensures) ∙ c.if-call-number.false;
    })
    (sym c.in-Some-read_before.ensures.found) c.found.ensures.told

pub returns-in-Denied-clause-told : goal.returns-in-Denied-clause-told
returns-in-Denied-clause-told c = λ journal stands.
    fetching.denied c.in-Some.parked.now
    (record {
      parked_as = record {
        found = sym c.in-Some.ensures;
        number_is = ap (λ (call : Call). call.number.0) (sym c.call.ensures) ∙ c.if-call-number.false;
      };
      fresh = sym c.in_default-read_before.ensures.found;
    })
    (read-denied (can_read (granted c.args.book.now.grants journal c.args.tenant) c.args.table.0) (item_at journal c.args.table c.args.key.now)
    (c.in-Denied.ensures.answer journal stands))
    refl

pub returns-in-Memory-clause-told : goal.returns-in-Memory-clause-told
returns-in-Memory-clause-told c = λ journal stands. fetching.no_memory refl

pub returns-then-full-clause-told : goal.returns-then-full-clause-told
returns-then-full-clause-told c = λ journal stands.
    let found = sym c.in-Some.ensures in
    let paid = parked-paid c.args.self.now.admitted journal c.args.tenant c.args.self.now.parked c.args.caller c.in-Some.parked.now
    c.requires.admitted (c.requires.fits journal stands).parked found in
    let read = read-found (can_read (granted c.args.book.now.grants journal c.args.tenant) c.args.table.0) c.in-Found.item
    (item_at journal c.args.table c.args.key.now) (c.in-Found.ensures.answer journal stands) in
    fetching.many c.in-Some.parked.now
    (record {
      parked_as = record { found = found; number_is = ap (λ (call : Call). call.number.0) (sym c.call.ensures) ∙ c.if-call-number.false };
      fresh = sym c.in_default-read_before.ensures.found;
    })
    read.0
    (unpaid (length c.in-Some.parked.now.reads) c.in-Some.parked.now.call.budget paid.1
    (leb-true (c.in-Some.parked.now.call.budget / 16) (length c.in-Some.parked.now.reads) (sym c.has_all_reads-full.ensures ∙ c.if-full.true)))
    refl

pub returns-else-full-clause-told : goal.returns-else-full-clause-told
returns-else-full-clause-told c = λ journal stands.
    let read = read-found (can_read (granted c.args.book.now.grants journal c.args.tenant) c.args.table.0) c.in-Found.item
    (item_at journal c.args.table c.args.key.now) (c.in-Found.ensures.answer journal stands) in
    join-told c.args.book.now.grants c.args.tenant journal c.args.self.now.parked c.join.new.calls c.args.caller c.args.number.0 c.args.table c.args.key.now
    c.in-Some.parked.now c.in-Found.item c.join.result
    (record {
      parked_as = record {
        found = sym c.in-Some.ensures;
        number_is = ap (λ (call : Call). call.number.0) (sym c.call.ensures) ∙ c.if-call-number.false;
      };
      fresh = sym c.in_default-read_before.ensures.found;
    })
    read.0
    (leb-false (c.in-Some.parked.now.call.budget / 16) (length c.in-Some.parked.now.reads) (sym c.has_all_reads-full.ensures ∙ c.if-full.false))
    read.1 c.join.ensures.told

pub join-requires-clause-joins : goal.join-requires-clause-joins
join-requires-clause-joins c =
    let journal = c.journal-stands.result.now.entries in
    let stands = c.journal-stands.ensures in
    let found = sym c.in-Some.ensures in
    let paid = parked-paid c.args.self.now.admitted journal c.args.tenant c.args.self.now.parked c.args.caller c.in-Some.parked.now
    c.requires.admitted (c.requires.fits journal stands).parked found in
    let read = read-found (can_read (granted c.args.book.now.grants journal c.args.tenant) c.args.table.0) c.in-Found.item
    (item_at journal c.args.table c.args.key.now) (c.in-Found.ensures.answer journal stands) in (
      c.in-Some.parked.now,
      found,
      may-join c.in-Some.parked.now c.in-Found.item journal c.args.table c.args.key.now (sym c.in_default-read_before.ensures.found) read.1
          (leb-false (c.in-Some.parked.now.call.budget / 16) (length c.in-Some.parked.now.reads) (sym c.has_all_reads-full.ensures ∙ c.if-full.false)) paid.0,
    )
