-- The client of the caller's pushed call fetches a record, or sends the end.
use Rattle.std.specs.Option.{option_copied}
use Rattle.std.proofs.Common.{◌≡◌, ◌<◌, List, ℕ, Some, None, sym, ap, subst, ◌∙◌, length, arith}
use Rattle.sp_base.specs.declared.calls.Call.{Call}
use Rattle.clients.specs.First.{first_of}
use Rattle.clients.specs.Pushed.{IsWanted, Pushed, is_callers}
use Rattle.sim.specs.Counting.{left_away}
use Rattle.sim.specs.Standing.{workers_of}
use Rattle.sim.proofs.AtClients.{away-idle, fetch-falls, fetch-tells, fetches-of, finish-falls, finish-tells, finishes-of}
use Rattle.sim.proofs.Turning.{if-ok-map, on-ok-map}
use Rattle.sim.proofs.sim.Sim.away.Goals as goal

pub returns-in_default-clause-told : goal.returns-in_default-clause-told
returns-in_default-clause-told c = away-idle c.args.self.now c.args.caller (sym c.look.ensures ∙ ap option_copied c.in_default.is)

pub fetch-requires : goal.fetch-requires
fetch-requires c =
    let found : first_of (is_callers c.args.caller) c.args.self.now.pushed ≡ Some c.in-Some.call.now = sym c.look.ensures ∙ ap option_copied c.in-Some.is in
    let wanted : IsWanted c.in-Some.call.now c.in-Some-wanted.table c.in_ok-key-in-Some-wanted.key =
    subst (λ (key : List ℕ). IsWanted c.in-Some.call.now c.in-Some-wanted.table key) (sym c.in_ok-key-in-Some-wanted.ensures) c.in-Some-wanted.ensures.place in
    fetches-of c.args.self.now c.requires c.args.caller c.in-Some.call.now c.in-Some-wanted.table c.in_ok-key-in-Some-wanted.key found wanted.wants

pub finish-requires : goal.finish-requires
finish-requires c =
    let found : first_of (is_callers c.args.caller) c.args.self.now.pushed ≡ Some c.in-Some.call.now = sym c.look.ensures ∙ ap option_copied c.in-Some.is in
    finishes-of c.args.self.now c.requires c.args.caller c.in-Some.call.now found c.in-None.ensures.place

pub returns-in_ok-key-in-Some-wanted-clause-told : goal.returns-in_ok-key-in-Some-wanted-clause-told
returns-in_ok-key-in-Some-wanted-clause-told c =
    let found : first_of (is_callers c.args.caller) c.args.self.now.pushed ≡ Some c.in-Some.call.now = sym c.look.ensures ∙ ap option_copied c.in-Some.is in
    let wanted : IsWanted c.in-Some.call.now c.in-Some-wanted.table c.in_ok-key-in-Some-wanted.key =
    subst (λ (key : List ℕ). IsWanted c.in-Some.call.now c.in-Some-wanted.table key) (sym c.in_ok-key-in-Some-wanted.ensures) c.in-Some-wanted.ensures.place in
    if-ok-map c.fetch.result _ _ (λ line fetched. fetch-tells c.args.self.now c.fetch.new.self c.args.caller c.call.result.now.number c.in-Some.call.now
    c.in-Some-wanted.table c.in_ok-key-in-Some-wanted.key line found (ap (λ (k : Call). k.number) c.call.ensures) wanted.wants (fetched c.in-Some.call.now found)) c.fetch.ensures

pub returns-in_ok-key-in-Some-wanted-clause-workers : goal.returns-in_ok-key-in-Some-wanted-clause-workers
returns-in_ok-key-in-Some-wanted-clause-workers c =
    let found : first_of (is_callers c.args.caller) c.args.self.now.pushed ≡ Some c.in-Some.call.now = sym c.look.ensures ∙ ap option_copied c.in-Some.is in
    on-ok-map c.fetch.result _ _ (λ line fetched. ap workers_of ((fetched c.in-Some.call.now found).left c.requires.state.journal c.requires.at.book)) c.fetch.ensures

pub returns-in_ok-key-in-Some-wanted-clause-falls : goal.returns-in_ok-key-in-Some-wanted-clause-falls
returns-in_ok-key-in-Some-wanted-clause-falls c =
    let found : first_of (is_callers c.args.caller) c.args.self.now.pushed ≡ Some c.in-Some.call.now = sym c.look.ensures ∙ ap option_copied c.in-Some.is in
    let wanted : IsWanted c.in-Some.call.now c.in-Some-wanted.table c.in_ok-key-in-Some-wanted.key =
    subst (λ (key : List ℕ). IsWanted c.in-Some.call.now c.in-Some-wanted.table key) (sym c.in_ok-key-in-Some-wanted.ensures) c.in-Some-wanted.ensures.place in
    on-ok-map c.fetch.result _ _ (λ line fetched. λ has. fetch-falls c.args.self.now c.fetch.new.self c.requires c.args.caller c.call.result.now.number c.in-Some.call.now
    c.in-Some-wanted.table c.in_ok-key-in-Some-wanted.key line found wanted (fetched c.in-Some.call.now found)) c.fetch.ensures

pub returns-in-None-clause-told : goal.returns-in-None-clause-told
returns-in-None-clause-told c =
    let found : first_of (is_callers c.args.caller) c.args.self.now.pushed ≡ Some c.in-Some.call.now = sym c.look.ensures ∙ ap option_copied c.in-Some.is in
    if-ok-map c.finish.result _ _ (λ line finished. finish-tells c.args.self.now c.finish.new.self c.args.caller c.in-Some.call.now line found
    (finished c.in-Some.call.now found)) c.finish.ensures

pub returns-in-None-clause-workers : goal.returns-in-None-clause-workers
returns-in-None-clause-workers c =
    let found : first_of (is_callers c.args.caller) c.args.self.now.pushed ≡ Some c.in-Some.call.now = sym c.look.ensures ∙ ap option_copied c.in-Some.is in
    on-ok-map c.finish.result _ _ (λ line finished. ap length (finished c.in-Some.call.now found).is.queues) c.finish.ensures

pub returns-in-None-clause-falls : goal.returns-in-None-clause-falls
returns-in-None-clause-falls c =
    let found : first_of (is_callers c.args.caller) c.args.self.now.pushed ≡ Some c.in-Some.call.now = sym c.look.ensures ∙ ap option_copied c.in-Some.is in
    let paid = c.wanted.ensures.carried.paid in
    let some : 0 < left_away c.in-Some.call.now = omega (arith, paid) in
    on-ok-map c.finish.result _ _ (λ line finished. λ has. finish-falls c.args.self.now c.finish.new.self c.args.caller c.in-Some.call.now line found some
    (finished c.in-Some.call.now found)) c.finish.ensures
