-- The record that was wanted is new, has room, joins what was asked, and the client runs on with it.
use Rattle.std.specs.Prelude.{IfOk}
use Rattle.std.proofs.Common.{◌≡◌, ℕ, List, Option, ap, sym, ◌∙◌, subst}
use Rattle.task.specs.Parking.{ParkedCall}
use Rattle.wire.specs.declared.answers.Answer.TheVariants.{Fetched}
use Rattle.wire.specs.declared.answers.FetchAnswer.TheVariants as fetched
use Rattle.clients.specs.Client.{RunsBehind, at_client}
use Rattle.clients.specs.Pushed.{IsCarried, Pushed, WantsAt, joined, meant}
use Rattle.clients.proofs.Carrying.{carried-more, wanted-room, wanted-unread}
use Rattle.clients.proofs.Heard.{found-runs}
use Rattle.clients.proofs.pushed_call.PushedCall.give.Goals as goal

pub add-requires-clause-new : goal.add-requires-clause-new
add-requires-clause-new c =
    let own : Pushed = at_client c.self.inside.parked c.self.inside.client in
    wanted-unread own c.args.item (subst (λ (p : Pushed). WantsAt (meant p) c.args.item.table c.args.item.key) (sym c.self.view_is) c.requires.wanted)

pub add-requires-clause-room : goal.add-requires-clause-room
add-requires-clause-room c =
    let own : Pushed = at_client c.self.inside.parked c.self.inside.client in
    wanted-room own c.args.item.table c.args.item.key c.self.invariant.0
    (subst (λ (p : Pushed). WantsAt (meant p) c.args.item.table c.args.item.key) (sym c.self.view_is) c.requires.wanted)

pub heard-requires-clause-carried : goal.heard-requires-clause-carried
heard-requires-clause-carried c =
    let client = c.self.inside.client in
    let own : Pushed = at_client c.self.inside.parked client in
    let wants = subst (λ (p : Pushed). WantsAt (meant p) c.args.item.table c.args.item.key) (sym c.self.view_is) c.requires.wanted in
    subst (λ (parked : ParkedCall). IsCarried (at_client parked client)) (sym c.in-Ok.ensures.ok)
    (carried-more own c.args.item c.self.invariant.0 wants)

pub heard-requires-clause-runs : goal.heard-requires-clause-runs
heard-requires-clause-runs c =
    let client = c.self.inside.client in
    let own : Pushed = at_client c.self.inside.parked client in
    let read = c.args.item in
    let wants = subst (λ (p : Pushed). WantsAt (meant p) read.table read.key) (sym c.self.view_is) c.requires.wanted in
    let runs = found-runs client own c.self.inside.sent read c.self.invariant.1 wants in
    subst (λ (value : Option (List ℕ)). RunsBehind client (Fetched (fetched.Found read.version read.read_at value)) (at_client c.add.new.self client))
    (sym c.in_ok-value.ensures)
    (subst (λ (parked : ParkedCall). RunsBehind client (Fetched (fetched.Found read.version read.read_at read.value)) (at_client parked client)) (sym c.in-Ok.ensures.ok) runs)

pub returns-in-Ok : goal.returns-in-Ok
returns-in-Ok c =
    let client = c.self.inside.client in
    let same = ap (λ (parked : ParkedCall). at_client parked client) c.in-Ok.ensures.ok ∙ ap (λ (p : Pushed). joined p c.args.item) c.self.view_is in
    subst (λ (next : Pushed). IfOk c.heard.result (λ (call : Pushed). call ≡ next)) same c.heard.ensures
