-- The record that was wanted is new, has room, and joins what was asked.
use Rattle.std.proofs.Common.{sym, subst}
use Rattle.task.specs.Parking.{ParkedCall}
use Rattle.clients.specs.Pushed.{IsCarried, Pushed, WantsAt, meant}
use Rattle.clients.proofs.Carrying.{carried-more, wanted-room, wanted-unread}
use Rattle.clients.proofs.plain.PlainPushedCall.give.Goals as goal

pub add-requires-clause-new : goal.add-requires-clause-new
add-requires-clause-new c =
    let own : Pushed = record { call = c.self.inside.parked.call; ext = c.self.inside.parked.ext; rights = c.self.inside.rights; reads = c.self.inside.parked.reads } in
    wanted-unread own c.args.item (subst (λ (p : Pushed). WantsAt (meant p) c.args.item.table c.args.item.key) (sym c.self.view_is) c.requires.wanted)

pub add-requires-clause-room : goal.add-requires-clause-room
add-requires-clause-room c =
    let own : Pushed = record { call = c.self.inside.parked.call; ext = c.self.inside.parked.ext; rights = c.self.inside.rights; reads = c.self.inside.parked.reads } in
    wanted-room own c.args.item.table c.args.item.key c.self.invariant.0
    (subst (λ (p : Pushed). WantsAt (meant p) c.args.item.table c.args.item.key) (sym c.self.view_is) c.requires.wanted)

pub asking-requires : goal.asking-requires
asking-requires c =
    let own : Pushed = record { call = c.self.inside.parked.call; ext = c.self.inside.parked.ext; rights = c.self.inside.rights; reads = c.self.inside.parked.reads } in
    let wants = subst (λ (p : Pushed). WantsAt (meant p) c.args.item.table c.args.item.key) (sym c.self.view_is) c.requires.wanted in
    subst (λ (parked : ParkedCall). IsCarried (record { call = parked.call; ext = parked.ext; rights = c.self.inside.rights; reads = parked.reads })) (sym c.in-Ok.ensures.ok)
    (carried-more own c.args.item c.self.invariant.0 wants)
