-- The book puts the record, or changes nothing.
use Rattle.std.proofs.Common.{refl}
use Rattle.sim.proofs.Eventing.{put-tells}
use Rattle.sim.proofs.Turning.{both-ok-map}
use Rattle.sim.proofs.sim.Sim.put.Goals as goal

pub returns-clause-told : goal.returns-clause-told
returns-clause-told c =
    both-ok-map c.put_line.result _ _ _ (λ line said some. put-tells c.args.self.now _ c.args.tenant c.args.table c.args.key c.args.value c.put_native.result line
    some said c.put_native.ensures.answer c.put_native.ensures.stands c.put_native.ensures.fixed refl refl refl refl refl)
    c.put_line.ensures.said c.put_line.ensures.memory
