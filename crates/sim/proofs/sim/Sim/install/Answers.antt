-- The text is judged, and an accepted one is installed where the book has room.
use Rattle.std.proofs.Common.{List, ℕ, refl, subst}
use Rattle.task.specs.Extensions.{Explains, IsExtension}
use Rattle.sim.proofs.Eventing.{install-played, rejected-played}
use Rattle.sim.proofs.Turning.{both-ok-map, if-ok-map}
use Rattle.sim.proofs.sim.Sim.install.Goals as goal

pub returns-in-Ok-clause-played : goal.returns-in-Ok-clause-played
returns-in-Ok-clause-played c =
    let is : IsExtension c.args.text c.in-Ok.ext = subst (λ (t : List ℕ). IsExtension t c.in-Ok.ext) c.bytes.ensures c.in-Ok.ensures.accepted in
    both-ok-map c.install_line.result _ _ _ (λ line said some. install-played c.args.self.now _ c.args.tenant c.args.text c.in-Ok.ext c.install.result line
    is some said c.install.ensures.answer c.install.ensures.stands c.install.ensures.fixed refl refl refl refl refl)
    c.install_line.ensures.said c.install_line.ensures.memory

pub returns-clause-played : goal.returns-clause-played
returns-clause-played c =
    let refused : Explains c.args.text c.in-Err.fault = subst (λ (t : List ℕ). Explains t c.in-Err.fault) c.bytes.ensures c.in-Err.ensures.refused in
    if-ok-map c.fault_line.result _ _ (λ line told. rejected-played c.args.self.now c.args.tenant c.args.text c.in-Err.fault line told refused) c.fault_line.ensures
