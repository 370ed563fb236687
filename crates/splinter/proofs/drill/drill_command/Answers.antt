-- The summary, and what was written of it.
use Rattle.std.proofs.Common.{◌≡◌, rules, subst}
use Rattle.splinter.specs.Drilling.{IsDrillOf}
use Rattle.splinter.proofs.Drilled.{drilled-played, told-drilled}
use Rattle.splinter.proofs.drill.drill_command.Goals as goal

pub returns-in-Ok-clause-told : goal.returns-in-Ok-clause-told
returns-in-Ok-clause-told g c =
    let same : c.in-Ok.text ≡ c.bytes.result.now = search rules in
    told-drilled c.write.result c.args.count c.args.seed c.bytes.result.now (g.K.Sink.held c.args.sink.now) (g.K.Sink.held c.write.new.sink)
    (subst (λ text. IsDrillOf c.args.count c.args.seed text) same c.in-Ok.ensures) c.write.ensures.told

pub returns-in-Ok-clause-played : goal.returns-in-Ok-clause-played
returns-in-Ok-clause-played g c =
    drilled-played c.write.result c.args.count c.args.seed c.in-Ok.text c.in-Ok.ensures c.write.ensures.ends
