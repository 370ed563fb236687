-- The call that was pushed first goes on, or none is left.
use Rattle.std.proofs.Common.{◌≡◌, ◌<◌, List, [], Option, sym, ap, subst, ◌∙◌}
use Rattle.std.specs.Prelude.{MatchOption}
use Rattle.sp_base.specs.declared.numbers.Caller.{Caller}
use Rattle.clients.specs.Placing.{BeginsWith}
use Rattle.clients.specs.Pushed.{Pushed}
use Rattle.report.specs.declared.line.Line.{Line}
use Rattle.sim.specs.declared.sim.Sim.{Sim}
use Rattle.sim.specs.Play.{away_event}
use Rattle.sim.specs.Standing.{Tells}
use Rattle.sim.proofs.Drain.{away-played}
use Rattle.sim.proofs.sim.Sim.next_away.Goals as goal

pub returns-clause-played : goal.returns-clause-played
returns-clause-played c =
    let begins : BeginsWith c.args.self.now.pushed c.in-Some.caller =
    subst (λ (given : Option Caller). MatchOption given (c.args.self.now.pushed ≡ []) (BeginsWith c.args.self.now.pushed)) c.in-Some.is c.front.ensures.caller in
    away-played c.args.self.now c.away.new.self c.in-Some.caller c.in_ok-line.line c.requires.none begins
    (subst (λ (calls : List Pushed). Tells (record c.args.self.now { pushed = calls }) c.away.new.self (λ state. away_event state c.in-Some.caller) c.in_ok-line.line) c.front.ensures.same
    c.in_ok-line.ensures.told)
