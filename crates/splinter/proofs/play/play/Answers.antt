-- The play from its first event to the end of its drain.
use Rattle.std.proofs.Common.{sym, subst}
use Rattle.sim.specs.Play.{opened}
use Rattle.splinter.proofs.Whole.{play-of}
use Rattle.splinter.proofs.Parts.{fits-events, Fit}
use Rattle.splinter.proofs.play.play.Goals as goal

pub play_body-requires-clause-fits : goal.play_body-requires-clause-fits
play_body-requires-clause-fits g c =
    subst (λ workers. Fit workers c.args.script.events) (sym c.in_ok-sim.ensures.workers)
    (fits-events c.args.script.head.workers c.args.script.events c.requires.events)

pub play_drain-requires : goal.play_drain-requires
play_drain-requires g c =
    let body = c.in_ok-play_body.ensures (opened c.args.script.head) c.in_ok-sim.ensures.stands in
    record { state = body.state; at = body.at }

pub returns : goal.returns
returns g c =
    let body = c.in_ok-play_body.ensures (opened c.args.script.head) c.in_ok-sim.ensures.stands in
    play-of g.L.Listener.heard c.args.script c.play_body.new.sim c.play_drain.new.sim c.args.listener.now c.play_body.new.listener
    c.play_drain.new.listener body c.in_ok-play_drain.ensures
