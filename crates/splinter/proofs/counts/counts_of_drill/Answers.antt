-- The counts are those of the drill's play.
use Rattle.std.proofs.Common.{◌≡◌, rules, subst}
use Rattle.load_gen.specs.Drill.{drill_script}
use Rattle.splinter.specs.Playing.{TellsPlay}
use Rattle.splinter.proofs.Counting.{drill-counted, heard, none_counted}
use Rattle.splinter.proofs.counts.counts_of_drill.Goals as goal

pub returns : goal.returns
returns c =
    let same : c.from.result ≡ c.args.count = search rules in
    drill-counted c.args.count c.args.seed c.in_ok-sim.sim c.book.result.now c.play.new.listener c.len.result
    (subst (λ calls. TellsPlay heard (drill_script c.args.count c.args.seed) c.in_ok-sim.sim (none_counted calls) c.play.new.listener) same
    (subst (λ script. TellsPlay heard script c.in_ok-sim.sim (none_counted c.from.result) c.play.new.listener) c.in_ok-script.ensures.script c.in_ok-sim.ensures))
    c.book.ensures.journal c.len.ensures
