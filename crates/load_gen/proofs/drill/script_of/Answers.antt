use Rattle.std.proofs.Common.{rules, ◌≡◌}
use Rattle.sched_text.specs.declared.script.Script.{Script}
use Rattle.load_gen.specs.Drill.{drill_script}
use Rattle.load_gen.proofs.Fitting.{drill_fits}
use Rattle.load_gen.proofs.drill.script_of.Goals as goal

pub returns-clause-fits : goal.returns-clause-fits
unfolding drill_script
returns-clause-fits c =
    let script : Script = record { head = c.in_ok-head.head; events = c.loop-i.events } in
    let is : script ≡ drill_script c.args.count c.args.seed = search rules in
    rw is (drill_fits c.args.count c.args.seed)
