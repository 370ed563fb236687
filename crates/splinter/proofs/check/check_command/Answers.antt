-- An input that is too long is refused at its first line.
use Rattle.sp_base.specs.declared.limits.TheConstants.{MOST_TEXT}
use Rattle.splinter.proofs.Checked.{told-too-long}
use Rattle.splinter.proofs.Judging.{longer-judged, took-longer, took-whole}
use Rattle.splinter.proofs.check.check_command.Goals as goal

pub returns-in-Longer-clause-told : goal.returns-in-Longer-clause-told
returns-in-Longer-clause-told g c =
    told-too-long (g.S.Source.left c.args.source.now) (g.S.Source.left c.read_input.new.source)
    (g.K.Sink.held c.args.sink.now) (g.K.Sink.held c.write-in-Longer.new.sink) c.write-in-Longer.result
    c.in-Longer.ensures.told c.write-in-Longer.ensures.told

pub returns-in-Longer-clause-judged : goal.returns-in-Longer-clause-judged
returns-in-Longer-clause-judged g c =
    longer-judged (g.S.Source.left c.args.source.now) (g.S.Source.left c.read_input.new.source) c.write-in-Longer.result
    c.in-Longer.ensures.told c.write-in-Longer.ensures.ends

pub returns-in-Longer-clause-taken : goal.returns-in-Longer-clause-taken
returns-in-Longer-clause-taken g c =
    took-longer MOST_TEXT (g.S.Source.left c.args.source.now) (g.S.Source.left c.read_input.new.source) c.in-Longer.ensures.told

pub returns-in-Ok-clause-taken : goal.returns-in-Ok-clause-taken
returns-in-Ok-clause-taken g c =
    took-whole MOST_TEXT (g.S.Source.left c.args.source.now) (g.S.Source.left c.read_input.new.source) c.in-Whole.input.items
    c.in-Whole.ensures.told c.in-Whole.ensures.within
