use Rattle.std.proofs.Common.{rules, ◌≡◌, None, refl, false}
use Rattle.sched_text.specs.CallDrafts.{call_code_of, lacks_lines, with_call_line, CallLineFits}
use Rattle.sched_text.specs.Texts.{lines_of}
use Rattle.sched_text.proofs.Calling.{call_added}
use Rattle.sched_text.proofs.call_draft.CallDraft.read_line.Goals as goal

pub returns-clause-fits : goal.returns-clause-fits
unfolding call_code_of
returns-clause-fits c are =
    let test : lacks_lines (lines_of c.args.behind.now) c.in_ok-says.says ≡ false = search rules in
    let good : call_code_of (lines_of c.args.behind.now) c.in_ok-says.says ≡ None = rw test refl in
    let fits : CallLineFits c.in_ok-says.says = search rules in
    let after : c.add.new.self ≡ with_call_line c.args.number (lines_of c.args.behind.now) c.in_ok-says.says c.args.self.now = search rules in
    rw after (call_added c.args.number (lines_of c.args.behind.now) c.in_ok-says.says c.args.self.now good fits are)
