use Rattle.std.proofs.Common.{rules, ◌≡◌, None}
use Rattle.sched_text.specs.Drafts.{code_of, with_line}
use Rattle.sched_text.specs.Fits.{LineFits}
use Rattle.sched_text.specs.Texts.{lines_of}
use Rattle.sched_text.proofs.Coding.{taken_there}
use Rattle.sched_text.proofs.Fitting.{line_added}
use Rattle.sched_text.proofs.draft.Draft.read_line.Goals as goal

pub returns-clause-there : goal.returns-clause-there
returns-clause-there c =
    let good : code_of c.args.self.now (lines_of c.args.behind.now) c.in_ok-says.says ≡ None = search rules in
    let there = taken_there c.args.self.now (lines_of c.args.behind.now) c.in_ok-says.says good in
    rw c.lines_taken-taken.ensures there

pub returns-clause-fits : goal.returns-clause-fits
returns-clause-fits c are =
    let good : code_of c.args.self.now (lines_of c.args.behind.now) c.in_ok-says.says ≡ None = search rules in
    let fits : LineFits c.in_ok-says.says = search rules in
    let after : c.add.new.self ≡ with_line c.args.number (lines_of c.args.behind.now) c.in_ok-says.says c.args.self.now = search rules in
    rw after (line_added c.args.number (lines_of c.args.behind.now) c.in_ok-says.says c.args.self.now good fits are)
