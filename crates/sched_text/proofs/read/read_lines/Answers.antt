use Rattle.std.proofs.Common.{◌≡◌, ◌∙◌, ap, sym, refl, Ok, arith}
use Rattle.sched_text.specs.Drafts.{script_of}
use Rattle.sched_text.specs.Firsts.{BeginsWith}
use Rattle.sched_text.specs.Judged.{after_line, made}
use Rattle.sched_text.specs.Texts.{lines_of}
use Rattle.sched_text.proofs.Fitting.{none_fit}
use Rattle.sched_text.proofs.Judging.{line_far, line_good, script_fits}
use Rattle.sched_text.proofs.read.read_lines.Goals as goal

pub loop-line-init : goal.loop-line-init
loop-line-init c = record {
  same = rw c.new-draft.ensures refl;
  within = omega arith;
  fits = rw c.new-draft.ensures none_fit;
}

pub returns-then-number-gt-LINE_TOO_MANY-clause-answer : goal.returns-then-number-gt-LINE_TOO_MANY-clause-answer
returns-then-number-gt-LINE_TOO_MANY-clause-answer c =
    let begins : BeginsWith c.loop-line.rest.now c.in-Some.line.now c.in-Some.behind.now = c.in-Some.ensures.line in
    let after : after_line c.args.kind c.loop-line.number c.in-Some.line.now (lines_of c.in-Some.behind.now) c.loop-line.draft ≡ Ok (c.read_line.new.self, c.in-Ok.taken) = c.in-Ok.ensures.answer in
    let far = line_far _ (after_line c.args.kind) c.loop-line.number c.loop-line.draft c.loop-line.rest.now c.in-Some.line.now c.in-Some.behind.now begins c.read_line.new.self c.in-Ok.taken (omega arith) after c.in-Ok.ensures.there (omega arith) in
    rw c.bad_line-then-number-gt-LINE_TOO_MANY.ensures (ap (made script_of) (sym c.loop-line.invariant.same ∙ far))

pub loop-line-preserved : goal.loop-line-preserved
loop-line-preserved c =
    let begins : BeginsWith c.loop-line.rest.now c.in-Some.line.now c.in-Some.behind.now = c.in-Some.ensures.line in
    let after : after_line c.args.kind c.loop-line.number c.in-Some.line.now (lines_of c.in-Some.behind.now) c.loop-line.draft ≡ Ok (c.read_line.new.self, c.in-Ok.taken) = c.in-Ok.ensures.answer in
    let good = line_good _ (after_line c.args.kind) c.loop-line.number c.loop-line.draft c.loop-line.rest.now c.in-Some.line.now c.in-Some.behind.now begins c.read_line.new.self c.in-Ok.taken c.behind_lines-rest.result.now (omega arith) after c.in-Ok.ensures.there (omega arith) c.behind_lines-rest.ensures.lines in
    record {
      same = sym good ∙ c.loop-line.invariant.same;
      within = omega arith;
      fits = c.in-Ok.ensures.fits c.loop-line.invariant.fits;
    }

pub returns-clause-fits : goal.returns-clause-fits
returns-clause-fits c = rw c.into_script.ensures (script_fits c.loop-line.draft c.loop-line.invariant.fits)
