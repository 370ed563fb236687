-- Which texts are accepted, and the first refusal of others, by the parser's answer.
use Rattle.std.proofs.Common.{◌∙◌, subst, sym}
use Rattle.ext_check.specs.Checking.{Explains}
use Rattle.ext_check.proofs.ItemLines.{lines-of-items}
use Rattle.ext_check.proofs.Verdicts.{if-accepted, if-only, if-refused, unparsed-explained, unparsed-memory}
use Rattle.ext_check.proofs.check.checked.Goals as goal

pub judged-requires : goal.judged-requires
judged-requires c = lines-of-items c.args.text.now c.in-Ok.parsed.program c.in-Ok.parsed.lines.items c.in-Ok.ensures.found

pub returns-in-Ok-clause-accepted : goal.returns-in-Ok-clause-accepted
returns-in-Ok-clause-accepted c =
    if-accepted c.args.text.now c.in-Ok.parsed c.judged.result c.in-Ok.ensures.found c.judged.ensures.program c.judged.ensures.typed c.judged.ensures.owned

pub returns-in-Ok-clause-only : goal.returns-in-Ok-clause-only
returns-in-Ok-clause-only c =
    if-only c.args.text.now c.in-Ok.parsed c.judged.result c.in-Ok.ensures.only c.judged.ensures.program c.judged.ensures.faulty

pub returns-in-Ok-clause-refused : goal.returns-in-Ok-clause-refused
returns-in-Ok-clause-refused c =
    if-refused c.args.text.now c.in-Ok.parsed c.judged.result c.in-Ok.ensures.found c.judged.ensures.faulty

pub returns-in-Err-clause-only : goal.returns-in-Err-clause-only
returns-in-Err-clause-only c program accepted =
    c.unparsed.ensures ∙ unparsed-memory c.in-Err.fault (c.in-Err.ensures.only program accepted.spelled.0 accepted.spelled.1)

pub returns-in-Err-clause-refused : goal.returns-in-Err-clause-refused
returns-in-Err-clause-refused c =
    subst (Explains c.args.text.now) (sym c.unparsed.ensures) (unparsed-explained c.args.text.now c.in-Err.fault c.in-Err.ensures.fault)
