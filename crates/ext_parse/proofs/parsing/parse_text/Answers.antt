-- The faults of a text that is too long, that is empty, or that does not end its last line.
use Rattle.std.proofs.Common.{true, false, ◌≡◌, ◌≤◌, ◌<◌, sym, subst, ◌+◌, length, arith}
use Rattle.std.proofs.lemmas.Bool.Decides.{nat_tests}
use Rattle.ext_mean.specs.SyntaxFaults.{large, empty, unended}
use Rattle.ext_parse.specs.Faults.{Explains}
use Rattle.ext_mean.specs.declared.codes.SyntaxCode.TheVariants as code
use Rattle.ext_parse.specs.declared.fault.ParseFault.TheVariants as fault
use Rattle.sp_base.specs.declared.limits.TheConstants.{MOST_TEXT}
use Rattle.ext_parse.proofs.Lists.{no-items}
use Rattle.ext_parse.proofs.parsing.parse_text.Goals as goal

pub returns-then-text-gt-MOST_TEXT-clause-fault : goal.returns-then-text-gt-MOST_TEXT-clause-fault
returns-then-text-gt-MOST_TEXT-clause-fault c =
    subst (Explains c.args.text.now) (sym c.fault.ensures) (large (grind (arith, nat_tests, c.if-text-gt-MOST_TEXT.true)))

pub returns-then-is_empty-clause-fault : goal.returns-then-is_empty-clause-fault
returns-then-is_empty-clause-fault c =
    subst (Explains c.args.text.now) (sym c.fault-then-is_empty.ensures) (empty (no-items c.args.text.now (grind (arith, nat_tests, c.is_empty.ensures, c.if-is_empty.true))))

pub returns-then-not-ends_line-clause-fault : goal.returns-then-not-ends_line-clause-fault
returns-then-not-ends_line-clause-fault c =
    let size : length c.args.text.now ≤ MOST_TEXT = grind (arith, nat_tests, c.if-text-gt-MOST_TEXT.false) in
    let some : 0 < length c.args.text.now = grind (arith, nat_tests, c.is_empty.ensures, c.if-is_empty.false) in
    subst (Explains c.args.text.now) (sym c.fault-then-not-ends_line.ensures)
    (subst (λ n. Explains c.args.text.now (fault.Syntax (n + 1) code.Expected)) (sym c.newlines.ensures.count)
    (unended size some (λ ends. let no : false ≡ true = c.if-not-ends_line.ensures.1 ends in cc)))
