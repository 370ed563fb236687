use Rattle.std.proofs.Common.{◌≡◌, ◌∷◌, ◌++◌, OnOk, inl, inr, refl, ap, ◌∙◌, subst}
use Rattle.ext_mean.specs.declared.statement.Statement.TheViews.{out-Statement}
use Rattle.ext_mean.specs.TypesOfItems.{statement_code}
use Rattle.ext_mean.specs.Typing.{arm_name, block_codes, checked}
use Rattle.ext_mean.specs.declared.check_codes.TypeCode.{TypeCode}
use Rattle.ext_mean.specs.declared.progress.Progress.{Progress}
use Rattle.ext_types.specs.Places.{setting}
use Rattle.ext_types.proofs.TypingEquations.{codes-If, codes-While, codes-Get, codes-Multi}
use Rattle.ext_types.proofs.WalkLemmas.{one-statement, no-statement, outer-stays, two-blocks, one-block}
use Rattle.ext_types.proofs.walk.+walk.Goals as goal

pub check_block-loop-statement-preserved : goal.check_block-loop-statement-preserved
check_block-loop-statement-preserved t c = record {
  codes = one-statement (setting c.args.place.now) c.as_slice-statement-items.result.now c.loop-statement.statement-index c.statement-item.result c.loop-statement.progress c.check_statement.new.progress c.loop-statement.scope.items c.check_statement.new.scope.items c.loop-statement-test.true c.statement-item.is c.in_ok-check_statement.ensures.codes c.in_ok-check_statement.ensures.scope ∙ c.loop-statement.invariant.codes;
  outer = rw c.in_ok-check_statement.ensures.scope (outer-stays c.args.scope.now.items c.loop-statement.scope.items _ c.loop-statement.invariant.outer);
}

pub check_block-returns-clause-codes : goal.check_block-returns-clause-codes
check_block-returns-clause-codes t c =
    no-statement (setting c.args.place.now) c.args.block.now c.as_slice-statement-items.result.now c.loop-statement.statement-index c.args.progress.now c.loop-statement.progress c.args.scope.now.items c.loop-statement.scope.items c.as_slice-statement-items.ensures c.loop-statement-test.false c.loop-statement.invariant.codes

pub check_statement-returns-in_ok-check_block-in-If-clause-codes :
    goal.check_statement-returns-in_ok-check_block-in-If-clause-codes
check_statement-returns-in_ok-check_block-in-If-clause-codes t c =
    let s = setting c.args.place.now in
    let scope = c.args.scope.now.items in
    let whole : (checked s c.args.statement.now).codes scope ≡ statement_code s scope (out-Statement c.args.statement.now) ∷ (block_codes s c.in-If.yes scope ++ block_codes s c.in-If.no scope) = rw c.in-If.is (codes-If s scope c.in-If.test c.in-If.yes c.in-If.no) in
    let own : c.statement_code-code.result ≡ statement_code s scope (out-Statement c.args.statement.now) = cc in
    let same : block_codes s c.in-If.no c.check_block.new.scope.items ≡ block_codes s c.in-If.no scope = ap (block_codes s c.in-If.no) c.in_ok-check_block-in-If.ensures.scope in
    let e = two-blocks c.args.progress.now c.note.new.self c.check_block.new.progress _ _ _ _ _ _ c.in_ok-note.ensures.ok c.in_ok-check_block-in-If.ensures.codes same own whole in
    subst (λ (q : Progress TypeCode). OnOk c.check_block-in-If.result (c.check_block-in-If.new.progress ≡ q)) e c.check_block-in-If.ensures.codes

pub check_statement-returns-in-While-clause-codes :
    goal.check_statement-returns-in-While-clause-codes
check_statement-returns-in-While-clause-codes t c =
    let s = setting c.args.place.now in
    let scope = c.args.scope.now.items in
    let whole : (checked s c.args.statement.now).codes scope ≡ statement_code s scope (out-Statement c.args.statement.now) ∷ block_codes s c.in-While.body scope = rw c.in-While.is (codes-While s scope c.in-While.test c.in-While.body) in
    let own : c.statement_code-code.result ≡ statement_code s scope (out-Statement c.args.statement.now) = cc in
    let same : block_codes s c.in-While.body scope ≡ block_codes s c.in-While.body scope = refl in
    let e = one-block c.args.progress.now c.note.new.self _ _ _ _ _ c.in_ok-note.ensures.ok same own whole in
    subst (λ (q : Progress TypeCode). OnOk c.check_block-in-While.result (c.check_block-in-While.new.progress ≡ q)) e c.check_block-in-While.ensures.codes

pub check_statement-returns-in_ok-check_arm-in-Get-clause-codes :
    goal.check_statement-returns-in_ok-check_arm-in-Get-clause-codes
check_statement-returns-in_ok-check_arm-in-Get-clause-codes t c =
    let s = setting c.args.place.now in
    let scope = c.args.scope.now.items in
    let whole : (checked s c.args.statement.now).codes scope ≡ statement_code s scope (out-Statement c.args.statement.now) ∷ (block_codes s c.in-Get.yes (scope ++ arm_name c.in-Get.some) ++ block_codes s c.in-Get.no scope) = elim c.in-Get.is [
      | inl w ↦ rw w.2 (codes-Get s scope w.0 w.1 c.in-Get.some c.in-Get.yes c.in-Get.no)
      | inr w ↦ rw w.3 (codes-Multi s scope w.0 w.1 w.2 c.in-Get.some c.in-Get.yes c.in-Get.no)
    ] in
    let own : c.statement_code-code.result ≡ statement_code s scope (out-Statement c.args.statement.now) = cc in
    let same : block_codes s c.in-Get.no c.check_arm.new.scope.items ≡ block_codes s c.in-Get.no scope = ap (block_codes s c.in-Get.no) c.in_ok-check_arm-in-Get.ensures.scope in
    let e = two-blocks c.args.progress.now c.note.new.self c.check_arm.new.progress _ _ _ _ _ _ c.in_ok-note.ensures.ok c.in_ok-check_arm-in-Get.ensures.codes same own whole in
    subst (λ (q : Progress TypeCode). OnOk c.check_block-in-Get.result (c.check_block-in-Get.new.progress ≡ q)) e c.check_block-in-Get.ensures.codes
