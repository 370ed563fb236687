use Rattle.std.proofs.Common.{◌≡◌, ℕ, ◌+◌, List, [], ◌++◌, OnOk, map, drop, inl, inr, ap, sym, ◌∙◌, subst, arith, append-nil}
use Rattle.std.proofs.lemmas.Grind.{common_steps}
use Rattle.ext_mean.specs.declared.borrowing.Gift.{Gift}
use Rattle.ext_mean.specs.declared.statement.Statement.{Statement}
use Rattle.ext_mean.specs.Borrowing.{block_giving, count_all, gifts_in_order, giving, numbered}
use Rattle.ext_mean.specs.Typing.{arm_name}
use Rattle.ext_borrow.proofs.GivingEquations.{block-gifts, block-count, gifts-If, count-If, gifts-While, count-While, gifts-Get, count-Get, gifts-Multi, count-Multi, behind-both}
use Rattle.ext_borrow.proofs.giving.+gather.Goals as goal

pub gather_block-returns-clause-gifts : goal.gather_block-returns-clause-gifts
gather_block-returns-clause-gifts t c =
    let e : drop c.loop-statement.statement-index c.as_slice-statement-items.result.now ≡ [] = grind (arith, common_steps, c.loop-statement-test.false) in
    let f = rw e at c.loop-statement.invariant.gifts in
    let items = c.as_slice-statement-items.ensures in
    sym (append-nil c.loop-statement.gathered.gifts.items) ∙ f ∙ ap (λ (z : List Statement). c.args.gathered.now.gifts.items ++ gifts_in_order (map giving z) c.args.scope.now.items c.args.gathered.now.count) items ∙ ap (λ (z : List Gift). c.args.gathered.now.gifts.items ++ z) (sym (block-gifts c.args.block.now c.args.scope.now.items c.args.gathered.now.count))

pub gather_block-returns-clause-count : goal.gather_block-returns-clause-count
gather_block-returns-clause-count t c =
    let e : drop c.loop-statement.statement-index c.as_slice-statement-items.result.now ≡ [] = grind (arith, common_steps, c.loop-statement-test.false) in
    let f = rw e at c.loop-statement.invariant.count in
    let g : count_all (map giving c.as_slice-statement-items.result.now) ≡ (block_giving c.args.block.now).count = ap (λ (z : List Statement). count_all (map giving z)) c.as_slice-statement-items.ensures ∙ sym (block-count c.args.block.now) in
    omega (arith, f, g)

pub gather_statement-returns-in_ok-gather_block-in-If-clause-gifts :
    goal.gather_statement-returns-in_ok-gather_block-in-If-clause-gifts
gather_statement-returns-in_ok-gather_block-in-If-clause-gifts t c =
    let mid = c.in_ok-gather_block-in-If.ensures in
    let whole : (giving c.args.statement.now).gifts c.args.scope.now.items c.args.gathered.now.count ≡ (block_giving c.in-If.yes).gifts c.args.scope.now.items c.args.gathered.now.count ++ (block_giving c.in-If.no).gifts c.gather_block.new.scope.items c.gather_block.new.gathered.count = rw (c.in-If.is, mid.scope, mid.count) (gifts-If c.args.scope.now.items c.args.gathered.now.count c.in-If.test c.in-If.yes c.in-If.no) in
    let e = behind-both c.args.gathered.now.gifts.items c.gather_block.new.gathered.gifts.items _ _ _ mid.gifts whole in
    subst (λ (q : List Gift). OnOk c.gather_block-in-If.result (c.gather_block-in-If.new.gathered.gifts.items ≡ q)) e c.gather_block-in-If.ensures.gifts

pub gather_statement-returns-in_ok-gather_block-in-If-clause-count :
    goal.gather_statement-returns-in_ok-gather_block-in-If-clause-count
gather_statement-returns-in_ok-gather_block-in-If-clause-count t c =
    let whole : (giving c.args.statement.now).count ≡ (block_giving c.in-If.yes).count + (block_giving c.in-If.no).count = rw c.in-If.is (count-If c.in-If.test c.in-If.yes c.in-If.no) in
    let e : c.gather_block.new.gathered.count + (block_giving c.in-If.no).count ≡ c.args.gathered.now.count + (giving c.args.statement.now).count = omega (arith, whole, c.in_ok-gather_block-in-If.ensures.count) in
    subst (λ (q : ℕ). OnOk c.gather_block-in-If.result (c.gather_block-in-If.new.gathered.count ≡ q)) e c.gather_block-in-If.ensures.count

pub gather_statement-returns-in-While-clause-gifts :
    goal.gather_statement-returns-in-While-clause-gifts
gather_statement-returns-in-While-clause-gifts t c =
    rw (c.in-While.is, gifts-While c.args.scope.now.items c.args.gathered.now.count c.in-While.test c.in-While.body) c.gather_block-in-While.ensures.gifts

pub gather_statement-returns-in-While-clause-count :
    goal.gather_statement-returns-in-While-clause-count
gather_statement-returns-in-While-clause-count t c =
    rw (c.in-While.is, count-While c.in-While.test c.in-While.body) c.gather_block-in-While.ensures.count

pub gather_statement-returns-in_ok-gather_arm-in-Get-clause-gifts :
    goal.gather_statement-returns-in_ok-gather_arm-in-Get-clause-gifts
gather_statement-returns-in_ok-gather_arm-in-Get-clause-gifts t c =
    let mid = c.in_ok-gather_arm-in-Get.ensures in
    let scope = c.args.scope.now.items in
    let number = c.args.gathered.now.count in
    let whole : (giving c.args.statement.now).gifts scope number ≡ (block_giving c.in-Get.yes).gifts (scope ++ numbered number (arm_name c.in-Get.some)) (number + 1) ++ (block_giving c.in-Get.no).gifts c.gather_arm.new.scope.items c.gather_arm.new.gathered.count = elim c.in-Get.is [
      | inl w ↦ rw (w.2, mid.scope, mid.count) (gifts-Get scope number w.0 w.1 c.in-Get.some c.in-Get.yes c.in-Get.no)
      | inr w ↦ rw (w.3, mid.scope, mid.count) (gifts-Multi scope number w.0 w.1 w.2 c.in-Get.some c.in-Get.yes c.in-Get.no)
    ] in
    let e = behind-both c.args.gathered.now.gifts.items c.gather_arm.new.gathered.gifts.items _ _ _ mid.gifts whole in
    subst (λ (q : List Gift). OnOk c.gather_block-in-Get.result (c.gather_block-in-Get.new.gathered.gifts.items ≡ q)) e c.gather_block-in-Get.ensures.gifts

pub gather_statement-returns-in_ok-gather_arm-in-Get-clause-count :
    goal.gather_statement-returns-in_ok-gather_arm-in-Get-clause-count
gather_statement-returns-in_ok-gather_arm-in-Get-clause-count t c =
    let whole : (giving c.args.statement.now).count ≡ 1 + (block_giving c.in-Get.yes).count + (block_giving c.in-Get.no).count = elim c.in-Get.is [
      | inl w ↦ rw w.2 (count-Get w.0 w.1 c.in-Get.some c.in-Get.yes c.in-Get.no)
      | inr w ↦ rw w.3 (count-Multi w.0 w.1 w.2 c.in-Get.some c.in-Get.yes c.in-Get.no)
    ] in
    let e : c.gather_arm.new.gathered.count + (block_giving c.in-Get.no).count ≡ c.args.gathered.now.count + (giving c.args.statement.now).count = omega (arith, whole, c.in_ok-gather_arm-in-Get.ensures.count) in
    subst (λ (q : ℕ). OnOk c.gather_block-in-Get.result (c.gather_block-in-Get.new.gathered.count ≡ q)) e c.gather_block-in-Get.ensures.count
