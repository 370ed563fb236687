use Rattle.std.proofs.Common.{◌≡◌, Bool, false, List, [], ◌∷◌, ◌++◌, length, refl, ap, sym, ◌∙◌}
use Rattle.std.proofs.Common.{Vec, Global}
use Rattle.std.specs.Prelude.{◌||◌}
use Rattle.ext_mean.specs.declared.borrowing.Variable.{Variable}
use Rattle.ext_mean.specs.declared.statement.Statement.TheVariants.{If, While, Get, Multi}
use Rattle.ext_mean.specs.OwnedItems as scenes
use Rattle.ext_mean.specs.OwnedItems.{looks, loops, newly_gone}
use Rattle.ext_mean.specs.Ownership.{Passed, either, extended, leaves, owned, owned_block, with_arm, with_held}
use Rattle.ext_mean.specs.declared.check_codes.BorrowCode.{BorrowCode}
use Rattle.ext_mean.specs.declared.progress.Progress.{Progress}
use Rattle.ext_mean.specs.Progress.{after, behind, joined}
use Rattle.ext_borrow.specs.Scenes.{seen}
use Rattle.ext_borrow.proofs.OwnedEquations.{passes-If, passes-While, passes-Get, passes-Multi}
use Rattle.ext_borrow.proofs.PassLemmas.{drop-item, one-codes, one-gone, all-codes, all-gone, outer-stays, branches-codes, branches-gone, turns-codes, turns-gone, arms-codes, arms-gone, unheld, on-ok, on-ok-both, on-ok-three, scene-parts}
use Rattle.ext_borrow.proofs.walk.+walk.Goals as goal

pub pass_block-loop-statement-preserved : goal.pass_block-loop-statement-preserved
pass_block-loop-statement-preserved t c =
    let loans = c.args.loans.now in
    let items = c.as_slice-statement-items.result.now in
    let at = c.loop-statement.statement-index in
    let item = c.statement-item.result in
    let was = c.loop-statement.walk in
    let is = c.pass_statement.new.walk in
    let below = c.loop-statement-test.true in
    let passes = c.in_ok-pass_statement.ensures.passes in
    let more = c.in_ok-pass_statement.ensures.scene in
    let inv = c.loop-statement.invariant in
    let d = drop-item items at item below c.statement-item.is in
    let scope = ap (λ (z : scenes.Scene). z.scope) more in
    record {
      codes = one-codes loans items at item (seen was.scene) (seen is.scene) was.gone.items is.gone.items below c.statement-item.is passes.gone more was.progress is.progress passes.codes ∙ inv.codes;
      gone = one-gone loans items at item (seen was.scene) (seen is.scene) was.gone.items is.gone.items below c.statement-item.is passes.gone more ∙ inv.gone;
      returns = rw c.is_return-returns.ensures (rw d at inv.returns);
      held = ap (λ (z : scenes.Scene). z.held) more ∙ inv.held;
      outer = rw scope (outer-stays c.args.walk.now.scene.scope.items was.scene.scope.items _ inv.outer);
    }

pub pass_block-returns-clause-passes : goal.pass_block-returns-clause-passes
pass_block-returns-clause-passes t c =
    let loans = c.args.loans.now in
    let block = c.args.block.now in
    let items = c.as_slice-statement-items.result.now in
    let at = c.loop-statement.statement-index in
    let was = c.args.walk.now in
    let is = c.loop-statement.walk in
    let inv = c.loop-statement.invariant in
    let codes = all-codes loans block items at (seen was.scene) (seen is.scene) was.gone.items is.gone.items c.as_slice-statement-items.ensures c.loop-statement-test.false was.progress is.progress inv.codes in
    let gone = all-gone loans block items at (seen was.scene) (seen is.scene) was.gone.items is.gone.items c.as_slice-statement-items.ensures c.loop-statement-test.false c.loop-statement.returns inv.gone inv.returns in
    let before = c.as_slice.ensures.value ∙ c.in_ok-before.ensures in
    on-ok c.leave.result _ _ (λ g. record {
      codes = c.leave.ensures.progress ∙ codes;
      gone = g ∙ ap (λ (z : List Bool). leaves c.loop-statement.returns z is.gone.items) before ∙ gone;
    }) c.leave.ensures.gone

pub pass_if-returns-clause-passes : goal.pass_if-returns-clause-passes
pass_if-returns-clause-passes t c =
    let loans = c.args.loans.now in
    let was = c.args.walk.now in
    let scene = seen was.scene in
    let gone = was.gone.items in
    let own = looks scene gone (c.args.test.now ∷ []) in
    let first = owned_block loans c.args.yes.now scene gone in
    let other = owned_block loans c.args.no.now in
    let whole = (owned loans (If c.args.test.now c.args.yes.now c.args.no.now)).passes scene gone in
    let whole-is = passes-If loans scene gone c.args.test.now c.args.yes.now c.args.no.now in
    let first-is : owned_block loans c.args.yes.now (seen c.look_once.new.walk.scene) c.look_once.new.walk.gone.items ≡ first = rw (c.look_once.ensures.scene, c.look_once.ensures.gone) refl in
    let p2-is : c.pass_block.new.walk.progress ≡ after c.look_once.new.walk.progress first.codes = c.in_ok-pass_block.ensures.passes.codes ∙ ap (λ (z : Passed). after c.look_once.new.walk.progress z.codes) first-is in
    let gone1-is : c.in_ok-first.first.items ≡ first.gone = c.in_ok-first.ensures.first ∙ c.in_ok-pass_block.ensures.passes.gone ∙ ap (λ (z : Passed). z.gone) first-is in
    let before = c.as_slice.ensures.value ∙ c.in_ok-before.ensures in
    let gone2-is : c.turn.new.self.gone.items ≡ extended gone c.in_ok-first.first.items = rw (c.in_ok-first.ensures.first, sym before) c.in_ok-first.ensures.gone in
    let scene2-is : seen c.turn.new.self.scene ≡ scene = ap seen c.turn.ensures.scene ∙ c.in_ok-pass_block.ensures.scene ∙ ap seen c.look_once.ensures.scene in
    let p3-is : c.pass_block-2.new.walk.progress ≡ after c.pass_block.new.walk.progress (other (seen c.turn.new.self.scene) c.turn.new.self.gone.items).codes = rw (sym c.turn.ensures.progress) c.in_ok-pass_block-2.ensures.passes.codes in
    let codes = branches-codes own first whole other scene (seen c.turn.new.self.scene) gone c.in_ok-first.first.items c.turn.new.self.gone.items c.pass_block-2.new.walk.gone.items was.progress c.look_once.new.walk.progress c.pass_block.new.walk.progress c.pass_block-2.new.walk.progress whole-is c.in_ok-look_once.ensures.progress p2-is gone1-is scene2-is gone2-is p3-is c.in_ok-pass_block-2.ensures.passes.gone in
    let left = branches-gone own first whole other scene (seen c.turn.new.self.scene) gone c.in_ok-first.first.items c.turn.new.self.gone.items c.pass_block-2.new.walk.gone.items was.progress c.look_once.new.walk.progress c.pass_block.new.walk.progress c.pass_block-2.new.walk.progress whole-is c.in_ok-look_once.ensures.progress p2-is gone1-is scene2-is gone2-is p3-is c.in_ok-pass_block-2.ensures.passes.gone in
    on-ok c.unite.result _ _ (λ g. record {
      codes = c.unite.ensures.progress ∙ codes;
      gone = g ∙ ap (λ (z : List Bool). either z c.pass_block-2.new.walk.gone.items) c.as_slice-2.ensures.value ∙ left;
    }) c.unite.ensures.gone

pub pass_while-returns-clause-passes : goal.pass_while-returns-clause-passes
pass_while-returns-clause-passes t c =
    let loans = c.args.loans.now in
    let was = c.args.walk.now in
    let scene = seen was.scene in
    let gone = was.gone.items in
    let test = c.args.test.now in
    let own = loops scene gone (test ∷ []) in
    let body = owned_block loans c.args.body.now scene gone in
    let whole = (owned loans (While c.args.test.now c.args.body.now)).passes scene gone in
    let whole-is = passes-While loans scene gone test c.args.body.now in
    let place = c.in_ok-place.place in
    let entered = c.in_ok-place.ensures in
    let passed = c.in_ok-pass_block.ensures in
    let body-is : owned_block loans c.args.body.now (seen c.enter.new.self.scene) c.enter.new.self.gone.items ≡ body = rw (c.enter.ensures.scene, c.enter.ensures.gone) refl in
    let q1 = c.pass_block.new.walk.progress in
    let gone1 = c.pass_block.new.walk.gone.items in
    let q1-is : q1 ≡ after (behind was.progress) body.codes = passed.passes.codes ∙ ap (λ (z : Passed). after c.enter.new.self.progress z.codes) body-is ∙ ap (λ (z : Progress BorrowCode). after z body.codes) entered.progress in
    let gone1-is : gone1 ≡ body.gone = passed.passes.gone ∙ ap (λ (z : Passed). z.gone) body-is in
    let front = c.as_slice.result.now in
    let before : front ≡ gone = c.as_slice.ensures.value ∙ c.in_ok-before.ensures in
    let scene-is : seen c.pass_block.new.walk.scene ≡ scene = passed.scene ∙ ap seen c.enter.ensures.scene in
    let codes = turns-codes own body whole gone gone1 was.progress q1 whole-is q1-is gone1-is in
    let left = turns-gone own body whole gone gone1 was.progress q1 whole-is q1-is gone1-is in
    let same = ap (λ (z : scenes.Scene). joined (after place (loops z front (test ∷ []) (newly_gone front gone1) ∷ [])) q1) scene-is
    ∙ ap (λ (z : List Bool). joined (after place (loops scene z (test ∷ []) (newly_gone z gone1) ∷ [])) q1) before
    ∙ ap (λ (z : Progress BorrowCode). joined (after z (own (newly_gone gone gone1) ∷ [])) q1) entered.place in
    on-ok-both c.leave_while.result _ _ _ (λ p g. record {
      codes = p ∙ same ∙ codes;
      gone = g ∙ ap (λ (z : List Bool). extended z gone1) before ∙ left;
    }) c.leave_while.ensures.progress c.leave_while.ensures.gone

pub pass_get-returns-clause-passes : goal.pass_get-returns-clause-passes
pass_get-returns-clause-passes t c =
    let loans = c.args.loans.now in
    let was = c.args.walk.now in
    let scene = seen was.scene in
    let gone = was.gone.items in
    let own = looks scene gone (c.args.operands.0.now ∷ c.args.operands.1.now ∷ []) in
    let first = owned_block loans c.args.arms.1.now (with_arm scene (length gone) c.args.arms.0.now) (gone ++ false ∷ []) in
    let other = owned_block loans c.args.arms.2.now in
    let whole = (owned loans (Get c.args.operands.0.now c.args.operands.1.now c.args.arms.0.now c.args.arms.1.now c.args.arms.2.now)).passes scene gone in
    let whole-is = passes-Get loans scene gone c.args.operands.0.now c.args.operands.1.now c.args.arms.0.now c.args.arms.1.now c.args.arms.2.now in
    let p1 = c.look_twice.new.walk.progress in
    let p2 = c.pass_arm.new.walk.progress in
    let p3 = c.pass_block.new.walk.progress in
    let gone1 = c.in_ok-first.first.items in
    let gone2 = c.turn.new.self.gone.items in
    let gone3 = c.pass_block.new.walk.gone.items in
    let scene2 = seen c.turn.new.self.scene in
    let passed = c.in_ok-pass_arm.ensures in
    let turned = c.in_ok-first.ensures in
    let second = c.in_ok-pass_block.ensures in
    let first-is : owned_block loans c.args.arms.1.now (with_arm (seen c.look_twice.new.walk.scene) (length c.look_twice.new.walk.gone.items) c.args.arms.0.now) (c.look_twice.new.walk.gone.items ++ false ∷ []) ≡ first = rw (c.look_twice.ensures.scene, c.look_twice.ensures.gone) refl in
    let p2-is : p2 ≡ after p1 first.codes = passed.passes.codes ∙ ap (λ (z : Passed). after p1 z.codes) first-is in
    let gone1-is : gone1 ≡ first.gone = turned.first ∙ passed.passes.gone ∙ ap (λ (z : Passed). z.gone) first-is in
    let before = c.as_slice.ensures.value ∙ c.in_ok-before.ensures in
    let gone2-is : gone2 ≡ extended gone gone1 = rw (turned.first, sym before) turned.gone in
    let scene2-is : scene2 ≡ scene = ap seen c.turn.ensures.scene ∙ passed.scene ∙ ap seen c.look_twice.ensures.scene in
    let p3-is : p3 ≡ after p2 (other scene2 gone2).codes = rw (sym c.turn.ensures.progress) second.passes.codes in
    let codes = branches-codes own first whole other scene scene2 gone gone1 gone2 gone3 was.progress p1 p2 p3 whole-is c.in_ok-look_twice.ensures.progress p2-is gone1-is scene2-is gone2-is p3-is second.passes.gone in
    let left = branches-gone own first whole other scene scene2 gone gone1 gone2 gone3 was.progress p1 p2 p3 whole-is c.in_ok-look_twice.ensures.progress p2-is gone1-is scene2-is gone2-is p3-is second.passes.gone in
    on-ok c.unite.result _ _ (λ g. record {
      codes = c.unite.ensures.progress ∙ codes;
      gone = g ∙ ap (λ (z : List Bool). either z gone3) c.as_slice-2.ensures.value ∙ left;
    }) c.unite.ensures.gone

pub pass_multiget-returns-clause-passes : goal.pass_multiget-returns-clause-passes
pass_multiget-returns-clause-passes t c =
    let loans = c.args.loans.now in
    let was = c.args.walk.now in
    let scene = seen was.scene in
    let gone = was.gone.items in
    let operands = c.args.operands.0.now ∷ c.args.operands.1.now ∷ c.args.operands.2.now ∷ [] in
    let own = loops scene gone operands in
    let arms = with_held scene c.args.operands.1.now in
    let first = owned_block loans c.args.arms.1.now (with_arm arms (length gone) c.args.arms.0.now) (gone ++ false ∷ []) in
    let other = owned_block loans c.args.arms.2.now in
    let whole = (owned loans (Multi c.args.operands.0.now c.args.operands.1.now c.args.operands.2.now c.args.arms.0.now c.args.arms.1.now c.args.arms.2.now)).passes scene gone in
    let whole-is = passes-Multi loans scene gone c.args.operands.0.now c.args.operands.1.now c.args.operands.2.now c.args.arms.0.now c.args.arms.1.now c.args.arms.2.now in
    let place = c.in_ok-place.place in
    let entered = c.in_ok-place.ensures in
    let passed = c.in_ok-pass_arm.ensures in
    let turned = c.in_ok-first.ensures in
    let second = c.in_ok-pass_block.ensures in
    let q1 = c.pass_arm.new.walk.progress in
    let q2 = c.pass_block.new.walk.progress in
    let gone1 = c.in_ok-first.first.items in
    let gone2 = c.turn.new.self.gone.items in
    let gone3 = c.pass_block.new.walk.gone.items in
    let scene2 = seen c.turn.new.self.scene in
    let arms-is : seen c.hold.new.walk.scene ≡ arms = c.in_ok-hold.ensures.scene ∙ ap (λ (z : scenes.Scene). with_held z c.args.operands.1.now) (ap seen c.enter.ensures.scene) in
    let hold-gone : c.hold.new.walk.gone.items ≡ gone = ap (λ (z : Vec Bool Global). z.items) (c.hold.ensures.gone ∙ c.enter.ensures.gone) in
    let first-is : owned_block loans c.args.arms.1.now (with_arm (seen c.hold.new.walk.scene) (length c.hold.new.walk.gone.items) c.args.arms.0.now) (c.hold.new.walk.gone.items ++ false ∷ []) ≡ first =
    ap (λ (z : scenes.Scene). owned_block loans c.args.arms.1.now (with_arm z (length c.hold.new.walk.gone.items) c.args.arms.0.now) (c.hold.new.walk.gone.items ++ false ∷ [])) arms-is
    ∙ ap (λ (z : List Bool). owned_block loans c.args.arms.1.now (with_arm arms (length z) c.args.arms.0.now) (z ++ false ∷ [])) hold-gone in
    let hold-progress : c.hold.new.walk.progress ≡ behind was.progress = c.hold.ensures.progress ∙ entered.progress in
    let q1-is : q1 ≡ after (behind was.progress) first.codes = passed.passes.codes ∙ ap (λ (z : Passed). after c.hold.new.walk.progress z.codes) first-is ∙ ap (λ (z : Progress BorrowCode). after z first.codes) hold-progress in
    let gone1-is : gone1 ≡ first.gone = turned.first ∙ passed.passes.gone ∙ ap (λ (z : Passed). z.gone) first-is in
    let front = c.as_slice.result.now in
    let before = c.as_slice.ensures.value ∙ c.in_ok-before.ensures in
    let gone2-is : gone2 ≡ extended gone gone1 = rw (turned.first, sym before) turned.gone in
    let scene2-is : scene2 ≡ arms = ap seen c.turn.ensures.scene ∙ passed.scene ∙ arms-is in
    let q2-is : q2 ≡ after q1 (other scene2 gone2).codes = rw (sym c.turn.ensures.progress) second.passes.codes in
    let codes = arms-codes own first whole other arms scene2 gone gone1 gone2 gone3 was.progress q1 q2 whole-is q1-is gone1-is scene2-is gone2-is q2-is second.passes.gone in
    let left = arms-gone own first whole other arms scene2 gone gone1 gone2 gone3 was.progress q1 q2 whole-is q1-is gone1-is scene2-is gone2-is q2-is second.passes.gone in
    let inside : seen c.pass_block.new.walk.scene ≡ arms = second.scene ∙ scene2-is in
    let front2 = c.as_slice-2.result.now in
    let before2 : front2 ≡ gone = c.as_slice-2.ensures.value ∙ c.in_ok-before.ensures in
    let front3 = c.as_slice-3.result.now in
    let since : front3 ≡ gone1 = c.as_slice-3.ensures.value in
    let after-it = c.leave_multiget.new.walk in
    on-ok-three c.leave_multiget.result _ _ _ _ (λ p g h.
    let held : after-it.scene.held.items ≡ scene.held = unheld scene.held c.pass_block.new.walk.scene.held.items after-it.scene.held.items _ (ap (λ (z : scenes.Scene). z.held) inside) h in
    let scope : after-it.scene.scope.items ≡ scene.scope = ap (λ (z : Vec Variable Global). z.items) c.leave_multiget.ensures.scene ∙ ap (λ (z : scenes.Scene). z.scope) inside in
    let scene-is = scene-parts (seen after-it.scene) scene scope held in
    let same = ap (λ (z : scenes.Scene). joined (after place (loops z front2 operands (newly_gone front2 front3 || newly_gone front2 gone3) ∷ [])) q2) scene-is
    ∙ ap (λ (z : List Bool). joined (after place (loops scene z operands (newly_gone z front3 || newly_gone z gone3) ∷ [])) q2) before2
    ∙ ap (λ (z : List Bool). joined (after place (own (newly_gone gone z || newly_gone gone gone3) ∷ [])) q2) since
    ∙ ap (λ (z : Progress BorrowCode). joined (after z (own (newly_gone gone gone1 || newly_gone gone gone3) ∷ [])) q2) entered.place in
    record {
      codes = p ∙ same ∙ codes;
      gone = g ∙ ap (λ (z : List Bool). extended z gone3) before2 ∙ left;
    }) c.leave_multiget.ensures.progress c.leave_multiget.ensures.gone c.leave_multiget.ensures.held
