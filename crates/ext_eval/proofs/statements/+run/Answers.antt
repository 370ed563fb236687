use Rattle.std.proofs.Common.{◌≡◌, ℕ, ◌+◌, ◌-◌, ◌/◌, List, length, map, drop, Option, Some, true, false, refl, ap, sym, ◌∙◌, arith}
use Rattle.std.specs.Prelude.{slice_get}
use Rattle.std.proofs.lemmas.Result.{err_from_is_err_and}
use Rattle.ext_mean.specs.declared.state.State.{State}
use Rattle.ext_mean.specs.declared.state.Value.TheVariants as value
use Rattle.ext_mean.specs.Work.{after}
use Rattle.ext_mean.specs.MeaningValues.{pieces, truth_of}
use Rattle.ext_mean.specs.MeaningExpressions.{evaluate}
use Rattle.ext_mean.specs.MeaningStatements.{behind, branch, declare, execute, one_by_one, read, run_block}
use Rattle.ext_mean.specs.Meaning.{call_below}
use Rattle.ext_eval.specs.Arms.{arms_of}
use Rattle.ext_eval.specs.Blocks.{gets_piece}
use Rattle.ext_eval.specs.Worlds.{calls_of, world_of}
use Rattle.ext_eval.proofs.CallLemmas.{callee, named-last}
use Rattle.ext_eval.proofs.StepLemmas.{ends-alike, gives-along, unpaid, one-statement, goes-behind, returns-past, ends-with, goes-on, one-turn, one-piece, fewer-keys, scoped-ends, scoped-next}
use Rattle.ext_eval.proofs.statements.+run.Goals as goal

pub execute-returns-in_err-charge : goal.execute-returns-in_err-charge
execute-returns-in_err-charge t c =
    let p = err_from_is_err_and c.from_residual.result c.from_residual.ensures.1 in
    rw (p.1, p.2) (ends-alike c.in_err-charge.field-0.0 c.charge.new.state c.charge.new.state _ _ c.in_err-charge.ensures
    (λ run e. unpaid (world_of c.args.world.now) (calls_of c.args.world.now) c.args.statement.now c.args.state.now run e))

pub call_below-returns-then-is_name : goal.call_below-returns-then-is_name
call_below-returns-then-is_name t c =
    let world = world_of c.args.world.now in
    let functions = c.args.world.now.functions.now in
    let last = c.args.below - 1 in
    let function = c.in-Some.function.now in
    let found : slice_get functions last ≡ Some function = sym c.at-function.ensures ∙ rw c.in-Some.is refl in
    let below : c.args.below ≡ last + 1 = omega arith in
    gives-along c.called.result c.called.new.state _ _ c.called.ensures
    (ap (λ (n : ℕ). call_below world functions n c.args.name.now c.args.values.now c.args.state.now) below
    ∙ named-last world functions last c.args.name.now c.args.values.now c.args.state.now function found (sym c.is_name.ensures ∙ c.if-is_name.true)
    ∙ callee world (world_of c.of_callee-callee.result) functions c.of_callee-callee.result.functions.now last c.of_callee-callee.result.below function _ c.args.values.now c.args.state.now
    c.of_callee-callee.ensures.world (ap (λ z. z.now) c.of_callee-callee.ensures.functions) c.of_callee-callee.ensures.below found)

pub run_arm-returns-in-None : goal.run_arm-returns-in-None
run_arm-returns-in-None t c =
    gives-along c.run_block.result c.run_block.new.state _ _ c.run_block.ensures
    (ap (λ (z : Option (List ℕ)). arms_of c.args.world.now c.args.arms.now z c.args.state.now) c.in-None.is)

pub run_arm-returns-in_err-returned-in-Some : goal.run_arm-returns-in_err-returned-in-Some
run_arm-returns-in_err-returned-in-Some t c =
    let world = world_of c.args.world.now in
    let calls = calls_of c.args.world.now in
    let p = err_from_is_err_and c.from_residual-in_err-returned-in-Some.result c.from_residual-in_err-returned-in-Some.ensures.1 in
    rw (p.1, p.2) (ends-alike c.in_err-returned-in-Some.field-0.0 c.run_block-in-Some.new.state c.run_block-in-Some.new.state _ _ c.in_err-returned-in-Some.ensures
    (λ run e. ap (λ (z : Option (List ℕ)). arms_of c.args.world.now c.args.arms.now z c.args.state.now) c.in-Some.is
    ∙ scoped-ends (λ (z : State). after (declare c.args.arms.now.some.now (value.Slice c.in-Some.bytes) z) (λ _. run_block world calls c.args.arms.now.yes.now)) c.args.state.now run (goes-on (declare c.args.arms.now.some.now (value.Slice c.in-Some.bytes) c.args.state.now) (λ _. run_block world calls c.args.arms.now.yes.now) _ _ c.in_ok-declare-in-Some.ensures ∙ e)))

pub run_arm-returns-in_ok-returned-in-Some : goal.run_arm-returns-in_ok-returned-in-Some
run_arm-returns-in_ok-returned-in-Some t c =
    let world = world_of c.args.world.now in
    let calls = calls_of c.args.world.now in
    ap (λ (z : Option (List ℕ)). arms_of c.args.world.now c.args.arms.now z c.args.state.now) c.in-Some.is
    ∙ scoped-next (λ (z : State). after (declare c.args.arms.now.some.now (value.Slice c.in-Some.bytes) z) (λ _. run_block world calls c.args.arms.now.yes.now)) c.args.state.now c.run_block-in-Some.new.state c.forget.new.state c.in_ok-returned-in-Some.returned c.len-depth.result
    (goes-on (declare c.args.arms.now.some.now (value.Slice c.in-Some.bytes) c.args.state.now) (λ _. run_block world calls c.args.arms.now.yes.now) _ _ c.in_ok-declare-in-Some.ensures ∙ c.in_ok-returned-in-Some.ensures)
    c.len-depth.ensures c.forget.ensures

pub run_branch-returns-then-truth_of : goal.run_branch-returns-then-truth_of
run_branch-returns-then-truth_of t c =
    let world = world_of c.args.world.now in
    let calls = calls_of c.args.world.now in
    let test : truth_of c.in_ok-test.test ≡ true = sym c.truth_of.ensures ∙ c.if-truth_of.true in
    gives-along c.run_block.result c.run_block.new.state _ _ c.run_block.ensures
    (goes-on (evaluate world c.args.test.now c.args.state.now) (branch (run_block world calls c.args.yes.now) (run_block world calls c.args.no.now)) _ _ c.in_ok-test.ensures ∙ rw test refl)

pub run_branch-returns : goal.run_branch-returns
run_branch-returns t c =
    let world = world_of c.args.world.now in
    let calls = calls_of c.args.world.now in
    let test : truth_of c.in_ok-test.test ≡ false = sym c.truth_of.ensures ∙ c.if-truth_of.false in
    gives-along c.run_block-2.result c.run_block-2.new.state _ _ c.run_block-2.ensures
    (goes-on (evaluate world c.args.test.now c.args.state.now) (branch (run_block world calls c.args.yes.now) (run_block world calls c.args.no.now)) _ _ c.in_ok-test.ensures ∙ rw test refl)

pub repeat-loop-turn-preserved : goal.repeat-loop-turn-preserved
repeat-loop-turn-preserved t c =
    let world = world_of c.args.world.now in
    let budget = c.args.world.now.budget in
    let at = c.loop-turn._turn in
    let more : budget - at ≡ (budget - (at + 1)) + 1 = omega arith in
    let test : truth_of c.in_ok-truth.truth ≡ true = sym c.truth_of.ensures ∙ c.if-not-truth_of.false in
    sym (one-turn world (budget - at) (budget - (at + 1)) (evaluate world c.args.test.now) (run_block world (calls_of c.args.world.now) c.args.body.now)
    c.loop-turn.state c.charge.new.state c.evaluate.new.state c.run_block.new.state _ c.in_ok-truth.truth c.in_ok-returned.returned
    more c.in_ok-charge.ensures c.in_ok-truth.ensures test c.in_ok-returned.ensures c.in-None.is)
    ∙ c.loop-turn.invariant

pub run_statements-loop-statement-preserved : goal.run_statements-loop-statement-preserved
run_statements-loop-statement-preserved t c =
    let world = world_of c.args.world.now in
    let calls = calls_of c.args.world.now in
    let at = c.loop-statement.statement-index in
    let rest = one_by_one (map (execute world calls) (drop (at + 1) c.args.statements.now)) in
    sym (one-statement world calls c.args.statements.now at c.statement-item.result c.loop-statement.state c.loop-statement-test.true c.statement-item.is
    ∙ goes-behind (execute world calls c.statement-item.result c.loop-statement.state) rest c.in_ok-returned.returned c.execute.new.state c.in_ok-returned.ensures c.in-None.is)
    ∙ c.loop-statement.invariant

pub run_statements-returns-in_err-returned : goal.run_statements-returns-in_err-returned
run_statements-returns-in_err-returned t c =
    let world = world_of c.args.world.now in
    let calls = calls_of c.args.world.now in
    let at = c.loop-statement.statement-index in
    let rest = one_by_one (map (execute world calls) (drop (at + 1) c.args.statements.now)) in
    let p = err_from_is_err_and c.from_residual.result c.from_residual.ensures.1 in
    rw (p.1, p.2) (ends-alike c.in_err-returned.field-0.0 c.execute.new.state c.execute.new.state _ _ c.in_err-returned.ensures
    (λ run e. sym c.loop-statement.invariant
    ∙ one-statement world calls c.args.statements.now at c.statement-item.result c.loop-statement.state c.loop-statement-test.true c.statement-item.is
    ∙ ends-with (execute world calls c.statement-item.result c.loop-statement.state) (behind rest) run e))

pub run_pieces-loop-piece-preserved : goal.run_pieces-loop-piece-preserved
run_pieces-loop-piece-preserved t c =
    let arms = arms_of c.args.world.now c.args.arms.now in
    let f = gets_piece (world_of c.args.world.now) c.args.table arms in
    let count = length c.args.keys.now / c.args.width in
    let at = c.loop-piece._piece in
    let more : count - at ≡ (count - (at + 1)) + 1 = omega arith in
    let rest = one_by_one (map f (pieces (count - (at + 1)) c.args.width c.split_at.result.1.now)) in
    record {
      left = fewer-keys (count - at) (count - (at + 1)) c.args.width (length c.loop-piece.rest.now) (length c.split_at.result.1.now) more c.loop-piece.invariant.left c.split_at.ensures.back_len;
      goes = sym (one-piece f (count - at) (count - (at + 1)) c.args.width c.loop-piece.rest.now c.split_at.result.0.now c.split_at.result.1.now c.loop-piece.state more c.split_at.ensures.front c.split_at.ensures.back
          ∙ goes-behind (f c.split_at.result.0.now c.loop-piece.state) rest c.in_ok-returned.returned c.run_arm.new.state
          (goes-on (read (world_of c.args.world.now) c.args.table c.split_at.result.0.now c.loop-piece.state) arms _ _ c.in_ok-found.ensures ∙ c.in_ok-returned.ensures) c.in-None.is)
          ∙ c.loop-piece.invariant.goes;
    }

pub run_pieces-returns-in_err-found : goal.run_pieces-returns-in_err-found
run_pieces-returns-in_err-found t c =
    let arms = arms_of c.args.world.now c.args.arms.now in
    let f = gets_piece (world_of c.args.world.now) c.args.table arms in
    let count = length c.args.keys.now / c.args.width in
    let at = c.loop-piece._piece in
    let more : count - at ≡ (count - (at + 1)) + 1 = omega arith in
    let rest = one_by_one (map f (pieces (count - (at + 1)) c.args.width c.split_at.result.1.now)) in
    let p = err_from_is_err_and c.from_residual.result c.from_residual.ensures.1 in
    rw (p.1, p.2) (ends-alike c.in_err-found.field-0.0 c.read.new.state c.read.new.state _ _ c.in_err-found.ensures
    (λ run e. sym c.loop-piece.invariant.goes
    ∙ one-piece f (count - at) (count - (at + 1)) c.args.width c.loop-piece.rest.now c.split_at.result.0.now c.split_at.result.1.now c.loop-piece.state more c.split_at.ensures.front c.split_at.ensures.back
    ∙ ends-with (f c.split_at.result.0.now c.loop-piece.state) (behind rest) run
    (ends-with (read (world_of c.args.world.now) c.args.table c.split_at.result.0.now c.loop-piece.state) arms run e)))

pub run_pieces-returns-in_err-returned : goal.run_pieces-returns-in_err-returned
run_pieces-returns-in_err-returned t c =
    let arms = arms_of c.args.world.now c.args.arms.now in
    let f = gets_piece (world_of c.args.world.now) c.args.table arms in
    let count = length c.args.keys.now / c.args.width in
    let at = c.loop-piece._piece in
    let more : count - at ≡ (count - (at + 1)) + 1 = omega arith in
    let rest = one_by_one (map f (pieces (count - (at + 1)) c.args.width c.split_at.result.1.now)) in
    let p = err_from_is_err_and c.from_residual-in_err-returned.result c.from_residual-in_err-returned.ensures.1 in
    rw (p.1, p.2) (ends-alike c.in_err-returned.field-0.0 c.run_arm.new.state c.run_arm.new.state _ _ c.in_err-returned.ensures
    (λ run e. sym c.loop-piece.invariant.goes
    ∙ one-piece f (count - at) (count - (at + 1)) c.args.width c.loop-piece.rest.now c.split_at.result.0.now c.split_at.result.1.now c.loop-piece.state more c.split_at.ensures.front c.split_at.ensures.back
    ∙ ends-with (f c.split_at.result.0.now c.loop-piece.state) (behind rest) run
    (goes-on (read (world_of c.args.world.now) c.args.table c.split_at.result.0.now c.loop-piece.state) arms _ _ c.in_ok-found.ensures ∙ e)))

pub run_pieces-returns-in-Some : goal.run_pieces-returns-in-Some
run_pieces-returns-in-Some t c =
    let arms = arms_of c.args.world.now c.args.arms.now in
    let f = gets_piece (world_of c.args.world.now) c.args.table arms in
    let count = length c.args.keys.now / c.args.width in
    let at = c.loop-piece._piece in
    let more : count - at ≡ (count - (at + 1)) + 1 = omega arith in
    let rest = one_by_one (map f (pieces (count - (at + 1)) c.args.width c.split_at.result.1.now)) in
    sym c.loop-piece.invariant.goes
    ∙ one-piece f (count - at) (count - (at + 1)) c.args.width c.loop-piece.rest.now c.split_at.result.0.now c.split_at.result.1.now c.loop-piece.state more c.split_at.ensures.front c.split_at.ensures.back
    ∙ returns-past (f c.split_at.result.0.now c.loop-piece.state) rest c.in_ok-returned.returned c.in-Some.value c.run_arm.new.state
    (goes-on (read (world_of c.args.world.now) c.args.table c.split_at.result.0.now c.loop-piece.state) arms _ _ c.in_ok-found.ensures ∙ c.in_ok-returned.ensures) c.in-Some.is
