use Rattle.std.proofs.Common.{◌≡◌, arith, length, take, drop}
use Rattle.std.proofs.lemmas.Grind.{common_steps}
use Rattle.sp_outside.proofs.HearingSteps.{heard_front}
use Rattle.sp_outside.proofs.memory.give_what_fits.Goals as goal

pub returns-clause-heard : goal.returns-clause-heard
returns-clause-heard c =
    let e : c.copy_from_slice.new.self ≡ take c.min-n.result (drop c.args.at.now c.args.bytes.now) = grind (arith, common_steps) in
    let size : c.min-n.result ≡ length c.copy_from_slice.new.self = grind (arith, common_steps) in
    heard_front _ _ _ _ _ e size
