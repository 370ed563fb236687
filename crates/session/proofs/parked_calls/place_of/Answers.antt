-- The place is that of the caller's call.
use Rattle.std.proofs.Common.{◌≡◌, Some, sym, ◌∙◌, refl, arith}
use Rattle.std.proofs.lemmas.Grind.{common_steps}
use Rattle.std.proofs.lemmas.Option.{slice_get_read}
use Rattle.session.specs.Keeping.{call_in}
use Rattle.session.proofs.parked_calls.place_of.Goals as goal

pub returns-then-call-caller-clause-there : goal.returns-then-call-caller-clause-there
returns-then-call-caller-clause-there c =
    let read = c.index-calls-place in
    let first : call_in c.args.calls.now c.args.caller ≡ Some read.result = grind (arith, common_steps) in
    record {
      there = slice_get_read c.args.calls.now _ c.loop-place.place read.result refl c.loop-place-test.true read.is ∙ sym first;
      within = c.loop-place-test.true;
    }
