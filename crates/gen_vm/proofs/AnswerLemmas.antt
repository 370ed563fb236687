-- What a pause says of the meaning, and what it leaves.
use Rattle.std.proofs.Common.{◌≡◌, ◌≢◌, [], refl, ap, sym, ◌∙◌, subst}
use Rattle.sp_base.specs.declared.outcomes.Outcome.TheVariants as outcome
use Rattle.ext_mean.specs.declared.run.Run.{Run}
use Rattle.ext_mean.specs.declared.run.Run.TheVariants.{Done, Trapped, Spent, Wants}
use Rattle.gen_code.specs.Machine.{Config}
use Rattle.gen_vm.specs.declared.paused.Paused.{Paused}
use Rattle.gen_vm.specs.declared.paused.Paused.TheVariants as paused
use Rattle.gen_vm.specs.declared.phase.Phase.TheVariants.{Ready, Waiting, Over}
use Rattle.gen_vm.specs.Answers.{IsAnswer, Pauses, Tells}
use Rattle.gen_vm.specs.Running.{Running}
use Rattle.gen_vm.specs.Turns.{HasUsed, Stays}

-- a pause leaves all but the phase
pub record Same (before after : Running) : Type 0 where
  pub args : after.args ≡ before.args
  pub budget : after.budget ≡ before.budget
  pub rights : after.rights ≡ before.rights
  pub fed : after.fed ≡ before.fed
  pub here : after.here ≡ before.here

same-as : (before after other : Running) → Same before other → after ≡ other → Same before after
same-as before after other same e = subst (λ (r : Running). Same before r) (sym e) same

itself : (before : Running) → Same before before
itself before = record { args = refl; budget = refl; rights = refl; fed = refl; here = refl }

pub pauses-same : (run : Run) (result : Paused) (before after : Running) → Pauses run result before after → Same before after
pauses-same (Wants table key used) (paused.Wants other another) before after p =
    same-as before after (record before { phase = Waiting table key }) (record { args = refl; budget = refl; rights = refl; fed = refl; here = refl }) p.2
pauses-same (Wants table key used) paused.Memory before after p = same-as before after before (itself before) p
pauses-same Spent paused.Out before after p = same-as before after before (itself before) p
pauses-same (Trapped trap used) paused.Ended before after p =
    same-as before after (record before { phase = Over (outcome.Trapped trap) [] }) (record { args = refl; budget = refl; rights = refl; fed = refl; here = refl }) p
pauses-same (Done reply writes used) paused.Ended before after p =
    same-as before after (record before { phase = Over (outcome.Done reply) writes }) (record { args = refl; budget = refl; rights = refl; fed = refl; here = refl }) p
pauses-same _ _ before after p = absurd p

-- a run that has not ended is where it stopped
pub still : (run : Run) (result : Paused) (before after : Running) (there stop : Config) → Pauses run result before after → result ≢ paused.Ended → Stays run there stop → stop ≡ there
still (Wants table key used) result before after there stop p ended stays = stays
still Spent result before after there stop p ended stays = stays
still (Trapped trap used) paused.Ended before after there stop p ended stays = absurd (ended refl)
still (Done reply writes used) paused.Ended before after there stop p ended stays = absurd (ended refl)
still _ _ before after there stop p ended stays = absurd p

-- the answer, where the run is the meaning
pub answers-so : (run : Run) (result : Paused) (before after : Running) → HasUsed before.here.used run → Pauses run result before after → IsAnswer result after run
answers-so (Wants table key used) (paused.Wants other another) before after units p =
    let here : after.here.used ≡ before.here.used = ap (λ (r : Running). r.here.used) p.2 in
    cc (p.0, p.1, units)
answers-so (Wants table key used) paused.Memory before after units p = tt
answers-so Spent paused.Out before after units p = refl
answers-so (Trapped trap used) paused.Ended before after units p =
    subst (λ (r : Running). IsAnswer paused.Ended r (Trapped trap used)) (sym p)
    (record { ended = record { answers = refl; leaves = refl }; unspent = λ e. absurd (cc); units = units })
answers-so (Done reply writes used) paused.Ended before after units p =
    subst (λ (r : Running). IsAnswer paused.Ended r (Done reply writes used)) (sym p)
    (record { ended = record { answers = refl; leaves = refl }; unspent = λ e. absurd (cc); units = units })
answers-so _ _ before after units p = absurd p

-- and the phase
pub tells-so : (run : Run) (result : Paused) (before after : Running) → before.phase ≡ Ready → Pauses run result before after → Tells result after.phase
tells-so (Wants table key used) (paused.Wants other another) before after ready p =
    let e : after.phase ≡ Waiting table key = ap (λ (r : Running). r.phase) p.2 in
    cc (p.0, p.1)
tells-so (Wants table key used) paused.Memory before after ready p = ap (λ (r : Running). r.phase) p ∙ ready
tells-so Spent paused.Out before after ready p = ap (λ (r : Running). r.phase) p ∙ ready
tells-so (Trapped trap used) paused.Ended before after ready p =
    subst (λ (r : Running). Tells paused.Ended r.phase) (sym p) tt
tells-so (Done reply writes used) paused.Ended before after ready p =
    subst (λ (r : Running). Tells paused.Ended r.phase) (sym p) tt
tells-so _ _ before after ready p = absurd p
