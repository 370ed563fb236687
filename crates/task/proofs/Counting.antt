-- How many turns a call may have.
use Rattle.std.proofs.Common.{◌≡◌, ◌≤◌, ◌<◌, ◌+◌, ◌*◌, ◌/◌, ℕ, Bool, true, false, List, [], ◌∷◌, length, nat_lt, refl, sym, ap, ◌∙◌, subst, arith, add-one, length-append, if◌then◌else◌}
use Rattle.std.proofs.Math.Nat.{le-div_iff_mul-le, suc-mul}
use Rattle.sp_base.specs.declared.numbers.TableId.{TableId}
use Rattle.sp_base.specs.declared.outcomes.Outcome.TheVariants as outcome
use Rattle.ext_mean.specs.declared.run.Run.{Run}
use Rattle.ext_mean.specs.declared.run.Run.TheVariants.{Done, Trapped, Spent, Wants}
use Rattle.task.specs.declared.phase.Phase.{Phase}
use Rattle.task.specs.declared.phase.Phase.TheVariants.{Ready, Waiting, Ended}
use Rattle.task.specs.Laws.{AfterTurns, no_turns, one_more, a_record, ReadsArePaid, TurnsRaiseTheUnitsSpent, UnfinishedCallsHadFewTurns}
use Rattle.task.specs.Tasks.{GoesOn, IsTask}
use Rattle.task.specs.Turning.{Live, after_run, begun, ending, meaning_with, spending, units_of_turn}
use Rattle.task.proofs.Runs.{want-raises}
use Rattle.task.proofs.Turns.{begins, ready-stands, records-keep, turns-keep, wanted-paid}

pub are-paid : ReadsArePaid
are-paid live task = (task.paid, task.within)

quantum-raises : (live : Live) (quantum : ℕ) (below : Bool) → live.phase ≡ Ready → 0 < quantum
    → GoesOn (if below then spending live (live.spent + quantum) else ending live outcome.Killed []).phase
    → live.spent < (if below then spending live (live.spent + quantum) else ending live outcome.Killed []).spent
quantum-raises live quantum true ready some on = omega arith
quantum-raises live quantum false ready some on = absurd on

run-raises : (live : Live) (quantum : ℕ) (run : Run) → meaning_with live (units_of_turn live quantum) ≡ run → IsTask live → live.phase ≡ Ready → 0 < quantum
    → GoesOn (after_run live quantum run).phase → live.spent < (after_run live quantum run).spent
run-raises live quantum (Wants table key used) is task ready some on =
    want-raises live (units_of_turn live quantum) table key used (ready-stands live task ready) task.within (omega arith) is
run-raises live quantum Spent is task ready some on = quantum-raises live quantum (nat_lt (live.spent + quantum) live.call.budget) ready some on
run-raises live quantum (Trapped trap used) is task ready some on = absurd on
run-raises live quantum (Done reply writes used) is task ready some on = absurd on

pub turns-raise : TurnsRaiseTheUnitsSpent
turns-raise live quantum task ready some on =
    run-raises live quantum (meaning_with live (units_of_turn live quantum)) refl task ready some on

-- the records that a call has wanted: those that it has read, and the one that it waits for
abbrev wants_at : ℕ → Phase → ℕ
wants_at reads Ready = reads
wants_at reads (Waiting table key) = reads + 1
wants_at reads (Ended outcome writes) = reads

abbrev wants_of : Live → ℕ
wants_of live = wants_at (length live.reads) live.phase

-- each turn spent a quantum or came to a want
record Spends (quantum count : ℕ) (live : Live) : Type 0 where
  quanta : ℕ
  paid : quanta * quantum ≤ live.spent
  counted : count ≡ quanta + wants_of live

-- what holds of a call of this budget behind so many turns
record Counts (budget quantum count : ℕ) (live : Live) : Type 0 where
  task : IsTask live
  budget_is : live.call.budget ≡ budget
  spends : GoesOn live.phase → Spends quantum count live

wants-ready : (live : Live) → live.phase ≡ Ready → wants_of live ≡ length live.reads
wants-ready live ready = ap (wants_at (length live.reads)) ready

wants-waiting : (live : Live) (table : TableId) (key : List ℕ) → live.phase ≡ Waiting table key → wants_of live ≡ length live.reads + 1
wants-waiting live table key wanted = ap (wants_at (length live.reads)) wanted

on-ready : (live : Live) → live.phase ≡ Ready → GoesOn live.phase
on-ready live ready = subst GoesOn (sym ready) tt

on-waiting : (live : Live) (table : TableId) (key : List ℕ) → live.phase ≡ Waiting table key → GoesOn live.phase
on-waiting live table key wanted = subst GoesOn (sym wanted) tt

quantum-spends : (live : Live) (quantum count : ℕ) (below : Bool) → live.phase ≡ Ready → Spends quantum count live
    → GoesOn (if below then spending live (live.spent + quantum) else ending live outcome.Killed []).phase
    → Spends quantum (count + 1) (if below then spending live (live.spent + quantum) else ending live outcome.Killed [])
quantum-spends live quantum count true ready before on =
    let more : (before.quanta + 1) * quantum ≡ before.quanta * quantum + quantum =
    ap (λ n. n * quantum) (add-one before.quanta) ∙ suc-mul before.quanta quantum in
    let old = before.paid in
    let counted = before.counted in
    record { quanta = before.quanta + 1; paid = omega (arith, more, old); counted = omega (arith, counted) }
quantum-spends live quantum count false ready before on = absurd on

run-spends : (live : Live) (quantum count : ℕ) (run : Run) → meaning_with live (units_of_turn live quantum) ≡ run → IsTask live → live.phase ≡ Ready → 0 < quantum
    → Spends quantum count live → GoesOn (after_run live quantum run).phase → Spends quantum (count + 1) (after_run live quantum run)
run-spends live quantum count (Wants table key used) is task ready some before on =
    let raised = run-raises live quantum (Wants table key used) is task ready some on in
    let old = before.paid in
    let counted = before.counted in
    let wanted = wants-ready live ready in
    record { quanta = before.quanta; paid = omega (arith, raised, old); counted = omega (arith, counted, wanted) }
run-spends live quantum count Spent is task ready some before on =
    quantum-spends live quantum count (nat_lt (live.spent + quantum) live.call.budget) ready before on
run-spends live quantum count (Trapped trap used) is task ready some before on = absurd on
run-spends live quantum count (Done reply writes used) is task ready some before on = absurd on

run-budget : (live : Live) (quantum : ℕ) (run : Run) → (after_run live quantum run).call.budget ≡ live.call.budget
run-budget live quantum (Wants table key used) = refl
run-budget live quantum Spent = either (nat_lt (live.spent + quantum) live.call.budget)
  where
    either : (below : Bool) → (if below then spending live (live.spent + quantum) else ending live outcome.Killed []).call.budget ≡ live.call.budget
    either true = refl
    either false = refl
run-budget live quantum (Trapped trap used) = refl
run-budget live quantum (Done reply writes used) = refl

counts : (budget quantum : ℕ) (start : Live) (count : ℕ) (live : Live) → 0 < quantum → start.phase ≡ Ready → start.reads ≡ [] → IsTask start → start.call.budget ≡ budget
    → AfterTurns quantum start count live → Counts budget quantum count live
counts budget quantum start count live some ready none task is no_turns = record {
  task = task;
  budget_is = is;
  spends = λ on.
      let wanted = wants-ready start ready in
      let nothing = ap length none in
      record { quanta = 0; paid = omega arith; counted = omega (arith, wanted, nothing) };
}
counts budget quantum start more next some ready none task is (one_more count live before turns) =
    let old = counts budget quantum start count live some ready none task is before in
    record {
      task = turns-keep live quantum old.task turns;
      budget_is = run-budget live quantum (meaning_with live (units_of_turn live quantum)) ∙ old.budget_is;
      spends = run-spends live quantum count (meaning_with live (units_of_turn live quantum)) refl old.task turns some (old.spends (on-ready live turns));
    }
counts budget quantum start more next some ready none task is (a_record count live item before wanted) =
    let old = counts budget quantum start count live some ready none task is before in
    let last = old.spends (on-waiting live item.table item.key wanted) in
    let wants = wants-waiting live item.table item.key wanted in
    let longer = length-append live.reads (item ∷ []) in
    let paid = last.paid in
    let counted = last.counted in
    record {
      task = records-keep live item old.task wanted;
      budget_is = old.budget_is;
      spends = λ on. record { quanta = last.quanta; paid = omega (arith, paid); counted = omega (arith, counted, wants, longer) };
    }

wants-paid : (live : Live) → IsTask live → (phase : Phase) → live.phase ≡ phase → GoesOn phase → 16 * wants_at (length live.reads) phase ≤ live.spent
wants-paid live task Ready is on = task.paid
wants-paid live task (Waiting table key) is on = wanted-paid live table key task is
wants-paid live task (Ended outcome writes) is on = absurd on

pub few-turns : UnfinishedCallsHadFewTurns
few-turns call ext rights quantum count live may some after on =
    let known = counts call.budget quantum (begun call ext rights) count live some refl refl (begins call ext rights may) refl after in
    let spends = known.spends on in
    let paid = wants-paid live known.task live.phase refl on in
    let within = known.task.within in
    let same = known.budget_is in
    let quanta-paid = spends.paid in
    let counted = spends.counted in
    let bound : spends.quanta * quantum ≤ call.budget = omega (arith, quanta-paid, within, same) in
    let quanta : spends.quanta ≤ call.budget / quantum = (le-div_iff_mul-le {k = quantum} {x = spends.quanta} {y = call.budget} some).1 bound in
    omega (arith, quanta, counted, paid, within, same)
