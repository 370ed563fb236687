-- Turns and records keep what every task keeps.
use Rattle.std.proofs.Common.{◌≡◌, ◌≤◌, ◌+◌, ◌*◌, ℕ, Bool, true, false, List, [], ◌∷◌, ◌++◌, length, min, nat_lt, zero, suc, slice_get, take, Some, refl, sym, ap, ◌∙◌, subst, arith, length-append, if◌then◌else◌}
use Rattle.std.proofs.lemmas.Bool.{ltb-true, ltb-false}
use Rattle.sp_base.specs.declared.numbers.TableId.{TableId}
use Rattle.sp_base.specs.declared.outcomes.Outcome.{Outcome}
use Rattle.sp_base.specs.declared.outcomes.Outcome.TheVariants as outcome
use Rattle.sp_base.specs.declared.reads.ReadItem.{ReadItem}
use Rattle.sp_base.specs.declared.writes.Write.{Write}
use Rattle.ext_mean.specs.declared.run.Run.{Run}
use Rattle.ext_mean.specs.declared.run.Run.TheVariants.{Done, Trapped, Spent, Wants}
use Rattle.ext_mean.specs.Asked.{IsWanted}
use Rattle.ext_mean.specs.Outcomes.{EndsWith, outcome_of, changes_of, wanted_by}
use Rattle.ext_mean.specs.Meaning.{mean}
use Rattle.ext_mean.specs.Views.{part, place_of}
use Rattle.ext_mean.proofs.AskedProved.{read-joins, reads-cost}
use Rattle.task.specs.declared.phase.Phase.TheVariants.{Ready, Waiting}
use Rattle.task.specs.Laws.{CallsBeginAsTasks, TurnsKeepTasks, RecordsKeepTasks}
use Rattle.task.specs.Tasks.{IsTask, Stands, StandsReady, at_begin, at_read, at_quantum}
use Rattle.task.specs.Turning.{Live, after_run, ending, meaning_on, meaning_with, spending, units_of_turn, waiting}
use Rattle.task.proofs.Runs.{want-raises, want-within, wants-unspent, wanted-unspent, with-more, with-used, snoc-same}

nothing-asked : (Holds : ℕ → ReadItem → Type 0) (k : ℕ) (read : ReadItem) → slice_get [] k ≡ Some read → Holds k read
nothing-asked Holds zero read found = absurd (cc)
nothing-asked Holds (suc k) read found = absurd (cc)

pub begins : CallsBeginAsTasks
begins call ext rights may = record {
  some_budget = may.some_budget;
  budget = may.budget;
  arguments = may.arguments;
  asked = record { each = nothing-asked (λ k read. IsWanted (mean ext.program call.args call.budget (part (take k []) rights)) read) };
  last = λ earlier read is. absurd (let long = ap length is in omega (arith, length-append earlier (read ∷ []), long));
  paid = omega arith;
  within = omega arith;
  stands = at_begin refl refl;
}

-- where a task that is ready stands
pub ready-stands : (live : Live) → IsTask live → live.phase ≡ Ready → StandsReady live
ready-stands live task ready = subst (Stands live) ready task.stands

-- where a task that waits stands
pub waiting-stands : (live : Live) (table : TableId) (key : List ℕ) → IsTask live → live.phase ≡ Waiting table key
    → meaning_with live live.spent ≡ Wants table key live.spent
waiting-stands live table key task wanted = subst (Stands live) wanted task.stands

-- the last read is wanted with more units too
last-still : (live : Live) (units : ℕ) → IsTask live → live.spent ≤ units → (earlier : List ReadItem) (read : ReadItem)
    → live.reads ≡ earlier ++ read ∷ [] → IsWanted (meaning_on live units earlier) read
last-still live units task fits earlier read is =
    let old = task.last earlier read is in
    let same = with-more live live.spent units earlier (meaning_on live live.spent earlier) fits
    (wanted-unspent (meaning_on live live.spent earlier) (place_of read) old) refl in
    ap wanted_by same ∙ old

-- a turn's want makes the task wait
pub waits : (live : Live) (units : ℕ) (table : TableId) (key : List ℕ) (used : ℕ) → IsTask live → live.phase ≡ Ready
    → units ≤ live.call.budget → meaning_with live units ≡ Wants table key used → IsTask (waiting live table key used)
waits live units table key used task ready fits wants =
    let raised = want-raises live units table key used (ready-stands live task ready) task.within fits wants in
    let bounded = want-within live units live.reads table key used wants in
    let paid = task.paid in
    record {
      some_budget = task.some_budget;
      budget = task.budget;
      arguments = task.arguments;
      asked = task.asked;
      last = last-still live used task (omega arith);
      paid = omega arith;
      within = omega arith;
      stands = with-used live units used live.reads table key used wants (omega arith);
    }

-- a turn that is spent below the budget
pub spends : (live : Live) (units : ℕ) → IsTask live → live.phase ≡ Ready → live.spent ≤ units → units ≤ live.call.budget
    → meaning_with live units ≡ Spent → IsTask (spending live units)
spends live units task ready raised fits spent =
    let paid = task.paid in
    record {
      some_budget = task.some_budget;
      budget = task.budget;
      arguments = task.arguments;
      asked = task.asked;
      last = last-still live units task raised;
      paid = omega arith;
      within = fits;
      stands = subst (Stands (spending live units)) (sym ready) (at_quantum spent);
    }

-- a run that has ended as the meaning with the whole budget does
pub ends : (live : Live) (outcome : Outcome) (writes : List Write) → IsTask live
    → EndsWith (meaning_with live live.call.budget) outcome writes → IsTask (ending live outcome writes)
ends live outcome writes task meant = record {
  some_budget = task.some_budget;
  budget = task.budget;
  arguments = task.arguments;
  asked = task.asked;
  last = task.last;
  paid = task.paid;
  within = task.within;
  stands = meant;
}

pub done-ends : (live : Live) (units : ℕ) (reply : _) (writes : List Write) (used : ℕ) → units ≤ live.call.budget
    → meaning_with live units ≡ Done reply writes used → EndsWith (meaning_with live live.call.budget) (outcome.Done reply) writes
done-ends live units reply writes used fits is =
    let whole = with-more live units live.call.budget live.reads (Done reply writes used) fits (λ spent. cc) is in
    record { answers = ap outcome_of whole; leaves = ap changes_of whole }

pub trapped-ends : (live : Live) (units : ℕ) (trap : _) (used : ℕ) → units ≤ live.call.budget
    → meaning_with live units ≡ Trapped trap used → EndsWith (meaning_with live live.call.budget) (outcome.Trapped trap) []
trapped-ends live units trap used fits is =
    let whole = with-more live units live.call.budget live.reads (Trapped trap used) fits (λ spent. cc) is in
    record { answers = ap outcome_of whole; leaves = ap changes_of whole }

pub spent-ends : (live : Live) (units : ℕ) → units ≡ live.call.budget
    → meaning_with live units ≡ Spent → EndsWith (meaning_with live live.call.budget) outcome.Killed []
spent-ends live units whole is =
    let spent : meaning_with live live.call.budget ≡ Spent = subst (λ all. meaning_with live all ≡ Spent) whole is in
    record { answers = ap outcome_of spent; leaves = ap changes_of spent }

-- a quantum is spent, below the budget or not
quantum-kept : (live : Live) (quantum : ℕ) (below : Bool) → nat_lt (live.spent + quantum) live.call.budget ≡ below → IsTask live → live.phase ≡ Ready
    → meaning_with live (units_of_turn live quantum) ≡ Spent
    → IsTask (if below then spending live (live.spent + quantum) else ending live outcome.Killed [])
quantum-kept live quantum true is task ready spent =
    let below = ltb-true (live.spent + quantum) live.call.budget is in
    let units : min live.call.budget (live.spent + quantum) ≡ live.spent + quantum = omega arith in
    spends live (live.spent + quantum) task ready (omega arith) (omega arith) (subst (λ all. meaning_with live all ≡ Spent) units spent)
quantum-kept live quantum false is task ready spent =
    let above = ltb-false (live.spent + quantum) live.call.budget is in
    let units : min live.call.budget (live.spent + quantum) ≡ live.call.budget = omega arith in
    ends live outcome.Killed [] task (spent-ends live (units_of_turn live quantum) units spent)

run-keeps : (live : Live) (quantum : ℕ) (run : Run) → meaning_with live (units_of_turn live quantum) ≡ run → IsTask live → live.phase ≡ Ready
    → IsTask (after_run live quantum run)
run-keeps live quantum (Wants table key used) is task ready =
    waits live (units_of_turn live quantum) table key used task ready (omega arith) is
run-keeps live quantum Spent is task ready =
    quantum-kept live quantum (nat_lt (live.spent + quantum) live.call.budget) refl task ready is
run-keeps live quantum (Trapped trap used) is task ready =
    ends live (outcome.Trapped trap) [] task (trapped-ends live (units_of_turn live quantum) trap used (omega arith) is)
run-keeps live quantum (Done reply writes used) is task ready =
    ends live (outcome.Done reply) writes task (done-ends live (units_of_turn live quantum) reply writes used (omega arith) is)

pub turns-keep : TurnsKeepTasks
turns-keep live quantum task ready = run-keeps live quantum (meaning_with live (units_of_turn live quantum)) refl task ready

-- a wanted record is wanted with the whole budget
pub wanted-whole : (live : Live) (table : TableId) (key : List ℕ) → IsTask live → live.phase ≡ Waiting table key
    → meaning_with live live.call.budget ≡ Wants table key live.spent
wanted-whole live table key task wanted =
    with-more live live.spent live.call.budget live.reads (Wants table key live.spent) task.within
    (wants-unspent (Wants table key live.spent) table key live.spent refl) (waiting-stands live table key task wanted)

-- and its 16 units are among those spent
pub wanted-paid : (live : Live) (table : TableId) (key : List ℕ) → IsTask live → live.phase ≡ Waiting table key
    → 16 * (length live.reads + 1) ≤ live.spent
wanted-paid live table key task wanted =
    reads-cost live.ext.program live.call.args live.call.budget live.rights live.reads table key live.spent task.asked
    (wanted-whole live table key task wanted)

pub records-keep : RecordsKeepTasks
records-keep live item task wanted =
    let stood = waiting-stands live item.table item.key task wanted in
    let paid = wanted-paid live item.table item.key task wanted in
    let longer = length-append live.reads (item ∷ []) in
    record {
      some_budget = task.some_budget;
      budget = task.budget;
      arguments = task.arguments;
      asked = read-joins live.ext.program live.call.args live.call.budget live.rights live.reads item task.asked
          (ap wanted_by (wanted-whole live item.table item.key task wanted));
      last = λ earlier read is. last-given earlier read (snoc-same live.reads earlier item read is);
      paid = omega (arith, paid, longer);
      within = task.within;
      stands = at_read live.reads item refl stood;
    }
  where
    last-given : (earlier : List ReadItem) (read : ReadItem) → (live.reads ≡ earlier) × (item ≡ read) → IsWanted (meaning_on live live.spent earlier) read
    last-given earlier read same =
        subst (λ reads. IsWanted (meaning_on live live.spent reads) read) same.0
        (subst (λ one. IsWanted (meaning_on live live.spent live.reads) one) same.1 (ap wanted_by (waiting-stands live item.table item.key task wanted)))
