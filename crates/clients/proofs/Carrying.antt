-- A call at its client: how its run goes on and ends.
use Rattle.std.specs.Prelude.{map}
use Rattle.std.specs.List.{IsDistinct}
use Rattle.std.proofs.Common.{◌≡◌, ◌≢◌, ◌≤◌, ◌<◌, ℕ, List, [], ◌∷◌, length, None, IsTrue, ap, sym, subst, length-append, arith}
use Rattle.sp_base.specs.Places.{same_place}
use Rattle.sp_base.specs.declared.numbers.TableId.{TableId}
use Rattle.sp_base.specs.declared.outcomes.Outcome.{Outcome}
use Rattle.sp_base.specs.declared.outcomes.Outcome.TheVariants as outcomes
use Rattle.sp_base.specs.declared.reads.ReadItem.{ReadItem}
use Rattle.sp_base.specs.declared.writes.Write.{Write}
use Rattle.ext_mean.specs.declared.run.Run.{Run}
use Rattle.ext_mean.specs.declared.run.Run.TheVariants as run
use Rattle.ext_mean.specs.MeaningValues.{place_changed}
use Rattle.ext_mean.specs.Outcomes.{EndsWith, wanted_by}
use Rattle.ext_mean.specs.Views.{part, place_of}
use Rattle.ext_mean.proofs.AskedProved.{read-joins, reads-cost}
use Rattle.ext_mean.proofs.ConfinementProved.{changed-once, within-limits}
use Rattle.ext_mean.proofs.WantsProved.{are-due, stay-within}
use Rattle.ext_mean.specs.Laws.{IsWithin}
use Rattle.rw_set.specs.ReadLists.{read_of}
use Rattle.task.proofs.Parts.{unknown-unread}
use Rattle.rw_set.specs.Sending.{is_done}
use Rattle.task.specs.Tasks.{IsTask}
use Rattle.task.specs.Turning.{Live}
use Rattle.clients.specs.Pushed.{HasEnd, IsCarried, IsWanted, Pushed, WantsAt, joined, meant, pushed_of}

pub carried-of : (live : Live) → IsTask live → IsCarried (pushed_of live)
carried-of live task =
    let paid = task.paid in
    let within = task.within in
    record { budget = task.budget; arguments = task.arguments; asked = task.asked; paid = omega (arith, paid, within) }

-- the units of a wanted record are within the budget, with 16 for each read
pub wanted-of : (pushed : Pushed) (table : TableId) (key : List ℕ) → IsCarried pushed → WantsAt (meant pushed) table key → IsWanted pushed table key
wanted-of pushed table key carried wants =
    let cost = reads-cost pushed.ext.program pushed.call.args pushed.call.budget pushed.rights pushed.reads table key wants.used carried.asked wants.is in
    let within : wants.used ≤ pushed.call.budget = used-within (meant pushed) table key wants.used pushed.call.budget wants.is
    (stay-within pushed.ext.program pushed.call.args pushed.call.budget (part pushed.reads pushed.rights)) in
    record { wants = wants; paid = omega (arith, cost, within) }
  where
    used-within : (ran : Run) (table : TableId) (key : List ℕ) (used budget : ℕ) → ran ≡ run.Wants table key used → IsWithin budget ran → used ≤ budget
    used-within ran table key used budget is within = subst (IsWithin budget) is within

-- the record that is wanted joins what was asked
pub carried-more : (pushed : Pushed) (item : ReadItem) → IsCarried pushed → WantsAt (meant pushed) item.table item.key → IsCarried (joined pushed item)
carried-more pushed item carried wants =
    let paid = (wanted-of pushed item.table item.key carried wants).paid in
    let longer = length-append pushed.reads (item ∷ []) in
    record {
      budget = carried.budget;
      arguments = carried.arguments;
      asked = read-joins pushed.ext.program pushed.call.args pushed.call.budget pushed.rights pushed.reads item carried.asked (ap wanted_by wants.is);
      paid = omega (arith, paid, longer);
    }

-- it is new, and there is room for it
pub wanted-unread : (pushed : Pushed) (item : ReadItem) → WantsAt (meant pushed) item.table item.key → read_of pushed.reads (place_of item) ≡ None
wanted-unread pushed item wants =
    unknown-unread pushed.reads (place_of item)
    (are-due pushed.ext.program pushed.call.args pushed.call.budget (part pushed.reads pushed.rights) item.table item.key wants.used wants.is).unknown

pub wanted-room : (pushed : Pushed) (table : TableId) (key : List ℕ) → IsCarried pushed → WantsAt (meant pushed) table key → length pushed.reads < 6250
wanted-room pushed table key carried wants =
    let paid = (wanted-of pushed table key carried wants).paid in
    let budget = carried.budget in
    omega (arith, paid, budget)

-- ---- The end of a call

-- what a run changes has the shape of what a client may send
pub record HasShape (outcome : Outcome) (writes : List Write) : Type 0 where
  pub distinct : IsDistinct same_place (map place_changed writes)
  pub few : length writes ≤ 64
  pub shaped : writes ≢ [] → IsTrue (is_done outcome)

some-done : (ran : Run) (outcome : Outcome) (writes : List Write) → EndsWith ran outcome writes → writes ≢ [] → IsTrue (is_done outcome)
some-done (run.Done reply changes used) outcome writes ends some =
    let answers = ends.answers in
    let same : outcomes.Done reply ≡ outcome = cc in
    ap is_done (sym same)
some-done (run.Trapped trap used) outcome writes ends some = absurd (some (sym ends.leaves))
some-done run.Spent outcome writes ends some = absurd (some (sym ends.leaves))
some-done (run.Wants table key used) outcome writes ends some = absurd (let clash = ends.answers in cc)

pub shape-of : (pushed : Pushed) (outcome : Outcome) (writes : List Write) → EndsWith (meant pushed) outcome writes → HasShape outcome writes
shape-of pushed outcome writes ends =
    let view = part pushed.reads pushed.rights in
    let limits = within-limits pushed.ext.program pushed.call.args pushed.call.budget view in
    record {
      distinct = subst (λ (changes : List Write). IsDistinct same_place (map place_changed changes)) ends.leaves
          (changed-once pushed.ext.program pushed.call.args pushed.call.budget view);
      few = subst (λ (changes : List Write). length changes ≤ 64) ends.leaves limits.few;
      shaped = some-done (meant pushed) outcome writes ends;
    }

-- a run that has ended wants nothing
pub end-wants-nothing : (ran : Run) (table : TableId) (key : List ℕ) → HasEnd ran → WantsAt ran table key → ⊥
end-wants-nothing ran table key ended wants = subst HasEnd wants.is ended

pub ends-have-end : (ran : Run) (outcome : Outcome) (writes : List Write) → EndsWith ran outcome writes → HasEnd ran
ends-have-end (run.Done reply changes used) outcome writes ends = tt
ends-have-end (run.Trapped trap used) outcome writes ends = tt
ends-have-end run.Spent outcome writes ends = tt
ends-have-end (run.Wants table key used) outcome writes ends = absurd (let clash = ends.answers in cc)
