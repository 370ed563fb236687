-- The parts of a task: room for the record that it waits for, and the run that has ended.
use Rattle.std.proofs.Common.{◌≡◌, ◌<◌, ℕ, Bool, true, false, List, [], ◌∷◌, length, Option, Some, None, refl, subst, arith, if◌then◌else◌}
use Rattle.sp_base.specs.declared.limits.TheConstants.{MOST_READS}
use Rattle.sp_base.specs.declared.numbers.TableId.{TableId}
use Rattle.sp_base.specs.declared.outcomes.Outcome.{Outcome}
use Rattle.sp_base.specs.declared.reads.ReadItem.{ReadItem}
use Rattle.sp_base.specs.declared.writes.Write.{Write}
use Rattle.sp_base.specs.Places.{Place, same_place}
use Rattle.ext_mean.specs.Laws.{place_in}
use Rattle.ext_mean.specs.Outcomes.{EndsWith}
use Rattle.ext_mean.specs.Views.{part, place_of, value_read}
use Rattle.ext_mean.proofs.WantsProved.{are-due}
use Rattle.rw_set.specs.ReadLists.{read_of}
use Rattle.task.specs.declared.phase.Phase.TheVariants.{Waiting, Ended}
use Rattle.task.specs.Tasks.{IsTask, Stands}
use Rattle.task.specs.Turning.{Live, meaning_with}
use Rattle.task.proofs.Turns.{waiting-stands, wanted-paid}

unknown-first : (same : Bool) (read : ReadItem) (known : Option (Option (List ℕ))) (rest : Option ReadItem)
    → (known ≡ None → rest ≡ None) → (if same then Some read.value else known) ≡ None → (if same then Some read else rest) ≡ None
unknown-first true read known rest later unknown = absurd (let clash : Some read.value ≡ None = unknown in cc)
unknown-first false read known rest later unknown = later unknown

-- where the reads know nothing of a place, none of them is of it
pub unknown-unread : (reads : List ReadItem) (place : Place) → value_read reads place ≡ None → read_of reads place ≡ None
unknown-unread [] place unknown = refl
unknown-unread (read ∷ reads) place unknown =
    unknown-first (same_place (place_of read) place) read (value_read reads place) (read_of reads place) (unknown-unread reads place) unknown

-- the record that a task waits for is new to it
pub wanted-unread : (live : Live) (table : TableId) (key : List ℕ) → IsTask live → live.phase ≡ Waiting table key
    → read_of live.reads (place_in table key) ≡ None
wanted-unread live table key task wanted =
    unknown-unread live.reads (place_in table key)
    (are-due live.ext.program live.call.args live.spent (part live.reads live.rights) table key live.spent (waiting-stands live table key task wanted)).unknown

-- and there is room for it
pub wanted-room : (live : Live) (table : TableId) (key : List ℕ) → IsTask live → live.phase ≡ Waiting table key
    → length live.reads < MOST_READS
wanted-room live table key task wanted =
    let paid = wanted-paid live table key task wanted in
    let within = task.within in
    let budget = task.budget in
    omega (arith, paid, within, budget)

-- a task that has ended did so by its meaning
pub ended-meant : (live : Live) (outcome : Outcome) (writes : List Write) → IsTask live → live.phase ≡ Ended outcome writes
    → EndsWith (meaning_with live live.call.budget) outcome writes
ended-meant live outcome writes task ended = subst (Stands live) ended task.stands
