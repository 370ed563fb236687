-- Items of a batch: what they show is in the journal.
use Rattle.std.specs.Prelude.{IsTrue, max, ◌==◌, ◌&&◌, Bool, true, false, nat_le, slice_get, if◌then◌else◌}
use Rattle.std.specs.List.{AllByRecursion}
use Rattle.std.proofs.Common.{◌≡◌, ◌≤◌, ◌<◌, ◌^◌, ℕ, zero, suc, List, [], ◌∷◌, length, take, Option, Some, None, refl, subst, arith}
use Rattle.std.proofs.lemmas.Bool.{leb-true}
use Rattle.std.proofs.lemmas.List.{length-take}
use Rattle.std.proofs.lemmas.Option.{slice_get_within}
use Rattle.sp_base.specs.declared.calls.Asked.{Asked}
use Rattle.sp_base.specs.declared.calls.Call.{Call}
use Rattle.sp_base.specs.declared.calls.Policy.{Policy}
use Rattle.sp_base.specs.declared.numbers.TableId.{TableId}
use Rattle.sp_base.specs.declared.numbers.TenantId.{TenantId}
use Rattle.sp_base.specs.declared.outcomes.Outcome.{Outcome}
use Rattle.sp_base.specs.declared.reads.ReadItem.{ReadItem}
use Rattle.sp_base.specs.declared.limits.TheConstants.{MOST_PUSHED}
use Rattle.sp_base.specs.Placing.{is_pushed}
use Rattle.ext_mean.specs.Outcomes.{ReplyFits}
use Rattle.ext_mean.specs.Views.{part, place_of}
use Rattle.ext_mean.proofs.ConfinementProved.{within-limits}
use Rattle.records.specs.GrantsList.{GrantsList}
use Rattle.rw_set.specs.ReadLists.{IsReadList}
use Rattle.rw_set.specs.Weight.{weight_of}
use Rattle.task.specs.Parking.{ParkedCall}
use Rattle.journal.specs.declared.entry.Entry.{Entry}
use Rattle.journal.specs.Folds.{last_of, version_of}
use Rattle.journal.specs.Granted.{granted}
use Rattle.journal.specs.Reads.{IsHeld}
use Rattle.book.specs.declared.answers.Commit.{Commit}
use Rattle.book.specs.declared.answers.Commit.TheVariants as commit
use Rattle.book.specs.declared.ends.End.{End}
use Rattle.book.specs.declared.ends.End.TheVariants as ended
use Rattle.book.specs.Ends.{IsPushed, IsSettled, ItemHolds}
use Rattle.book.specs.Verdict.{entry_of, is_full, moved, verdict_on}
use Rattle.wire.specs.declared.items.Item.{Item}
use Rattle.wire.specs.declared.items.Item.TheVariants as item
use Rattle.session.specs.Batches as batches
use Rattle.session.specs.Batches.{AreItems, IsItemOf, IsRefusal, call_of, item_of}
use Rattle.session.specs.Seeing.{AllCounted, IsCounted}
use Rattle.session.specs.Standing.{IsItemWithin}
use Rattle.session.specs.States.{State, Terms, seen_in_item, seen_in_items, seen_in_reads}

-- an item of a call that was not handed back
abbrev pub IsHere : Item → Type 0
IsHere (item.Pushed load spent reads) = ⊥
IsHere (item.Foreign table) = ⊥
IsHere (item.Shape code) = ⊥
IsHere item.Lied = ⊥
IsHere item.NotParked = ⊥
IsHere _ = Unit {0}

pub refusal-here : (given : Item) → IsRefusal given → IsHere given
refusal-here item.Repeated is = tt
refusal-here (item.Busy number) is = tt
refusal-here item.BadBudget is = tt
refusal-here (item.NoExtension count at) is = tt
refusal-here item.Memory is = tt
refusal-here (item.Committed n outcome) is = tt
refusal-here (item.Stale last at) is = tt
refusal-here (item.Conflict table key read read_at now now_at) is = tt
refusal-here (item.Full at) is = tt
refusal-here (item.Pushed load spent reads) is = absurd is
refusal-here (item.Foreign table) is = absurd is
refusal-here (item.Shape code) is = absurd is
refusal-here item.Lied is = absurd is
refusal-here item.NotParked is = absurd is

-- ---- Lists

pub all-of : {A : Type 0} (P : A → Type 0) (xs : List A) → ((k : ℕ) (x : A) → slice_get xs k ≡ Some x → P x) → AllByRecursion P xs
all-of P [] each = tt
all-of P (x ∷ xs) each = (each 0 x refl, all-of P xs (λ k y found. each (suc k) y found))

pub all-at : {A : Type 0} (P : A → Type 0) (xs : List A) (k : ℕ) (x : A) → AllByRecursion P xs → slice_get xs k ≡ Some x → P x
all-at P [] k x all found = absurd cc
all-at P (y ∷ xs) zero x all found = let same : y ≡ x = cc in subst P same all.0
all-at P (y ∷ xs) (suc k) x all found = all-at P xs k x all.1 found

pub all-map : {A : Type 0} (P Q : A → Type 0) (xs : List A) → ((x : A) → P x → Q x) → AllByRecursion P xs → AllByRecursion Q xs
all-map P Q [] maps all = tt
all-map P Q (x ∷ xs) maps all = (maps x all.0, all-map P Q xs maps all.1)

-- ---- Verdicts

moved-held-by : (before : List Entry) (first : ReadItem) (reads : List ReadItem) (read : ReadItem) (same : Bool)
    → (if same then moved before reads else Some first) ≡ Some read → IsHeld before first
    → (moved before reads ≡ Some read → read.read_at ≤ length before) → read.read_at ≤ length before
moved-held-by before first reads read true is held rest = rest is
moved-held-by before first reads read false is held rest =
    let one : first ≡ read = cc in subst (λ (r : ReadItem). r.read_at ≤ length before) one held.by_then

pub moved-held : (before : List Entry) (reads : List ReadItem) (read : ReadItem) → moved before reads ≡ Some read
    → AllByRecursion (IsHeld before) reads → read.read_at ≤ length before
moved-held before [] read is held = absurd cc
moved-held before (first ∷ reads) read is held =
    moved-held-by before first reads read (first.version == version_of before (place_of first)) is held.0 (λ rest. moved-held before reads read rest held.1)

no-conflict : (full : Bool) (now : ℕ) (outcome : Outcome) (table : TableId) (key : List ℕ) (read read_at now_is now_at : ℕ)
    → commit.Conflict table key read read_at now_is now_at ≡ (if full then commit.Full now else commit.Committed now outcome) → ⊥
no-conflict true now outcome table key read read_at now_is now_at is = (cc)
no-conflict false now outcome table key read read_at now_is now_at is = (cc)

pub conflict-by : (limit : ℕ) (before : List Entry) (own : Entry) (outcome : Outcome) (stale : Bool) (last : ℕ) (found : Option ReadItem)
    (table : TableId) (key : List ℕ) (read read_at now now_at : ℕ)
    → commit.Conflict table key read read_at now now_at ≡ (if stale then commit.Stale last (length before) else verdict_on limit before own outcome found)
    → (first : ReadItem) × (found ≡ Some first) × (read_at ≡ first.read_at)
conflict-by limit before own outcome true last found table key read read_at now now_at is = absurd cc
conflict-by limit before own outcome false last (Some first) table key read read_at now now_at is = (first, refl, cc)
conflict-by limit before own outcome false last None table key read read_at now now_at is =
    absurd (no-conflict (is_full limit before own) (length before) outcome table key read read_at now now_at is)

committed-where : (full : Bool) (now : ℕ) (ended_so : Outcome) (n : ℕ) (outcome : Outcome)
    → commit.Committed n outcome ≡ (if full then commit.Full now else commit.Committed now ended_so) → ended_so ≡ outcome
committed-where true now ended_so n outcome is = absurd (cc)
committed-where false now ended_so n outcome is = (cc)

pub committed-by : (limit : ℕ) (before : List Entry) (own : Entry) (ended_so : Outcome) (stale : Bool) (last : ℕ) (found : Option ReadItem) (n : ℕ) (outcome : Outcome)
    → commit.Committed n outcome ≡ (if stale then commit.Stale last (length before) else verdict_on limit before own ended_so found)
    → ended_so ≡ outcome
committed-by limit before own ended_so true last found n outcome is = absurd cc
committed-by limit before own ended_so false last (Some first) n outcome is = absurd cc
committed-by limit before own ended_so false last None n outcome is =
    committed-where (is_full limit before own) (length before) ended_so n outcome is

-- ---- What an item shows

-- what an item shows is in the journal, its entry is counted, and its reply is within the limit
pub record IsSoundItem (journal : List Entry) (given : Item) : Type 0 where
  pub seen : (seen : ℕ) → seen ≤ length journal → seen_in_item seen given ≤ length journal
  pub counted : length journal < 2 ^ 64 → IsCounted given
  pub within : IsItemWithin given

settled-sound : (grants : GrantsList) (limit : ℕ) (journal : List Entry) (since : ℕ) (call : Call) (given : Commit)
    → IsSettled grants limit journal since call given → IsSoundItem journal (batches.commit_item given)
settled-sound grants limit journal since call (commit.Committed n outcome) is =
    let there : n < length journal = slice_get_within journal n _ is.judged.stands in
    let judged = is.judged in
    let small = within-limits judged.program call.args call.budget (part judged.reads (granted grants (take n journal) call.caller.tenant)) in
    let same = committed-by limit (take n journal) (entry_of call judged.outcome judged.writes judged.reads) judged.outcome (nat_le call.number.0 (last_of (take n journal) call.caller))
    (last_of (take n journal) call.caller) (moved (take n journal) judged.reads) n outcome judged.told in
    record {
      seen = λ seen by. omega (arith, by, there);
      counted = λ short. omega (arith, short, there);
      within = subst (λ (o : Outcome). ReplyFits o) same (small.reply judged.outcome judged.meant.answers);
    }
settled-sound grants limit journal since call (commit.Stale last at) is =
    let by_now : at ≤ length journal = is.shown.by_now in
    record { seen = λ seen by. omega (arith, by, by_now); counted = λ short. tt; within = tt }
settled-sound grants limit journal since call (commit.Conflict table key read read_at now now_at) is =
    let by_now : now_at ≤ length journal = is.shown.by_now in
    let before : List Entry = take now_at journal in
    let found = conflict-by limit before (entry_of call is.judged.outcome is.judged.writes is.judged.reads) is.judged.outcome (nat_le call.number.0 (last_of before call.caller))
    (last_of before call.caller) (moved before is.judged.reads) table key read read_at now now_at is.judged.told in
    let held : found.0.read_at ≤ length before = moved-held before is.judged.reads found.0 found.1 is.judged.are.held in
    let short : length before ≤ length journal = omega (arith, length-take now_at journal) in
    let read_by : read_at ≤ length journal = omega (arith, found.2, held, short) in
    record { seen = λ seen by. omega (arith, by, by_now, read_by); counted = λ short. tt; within = tt }
settled-sound grants limit journal since call (commit.Full at) is =
    let by_now : at ≤ length journal = is.shown.by_now in
    record { seen = λ seen by. omega (arith, by, by_now); counted = λ short. tt; within = tt }
settled-sound grants limit journal since call commit.Memory is =
    record { seen = λ seen by. by; counted = λ short. tt; within = tt }

-- the moments of reads that a journal holds are within it
reads-seen : (reads : List ReadItem) (before : List Entry) (seen n : ℕ) → seen ≤ n → length before ≤ n → AllByRecursion (IsHeld before) reads
    → seen_in_reads seen reads ≤ n
reads-seen [] before seen n by short held = by
reads-seen (read ∷ reads) before seen n by short held =
    let then_by = held.0.by_then in
    reads-seen reads before (max seen read.read_at) n (omega (arith, by, short, then_by)) short held.1

last-holds : (a b c d : Bool) → (a && b && c && d) ≡ true → d ≡ true
last-holds true true true d is = is
last-holds true true false d is = absurd cc
last-holds true false c d is = absurd cc
last-holds false b c d is = absurd cc

light : (policy : Policy) (load spent bytes : ℕ) (push_ok : Bool) → IsTrue (is_pushed policy load spent bytes push_ok) → bytes ≤ MOST_PUSHED
light policy load spent bytes push_ok pushed =
    leb-true bytes MOST_PUSHED
    (last-holds push_ok (nat_le policy.high load) (nat_le policy.least spent) (nat_le bytes MOST_PUSHED) pushed)

-- a call that was handed back shows the moments of its reads
pub pushed-sound : (grants : GrantsList) (policy : Policy) (journal : List Entry) (since : ℕ) (call : Call) (load spent : ℕ) (parked : ParkedCall)
    → IsReadList parked.reads → IsPushed grants policy journal since call load spent parked → IsSoundItem journal (item.Pushed load spent parked.reads)
pushed-sound grants policy journal since call load spent parked kept is =
    let by_now : is.moment ≤ length journal = is.shown.by_now in
    let short : length (take is.moment journal) ≤ length journal = omega (arith, length-take is.moment journal) in
    record {
      seen = λ seen by. reads-seen parked.reads (take is.moment journal) seen (length journal) by short is.handed.are.held;
      counted = λ small. tt;
      within = (kept, light policy load spent (weight_of parked.reads) call.push_ok is.handed.pushed);
    }

pub end-sound : (grants : GrantsList) (limit : ℕ) (policy : Policy) (journal : List Entry) (since : ℕ) (call : Call) (end : End)
    → IsHere (item_of end) → ItemHolds grants limit policy journal since call end → IsSoundItem journal (item_of end)
end-sound grants limit policy journal since call (ended.Settled (commit.Committed n outcome)) here holds =
    settled-sound grants limit journal since call (commit.Committed n outcome) holds
end-sound grants limit policy journal since call (ended.Settled (commit.Stale last at)) here holds =
    settled-sound grants limit journal since call (commit.Stale last at) holds
end-sound grants limit policy journal since call (ended.Settled (commit.Conflict table key read read_at now now_at)) here holds =
    settled-sound grants limit journal since call (commit.Conflict table key read read_at now now_at) holds
end-sound grants limit policy journal since call (ended.Settled (commit.Full at)) here holds =
    settled-sound grants limit journal since call (commit.Full at) holds
end-sound grants limit policy journal since call (ended.Settled commit.Memory) here holds =
    record { seen = λ seen by. by; counted = λ short. tt; within = tt }
end-sound grants limit policy journal since call (ended.Pushed load spent parked) here holds = absurd here
end-sound grants limit policy journal since call ended.Memory here holds =
    record { seen = λ seen by. by; counted = λ short. tt; within = tt }

pub item-sound : (terms : Terms) (tenant : TenantId) (journal : List Entry) (state : State) (earlier : List Asked) (asked : Asked) (given : Item)
    → IsHere given → IsItemOf terms tenant journal state earlier asked given → IsSoundItem journal given
item-sound terms tenant journal state earlier asked given here (batches.repeated among) =
    record { seen = λ seen by. by; counted = λ short. tt; within = tt }
item-sound terms tenant journal state earlier asked given here (batches.busy kept first found) =
    record { seen = λ seen by. by; counted = λ short. tt; within = tt }
item-sound terms tenant journal state earlier asked given here (batches.bad_budget alone bad) =
    record { seen = λ seen by. by; counted = λ short. tt; within = tt }
item-sound terms tenant journal state earlier asked given here (batches.no_extension count moment alone budget shown is past) =
    let by_now : moment ≤ length journal = shown.by_now in
    record { seen = λ seen by. omega (arith, by, by_now); counted = λ short. tt; within = tt }
item-sound terms tenant journal state earlier asked given here (batches.ends end can holds) =
    end-sound terms.grants terms.limit terms.conf.policy journal state.seen (call_of tenant asked) end here holds
item-sound terms tenant journal state earlier asked given here batches.no_memory =
    record { seen = λ seen by. by; counted = λ short. tt; within = tt }

pub items-sound : (terms : Terms) (tenant : TenantId) (journal : List Entry) (state : State) (calls : List Asked) (items : List Item)
    → AllByRecursion IsHere items → AreItems terms tenant journal state calls items → AllByRecursion (IsSoundItem journal) items
items-sound terms tenant journal state calls items here are =
    all-of (IsSoundItem journal) items (λ k given found.
    let one = are.each k given found in
    item-sound terms tenant journal state (take k calls) one.asked given (all-at IsHere items k given here found) one.is)

pub items-seen : (journal : List Entry) (seen : ℕ) (items : List Item) → seen ≤ length journal
    → AllByRecursion (IsSoundItem journal) items → seen_in_items seen items ≤ length journal
items-seen journal seen [] by sound = by
items-seen journal seen (given ∷ items) by sound = items-seen journal (seen_in_item seen given) items (sound.0.seen seen by) sound.1

pub items-counted : (journal : List Entry) (items : List Item) → length journal < 2 ^ 64
    → AllByRecursion (IsSoundItem journal) items → AllCounted items
items-counted journal items short sound = all-map (IsSoundItem journal) IsCounted items (λ given is. is.counted short) sound

pub items-within : (journal : List Entry) (items : List Item) → AllByRecursion (IsSoundItem journal) items → AllByRecursion IsItemWithin items
items-within journal items sound = all-map (IsSoundItem journal) IsItemWithin items (λ given is. is.within) sound
