-- What is said up to a moment of a journal stays as the journal grows.
use Rattle.std.specs.Prelude.{slice_get}
use Rattle.std.proofs.Common.{◌≡◌, ◌≤◌, ℕ, zero, suc, List, [], ◌∷◌, ◌++◌, length, take, Some, sym, subst, arith, length-append}
use Rattle.std.proofs.lemmas.List.{take-append-le}
use Rattle.sp_base.specs.declared.calls.Call.{Call}
use Rattle.sp_base.specs.declared.calls.Policy.{Policy}
use Rattle.records.specs.GrantsList.{GrantsList}
use Rattle.journal.specs.declared.entry.Entry.{Entry}
use Rattle.book.specs.declared.answers.Commit.{Commit}
use Rattle.book.specs.declared.answers.Commit.TheVariants as commit
use Rattle.book.specs.declared.ends.End.{End}
use Rattle.book.specs.declared.ends.End.TheVariants as ended
use Rattle.book.specs.Ends.{IsHandedBack, IsPushed, IsSettled, IsShown, IsVerdict, ItemHolds, StandsIn, moment_of}
use Rattle.task.specs.Parking.{ParkedCall}

pub shown-longer : (journal later : List Entry) (seen moment : ℕ) → IsShown journal seen moment → IsShown (journal ++ later) seen moment
shown-longer journal later seen moment shown = record {
  since = shown.since;
  by_now = omega (arith, shown.by_now, length-append journal later);
}

-- the journal up to a moment that it has come to
pub before-longer : (journal later : List Entry) (moment : ℕ) → moment ≤ length journal → take moment journal ≡ take moment (journal ++ later)
before-longer journal later moment by = sym (take-append-le moment journal later by)

pub found-longer : {A : Type 0} (xs ys : List A) (i : ℕ) (x : A) → slice_get xs i ≡ Some x → slice_get (xs ++ ys) i ≡ Some x
found-longer [] ys i x is = absurd cc
found-longer (y ∷ xs) ys zero x is = is
found-longer (y ∷ xs) ys (suc i) x is = found-longer xs ys i x is

pub stands-longer : (journal later : List Entry) (entry : Entry) (given : Commit) → StandsIn journal entry given → StandsIn (journal ++ later) entry given
stands-longer journal later entry (commit.Committed n outcome) stands = found-longer journal later n entry stands
stands-longer journal later entry (commit.Stale last at) stands = tt
stands-longer journal later entry (commit.Conflict table key read read_at now now_at) stands = tt
stands-longer journal later entry (commit.Full at) stands = tt
stands-longer journal later entry commit.Memory stands = tt

verdict-longer : (grants : GrantsList) (limit : ℕ) (journal later before : List Entry) (seen : ℕ) (call : Call) (given : Commit)
    → IsVerdict grants limit journal before seen call given → IsVerdict grants limit (journal ++ later) before seen call given
verdict-longer grants limit journal later before seen call given is = record {
  program = is.program;
  reads = is.reads;
  outcome = is.outcome;
  writes = is.writes;
  named = is.named;
  are = is.are;
  complete = is.complete;
  rise = is.rise;
  meant = is.meant;
  told = is.told;
  stands = stands-longer journal later _ given is.stands;
}

settled-longer : (grants : GrantsList) (limit : ℕ) (journal later : List Entry) (seen : ℕ) (call : Call) (given : Commit)
    → IsSettled grants limit journal seen call given → IsSettled grants limit (journal ++ later) seen call given
settled-longer grants limit journal later seen call given is = record {
  shown = shown-longer journal later seen (moment_of given) is.shown;
  judged =
      subst (λ (before : List Entry). IsVerdict grants limit (journal ++ later) before seen call given)
      (before-longer journal later (moment_of given) is.shown.by_now)
      (verdict-longer grants limit journal later (take (moment_of given) journal) seen call given is.judged);
}

pushed-longer : (grants : GrantsList) (policy : Policy) (journal later : List Entry) (seen : ℕ) (call : Call) (load spent : ℕ) (parked : ParkedCall)
    → IsPushed grants policy journal seen call load spent parked → IsPushed grants policy (journal ++ later) seen call load spent parked
pushed-longer grants policy journal later seen call load spent parked is = record {
  moment = is.moment;
  shown = shown-longer journal later seen is.moment is.shown;
  handed =
      subst (λ (before : List Entry). IsHandedBack grants policy before seen call load spent parked)
      (before-longer journal later is.moment is.shown.by_now) is.handed;
}

-- how a call ended
pub item-longer : (grants : GrantsList) (limit : ℕ) (policy : Policy) (journal later : List Entry) (seen : ℕ) (call : Call) (end : End)
    → ItemHolds grants limit policy journal seen call end → ItemHolds grants limit policy (journal ++ later) seen call end
item-longer grants limit policy journal later seen call (ended.Settled (commit.Committed n outcome)) holds =
    settled-longer grants limit journal later seen call (commit.Committed n outcome) holds
item-longer grants limit policy journal later seen call (ended.Settled (commit.Stale last at)) holds =
    settled-longer grants limit journal later seen call (commit.Stale last at) holds
item-longer grants limit policy journal later seen call (ended.Settled (commit.Conflict table key read read_at now now_at)) holds =
    settled-longer grants limit journal later seen call (commit.Conflict table key read read_at now now_at) holds
item-longer grants limit policy journal later seen call (ended.Settled (commit.Full at)) holds =
    settled-longer grants limit journal later seen call (commit.Full at) holds
item-longer grants limit policy journal later seen call (ended.Settled commit.Memory) holds = tt
item-longer grants limit policy journal later seen call (ended.Pushed load spent parked) holds =
    pushed-longer grants policy journal later seen call load spent parked holds
item-longer grants limit policy journal later seen call ended.Memory holds = tt
