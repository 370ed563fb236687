-- A run that was taken is committed as the book does.
use Rattle.std.specs.Prelude.{◌≢◌, ◌||◌, max, Bool, true, false, IsTrue, map, nat_le, nat_lt, slice_get, if◌then◌else◌}
use Rattle.std.specs.List.{AllByRecursion, IsDistinct, list_any}
use Rattle.std.proofs.Common.{◌≡◌, ◌≤◌, ◌+◌, ◌⊎◌, ℕ, List, [], ◌∷◌, ◌++◌, length, take, Option, Some, None, refl, sym, subst, ap, ◌∙◌, inl, inr, arith, length-append}
use Rattle.std.proofs.lemmas.Bool.{ltb-true}
use Rattle.sp_base.specs.declared.outcomes.Outcome.{Outcome}
use Rattle.sp_base.specs.declared.outcomes.Outcome.TheVariants as outcomes
use Rattle.sp_base.specs.declared.reads.ReadItem.{ReadItem}
use Rattle.sp_base.specs.declared.rights.Level.{Level}
use Rattle.sp_base.specs.declared.numbers.TableId.{TableId}
use Rattle.sp_base.specs.declared.writes.Change.{Change}
use Rattle.sp_base.specs.declared.writes.Change.TheVariants as changes
use Rattle.sp_base.specs.declared.writes.Write.{Write}
use Rattle.sp_base.specs.Places.{Place, same_place}
use Rattle.sp_base.specs.RightsList.{can_write}
use Rattle.sp_base.specs.Spelling.{FitsChange, FitsOutcome, FitsWrite}
use Rattle.ext_mean.specs.MeaningValues.{place_changed}
use Rattle.ext_mean.specs.Outcomes.{ChangeFits, PutFits, ReplyFits}
use Rattle.records.specs.GrantsList.{GrantsList}
use Rattle.rw_set.specs.declared.sent.Sent.{Sent}
use Rattle.rw_set.specs.Sending.{is_done}
use Rattle.task.specs.Extensions.{ExtValue}
use Rattle.task.specs.Parking.{ParkedCall}
use Rattle.journal.specs.declared.entry.Entry.{Entry}
use Rattle.journal.specs.declared.entry.Entry.TheVariants as entry
use Rattle.journal.specs.declared.entry.Home.TheVariants.{Client}
use Rattle.journal.specs.Folds.{last_of}
use Rattle.journal.specs.Granted.{granted}
use Rattle.journal.specs.Reads.{bare}
use Rattle.journal.proofs.Versions.{slice_get-append_seam}
use Rattle.book.specs.declared.answers.Commit.{Commit}
use Rattle.book.specs.declared.answers.Commit.TheVariants as commit
use Rattle.book.specs.Ends.{IsShown, StandsIn, moment_of}
use Rattle.book.specs.Standing.{BookValue, KeepsFixed, StandsFor}
use Rattle.book.specs.Verdict.{after_commit, is_full, moved, sent_entry, verdict, verdict_on}
use Rattle.parked.specs.declared.refused.Refused.{Refused}
use Rattle.parked.specs.declared.refused.Refused.TheVariants as refused
use Rattle.parked.specs.Taking.{changes_unfinished, foreign_in, refusal_of, stands_twice}
use Rattle.wire.specs.declared.answers.Answer.TheVariants as answer
use Rattle.wire.specs.declared.requests.Request.TheVariants as request
use Rattle.session.specs.declared.plan.Plan.TheVariants as plan
use Rattle.session.specs.declared.session.Session.{Session}
use Rattle.session.specs.Batches.{commit_item}
use Rattle.session.specs.Keeping.{Changes, call_in}
use Rattle.session.specs.Seeing.{IsCounted}
use Rattle.session.specs.Sending.{SentFits}
use Rattle.session.specs.Standing.{Adds, AreKept, Explains, Fits, IsOpen, IsParkedItemWithin, IsTaken, PlannedFrom, Stands, StandsWithSent, own_entry, tenant_of, terms_over, with_sent}
use Rattle.session.specs.States.{Kept, State, after_answer, seen_in_item, with_call, without}
use Rattle.session.specs.Steps as steps
use Rattle.session.specs.Steps.{IsKept, IsSentVerdict, doubted_call}
use Rattle.session.proofs.Items.{committed-by, conflict-by, moved-held}
use Rattle.session.proofs.Keeping.{call-beside, call-here, call-last, kept-changed, kept-there, split, with-map, with-so, without-map, without-so}
use Rattle.session.proofs.Planning.{at-now, fits-so, now-in, stands-nil}

-- ---- A run that was sent is not refused

not-many : (writes : List Write) → length writes ≤ 64 → nat_lt 64 (length writes) ≡ false
not-many writes few = split (nat_lt 64 (length writes)) (λ holds. (let much = ltb-true 64 (length writes) holds in absurd (omega (arith, few, much)))) (λ fails. fails)

none-passes : {A : Type 0} (test : A → Bool) (xs : List A) → AllByRecursion (λ x. test x ≡ false) xs → list_any test xs ≡ false
none-passes test [] all = refl
none-passes test (x ∷ xs) all = ap (λ (b : Bool). b || list_any test xs) all.0 ∙ none-passes test xs all.1

distinct-once : (places : List Place) → IsDistinct same_place places → stands_twice places ≡ false
unfolding IsDistinct
distinct-once [] distinct = refl
distinct-once (place ∷ places) distinct =
    ap (λ (b : Bool). b || stands_twice places) (none-passes (same_place place) places distinct.0) ∙ distinct-once places distinct.1

done-so : (done : Bool) → done ≡ true → (if done then false else true) ≡ false
done-so true is = refl
done-so false is = absurd cc

shaped-finished : (outcome : Outcome) (writes : List Write) → (writes ≢ [] → IsTrue (is_done outcome)) → changes_unfinished outcome writes ≡ false
shaped-finished outcome [] shaped = refl
shaped-finished outcome (write ∷ writes) shaped = done-so (is_done outcome) (shaped (λ none. cc))

passed : (may : Bool) (why : Refused) (rest : Option Refused) → may ≡ true → rest ≡ None → (if may then rest else Some why) ≡ None
passed true why rest is none = none
passed false why rest is none = absurd cc

skipped : (applies : Bool) (why : Refused) (rest : Option Refused) → applies ≡ false → rest ≡ None → (if applies then Some why else rest) ≡ None
skipped true why rest is none = absurd cc
skipped false why rest is none = none

all-may : (rights : List (TableId × Level)) (writes : List Write) → AllByRecursion (λ write. IsTrue (can_write rights write.table.0)) writes
    → foreign_in rights writes ≡ None
all-may rights [] all = refl
all-may rights (write ∷ writes) all =
    passed (can_write rights write.table.0) (refused.Foreign write.table) (foreign_in rights writes) all.0 (all-may rights writes all.1)

unrefused : (rights : List (TableId × Level)) (sent : Sent) → AllByRecursion (λ write. IsTrue (can_write rights write.table.0)) sent.writes
    → refusal_of rights sent.outcome sent.writes ≡ None
unrefused rights sent all =
    skipped (nat_lt 64 (length sent.writes)) (refused.Shape 1) _ (not-many sent.writes sent.few)
    (skipped (stands_twice (map place_changed sent.writes)) (refused.Shape 2) _ (distinct-once (map place_changed sent.writes) sent.distinct)
    (skipped (changes_unfinished sent.outcome sent.writes) (refused.Shape 3) _ (shaped-finished sent.outcome sent.writes sent.shaped)
    (all-may rights sent.writes all)))

-- ---- What is within its limits

pub reply-fits : (outcome : Outcome) → FitsOutcome outcome → ReplyFits outcome
reply-fits (outcomes.Done reply) fits = fits.1
reply-fits (outcomes.Trapped trap) fits = tt
reply-fits outcomes.Killed fits = tt

change-fits : (write : Write) → FitsWrite write → ChangeFits write
change-fits write fits = by write.change fits.change
  where
    by : (change : Change) → FitsChange change → PutFits change
    by (changes.Put value) fits = fits
    by changes.Del fits = tt

pub changes-fit : (writes : List Write) → AllByRecursion FitsWrite writes → AllByRecursion ChangeFits writes
changes-fit [] all = tt
changes-fit (write ∷ writes) all = (change-fits write all.0, changes-fit writes all.1)

-- ---- Verdicts

moment-full : (full : Bool) (now : ℕ) (outcome : Outcome) → moment_of (if full then commit.Full now else commit.Committed now outcome) ≡ now
moment-full true now outcome = refl
moment-full false now outcome = refl

moment-by : (limit : ℕ) (journal : List Entry) (own : Entry) (outcome : Outcome) (stale : Bool) (last : ℕ) (found : Option ReadItem)
    → moment_of (if stale then commit.Stale last (length journal) else verdict_on limit journal own outcome found) ≡ length journal
moment-by limit journal own outcome true last found = refl
moment-by limit journal own outcome false last (Some read) = refl
moment-by limit journal own outcome false last None = moment-full (is_full limit journal own) (length journal) outcome

-- a verdict is of the journal as it is
moment-is : (limit : ℕ) (journal : List Entry) (sent : Sent) (given : Commit)
    → given ≡ verdict limit journal sent.call (sent_entry sent.call sent.outcome sent.writes sent.reads) sent.outcome sent.reads
    → moment_of given ≡ length journal
moment-is limit journal sent given told =
    ap moment_of told
    ∙ moment-by limit journal (sent_entry sent.call sent.outcome sent.writes sent.reads) sent.outcome
    (nat_le sent.call.number.0 (last_of journal sent.call.caller)) (last_of journal sent.call.caller) (moved journal sent.reads)

-- ---- The answer

-- what a state keeps of the run's call
record HasSent (old : Session) (sent : Sent) (state : State) (ext : ExtValue) : Type 0 where
  one : Kept
  kept : IsKept state sent.call.caller.number sent.call.number.0 one
  is : (let last : ParkedCall = record { call = sent.call; ext = ext; reads = sent.reads } in last ≡ one.parked)

has-sent : (old : Session) (sent : Sent) (state : State) (ext : ExtValue) → IsTaken old sent → Stands (with_sent old sent ext) state → HasSent old sent state ext
has-sent old sent state ext gone was =
    let last : ParkedCall = record { call = sent.call; ext = ext; reads = sent.reads } in
    let found : call_in (old.parked ++ last ∷ []) sent.call.caller.number ≡ Some last =
    call-last old.parked last sent.call.caller.number gone ∙ call-here last [] sent.call.caller.number refl in
    let there = kept-there (old.parked ++ last ∷ []) state.kept sent.call.caller.number last was.kept found in
    record {
      one = there.one;
      kept = record { found = there.found; number_is = ap (λ (p : ParkedCall). p.call.number.0) (sym there.is) };
      is = there.is;
    }

sent-gone : (old : Session) (sent : Sent) (ext : ExtValue) → IsTaken old sent
    → Changes ((with_sent old sent ext).parked) old.parked sent.call.caller.number None
sent-gone old sent ext gone = record {
  own = gone;
  others = λ other apart_from.
      sym (call-beside old.parked (record { call = sent.call; ext = ext; reads = sent.reads }) other (λ equal. apart_from (sym equal)));
}

-- the run is judged by the journal as it is
finish-explained : (old new : Session) (book : BookValue) (journal later : List Entry) (sent : Sent) (given : Commit)
    → Fits old journal book.grants → SentFits (tenant_of old.admitted) book.audit sent journal book.grants → IsTaken old sent
    → given ≡ verdict book.limit journal sent.call (sent_entry sent.call sent.outcome sent.writes sent.reads) sent.outcome sent.reads
    → StandsIn (journal ++ later) (sent_entry sent.call sent.outcome sent.writes sent.reads) given
    → new.admitted ≡ old.admitted → new.parked ≡ old.parked → new.seen ≡ seen_in_item old.seen (commit_item given)
    → Explains (terms_over old book) (journal ++ later) (StandsWithSent old sent) new
    (request.Finish sent.call.caller.number sent.call.number sent.outcome sent.writes) (answer.Finished (commit_item given))
finish-explained old new book journal later sent given fits sent_fits gone told there own parked shown = λ state with_it.
    let ext : ExtValue = with_it.0 in
    let was = with_it.1 in
    let has = has-sent old sent state ext gone was in
    let caller : ℕ = sent.call.caller.number in
    let moment : moment_of given ≡ length journal = moment-is book.limit journal sent given told in
    let seen_is = was.seen in
    let seen_by = fits.seen in
    let by : state.seen ≤ length journal = omega (arith, seen_is, seen_by) in
    let told_so : given ≡ verdict book.limit (take (moment_of given) (journal ++ later)) sent.call (sent_entry sent.call sent.outcome sent.writes sent.reads) sent.outcome sent.reads =
    subst (λ (m : ℕ). given ≡ verdict book.limit (take m (journal ++ later)) sent.call (sent_entry sent.call sent.outcome sent.writes sent.reads) sent.outcome sent.reads) (sym moment)
    (now-in (λ (before : List Entry). given ≡ verdict book.limit before sent.call (sent_entry sent.call sent.outcome sent.writes sent.reads) sent.outcome sent.reads) journal later told) in
    let judged : IsSentVerdict (terms_over old book) (journal ++ later) state.seen has.one sent.outcome sent.writes given = record {
      shown = subst (λ (m : ℕ). IsShown (journal ++ later) state.seen m) (sym moment) (at-now journal later state.seen by);
      told = subst (λ (p : ParkedCall). given ≡ verdict book.limit (take (moment_of given) (journal ++ later)) p.call
          (entry.Invoke p.call sent.outcome sent.writes (map bare p.reads) Client) sent.outcome p.reads) has.is told_so;
      stands = subst (λ (p : ParkedCall). StandsIn (journal ++ later) (entry.Invoke p.call sent.outcome sent.writes (map bare p.reads) Client) given) has.is there;
    } in
    record {
      next = after_answer state (answer.Finished (commit_item given)) (without state.kept caller);
      step = steps.finishes sent.call.caller.tenant caller sent.call.number.0 sent.outcome sent.writes (commit_item given) (without state.kept caller)
          (was.tenant ∙ sent_fits.own)
          (steps.judged has.one (length journal) given has.kept (at-now journal later state.seen by)
          (unrefused (granted book.grants journal sent.call.caller.tenant) sent sent_fits.ran.within.writing) judged);
      stands = record {
        tenant = was.tenant ∙ ap tenant_of (sym own);
        seen = ap (λ (s : ℕ). seen_in_item s (commit_item given)) was.seen ∙ sym shown;
        map = without-map state.kept caller was.map;
        kept = subst (λ (calls : List ParkedCall). AreKept calls (without state.kept caller)) (sym parked)
            (kept-changed ((with_sent old sent ext).parked) old.parked state.kept (without state.kept caller) caller None None was.kept
            (sent-gone old sent ext gone) (without-so state.kept caller) tt);
      };
    }

-- without memory the call is doubtful
finish-doubted : (old new : Session) (book : BookValue) (journal later : List Entry) (sent : Sent)
    → SentFits (tenant_of old.admitted) book.audit sent journal book.grants → IsTaken old sent
    → new.admitted ≡ old.admitted → new.parked ≡ old.parked → new.seen ≡ old.seen
    → Explains (terms_over old book) (journal ++ later) (StandsWithSent old sent) new
    (request.Finish sent.call.caller.number sent.call.number sent.outcome sent.writes) (answer.Finished (commit_item commit.Memory))
finish-doubted old new book journal later sent sent_fits gone own parked shown = λ state with_it.
    let ext : ExtValue = with_it.0 in
    let was = with_it.1 in
    let has = has-sent old sent state ext gone was in
    let caller : ℕ = sent.call.caller.number in
    let caller_is : has.one.parked.call.caller.number ≡ caller = ap (λ (p : ParkedCall). p.call.caller.number) (sym has.is) in
    let left : List Kept = with_call state.kept caller (doubted_call has.one) in
    record {
      next = after_answer state (answer.Finished (commit_item commit.Memory)) left;
      step = steps.finishes sent.call.caller.tenant caller sent.call.number.0 sent.outcome sent.writes (commit_item commit.Memory) left
          (was.tenant ∙ sent_fits.own) (steps.no_finish_memory has.one has.kept);
      stands = record {
        tenant = was.tenant ∙ ap tenant_of (sym own);
        seen = was.seen ∙ sym shown;
        map = with-map state.kept caller has.one (doubted_call has.one) was.map has.kept.found caller_is;
        kept = subst (λ (calls : List ParkedCall). AreKept calls left) (sym parked)
            (kept-changed ((with_sent old sent ext).parked) old.parked state.kept left caller None (Some (doubted_call has.one)) was.kept
            (sent-gone old sent ext gone) (with-so state.kept caller has.one (doubted_call has.one) was.map has.kept.found caller_is) refl);
      };
    }

-- the answer to a Finish is sent
finish-sends : (old new : Session) (before after : BookValue) (journal later : List Entry) (sent : Sent) (given : Commit)
    → IsOpen old → Fits old journal before.grants → KeepsFixed before after → StandsFor after (journal ++ later)
    → Adds journal later (own_entry (answer.Finished (commit_item given))) → new ≡ record old { seen = new.seen } → new.seen ≤ length (journal ++ later)
    → IsParkedItemWithin (commit_item given)
    → Explains (terms_over old before) (journal ++ later) (StandsWithSent old sent) new
    (request.Finish sent.call.caller.number sent.call.number sent.outcome sent.writes) (answer.Finished (commit_item given))
    → PlannedFrom (StandsWithSent old sent) old new before after journal
    (request.Finish sent.call.caller.number sent.call.number sent.outcome sent.writes) (plan.Send (answer.Finished (commit_item given)))
finish-sends old new before after journal later sent given ready fits fixed stands adds new_is seen within explained =
    let opened : IsOpen new = ap (λ (s : Session). s.phase) new_is ∙ ready in
    record {
      later = later;
      stands = stands;
      adds = adds;
      fits = subst (λ (grants : GrantsList). Fits new (journal ++ later) grants) (sym fixed.grants)
          (fits-so old new journal later before.grants fits (ap (λ (s : Session). s.admitted) new_is) (ap (λ (s : Session). s.parked) new_is) seen);
      conf = ap (λ (s : Session). s.conf) new_is;
      does = (record { explained = explained; ends = opened; within = within }, opened);
    }

told-by : (given answered : Commit) → (given ≡ commit.Memory → ⊥) → (given ≡ commit.Memory) ⊎ (given ≡ answered) → given ≡ answered
told-by given answered some (inl is) = absurd (some is)
told-by given answered some (inr is) = is

pub finish-planned : (old new : Session) (before after : BookValue) (journal : List Entry) (sent : Sent) (given : Commit)
    → IsOpen old → Fits old journal before.grants → SentFits (tenant_of old.admitted) before.audit sent journal before.grants → IsTaken old sent
    → FitsOutcome sent.outcome → KeepsFixed before after → StandsFor before journal
    → (given ≡ commit.Memory) ⊎ (given ≡ verdict before.limit journal sent.call (sent_entry sent.call sent.outcome sent.writes sent.reads) sent.outcome sent.reads)
    → StandsFor after (after_commit given journal (sent_entry sent.call sent.outcome sent.writes sent.reads))
    → new ≡ record old { seen = new.seen } → (IsCounted (commit_item given) → new.seen ≡ seen_in_item old.seen (commit_item given))
    → PlannedFrom (StandsWithSent old sent) old new before after journal
    (request.Finish sent.call.caller.number sent.call.number sent.outcome sent.writes) (plan.Send (answer.Finished (commit_item given)))
finish-planned old new before after journal sent (commit.Committed n outcome) ready fits sent_fits gone reply fixed stood is stands new_is shown =
    let own_entry_is : Entry = sent_entry sent.call sent.outcome sent.writes sent.reads in
    let told = told-by (commit.Committed n outcome) (verdict before.limit journal sent.call own_entry_is sent.outcome sent.reads) (λ memory. cc) is in
    let number : n ≡ length journal = moment-is before.limit journal sent (commit.Committed n outcome) told in
    let same : sent.outcome ≡ outcome = committed-by before.limit journal own_entry_is sent.outcome (nat_le sent.call.number.0 (last_of journal sent.call.caller))
    (last_of journal sent.call.caller) (moved journal sent.reads) n outcome told in
    let few = stood.sound.few in
    let most = stood.sound.most in
    let seen : new.seen ≡ max old.seen (n + 1) = shown (omega (arith, number, few, most)) in
    let longer : length (journal ++ own_entry_is ∷ []) ≡ length journal + 1 = length-append journal (own_entry_is ∷ []) in
    let bound = fits.seen in
    finish-sends old new before after journal (own_entry_is ∷ []) sent (commit.Committed n outcome) ready fits fixed stands (number, refl) new_is
    (omega (arith, seen, number, longer, bound)) (subst ReplyFits same (reply-fits sent.outcome reply))
    (finish-explained old new before journal (own_entry_is ∷ []) sent (commit.Committed n outcome) fits sent_fits gone told
    (subst (λ (m : ℕ). slice_get (journal ++ own_entry_is ∷ []) m ≡ Some own_entry_is) (sym number) (slice_get-append_seam journal own_entry_is []))
    (ap (λ (s : Session). s.admitted) new_is) (ap (λ (s : Session). s.parked) new_is) seen)
finish-planned old new before after journal sent (commit.Stale last at) ready fits sent_fits gone reply fixed stood is stands new_is shown =
    let told = told-by (commit.Stale last at) _ (λ memory. cc) is in
    let number : at ≡ length journal = moment-is before.limit journal sent (commit.Stale last at) told in
    let seen : new.seen ≡ max old.seen at = shown tt in
    let bound = fits.seen in
    finish-sends old new before after journal [] sent (commit.Stale last at) ready fits fixed (stands-nil after journal stands) refl new_is
    (omega (arith, seen, number, bound, length-append journal [])) tt
    (finish-explained old new before journal [] sent (commit.Stale last at) fits sent_fits gone told tt
    (ap (λ (s : Session). s.admitted) new_is) (ap (λ (s : Session). s.parked) new_is) seen)
finish-planned old new before after journal sent (commit.Conflict table key read read_at now now_at) ready fits sent_fits gone reply fixed stood is stands new_is shown =
    let own_entry_is : Entry = sent_entry sent.call sent.outcome sent.writes sent.reads in
    let told = told-by (commit.Conflict table key read read_at now now_at) (verdict before.limit journal sent.call own_entry_is sent.outcome sent.reads) (λ memory. cc) is in
    let number : now_at ≡ length journal = moment-is before.limit journal sent (commit.Conflict table key read read_at now now_at) told in
    let found = conflict-by before.limit journal own_entry_is sent.outcome (nat_le sent.call.number.0 (last_of journal sent.call.caller))
    (last_of journal sent.call.caller) (moved journal sent.reads) table key read read_at now now_at told in
    let held : found.0.read_at ≤ length journal = moved-held journal sent.reads found.0 found.1 sent_fits.ran.held in
    let read_is = found.2 in
    let seen : new.seen ≡ max (max old.seen read_at) now_at = shown tt in
    let bound = fits.seen in
    finish-sends old new before after journal [] sent (commit.Conflict table key read read_at now now_at) ready fits fixed (stands-nil after journal stands) refl new_is
    (omega (arith, seen, number, bound, held, read_is, length-append journal [])) tt
    (finish-explained old new before journal [] sent (commit.Conflict table key read read_at now now_at) fits sent_fits gone told tt
    (ap (λ (s : Session). s.admitted) new_is) (ap (λ (s : Session). s.parked) new_is) seen)
finish-planned old new before after journal sent (commit.Full at) ready fits sent_fits gone reply fixed stood is stands new_is shown =
    let told = told-by (commit.Full at) _ (λ memory. cc) is in
    let number : at ≡ length journal = moment-is before.limit journal sent (commit.Full at) told in
    let seen : new.seen ≡ max old.seen at = shown tt in
    let bound = fits.seen in
    finish-sends old new before after journal [] sent (commit.Full at) ready fits fixed (stands-nil after journal stands) refl new_is
    (omega (arith, seen, number, bound, length-append journal [])) tt
    (finish-explained old new before journal [] sent (commit.Full at) fits sent_fits gone told tt
    (ap (λ (s : Session). s.admitted) new_is) (ap (λ (s : Session). s.parked) new_is) seen)
finish-planned old new before after journal sent commit.Memory ready fits sent_fits gone reply fixed stood is stands new_is shown =
    let seen : new.seen ≡ old.seen = shown tt in
    let bound = fits.seen in
    finish-sends old new before after journal [] sent commit.Memory ready fits fixed (stands-nil after journal stands) refl new_is
    (omega (arith, seen, bound, length-append journal [])) tt
    (finish-doubted old new before journal [] sent sent_fits gone (ap (λ (s : Session). s.admitted) new_is) (ap (λ (s : Session). s.parked) new_is) seen)
