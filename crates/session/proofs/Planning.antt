-- What a plan that sends an answer, or ends the session, owes.
use Rattle.std.proofs.Common.{◌≡◌, ◌≤◌, ℕ, List, [], ◌++◌, length, take, Option, Some, refl, sym, subst, ap, ◌∙◌, arith, length-append, append-nil}
use Rattle.std.proofs.Math.Seq.{take-append_seam}
use Rattle.sp_base.specs.declared.limits.TheConstants.{MOST_PARKED}
use Rattle.records.specs.GrantsList.{GrantsList}
use Rattle.task.specs.Parking.{ParkedCall}
use Rattle.journal.specs.declared.entry.Entry.{Entry}
use Rattle.book.specs.Ends.{IsShown}
use Rattle.book.specs.Standing.{BookValue, KeepsFixed, StandsFor}
use Rattle.wire.specs.declared.answers.Answer.{Answer}
use Rattle.wire.specs.declared.requests.Request.{Request}
use Rattle.session.specs.declared.fault.Fault.{Fault}
use Rattle.session.specs.declared.plan.Plan.TheVariants as plan
use Rattle.session.specs.declared.session.Admitted.{Admitted}
use Rattle.session.specs.declared.session.Session.{Session}
use Rattle.session.specs.Keeping.{IsOfEach}
use Rattle.session.specs.Standing.{Adds, AreKept, EndsBy, Explains, Fits, HasEnded, HasOwnRights, IsOpen, IsWithin, ParkedFit, Planned, Stands, own_entry, tenant_of, terms_over}
use Rattle.session.specs.States.{State, after_answer, seen_in}
use Rattle.session.specs.Steps.{Step, faulted}
use Rattle.session.proofs.LongerSteps.{parked-fit-longer, rights-longer}

-- the moment at the end of a journal is shown by every longer one
pub at-now : (journal later : List Entry) (seen : ℕ) → seen ≤ length journal → IsShown (journal ++ later) seen (length journal)
at-now journal later seen by = record { since = by; by_now = omega (arith, length-append journal later) }

pub up-to-now : (journal later : List Entry) → journal ≡ take (length journal) (journal ++ later)
up-to-now journal later = sym (take-append_seam journal later)

-- a fact about a journal is one about a longer one up to that moment
pub now-in : (Holds : List Entry → Type 0) (journal later : List Entry) → Holds journal → Holds (take (length journal) (journal ++ later))
now-in Holds journal later holds = subst Holds (up-to-now journal later) holds

pub stands-nil : (book : BookValue) (journal : List Entry) → StandsFor book journal → StandsFor book (journal ++ [])
stands-nil book journal stands = subst (StandsFor book) (sym (append-nil journal)) stands

pub stays-fixed : (book : BookValue) → KeepsFixed book book
stays-fixed book = record { grants = refl; limit = refl; audit = refl }

-- the session has come to the state behind an answer
pub stands-after : (old new : Session) (state : State) (given : Answer) → Stands old state → new.admitted ≡ old.admitted → new.parked ≡ old.parked
    → new.seen ≡ seen_in old.seen given → Stands new (after_answer state given state.kept)
stands-after old new state given stands own parked shown = record {
  tenant = stands.tenant ∙ ap tenant_of (sym own);
  seen = ap (λ (seen : ℕ). seen_in seen given) stands.seen ∙ sym shown;
  map = stands.map;
  kept = subst (λ (calls : List ParkedCall). AreKept calls state.kept) (sym parked) stands.kept;
}

-- and to the one before it
pub stands-still : (old new : Session) (state : State) → Stands old state → new.admitted ≡ old.admitted → new.parked ≡ old.parked
    → new.seen ≡ old.seen → Stands new state
stands-still old new state stands own parked seen = record {
  tenant = stands.tenant ∙ ap tenant_of (sym own);
  seen = stands.seen ∙ sym seen;
  map = stands.map;
  kept = subst (λ (calls : List ParkedCall). AreKept calls state.kept) (sym parked) stands.kept;
}

pub seen-by : (old : Session) (state : State) (journal : List Entry) (grants : GrantsList) → Stands old state → Fits old journal grants
    → state.seen ≤ length journal
seen-by old state journal grants stands fits = omega (arith, stands.seen, fits.seen)

-- the session fits a longer journal with the calls that are then parked
pub fits-so : (old new : Session) (journal later : List Entry) (grants : GrantsList) → Fits old journal grants → new.admitted ≡ old.admitted
    → new.parked ≡ old.parked → new.seen ≤ length (journal ++ later) → Fits new (journal ++ later) grants
fits-so old new journal later grants fits own parked seen = record {
  rights =
      subst (λ (admitted : Option Admitted). HasOwnRights admitted (journal ++ later) grants) (sym own)
      (rights-longer old.admitted journal later grants fits.rights);
  seen = seen;
  each = subst IsOfEach (sym parked) fits.each;
  few = subst (λ (calls : List ParkedCall). length calls ≤ MOST_PARKED) (sym parked) fits.few;
  parked =
      subst (λ (admitted : Option Admitted). ParkedFit admitted (journal ++ later) new.parked) (sym own)
      (subst (λ (calls : List ParkedCall). ParkedFit old.admitted (journal ++ later) calls) (sym parked)
      (parked-fit-longer old.admitted journal later old.parked fits.parked));
}

fits-then : (old new : Session) (before after : BookValue) (journal later : List Entry) → KeepsFixed before after
    → Fits old journal before.grants → new.admitted ≡ old.admitted → new.parked ≡ old.parked → new.seen ≤ length (journal ++ later)
    → Fits new (journal ++ later) after.grants
fits-then old new before after journal later fixed fits own parked seen =
    subst (λ (grants : GrantsList). Fits new (journal ++ later) grants) (sym fixed.grants)
    (fits-so old new journal later before.grants fits own parked seen)

-- an answer is sent
pub sends : (old new : Session) (before after : BookValue) (journal later : List Entry) (message : Request) (given : Answer)
    → StandsFor after (journal ++ later) → KeepsFixed before after → Adds journal later (own_entry given)
    → Fits old journal before.grants → new.admitted ≡ old.admitted → new.parked ≡ old.parked → new.conf ≡ old.conf → new.seen ≤ length (journal ++ later)
    → IsOpen new → EndsBy given new → IsWithin given → Explains (terms_over old before) (journal ++ later) (Stands old) new message given
    → Planned old new before after journal message (plan.Send given)
sends old new before after journal later message given stands fixed adds fits own parked conf seen ready ends within explained = record {
  later = later;
  stands = stands;
  adds = adds;
  fits = fits-then old new before after journal later fixed fits own parked seen;
  conf = conf;
  does = (record { explained = explained; ends = ends; within = within }, ready);
}

-- the session ends with a fault that is a step to the same state
pub stops : (old new : Session) (book : BookValue) (journal : List Entry) (message : Request) (why : Fault)
    → StandsFor book journal → Fits old journal book.grants → new.admitted ≡ old.admitted → new.parked ≡ old.parked → new.conf ≡ old.conf → new.seen ≡ old.seen
    → HasEnded new → IsWithin (faulted why)
    → ((state : State) → Stands old state → Step (terms_over old book) (journal ++ []) state message (faulted why) state)
    → Planned old new book book journal message (plan.Stop (Some (faulted why)))
stops old new book journal message why stands fits own parked conf seen ended within step = record {
  later = [];
  stands = stands-nil book journal stands;
  adds = refl;
  fits = fits-then old new book book journal [] (stays-fixed book) fits own parked (omega (arith, seen, fits.seen, length-append journal []));
  conf = conf;
  does = (
    record {
      explained = λ state was. record { next = state; step = step state was; stands = stands-still old new state was own parked seen };
      ends = ended;
      within = within;
    },
    ended,
  );
}
