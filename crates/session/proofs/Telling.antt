-- Texts, and the first message.
use Rattle.std.specs.Prelude.{max, IsTrue, slice_get}
use Rattle.std.proofs.Common.{◌≡◌, ◌≤◌, ◌⊎◌, ℕ, zero, suc, List, [], ◌∷◌, ◌++◌, length, take, Option, Some, None, refl, sym, subst, ap, ◌∙◌, inl, inr, arith, length-append}
use Rattle.std.proofs.Math.Seq.{take-length}
use Rattle.sp_base.specs.declared.numbers.TenantId.{TenantId}
use Rattle.sp_base.specs.declared.limits.TheConstants.{MOST_PARKED}
use Rattle.records.specs.GrantsList.{RightsList}
use Rattle.task.specs.Parking.{ParkedCall}
use Rattle.journal.specs.declared.entry.Entry.{Entry}
use Rattle.journal.specs.Folds.{texts_of}
use Rattle.journal.specs.Granted.{granted}
use Rattle.book.specs.Ends.{IsShown}
use Rattle.book.specs.Standing.{BookValue, StandsFor}
use Rattle.wire.specs.declared.answers.Answer.TheVariants as answer
use Rattle.wire.specs.declared.answers.TextAnswer.{TextAnswer}
use Rattle.wire.specs.declared.answers.TextAnswer.TheVariants as texts
use Rattle.wire.specs.declared.requests.Request.TheVariants as request
use Rattle.session.specs.declared.plan.Plan.TheVariants as plan
use Rattle.session.specs.declared.session.Admitted.{Admitted}
use Rattle.session.specs.declared.session.Session.{Session}
use Rattle.session.specs.Keeping.{IsOfEach, call_in}
use Rattle.session.specs.Standing.{AreKept, Fits, HasOwnRights, IsOpen, IsWithin, ParkedFit, Planned, tenant_of}
use Rattle.session.specs.States.{after_answer, knows, seen_in_text}
use Rattle.session.specs.Steps as steps
use Rattle.session.specs.Steps.{IsTextAnswer}
use Rattle.session.proofs.LongerSteps.{text-longer}
use Rattle.session.proofs.Planning.{at-now, seen-by, sends, stands-after, stands-nil, stays-fixed}

-- the moment of a journal is shown by itself
pub now-shown : (journal : List Entry) (seen : ℕ) → seen ≤ length journal → IsShown journal seen (length journal)
now-shown journal seen by = record { since = by; by_now = omega arith }

-- a text that was found, or for which there was no memory
pub text-is : (tenant : TenantId) (journal : List Entry) (seen number : ℕ) (text : List ℕ) (given : TextAnswer) → seen ≤ length journal
    → slice_get (texts_of journal tenant) number ≡ Some text → (given ≡ texts.Memory) ⊎ (given ≡ texts.Text text)
    → IsTextAnswer tenant journal seen number given
text-is tenant journal seen number text given by found (inl is) =
    subst (λ (t : TextAnswer). IsTextAnswer tenant journal seen number t) (sym is) steps.no_text_memory
text-is tenant journal seen number text given by found (inr is) =
    subst (λ (t : TextAnswer). IsTextAnswer tenant journal seen number t) (sym is)
    (steps.text_found text (length journal) (now-shown journal seen by)
    (ap (λ (all : List Entry). slice_get (texts_of all tenant) number) (take-length journal) ∙ found))

past-none : {A : Type 0} (xs : List A) (i : ℕ) → slice_get xs i ≡ None → length xs ≤ i
past-none [] i is = omega arith
past-none (x ∷ xs) zero is = absurd cc
past-none (x ∷ xs) (suc i) is = let rest = past-none xs i is in omega (arith, rest)

pub text-is-absent : (tenant : TenantId) (journal : List Entry) (seen number count now : ℕ) → seen ≤ length journal
    → slice_get (texts_of journal tenant) number ≡ None → count ≡ length (texts_of journal tenant) → now ≡ length journal
    → IsTextAnswer tenant journal seen number (texts.NoExtension count now)
text-is-absent tenant journal seen number count now by none counted now_is =
    steps.text_absent count now (subst (λ (m : ℕ). IsShown journal seen m) (sym now_is) (now-shown journal seen by))
    (subst (λ (m : ℕ). count ≡ length (texts_of (take m journal) tenant)) (sym now_is)
    (counted ∙ ap (λ (all : List Entry). length (texts_of all tenant)) (sym (take-length journal))))
    (let past = past-none (texts_of journal tenant) number none in omega (arith, past, counted))

-- what a text's answer shows is in the journal
text-seen : (tenant : TenantId) (journal : List Entry) (seen number : ℕ) (given : TextAnswer) → seen ≤ length journal
    → IsTextAnswer tenant journal seen number given → seen_in_text seen given ≤ length journal
text-seen tenant journal seen number given by (steps.text_found text moment shown is) = by
text-seen tenant journal seen number given by (steps.text_absent count moment shown is past) = omega (arith, by, shown.by_now)
text-seen tenant journal seen number given by steps.no_text_memory = by

pub text-planned : (old new : Session) (book : BookValue) (journal : List Entry) (tenant : TenantId) (number : ℕ) (given : TextAnswer)
    → IsOpen old → Fits old journal book.grants → tenant_of old.admitted ≡ Some tenant → StandsFor book journal
    → ((seen : ℕ) → seen ≤ length journal → IsTextAnswer tenant journal seen number given) → IsWithin (answer.Text given)
    → new ≡ record old { seen = seen_in_text old.seen given }
    → Planned old new book book journal (request.TextOf (record { 0 = number })) (plan.Send (answer.Text given))
text-planned old new book journal tenant number given ready fits tenanted stands is within new_is =
    let own : new.admitted ≡ old.admitted = ap (λ (s : Session). s.admitted) new_is in
    let parked : new.parked ≡ old.parked = ap (λ (s : Session). s.parked) new_is in
    let seen : new.seen ≡ seen_in_text old.seen given = ap (λ (s : Session). s.seen) new_is in
    let by : seen_in_text old.seen given ≤ length journal = text-seen tenant journal old.seen number given fits.seen (is old.seen fits.seen) in
    sends old new book book journal [] (request.TextOf (record { 0 = number })) (answer.Text given)
    (stands-nil book journal stands) (stays-fixed book) refl fits own parked (ap (λ (s : Session). s.conf) new_is)
    (omega (arith, seen, by, length-append journal [])) (ap (λ (s : Session). s.phase) new_is ∙ ready) (ap (λ (s : Session). s.phase) new_is ∙ ready) within
    (λ state was. record {
      next = after_answer state (answer.Text given) state.kept;
      step = steps.tells_text tenant number given (was.tenant ∙ tenanted)
          (text-longer tenant journal [] state.seen number given (is state.seen (seen-by old state journal book.grants was fits)));
      stands = stands-after old new state (answer.Text given) was own parked seen;
    })

-- before a Hello no call is parked
none-fit : (own : Option Admitted) (journal : List Entry) (parked : List ParkedCall) → tenant_of own ≡ None → ParkedFit own journal parked → parked ≡ []
none-fit None journal parked none fit = fit
none-fit (Some admitted) journal parked none fit = absurd cc

nobody-fits : (admitted : Admitted) (journal : List Entry) (parked : List ParkedCall) → parked ≡ [] → ParkedFit (Some admitted) journal parked
nobody-fits admitted journal parked none caller one found =
    let clash : None ≡ Some one = ap (λ (calls : List ParkedCall). call_in calls caller) (sym none) ∙ found in absurd cc

-- a tenant with its key is admitted with its rights
pub hello-planned : (old new : Session) (book : BookValue) (journal : List Entry) (tenant : TenantId) (secret now : ℕ) (own rights : RightsList)
    → IsOpen old → Fits old journal book.grants → tenant_of old.admitted ≡ None → StandsFor book journal → IsTrue (knows old.conf tenant secret)
    → own ≡ granted book.grants journal tenant → rights ≡ granted book.grants journal tenant → now ≡ length journal
    → new ≡ record old { admitted = Some (record { tenant = tenant; rights = own }); seen = max old.seen now }
    → Planned old new book book journal (request.Hello tenant secret) (plan.Send (answer.Welcome rights now))
hello-planned old new book journal tenant secret now own rights ready fits first stands known own_is rights_is now_is new_is =
    let seen : new.seen ≡ max old.seen now = ap (λ (s : Session). s.seen) new_is in
    let admitted : new.admitted ≡ Some (record { tenant = tenant; rights = own }) = ap (λ (s : Session). s.admitted) new_is in
    let opened : IsOpen new = ap (λ (s : Session). s.phase) new_is ∙ ready in
    let parked : new.parked ≡ old.parked = ap (λ (s : Session). s.parked) new_is in
    record {
      later = [];
      stands = stands-nil book journal stands;
      adds = refl;
      fits = record {
        rights = subst (λ (a : Option Admitted). HasOwnRights a (journal ++ []) book.grants) (sym admitted) own_is;
        seen = omega (arith, seen, now_is, fits.seen, length-append journal []);
        each = subst IsOfEach (sym parked) fits.each;
        few = subst (λ (calls : List ParkedCall). length calls ≤ MOST_PARKED) (sym parked) fits.few;
        parked = subst (λ (a : Option Admitted). ParkedFit a (journal ++ []) new.parked) (sym admitted)
            (nobody-fits (record { tenant = tenant; rights = own }) (journal ++ []) new.parked
            (parked ∙ none-fit old.admitted journal old.parked first fits.parked));
      };
      conf = ap (λ (s : Session). s.conf) new_is;
      does = (
        record {
          explained = λ state was. record {
            next = after_answer (record state { tenant = Some tenant }) (answer.Welcome rights now) state.kept;
            step = steps.welcomed tenant secret now rights (was.tenant ∙ first) known
                (subst (λ (m : ℕ). IsShown (journal ++ []) state.seen m) (sym now_is)
                (at-now journal [] state.seen (seen-by old state journal book.grants was fits)))
                rights_is;
            stands = record {
              tenant = ap tenant_of (sym admitted);
              seen = ap (λ (s : ℕ). max s now) was.seen ∙ sym seen;
              map = was.map;
              kept = subst (λ (calls : List ParkedCall). AreKept calls state.kept) (sym parked) was.kept;
            };
          };
          ends = opened;
          within = tt;
        },
        opened,
      );
    }
