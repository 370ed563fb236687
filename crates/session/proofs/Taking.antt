-- What a client sends as the end of its call is taken, or refused.
use Rattle.std.specs.Prelude.{◌==◌, ◌≢◌, Bool, true, false, IsTrue, map, nat_lt, if◌then◌else◌}
use Rattle.std.specs.List.{AllByRecursion}
use Rattle.std.proofs.Common.{◌≡◌, ◌<◌, ℕ, List, [], ◌∷◌, ◌++◌, length, Option, Some, None, refl, sym, subst, ap, ◌∙◌, arith}
use Rattle.std.proofs.lemmas.Bool.{eqb-true}
use Rattle.sp_base.specs.declared.calls.Call.{Call}
use Rattle.sp_base.specs.declared.numbers.CallNo.{CallNo}
use Rattle.sp_base.specs.declared.numbers.TableId.{TableId}
use Rattle.sp_base.specs.declared.numbers.TenantId.{TenantId}
use Rattle.sp_base.specs.declared.outcomes.Outcome.{Outcome}
use Rattle.sp_base.specs.declared.reads.ReadItem.{ReadItem}
use Rattle.sp_base.specs.declared.rights.Level.{Level}
use Rattle.sp_base.specs.declared.writes.Write.{Write}
use Rattle.sp_base.specs.Limits.{IsArguments}
use Rattle.sp_base.specs.RightsList.{can_read, can_write}
use Rattle.ext_mean.specs.MeaningValues.{place_changed}
use Rattle.records.specs.GrantsList.{GrantsList, RightsList}
use Rattle.rw_set.specs.declared.sent.Sent.{Sent}
use Rattle.task.specs.Parking.{ParkedCall}
use Rattle.journal.specs.declared.entry.Entry.{Entry}
use Rattle.journal.specs.Granted.{granted}
use Rattle.journal.specs.Legal.{Names}
use Rattle.journal.specs.Reads.{IsHeld}
use Rattle.book.specs.Standing.{IsTrueTo}
use Rattle.parked.specs.declared.finish.Finish.{Finish}
use Rattle.parked.specs.declared.refused.Refused.{Refused}
use Rattle.parked.specs.declared.refused.Refused.TheVariants as refused
use Rattle.parked.specs.Taking.{changes_unfinished, foreign_in, refusal_of, stands_twice}
use Rattle.wire.specs.Answers.{IsIn}
use Rattle.wire.specs.declared.answers.Answer.TheVariants as answer
use Rattle.wire.specs.declared.items.Item.TheVariants as item
use Rattle.wire.specs.declared.requests.Request.TheVariants as request
use Rattle.session.specs.declared.plan.Ask.TheVariants as ask
use Rattle.session.specs.declared.session.Admitted.{Admitted}
use Rattle.session.specs.declared.session.Session.{Session}
use Rattle.session.specs.Keeping.{Changes, IsOfEach, IsParkedAs, call_in, has_number}
use Rattle.session.specs.Sending.{IsSentAs, SentFits}
use Rattle.session.specs.Standing as standing
use Rattle.session.specs.Standing.{AreKept, Asks, Fits, HasOwnRights, IsOpen, IsParkedIn, IsParkedItemWithin, Matches, ParkedFit, Stands, StandsWithSent, tenant_of}
use Rattle.session.specs.States.{Kept, State, after_answer, kept_of, seen_in_item, with_call}
use Rattle.session.specs.Steps as steps
use Rattle.session.specs.Steps.{doubted_call, refused_item}
use Rattle.session.proofs.Fetching.{is-lost, kept-as}
use Rattle.session.proofs.Keeping.{call-beside, call-caller, call-here, call-last, kept-changed, split, unlike, with-map, with-so}
use Rattle.session.proofs.Telling.{now-shown}
use Rattle.session.proofs.Planning.{seen-by}

-- ---- Refusals

numbered-by : (number : ℕ) (parked : List ParkedCall) (caller : ℕ) (found : Option ParkedCall) → call_in parked caller ≡ found → has_number number found ≡ true
    → (one : ParkedCall) × IsParkedAs parked caller number one
numbered-by number parked caller None is has = absurd cc
numbered-by number parked caller (Some one) is has = (one, record { found = is; number_is = eqb-true one.call.number.0 number has })

-- the parked call of this caller and number
pub numbered : (number : ℕ) (parked : List ParkedCall) (caller : ℕ) → has_number number (call_in parked caller) ≡ true
    → (one : ParkedCall) × IsParkedAs parked caller number one
numbered number parked caller has = numbered-by number parked caller (call_in parked caller) refl has

pub take-not-parked : (old : Session) (tenant : TenantId) (caller number : ℕ) (outcome : Outcome) (writes : List Write) → IsOpen old
    → tenant_of old.admitted ≡ Some tenant → has_number number (call_in old.parked caller) ≡ false
    → standing.Refused old old (request.Finish caller (record { 0 = number }) outcome writes) (answer.Finished item.NotParked)
take-not-parked old tenant caller number outcome writes ready admitted none = record {
  explained = λ grants limit journal fits state was.
      let lost = is-lost old.parked state caller number was.map was.kept none in
      record {
        next = after_answer state (answer.Finished item.NotParked) lost.left;
        step = steps.finishes tenant caller number outcome writes item.NotParked lost.left (was.tenant ∙ admitted) (steps.not_finished lost.left lost.gone);
        stands = record { tenant = was.tenant; seen = was.seen; map = lost.map; kept = lost.kept_so };
      };
  ends = ready;
  fits = λ journal grants fits. fits;
  within = tt;
  conf = refl;
}

-- without memory the call is doubtful, and stays parked
pub take-memory : (old : Session) (tenant : TenantId) (caller number : ℕ) (outcome : Outcome) (writes : List Write) → IsOpen old
    → tenant_of old.admitted ≡ Some tenant → has_number number (call_in old.parked caller) ≡ true
    → standing.Refused old old (request.Finish caller (record { 0 = number }) outcome writes) (answer.Finished item.Memory)
take-memory old tenant caller number outcome writes ready admitted has =
    let there = numbered number old.parked caller has in
    record {
      explained = λ grants limit journal fits state was.
          let kept = kept-as old.parked state caller number there.0 was.kept there.1 in
          let own : kept.one.parked.call.caller.number ≡ caller =
          ap (λ (p : ParkedCall). p.call.caller.number) (sym kept.is) ∙ call-caller old.parked caller there.0 there.1.found in
          let left : List Kept = with_call state.kept caller (doubted_call kept.one) in
          record {
            next = after_answer state (answer.Finished item.Memory) left;
            step = steps.finishes tenant caller number outcome writes item.Memory left (was.tenant ∙ admitted) (steps.no_finish_memory kept.one kept.kept);
            stands = record {
              tenant = was.tenant;
              seen = was.seen;
              map = with-map state.kept caller kept.one (doubted_call kept.one) was.map kept.kept.found own;
              kept = kept-changed old.parked old.parked state.kept left caller (Some there.0) (Some (doubted_call kept.one)) was.kept
                  (record { own = there.1.found; others = λ other apart_from. refl })
                  (with-so state.kept caller kept.one (doubted_call kept.one) was.map kept.kept.found own) kept.is;
            };
          };
      ends = ready;
      fits = λ journal grants fits. fits;
      within = tt;
      conf = refl;
    }

-- ---- Why an end is refused

foreign-by : (may : Bool) (table : TableId) (rest : Option Refused) (why : Refused)
    → (rest ≡ Some why → IsParkedItemWithin (refused_item why)) → (if may then rest else Some (refused.Foreign table)) ≡ Some why
    → IsParkedItemWithin (refused_item why)
foreign-by true table rest why leads is = leads is
foreign-by false table rest why leads is =
    let same : refused.Foreign table ≡ why = cc in
    subst (λ (w : Refused). IsParkedItemWithin (refused_item w)) same tt

foreign-within : (rights : List (TableId × Level)) (writes : List Write) (why : Refused) → foreign_in rights writes ≡ Some why → IsParkedItemWithin (refused_item why)
foreign-within rights [] why is = absurd cc
foreign-within rights (write ∷ writes) why is =
    foreign-by (can_write rights write.table.0) write.table (foreign_in rights writes) why (λ rest. foreign-within rights writes why rest) is

shape-by : (applies : Bool) (code : ℕ) (rest : Option Refused) (why : Refused) → IsIn 1 3 code
    → (rest ≡ Some why → IsParkedItemWithin (refused_item why)) → (if applies then Some (refused.Shape code) else rest) ≡ Some why
    → IsParkedItemWithin (refused_item why)
shape-by true code rest why within leads is =
    let same : refused.Shape code ≡ why = cc in
    subst (λ (w : Refused). IsParkedItemWithin (refused_item w)) same within
shape-by false code rest why within leads is = leads is

refusal-within : (rights : List (TableId × Level)) (outcome : Outcome) (writes : List Write) (why : Refused) → refusal_of rights outcome writes ≡ Some why
    → IsParkedItemWithin (refused_item why)
refusal-within rights outcome writes why is =
    shape-by (nat_lt 64 (length writes)) 1 _ why (record { low = omega arith; high = omega arith })
    (λ second. shape-by (stands_twice (map place_changed writes)) 2 _ why (record { low = omega arith; high = omega arith })
    (λ third. shape-by (changes_unfinished outcome writes) 3 _ why (record { low = omega arith; high = omega arith })
    (λ last. foreign-within rights writes why last) third) second) is

-- a session that admitted this tenant has its rights
own-rights : (own : Option Admitted) (admitted : Admitted) (journal : List Entry) (grants : GrantsList) → own ≡ Some admitted → HasOwnRights own journal grants
    → admitted.rights ≡ granted grants journal admitted.tenant
own-rights own admitted journal grants is rights = subst (λ (a : Option Admitted). HasOwnRights a journal grants) is rights

own-fit : (own : Option Admitted) (admitted : Admitted) (journal : List Entry) (parked : List ParkedCall) (caller : ℕ) (one : ParkedCall) → own ≡ Some admitted
    → ParkedFit own journal parked → call_in parked caller ≡ Some one → IsParkedIn admitted.tenant admitted.rights journal one
own-fit own admitted journal parked caller one is fit found = (subst (λ (a : Option Admitted). ParkedFit a journal parked) is fit) caller one found

-- a refusal shows nothing of the journal
refused-seen : (why : Refused) (seen : ℕ) → seen ≡ seen_in_item seen (refused_item why)
refused-seen (refused.Shape code) seen = refl
refused-seen (refused.Foreign table) seen = refl
refused-seen refused.Memory seen = refl

pub take-refused : (old : Session) (admitted : Admitted) (caller number : ℕ) (outcome : Outcome) (writes : List Write) (why : Refused) → IsOpen old
    → old.admitted ≡ Some admitted → has_number number (call_in old.parked caller) ≡ true
    → refusal_of admitted.rights outcome writes ≡ Some why
    → standing.Refused old old (request.Finish caller (record { 0 = number }) outcome writes) (answer.Finished (refused_item why))
take-refused old admitted caller number outcome writes why ready is has refuses =
    let there = numbered number old.parked caller has in
    record {
      explained = λ grants limit journal fits state was.
          let kept = kept-as old.parked state caller number there.0 was.kept there.1 in
          let rights = own-rights old.admitted admitted journal grants is fits.rights in
          record {
            next = after_answer state (answer.Finished (refused_item why)) state.kept;
            step = steps.finishes admitted.tenant caller number outcome writes (refused_item why) state.kept (was.tenant ∙ ap tenant_of is)
                (steps.refused_so kept.one (length journal) why kept.kept (now-shown journal state.seen (seen-by old state journal grants was fits))
                (subst (λ (r : RightsList). refusal_of r outcome writes ≡ Some why) rights refuses));
            stands = record { tenant = was.tenant; seen = sym (refused-seen why state.seen) ∙ was.seen; map = was.map; kept = was.kept };
          };
      ends = ready;
      fits = λ journal grants fits. fits;
      within = refusal-within admitted.rights outcome writes why refuses;
      conf = refl;
    }

-- ---- What is taken

-- the caller's call is gone from the session, and counted with it
pub still-with : (old new : Session) (state : State) (caller : ℕ) (one : ParkedCall) (sent : Sent) → Stands old state
    → new.admitted ≡ old.admitted → new.seen ≡ old.seen → call_in old.parked caller ≡ Some one → Changes old.parked new.parked caller None
    → sent.call ≡ one.call → sent.reads ≡ one.reads → StandsWithSent new sent state
still-with old new state caller one sent was own seen found changes call_is reads_is =
    let last : ParkedCall = record { call = sent.call; ext = one.ext; reads = sent.reads } in
    let same : last ≡ one =
    ap (λ (c : Call). let p : ParkedCall = record { call = c; ext = one.ext; reads = sent.reads } in p) call_is
    ∙ ap (λ (r : List ReadItem). let p : ParkedCall = record { call = one.call; ext = one.ext; reads = r } in p) reads_is in
    let number : last.call.caller.number ≡ caller = ap (λ (p : ParkedCall). p.call.caller.number) same ∙ call-caller old.parked caller one found in (
      one.ext,
      record {
        tenant = was.tenant ∙ ap tenant_of (sym own);
        seen = was.seen ∙ sym seen;
        map = was.map;
        kept = λ other.
            split (other == caller)
            (λ holds.
            let it : other ≡ caller = eqb-true other caller holds in
            let there : call_in (new.parked ++ last ∷ []) other ≡ call_in old.parked other =
            ap (call_in (new.parked ++ last ∷ [])) it ∙ call-last new.parked last caller changes.own ∙ call-here last [] caller number
            ∙ ap Some same ∙ sym found ∙ ap (call_in old.parked) (sym it) in
            subst (λ (p : Option ParkedCall). Matches p (kept_of state.kept other)) (sym there) (was.kept other))
            (λ fails.
            let differ : other ≢ caller = unlike other caller fails in
            let there : call_in (new.parked ++ last ∷ []) other ≡ call_in old.parked other =
            call-beside new.parked last other (λ equal. differ (sym equal ∙ number)) ∙ changes.others other differ in
            subst (λ (p : Option ParkedCall). Matches p (kept_of state.kept other)) (sym there) (was.kept other));
      },
    )

fit-without : (own : Option Admitted) (journal : List Entry) (before after : List ParkedCall) (caller : ℕ) → length after < length before
    → ParkedFit own journal before → Changes before after caller None → ParkedFit own journal after
fit-without None journal before after caller fewer fit changes = (let none = ap length fit in absurd (omega (arith, fewer, none)))
fit-without (Some admitted) journal before after caller fewer fit changes = λ other one found.
    split (other == caller)
    (λ holds.
    let it : other ≡ caller = eqb-true other caller holds in
    let clash : None ≡ Some one = sym changes.own ∙ ap (call_in after) (sym it) ∙ found in absurd cc)
    (λ fails. fit other one (sym (changes.others other (unlike other caller fails)) ∙ found))

true-to : (audit : Bool) (rights : RightsList) (sent : Sent) (one : ParkedCall) → audit ≡ false
    → IsTrueTo audit rights sent.call one.ext.program sent.outcome sent.writes sent.reads
true-to true rights sent one none = absurd cc
true-to false rights sent one none = tt

sent-fits : (old : Session) (admitted : Admitted) (caller : ℕ) (one : ParkedCall) (finish : Finish) (sent : Sent) (journal : List Entry) (grants : GrantsList)
    → old.admitted ≡ Some admitted → old.conf.audit ≡ false → call_in old.parked caller ≡ Some one → IsSentAs admitted.rights one finish sent → Fits old journal grants
    → SentFits (tenant_of old.admitted) old.conf.audit sent journal grants
sent-fits old admitted caller one finish sent journal grants is trusting found so fits =
    let in_it = own-fit old.admitted admitted journal old.parked caller one is fits.parked found in
    let rights = own-rights old.admitted admitted journal grants is fits.rights in
    let call_is : one.call ≡ sent.call = sym so.call in
    let reads_is : one.reads ≡ sent.reads = sym so.reads in
    let tenant_is : admitted.tenant ≡ sent.call.caller.tenant = sym in_it.own ∙ ap (λ (c : Call). c.caller.tenant) call_is in
    let rights_are : admitted.rights ≡ granted grants journal sent.call.caller.tenant = rights ∙ ap (granted grants journal) tenant_is in
    record {
      own = ap tenant_of is ∙ ap Some tenant_is;
      args = subst (λ (c : Call). IsArguments c.args) call_is in_it.args;
      ran = record {
        program = one.ext.program;
        held = subst (λ (r : List ReadItem). AllByRecursion (IsHeld journal) r) reads_is in_it.held;
        named = subst (λ (c : Call). Names journal c one.ext.program) call_is
            (record { text = one.ext.text; found = in_it.named.found; spelled = in_it.named.accepted.spelled });
        within = record {
          reading = subst (λ (r : RightsList). AllByRecursion (λ read. IsTrue (can_read r read.table.0)) sent.reads) rights_are
              (subst (λ (l : List ReadItem). AllByRecursion (λ read. IsTrue (can_read admitted.rights read.table.0)) l) reads_is in_it.readable);
          writing = subst (λ (r : RightsList). AllByRecursion (λ write. IsTrue (can_write r write.table.0)) sent.writes) rights_are so.within;
        };
        true_to = true-to old.conf.audit (granted grants journal sent.call.caller.tenant) sent one trusting;
      };
    }

pub take-asks : (old new : Session) (admitted : Admitted) (caller : ℕ) (number : CallNo) (finish : Finish) (sent : Sent) → IsOpen old
    → old.admitted ≡ Some admitted → old.conf.audit ≡ false → has_number number.0 (call_in old.parked caller) ≡ true
    → ((one : ParkedCall) → call_in old.parked caller ≡ Some one → IsSentAs admitted.rights one finish sent)
    → Changes old.parked new.parked caller None → length new.parked < length old.parked → IsOfEach new.parked
    → new ≡ record old { parked = new.parked }
    → Asks old new (request.Finish caller number finish.outcome finish.writes) (ask.Finish sent)
take-asks old new admitted caller number finish sent ready is trusting has sent_as changes fewer each new_is =
    let there = numbered number.0 old.parked caller has in
    let one : ParkedCall = there.0 in
    let found : call_in old.parked caller ≡ Some one = there.1.found in
    let so = sent_as one found in
    let own : new.admitted ≡ old.admitted = ap (λ (s : Session). s.admitted) new_is in
    let conf : new.conf ≡ old.conf = ap (λ (s : Session). s.conf) new_is in
    let seen : new.seen ≡ old.seen = ap (λ (s : Session). s.seen) new_is in
    let caller_is : sent.call.caller.number ≡ caller = ap (λ (c : Call). c.caller.number) so.call ∙ call-caller old.parked caller one found in
    let number_is : sent.call.number ≡ number =
    ap (λ (c : Call). c.number) so.call ∙ ap (λ (n : ℕ). let m : CallNo = record { 0 = n } in m) there.1.number_is in
    record {
      stands_for =
          ap (λ (n : ℕ). request.Finish n sent.call.number sent.outcome sent.writes) caller_is
          ∙ ap (λ (n : CallNo). request.Finish caller n sent.outcome sent.writes) number_is
          ∙ ap (λ (o : Outcome). request.Finish caller number o sent.writes) so.outcome
          ∙ ap (λ (w : List Write). request.Finish caller number finish.outcome w) so.writes;
      admitted = own;
      asked = ap (call_in new.parked) caller_is ∙ changes.own;
      ready = ap (λ (s : Session). s.phase) new_is ∙ ready;
      still = λ state was. still-with old new state caller one sent was own seen found changes so.call so.reads;
      fits = λ journal grants fits. record {
        rights = subst (λ (a : Option Admitted). HasOwnRights a journal grants) (sym own) fits.rights;
        seen = (let bound = fits.seen in omega (arith, seen, bound));
        each = each;
        few = (let few = fits.few in omega (arith, few, fewer));
        parked = subst (λ (a : Option Admitted). ParkedFit a journal new.parked) (sym own)
            (fit-without old.admitted journal old.parked new.parked caller fewer fits.parked changes);
      };
      ask_fits = λ journal grants fits.
          subst (λ (a : Option Admitted). SentFits (tenant_of a) new.conf.audit sent journal grants) (sym own)
          (subst (λ (audit : Bool). SentFits (tenant_of old.admitted) audit sent journal grants) (ap (λ (s : Session). s.conf.audit) (sym new_is))
          (sent-fits old admitted caller one finish sent journal grants is trusting found so fits));
      conf = conf;
    }
