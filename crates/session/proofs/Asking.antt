-- Requests that are answered without the book, and sessions that end.
use Rattle.std.specs.Prelude.{not, true, false, is_some}
use Rattle.std.proofs.Common.{◌≡◌, ℕ, List, [], ◌++◌, Option, Some, None, refl, sym, subst, ap, ◌∙◌, arith, length-append, append-nil}
use Rattle.sp_base.specs.declared.numbers.TenantId.{TenantId}
use Rattle.sp_base.specs.declared.outcomes.Outcome.{Outcome}
use Rattle.sp_base.specs.declared.writes.Write.{Write}
use Rattle.ext_mean.specs.declared.check_codes.BorrowCode.TheVariants as borrows
use Rattle.ext_mean.specs.declared.check_codes.TypeCode.TheVariants as types
use Rattle.ext_mean.specs.declared.codes.SyntaxCode.TheVariants as syntax
use Rattle.ext_mean.specs.declared.refusal.Refusal.{Refusal}
use Rattle.ext_mean.specs.declared.refusal.Refusal.TheVariants as refusal
use Rattle.ext_mean.specs.Refusals.{refusal_number}
use Rattle.ext_check.specs.Checking.{IsRefused}
use Rattle.records.specs.GrantsList.{GrantsList}
use Rattle.journal.specs.declared.entry.Entry.{Entry}
use Rattle.book.specs.Standing.{BookValue, StandsFor}
use Rattle.wire.specs.Answers.{IsIn}
use Rattle.wire.specs.declared.answers.Answer.TheVariants as answer
use Rattle.wire.specs.declared.answers.InstallAnswer.TheVariants as installed
use Rattle.wire.specs.declared.requests.Request.{Request}
use Rattle.wire.specs.declared.requests.Request.TheVariants as request
use Rattle.session.specs.declared.fault.Fault.{Fault}
use Rattle.session.specs.declared.fault.Fault.TheVariants as fault
use Rattle.session.specs.declared.plan.Ask.TheVariants as ask
use Rattle.session.specs.declared.plan.Plan.TheVariants as plan
use Rattle.session.specs.declared.session.Admitted.{Admitted}
use Rattle.session.specs.declared.session.Phase.TheVariants as phase
use Rattle.session.specs.declared.session.Session.{Session}
use Rattle.session.specs.Standing.{Asks, Fits, IsOpen, IsPlain, IsWithin, Planned, Refused, Stands, tenant_of, terms_over}
use Rattle.session.specs.States.{State}
use Rattle.session.specs.Steps as steps
use Rattle.session.specs.Steps.{faulted, is_hello, is_in_turn}
use Rattle.session.proofs.Planning.{fits-so, stands-nil, stands-still, stops}

-- ---- Tenants

pub admitted-some : (own : Option Admitted) → is_some own ≡ true → (tenant : TenantId) × (tenant_of own ≡ Some tenant)
admitted-some None is = absurd cc
admitted-some (Some admitted) is = (admitted.tenant, refl)

pub admitted-none : (own : Option Admitted) → is_some own ≡ false → tenant_of own ≡ None
admitted-none None is = refl
admitted-none (Some admitted) is = absurd cc

-- a request that is no Hello is out of turn where no tenant was admitted
pub out-of-turn : (old : Session) (state : State) (message : Request) → Stands old state → tenant_of old.admitted ≡ None → is_hello message ≡ false
    → is_in_turn state.tenant message ≡ false
out-of-turn old state message stands none is =
    let first : state.tenant ≡ None = stands.tenant ∙ none in
    subst (λ (tenant : Option TenantId). is_in_turn tenant message ≡ false) (sym first) is

-- and a later Hello is out of turn
pub later-hello : (old : Session) (state : State) (message : Request) (tenant : TenantId) → Stands old state → tenant_of old.admitted ≡ Some tenant
    → is_hello message ≡ true → is_in_turn state.tenant message ≡ false
later-hello old state message tenant stands admitted is =
    let later : state.tenant ≡ Some tenant = stands.tenant ∙ admitted in
    subst (λ (own : Option TenantId). is_in_turn own message ≡ false) (sym later) (ap not is)

pub no-hello : (message : Request) → ((tenant : TenantId) (secret : ℕ) → message ≡ request.Hello tenant secret → ⊥) → is_hello message ≡ false
no-hello (request.Hello tenant secret) other = absurd (other tenant secret refl)
no-hello (request.Install text) other = refl
no-hello (request.Batch calls) other = refl
no-hello (request.Fetch caller number table key) other = refl
no-hello (request.Finish caller number outcome writes) other = refl
no-hello (request.Put table key value) other = refl
no-hello (request.TextOf ext) other = refl
no-hello request.Bye other = refl

-- ---- Faults

pub fault-in : (why : Fault) → IsWithin (faulted why)
fault-in fault.BadFrame = record { low = omega arith; high = omega arith }
fault-in fault.TooLong = record { low = omega arith; high = omega arith }
fault-in fault.OutOfTurn = record { low = omega arith; high = omega arith }
fault-in fault.WrongKey = record { low = omega arith; high = omega arith }
fault-in fault.Memory = record { low = omega arith; high = omega arith }

-- the session fits what it fitted
pub fits-here : (old new : Session) (journal : List Entry) (grants : GrantsList) → Fits old journal grants → new.admitted ≡ old.admitted
    → new.parked ≡ old.parked → new.seen ≡ old.seen → Fits new journal grants
fits-here old new journal grants fits own parked seen =
    subst (λ (j : List Entry). Fits new j grants) (append-nil journal)
    (fits-so old new journal [] grants fits own parked (omega (arith, seen, fits.seen, length-append journal [])))

-- what is refused by a fault ends the session
pub refused-by-fault : (old new : Session) (message : Request) → tenant_of old.admitted ≡ None → is_hello message ≡ false
    → new ≡ record old { phase = phase.Ended } → Refused old new message (faulted fault.OutOfTurn)
refused-by-fault old new message none is new_is =
    let own : new.admitted ≡ old.admitted = ap (λ (s : Session). s.admitted) new_is in
    let parked : new.parked ≡ old.parked = ap (λ (s : Session). s.parked) new_is in
    let seen : new.seen ≡ old.seen = ap (λ (s : Session). s.seen) new_is in
    record {
      explained = λ grants limit journal fits state was. record {
        next = state;
        step = steps.out_of_turn message (out-of-turn old state message was none is);
        stands = stands-still old new state was own parked seen;
      };
      ends = ap (λ (s : Session). s.phase) new_is;
      fits = λ journal grants fits. fits-here old new journal grants fits own parked seen;
      within = fault-in fault.OutOfTurn;
      conf = ap (λ (s : Session). s.conf) new_is;
    }

-- ---- Texts that are refused

number-in : (why : Refusal) → IsIn 1 16 (refusal_number why)
number-in (refusal.Syntax syntax.Token) = record { low = omega arith; high = omega arith }
number-in (refusal.Syntax syntax.Long) = record { low = omega arith; high = omega arith }
number-in (refusal.Syntax syntax.Deep) = record { low = omega arith; high = omega arith }
number-in (refusal.Syntax syntax.Many) = record { low = omega arith; high = omega arith }
number-in (refusal.Syntax syntax.Expected) = record { low = omega arith; high = omega arith }
number-in (refusal.Types types.NoName) = record { low = omega arith; high = omega arith }
number-in (refusal.Types types.Order) = record { low = omega arith; high = omega arith }
number-in (refusal.Types types.Twice) = record { low = omega arith; high = omega arith }
number-in (refusal.Types types.Count) = record { low = omega arith; high = omega arith }
number-in (refusal.Types types.Kind) = record { low = omega arith; high = omega arith }
number-in (refusal.Types types.NoReturn) = record { low = omega arith; high = omega arith }
number-in (refusal.Types types.Main) = record { low = omega arith; high = omega arith }
number-in (refusal.Borrows borrows.Moved) = record { low = omega arith; high = omega arith }
number-in (refusal.Borrows borrows.Frozen) = record { low = omega arith; high = omega arith }
number-in (refusal.Borrows borrows.Outlived) = record { low = omega arith; high = omega arith }
number-in (refusal.Borrows borrows.MoveAndBorrow) = record { low = omega arith; high = omega arith }

pub refused-text : (old : Session) (tenant : TenantId) (text : List ℕ) (line : ℕ) (why : Refusal) → IsOpen old
    → tenant_of old.admitted ≡ Some tenant → IsRefused text line why
    → Refused old old (request.Install text) (answer.Installed (installed.Rejected line (refusal_number why)))
refused-text old tenant text line why ready admitted is = record {
  explained = λ grants limit journal fits state was. record {
    next = state;
    step = steps.refuses tenant text line why (was.tenant ∙ admitted) is;
    stands = was;
  };
  ends = ready;
  fits = λ journal grants fits. fits;
  within = number-in why;
  conf = refl;
}

pub refused-memory : (old : Session) (tenant : TenantId) (text : List ℕ) → IsOpen old
    → tenant_of old.admitted ≡ Some tenant → Refused old old (request.Install text) (answer.Installed installed.Memory)
refused-memory old tenant text ready admitted = record {
  explained = λ grants limit journal fits state was. record {
    next = state;
    step = steps.installs_nothing tenant text (was.tenant ∙ admitted);
    stands = was;
  };
  ends = ready;
  fits = λ journal grants fits. fits;
  within = tt;
  conf = refl;
}

asks-same : (session : Session) (message : Request) → IsOpen session → IsPlain message → Asks session session message (ask.Plain message)
asks-same session message ready plain = record {
  stands_for = refl;
  admitted = refl;
  asked = plain;
  ready = ready;
  still = λ state was. was;
  fits = λ journal grants fits. fits;
  ask_fits = λ journal grants fits. tt;
  conf = refl;
}

pub asks-plain : (session : Session) (message : Request) → IsOpen session → ((text : List ℕ) → message ≡ request.Install text → ⊥)
    → ((caller number : ℕ) (outcome : Outcome) (writes : List Write) → message ≡ request.Finish caller (record { 0 = number }) outcome writes → ⊥)
    → Asks session session message (ask.Plain message)
asks-plain session (request.Hello tenant secret) ready no_install no_finish = asks-same session (request.Hello tenant secret) ready tt
asks-plain session (request.Install text) ready no_install no_finish = absurd (no_install text refl)
asks-plain session (request.Batch calls) ready no_install no_finish = asks-same session (request.Batch calls) ready tt
asks-plain session (request.Fetch caller number table key) ready no_install no_finish = asks-same session (request.Fetch caller number table key) ready tt
asks-plain session (request.Finish caller number outcome writes) ready no_install no_finish = absurd (no_finish caller number.0 outcome writes refl)
asks-plain session (request.Put table key value) ready no_install no_finish = asks-same session (request.Put table key value) ready tt
asks-plain session (request.TextOf ext) ready no_install no_finish = asks-same session (request.TextOf ext) ready tt
asks-plain session request.Bye ready no_install no_finish = asks-same session request.Bye ready tt

-- ---- Ends of sessions

-- a Bye in turn ends the session
pub bye-planned : (old new : Session) (book : BookValue) (journal : List Entry) (tenant : TenantId) → Fits old journal book.grants
    → tenant_of old.admitted ≡ Some tenant → StandsFor book journal → new ≡ record old { phase = phase.Ended }
    → Planned old new book book journal request.Bye (plan.Stop None)
bye-planned old new book journal tenant fits admitted stands new_is =
    let own : new.admitted ≡ old.admitted = ap (λ (s : Session). s.admitted) new_is in
    let parked : new.parked ≡ old.parked = ap (λ (s : Session). s.parked) new_is in
    let seen : new.seen ≡ old.seen = ap (λ (s : Session). s.seen) new_is in
    record {
      later = [];
      stands = stands-nil book journal stands;
      adds = refl;
      fits = fits-so old new journal [] book.grants fits own parked (omega (arith, seen, fits.seen, length-append journal []));
      conf = ap (λ (s : Session). s.conf) new_is;
      does = record {
        bye = refl;
        in_turn = ap (λ (t : Option TenantId). is_in_turn t request.Bye) admitted;
        ended = ap (λ (s : Session). s.phase) new_is;
        still = λ state was. stands-still old new state was own parked seen;
      };
    }

-- the session ends with a fault
pub fault-planned : (old new : Session) (book : BookValue) (journal : List Entry) (message : Request) (why : Fault)
    → StandsFor book journal → Fits old journal book.grants → new ≡ record old { phase = phase.Ended }
    → ((state : State) → Stands old state → steps.Step (terms_over old book) (journal ++ []) state message (faulted why) state)
    → Planned old new book book journal message (plan.Stop (Some (faulted why)))
fault-planned old new book journal message why stands fits new_is step =
    stops old new book journal message why stands fits (ap (λ (s : Session). s.admitted) new_is) (ap (λ (s : Session). s.parked) new_is)
    (ap (λ (s : Session). s.conf) new_is) (ap (λ (s : Session). s.seen) new_is) (ap (λ (s : Session). s.phase) new_is) (fault-in why) step
