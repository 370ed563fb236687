-- What a run keeps, from each piece of its work to the next: its limits, and its rights.
use Rattle.std.specs.Prelude.{IsTrue}
use Rattle.std.specs.List.{AllByRecursion, IsDistinct}
use Rattle.std.proofs.Common.{◌≡◌, ℕ, ◌+◌, ◌≤◌, Bool, true, false, List, [], ◌∷◌, length, map, Option, Some, None, refl, subst, arith, if◌then◌else◌, nat_le}
use Rattle.sp_base.specs.declared.numbers.TableId.{TableId}
use Rattle.sp_base.specs.declared.outcomes.Outcome.{Outcome}
use Rattle.sp_base.specs.declared.outcomes.Outcome.TheVariants as outcome
use Rattle.sp_base.specs.declared.outcomes.Trap.{Trap}
use Rattle.sp_base.specs.declared.rights.Level.{Level}
use Rattle.sp_base.specs.declared.writes.Change.TheVariants.{Put}
use Rattle.sp_base.specs.declared.writes.Write.{Write}
use Rattle.sp_base.specs.Limits.{IsKey}
use Rattle.sp_base.specs.Places.{Place, same_place}
use Rattle.sp_base.specs.RightsList.{can_write}
use Rattle.ext_mean.specs.declared.run.Run.{Run}
use Rattle.ext_mean.specs.declared.run.Run.TheVariants.{Trapped, Spent, Wants}
use Rattle.ext_mean.specs.declared.state.Local.{Local}
use Rattle.ext_mean.specs.declared.state.State.{State}
use Rattle.ext_mean.specs.declared.state.Value.{Value}
use Rattle.ext_mean.specs.declared.state.Value.TheVariants as value
use Rattle.ext_mean.specs.Confinement.{IsWithinLimits}
use Rattle.ext_mean.specs.MeaningValues.{place_changed}
use Rattle.ext_mean.specs.Outcomes.{changes_of, ReplyFits, ChangeFits}
use Rattle.ext_mean.specs.Work.{World, Step, Next, Ends, Work, after, ◌>>=◌, give, charge, require, known_or_wanted, in_order}
use Rattle.ext_mean.proofs.Places.{none-distinct}

-- a change that the rights and the limits allow
pub record IsAllowed (rights : List (TableId × Level)) (write : Write) : Type 0 where
  pub writable : IsTrue (can_write rights write.table.0)
  pub key : IsKey write.key
  pub fits : ChangeFits write

-- a buffer with a place is one that `put` may make a change
abbrev pub Holds : List (TableId × Level) → Value → Type 0
Holds rights (value.Buf buffer) =
    IsAllowed rights (record { table = buffer.table; key = buffer.key; change = Put buffer.bytes })
Holds rights (value.Int number) = Unit {0}
Holds rights (value.Bool truth) = Unit {0}
Holds rights (value.Slice bytes) = Unit {0}
Holds rights (value.Temp bytes) = Unit {0}

abbrev pub LocalHolds : List (TableId × Level) → Local → Type 0
LocalHolds rights local = Holds rights local.value

-- what a run has is within the rights and the limits
pub record Keeps (rights : List (TableId × Level)) (state : State) : Type 0 where
  pub reply : length state.reply ≤ 4096
  pub few : length state.writes ≤ 64
  pub writes : AllByRecursion (IsAllowed rights) state.writes
  pub distinct : IsDistinct same_place (map place_changed state.writes)
  pub locals : AllByRecursion (LocalHolds rights) state.locals

-- a run that ended or wants something is within them
pub record RunKeeps (rights : List (TableId × Level)) (run : Run) : Type 0 where
  pub limits : IsWithinLimits run
  pub writable : AllByRecursion (λ write. IsTrue (can_write rights write.table.0)) (changes_of run)
  pub distinct : IsDistinct same_place (map place_changed (changes_of run))

-- a step keeps to them, and hands on a value of which this holds
abbrev StepFact : {A : Type 0} → List (TableId × Level) → (A → Type 0) → Step A → Type 0
StepFact rights Q (Next value state) = Keeps rights state × Q value
StepFact rights Q (Ends run) = RunKeeps rights run

pub record StepKeeps {A : Type 0} (rights : List (TableId × Level)) (Q : A → Type 0) (step : Step A) : Type 0 where
  pub fact : StepFact rights Q step

-- the reply of an outcome that was reached
abbrev Fits : Option Outcome → Type 0
Fits None = Unit {0}
Fits (Some reached) = ReplyFits reached

pub replied : (code : ℕ) (bytes : List ℕ) → length bytes ≤ 4096 → (reached : Outcome)
    → Some (outcome.Done (record { code = code; bytes = bytes })) ≡ Some reached → ReplyFits reached
replied code bytes fits reached e = subst Fits e fits

-- of any value
abbrev pub Any : {A : Type 0} → A → Type 0
Any value = Unit {0}

module _ (rights : List (TableId × Level)) where
  -- work that keeps to them from each state that does
  abbrev pub Kept : {A : Type 0} → (A → Type 0) → Work A → Type 0
  Kept Q work = (state : State) → Keeps rights state → StepKeeps rights Q (work state)

  pub given : {A : Type 0} (Q : A → Type 0) (value : A) → Q value → Kept Q (give value)
  given Q value holds state keeps = record { fact = (keeps, holds) }

  -- a run that ended without a reply, or wants something, keeps to them
  pub trapped : {A : Type 0} (Q : A → Type 0) (trap : Trap) (used : ℕ) → StepKeeps rights Q (Ends (Trapped trap used))
  trapped Q trap used =
      let limits : IsWithinLimits (Trapped trap used) =
      record { reply = λ reached e. subst Fits e tt; few = omega arith; keys = tt; values = tt } in
      record { fact = record { limits = limits; writable = tt; distinct = none-distinct } }

  pub spent : {A : Type 0} (Q : A → Type 0) → StepKeeps rights Q (Ends Spent)
  spent Q =
      let limits : IsWithinLimits Spent =
      record { reply = λ reached e. subst Fits e tt; few = omega arith; keys = tt; values = tt } in
      record { fact = record { limits = limits; writable = tt; distinct = none-distinct } }

  pub wanting : {A : Type 0} (Q : A → Type 0) (table : TableId) (key : List ℕ) (used : ℕ) → StepKeeps rights Q (Ends (Wants table key used))
  wanting Q table key used =
      let limits : IsWithinLimits (Wants table key used) =
      record { reply = λ reached e. subst Fits e tt; few = omega arith; keys = tt; values = tt } in
      record { fact = record { limits = limits; writable = tt; distinct = none-distinct } }

  -- what stands behind a step that keeps to them
  pub behind-kept : {A B : Type 0} (P : A → Type 0) (Q : B → Type 0) (step : Step A) (more : A → Work B)
      → StepKeeps rights P step → ((value : A) → P value → Kept Q (more value)) → StepKeeps rights Q (after step more)
  behind-kept P Q (Next value state) more first rest = rest value first.fact.1 state first.fact.0
  behind-kept P Q (Ends run) more first rest = record { fact = first.fact }

  pub next : {A B : Type 0} (P : A → Type 0) {Q : B → Type 0} {work : Work A} {more : A → Work B}
      → Kept P work → ((value : A) → P value → Kept Q (more value)) → Kept Q (work >>= more)
  next P {Q = Q} {work = work} {more = more} first rest state keeps =
      behind-kept P Q (work state) more (first state keeps) rest

  pub guarded : {B : Type 0} {Q : B → Type 0} (test : Bool) (trap : Trap) (work : Work B)
      → (IsTrue test → Kept Q work) → Kept Q (require test trap >>= (λ _. work))
  guarded true trap work rest state keeps = rest refl state keeps
  guarded {Q = Q} false trap work rest state keeps = trapped Q trap state.used

  -- the units used are not among what is kept
  pub same-but-units : (state : State) (used : ℕ) → Keeps rights state → Keeps rights (record state { used = used })
  same-but-units state used keeps =
      record { reply = keeps.reply; few = keeps.few; writes = keeps.writes; distinct = keeps.distinct; locals = keeps.locals }

  charge-cases : {B : Type 0} {Q : B → Type 0} (fits : Bool) (units : ℕ) (state : State) (work : Work B)
      → Keeps rights state → Kept Q work
      → StepKeeps rights Q (after (if fits then Next (tt {0}) (record state { used = state.used + units }) else Ends Spent) (λ _. work))
  charge-cases true units state work keeps rest =
      rest (record state { used = state.used + units }) (same-but-units state (state.used + units) keeps)
  charge-cases {Q = Q} false units state work keeps rest = spent Q

  pub charged : {B : Type 0} {Q : B → Type 0} (world : World) (units : ℕ) (work : Work B)
      → Kept Q work → Kept Q (charge world units >>= (λ _. work))
  charged {Q = Q} world units work rest state keeps =
      charge-cases {Q = Q} (nat_le (state.used + units) world.budget) units state work keeps rest

  pub known-kept : (answer : Option (Option (List ℕ))) (place : Place) → Kept Any (known_or_wanted answer place)
  known-kept (Some value) place state keeps = record { fact = (keeps, tt) }
  known-kept None place state keeps = wanting Any (record { 0 = place.table }) place.key state.used

  pub in_order-kept : {A : Type 0} (work : A → Work Value) → ((a : A) → Kept (Holds rights) (work a))
      → (list : List A) → Kept (AllByRecursion (Holds rights)) (in_order (map work list))
  in_order-kept work each [] = given (AllByRecursion (Holds rights)) [] tt
  in_order-kept work each (a ∷ list) =
      next (Holds rights) (each a) (λ value holds.
      next (AllByRecursion (Holds rights)) (in_order-kept work each list) (λ values all.
      given (AllByRecursion (Holds rights)) (value ∷ values) (holds, all)))
