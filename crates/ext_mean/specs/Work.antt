-- The work of a run: steps that use units, may end the run, and hand on what they found.
use Rattle.std.specs.Prelude.{ℕ, ◌+◌, Bool, List, [], ◌∷◌, Option, Some, None, nat_le, if◌then◌else◌}
use Rattle.sp_base.specs.declared.outcomes.Trap.{Trap}
use Rattle.sp_base.specs.Places.{Place}
use Rattle.ext_mean.specs.declared.run.Run.{Run}
use Rattle.ext_mean.specs.declared.run.Run.TheVariants.{Trapped, Spent, Wants}
use Rattle.ext_mean.specs.declared.state.State.{State}
use Rattle.ext_mean.specs.Views.{View}

-- what does not change while a run goes on
pub record World : Type 0 where
  pub args : List ℕ
  pub budget : ℕ
  pub view : View

-- a step hands on a value and the state after it, or ends the run
pub data Step (A : Type 0) : Type 0 where
  Next : A → State → Step A
  Ends : Run → Step A

abbrev pub Work : Type 0 → Type 0
Work A = State → Step A

-- what comes after a step
abbrev pub after : {A B : Type 0} → Step A → (A → Work B) → Step B
after (Next value state) more = more value state
after (Ends run) more = Ends run

-- one piece of work, and then the next
infixl 10 ◌>>=◌
abbrev pub ◌>>=◌ : {A B : Type 0} → Work A → (A → Work B) → Work B
(work >>= more) state = after (work state) more

-- no work: the value is handed on
abbrev pub give : {A : Type 0} → A → Work A
give value state = Next value state

-- what a run has so far
abbrev pub look : Work State
look state = Next state state

-- the state becomes this one
abbrev pub become : State → Work (Unit {0})
become new state = Next tt new

-- the run ends
abbrev pub stop : {A : Type 0} → Run → Work A
stop run state = Ends run

-- a charge is made before its work, and one that does not fit the budget ends the run as spent
abbrev pub charge : World → ℕ → Work (Unit {0})
charge world units state =
    if nat_le (state.used + units) world.budget
    then Next tt (record state { used = state.used + units })
    else Ends Spent

-- a test of the language: where it fails, the run is trapped
abbrev pub require : Bool → Trap → Work (Unit {0})
require test trap state = if test then Next tt state else Ends (Trapped trap state.used)

-- the record at a place that the view knows; the run wants a place that it does not know
abbrev pub known_or_wanted : Option (Option (List ℕ)) → Place → Work (Option (List ℕ))
known_or_wanted (Some value) place state = Next value state
known_or_wanted None place state =
    Ends (Wants (record { 0 = place.table }) place.key state.used)

-- one after another, each with its value
abbrev pub in_order : {A : Type 0} → List (Work A) → Work (List A)
in_order [] = give []
in_order (first ∷ rest) = do
  value ← first
  values ← in_order rest
  give (value ∷ values)
