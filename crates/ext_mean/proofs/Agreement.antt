-- How the runs of one program in two worlds agree: they are the same, unless the first was stopped
-- in a way that the second world frees.
use Rattle.std.proofs.Common.{◌≡◌, ◌⊎◌, inl, inr, ℕ, ◌+◌, ◌≤◌, List, Option, None, refl, subst, arith}
use Rattle.std.specs.Prelude.{IsTrue}
use Rattle.sp_base.specs.declared.numbers.TableId.{TableId}
use Rattle.sp_base.specs.Places.{Place}
use Rattle.sp_base.specs.RightsList.{can_read}
use Rattle.ext_mean.specs.declared.run.Run.{Run}
use Rattle.ext_mean.specs.declared.run.Run.TheVariants.{Done, Trapped, Spent, Wants}
use Rattle.ext_mean.specs.declared.state.State.{State}
use Rattle.ext_mean.specs.MeaningValues.{is_key}
use Rattle.ext_mean.specs.Work.{World, Step, Next, Ends, Work, after, ◌>>=◌}

-- where a step stands: it goes on with so many units used, or the run is over
pub data Mark : Type 0 where
  Going : ℕ → Mark
  Stopped : Run → Mark

abbrev pub mark : {A : Type 0} → Step A → Mark
mark (Next value state) = Going state.used
mark (Ends run) = Stopped run

-- units only grow, and stay within the budget
pub record Uses (world : World) (before used : ℕ) : Type 0 where
  pub grows : before ≤ used
  pub within : before ≤ world.budget → used ≤ world.budget

-- a want comes behind its 16 units, of a place that the view does not know and the rights let be read
pub record Asks (world : World) (before : ℕ) (table : TableId) (key : List ℕ) (used : ℕ) : Type 0 where
  pub cost : before + 16 ≤ used
  pub within : before ≤ world.budget → used ≤ world.budget
  pub unknown : world.view.known (record { table = table.0; key = key }) ≡ None
  pub readable : IsTrue (can_read world.view.rights table.0)
  pub sized : IsTrue (is_key key)

-- what a run owes that had used so many units before
abbrev pub Owes : World → ℕ → Mark → Type 0
Owes world before (Going used) = Uses world before used
Owes world before (Stopped (Done reply writes used)) = Uses world before used
Owes world before (Stopped (Trapped trap used)) = Uses world before used
Owes world before (Stopped Spent) = Unit {0}
Owes world before (Stopped (Wants table key used)) = Asks world before table key used

pub owes-later : (world : World) (first second : ℕ) (m : Mark) → Uses world first second → Owes world second m → Owes world first m
owes-later world first second (Going used) u o = record { grows = omega arith; within = λ h. o.within (u.within h) }
owes-later world first second (Stopped (Done reply writes used)) u o = record { grows = omega arith; within = λ h. o.within (u.within h) }
owes-later world first second (Stopped (Trapped trap used)) u o = record { grows = omega arith; within = λ h. o.within (u.within h) }
owes-later world first second (Stopped Spent) u o = tt
owes-later world first second (Stopped (Wants table key used)) u o =
    record { cost = omega arith; within = λ h. o.within (u.within h); unknown = o.unknown; readable = o.readable; sized = o.sized }

pub uses-none : (world : World) (used : ℕ) → Uses world used used
uses-none world used = record { grows = omega arith; within = λ h. h }

-- so many units or more were used there
abbrev pub Reaches : ℕ → Mark → Type 0
Reaches units (Going used) = units ≤ used
Reaches units (Stopped (Done reply writes used)) = units ≤ used
Reaches units (Stopped (Trapped trap used)) = units ≤ used
Reaches units (Stopped Spent) = Unit {0}
Reaches units (Stopped (Wants table key used)) = units ≤ used

pub owes-reaches : (world : World) (before : ℕ) (m : Mark) → Owes world before m → Reaches before m
owes-reaches world before (Going used) owes = owes.grows
owes-reaches world before (Stopped (Done reply writes used)) owes = owes.grows
owes-reaches world before (Stopped (Trapped trap used)) owes = owes.grows
owes-reaches world before (Stopped Spent) owes = tt
owes-reaches world before (Stopped (Wants table key used)) owes = omega (arith, owes.cost)

pub reaches-less : (less more : ℕ) (m : Mark) → less ≤ more → Reaches more m → Reaches less m
reaches-less less more (Going used) fits reach = omega arith
reaches-less less more (Stopped (Done reply writes used)) fits reach = omega arith
reaches-less less more (Stopped (Trapped trap used)) fits reach = omega arith
reaches-less less more (Stopped Spent) fits reach = tt
reaches-less less more (Stopped (Wants table key used)) fits reach = omega arith

-- work that owes what it is to owe, from each state
abbrev pub Owing : {A : Type 0} → World → Work A → Type 0
Owing world work = (state : State) → Owes world state.used (mark (work state))

-- the world with a greater budget and a view that knows more
abbrev pub grown : World → ℕ → (Place → Option (Option (List ℕ))) → World
grown world budget known =
    record { args = world.args; budget = budget; view = record { rights = world.view.rights; known = known } }

-- What the second world frees: `free run mark` says that the first run may be stopped so where the
-- second one stands there. It may be spent where the second one has used more than its budget.
pub record Grows (free : Run → Mark → Type 0) (world : World) (budget : ℕ) (known : Place → Option (Option (List ℕ))) : Type 0 where
  pub fits : world.budget ≤ budget
  pub spends : (budget ≡ world.budget) ⊎ ((m : Mark) → Reaches (world.budget + 1) m → free Spent m)
  pub knows : (place : Place) → IsTrue (can_read world.view.rights place.table) → (known place ≡ world.view.known place) ⊎ ((world.view.known place ≡ None) × ((used : ℕ) → free (Wants (record { 0 = place.table }) place.key used) (Going used)))
  pub closed : (run : Run) (used : ℕ) (m : Mark) → free run (Going used) → Owes (grown world budget known) used m → free run m

-- the first step was stopped in a way that is free
pub record Freed {A : Type 0} (free : Run → Mark → Type 0) (first second : Step A) : Type 0 where
  pub run : Run
  pub stopped : Ends run ≡ first
  pub allowed : free run (mark second)

-- two steps agree
abbrev pub Same : {A : Type 0} → (Run → Mark → Type 0) → Step A → Step A → Type 0
Same free first second = (second ≡ first) ⊎ Freed free first second

pub record Agree {A : Type 0} (free : Run → Mark → Type 0) (world : World) (before : ℕ) (first second : Step A) : Type 0 where
  pub same : Same free first second
  pub owes : Owes world before (mark second)

module _ (free : Run → Mark → Type 0) (small : World) (budget : ℕ) (known : Place → Option (Option (List ℕ))) (grows : Grows free small budget known) where
  abbrev large : World
  large = grown small budget known

  -- works that agree from each state
  abbrev pub Related : {A : Type 0} → Work A → Work A → Type 0
  Related first second = (state : State) → Agree free large state.used (first state) (second state)

  pub later : {A : Type 0} (before used : ℕ) (x y : Step A) → Uses large before used → Agree free large used x y → Agree free large before x y
  later before used x y u a = record { same = a.same; owes = owes-later large before used (mark y) u a.owes }

  -- what stands behind a step whose first run was freed
  freed-after : {A B : Type 0} (x : Step A) (value : A) (state : State) (k k' : A → Work B) → Freed free x (Next value state) → Owes large state.used (mark (k' value state)) → Freed free (after x k) (k' value state)
  freed-after x value state k k' f o =
      record { run = f.run; stopped = subst (λ z. Ends f.run ≡ after z k) f.stopped refl; allowed = grows.closed f.run state.used (mark (k' value state)) f.allowed o }

  freed-end : {A B : Type 0} (x : Step A) (run : Run) (k : A → Work B) → Freed free x (Ends run) → Freed free (after x k) (Ends run)
  freed-end x run k f = record { run = f.run; stopped = subst (λ z. Ends f.run ≡ after z k) f.stopped refl; allowed = f.allowed }

  -- steps that agree, with works behind them that agree from each state with no fewer units used
  pub behind-later : {A B : Type 0} (before : ℕ) (x y : Step A) (k k' : A → Work B) → Agree free large before x y
      → ((value : A) (state : State) → before ≤ state.used → Agree free large state.used (k value state) (k' value state))
      → Agree free large before (after x k) (after y k')
  behind-later before x (Next value state) k k' a rest =
      let r = rest value state a.owes.grows in
      record {
        same = elim a.same [
          | inl e ↦ subst (λ z. Same free (after z k) (k' value state)) e r.same
          | inr f ↦ inr (freed-after x value state k k' f r.owes)
        ];
        owes = owes-later large before state.used (mark (k' value state)) a.owes r.owes;
      }
  behind-later before x (Ends run) k k' a rest =
      record {
        same = elim a.same [
          | inl e ↦ subst (λ z. Same free (after z k) (Ends run)) e (inl refl)
          | inr f ↦ inr (freed-end x run k f)
        ];
        owes = a.owes;
      }

  pub behind-step : {A B : Type 0} (before : ℕ) (x y : Step A) (k k' : A → Work B) → Agree free large before x y → ((value : A) → Related (k value) (k' value)) → Agree free large before (after x k) (after y k')
  behind-step before x y k k' a rest = behind-later before x y k k' a (λ value state fits. rest value state)

  pub both : {A B : Type 0} (m m' : Work A) (k k' : A → Work B) → Related m m' → ((value : A) → Related (k value) (k' value)) → Related (m >>= k) (m' >>= k')
  both m m' k k' first rest state = behind-step state.used (m state) (m' state) k k' (first state) rest
