-- A turn that goes on goes on alike with any budget that holds the units used, and on any view that knows
-- as much.
use Rattle.std.proofs.Common.{◌≡◌, ℕ, ◌+◌, ◌/◌, ◌%◌, ◌==◌, ◌≤◌, ◌&&◌, Bool, true, false, List, ◌∷◌, length, drop, replicate, Option, Some, None, refl, ap, sym, ◌∙◌, arith, nat_le, if◌then◌else◌}
use Rattle.std.proofs.lemmas.Bool.{le-leb}
use Rattle.sp_base.specs.declared.numbers.TableId.{TableId}
use Rattle.sp_base.specs.declared.outcomes.Trap.{Trap}
use Rattle.sp_base.specs.declared.rights.Level.{Level}
use Rattle.sp_base.specs.declared.outcomes.Trap.TheVariants.{Size, Denied, Width}
use Rattle.sp_base.specs.declared.writes.Change.{Change}
use Rattle.sp_base.specs.Places.{Place}
use Rattle.sp_base.specs.RightsList.{can_read, can_write}
use Rattle.ext_mean.specs.declared.run.Run.{Run}
use Rattle.ext_mean.specs.declared.run.Run.TheVariants.{Trapped, Spent, Wants}
use Rattle.ext_mean.specs.declared.state.State.{State}
use Rattle.ext_mean.specs.declared.state.Value.{Value}
use Rattle.ext_mean.specs.declared.state.Value.TheVariants as value
use Rattle.ext_mean.specs.Views.{View}
use Rattle.ext_mean.specs.MeaningValues.{number_of, bytes_of, pending, is_key, part_of}
use Rattle.ext_mean.specs.MeaningStatements.{found}
use Rattle.ext_mean.specs.Work.{World, Step, Next, Ends, after, ◌>>=◌, give, charge, require, known_or_wanted}
use Rattle.gen_code.specs.declared.code.Code.{Code}
use Rattle.gen_code.specs.declared.op.Op.{Op}
use Rattle.gen_code.specs.declared.op.Op.TheVariants as op
use Rattle.gen_code.specs.Machine.{Config, Progress, Going, Over, Doing, Working, Reading, Asker, ForGet, ForMulti, state_of, behind, does, last, second, third, fourth, below, goes_to, pushes, reads, answers, takes_next, op_at, perform, goes_on, once}
use Rattle.gen_vm.specs.Standing.{Knows}

-- what was over does not go on
never : {A : Type 0} (run : Run) (there : Config) → Over run ≡ Going there → A
never run there e = let no : ⊥ = cc in absurd no

-- the units of what goes on
abbrev used_of : Progress → ℕ
used_of (Going here) = here.used
used_of (Over run) = 0

module _ (code : Code) (args : List ℕ) (budget greater : ℕ) (small large : View) (knows : Knows small large) where
  abbrev one : World
  one = record { args = args; budget = budget; view = small }

  abbrev other : World
  other = record { args = args; budget = greater; view = large }

  -- a turn that goes on here goes on there
  abbrev Alike : Progress → Progress → Type 0
  Alike first second = (there : Config) → there.used ≤ greater → first ≡ Going there → second ≡ Going there

  -- what stands behind a step that ends the run is over
  abbrev Stops : {A : Type 0} → (Step A → Progress) → Type 0
  Stops {A} behind_it = (run : Run) → behind_it (Ends run) ≡ Over run

  -- behind a test
  tested : (b : Bool) (trap : Trap) (state : State) (first second : Step (Unit {0}) → Progress)
      → Stops first → Alike (first (Next tt state)) (second (Next tt state)) → Alike (first (require b trap state)) (second (require b trap state))
  tested true trap state first second stops more there fits e = more there fits e
  tested false trap state first second stops more there fits e = never (Trapped trap state.used) there (sym (stops (Trapped trap state.used)) ∙ e)

  -- the state behind a charge
  abbrev behind_units : ℕ → State → State
  behind_units units state = record state { used = state.used + units }

  charged : (b b' : Bool) (paid : State) (first second : Step (Unit {0}) → Progress) → Stops first
      → ((there : Config) → there.used ≤ greater → first (Next tt paid) ≡ Going there → b' ≡ true)
      → Alike (first (Next tt paid)) (second (Next tt paid))
      → Alike (first (if b then Next tt paid else Ends Spent)) (second (if b' then Next tt paid else Ends Spent))
  charged true true paid first second stops enough more there fits e = more there fits e
  charged true false paid first second stops enough more there fits e = let no : false ≡ true = enough there fits e in absurd (cc)
  charged false b' paid first second stops enough more there fits e = never Spent there (sym (stops Spent) ∙ e)

  -- behind a charge: what comes next has used as much
  paying : (units : ℕ) (state : State) (first second : Step (Unit {0}) → Progress) → Stops first
      → ((there : Config) → first (Next tt (behind_units units state)) ≡ Going there → there.used ≡ state.used + units)
      → Alike (first (Next tt (behind_units units state))) (second (Next tt (behind_units units state)))
      → Alike (first (charge one units state)) (second (charge other units state))
  paying units state first second stops used more =
      charged (nat_le (state.used + units) budget) (nat_le (state.used + units) greater) (behind_units units state) first second stops
      (λ there fits e. let same = used there e in le-leb (state.used + units) greater (omega arith)) more

  charge-alike : (units : ℕ) (here : Config) → Alike (perform code one (op.Charge units) here) (perform code other (op.Charge units) here)
  charge-alike units here =
      let base = record here { stack = drop 0 here.stack } in
      let f : Step (Unit {0}) → Progress = behind base (λ _ later. goes_to (later.pc + 1) later) in
      paying units (state_of here) f f (λ run. refl) (λ there e. sym (ap used_of e)) (λ there fits e. e)

  temp-alike : (here : Config) → Alike (perform code one op.Temp here) (perform code other op.Temp here)
  temp-alike here =
      let size = number_of (last here) in
      let base = record here { stack = drop 1 here.stack } in
      let state = state_of here in
      let made : Value = value.Temp (replicate size 0) in
      let f : Step (Unit {0}) → Progress = λ (step : Step (Unit {0})). behind base pushes (after step (λ _. charge one (size / 16) >>= (λ _. give made))) in
      let g : Step (Unit {0}) → Progress = λ (step : Step (Unit {0})). behind base pushes (after step (λ _. charge other (size / 16) >>= (λ _. give made))) in
      let h : Step (Unit {0}) → Progress = λ (step : Step (Unit {0})). behind base pushes (after step (λ _. give made)) in
      tested (nat_le size 4096) Size state f g (λ run. refl)
      (paying (size / 16) state h h (λ run. refl) (λ there e. sym (ap used_of e)) (λ there fits e. e))

  writable : (table : ℕ) → can_write large.rights table ≡ can_write small.rights table
  writable table = ap (λ (r : List (TableId × Level)). can_write r table) knows.rights

  readable : (table : ℕ) → can_read large.rights table ≡ can_read small.rights table
  readable table = ap (λ (r : List (TableId × Level)). can_read r table) knows.rights

  -- the same test in the other world
  there-tested : (b b' : Bool) (trap : Trap) (state : State) (first second : Step (Unit {0}) → Progress)
      → b' ≡ b → Alike (first (require b trap state)) (second (require b trap state)) → Alike (first (require b trap state)) (second (require b' trap state))
  there-tested b b' trap state first second e alike there fits turn =
      ap (λ (z : Bool). second (require z trap state)) e ∙ alike there fits turn

  buffer-alike : (here : Config) → Alike (perform code one op.Alloc here) (perform code other op.Alloc here)
  buffer-alike here =
      let table = number_of (third here) in
      let key = bytes_of (second here) in
      let size = number_of (last here) in
      let base = record here { stack = drop 3 here.stack } in
      let state = state_of here in
      let made : Value = value.Buf (record { table = record { 0 = table }; key = key; bytes = replicate size 0 }) in
      let f : Step (Unit {0}) → Progress = λ (step : Step (Unit {0})). behind base pushes (after step (λ _. require (can_write small.rights table) Denied >>= (λ _. charge one (size / 16) >>= (λ _. give made)))) in
      let g : Step (Unit {0}) → Progress = λ (step : Step (Unit {0})). behind base pushes (after step (λ _. require (can_write large.rights table) Denied >>= (λ _. charge other (size / 16) >>= (λ _. give made)))) in
      let f' : Step (Unit {0}) → Progress = λ (step : Step (Unit {0})). behind base pushes (after step (λ _. charge one (size / 16) >>= (λ _. give made))) in
      let g' : Step (Unit {0}) → Progress = λ (step : Step (Unit {0})). behind base pushes (after step (λ _. charge other (size / 16) >>= (λ _. give made))) in
      let h : Step (Unit {0}) → Progress = λ (step : Step (Unit {0})). behind base pushes (after step (λ _. give made)) in
      tested (is_key key && nat_le size 4096) Size state f g (λ run. refl)
      (there-tested (can_write small.rights table) (can_write large.rights table) Denied state f' g' (writable table)
      (tested (can_write small.rights table) Denied state f' g' (λ run. refl)
      (paying (size / 16) state h h (λ run. refl) (λ there e. sym (ap used_of e)) (λ there fits e. e))))

  delete-alike : (here : Config) → Alike (perform code one op.Del here) (perform code other op.Del here)
  delete-alike here there fits e =
      ap (λ (r : List (TableId × Level)). perform code (record { args = args; budget = budget; view = record small { rights = r } }) op.Del here) knows.rights ∙ e

  reads-alike : (place : Place) (asker : Asker) (here : Config) → Alike (reads one place asker here) (reads other place asker here)
  reads-alike place asker here =
      let state = state_of here in
      let next : Unit {0} → Config → Progress = λ _ later. Going (record later { doing = Reading place asker }) in
      let f : Step (Unit {0}) → Progress = λ (step : Step (Unit {0})). behind here next (after step (λ _. charge one 16)) in
      let g : Step (Unit {0}) → Progress = λ (step : Step (Unit {0})). behind here next (after step (λ _. charge other 16)) in
      let h : Step (Unit {0}) → Progress = behind here next in
      there-tested (can_read small.rights place.table) (can_read large.rights place.table) Denied state f g (readable place.table)
      (tested (can_read small.rights place.table) Denied state f g (λ run. refl)
      (paying 16 state h h (λ run. refl) (λ there e. sym (ap used_of e)) (λ there fits e. e)))

  get-alike : (target : ℕ) (here : Config) → Alike (perform code one (op.Get target) here) (perform code other (op.Get target) here)
  get-alike target here =
      let place : Place = record { table = number_of (second here); key = bytes_of (last here) } in
      let rest : Config → Config = λ later. record later { stack = drop 2 later.stack } in
      tested (is_key (bytes_of (last here))) Size (state_of here)
      (behind here (λ _ later. reads one place (ForGet target) (rest later)))
      (behind here (λ _ later. reads other place (ForGet target) (rest later)))
      (λ run. refl)
      (reads-alike place (ForGet target) (rest here))

  choice : (b : Bool) (same first second : Progress) → Alike first second → Alike (if b then same else first) (if b then same else second)
  choice true same first second alike there fits e = e
  choice false same first second alike there fits e = alike there fits e

  many-alike : (target : ℕ) (here : Config) → Alike (takes_next one target here) (takes_next other target here)
  many-alike target here =
      let table = number_of (fourth here) in
      let keys = bytes_of (third here) in
      let width = number_of (second here) in
      let place = number_of (last here) in
      let at : Place = record { table = table; key = part_of keys place width } in
      let rest : Config → Config = λ later. record later { stack = value.Int (place + width) ∷ below later.stack } in
      let left : Config → Progress = λ later. goes_to target (record later { stack = drop 4 later.stack }) in
      tested (nat_le 1 width && nat_le width 64 && (length keys % width == 0)) Width (state_of here)
      (behind here (λ _ later. if nat_le (length keys) place then left later else reads one at ForMulti (rest later)))
      (behind here (λ _ later. if nat_le (length keys) place then left later else reads other at ForMulti (rest later)))
      (λ run. refl)
      (choice (nat_le (length keys) place) (left here) (reads one at ForMulti (rest here)) (reads other at ForMulti (rest here)) (reads-alike at ForMulti (rest here)))

  known-alike : (place : Place) (asker : Asker) (here : Config) (answer answer' : Option (Option (List ℕ)))
      → ((value : Option (List ℕ)) → answer ≡ Some value → answer' ≡ Some value)
      → Alike (does here (known_or_wanted answer place) (answers asker)) (does here (known_or_wanted answer' place) (answers asker))
  known-alike place asker here (Some value) answer' same there fits e =
      ap (λ (z : Option (Option (List ℕ))). does here (known_or_wanted z place) (answers asker)) (same value refl) ∙ e
  known-alike place asker here None answer' same there fits e = never (Wants (record { 0 = place.table }) place.key here.used) there e

  found-alike : (place : Place) (asker : Asker) (here : Config) (change : Option Change)
      → Alike (does here (found one place change) (answers asker)) (does here (found other place change) (answers asker))
  found-alike place asker here (Some change) there fits e = e
  found-alike place asker here None there fits e =
      known-alike place asker here (small.known place) (large.known place) (knows.known place) there fits e

  perform-alike : (instruction : Op) (here : Config) → Alike (perform code one instruction here) (perform code other instruction here)
  perform-alike op.Alloc here = buffer-alike here
  perform-alike op.Temp here = temp-alike here
  perform-alike op.Del here = delete-alike here
  perform-alike (op.Charge units) here = charge-alike units here
  perform-alike (op.Get target) here = get-alike target here
  perform-alike (op.Multi target) here = many-alike target here
  perform-alike _ here = λ there fits e. e

  turn-alike : (doing : Doing) (here : Config) → Alike (goes_on code one doing here) (goes_on code other doing here)
  turn-alike Working here = perform-alike (op_at code here.function here.pc) here
  turn-alike (Reading place asker) here = found-alike place asker here (pending place here.writes)

  pub steady : (here there : Config) → there.used ≤ greater → once code one (Going here) ≡ Going there → once code other (Going here) ≡ Going there
  steady here there fits e = turn-alike here.doing here there fits e
