-- Programs keep to the rights and the limits.
use Rattle.std.specs.Prelude.{IsTrue, slice_get, unwrap_or}
use Rattle.std.specs.List.{AllByRecursion}
use Rattle.std.proofs.Common.{◌≡◌, ℕ, zero, suc, Bool, true, false, List, [], ◌∷◌, length, Option, Some, None, refl, sym, subst, arith, if◌then◌else◌}
use Rattle.sp_base.specs.declared.numbers.TableId.{TableId}
use Rattle.sp_base.specs.declared.rights.Level.{Level}
use Rattle.sp_base.specs.declared.writes.Write.{Write}
use Rattle.sp_base.specs.Limits.{IsKey}
use Rattle.sp_base.specs.Places.{Place}
use Rattle.sp_base.specs.RightsList.{can_read, can_write}
use Rattle.ext_mean.specs.declared.run.Run.{Run}
use Rattle.ext_mean.specs.declared.run.Run.TheVariants.{Done, Trapped, Spent, Wants}
use Rattle.ext_mean.specs.declared.state.State.{State}
use Rattle.ext_mean.specs.declared.state.Value.{Value}
use Rattle.ext_mean.specs.declared.tree.Function.{Function}
use Rattle.ext_mean.specs.declared.tree.Param.{Param}
use Rattle.ext_mean.specs.declared.tree.Program.{Program}
use Rattle.ext_mean.specs.Confinement.{OnlyReadableIsWanted, OnlyWritableIsChanged, IsWithinLimits, PlacesAreChangedOnce, RunsAreWithinLimits}
use Rattle.ext_mean.specs.Laws.{IsDue}
use Rattle.ext_mean.specs.MeaningValues.{nothing, number_of, bound}
use Rattle.ext_mean.specs.MeaningStatements.{Calls, run_block}
use Rattle.ext_mean.specs.Meaning as meaning
use Rattle.ext_mean.specs.Meaning.{mean, call_below, main_of, is_named, run_function, start, ended}
use Rattle.ext_mean.specs.Outcomes.{wanted_by, ChangeFits}
use Rattle.ext_mean.specs.Views.{View}
use Rattle.ext_mean.specs.Work.{World, Step, Next, Ends, Work}
use Rattle.ext_mean.proofs.Keeping as keeping
use Rattle.ext_mean.proofs.Keeping.{IsAllowed, Holds, LocalHolds, Keeps, StepKeeps, RunKeeps, replied}
use Rattle.ext_mean.proofs.KeepingStatements as statements
use Rattle.ext_mean.proofs.KeepingStatements.{Returns, CallsKeep}
use Rattle.ext_mean.proofs.Places.{none-distinct}
use Rattle.ext_mean.proofs.LawsProved.{world_of, run_of, mean-ended}
use Rattle.ext_mean.proofs.WantsProved.{are-due}

bound-holds : (rights : List (TableId × Level)) (params : List Param) (values : List Value) → AllByRecursion (Holds rights) values → AllByRecursion (LocalHolds rights) (bound params values)
bound-holds rights [] values all = tt
bound-holds rights (param ∷ params) [] all = tt
bound-holds rights (param ∷ params) (value ∷ values) all = (all.0, bound-holds rights params values all.1)

result-holds : (rights : List (TableId × Level)) (returned : Option Value) → Returns rights returned → Holds rights (unwrap_or returned nothing)
result-holds rights (Some value) holds = holds
result-holds rights None holds = tt

module _ (world : World) where
  abbrev rights : List (TableId × Level)
  rights = world.view.rights

  abbrev Valued : Work Value → Type 0
  Valued work = keeping.Kept rights (Holds rights) work

  called-kept : (calls : Calls) → CallsKeep world calls → (function : Function) (values : List Value) → AllByRecursion (Holds rights) values → Valued (meaning.called world calls function values)
  called-kept calls kept function values all state keeps =
      let inside : State = record state { locals = bound function.params values } in
      let inside-keeps : Keeps rights inside =
      record { reply = keeps.reply; few = keeps.few; writes = keeps.writes; distinct = keeps.distinct; locals = bound-holds rights function.params values all } in
      keeping.behind-kept rights (Returns rights) (Holds rights) (run_block world calls function.body inside) _
      (statements.run_block-kept world calls kept function.body inside inside-keeps)
      (λ result holds later keeps'.
      let outside : Keeps rights (record later { locals = state.locals }) =
      record { reply = keeps'.reply; few = keeps'.few; writes = keeps'.writes; distinct = keeps'.distinct; locals = keeps.locals } in
      record { fact = (outside, result-holds rights result holds) })

  run-kept : (calls : Calls) → CallsKeep world calls → (function : Option Function) (values : List Value) → AllByRecursion (Holds rights) values → Valued (run_function world calls function values)
  run-kept calls kept (Some function) values all = called-kept calls kept function values all
  run-kept calls kept None values all = keeping.given rights (Holds rights) nothing tt

  either : (test : Bool) (first second : Work Value) → Valued first → Valued second → Valued (if test then first else second)
  either true first second one other = one
  either false first second one other = other

  calls-kept : (functions : List Function) (count : ℕ) → CallsKeep world (call_below world functions count)
  calls-kept functions zero name values all = keeping.given rights (Holds rights) nothing tt
  calls-kept functions (suc count) name values all =
      either (is_named name (slice_get functions count)) _ _
      (run-kept (call_below world functions count) (calls-kept functions count) (slice_get functions count) values all)
      (calls-kept functions count name values all)

  main-kept : (functions : List Function) (count : ℕ) → Valued (main_of world functions count)
  main-kept functions zero = keeping.given rights (Holds rights) nothing tt
  main-kept functions (suc count) =
      run-kept (call_below world functions count) (calls-kept functions count) (slice_get functions count) [] tt

-- each change that is allowed is so in every respect
all-writable : (granted : List (TableId × Level)) (writes : List Write) → AllByRecursion (IsAllowed granted) writes → AllByRecursion (λ write. IsTrue (can_write granted write.table.0)) writes
all-writable granted [] all = tt
all-writable granted (write ∷ writes) all = (all.0.writable, all-writable granted writes all.1)

all-keyed : (granted : List (TableId × Level)) (writes : List Write) → AllByRecursion (IsAllowed granted) writes → AllByRecursion (λ write. IsKey write.key) writes
all-keyed granted [] all = tt
all-keyed granted (write ∷ writes) all = (all.0.key, all-keyed granted writes all.1)

all-fit : (granted : List (TableId × Level)) (writes : List Write) → AllByRecursion (IsAllowed granted) writes → AllByRecursion ChangeFits writes
all-fit granted [] all = tt
all-fit granted (write ∷ writes) all = (all.0.fits, all-fit granted writes all.1)

-- the end of a run that kept to them
ended-keeps : (granted : List (TableId × Level)) (step : Step Value) → StepKeeps granted (Holds granted) step → RunKeeps granted (ended step)
ended-keeps granted (Next result state) kept =
    let keeps : Keeps granted state = kept.fact.0 in
    let limits : IsWithinLimits (ended (Next result state)) = record {
      reply = replied (number_of result) state.reply keeps.reply;
      few = keeps.few;
      keys = all-keyed granted state.writes keeps.writes;
      values = all-fit granted state.writes keeps.writes;
    } in
    record { limits = limits; writable = all-writable granted state.writes keeps.writes; distinct = keeps.distinct }
ended-keeps granted (Ends run) kept = kept.fact

start-keeps : (rights : List (TableId × Level)) → Keeps rights start
start-keeps rights = record { reply = omega arith; few = omega arith; writes = tt; distinct = none-distinct; locals = tt }

mean-keeps : (program : Program) (args : List ℕ) (budget : ℕ) (view : View) → RunKeeps view.rights (mean program args budget view)
mean-keeps program args budget view =
    let world = world_of args budget view in
    subst (RunKeeps view.rights) (sym (mean-ended program args budget view))
    (ended-keeps view.rights (run_of program world) (main-kept world program.functions (length program.functions) start (start-keeps view.rights)))

pub only-writable : OnlyWritableIsChanged
only-writable program args budget view = (mean-keeps program args budget view).writable

pub changed-once : PlacesAreChangedOnce
changed-once program args budget view = (mean-keeps program args budget view).distinct

pub within-limits : RunsAreWithinLimits
within-limits program args budget view = (mean-keeps program args budget view).limits

-- of a place that is wanted, if one is: its table is readable, and its key is one
abbrev IsReadable : View → Option Place → Type 0
IsReadable view None = Unit {0}
IsReadable view (Some place) = IsTrue (can_read view.rights place.table) × IsKey place.key

wanted-readable : (view : View) (run : Run) → ((table : TableId) (key : List ℕ) (used : ℕ) → run ≡ Wants table key used → IsDue view table key used) → IsReadable view (wanted_by run)
wanted-readable view (Done reply writes used) due = tt
wanted-readable view (Trapped trap used) due = tt
wanted-readable view Spent due = tt
wanted-readable view (Wants table key used) due = let owed = due table key used refl in (owed.readable, owed.sized)

pub only-readable : OnlyReadableIsWanted
only-readable program args budget view place e =
    subst (IsReadable view) e (wanted-readable view (mean program args budget view) (are-due program args budget view))
