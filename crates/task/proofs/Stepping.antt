-- A turn on the machine and a record that it is fed, as those of the live call that it follows.
use Rattle.std.proofs.Common.{◌≡◌, ℕ, Bool, true, false, List, [], ◌∷◌, ◌++◌, sym, ap, ◌∙◌, subst}
use Rattle.sp_base.specs.declared.calls.Call.{Call}
use Rattle.sp_base.specs.declared.numbers.TableId.{TableId}
use Rattle.sp_base.specs.declared.reads.ReadItem.{ReadItem}
use Rattle.sp_base.specs.declared.rights.Level.{Level}
use Rattle.ext_mean.specs.declared.run.Run.{Run}
use Rattle.ext_mean.specs.declared.run.Run.TheVariants.{Wants}
use Rattle.ext_mean.specs.Meaning.{mean}
use Rattle.ext_mean.specs.Views.{part}
use Rattle.gen_code.specs.declared.code.Code.{Code}
use Rattle.gen_vm.specs.declared.phase.Phase as machine
use Rattle.gen_vm.specs.declared.phase.Phase.TheVariants as run
use Rattle.gen_vm.specs.Answers.{EndsAs, Resumes}
use Rattle.gen_vm.specs.Running as running
use Rattle.gen_vm.specs.Running.{Running, fed_with}
use Rattle.gen_vm.specs.Standing.{Stands}
use Rattle.task.specs.declared.phase.Phase.{Phase}
use Rattle.task.specs.declared.phase.Phase.TheVariants.{Ready, Waiting}
use Rattle.task.specs.Extensions.{ExtValue}
use Rattle.task.specs.Following.{Follows, live_of, phase_of}
use Rattle.task.specs.Tasks.{GoesOn, IsTask}
use Rattle.task.specs.Turning.{Live, after_run, given, meaning_with, turn_of, units_of_turn}
use Rattle.task.proofs.Machines.{ended-turn, follows-fed, follows-on, machine-ready, machine-waits, meaning-same}
use Rattle.task.proofs.Turns.{records-keep, turns-keep}

pub goes-ready : (live : Live) → live.phase ≡ Ready → GoesOn live.phase
goes-ready live ready = subst GoesOn (sym ready) tt

-- a call whose machine has ended does not go on
ended-stays : (killed : Bool) (phase : machine.Phase) → running.HasEnded phase → GoesOn (phase_of killed phase) → ⊥
ended-stays true phase ended goes = goes
ended-stays false run.Ready ended goes = ended
ended-stays false (run.Waiting table key) ended goes = ended
ended-stays false (run.Over outcome writes) ended goes = goes

module _ (code : Code) (call : Call) (ext : ExtValue) (rights : List (TableId × Level)) (reads : List ReadItem) (spent : ℕ) (killed : Bool) (before after : Running) where
  -- the call of the machine before, and behind, with so many units spent
  abbrev old : Live
  old = live_of call ext rights reads spent killed before

  abbrev new : ℕ → Live
  new units = live_of call ext rights reads units killed after

  module _ (limit quantum : ℕ) (follows : Follows code old before) (ready : old.phase ≡ Ready) (units_is : limit ≡ units_of_turn old quantum) where
    -- what the program means on what the machine was handed
    abbrev seen : Run
    seen = mean ext.program before.args limit (part before.fed before.rights)

    alive : killed ≡ false
    alive = (machine-ready killed before.phase ready).0

    turn-meant : meaning_with old (units_of_turn old quantum) ≡ seen
    turn-meant = ap (meaning_with old) (sym units_is) ∙ sym (meaning-same code old before follows limit)

    -- a run that wants a record waits for it
    pub wants-turn : (table : TableId) (key : List ℕ) (used : ℕ) → after.phase ≡ run.Waiting table key → seen ≡ Wants table key after.here.used
        → used ≡ after.here.used → new used ≡ turn_of old quantum
    wants-turn table key used waits wants same =
        let phase : phase_of killed after.phase ≡ Waiting table key = ap (λ (k : Bool). phase_of k after.phase) alive ∙ ap (phase_of false) waits in
        let meant : meaning_with old (units_of_turn old quantum) ≡ Wants table key used = turn-meant ∙ wants ∙ ap (Wants table key) (sym same) in
        ap (λ (p : Phase). record old { spent = used; phase = p }) phase ∙ ap (after_run old quantum) (sym meant)

    -- a run that has ended ends the call
    pub ends-turn : EndsAs seen after.phase after.here.used → new spent ≡ turn_of old quantum
    ends-turn ends =
        ap (λ (k : Bool). record old { phase = phase_of k after.phase }) alive
        ∙ ended-turn old quantum seen after.phase after.here.used ends
        ∙ ap (after_run old quantum) (sym turn-meant)

    -- what is so behind a turn is a task that the machine follows
    pub turn-task : (units : ℕ) → new units ≡ turn_of old quantum → IsTask old → IsTask (new units)
    turn-task units is task = subst IsTask (sym is) (turns-keep old quantum task ready)

    pub wants-follows : (units : ℕ) → Resumes limit before after → Stands code after → Follows code (new units) after
    wants-follows units resumes stands =
        follows-on code old before follows limit units (phase_of killed after.phase) after resumes (λ goes. stands)

    pub ends-follows : Resumes limit before after → running.HasEnded after.phase → Follows code (new spent) after
    ends-follows resumes ended =
        follows-on code old before follows limit spent (phase_of killed after.phase) after resumes
        (λ goes. absurd (ended-stays killed after.phase ended goes))

  module _ (item : ReadItem) (follows : Follows code old before) (wanted : old.phase ≡ Waiting item.table item.key)
      (fed : after ≡ fed_with item.value before.phase before) where
    -- the call with one read more
    abbrev longer : Live
    longer = live_of call ext rights (reads ++ item ∷ []) spent killed after

    phases : (killed ≡ false) × (before.phase ≡ run.Waiting item.table item.key)
    phases = machine-waits killed before.phase item.table item.key wanted

    fed-there : after ≡ fed_with item.value (run.Waiting item.table item.key) before
    fed-there = fed ∙ ap (λ (p : machine.Phase). fed_with item.value p before) phases.1

    given-is : longer ≡ given old item
    given-is =
        let phase : phase_of killed after.phase ≡ Ready =
        ap (λ (k : Bool). phase_of k after.phase) phases.0 ∙ ap (λ (r : Running). phase_of false r.phase) fed-there in
        ap (λ (p : Phase). record (given old item) { phase = p }) phase

    pub given-task : IsTask old → IsTask longer
    given-task task = subst IsTask (sym given-is) (records-keep old item task wanted)

    pub given-follows : (Stands code before → Stands code after) → Follows code longer after
    given-follows stands =
        let goes : GoesOn old.phase = subst GoesOn (sym wanted) tt in
        subst (λ (live : Live). Follows code live after) (sym given-is)
        (follows-fed code old before follows item after fed-there (stands (follows.stands goes)))
