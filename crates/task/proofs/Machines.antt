-- Machines follow live calls: what they mean, and what keeps it.
use Rattle.std.proofs.Common.{◌≡◌, ◌<◌, ℕ, Bool, true, false, List, [], ◌∷◌, ◌++◌, map, Option, Some, refl, sym, ap, ◌∙◌, if◌then◌else◌}
use Rattle.sp_base.specs.declared.numbers.TableId.{TableId}
use Rattle.sp_base.specs.declared.outcomes.Outcome.{Outcome}
use Rattle.sp_base.specs.declared.outcomes.Outcome.TheVariants as outcome
use Rattle.sp_base.specs.declared.reads.ReadItem.{ReadItem}
use Rattle.sp_base.specs.declared.rights.Level.{Level}
use Rattle.sp_base.specs.Places.{Place, same_place}
use Rattle.ext_mean.specs.declared.run.Run.{Run}
use Rattle.ext_mean.specs.declared.run.Run.TheVariants.{Done, Trapped, Spent, Wants}
use Rattle.ext_mean.specs.Meaning.{mean}
use Rattle.ext_mean.specs.Outcomes.{EndsWith}
use Rattle.ext_mean.specs.Views.{part, place_of, value_read}
use Rattle.gen_code.specs.declared.code.Code.{Code}
use Rattle.gen_vm.specs.declared.phase.Phase as machine
use Rattle.gen_vm.specs.declared.phase.Phase.TheVariants as run
use Rattle.gen_vm.specs.Answers.{EndsAs, Resumes}
use Rattle.gen_vm.specs.Running.{Running, fed_with}
use Rattle.gen_vm.specs.Standing.{Stands}
use Rattle.task.specs.declared.phase.Phase.{Phase}
use Rattle.task.specs.declared.phase.Phase.TheVariants.{Ready, Waiting, Ended}
use Rattle.task.specs.Following.{Follows, as_fed, phase_of}
use Rattle.task.specs.Tasks.{GoesOn}
use Rattle.task.specs.Turning.{Live, after_run, given, meaning_with}
use Rattle.task.proofs.Past.{past-is-spent}

-- the records fed are the reads, with their places and values
value-fed : (reads : List ReadItem) (place : Place) → value_read (map as_fed reads) place ≡ value_read reads place
value-fed [] place = refl
value-fed (read ∷ reads) place =
    ap (λ (others : Option (Option (List ℕ))). if same_place (place_of read) place then Some read.value else others) (value-fed reads place)

part-fed : (reads : List ReadItem) (rights : List (TableId × Level)) → part (map as_fed reads) rights ≡ part reads rights
part-fed reads rights = λ i. record { rights = rights; known = λ place. value-fed reads place i }

map-joined : (reads : List ReadItem) (item : ReadItem) → map as_fed (reads ++ item ∷ []) ≡ map as_fed reads ++ as_fed item ∷ []
map-joined [] item = refl
map-joined (read ∷ reads) item = ap (λ (rest : List ReadItem). as_fed read ∷ rest) (map-joined reads item)

module _ (code : Code) (live : Live) (running : Running) (follows : Follows code live running) where
  -- what the machine sees is what the call has read
  view-same : part running.fed running.rights ≡ part live.reads live.rights
  view-same =
      ap (λ (fed : List ReadItem). part fed running.rights) follows.fed
      ∙ ap (part (map as_fed live.reads)) follows.rights
      ∙ part-fed live.reads live.rights

  -- the meaning on what the machine was handed is that of the call
  pub meaning-same : (limit : ℕ) → mean live.ext.program running.args limit (part running.fed running.rights) ≡ meaning_with live limit
  meaning-same limit =
      ap (λ (args : List ℕ). mean live.ext.program args limit (part running.fed running.rights)) follows.args
      ∙ ap (mean live.ext.program live.call.args limit) view-same

  -- where the machine stands behind a limit, the call is spent with it
  pub past-spent : (limit : ℕ) → GoesOn live.phase → limit < running.here.used → meaning_with live limit ≡ Spent
  past-spent limit on past =
      sym (meaning-same limit)
      ∙ past-is-spent code live.ext.program running.args (part running.fed running.rights) running.here limit follows.does
      (follows.stands on).comes past

  -- the machine follows as far as it went, with other units spent and in another phase
  pub follows-on : (limit spent : ℕ) (phase : Phase) (after : Running) → Resumes limit running after → (GoesOn phase → Stands code after)
      → Follows code (record live { spent = spent; phase = phase }) after
  follows-on limit spent phase after resumes stands = record {
    does = follows.does;
    args = resumes.args ∙ follows.args;
    budget = resumes.budget ∙ follows.budget;
    rights = resumes.rights ∙ follows.rights;
    fed = resumes.fed ∙ follows.fed;
    stands = stands;
  }

  -- and where it stays
  pub follows-still : (spent : ℕ) (phase : Phase) → (GoesOn phase → GoesOn live.phase) → Follows code (record live { spent = spent; phase = phase }) running
  follows-still spent phase on = record {
    does = follows.does;
    args = follows.args;
    budget = follows.budget;
    rights = follows.rights;
    fed = follows.fed;
    stands = λ goes. follows.stands (on goes);
  }

  -- and behind a record
  pub follows-fed : (item : ReadItem) (after : Running) → after ≡ fed_with item.value (run.Waiting item.table item.key) running
      → Stands code after → Follows code (given live item) after
  follows-fed item after is stands = record {
    does = follows.does;
    args = ap (λ (r : Running). r.args) is ∙ follows.args;
    budget = ap (λ (r : Running). r.budget) is ∙ follows.budget;
    rights = ap (λ (r : Running). r.rights) is ∙ follows.rights;
    fed = ap (λ (r : Running). r.fed) is ∙ ap (λ (fed : List ReadItem). fed ++ as_fed item ∷ []) follows.fed ∙ sym (map-joined live.reads item);
    stands = λ on. stands;
  }

-- the machine of a call that was not killed is in the call's phase
pub machine-ready : (killed : Bool) (phase : machine.Phase) → phase_of killed phase ≡ Ready → (killed ≡ false) × (phase ≡ run.Ready)
machine-ready true phase is = absurd (let clash : Ended outcome.Killed [] ≡ Ready = is in cc)
machine-ready false run.Ready is = (refl, refl)
machine-ready false (run.Waiting table key) is = absurd (let clash : Waiting table key ≡ Ready = is in cc)
machine-ready false (run.Over how writes) is = absurd (let clash : Ended how writes ≡ Ready = is in cc)

pub machine-waits : (killed : Bool) (phase : machine.Phase) (table : TableId) (key : List ℕ) → phase_of killed phase ≡ Waiting table key
    → (killed ≡ false) × (phase ≡ run.Waiting table key)
machine-waits true phase table key is = absurd (let clash : Ended outcome.Killed [] ≡ Waiting table key = is in cc)
machine-waits false run.Ready table key is = absurd (let clash : Ready ≡ Waiting table key = is in cc)
machine-waits false (run.Waiting other another) table key is =
    let same : Waiting other another ≡ Waiting table key = is in
    let tables : other ≡ table = cc in
    let keys : another ≡ key = cc in
    (refl, cc)
machine-waits false (run.Over how writes) table key is = absurd (let clash : Ended how writes ≡ Waiting table key = is in cc)

-- a machine that ended as the meaning does leaves the call as its turn does
pub ended-turn : (live : Live) (quantum : ℕ) (meant : Run) (phase : machine.Phase) (used : ℕ) → EndsAs meant phase used
    → record live { phase = phase_of false phase } ≡ after_run live quantum meant
ended-turn live quantum meant run.Ready used ends = absurd ends.ended
ended-turn live quantum meant (run.Waiting table key) used ends = absurd ends.ended
ended-turn live quantum (Done reply writes units) (run.Over how changes) used ends =
    let ends_with : EndsWith (Done reply writes units) how changes = ends.ended in
    let same : outcome.Done reply ≡ how = let answers = ends_with.answers in cc in
    ap (λ (phase : Phase). record live { phase = phase }) (ap (λ (o : Outcome). Ended o changes) (sym same) ∙ ap (Ended (outcome.Done reply)) (sym ends_with.leaves))
ended-turn live quantum (Trapped trap units) (run.Over how changes) used ends =
    let ends_with : EndsWith (Trapped trap units) how changes = ends.ended in
    let same : outcome.Trapped trap ≡ how = let answers = ends_with.answers in cc in
    ap (λ (phase : Phase). record live { phase = phase }) (ap (λ (o : Outcome). Ended o changes) (sym same) ∙ ap (Ended (outcome.Trapped trap)) (sym ends_with.leaves))
ended-turn live quantum Spent (run.Over how changes) used ends = absurd (ends.unspent refl)
ended-turn live quantum (Wants table key units) (run.Over how changes) used ends =
    let ends_with : EndsWith (Wants table key units) how changes = ends.ended in
    absurd (let answers = ends_with.answers in cc)
