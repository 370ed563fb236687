-- A call of the machine: where the run then stands, and what its answer says.
use Rattle.std.proofs.Common.{◌≡◌, ◌≢◌, ℕ, ◌≤◌, List, refl, ap, sym, ◌∙◌, subst, arith}
use Rattle.sp_base.specs.declared.numbers.TableId.{TableId}
use Rattle.sp_base.specs.declared.reads.ReadItem.{ReadItem}
use Rattle.sp_base.specs.declared.rights.Level.{Level}
use Rattle.ext_mean.specs.declared.run.Run.{Run}
use Rattle.ext_mean.specs.declared.tree.Program.{Program}
use Rattle.ext_mean.specs.Meaning.{mean}
use Rattle.ext_mean.specs.Views.{part}
use Rattle.gen_code.specs.declared.code.Code.{Code}
use Rattle.gen_code.specs.Does.{Does}
use Rattle.gen_code.specs.Machine.{Config, Going, most_turns, steps}
use Rattle.gen_vm.specs.declared.halt.Halt.{Halt}
use Rattle.gen_vm.specs.declared.halt.Halt.TheVariants.{Memory, Ended}
use Rattle.gen_vm.specs.declared.paused.Paused.{Paused}
use Rattle.gen_vm.specs.declared.paused.Paused.TheVariants as paused
use Rattle.gen_vm.specs.Answers.{GoesTo, IsAnswer, Pauses}
use Rattle.gen_vm.specs.Going.{Halts, IsOver, Path}
use Rattle.gen_vm.specs.Running.{Running, world_with}
use Rattle.gen_vm.specs.Standing.{ComesTo, Stands}
use Rattle.gen_vm.proofs.AnswerLemmas.{Same, answers-so, pauses-same, still}
use Rattle.gen_vm.proofs.GoingLemmas.{path-counts}
use Rattle.gen_vm.proofs.StandingLemmas.{answer-means, comes-along, turns-suffice}

-- the arguments and the records fed are those of the run
pub halts-with : (code : Code) (base : Running) (limit : ℕ) (args : List ℕ) (fed : List ReadItem) (halt : Halt) (stop : Config)
    → args ≡ base.args → fed ≡ base.fed
    → Halts code (record { args = args; budget = limit; view = part fed base.rights }) base.here halt stop
    → Halts code (world_with base limit) base.here halt stop
halts-with code base limit args fed halt stop same-args same-fed halts =
    subst (λ (f : List ReadItem). Halts code (record { args = base.args; budget = limit; view = part f base.rights }) base.here halt stop) same-fed
    (subst (λ (a : List ℕ). Halts code (record { args = a; budget = limit; view = part fed base.rights }) base.here halt stop) same-args halts)

pub over-with : (code : Code) (base : Running) (limit : ℕ) (args : List ℕ) (fed : List ReadItem)
    → args ≡ base.args → fed ≡ base.fed → Stands code base → base.here.used ≤ limit
    → IsOver (steps code (record { args = args; budget = limit; view = part fed base.rights }) (most_turns code limit) (Going base.here))
over-with code base limit args fed same-args same-fed stands fits =
    let over = turns-suffice code base.args (part base.fed base.rights) stands.of_program.0 limit base.here stands.of_program.1 stands.comes fits in
    subst (λ (a : List ℕ). IsOver (steps code (record { args = a; budget = limit; view = part fed base.rights }) (most_turns code limit) (Going base.here))) (sym same-args)
    (subst (λ (f : List ReadItem). IsOver (steps code (record { args = base.args; budget = limit; view = part f base.rights }) (most_turns code limit) (Going base.here))) (sym same-fed) over)

module _ (code : Code) (base : Running) (limit : ℕ) (stands : Stands code base) (fits : base.here.used ≤ limit) (room : limit ≤ base.budget) where
  -- a place on the way, with all else as it was
  stands-at : (there : Config) (after : Running) → Path code (world_with base limit) base.here there → there.used ≤ limit → Same (record base { here = there }) after → Stands code after
  stands-at there after path within same =
      let comes = comes-along code base.args (part base.fed base.rights) limit base.here there stands.comes path in
      let here = subst (λ (h : Config). ComesTo code base.args (part base.fed base.rights) h) (sym same.here) comes in
      let rights = subst (λ (r : List (TableId × Level)). ComesTo code base.args (part base.fed r) after.here) (sym same.rights) here in
      let fed = subst (λ (f : List ReadItem). ComesTo code base.args (part f after.rights) after.here) (sym same.fed) rights in
      let used : after.here.used ≡ there.used = ap (λ (h : Config). h.used) same.here in
      let budget : after.budget ≡ base.budget = same.budget in
      record {
        of_program = stands.of_program;
        comes = subst (λ (a : List ℕ). ComesTo code a (part after.fed after.rights) after.here) (sym same.args) fed;
        within = omega arith;
      }

  goes-at : (there : Config) (after : Running) → Path code (world_with base limit) base.here there → after.here ≡ there → GoesTo code limit base after.here
  goes-at there after path here =
      let counts = path-counts code (world_with base limit) base.here there path in
      (counts.0, counts.1 ∙ ap (λ (h : Config). Going h) (sym here))

  -- without memory
  pub memory-stands : (stop : Config) → Halts code (world_with base limit) base.here Memory stop → Stands code (record base { here = stop })
  memory-stands stop halts =
      stands-at halts.there (record base { here = stop }) halts.path (halts.within fits)
      (record { args = refl; budget = refl; rights = refl; fed = refl; here = halts.turn })

  pub memory-goes : (stop : Config) → Halts code (world_with base limit) base.here Memory stop → GoesTo code limit base stop
  memory-goes stop halts = goes-at halts.there (record base { here = stop }) halts.path halts.turn

  module _ (run : Run) (result : Paused) (stop : Config) (after : Running) (halts : Halts code (world_with base limit) base.here (Ended run) stop) (pauses : Pauses run result (record base { here = stop }) after) where
    same : Same (record base { here = stop }) after
    same = pauses-same run result (record base { here = stop }) after pauses

    -- the run is what the program means
    pub ended-answers : (program : Program) → Does code program → IsAnswer result after (mean program base.args limit (part base.fed base.rights))
    ended-answers program does =
        let comes = comes-along code base.args (part base.fed base.rights) limit base.here halts.there stands.comes halts.path in
        let means = answer-means code base.args (part base.fed base.rights) program limit halts.there run does comes (halts.within fits) halts.turn.over in
        subst (λ (r : Run). IsAnswer result after r) means (answers-so run result (record base { here = stop }) after halts.turn.units pauses)

    here-is : result ≢ paused.Ended → after.here ≡ halts.there
    here-is unended = same.here ∙ still run result (record base { here = stop }) after halts.there stop pauses unended halts.turn.stays

    pub ended-stands : result ≢ paused.Ended → Stands code after
    ended-stands unended =
        stands-at halts.there after halts.path (halts.within fits)
        (record { args = same.args; budget = same.budget; rights = same.rights; fed = same.fed; here = here-is unended })

    pub ended-goes : result ≢ paused.Ended → GoesTo code limit base after.here
    ended-goes unended = goes-at halts.there after halts.path (here-is unended)
