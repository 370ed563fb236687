-- A run that stands goes on to where it stands, and its answer is what the program means.
use Rattle.std.proofs.Common.{◌≡◌, ℕ, ◌+◌, ◌≤◌, List, [], ◌∷◌, ◌++◌, Bool, true, false, Option, Some, refl, ap, sym, ◌∙◌, subst, arith, if◌then◌else◌}
use Rattle.sp_base.specs.declared.numbers.TableId.{TableId}
use Rattle.sp_base.specs.declared.reads.ReadItem.{ReadItem}
use Rattle.sp_base.specs.declared.rights.Level.{Level}
use Rattle.sp_base.specs.Places.{Place, same_place}
use Rattle.ext_mean.specs.declared.tree.Program.{Program}
use Rattle.ext_mean.specs.declared.run.Run.{Run}
use Rattle.ext_mean.specs.Meaning.{mean}
use Rattle.ext_mean.specs.Views.{View, part, place_of, value_read}
use Rattle.ext_mean.specs.Work.{World}
use Rattle.gen_code.specs.declared.code.Code.{Code}
use Rattle.gen_code.specs.Does.{Does}
use Rattle.gen_code.specs.Machine.{Config, Going, Over, begin, most_turns, once, steps}
use Rattle.gen_vm.specs.Going.{IsOver, Path, stays, turns}
use Rattle.gen_vm.specs.Standing.{ComesTo, Knows}
use Rattle.gen_vm.proofs.GoingLemmas.{one-more, over-alike, over-from}
use Rattle.gen_vm.proofs.SteadyLemmas.{steady}

pub knows-itself : (view : View) → Knows view view
knows-itself view = record { rights = refl; known = λ place value e. e }

module _ (code : Code) (args : List ℕ) (view : View) where
  abbrev with_limit : ℕ → World
  with_limit limit = record { args = args; budget = limit; view = view }

  -- one turn more, and where the run then stands
  pub comes-on : (limit : ℕ) (here there : Config) → ComesTo code args view here → once code (with_limit limit) (Going here) ≡ Going there → here.used ≤ there.used
      → ComesTo code args view there
  comes-on limit here there comes turn grows budget large fits knows =
      let world : World = record { args = args; budget = budget; view = large } in
      let earlier = comes budget large (omega arith) knows in (
        earlier.0 + 1,
        one-more code world earlier.0 (Going (begin code)) ∙ ap (once code world) earlier.1
            ∙ steady code args limit budget view large knows here there fits turn,
      )

  -- so many turns more
  pub comes-along : (limit : ℕ) (here there : Config) → ComesTo code args view here → Path code (with_limit limit) here there → ComesTo code args view there
  comes-along limit here there comes stays = comes
  comes-along limit here there comes (turns middle next path turn grows) =
      comes-on limit middle next (comes-along limit here middle comes path) turn grows

  -- where the next turn is the last, the run is what the program means
  pub answer-means : (program : Program) (limit : ℕ) (here : Config) (run : Run) → Does code program → ComesTo code args view here → here.used ≤ limit
      → once code (with_limit limit) (Going here) ≡ Over run → run ≡ mean program args limit view
  answer-means program limit here run does comes fits turn =
      let world = with_limit limit in
      let way = comes limit view fits (knows-itself view) in
      let over : steps code world (way.0 + 1) (Going (begin code)) ≡ Over run = one-more code world way.0 (Going (begin code)) ∙ ap (once code world) way.1 ∙ turn in
      let same = over-alike code world (way.0 + 1) (most_turns code limit) (Going (begin code)) run (mean program args limit view) over (does.means args limit view) in
      cc

  -- the turns that are left suffice
  pub turns-suffice : (program : Program) (limit : ℕ) (here : Config) → Does code program → ComesTo code args view here → here.used ≤ limit
      → IsOver (steps code (with_limit limit) (most_turns code limit) (Going here))
  turns-suffice program limit here does comes fits =
      let world = with_limit limit in
      let way = comes limit view fits (knows-itself view) in
      let over = over-from code world (most_turns code limit) way.0 (Going (begin code)) here (mean program args limit view) way.1 (does.means args limit view) in
      subst IsOver (sym over) tt

-- a run begins at its beginning
pub comes-first : (code : Code) (args : List ℕ) (view : View) → ComesTo code args view (begin code)
comes-first code args view budget large fits knows = (0, refl)

-- a record more, and what was known is known
known-step : (b : Bool) (first : Option (List ℕ)) (rest rest' : Option (Option (List ℕ))) (value : Option (List ℕ))
    → (rest ≡ Some value → rest' ≡ Some value) → (if b then Some first else rest) ≡ Some value → (if b then Some first else rest') ≡ Some value
known-step true first rest rest' value more e = e
known-step false first rest rest' value more e = more e

value-kept : (reads : List ReadItem) (read : ReadItem) (place : Place) (value : Option (List ℕ))
    → value_read reads place ≡ Some value → value_read (reads ++ read ∷ []) place ≡ Some value
value-kept [] read place value e = let no : ⊥ = cc in absurd no
value-kept (first ∷ reads) read place value e =
    known-step (same_place (place_of first) place) first.value (value_read reads place) (value_read (reads ++ read ∷ []) place) value
    (value-kept reads read place value) e

pub knows-more : (reads : List ReadItem) (read : ReadItem) (rights : List (TableId × Level)) (large : View)
    → Knows (part (reads ++ read ∷ []) rights) large → Knows (part reads rights) large
knows-more reads read rights large knows = record {
  rights = knows.rights;
  known = λ place value e. knows.known place value (value-kept reads read place value e);
}

-- a run that is fed stands where it stood
pub comes-fed : (code : Code) (args : List ℕ) (reads : List ReadItem) (read : ReadItem) (rights : List (TableId × Level)) (here : Config)
    → ComesTo code args (part reads rights) here → ComesTo code args (part (reads ++ read ∷ []) rights) here
comes-fed code args reads read rights here comes budget large fits knows = comes budget large fits (knows-more reads read rights large knows)
