-- The meaning of the form that looks its arguments up is its straight work: one test after another.
use Rattle.std.proofs.Common.{◌≡◌, ℕ, Bool, true, false, List, length, Option, Some, None, refl, ◌∙◌, ◌+◌, nat_le}
use Rattle.sp_base.specs.Places.{Place}
use Rattle.sp_base.specs.RightsList.{can_read}
use Rattle.ext_mean.specs.Views.{View}
use Rattle.ext_mean.specs.Work.{World}
use Rattle.ext_mean.specs.MeaningValues.{is_key}
use Rattle.ext_mean.specs.Meaning.{start, ended}
use Rattle.ext_mean.specs.Lookup.{lookup_program, lookup_ended, lookup_work, LookupMeans}
use Rattle.ext_mean.proofs.LawsProved.{world_of, run_of, mean-ended}
use Rattle.ext_mean.proofs.Equations.{equations}

module _ (table code : ℕ) (args : List ℕ) (budget : ℕ) (view : View) where
  abbrev world : World
  world = world_of args budget view

  abbrev place : Place
  place = record { table = table; key = args }

  -- the run of the tree ends as the straight work does
  abbrev Same : Type 0
  Same = ended (run_of (lookup_program table code) world) ≡ lookup_ended (lookup_work world table code start)

  -- the `return` behind a place that is absent, and behind one whose bytes were answered
  absent-step : nat_le 1 budget ≡ true → is_key args ≡ true → can_read view.rights table ≡ true → nat_le 17 budget ≡ true → view.known place ≡ Some None → (b : Bool) → nat_le 18 budget ≡ b → Same
  unfolding lookup_program
  absent-step first key right paid known true e = simp (first, key, right, paid, known, e, equations)
  absent-step first key right paid known false e = simp (first, key, right, paid, known, e, equations)

  answered-step : (bytes : List ℕ) → nat_le 1 budget ≡ true → is_key args ≡ true → can_read view.rights table ≡ true → nat_le 17 budget ≡ true → view.known place ≡ Some (Some bytes) → nat_le 18 budget ≡ true → nat_le (0 + length bytes) 4096 ≡ true → (b : Bool) → nat_le 19 budget ≡ b → Same
  unfolding lookup_program
  answered-step bytes first key right paid known second short true e = simp (first, key, right, paid, known, second, short, e, equations)
  answered-step bytes first key right paid known second short false e = simp (first, key, right, paid, known, second, short, e, equations)

  reply-step : (bytes : List ℕ) → nat_le 1 budget ≡ true → is_key args ≡ true → can_read view.rights table ≡ true → nat_le 17 budget ≡ true → view.known place ≡ Some (Some bytes) → nat_le 18 budget ≡ true → (b : Bool) → nat_le (0 + length bytes) 4096 ≡ b → Same
  unfolding lookup_program
  reply-step bytes first key right paid known second true e = answered-step bytes first key right paid known second e (nat_le 19 budget) refl
  reply-step bytes first key right paid known second false e = simp (first, key, right, paid, known, second, e, equations)

  resp-step : (bytes : List ℕ) → nat_le 1 budget ≡ true → is_key args ≡ true → can_read view.rights table ≡ true → nat_le 17 budget ≡ true → view.known place ≡ Some (Some bytes) → (b : Bool) → nat_le 18 budget ≡ b → Same
  unfolding lookup_program
  resp-step bytes first key right paid known true e = reply-step bytes first key right paid known e (nat_le (0 + length bytes) 4096) refl
  resp-step bytes first key right paid known false e = simp (first, key, right, paid, known, e, equations)

  known-step : nat_le 1 budget ≡ true → is_key args ≡ true → can_read view.rights table ≡ true → nat_le 17 budget ≡ true → (answer : Option (Option (List ℕ))) → view.known place ≡ answer → Same
  unfolding lookup_program
  known-step first key right paid None e = simp (first, key, right, paid, e, equations)
  known-step first key right paid (Some None) e = absent-step first key right paid e (nat_le 18 budget) refl
  known-step first key right paid (Some (Some bytes)) e = resp-step bytes first key right paid e (nat_le 18 budget) refl

  read-step : nat_le 1 budget ≡ true → is_key args ≡ true → can_read view.rights table ≡ true → (b : Bool) → nat_le 17 budget ≡ b → Same
  unfolding lookup_program
  read-step first key right true e = known-step first key right e (view.known place) refl
  read-step first key right false e = simp (first, key, right, e, equations)

  right-step : nat_le 1 budget ≡ true → is_key args ≡ true → (b : Bool) → can_read view.rights table ≡ b → Same
  unfolding lookup_program
  right-step first key true e = read-step first key e (nat_le 17 budget) refl
  right-step first key false e = simp (first, key, e, equations)

  key-step : nat_le 1 budget ≡ true → (b : Bool) → is_key args ≡ b → Same
  unfolding lookup_program
  key-step first true e = right-step first e (can_read view.rights table) refl
  key-step first false e = simp (first, e, equations)

  first-step : (b : Bool) → nat_le 1 budget ≡ b → Same
  unfolding lookup_program
  first-step true e = key-step e (is_key args) refl
  first-step false e = simp (e, equations)

pub lookup-means : LookupMeans
lookup-means table code args budget view =
    mean-ended (lookup_program table code) args budget view ∙ first-step table code args budget view (nat_le 1 budget) refl
