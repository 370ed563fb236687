-- The script of a drill is in its ranges.
use Rattle.std.proofs.Common.{◌≡◌, ℕ, zero, suc, ◌+◌, ◌*◌, ◌%◌, true, false, leb, List, [], ◌∷◌, ◌++◌, refl, arith}
use Rattle.std.specs.Prelude.{not}
use Rattle.std.specs.List.{AllByRecursion}
use Rattle.std.proofs.lemmas.Bool.{lt-leb}
use Rattle.sched_text.specs.declared.event.Event.{Event}
use Rattle.sched_text.specs.Fits.{IsEvent, IsScript}
use Rattle.sched_text.proofs.Fitting.{all_and}
use Rattle.load_gen.specs.Drill.{call_begun, turn_of_call, calls_of, drill_script}

abbrev AreEvents : List (ℕ × Event) → Type 0
AreEvents events = AllByRecursion (λ row. IsEvent 4 row.1) events

is_worker : (i : ℕ) → not (leb 4 (i % 4)) ≡ true
is_worker i = let t : leb 4 (i % 4) ≡ false = lt-leb 4 (i % 4) (omega arith) in rw t refl

begun_fits : (seed i : ℕ) → IsEvent 4 (call_begun seed i)
begun_fits seed i = record {
  fields = record { number = omega arith; budget = record { low = omega arith; high = omega arith }; args = omega arith };
  has_workers = is_worker i;
}

turn_fits : (i : ℕ) → IsEvent 4 (turn_of_call i)
turn_fits i = record { fields = record { low = omega arith; high = omega arith }; has_workers = is_worker i }

calls_fit : (seed count : ℕ) → AreEvents (calls_of seed count)
calls_fit seed zero = tt
calls_fit seed (suc i) =
    all_and (λ row. IsEvent 4 row.1) (calls_of seed i ++ (7 + 2 * i, call_begun seed i) ∷ []) (8 + 2 * i, turn_of_call i)
    (all_and (λ row. IsEvent 4 row.1) (calls_of seed i) (7 + 2 * i, call_begun seed i) (calls_fit seed i) (begun_fits seed i))
    (turn_fits i)

pub drill_fits : (count seed : ℕ) → IsScript (drill_script count seed)
unfolding drill_script
drill_fits count seed = record {
  tenants = refl;
  rising = (omega arith, tt);
  few = omega arith;
  policy = omega arith;
  limit = record { low = omega arith; high = omega arith };
  workers = record { low = omega arith; high = omega arith };
  events = (record { fields = tt; has_workers = refl }, calls_fit seed count);
}
