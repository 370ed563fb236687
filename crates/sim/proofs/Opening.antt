-- A simulation that has not begun.
use Rattle.std.specs.List.{sum_by}
use Rattle.std.proofs.Common.{◌≡◌, ℕ, zero, suc, [], ◌∷◌, Option, None, refl, sym, subst, arith}
use Rattle.std.proofs.lemmas.List.Sums.{sum_by-cons}
use Rattle.sp_base.specs.declared.numbers.Caller.{Caller}
use Rattle.task.specs.Turning.{Live}
use Rattle.clients.specs.declared.callers.Callers.{Callers}
use Rattle.clients.specs.Numbering.{number_of}
use Rattle.sim.specs.Counting.{AllLive, Indexes, PointsTo, is_of, number_in, total}
use Rattle.sim.specs.Play.{idle_workers}

total-idle : (weight : Live → ℕ) (workers : ℕ) → total weight (idle_workers workers) ≡ 0
total-idle weight zero = refl
total-idle weight (suc workers) =
    let sums = sum_by-cons (sum_by weight) [] (idle_workers workers) in
    let rest = total-idle weight workers in
    omega (arith, sums, rest)

pub indexes-idle : (callers : Callers) (workers : ℕ) → ((caller : Caller) → number_of callers caller ≡ None)
    → Indexes callers ([] ∷ idle_workers workers)
indexes-idle callers workers none caller =
    let sums = sum_by-cons (sum_by (is_of caller)) [] (idle_workers workers) in
    let idle = total-idle (is_of caller) workers in
    subst (λ (n : Option ℕ). PointsTo n (total (is_of caller) ([] ∷ idle_workers workers)) (total (number_in caller) ([] ∷ idle_workers workers)))
    (sym (none caller)) (omega (arith, sums, idle))

pub all-idle : (Holds : Live → Type 0) (workers : ℕ) → AllLive Holds (idle_workers workers)
all-idle Holds zero = tt
all-idle Holds (suc workers) = (tt, all-idle Holds workers)
