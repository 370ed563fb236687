-- The worker that is found has a call.
use Rattle.std.specs.Prelude.{IfSome}
use Rattle.std.proofs.Common.{◌≡◌, ◌≢◌, ◌<◌, ◌-◌, ℕ, suc, ◌+◌, List, [], ◌∷◌, length, drop, get_or, Option, Some, None, ap, sym, ◌∙◌, length-drop, arith}
use Rattle.std.proofs.lemmas.Grind.{common_steps}
use Rattle.task.specs.Turning.{Live}
use Rattle.sim.specs.Play.{first_busy}
use Rattle.sim.specs.Queueing.{HasCall}
use Rattle.sim.specs.State.{queue_of}

-- the worker is so many behind the first, and has a call
record FoundFrom (first : ℕ) (queues : List (List Live)) (worker : ℕ) : Type 0 where
  offset : ℕ
  is : worker ≡ first + offset
  small : offset < length queues
  some : get_or queues offset [] ≢ []

found-from : (first : ℕ) (queues : List (List Live)) (worker : ℕ) → first_busy first queues ≡ Some worker → FoundFrom first queues worker
found-from first [] worker e = absurd cc
found-from first ([] ∷ queues) worker e =
    let behind = found-from (first + 1) queues worker e in
    record { offset = suc behind.offset; is = omega (arith, behind.is); small = omega (arith, behind.small); some = behind.some }
found-from first ((live ∷ queue) ∷ queues) worker e =
    let same : first ≡ worker = cc in
    record { offset = 0; is = omega (arith, same); small = omega arith; some = λ none. cc }

get-drop : (queues : List (List Live)) (n k : ℕ) → get_or (drop n queues) k [] ≡ get_or queues (n + k) []
get-drop queues n k = grind (arith, common_steps)

pub has-behind : (queues : List (List Live)) (first worker : ℕ) → first_busy first (drop first queues) ≡ Some worker → HasCall queues worker
has-behind queues first worker e =
    let found = found-from first (drop first queues) worker e in
    let is = found.is in
    let small = found.small in
    let rest : length (drop first queues) ≡ length queues - first = length-drop first queues in
    let at : queue_of queues worker ≡ get_or (drop first queues) found.offset [] = ap (λ (n : ℕ). queue_of queues n) is ∙ sym (get-drop queues first found.offset) in
    record { small = omega (arith, is, small, rest); some = λ none. found.some (sym at ∙ none) }

pub has-any : (queues : List (List Live)) (given : Option ℕ) → given ≡ first_busy 0 queues → IfSome given (HasCall queues)
has-any queues None is = tt
has-any queues (Some worker) is = has-behind queues 0 worker (sym is)
