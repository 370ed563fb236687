-- What is taken out of the queues, and put in at a back, in sums and in facts about each live call.
use Rattle.std.specs.List.{AllByRecursion, sum_by}
use Rattle.std.proofs.Common.{◌≡◌, ◌<◌, ℕ, zero, suc, ◌+◌, List, [], ◌∷◌, ◌++◌, length, get_or, set, ap, sym, ◌∙◌, subst, arith}
use Rattle.std.proofs.lemmas.List.Sums.{sum_by-cons, sum_by-set, sum_by_push}
use Rattle.task.specs.Turning.{Live}
use Rattle.sim.specs.Counting.{total, AllLive}
use Rattle.sim.specs.Queueing.{Takes, with_back}
use Rattle.sim.specs.State.{queue_of}

-- ---- Sums

pub total-taken : (weight : Live → ℕ) (old new : List (List Live)) (worker : ℕ) (live : Live) → worker < length old
    → Takes old new worker live → total weight old ≡ total weight new + weight live
total-taken weight old new worker live small takes =
    let set-rest = sum_by-set (sum_by weight) old worker takes.rest [] small in
    let was : sum_by weight (queue_of old worker) ≡ weight live + sum_by weight takes.rest =
    ap (sum_by weight) takes.first ∙ sum_by-cons weight live takes.rest in
    let is : total weight new ≡ total weight (set old worker takes.rest) = ap (total weight) takes.left in
    omega (arith, set-rest, was, is)

pub total-back : (weight : Live → ℕ) (queues : List (List Live)) (worker : ℕ) (live : Live) → worker < length queues
    → total weight (with_back queues worker live) ≡ total weight queues + weight live
total-back weight queues worker live small =
    let set-back = sum_by-set (sum_by weight) queues worker (queue_of queues worker ++ live ∷ []) [] small in
    let back = sum_by_push weight (queue_of queues worker) live in
    omega (arith, set-back, back)

-- ---- Facts about each

all-set : {X : Type 0} (Holds : X → Type 0) (xs : List X) (i : ℕ) (y : X) → AllByRecursion Holds xs → Holds y → AllByRecursion Holds (set xs i y)
all-set Holds [] i y all holds = tt
all-set Holds (x ∷ xs) zero y all holds = (holds, all.1)
all-set Holds (x ∷ xs) (suc i) y all holds = (all.0, all-set Holds xs i y all.1 holds)

all-at : {X : Type 0} (Holds : X → Type 0) (xs : List X) (i : ℕ) (d : X) → Holds d → AllByRecursion Holds xs → Holds (get_or xs i d)
all-at Holds [] i d holds all = holds
all-at Holds (x ∷ xs) zero d holds all = all.0
all-at Holds (x ∷ xs) (suc i) d holds all = all-at Holds xs i d holds all.1

all-push : {X : Type 0} (Holds : X → Type 0) (xs : List X) (y : X) → AllByRecursion Holds xs → Holds y → AllByRecursion Holds (xs ++ y ∷ [])
all-push Holds [] y all holds = (holds, tt)
all-push Holds (x ∷ xs) y all holds = (all.0, all-push Holds xs y all.1 holds)

all-map : {X : Type 0} (Holds Follows : X → Type 0) → ((x : X) → Holds x → Follows x) → (xs : List X) → AllByRecursion Holds xs → AllByRecursion Follows xs
all-map Holds Follows step [] all = tt
all-map Holds Follows step (x ∷ xs) all = (step x all.0, all-map Holds Follows step xs all.1)

pub all-live-map : (Holds Follows : Live → Type 0) → ((live : Live) → Holds live → Follows live) → (queues : List (List Live))
    → AllLive Holds queues → AllLive Follows queues
all-live-map Holds Follows step queues all =
    all-map (AllByRecursion Holds) (AllByRecursion Follows) (all-map Holds Follows step) queues all

-- the call that is taken out, and those that are left
pub all-taken : (Holds : Live → Type 0) (old new : List (List Live)) (worker : ℕ) (live : Live) → Takes old new worker live
    → AllLive Holds old → Holds live × AllLive Holds new
all-taken Holds old new worker live takes all =
    let queue : AllByRecursion Holds (queue_of old worker) = all-at (AllByRecursion Holds) old worker [] tt all in
    let parts : AllByRecursion Holds (live ∷ takes.rest) = subst (AllByRecursion Holds) takes.first queue in
    (parts.0, subst (AllLive Holds) (sym takes.left) (all-set (AllByRecursion Holds) old worker takes.rest all parts.1))

pub all-back : (Holds : Live → Type 0) (queues : List (List Live)) (worker : ℕ) (live : Live) → AllLive Holds queues → Holds live
    → AllLive Holds (with_back queues worker live)
all-back Holds queues worker live all holds =
    let queue : AllByRecursion Holds (queue_of queues worker) = all-at (AllByRecursion Holds) queues worker [] tt all in
    all-set (AllByRecursion Holds) queues worker (queue_of queues worker ++ live ∷ []) all
    (all-push Holds (queue_of queues worker) live queue holds)
