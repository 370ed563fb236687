-- Queues of live calls, by what is taken out of them.
use Rattle.std.specs.Prelude.{MatchOption}
use Rattle.std.proofs.Common.{◌≡◌, ◌<◌, ℕ, zero, suc, ◌+◌, List, [], ◌∷◌, ◌++◌, length, get_or, set, Option, Some, None, refl, ap, sym, ◌∙◌, add-one, length-append, arith}
use Rattle.std.proofs.lemmas.Grind.{common_steps}
use Rattle.std.proofs.lemmas.List.{set-get_or}
use Rattle.std.proofs.lemmas.List.Sums.{sum_by-cons, sum_by-set}
use Rattle.task.specs.Turning.{Live}
use Rattle.sim.specs.Play.{idle_workers, load_of}
use Rattle.sim.specs.Queueing.{Takes, TakesNothing, with_back}
use Rattle.sim.specs.State.{queue_of}

pub one-more-worker : (n : ℕ) → idle_workers (n + 1) ≡ idle_workers n ++ [] ∷ []
one-more-worker zero = refl
one-more-worker (suc n) =
    ap idle_workers (add-one (suc n))
    ∙ ap (λ (queues : List (List Live)). [] ∷ queues) (sym (ap idle_workers (add-one n)) ∙ one-more-worker n)

pub length-idle : (n : ℕ) → length (idle_workers n) ≡ n
length-idle zero = refl
length-idle (suc n) = ap suc (length-idle n)

-- whichever is given for past the end, the queue of a worker is the element at its number
pub queue-at : (queues : List (List Live)) (worker : ℕ) (queue : List Live) → worker < length queues
    → queue ≡ get_or queues worker queue → queue_of queues worker ≡ queue
queue-at queues worker queue small is = grind (arith, common_steps)

-- what a queue of a worker gives, its first call or none, the queues give
pub taken : (given : Option Live) (queues : List (List Live)) (worker : ℕ) (old new : List Live) → queue_of queues worker ≡ old
    → MatchOption given ((old ≡ []) × (new ≡ [])) (λ live. old ≡ live ∷ new)
    → MatchOption given (TakesNothing queues (set queues worker new) worker) (Takes queues (set queues worker new) worker)
taken (Some live) queues worker old new is gives = record { rest = new; first = is ∙ gives; left = refl }
taken None queues worker old new is gives = record {
  none = is ∙ gives.0;
  left = ap (set queues worker) (gives.1 ∙ sym gives.0 ∙ sym is) ∙ set-get_or queues worker [];
}

-- ---- The load

-- with a call taken out it is less by one
pub load-taken : (old new : List (List Live)) (worker : ℕ) (live : Live) → worker < length old → Takes old new worker live → load_of old ≡ load_of new + 1
load-taken old new worker live small takes =
    let set-rest = sum_by-set length old worker takes.rest [] small in
    let was : length (queue_of old worker) ≡ suc (length takes.rest) = ap length takes.first in
    let is : load_of new ≡ load_of (set old worker takes.rest) = ap load_of takes.left in
    omega (arith, set-rest, was, is)

-- and with one at a back it is more by one
pub load-back : (queues : List (List Live)) (worker : ℕ) (live : Live) → worker < length queues
    → load_of (with_back queues worker live) ≡ load_of queues + 1
load-back queues worker live small =
    let set-back = sum_by-set length queues worker (queue_of queues worker ++ live ∷ []) [] small in
    let longer = length-append (queue_of queues worker) (live ∷ []) in
    omega (arith, set-back, longer)

load-idle : (workers : ℕ) → load_of (idle_workers workers) ≡ 0
load-idle zero = refl
load-idle (suc workers) =
    let sums = sum_by-cons length [] (idle_workers workers) in
    let rest = load-idle workers in
    omega (arith, sums, rest)

-- workers without a call have none
pub load-none : (workers : ℕ) (queues : List (List Live)) → queues ≡ idle_workers workers → load_of queues ≡ 0
load-none workers queues is = ap load_of is ∙ load-idle workers
