-- What the queues tell of themselves.
use Rattle.std.specs.Prelude.{◌≡◌, ◌≢◌, ◌<◌, ℕ, length, List, [], ◌∷◌, ◌++◌, slice_set}
use Rattle.task.specs.Turning.{Live}
use Rattle.sim.specs.State.{queue_of}

-- the first call of a worker is taken out
pub record Takes (old new : List (List Live)) (worker : ℕ) (live : Live) : Type 0 where
  pub rest : List Live
  pub first : queue_of old worker ≡ live ∷ rest
  pub left : new ≡ slice_set old worker rest

-- the worker has no call, and nothing is taken
pub record TakesNothing (old new : List (List Live)) (worker : ℕ) : Type 0 where
  pub none : queue_of old worker ≡ []
  pub left : new ≡ old

-- the queues with one more call at the back of a worker's
abbrev pub with_back : List (List Live) → ℕ → Live → List (List Live)
with_back queues worker live = slice_set queues worker (queue_of queues worker ++ live ∷ [])

-- there is such a worker, and it has a call
pub record HasCall (queues : List (List Live)) (worker : ℕ) : Type 0 where
  pub small : worker < length queues
  pub some : queue_of queues worker ≢ []
