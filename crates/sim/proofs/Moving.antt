-- Calls that move between the queues and the pushed calls, and that end.
use Rattle.std.specs.Prelude.{map, if◌then◌else◌}
use Rattle.std.specs.List.{AllByRecursion}
use Rattle.std.proofs.Common.{◌≡◌, ◌<◌, ◌≤◌, ◌⊎◌, ℕ, zero, suc, ◌+◌, Bool, true, false, None, List, [], ◌∷◌, ◌++◌, length, inl, inr, refl, ap, sym, ◌∙◌, subst, arith}
use Rattle.std.proofs.lemmas.List.{length-set, map-append}
use Rattle.std.proofs.lemmas.List.Sums.{sum_by-cons}
use Rattle.sp_base.specs.declared.calls.Call.{Call}
use Rattle.sp_base.specs.declared.numbers.Caller.{Caller}
use Rattle.sp_base.specs.declared.numbers.TenantId.{TenantId}
use Rattle.sp_base.specs.declared.outcomes.Outcome.{Outcome}
use Rattle.sp_base.specs.declared.writes.Write.{Write}
use Rattle.records.specs.GrantsList.{GrantsList}
use Rattle.journal.specs.declared.entry.Entry.{Entry}
use Rattle.journal.specs.declared.entry.Home.{Home}
use Rattle.journal.specs.Folds.{same_caller}
use Rattle.book.specs.declared.answers.Commit.{Commit}
use Rattle.book.specs.declared.answers.Commit.TheVariants as commit
use Rattle.book.specs.Standing.{StandsFor}
use Rattle.book.specs.Verdict.{after_commit, entry_at, verdict}
use Rattle.clients.specs.declared.callers.Callers.{Callers}
use Rattle.clients.specs.Numbering.{number_of}
use Rattle.clients.specs.Pushed.{Pushed, pushed_of}
use Rattle.report.specs.declared.line.Line.{Line}
use Rattle.task.specs.Extensions.{ExtValue}
use Rattle.task.specs.Turning.{Live}
use Rattle.sim.specs.declared.sim.Sim.{Sim}
use Rattle.sim.specs.Counting.{AllLive, Indexes, total}
use Rattle.sim.specs.Play.{commit_said, end_told, of_call, placed}
use Rattle.sim.specs.Queueing.{Takes, with_back}
use Rattle.sim.specs.Standing.{AreInstalled, IsEnded, IsLive, IsPlaced, StandsAt, commit_of, workers_of}
use Rattle.sim.specs.State.{SimState, all_calls, queued, with_journal, with_pushed, with_queue}
use Rattle.sim.proofs.Growing.{InstallsNothing, all-live-grown, installed-grown}
use Rattle.sim.proofs.Indexing.{indexed-alike, indexed-ended}
use Rattle.sim.proofs.Totals.{all-back, all-taken, total-back, total-taken}

-- ---- The queues of a state

-- the call that is taken out of a simulation's queues is that of the state's
pub taken-of : (sim : Sim) (state : SimState) (between : List (List Live)) (worker : ℕ) (live : Live) → StandsAt sim state
    → Takes sim.queues between worker live → Takes state.queues between worker live
taken-of sim state between worker live at takes =
    subst (λ (queues : List (List Live)). Takes queues between worker live) at.queues takes

pub small-of : (sim : Sim) (state : SimState) (worker : ℕ) → StandsAt sim state → worker < workers_of sim → worker < length state.queues
small-of sim state worker at small = subst (λ (queues : List (List Live)). worker < length queues) at.queues small

pub small-between : (before between : List (List Live)) (worker to : ℕ) (live : Live) → Takes before between worker live
    → to < length before → to < length between
small-between before between worker to live takes small =
    let same : length between ≡ length before = ap length takes.left ∙ length-set before worker takes.rest in
    omega (arith, same, small)

-- with one more list in front, the call is taken out of the next one
pub shifted : (first : List Live) (before between : List (List Live)) (worker : ℕ) (live : Live) → Takes before between worker live
    → Takes (first ∷ before) (first ∷ between) (suc worker) live
shifted first before between worker live takes =
    record { rest = takes.rest; first = takes.first; left = ap (λ (queues : List (List Live)). first ∷ queues) takes.left }

-- ---- A call that moves

total-moved : (weight : Live → ℕ) (before between : List (List Live)) («from» to : ℕ) (live next : Live)
    → «from» < length before → to < length between → Takes before between «from» live
    → total weight (with_back between to next) + weight live ≡ total weight before + weight next
total-moved weight before between «from» to live next small fits takes =
    let one = total-taken weight before between «from» live small takes in
    let back = total-back weight between to next fits in
    omega (arith, one, back)

-- what holds of all calls, where one was taken out of a queue and put in at a back
record Moves (callers : Callers) (grants : GrantsList) (journal : List Entry) (after : List (List Live)) : Type 0 where
  indexed : Indexes callers after
  live : AllLive (IsLive grants journal) after

moves : (old : Sim) (state : SimState) (between : List (List Live)) («from» to : ℕ) (live next : Live)
    → (at : StandsAt old state) (takes : Takes state.queues between «from» live) → «from» < workers_of old → to < length (state.pushed ∷ between)
    → next.call ≡ live.call → IsLive state.grants state.journal next
    → Moves old.callers state.grants state.journal (with_back (state.pushed ∷ between) to next)
moves old state between «from» to live next at takes small fits same is =
    let Holds : Live → Type 0 = IsLive state.grants state.journal in
    let all : Takes (state.pushed ∷ state.queues) (state.pushed ∷ between) (suc «from») live = shifted state.pushed state.queues between «from» live takes in
    let here = small-of old state «from» at small in
    let behind : suc «from» < length (state.pushed ∷ state.queues) = omega (arith, here) in
    let parts = all-taken Holds (state.pushed ∷ state.queues) (state.pushed ∷ between) (suc «from») live all at.live in
    record {
      indexed = indexed-alike old.callers (state.pushed ∷ state.queues) (with_back (state.pushed ∷ between) to next) live next same
          (λ (weight : Live → ℕ). total-moved weight (state.pushed ∷ state.queues) (state.pushed ∷ between) (suc «from») to live next behind fits all) at.indexed;
      live = all-back Holds (state.pushed ∷ between) to next parts.1 is;
    }

-- a call that was taken out of a queue goes to a queue's back
pub back-stands : (old : Sim) (state : SimState) (between : List (List Live)) («from» to : ℕ) (live next : Live)
    → (at : StandsAt old state) (takes : Takes state.queues between «from» live) → «from» < workers_of old → to < workers_of old
    → next.call ≡ live.call → IsLive state.grants state.journal next
    → StandsAt (record old { queues = with_back between to next }) (queued (with_queue state «from» takes.rest) to next)
back-stands old state between «from» to live next at takes small fits same is =
    let there = small-between state.queues between «from» to live takes (small-of old state to at fits) in
    let behind : suc to < length (state.pushed ∷ between) = omega (arith, there) in
    let moved = moves old state between «from» (suc to) live next at takes small behind same is in
    record {
      book = at.book;
      grants = at.grants;
      policy = at.policy;
      limit = at.limit;
      audit = at.audit;
      queues = ap (λ (queues : List (List Live)). with_back queues to next) takes.left;
      pushed = at.pushed;
      next = at.next;
      indexed = subst (λ (queues : List (List Live)). Indexes old.callers (state.pushed ∷ with_back queues to next)) takes.left moved.indexed;
      installed = at.installed;
      live = subst (λ (queues : List (List Live)). AllLive (IsLive state.grants state.journal) (state.pushed ∷ with_back queues to next)) takes.left moved.live;
    }

-- a call that was taken out of a queue is pushed
pushed-stands : (old : Sim) (state : SimState) (between : List (List Live)) («from» : ℕ) (live next : Live)
    → (at : StandsAt old state) (takes : Takes state.queues between «from» live) → «from» < workers_of old
    → next.call ≡ live.call → IsLive state.grants state.journal next
    → StandsAt (record old { queues = between; pushed = old.pushed ++ pushed_of next ∷ [] })
    (with_pushed (with_queue state «from» takes.rest) (state.pushed ++ next ∷ []))
pushed-stands old state between «from» live next at takes small same is =
    let front : 0 < length (state.pushed ∷ between) = omega arith in
    let moved = moves old state between «from» 0 live next at takes small front same is in
    record {
      book = at.book;
      grants = at.grants;
      policy = at.policy;
      limit = at.limit;
      audit = at.audit;
      queues = takes.left;
      pushed = ap (λ (calls : List Pushed). calls ++ pushed_of next ∷ []) at.pushed ∙ sym (map-append pushed_of state.pushed (next ∷ []));
      next = at.next;
      indexed = subst (λ (queues : List (List Live)). Indexes old.callers ((state.pushed ++ next ∷ []) ∷ queues)) takes.left moved.indexed;
      installed = at.installed;
      live = subst (λ (queues : List (List Live)). AllLive (IsLive state.grants state.journal) ((state.pushed ++ next ∷ []) ∷ queues)) takes.left moved.live;
    }

-- a call that goes on is placed
pub placed-stands : (old new : Sim) (state : SimState) (between : List (List Live)) (worker : ℕ) (live next : Live) (pushed : Bool)
    → (at : StandsAt old state) (takes : Takes state.queues between worker live) → worker < workers_of old
    → next.call ≡ live.call → IsLive state.grants state.journal next → IsPlaced (record old { queues = between }) new worker next pushed
    → StandsAt new (placed (with_queue state worker takes.rest) worker next pushed)
placed-stands old new state between worker live next false at takes small same is left =
    subst (λ (s : Sim). StandsAt s (queued (with_queue state worker takes.rest) worker next)) (sym left)
    (back-stands old state between worker worker live next at takes small small same is)
placed-stands old new state between worker live next true at takes small same is left =
    subst (λ (s : Sim). StandsAt s (with_pushed (with_queue state worker takes.rest) (state.pushed ++ next ∷ []))) (sym left)
    (pushed-stands old state between worker live next at takes small same is)

-- ---- The end of a call

commit-grows : (given : Commit) (journal : List Entry) (last : Entry)
    → (after_commit given journal last ≡ journal ++ last ∷ []) ⊎ (after_commit given journal last ≡ journal)
commit-grows (commit.Committed n outcome) journal last = inl refl
commit-grows (commit.Stale latest at) journal last = inr refl
commit-grows (commit.Conflict table key read read_at now now_at) journal last = inr refl
commit-grows (commit.Full at) journal last = inr refl
commit-grows commit.Memory journal last = inr refl

pub installed-still : (journal after : List Entry) (last : Entry) (installed : List (TenantId × ExtValue)) → InstallsNothing last
    → (after ≡ journal ++ last ∷ []) ⊎ (after ≡ journal) → AreInstalled journal installed → AreInstalled after installed
installed-still journal after last installed nothing (inl more) are =
    subst (λ (j : List Entry). AreInstalled j installed) (sym more) (installed-grown journal last installed nothing are)
installed-still journal after last installed nothing (inr same) are = subst (λ (j : List Entry). AreInstalled j installed) (sym same) are

pub live-still : (grants : GrantsList) (journal after : List Entry) (last : Entry) (queues : List (List Live))
    → (after ≡ journal ++ last ∷ []) ⊎ (after ≡ journal) → AllLive (IsLive grants journal) queues → AllLive (IsLive grants after) queues
live-still grants journal after last queues (inl more) all =
    subst (λ (j : List Entry). AllLive (IsLive grants j) queues) (sym more) (all-live-grown grants journal last queues all)
live-still grants journal after last queues (inr same) all = subst (λ (j : List Entry). AllLive (IsLive grants j) queues) (sym same) all

-- what the end of a call tells, and where the simulation then stands
pub record EndStands (new : Sim) (middle : SimState) (home : Home) (live : Live) (outcome : Outcome) (writes : List Write) (line : Line) : Type 0 where
  pub told : line ≡ (end_told middle home live outcome writes).0
  pub left : StandsAt new (end_told middle home live outcome writes).1

-- The call is in none of these lists, and all others are. It has ended.
pub ended-stands : (old new : Sim) (state : SimState) (queues : List (List Live)) (pushed : List Live) (left : List Pushed) (home : Home)
    (live next : Live) (outcome : Outcome) (writes : List Write) (line : Line)
    → StandsAt old state → next.call ≡ live.call → left ≡ map pushed_of pushed
    → ((weight : Live → ℕ) → total weight (all_calls state) ≡ total weight (pushed ∷ queues) + weight live)
    → AllLive (IsLive state.grants state.journal) (pushed ∷ queues)
    → IsEnded (record old { queues = queues; pushed = left }) new home next.call next.reads outcome writes line
    → EndStands new (record state { queues = queues; pushed = pushed }) home next outcome writes line
ended-stands old new state queues pushed left home live next outcome writes line at same calls gone all ends =
    let entry : Entry = entry_at home next.call outcome writes next.reads in
    let mine : Commit = commit_of (record old { queues = queues; pushed = left }) state.journal home next.call next.reads outcome writes in
    let theirs : Commit = verdict state.limit state.journal next.call entry outcome next.reads in
    let judged : mine ≡ theirs = ap (λ (limit : ℕ). verdict limit state.journal next.call entry outcome next.reads) at.limit in
    let grows = commit-grows theirs state.journal entry in
    let called : (caller : Caller) → number_of new.callers caller ≡ (if same_caller live.call.caller caller then None else number_of old.callers caller) =
    λ caller. ends.callers caller ∙ ap (λ (c : Call). if same_caller c.caller caller then None else number_of old.callers caller) same in
    record {
      told = ends.told state.journal at.book ∙ ap (λ (given : Commit). of_call next.call (commit_said given)) judged;
      left = record {
        book = subst (λ (given : Commit). StandsFor new.book (after_commit given state.journal entry)) judged (ends.book state.journal at.book);
        grants = ends.fixed.grants ∙ at.grants;
        policy = ends.policy ∙ at.policy;
        limit = ends.fixed.limit ∙ at.limit;
        audit = ends.fixed.audit ∙ at.audit;
        queues = ends.queues;
        pushed = ends.pushed ∙ calls;
        next = ends.next ∙ at.next;
        indexed = indexed-ended old.callers new.callers (all_calls state) (pushed ∷ queues) live gone at.indexed called;
        installed = installed-still state.journal (after_commit theirs state.journal entry) entry state.installed (λ tenant. refl) grows at.installed;
        live = live-still state.grants state.journal (after_commit theirs state.journal entry) entry (pushed ∷ queues) grows all;
      };
    }

-- a call that is taken out of a queue is gone
pub total-gone : (weight : Live → ℕ) (pushed : List Live) (before between : List (List Live)) (worker : ℕ) (live : Live) → worker < length before
    → Takes before between worker live → total weight (pushed ∷ before) ≡ total weight (pushed ∷ between) + weight live
total-gone weight pushed before between worker live small takes =
    let behind : suc worker < length (pushed ∷ before) = omega (arith, small) in
    total-taken weight (pushed ∷ before) (pushed ∷ between) (suc worker) live behind (shifted pushed before between worker live takes)
