-- A turn of a worker's first call, by what it does to the queues and to the pushed calls.
use Rattle.std.specs.Prelude.{IfOk, OnOk, Result, Ok, Err, map, nat_lt, option_map, if◌then◌else◌}
use Rattle.std.specs.List.{AllByRecursion, sum_by}
use Rattle.std.proofs.Common.{◌≡◌, ◌<◌, ◌≤◌, ℕ, suc, ◌+◌, Bool, true, false, None, List, [], ◌∷◌, ◌++◌, length, refl, ap, sym, ◌∙◌, subst, arith}
use Rattle.std.proofs.lemmas.List.Sums.{sum_by_push}
use Rattle.sp_base.specs.declared.calls.Call.{Call}
use Rattle.sp_base.specs.declared.calls.Policy.{Policy}
use Rattle.sp_base.specs.declared.numbers.Caller.{Caller}
use Rattle.sp_base.specs.declared.numbers.TableId.{TableId}
use Rattle.sp_base.specs.declared.reads.ReadItem.{ReadItem}
use Rattle.ext_mean.specs.declared.run.Run.{Run}
use Rattle.ext_mean.specs.declared.run.Run.TheVariants as run
use Rattle.records.specs.GrantsList.{GrantsList}
use Rattle.journal.specs.declared.entry.Entry.{Entry}
use Rattle.journal.specs.declared.entry.Home.TheVariants.{Server}
use Rattle.journal.specs.Granted.{granted}
use Rattle.journal.specs.Reads.{IsHeld}
use Rattle.book.specs.Standing.{RanOn, StandsFor}
use Rattle.book.specs.Verdict.{item_at}
use Rattle.clients.specs.First.{first_of}
use Rattle.clients.specs.Pushed.{Pushed, is_callers, pushed_of}
use Rattle.report.specs.declared.line.Line.{Line}
use Rattle.report.specs.declared.line.Said.{Said}
use Rattle.report.specs.declared.line.Said.TheVariants as said
use Rattle.task.specs.declared.phase.Phase.{Phase}
use Rattle.task.specs.declared.phase.Phase.TheVariants as phase
use Rattle.task.specs.declared.turned.Turned.TheVariants as told
use Rattle.task.specs.Tasks.{GoesOn as On, IsTask, told_of}
use Rattle.task.proofs.Counting.{turns-raise}
use Rattle.task.proofs.Turns.{turns-keep}
use Rattle.task.specs.Turning.{Live, after_run, given, meaning_with, turn_of, units_of_turn}
use Rattle.sim.specs.declared.sim.Sim.{Sim}
use Rattle.sim.specs.Counting.{is_of, left_away, left_of, total}
use Rattle.sim.specs.Play.{Told, end_told, goes_away, goes_on, load_of, turn_event, turn_first, turned}
use Rattle.sim.specs.Queueing.{Takes, with_back}
use Rattle.sim.specs.Standing.{Ends, GoesOn, IsLive, IsPlaced, MayBePushed, ReadsOn, Stands, StandsAt, Tells, units_left, workers_of}
use Rattle.sim.specs.State.{SimState, all_calls, is_call_of, with_queue}
use Rattle.sim.proofs.Indexing.{free-of}
use Rattle.sim.proofs.Listing.{map-first}
use Rattle.sim.proofs.Moving.{ended-stands, placed-stands, shifted, small-between, small-of, taken-of, total-gone}
use Rattle.sim.proofs.Reading.{held-now}
use Rattle.sim.proofs.Totals.{all-taken, total-back, total-taken}

-- ---- What a turn leaves of a call

-- the run of a call belongs to the journal
abbrev pub Ran : GrantsList → List Entry → Live → Type 0
Ran grants journal live = RanOn grants journal live.call live.ext.program live.rights live.reads

-- the call, its extension, its rights and its reads stay
record Keeps (before after : Live) : Type 0 where
  call : after.call ≡ before.call
  ran : (grants : GrantsList) (journal : List Entry) → Ran grants journal before → Ran grants journal after

either-keeps : (goes : Bool) (live one other : Live) → Keeps live one → Keeps live other → Keeps live (if goes then one else other)
either-keeps true live one other first second = first
either-keeps false live one other first second = second

run-keeps : (live : Live) (quantum : ℕ) (ran : Run) → Keeps live (after_run live quantum ran)
run-keeps live quantum (run.Wants table key used) = record { call = refl; ran = λ grants journal is. is }
run-keeps live quantum run.Spent =
    either-keeps (nat_lt (live.spent + quantum) live.call.budget) live _ _
    (record { call = refl; ran = λ grants journal is. is }) (record { call = refl; ran = λ grants journal is. is })
run-keeps live quantum (run.Trapped trap used) = record { call = refl; ran = λ grants journal is. is }
run-keeps live quantum (run.Done reply writes used) = record { call = refl; ran = λ grants journal is. is }

turn-keeps : (live : Live) (quantum : ℕ) → Keeps live (turn_of live quantum)
turn-keeps live quantum = run-keeps live quantum (meaning_with live (units_of_turn live quantum))

pub turned-call : (live : Live) (quantum : ℕ) → (turn_of live quantum).call ≡ live.call
turned-call live quantum = (turn-keeps live quantum).call

-- ---- A turn, by its rule

-- what a turn does, where this call is the worker's first
event-is : (state : SimState) (between : List (List Live)) (worker quantum : ℕ) (live next : Live) (stands : Phase) (takes : Takes state.queues between worker live)
    → next ≡ turn_of live quantum → next.phase ≡ stands
    → turn_event state worker quantum ≡ turned (with_queue state worker takes.rest) (load_of state.queues) worker next stands
event-is state between worker quantum live next stands takes is phase =
    ap (turn_first state worker quantum) takes.first
    ∙ ap (λ (l : Live). turned (with_queue state worker takes.rest) (load_of state.queues) worker l l.phase) (sym is)
    ∙ ap (turned (with_queue state worker takes.rest) (load_of state.queues) worker next) phase

pub ran-between : (sim : Sim) (state : SimState) (between : List (List Live)) (worker quantum : ℕ) (live next : Live)
    → StandsAt sim state → Takes sim.queues between worker live → next ≡ turn_of live quantum
    → Ran state.grants state.journal next
ran-between sim state between worker quantum live next at takes is =
    let parts = all-taken (IsLive state.grants state.journal) (all_calls state) (state.pushed ∷ between) (suc worker) live
    (shifted state.pushed state.queues between worker live (taken-of sim state between worker live at takes)) at.live in
    subst (Ran state.grants state.journal) (sym is) ((turn-keeps live quantum).ran state.grants state.journal parts.0.ran)

-- the run of the call, in the words of the simulation's book, for each journal for which it stands
pub ran-each : (sim : Sim) (stands : Stands sim) (between : List (List Live)) (worker quantum : ℕ) (live next : Live)
    → Takes sim.queues between worker live → next ≡ turn_of live quantum
    → (journal : List Entry) → StandsFor sim.book journal → Ran sim.book.grants journal next
ran-each sim stands between worker quantum live next takes is journal others =
    let same : stands.state.journal ≡ journal = sym stands.at.book.is ∙ others.is in
    let ran = ran-between sim stands.state between worker quantum live next stands.at takes is in
    subst (λ (grants : GrantsList). Ran grants journal next) (sym stands.at.grants)
    (subst (λ (j : List Entry). Ran stands.state.grants j next) same ran)

same-call : (live next : Live) (quantum : ℕ) → next ≡ turn_of live quantum → next.call ≡ live.call
same-call live next quantum is = ap (λ (l : Live). l.call) is ∙ turned-call live quantum

pub tells-by : (old new : Sim) (rule : SimState → Told) (line : Line)
    → ((state : SimState) → StandsAt old state → (line ≡ (rule state).0) × StandsAt new (rule state).1) → Tells old new rule line
tells-by old new rule line each = record { told = λ state at. (each state at).0; left = λ state at. (each state at).1 }

-- the load, and when calls are pushed, are those of the state
away-alike : (old : Sim) (state : SimState) (load : ℕ) (next : Live) → StandsAt old state → load ≡ load_of old.queues
    → goes_away old.policy load next ≡ goes_away state.policy (load_of state.queues) next
away-alike old state load next at counted =
    ap (λ (policy : Policy). goes_away policy load next) at.policy
    ∙ ap (λ (n : ℕ). goes_away state.policy n next) (counted ∙ ap load_of at.queues)

-- a call that goes on is placed, and told of
goes-at : (old new : Sim) (state : SimState) (between : List (List Live)) (worker load : ℕ) (live next : Live) (said : Bool → Said) (line : Line)
    → (at : StandsAt old state) (takes : Takes state.queues between worker live) → worker < workers_of old → next.call ≡ live.call
    → IsLive state.grants state.journal next → load ≡ load_of old.queues
    → GoesOn (record old { queues = between }) new load worker next said line
    → (told : Told) → told ≡ goes_on (with_queue state worker takes.rest) worker next said (goes_away state.policy (load_of state.queues) next)
    → (line ≡ told.0) × StandsAt new told.1
goes-at old new state between worker load live next said line at takes small same is counted goes told rule =
    let alike = away-alike old state load next at counted in
    let whole : told ≡ goes_on (with_queue state worker takes.rest) worker next said (goes_away old.policy load next) =
    rule ∙ ap (goes_on (with_queue state worker takes.rest) worker next said) (sym alike) in
    let stands = placed-stands old new state between worker live next (goes_away old.policy load next) at takes small same is goes.left in (
      goes.told ∙ ap (λ (t : Told). t.0) (sym whole),
      subst (λ (t : Told). StandsAt new t.1) (sym whole) stands,
    )

-- the call goes on
pub goes-tells : (old new : Sim) (between : List (List Live)) (worker quantum load : ℕ) (live next : Live) (line : Line)
    → worker < workers_of old → load ≡ load_of old.queues → Takes old.queues between worker live → next ≡ turn_of live quantum → next.phase ≡ phase.Ready
    → GoesOn (record old { queues = between }) new load worker next (said.On next.spent) line → Tells old new (λ state. turn_event state worker quantum) line
goes-tells old new between worker quantum load live next line small counted takes is ready goes =
    tells-by old new (λ state. turn_event state worker quantum) line (λ (state : SimState) (at : StandsAt old state).
    let own = taken-of old state between worker live at takes in
    let lives : IsLive state.grants state.journal next = record { ready = ready; ran = ran-between old state between worker quantum live next at takes is } in
    goes-at old new state between worker load live next (said.On next.spent) line at own small (same-call live next quantum is) lives counted goes
    (turn_event state worker quantum) (event-is state between worker quantum live next phase.Ready own is ready))

pub push-held : (journal : List Entry) (reads : List ReadItem) (item : ReadItem) → AllByRecursion (IsHeld journal) reads → IsHeld journal item
    → AllByRecursion (IsHeld journal) (reads ++ item ∷ [])
push-held journal [] item all held = (held, tt)
push-held journal (read ∷ reads) item all held = (all.0, push-held journal reads item all.1 held)

-- the call is given the record that it waits for
pub reads-tell : (old new : Sim) (between : List (List Live)) (worker quantum load : ℕ) (live next : Live) (table : TableId) (key : List ℕ) (line : Line)
    → worker < workers_of old → load ≡ load_of old.queues → Takes old.queues between worker live → next ≡ turn_of live quantum → next.phase ≡ phase.Waiting table key
    → ReadsOn (record old { queues = between }) new load worker next table key line → Tells old new (λ state. turn_event state worker quantum) line
reads-tell old new between worker quantum load live next table key line small counted takes is waits reads =
    tells-by old new (λ state. turn_event state worker quantum) line (λ (state : SimState) (at : StandsAt old state).
    let own = taken-of old state between worker live at takes in
    let item : ReadItem = item_at state.journal table key in
    let ran = ran-between old state between worker quantum live next at takes is in
    let now : RanOn state.grants state.journal next.call next.ext.program next.rights (next.reads ++ item ∷ []) = record {
      held = push-held state.journal next.reads item ran.held (held-now state.journal table key);
      named = ran.named;
      own = ran.own;
    } in
    let lives : IsLive state.grants state.journal (given next item) = record { ready = refl; ran = now } in
    goes-at old new state between worker load live (given next item) (said.Read table key item.version) line at own small (same-call live next quantum is) lives counted
    (reads state.journal at.book) (turn_event state worker quantum) (event-is state between worker quantum live next (phase.Waiting table key) own is waits))

-- ---- The end of a call

pub end-tells : (old new : Sim) (between : List (List Live)) (worker quantum : ℕ) (live next : Live) (line : Line)
    → worker < workers_of old → Takes old.queues between worker live → next ≡ turn_of live quantum
    → Ends (record old { queues = between }) new next line → Tells old new (λ state. turn_event state worker quantum) line
end-tells old new between worker quantum live next line small takes is ends =
    tells-by old new (λ state. turn_event state worker quantum) line (λ (state : SimState) (at : StandsAt old state).
    let own = taken-of old state between worker live at takes in
    let parts = all-taken (IsLive state.grants state.journal) (all_calls state) (state.pushed ∷ between) (suc worker) live
    (shifted state.pushed state.queues between worker live own) at.live in
    let ended = ended-stands old new state between state.pushed old.pushed Server live next ends.outcome ends.writes line at (same-call live next quantum is) at.pushed
    (λ (weight : Live → ℕ). total-gone weight state.pushed state.queues between worker live (small-of old state worker at small) own) parts.1 ends.is in
    let event : turn_event state worker quantum ≡ end_told (record state { queues = between }) Server next ends.outcome ends.writes =
    event-is state between worker quantum live next (phase.Ended ends.outcome ends.writes) own is ends.ended
    ∙ ap (λ (queues : List (List Live)). end_told (record state { queues = queues }) Server next ends.outcome ends.writes) (sym own.left) in (
      ended.told ∙ ap (λ (t : Told). t.0) (sym event),
      subst (λ (t : Told). StandsAt new t.1) (sym event) ended.left,
    ))

-- ---- What the live calls have left

placed-falls : (old new : Sim) (between : List (List Live)) (worker : ℕ) (live next : Live) (pushed : Bool)
    → worker < workers_of old → Takes old.queues between worker live → next.call ≡ live.call → live.spent < next.spent → next.spent ≤ next.call.budget
    → IsPlaced (record old { queues = between }) new worker next pushed → units_left new < units_left old
placed-falls old new between worker live next false small takes same more within left =
    let one = total-taken left_of old.queues between worker live small takes in
    let back = total-back left_of between worker next (small-between old.queues between worker worker live takes small) in
    let now : units_left new ≡ total left_of (with_back between worker next) + sum_by left_away old.pushed = ap units_left left in
    let budget : next.call.budget ≡ live.call.budget = ap (λ (c : Call). c.budget) same in
    let less : left_of next < left_of live = omega (arith, more, within, budget) in
    omega (arith, one, back, now, less)
placed-falls old new between worker live next true small takes same more within left =
    let one = total-taken left_of old.queues between worker live small takes in
    let push = sum_by_push left_away old.pushed (pushed_of next) in
    let now : units_left new ≡ total left_of between + sum_by left_away (old.pushed ++ pushed_of next ∷ []) = ap units_left left in
    let budget : next.call.budget ≡ live.call.budget = ap (λ (c : Call). c.budget) same in
    let less : left_away (pushed_of next) < left_of live = omega (arith, more, within, budget) in
    omega (arith, one, push, now, less)

pub goes-falls : (old new : Sim) (between : List (List Live)) (worker load : ℕ) (live next : Live) (said : Bool → Said) (line : Line)
    → worker < workers_of old → Takes old.queues between worker live → next.call ≡ live.call → live.spent < next.spent → next.spent ≤ next.call.budget
    → GoesOn (record old { queues = between }) new load worker next said line → units_left new < units_left old
goes-falls old new between worker load live next said line small takes same more within goes =
    placed-falls old new between worker live next (goes_away old.policy load next) small takes same more within goes.left

pub end-falls : (old new : Sim) (between : List (List Live)) (worker : ℕ) (live : Live)
    → worker < workers_of old → Takes old.queues between worker live → live.spent ≤ live.call.budget
    → new.queues ≡ between → new.pushed ≡ old.pushed → units_left new < units_left old
end-falls old new between worker live small takes within left pushed =
    let one = total-taken left_of old.queues between worker live small takes in
    let now : total left_of new.queues ≡ total left_of between = ap (total left_of) left in
    let same : sum_by left_away new.pushed ≡ sum_by left_away old.pushed = ap (sum_by left_away) pushed in
    let some : 0 < left_of live = omega (arith, within) in
    omega (arith, one, now, same, some)

-- ---- A call that may be pushed

-- a call that has had its turn runs with its tenant's rights, and its caller has no pushed call
pub may-be-pushed : (sim : Sim) (stands : Stands sim) (between : List (List Live)) (worker quantum : ℕ) (live next : Live)
    → worker < workers_of sim → Takes sim.queues between worker live → next ≡ turn_of live quantum
    → MayBePushed (record sim { queues = between }) next
may-be-pushed sim stands between worker quantum live next small takes is =
    let state : SimState = stands.state in
    let at = stands.at in
    let own = taken-of sim state between worker live at takes in
    let ran = ran-between sim state between worker quantum live next at takes is in
    let caller : next.call.caller ≡ live.call.caller = ap (λ (c : Call). c.caller) (same-call live next quantum is) in
    let gone = total-taken (is_of live.call.caller) state.queues between worker live (small-of sim state worker at small) own in
    let free : first_of (is_call_of live.call.caller) state.pushed ≡ None = free-of sim.callers state.pushed state.queues between live at.indexed gone in
    let none : first_of (is_callers live.call.caller) (map pushed_of state.pushed) ≡ None =
    map-first pushed_of (is_callers live.call.caller) state.pushed ∙ ap (option_map pushed_of) free in
    record {
      journal = state.journal;
      stands = at.book;
      own = ran.own ∙ ap (λ (grants : GrantsList). granted grants state.journal next.call.caller.tenant) (sym at.grants);
      free = ap (λ (calls : List Pushed). first_of (is_callers next.call.caller) calls) at.pushed
          ∙ ap (λ (c : Caller). first_of (is_callers c) (map pushed_of state.pushed)) caller ∙ none;
    }

-- nor does a record that joins its reads change that
pub kept-may : (sim : Sim) (live : Live) (item : ReadItem) → MayBePushed sim live → MayBePushed sim (given live item)
kept-may sim live item may = record { journal = may.journal; stands = may.stands; own = may.own; free = may.free }

pub if-ok-map : {A E : Type 0} (given : Result A E) (Holds Follows : A → Type 0) → ((a : A) → Holds a → Follows a) → IfOk given Holds → IfOk given Follows
if-ok-map (Ok a) Holds Follows step is = step a is
if-ok-map (Err e) Holds Follows step is = tt

pub on-ok-map : {A E : Type 0} (given : Result A E) (Holds : A → Type 0) (Follows : Type 0) → ((a : A) → Holds a → Follows) → IfOk given Holds → OnOk given Follows
on-ok-map (Ok a) Holds Follows step is = step a is
on-ok-map (Err e) Holds Follows step is = tt

-- ---- What a turn's answer tells

pub ran-ready : (stands : Phase) → told.Ran ≡ told_of stands → stands ≡ phase.Ready
ran-ready phase.Ready e = refl
ran-ready (phase.Waiting table key) e = (cc)
ran-ready (phase.Ended outcome writes) e = (cc)

pub wants-waits : (stands : Phase) (table : TableId) (key : List ℕ) → told.Wants table key ≡ told_of stands → stands ≡ phase.Waiting table key
wants-waits phase.Ready table key e = (cc)
wants-waits (phase.Waiting other another) table key e = (cc)
wants-waits (phase.Ended outcome writes) table key e = (cc)

pub ready-of : (sim : Sim) (stands : Stands sim) (between : List (List Live)) (worker : ℕ) (live : Live) → Takes sim.queues between worker live
    → live.phase ≡ phase.Ready
ready-of sim stands between worker live takes =
    let own = taken-of sim stands.state between worker live stands.at takes in
    (all-taken (IsLive stands.state.grants stands.state.journal) (all_calls stands.state) (stands.state.pushed ∷ between) (suc worker) live
    (shifted stands.state.pushed stands.state.queues between worker live own) stands.at.live).0.ready

-- a call that goes on has spent more, and is within its budget
pub record SpendsMore (live next : Live) : Type 0 where
  pub more : live.spent < next.spent
  pub within : next.spent ≤ next.call.budget

pub spends-more : (live next : Live) (quantum : ℕ) → IsTask live → live.phase ≡ phase.Ready → 0 < quantum → next ≡ turn_of live quantum
    → On next.phase → SpendsMore live next
spends-more live next quantum task ready some is on =
    let goes : On (turn_of live quantum).phase = subst (λ (l : Live). On l.phase) is on in
    let whole : SpendsMore live (turn_of live quantum) = record {
      more = turns-raise live quantum task ready some goes;
      within = (turns-keep live quantum task ready).within;
    } in
    subst (λ (l : Live). SpendsMore live l) (sym is) whole

pub both-ok-map : {A E : Type 0} (given : Result A E) (Holds Also Follows : A → Type 0) → ((a : A) → Holds a → Also a → Follows a)
    → IfOk given Holds → IfOk given Also → IfOk given Follows
both-ok-map (Ok a) Holds Also Follows step is also = step a is also
both-ok-map (Err e) Holds Also Follows step is also = tt
