-- A pushed call at its client: it goes on, it ends, or it is forgotten.
use Rattle.std.specs.Prelude.{IsTrue, map, nat_lt, option_map, ◌==◌, if◌then◌else◌}
use Rattle.std.specs.List.{AllByRecursion, sum_by}
use Rattle.std.proofs.Common.{◌≡◌, ◌<◌, ℕ, ◌+◌, ◌*◌, Bool, true, false, List, [], ◌∷◌, ◌++◌, length, min, Option, Some, None, refl, ap, sym, ◌∙◌, subst, length-append, arith}
use Rattle.std.proofs.lemmas.Bool.{and_parts, eqb-true, ltb-true}
use Rattle.std.proofs.lemmas.List.Sums.{sum_by-cons}
use Rattle.sp_base.specs.declared.calls.Call.{Call}
use Rattle.sp_base.specs.declared.numbers.CallNo.{CallNo}
use Rattle.sp_base.specs.declared.numbers.Caller.{Caller}
use Rattle.sp_base.specs.declared.numbers.TableId.{TableId}
use Rattle.sp_base.specs.declared.outcomes.Outcome.{Outcome}
use Rattle.sp_base.specs.declared.outcomes.Outcome.TheVariants as outcome
use Rattle.sp_base.specs.declared.reads.ReadItem.{ReadItem}
use Rattle.sp_base.specs.declared.rights.Level.{Level}
use Rattle.sp_base.specs.declared.writes.Write.{Write}
use Rattle.sp_base.specs.Limits.{IsArguments}
use Rattle.sp_base.specs.RightsList.{can_read}
use Rattle.rw_set.specs.declared.sent.Sent.{Sent}
use Rattle.ext_mean.specs.declared.run.Run.{Run}
use Rattle.ext_mean.specs.declared.run.Run.TheVariants as run
use Rattle.ext_mean.specs.declared.tree.Program.{Program}
use Rattle.ext_mean.specs.Meaning.{mean}
use Rattle.ext_mean.specs.Outcomes.{ChangeFits, EndsWith, ReplyFits}
use Rattle.ext_mean.specs.Views.{part}
use Rattle.ext_mean.proofs.ConfinementProved.{within-limits}
use Rattle.ext_mean.proofs.WantsProved.{are-due}
use Rattle.records.specs.GrantsList.{GrantsList}
use Rattle.journal.specs.declared.entry.Entry.{Entry}
use Rattle.journal.specs.declared.entry.Home.TheVariants.{Client}
use Rattle.journal.specs.Folds.{same_caller}
use Rattle.journal.specs.Granted.{granted}
use Rattle.journal.specs.Reads.{bare}
use Rattle.journal.proofs.Committing.{run-within}
use Rattle.book.specs.Standing.{BookValue, IsTrueTo, RanOn, SentOn, StandsFor}
use Rattle.book.specs.Verdict.{item_at}
use Rattle.clients.specs.Numbering.{number_of}
use Rattle.clients.specs.First.{first_of, with_first, without_first}
use Rattle.clients.specs.Pushed.{HasEnd, IsCarried, IsTrueEnd, IsWanted, Pushed, WantsAt, is_callers, joined, meant, pushed_of}
use Rattle.report.specs.declared.line.Line.{Line}
use Rattle.report.specs.declared.line.Line.TheVariants as line
use Rattle.report.specs.declared.line.Said.TheVariants as said
use Rattle.task.specs.declared.phase.Phase.TheVariants as phase
use Rattle.task.specs.Turning.{Live, after_run, ending, given, meaning_with, units_of_turn, waiting}
use Rattle.sim.specs.declared.sim.Sim.{Sim}
use Rattle.sim.specs.Counting.{left_away, left_of, total}
use Rattle.sim.specs.Play.{Told, away_event, away_found, carried, cut_event, cut_found, end_told, of_call, went}
use Rattle.sim.specs.Standing.{Fetches, Finishes, HasFetched, HasFinished, IsEnded, IsForgotten, IsLive, Stands, StandsAt, Tells, units_left}
use Rattle.sim.specs.State.{SimState, all_calls, is_call_of, pushed_call, with_pushed}
use Rattle.sim.proofs.Indexing.{indexed-alike, indexed-ended}
use Rattle.sim.proofs.Listing.{all-first, all-with, all-without, first-passes, map-first, map-with, map-without, sum-with, sum-without}
use Rattle.sim.proofs.Moving.{ended-stands}
use Rattle.sim.proofs.Reading.{held-now}
use Rattle.sim.proofs.Turning.{push-held, tells-by}

-- ---- The pushed call of a state, by what the simulation has of it

-- two callers that are one by the test are one
one-caller : (a b : Caller) → same_caller a b ≡ true → a ≡ b
one-caller a b same =
    let parts = and_parts (a.tenant.0 == b.tenant.0) (a.number == b.number) same in
    let tenants : a.tenant.0 ≡ b.tenant.0 = eqb-true a.tenant.0 b.tenant.0 parts.0 in
    let numbers : a.number ≡ b.number = eqb-true a.number b.number parts.1 in
    ap (λ (n : ℕ). let made : Caller = record { tenant = record { 0 = n }; number = a.number } in made) tenants
    ∙ ap (λ (n : ℕ). let made : Caller = record { tenant = b.tenant; number = n } in made) numbers

record FoundIn (state : SimState) (caller : Caller) (call : Pushed) : Type 0 where
  live : Live
  found : pushed_call state caller ≡ Some live
  is : call ≡ pushed_of live

some-of : (state : SimState) (caller : Caller) (call : Pushed) (given : Option Live) → pushed_call state caller ≡ given
    → option_map pushed_of given ≡ Some call → FoundIn state caller call
some-of state caller call None found is = absurd (cc)
some-of state caller call (Some live) found is = record { live = live; found = found; is = let same : pushed_of live ≡ call = cc in sym same }

kept-of : (sim : Sim) (state : SimState) (caller : Caller) → StandsAt sim state
    → first_of (is_callers caller) sim.pushed ≡ option_map pushed_of (pushed_call state caller)
kept-of sim state caller at =
    ap (λ (calls : List Pushed). first_of (is_callers caller) calls) at.pushed ∙ map-first pushed_of (is_callers caller) state.pushed

found-in : (sim : Sim) (state : SimState) (caller : Caller) (call : Pushed) → StandsAt sim state
    → first_of (is_callers caller) sim.pushed ≡ Some call → FoundIn state caller call
found-in sim state caller call at found =
    some-of state caller call (pushed_call state caller) refl (sym (kept-of sim state caller at) ∙ found)

none-of : (given : Option Live) → option_map pushed_of given ≡ None → given ≡ None
none-of None is = refl
none-of (Some live) is = absurd (cc)

none-in : (sim : Sim) (state : SimState) (caller : Caller) → StandsAt sim state → first_of (is_callers caller) sim.pushed ≡ None
    → pushed_call state caller ≡ None
none-in sim state caller at none = none-of (pushed_call state caller) (sym (kept-of sim state caller at) ∙ none)

own-caller : (state : SimState) (caller : Caller) (live : Live) → pushed_call state caller ≡ Some live → live.call.caller ≡ caller
own-caller state caller live found = one-caller live.call.caller caller (first-passes (is_call_of caller) state.pushed live found)

-- ---- A call with its whole budget

whole-units : (live : Live) → units_of_turn live live.call.budget ≡ live.call.budget
whole-units live = omega arith

carried-waits : (live : Live) (table : TableId) (key : List ℕ) (used : ℕ) → meaning_with live live.call.budget ≡ run.Wants table key used
    → carried live ≡ waiting live table key used
carried-waits live table key used wants =
    ap (after_run live live.call.budget) (ap (meaning_with live) (whole-units live) ∙ wants)

spent-whole : (live : Live) (below : Bool) (one other : Live) → nat_lt (live.spent + live.call.budget) live.call.budget ≡ below
    → (if below then one else other) ≡ other
spent-whole live true one other is = absurd (let less = ltb-true (live.spent + live.call.budget) live.call.budget is in omega (arith, less))
spent-whole live false one other is = refl

ended-by : (live : Live) (ran : Run) (given : Outcome) (writes : List Write) → EndsWith ran given writes
    → after_run live live.call.budget ran ≡ ending live given writes
ended-by live (run.Done reply changes used) given writes ends =
    let answers = ends.answers in
    let same : outcome.Done reply ≡ given = cc in
    ap (λ (o : Outcome). ending live o changes) same ∙ ap (ending live given) ends.leaves
ended-by live (run.Trapped trap used) given writes ends =
    let answers = ends.answers in
    let same : outcome.Trapped trap ≡ given = cc in
    ap (λ (o : Outcome). ending live o []) same ∙ ap (ending live given) ends.leaves
ended-by live run.Spent given writes ends =
    let answers = ends.answers in
    let same : outcome.Killed ≡ given = cc in
    spent-whole live (nat_lt (live.spent + live.call.budget) live.call.budget) _ _ refl
    ∙ ap (λ (o : Outcome). ending live o []) same ∙ ap (ending live given) ends.leaves
ended-by live (run.Wants table key used) given writes ends = absurd (let clash = ends.answers in cc)

carried-ends : (live : Live) (given : Outcome) (writes : List Write) → EndsWith (meaning_with live live.call.budget) given writes
    → carried live ≡ ending live given writes
carried-ends live given writes ends =
    ap (λ (units : ℕ). after_run live live.call.budget (meaning_with live units)) (whole-units live)
    ∙ ended-by live (meaning_with live live.call.budget) given writes ends

-- ---- Nothing to act on

pub away-idle : (sim : Sim) (caller : Caller) → first_of (is_callers caller) sim.pushed ≡ None → Tells sim sim (λ state. away_event state caller) line.Idle
away-idle sim caller none =
    tells-by sim sim (λ state. away_event state caller) line.Idle (λ (state : SimState) (at : StandsAt sim state).
    let event : away_event state caller ≡ (line.Idle, state) = ap (away_found state caller) (none-in sim state caller at none) in
    (ap (λ (t : Told). t.0) (sym event), subst (λ (t : Told). StandsAt sim t.1) (sym event) at))

pub cut-idle : (sim : Sim) (caller : Caller) → first_of (is_callers caller) sim.pushed ≡ None → Tells sim sim (λ state. cut_event state caller) line.Idle
cut-idle sim caller none =
    tells-by sim sim (λ state. cut_event state caller) line.Idle (λ (state : SimState) (at : StandsAt sim state).
    let event : cut_event state caller ≡ (line.Idle, state) = ap (cut_found state caller) (none-in sim state caller at none) in
    (ap (λ (t : Told). t.0) (sym event), subst (λ (t : Told). StandsAt sim t.1) (sym event) at))

-- ---- A record is fetched

-- the record may be read
pub fetches-of : (sim : Sim) (stands : Stands sim) (caller : Caller) (call : Pushed) (table : TableId) (key : List ℕ)
    → first_of (is_callers caller) sim.pushed ≡ Some call → WantsAt (meant call) table key → Fetches sim caller table key
fetches-of sim stands caller call table key found wants =
    let state : SimState = stands.state in
    let at = stands.at in
    let own = found-in sim state caller call at found in
    let live : Live = own.live in
    let lives = all-first (IsLive state.grants state.journal) (is_call_of caller) state.pushed live own.found at.live.0 in
    let due = are-due call.ext.program call.call.args call.call.budget (part call.reads call.rights) table key wants.used wants.is in
    let rights : call.rights ≡ granted sim.book.grants state.journal caller.tenant =
    ap (λ (p : Pushed). p.rights) own.is ∙ lives.ran.own
    ∙ ap (λ (grants : GrantsList). granted grants state.journal live.call.caller.tenant) (sym at.grants)
    ∙ ap (λ (c : Caller). granted sim.book.grants state.journal c.tenant) (own-caller state caller live own.found) in
    record {
      call = call;
      found = found;
      wants = wants;
      journal = state.journal;
      stands = at.book;
      readable = subst (λ (list : List (TableId × Level)). IsTrue (can_read list table.0)) rights due.readable;
    }

total-with : (weight : Live → ℕ) (passes : Live → Bool) (pushed : List Live) (queues : List (List Live)) (live next : Live) → first_of passes pushed ≡ Some live
    → total weight (with_first passes next pushed ∷ queues) + weight live ≡ total weight (pushed ∷ queues) + weight next
total-with weight passes pushed queues live next found =
    let sums = sum-with weight passes pushed live next found in
    let before = sum_by-cons (sum_by weight) pushed queues in
    let after = sum_by-cons (sum_by weight) (with_first passes next pushed) queues in
    omega (arith, sums, before, after)

-- the record joins its reads
pub fetch-tells : (old new : Sim) (caller : Caller) (number : CallNo) (call : Pushed) (table : TableId) (key : List ℕ) (answer : Line)
    → first_of (is_callers caller) old.pushed ≡ Some call → number ≡ call.call.number → WantsAt (meant call) table key
    → HasFetched old new caller number call table key answer → Tells old new (λ state. away_event state caller) answer
fetch-tells old new caller number call table key answer found named wants fetched =
    tells-by old new (λ state. away_event state caller) answer (λ (state : SimState) (at : StandsAt old state).
    let own = found-in old state caller call at found in
    let live : Live = own.live in
    let Holds : Live → Type 0 = IsLive state.grants state.journal in
    let item : ReadItem = item_at state.journal table key in
    let want : WantsAt (meant (pushed_of live)) table key = subst (λ (p : Pushed). WantsAt (meant p) table key) own.is wants in
    let after : Live = waiting live table key want.used in
    let next : Live = given after item in
    let event : away_event state caller ≡ went state caller after (phase.Waiting table key) =
    ap (away_found state caller) own.found
    ∙ ap (λ (l : Live). went state caller l l.phase) (carried-waits live table key want.used want.is) in
    let lives = all-first Holds (is_call_of caller) state.pushed live own.found at.live.0 in
    let ran : RanOn state.grants state.journal next.call next.ext.program next.rights (live.reads ++ item ∷ []) = record {
      held = push-held state.journal live.reads item lives.ran.held (held-now state.journal table key);
      named = lives.ran.named;
      own = lives.ran.own;
    } in
    let is : IsLive state.grants state.journal next = record { ready = refl; ran = ran } in
    let kept : joined call item ≡ pushed_of next = ap (λ (p : Pushed). joined p item) own.is in
    let left : StandsAt (record old { pushed = with_first (is_callers caller) (joined call item) old.pushed })
    (with_pushed state (with_first (is_call_of caller) next state.pushed)) = record {
      book = at.book;
      grants = at.grants;
      policy = at.policy;
      limit = at.limit;
      audit = at.audit;
      queues = at.queues;
      pushed = ap (λ (p : Pushed). with_first (is_callers caller) p old.pushed) kept
          ∙ ap (with_first (is_callers caller) (pushed_of next)) at.pushed
          ∙ map-with pushed_of (is_callers caller) next state.pushed;
      next = at.next;
      indexed = indexed-alike old.callers (all_calls state) (with_first (is_call_of caller) next state.pushed ∷ state.queues) live next refl
          (λ (weight : Live → ℕ). total-with weight (is_call_of caller) state.pushed state.queues live next own.found) at.indexed;
      installed = at.installed;
      live = (all-with Holds (is_call_of caller) next state.pushed at.live.0 is, at.live.1);
    } in
    let whose : line.Of caller number (said.Read table key item.version false) false ≡ of_call live.call (said.Read table key item.version false) =
    ap (λ (c : Caller). line.Of c number (said.Read table key item.version false) false) (sym (own-caller state caller live own.found))
    ∙ ap (λ (n : CallNo). line.Of live.call.caller n (said.Read table key item.version false) false) (named ∙ ap (λ (p : Pushed). p.call.number) own.is) in (
      fetched.told state.journal at.book ∙ whose ∙ ap (λ (t : Told). t.0) (sym event),
      subst (λ (s : Sim). StandsAt s (away_event state caller).1) (sym (fetched.left state.journal at.book))
          (subst (λ (t : Told). StandsAt (record old { pushed = with_first (is_callers caller) (joined call item) old.pushed }) t.1) (sym event) left),
    ))

-- ---- The end of a call

-- its run belongs to the journal
pub finishes-of : (sim : Sim) (stands : Stands sim) (caller : Caller) (call : Pushed)
    → first_of (is_callers caller) sim.pushed ≡ Some call → HasEnd (meant call) → Finishes sim caller
finishes-of sim stands caller call found ended =
    let state : SimState = stands.state in
    let at = stands.at in
    let own = found-in sim state caller call at found in
    let lives = all-first (IsLive state.grants state.journal) (is_call_of caller) state.pushed own.live own.found at.live.0 in
    let ran : RanOn state.grants state.journal call.call call.ext.program call.rights call.reads =
    subst (λ (p : Pushed). RanOn state.grants state.journal p.call p.ext.program p.rights p.reads) (sym own.is) lives.ran in
    record {
      call = call;
      found = found;
      ended = ended;
      ran = λ journal others.
          let same : state.journal ≡ journal = sym at.book.is ∙ others.is in
          subst (λ (grants : GrantsList). RanOn grants journal call.call call.ext.program call.rights call.reads) (sym at.grants)
          (subst (λ (j : List Entry). RanOn state.grants j call.call call.ext.program call.rights call.reads) same ran);
      audit = at.audit;
    }

total-without : (weight : Live → ℕ) (passes : Live → Bool) (pushed : List Live) (queues others : List (List Live)) (live : Live) → first_of passes pushed ≡ Some live
    → others ≡ queues → total weight (pushed ∷ queues) ≡ total weight (without_first passes pushed ∷ others) + weight live
total-without weight passes pushed queues others live found same =
    let sums = sum-without weight passes pushed live found in
    let before = sum_by-cons (sum_by weight) pushed queues in
    let after = sum_by-cons (sum_by weight) (without_first passes pushed) others in
    let those : total weight others ≡ total weight queues = ap (total weight) same in
    omega (arith, sums, before, after, those)

kept-without : (sim : Sim) (state : SimState) (caller : Caller) → StandsAt sim state
    → without_first (is_callers caller) sim.pushed ≡ map pushed_of (without_first (is_call_of caller) state.pushed)
kept-without sim state caller at =
    ap (λ (calls : List Pushed). without_first (is_callers caller) calls) at.pushed ∙ map-without pushed_of (is_callers caller) state.pushed

pub finish-tells : (old new : Sim) (caller : Caller) (call : Pushed) (line : Line) → first_of (is_callers caller) old.pushed ≡ Some call
    → HasFinished old new caller call line → Tells old new (λ state. away_event state caller) line
finish-tells old new caller call line found finished =
    tells-by old new (λ state. away_event state caller) line (λ (state : SimState) (at : StandsAt old state).
    let own = found-in old state caller call at found in
    let live : Live = own.live in
    let Holds : Live → Type 0 = IsLive state.grants state.journal in
    let meaning : EndsWith (meant (pushed_of live)) finished.outcome finished.writes =
    subst (λ (p : Pushed). EndsWith (meant p) finished.outcome finished.writes) own.is finished.meant in
    let next : Live = ending live finished.outcome finished.writes in
    let rest : List Live = without_first (is_call_of caller) state.pushed in
    let kept : List Pushed = without_first (is_callers caller) old.pushed in
    let ends : IsEnded (record old { queues = old.queues; pushed = kept }) new Client live.call live.reads finished.outcome finished.writes line =
    subst (λ (p : Pushed). IsEnded (record old { queues = old.queues; pushed = kept }) new Client p.call p.reads finished.outcome finished.writes line) own.is finished.is in
    let ended = ended-stands old new state old.queues rest kept Client live next finished.outcome finished.writes line at refl
    (kept-without old state caller at)
    (λ (weight : Live → ℕ). total-without weight (is_call_of caller) state.pushed state.queues old.queues live own.found at.queues)
    (all-without Holds (is_call_of caller) state.pushed at.live.0, subst (λ (queues : List (List Live)). AllByRecursion (AllByRecursion Holds) queues) (sym at.queues) at.live.1)
    ends in
    let event : away_event state caller ≡ end_told (record state { queues = old.queues; pushed = rest }) Client next finished.outcome finished.writes =
    ap (away_found state caller) own.found
    ∙ ap (λ (l : Live). went state caller l l.phase) (carried-ends live finished.outcome finished.writes meaning)
    ∙ ap (λ (queues : List (List Live)). end_told (record state { queues = queues; pushed = rest }) Client next finished.outcome finished.writes) (sym at.queues) in (
      ended.told ∙ ap (λ (t : Told). t.0) (sym event),
      subst (λ (t : Told). StandsAt new t.1) (sym event) ended.left,
    ))

-- ---- What is sent

unbare : (rights : List (TableId × Level)) (reads : List ReadItem)
    → AllByRecursion (λ (read : ReadItem). IsTrue (can_read rights read.table.0)) (map bare reads)
    → AllByRecursion (λ (read : ReadItem). IsTrue (can_read rights read.table.0)) reads
unbare rights [] all = tt
unbare rights (read ∷ reads) all = (all.0, unbare rights reads all.1)

true-either : (audit : Bool) (rights : List (TableId × Level)) (call : Call) (program : Program) (given : Outcome) (writes : List Write) (reads : List ReadItem)
    → EndsWith (mean program call.args call.budget (part reads rights)) given writes → IsTrueTo audit rights call program given writes reads
true-either true rights call program given writes reads ends = ends
true-either false rights call program given writes reads ends = tt

-- the end of a pushed call may be committed
sent-of : (grants : GrantsList) (audit : Bool) (journal : List Entry) (pushed : Pushed) (given : Outcome) (writes : List Write)
    → RanOn grants journal pushed.call pushed.ext.program pushed.rights pushed.reads → IsCarried pushed → EndsWith (meant pushed) given writes
    → SentOn grants audit journal pushed.call given writes pushed.reads
sent-of grants audit journal pushed given writes ran carried ends =
    let within = run-within grants journal pushed.call pushed.ext.program pushed.reads pushed.rights given writes ran.own carried.asked ends in
    record {
      program = pushed.ext.program;
      held = ran.held;
      named = ran.named;
      within = record { reading = unbare (granted grants journal pushed.call.caller.tenant) pushed.reads within.reading; writing = within.writing };
      true_to = true-either audit (granted grants journal pushed.call.caller.tenant) pushed.call pushed.ext.program given writes pushed.reads
          (subst (λ (rights : List (TableId × Level)). EndsWith (mean pushed.ext.program pushed.call.args pushed.call.budget (part pushed.reads rights)) given writes) ran.own ends);
    }

pub sent-on : (grants : GrantsList) (audit : Bool) (journal : List Entry) (pushed : Pushed) (sent : Sent)
    → RanOn grants journal pushed.call pushed.ext.program pushed.rights pushed.reads → IsTrueEnd pushed sent
    → SentOn grants audit journal sent.call sent.outcome sent.writes sent.reads
sent-on grants audit journal pushed sent ran end =
    subst (λ (call : Call). SentOn grants audit journal call sent.outcome sent.writes sent.reads) (sym end.call)
    (subst (λ (reads : List ReadItem). SentOn grants audit journal pushed.call sent.outcome sent.writes reads) (sym end.reads)
    (sent-of grants audit journal pushed sent.outcome sent.writes ran end.carried end.meant))

-- and it is within its limits
pub sent-arguments : (pushed : Pushed) (sent : Sent) → IsTrueEnd pushed sent → IsArguments sent.call.args
sent-arguments pushed sent end = subst (λ (call : Call). IsArguments call.args) (sym end.call) end.carried.arguments

pub sent-reply : (pushed : Pushed) (sent : Sent) → IsTrueEnd pushed sent → ReplyFits sent.outcome
sent-reply pushed sent end =
    (within-limits pushed.ext.program pushed.call.args pushed.call.budget (part pushed.reads pushed.rights)).reply sent.outcome end.meant.answers

pub sent-values : (pushed : Pushed) (sent : Sent) → IsTrueEnd pushed sent → AllByRecursion ChangeFits sent.writes
sent-values pushed sent end =
    subst (λ (changes : List Write). AllByRecursion ChangeFits changes) end.meant.leaves
    (within-limits pushed.ext.program pushed.call.args pushed.call.budget (part pushed.reads pushed.rights)).values

-- ---- A call is forgotten

pub cut-tells : (old new : Sim) (caller : Caller) (call : Pushed) (line : Line) → first_of (is_callers caller) old.pushed ≡ Some call
    → IsForgotten old new caller call line → Tells old new (λ state. cut_event state caller) line
cut-tells old new caller call line found cut =
    tells-by old new (λ state. cut_event state caller) line (λ (state : SimState) (at : StandsAt old state).
    let own = found-in old state caller call at found in
    let live : Live = own.live in
    let Holds : Live → Type 0 = IsLive state.grants state.journal in
    let rest : List Live = without_first (is_call_of caller) state.pushed in
    let event : cut_event state caller ≡ (of_call live.call said.Cut, with_pushed state rest) = ap (cut_found state caller) own.found in
    let same : call.call ≡ live.call = ap (λ (p : Pushed). p.call) own.is in
    let left : StandsAt new (with_pushed state rest) = record {
      book = subst (λ (b : BookValue). StandsFor b state.journal) (sym cut.book) at.book;
      grants = ap (λ (b : BookValue). b.grants) cut.book ∙ at.grants;
      policy = cut.policy ∙ at.policy;
      limit = ap (λ (b : BookValue). b.limit) cut.book ∙ at.limit;
      audit = ap (λ (b : BookValue). b.audit) cut.book ∙ at.audit;
      queues = cut.queues ∙ at.queues;
      pushed = cut.pushed ∙ kept-without old state caller at;
      next = cut.next ∙ at.next;
      indexed = indexed-ended old.callers new.callers (all_calls state) (rest ∷ state.queues) live
          (λ (weight : Live → ℕ). total-without weight (is_call_of caller) state.pushed state.queues state.queues live own.found refl) at.indexed
          (λ other. cut.callers other ∙ ap (λ (c : Call). if same_caller c.caller other then None else number_of old.callers other) same);
      installed = at.installed;
      live = (all-without Holds (is_call_of caller) state.pushed at.live.0, at.live.1);
    } in (
      cut.told ∙ ap (λ (c : Call). of_call c said.Cut) same ∙ ap (λ (t : Told). t.0) (sym event),
      subst (λ (t : Told). StandsAt new t.1) (sym event) left,
    ))

-- ---- What the live calls have left

pub fetch-falls : (old new : Sim) (stands : Stands old) (caller : Caller) (number : CallNo) (call : Pushed) (table : TableId) (key : List ℕ) (line : Line)
    → first_of (is_callers caller) old.pushed ≡ Some call → IsWanted call table key → HasFetched old new caller number call table key line
    → units_left new < units_left old
fetch-falls old new stands caller number call table key line found wanted fetched =
    let item : ReadItem = item_at stands.state.journal table key in
    let left = fetched.left stands.state.journal stands.at.book in
    let sums = sum-with left_away (is_callers caller) old.pushed call (joined call item) found in
    let now : units_left new ≡ total left_of old.queues + sum_by left_away (with_first (is_callers caller) (joined call item) old.pushed) = ap units_left left in
    let longer = length-append call.reads (item ∷ []) in
    let paid = wanted.paid in
    let less : left_away (joined call item) < left_away call = omega (arith, longer, paid) in
    omega (arith, sums, now, less)

pub finish-falls : (old new : Sim) (caller : Caller) (call : Pushed) (line : Line) → first_of (is_callers caller) old.pushed ≡ Some call
    → 0 < left_away call → HasFinished old new caller call line → units_left new < units_left old
finish-falls old new caller call line found some finished =
    let sums = sum-without left_away (is_callers caller) old.pushed call found in
    let queues : total left_of new.queues ≡ total left_of old.queues = ap (total left_of) finished.is.queues in
    let pushed : sum_by left_away new.pushed ≡ sum_by left_away (without_first (is_callers caller) old.pushed) = ap (sum_by left_away) finished.is.pushed in
    omega (arith, sums, queues, pushed, some)
