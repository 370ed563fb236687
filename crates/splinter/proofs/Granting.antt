-- No event of a play changes the grants.
use Rattle.std.proofs.Common.{◌≡◌, ℕ, Bool, true, false, Option, Some, None, List, [], ◌∷◌, refl, ◌∙◌}
use Rattle.sp_base.specs.declared.calls.Call.{Call}
use Rattle.sp_base.specs.declared.numbers.Caller.{Caller}
use Rattle.sp_base.specs.declared.numbers.TenantId.{TenantId}
use Rattle.book.specs.Verdict.{item_at}
use Rattle.report.specs.declared.line.Line.{Line}
use Rattle.sched_text.specs.declared.event.Event.{Event}
use Rattle.sched_text.specs.declared.event.Event.TheVariants as event
use Rattle.task.specs.declared.phase.Phase.{Phase}
use Rattle.task.specs.declared.phase.Phase.TheVariants as phase
use Rattle.task.specs.Extensions.{ExtValue}
use Rattle.task.specs.Turning.{Live, given, turn_of}
use Rattle.sim.specs.Play.{Answer, Accepted, Drains, Follows, Judgement, Nothing, Refused, away_found, begin_told, caller_of, carried, cut_found, event_of, ext_event, goes_away, load_of, looking_on, no_event, no_more, one_event, one_more, placed, steal_first, turn_first, turned, went}
use Rattle.sim.specs.State.{SimState, pushed_call, queue_of, with_queue}

ext-grants : (state : SimState) (tenant : TenantId) (text : List ℕ) (judgement : Judgement) → (ext_event state tenant text judgement).1.grants ≡ state.grants
ext-grants state tenant text (Accepted program) = refl
ext-grants state tenant text (Refused at code) = refl
ext-grants state tenant text Nothing = refl

begin-grants : (state : SimState) (worker : ℕ) (call : Call) (live : Option Live) (ext : Option ExtValue) → (begin_told state worker call live ext).1.grants ≡ state.grants
begin-grants state worker call (Some live) ext = refl
begin-grants state worker call None None = refl
begin-grants state worker call None (Some ext) = refl

placed-grants : (state : SimState) (worker : ℕ) (live : Live) (pushed : Bool) → (placed state worker live pushed).grants ≡ state.grants
placed-grants state worker live true = refl
placed-grants state worker live false = refl

turned-grants : (state : SimState) (load worker : ℕ) (live : Live) (stands : Phase) → (turned state load worker live stands).1.grants ≡ state.grants
turned-grants state load worker live phase.Ready = placed-grants state worker live (goes_away state.policy load live)
turned-grants state load worker live (phase.Waiting table key) =
    let next : Live = given live (item_at state.journal table key) in
    placed-grants state worker next (goes_away state.policy load next)
turned-grants state load worker live (phase.Ended outcome writes) = refl

turn-grants : (state : SimState) (worker quantum : ℕ) (queue : List Live) → (turn_first state worker quantum queue).1.grants ≡ state.grants
turn-grants state worker quantum [] = refl
turn-grants state worker quantum (live ∷ queue) =
    turned-grants (with_queue state worker queue) (load_of state.queues) worker (turn_of live quantum) (turn_of live quantum).phase

went-grants : (state : SimState) (caller : Caller) (live : Live) (stands : Phase) → (went state caller live stands).1.grants ≡ state.grants
went-grants state caller live phase.Ready = refl
went-grants state caller live (phase.Waiting table key) = refl
went-grants state caller live (phase.Ended outcome writes) = refl

away-grants : (state : SimState) (caller : Caller) (found : Option Live) → (away_found state caller found).1.grants ≡ state.grants
away-grants state caller None = refl
away-grants state caller (Some live) = went-grants state caller (carried live) (carried live).phase

cut-grants : (state : SimState) (caller : Caller) (found : Option Live) → (cut_found state caller found).1.grants ≡ state.grants
cut-grants state caller None = refl
cut-grants state caller (Some live) = refl

steal-grants : (state : SimState) (worker victim : ℕ) (queue : List Live) → (steal_first state worker victim queue).1.grants ≡ state.grants
steal-grants state worker victim [] = refl
steal-grants state worker victim (live ∷ queue) = refl

event-grants : (state : SimState) (event : Event) (judgement : Judgement) → (event_of state event judgement).1.grants ≡ state.grants
event-grants state (event.Put tenant table key value) judgement = refl
event-grants state (event.Ext tenant text) judgement = ext-grants state tenant text judgement
event-grants state (event.Begin worker tenant asked) judgement = begin-grants state worker _ _ _
event-grants state (event.Turn worker quantum) judgement = turn-grants state worker quantum (queue_of state.queues worker)
event-grants state (event.Steal worker victim) judgement = steal-grants state worker victim (queue_of state.queues victim)
event-grants state (event.Away tenant caller) judgement =
    away-grants state (caller_of tenant caller) (pushed_call state (caller_of tenant caller))
event-grants state (event.Cut tenant caller) judgement =
    cut-grants state (caller_of tenant caller) (pushed_call state (caller_of tenant caller))

looking-grants : (state : SimState) (event : Event) → (looking_on state event).grants ≡ state.grants
looking-grants state (event.Put tenant table key value) = refl
looking-grants state (event.Ext tenant text) = refl
looking-grants state (event.Begin worker tenant asked) = refl
looking-grants state (event.Turn worker quantum) = refl
looking-grants state (event.Steal worker victim) = refl
looking-grants state (event.Away tenant caller) = refl
looking-grants state (event.Cut tenant caller) = refl

pub follows-grants : {old new : SimState} {events : List (ℕ × Event)} {answers : List Answer} → Follows old events answers new → new.grants ≡ old.grants
follows-grants (no_event state) = refl
follows-grants (one_event state at event judgement events answers after judged follows) =
    follows-grants follows ∙ event-grants state event judgement

pub drains-grants : {old new : SimState} {lines : List Line} → Drains old lines new → new.grants ≡ old.grants
drains-grants (no_more state none) = refl
drains-grants (one_more state event lines after next drains) =
    drains-grants drains ∙ event-grants (looking_on state event) event Nothing ∙ looking-grants state event
