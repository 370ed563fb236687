-- Of every event one thing is judged.
use Rattle.std.proofs.Common.{◌≡◌, ℕ, List, ap, sym, ◌∙◌}
use Rattle.sp_base.specs.declared.numbers.TenantId.{TenantId}
use Rattle.ext_mean.specs.declared.refusal.Refusal.{Refusal}
use Rattle.ext_parse.proofs.OneProgram.{one-program}
use Rattle.ext_check.proofs.OneRefusal.{one-refusal, refused-not-accepted}
use Rattle.sched_text.specs.declared.event.Event.TheVariants as event
use Rattle.sim.specs.Laws.{EventsAreJudgedOnce}
use Rattle.sim.specs.Play.{Judgement, Accepted, Refused, Nothing, IsJudged}

-- a text is accepted as one program, or first refused in one place with one code
ext-once : (tenant : TenantId) (text : List ℕ) (one other : Judgement) → IsJudged (event.Ext tenant text) one
    → IsJudged (event.Ext tenant text) other → one ≡ other
ext-once tenant text (Accepted program) (Accepted another) first second =
    ap Accepted (one-program text program another first.spelled.0 second.spelled.0 first.spelled.1 second.spelled.1).0
ext-once tenant text (Accepted program) (Refused at code) first second = absurd (refused-not-accepted text at code program second first)
ext-once tenant text (Accepted program) Nothing first second = absurd second
ext-once tenant text (Refused at code) (Accepted program) first second = absurd (refused-not-accepted text at code program first second)
ext-once tenant text (Refused at code) (Refused line which) first second =
    let same = one-refusal text at line code which first second in
    ap (λ (n : ℕ). Refused n code) same.0 ∙ ap (λ (c : Refusal). Refused line c) same.1
ext-once tenant text (Refused at code) Nothing first second = absurd second
ext-once tenant text Nothing other first second = absurd first

pub judged-once : EventsAreJudgedOnce
judged-once (event.Ext tenant text) one other first second = ext-once tenant text one other first second
judged-once (event.Put tenant table key value) one other first second = first ∙ sym second
judged-once (event.Begin worker tenant asked) one other first second = first ∙ sym second
judged-once (event.Turn worker quantum) one other first second = first ∙ sym second
judged-once (event.Steal worker «from») one other first second = first ∙ sym second
judged-once (event.Away tenant caller) one other first second = first ∙ sym second
judged-once (event.Cut tenant caller) one other first second = first ∙ sym second
