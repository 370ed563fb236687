-- The first call of its caller stands at the end.
use Rattle.std.specs.Prelude.{if◌then◌else◌}
use Rattle.std.proofs.Common.{◌≡◌, ℕ, List, [], ◌∷◌, ◌++◌, length, Option, Some, sym, ap, ◌∙◌, subst, arith}
use Rattle.sp_base.specs.declared.calls.Call.{Call}
use Rattle.journal.specs.Folds.{same_caller}
use Rattle.clients.specs.First.{first_of}
use Rattle.clients.specs.Numbering.{number_of}
use Rattle.clients.specs.Placing.{ArePlaced, somes}
use Rattle.clients.specs.Pushed.{Pushed, is_callers}
use Rattle.clients.proofs.Firsts.{somes-push}
use Rattle.clients.proofs.Places.{placed-alike, placed-more}
use Rattle.clients.proofs.pushed_calls.PushedCalls.push.Goals as goal

pub invariant_of-self-in_err-add : goal.invariant_of-self-in_err-add
invariant_of-self-in_err-add c =
    subst (λ (items : List (Option Pushed)). ArePlaced items c.add.new.self c.self.inside.first) (sym c.in_ok-reserve.ensures.items)
    (placed-alike c.self.inside.calls.items c.self.inside.places c.add.new.self c.self.inside.first c.self.invariant c.in_err-add.ensures.err)

pub invariant_of-self-2 : goal.invariant_of-self-2
invariant_of-self-2 c =
    let items = c.in-Ok.ensures.items ∙ ap (λ (list : List (Option Pushed)). list ++ Some c.args.call ∷ []) c.in_ok-reserve.ensures.items in
    let long : c.len-place.result ≡ length c.self.inside.calls.items = omega (arith, c.len-place.ensures, c.self.inside.calls.ok) in
    subst (λ (list : List (Option Pushed)). ArePlaced list c.add.new.self c.self.inside.first) (sym items)
    (placed-more c.self.inside.calls.items c.self.inside.places c.add.new.self c.self.inside.first c.args.call c.self.invariant
    (ap (first_of (is_callers c.args.call.call.caller)) c.self.view_is ∙ c.requires)
    (λ other. c.in_ok-add.ensures.ok other
    ∙ ap (λ (call : Call). if same_caller call.caller other then Some c.len-place.result else number_of c.self.inside.places other) c.call-2.ensures
    ∙ ap (λ (n : ℕ). if same_caller c.args.call.call.caller other then Some n else number_of c.self.inside.places other) long))

pub returns : goal.returns
returns c =
    ap somes (c.in-Ok.ensures.items ∙ ap (λ (list : List (Option Pushed)). list ++ Some c.args.call ∷ []) c.in_ok-reserve.ensures.items)
    ∙ somes-push c.self.inside.calls.items c.args.call ∙ ap (λ (list : List Pushed). list ++ c.args.call ∷ []) c.self.view_is
