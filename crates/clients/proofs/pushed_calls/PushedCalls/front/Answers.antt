-- The first place that is not empty has the call that was pushed first.
use Rattle.std.specs.Prelude.{MatchOption, slice_get}
use Rattle.std.specs.Option.{option_map}
use Rattle.std.proofs.Common.{◌≡◌, ◌<◌, length, List, [], Option, Some, sym, ap, ◌∙◌, subst, arith}
use Rattle.sp_base.specs.declared.numbers.Caller.{Caller}
use Rattle.clients.specs.Placing.{BeginsWith, EmptyBelow}
use Rattle.clients.specs.Pushed.{Pushed}
use Rattle.clients.proofs.Firsts.{somes-none}
use Rattle.clients.proofs.Places.{begins-at, get-at}
use Rattle.clients.proofs.pushed_calls.PushedCalls.front.Goals as goal

pub returns-then-place-len-clause-caller : goal.returns-then-place-len-clause-caller
returns-then-place-len-clause-caller c =
    let items = c.self.inside.calls.items in
    let place = c.first_full-place.result in
    let empty : EmptyBelow items place = subst (λ (list : List (Option Pushed)). EmptyBelow list place) c.as_slice.ensures.value c.first_full-place.ensures.empty in
    let long : c.len.result ≡ length items = omega (arith, c.len.ensures, c.self.inside.calls.ok) in
    sym c.self.view_is ∙ somes-none items (λ at less. empty at (omega (arith, less, long)))

pub returns-clause-caller : goal.returns-clause-caller
returns-clause-caller c =
    let items = c.self.inside.calls.items in
    let place = c.first_full-place.result in
    let empty : EmptyBelow items place = subst (λ (list : List (Option Pushed)). EmptyBelow list place) c.as_slice.ensures.value c.first_full-place.ensures.empty in
    let here : place < length c.as_slice.result.now = omega (arith, c.len.ensures, c.as_slice.ensures.len) in
    let full = c.first_full-place.ensures.full here in
    let found : slice_get items place ≡ Some (Some full.0) = subst (λ (list : List (Option Pushed)). slice_get list place ≡ Some (Some full.0)) c.as_slice.ensures.value full.1 in
    let told : c.caller_of.result ≡ Some full.0.call.caller =
    c.caller_of.ensures ∙ ap (option_map (λ (call : Pushed). call.call.caller)) (c.index.ensures ∙ get-at items place (Some full.0) c.index.result.now found) in
    let begins : BeginsWith c.args.self.now full.0.call.caller = subst (λ (calls : List Pushed). BeginsWith calls full.0.call.caller) c.self.view_is (begins-at items place full.0 empty found) in
    subst (λ (given : Option Caller). MatchOption given (c.args.self.now ≡ []) (BeginsWith c.args.self.now)) (sym told) begins
