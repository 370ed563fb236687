-- The caller's call leaves its place.
use Rattle.std.proofs.Common.{Option, Some, sym, ap, ◌∙◌, subst, arith}
use Rattle.std.specs.Prelude.{slice_set}
use Rattle.clients.specs.First.{first_of, without_first}
use Rattle.clients.specs.Placing.{ArePlaced, somes}
use Rattle.clients.specs.Pushed.{Pushed, is_callers}
use Rattle.clients.proofs.Firsts.{first-without, without-none}
use Rattle.clients.proofs.Places.{get-at, kept-at, none-of, placed-less}
use Rattle.clients.proofs.pushed_calls.PushedCalls.remove.Goals as goal

pub returns-in_default-clause-call : goal.returns-in_default-clause-call
returns-in_default-clause-call c =
    sym (ap (first_of (is_callers c.args.caller)) (sym c.self.view_is)
    ∙ none-of c.self.inside.calls.items c.self.inside.places c.self.inside.first c.args.caller c.self.invariant (sym c.number.ensures ∙ c.in_default.is))

pub returns-in_default-clause-left : goal.returns-in_default-clause-left
returns-in_default-clause-left c =
    sym (without-none (is_callers c.args.caller) c.args.self.now (ap (first_of (is_callers c.args.caller)) (sym c.self.view_is)
    ∙ none-of c.self.inside.calls.items c.self.inside.places c.self.inside.first c.args.caller c.self.invariant (sym c.number.ensures ∙ c.in_default.is)))

pub index_mut-requires : goal.index_mut-requires
index_mut-requires c =
    let kept = kept-at c.self.inside.calls.items c.self.inside.places c.self.inside.first c.args.caller c.in-Some.place c.self.invariant
    (sym c.number.ensures ∙ c.in-Some.is) in
    omega (arith, kept.small, c.self.inside.calls.ok)

pub invariant_of-self : goal.invariant_of-self
invariant_of-self c =
    subst (λ (slot : Option Pushed). ArePlaced (slice_set c.self.inside.calls.items c.in-Some.place slot) c.remove.new.self c.self.inside.first) (sym c.take.ensures.after)
    (placed-less c.self.inside.calls.items c.self.inside.places c.remove.new.self c.self.inside.first c.args.caller c.in-Some.place c.self.invariant
    (sym c.number.ensures ∙ c.in-Some.is) c.remove.ensures)

pub returns-clause-call : goal.returns-clause-call
returns-clause-call c =
    let kept = kept-at c.self.inside.calls.items c.self.inside.places c.self.inside.first c.args.caller c.in-Some.place c.self.invariant
    (sym c.number.ensures ∙ c.in-Some.is) in
    c.take.ensures.value ∙ c.index_mut.ensures.value
    ∙ get-at c.self.inside.calls.items c.in-Some.place (Some kept.pushed) c.index_mut.result.now kept.first.found
    ∙ sym kept.found ∙ ap (first_of (is_callers c.args.caller)) c.self.view_is

pub returns-clause-left : goal.returns-clause-left
returns-clause-left c =
    let kept = kept-at c.self.inside.calls.items c.self.inside.places c.self.inside.first c.args.caller c.in-Some.place c.self.invariant
    (sym c.number.ensures ∙ c.in-Some.is) in
    ap (λ (slot : Option Pushed). somes (slice_set c.self.inside.calls.items c.in-Some.place slot)) c.take.ensures.after
    ∙ first-without (is_callers c.args.caller) c.self.inside.calls.items c.in-Some.place kept.pushed kept.first
    ∙ ap (without_first (is_callers c.args.caller)) c.self.view_is
