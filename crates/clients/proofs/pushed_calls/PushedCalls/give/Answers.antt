-- The caller's call keeps its place, with one read more.
use Rattle.std.proofs.Common.{◌≡◌, List, Option, Some, None, sym, ap, ◌∙◌, subst, arith}
use Rattle.std.specs.Prelude.{slice_set}
use Rattle.clients.specs.First.{first_of, with_first}
use Rattle.clients.specs.Placing.{ArePlaced, somes}
use Rattle.clients.specs.Pushed.{Pushed, WantsAt, is_callers, joined, meant}
use Rattle.clients.proofs.Firsts.{first-with, set-twice}
use Rattle.clients.proofs.Places.{get-at, kept-at, none-of, one-kept, placed-kept, placed-less}
use Rattle.clients.proofs.pushed_calls.PushedCalls.give.Goals as goal

pub unreachable-requires : goal.unreachable-requires
unreachable-requires c =
    let none = ap (first_of (is_callers c.args.caller)) (sym c.self.view_is)
    ∙ none-of c.self.inside.calls.items c.self.inside.places c.self.inside.first c.args.caller c.self.invariant (sym c.number.ensures ∙ c.in_default.is) in
    let clash : None ≡ Some c.requires.wanted.0 = sym none ∙ c.requires.wanted.1 in cc

pub index_mut-requires : goal.index_mut-requires
index_mut-requires c =
    let kept = kept-at c.self.inside.calls.items c.self.inside.places c.self.inside.first c.args.caller c.in-Some.place c.self.invariant
    (sym c.number.ensures ∙ c.in-Some.is) in
    omega (arith, kept.small, c.self.inside.calls.ok)

pub unreachable-requires-in_default-take : goal.unreachable-requires-in_default-take
unreachable-requires-in_default-take c =
    let kept = kept-at c.self.inside.calls.items c.self.inside.places c.self.inside.first c.args.caller c.in-Some.place c.self.invariant
    (sym c.number.ensures ∙ c.in-Some.is) in
    let clash : None ≡ Some kept.pushed = sym c.in_default-take.is ∙ c.take.ensures.value ∙ c.index_mut.ensures.value
    ∙ get-at c.self.inside.calls.items c.in-Some.place (Some kept.pushed) c.index_mut.result.now kept.first.found in cc

pub give-requires-clause-wanted : goal.give-requires-clause-wanted
give-requires-clause-wanted c =
    let kept = kept-at c.self.inside.calls.items c.self.inside.places c.self.inside.first c.args.caller c.in-Some.place c.self.invariant
    (sym c.number.ensures ∙ c.in-Some.is) in
    let taken : Some c.in-Some-take.call ≡ Some kept.pushed = sym c.in-Some-take.is ∙ c.take.ensures.value ∙ c.index_mut.ensures.value
    ∙ get-at c.self.inside.calls.items c.in-Some.place (Some kept.pushed) c.index_mut.result.now kept.first.found in
    let same : c.in-Some-take.call ≡ kept.pushed = cc in
    let one = one-kept c.self.inside.calls.items c.args.caller c.in-Some.place c.args.self.now c.requires.wanted.0 kept c.self.view_is c.requires.wanted.1 in
    subst (λ (p : Pushed). WantsAt (meant p) c.args.item.table c.args.item.key) (sym (same ∙ one)) c.requires.wanted.2

pub index_mut-requires-in-Ok : goal.index_mut-requires-in-Ok
index_mut-requires-in-Ok c =
    let kept = kept-at c.self.inside.calls.items c.self.inside.places c.self.inside.first c.args.caller c.in-Some.place c.self.invariant
    (sym c.number.ensures ∙ c.in-Some.is) in
    omega (arith, kept.small, c.self.inside.calls.ok)

pub invariant_of-self : goal.invariant_of-self
invariant_of-self c =
    let kept = kept-at c.self.inside.calls.items c.self.inside.places c.self.inside.first c.args.caller c.in-Some.place c.self.invariant
    (sym c.number.ensures ∙ c.in-Some.is) in
    let taken : Some c.in-Some-take.call ≡ Some kept.pushed = sym c.in-Some-take.is ∙ c.take.ensures.value ∙ c.index_mut.ensures.value
    ∙ get-at c.self.inside.calls.items c.in-Some.place (Some kept.pushed) c.index_mut.result.now kept.first.found in
    let same : c.in-Some-take.call ≡ kept.pushed = cc in
    subst (λ (list : List (Option Pushed)). ArePlaced list c.self.inside.places c.self.inside.first)
    (sym (set-twice c.self.inside.calls.items c.in-Some.place c.take.new.self (Some c.in-Ok.call)))
    (placed-kept c.self.inside.calls.items c.self.inside.places c.self.inside.first c.args.caller c.in-Some.place c.in-Ok.call c.self.invariant
    (sym c.number.ensures ∙ c.in-Some.is) kept (ap (λ (p : Pushed). p.call) (c.in-Ok.ensures ∙ ap (λ (p : Pushed). joined p c.args.item) same)))

pub invariant_of-self-in-Err : goal.invariant_of-self-in-Err
invariant_of-self-in-Err c =
    subst (λ (slot : Option Pushed). ArePlaced (slice_set c.self.inside.calls.items c.in-Some.place slot) c.remove.new.self c.self.inside.first) (sym c.take.ensures.after)
    (placed-less c.self.inside.calls.items c.self.inside.places c.remove.new.self c.self.inside.first c.args.caller c.in-Some.place c.self.invariant
    (sym c.number.ensures ∙ c.in-Some.is) c.remove.ensures)

pub returns-in-Ok : goal.returns-in-Ok
returns-in-Ok c = λ call found.
    let kept = kept-at c.self.inside.calls.items c.self.inside.places c.self.inside.first c.args.caller c.in-Some.place c.self.invariant
    (sym c.number.ensures ∙ c.in-Some.is) in
    let taken : Some c.in-Some-take.call ≡ Some kept.pushed = sym c.in-Some-take.is ∙ c.take.ensures.value ∙ c.index_mut.ensures.value
    ∙ get-at c.self.inside.calls.items c.in-Some.place (Some kept.pushed) c.index_mut.result.now kept.first.found in
    let same : c.in-Some-take.call ≡ kept.pushed = cc in
    let one = one-kept c.self.inside.calls.items c.args.caller c.in-Some.place c.args.self.now call kept c.self.view_is found in
    ap somes (set-twice c.self.inside.calls.items c.in-Some.place c.take.new.self (Some c.in-Ok.call))
    ∙ first-with (is_callers c.args.caller) c.self.inside.calls.items c.in-Some.place kept.pushed c.in-Ok.call kept.first
    ∙ ap (with_first (is_callers c.args.caller) c.in-Ok.call) c.self.view_is
    ∙ ap (λ (p : Pushed). with_first (is_callers c.args.caller) p c.args.self.now) (c.in-Ok.ensures ∙ ap (λ (p : Pushed). joined p c.args.item) (same ∙ one))
