-- The caller's call stands where the index tells.
use Rattle.std.proofs.Common.{Some, sym, ap, ◌∙◌, arith}
use Rattle.clients.specs.First.{first_of}
use Rattle.clients.specs.Pushed.{is_callers}
use Rattle.clients.proofs.Places.{get-at, kept-at, none-of}
use Rattle.clients.proofs.pushed_calls.PushedCalls.look.Goals as goal

pub index-requires : goal.index-requires
index-requires c =
    let kept = kept-at c.self.inside.calls.items c.self.inside.places c.self.inside.first c.args.caller c.in-Some.place c.self.invariant
    (sym c.number.ensures ∙ c.in-Some.is) in
    omega (arith, kept.small, c.self.inside.calls.ok)

pub returns-in-Some : goal.returns-in-Some
returns-in-Some c =
    let kept = kept-at c.self.inside.calls.items c.self.inside.places c.self.inside.first c.args.caller c.in-Some.place c.self.invariant
    (sym c.number.ensures ∙ c.in-Some.is) in
    c.as_ref.ensures.value ∙ c.index.ensures ∙ get-at c.self.inside.calls.items c.in-Some.place (Some kept.pushed) c.index.result.now kept.first.found
    ∙ sym kept.found ∙ ap (first_of (is_callers c.args.caller)) c.self.view_is

pub returns-in-None : goal.returns-in-None
returns-in-None c =
    sym (ap (first_of (is_callers c.args.caller)) (sym c.self.view_is)
    ∙ none-of c.self.inside.calls.items c.self.inside.places c.self.inside.first c.args.caller c.self.invariant (sym c.number.ensures ∙ c.in-None.is))
