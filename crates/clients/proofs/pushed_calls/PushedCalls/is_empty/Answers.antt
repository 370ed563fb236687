-- Where all places are empty, no call is pushed.
use Rattle.std.proofs.Common.{◌≡◌, ◌<◌, length, List, [], ◌∷◌, Option, inl, inr, sym, ap, ◌∙◌, subst, arith}
use Rattle.std.proofs.lemmas.Bool.{cases_lt, le-leb, leb-true}
use Rattle.clients.specs.Placing.{EmptyBelow, somes}
use Rattle.clients.specs.Pushed.{Pushed}
use Rattle.clients.proofs.Firsts.{somes-begin, somes-none}
use Rattle.clients.proofs.pushed_calls.PushedCalls.is_empty.Goals as goal

pub returns : goal.returns
returns c =
    let items = c.self.inside.calls.items in
    let place = c.first_full.result in
    let empty : EmptyBelow items place = subst (λ (list : List (Option Pushed)). EmptyBelow list place) c.as_slice.ensures.value c.first_full.ensures.empty in
    let long : c.len.result ≡ length items = omega (arith, c.len.ensures, c.self.inside.calls.ok) in (
      λ test. sym c.self.view_is ∙ somes-none items (λ at less. let past = leb-true c.len.result place test in empty at (omega (arith, less, past, long))),
      λ none. elim (cases_lt place c.len.result) [
        | inl less ↦ absurd (
            let here : place < length c.as_slice.result.now = omega (arith, less, long, ap length c.as_slice.ensures.value) in
            let full = c.first_full.ensures.full here in
            let begins = somes-begin c.as_slice.result.now place full.0 c.first_full.ensures.empty full.1 in
            let clash : full.0 ∷ begins.rest ≡ [] = sym begins.is ∙ ap somes c.as_slice.ensures.value ∙ c.self.view_is ∙ none in cc)
        | inr past ↦ le-leb c.len.result place past
      ],
    )
