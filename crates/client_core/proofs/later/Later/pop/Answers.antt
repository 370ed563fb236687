-- Where calls or items have run out, no pair is left.
use Rattle.std.specs.List.{zip}
use Rattle.std.proofs.Common.{◌≡◌, List, [], sym, ap, ◌∙◌}
use Rattle.sp_base.specs.declared.calls.Call.{Call}
use Rattle.wire.specs.declared.items.Item.{Item}
use Rattle.client_core.proofs.Pairs.{none-left, zip-none}
use Rattle.client_core.proofs.later.Later.pop.Goals as goal

pub returns-in_default-clause-none : goal.returns-in_default-clause-none
returns-in_default-clause-none c =
    let none : c.self.inside.calls.items ≡ [] =
    none-left c.self.inside.calls.items (c.in_default.ensures.items ∙ c.in_default.ensures.rest) in
    sym c.self.view_is ∙ ap (λ (calls : List Call). zip calls c.self.inside.items.items) none

pub returns-in_default-pop_front-clause-pops : goal.returns-in_default-pop_front-clause-pops
returns-in_default-pop_front-clause-pops c =
    let kept = c.in_default-pop_front.ensures.items in
    let none : c.self.inside.items.items ≡ [] = none-left c.self.inside.items.items (kept ∙ c.in_default-pop_front.ensures.rest) in
    let gone : c.pop_front-2.new.self.items ≡ [] = sym kept ∙ none in
    sym c.self.view_is
    ∙ ap (λ (items : List Item). zip c.self.inside.calls.items items) none ∙ zip-none c.self.inside.calls.items
    ∙ sym (ap (λ (items : List Item). zip c.pop_front.new.self.items items) gone ∙ zip-none c.pop_front.new.self.items)

pub returns-in_default-pop_front-clause-none : goal.returns-in_default-pop_front-clause-none
returns-in_default-pop_front-clause-none c =
    let kept = c.in_default-pop_front.ensures.items in
    let none : c.self.inside.items.items ≡ [] = none-left c.self.inside.items.items (kept ∙ c.in_default-pop_front.ensures.rest) in
    sym c.self.view_is
    ∙ ap (λ (items : List Item). zip c.self.inside.calls.items items) none ∙ zip-none c.self.inside.calls.items
