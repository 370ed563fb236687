-- An accepted link is done before the next is asked for.
use Rattle.std.proofs.Common.{◌≡◌, ℕ, ◌+◌, [], ◌∷◌, List, length, Option, Some, None, IfSome, IsTrue, ◌∙◌, ap, sym, subst, length-append}
use Rattle.sp_outside.specs.Doors.{ended_after}
use Rattle.outside_tests.proofs.links.drains.Goals as goal

-- one more is done
one_more_done : {L : Type 0} (ended : Option (List L)) (link : L) (n : ℕ)
    → IfSome ended (λ links. length links ≡ n) → IfSome (ended_after ended link) (λ links. length links ≡ n + 1)
one_more_done None link n done = tt
one_more_done (Some links) link n done = length-append links (link ∷ []) ∙ ap (λ k. k + 1) done

pub links-preserved : goal.links-preserved
links-preserved g c =
    let bound : g.D.Door.bound c.done.new.self ≡ g.D.Door.bound c.links.door =
    c.done.ensures.same_bound ∙ c.in-Link.ensures.same_bound in
    let given : g.D.Door.given c.done.new.self ≡ g.D.Door.given c.links.door + 1 =
    c.done.ensures.same_given ∙ c.in-Link.ensures.given in
    let ended : g.D.Door.ended c.done.new.self ≡ ended_after (g.D.Door.ended c.links.door) c.in-Link.link =
    c.done.ensures.ended ∙ ap (λ links. ended_after links c.in-Link.link) c.in-Link.ensures.same_ended in
    record {
      bound = subst IsTrue (sym bound) c.links.invariant.bound;
      all_done = rw ended (rw given (one_more_done _ c.in-Link.link _ c.links.invariant.all_done));
    }
