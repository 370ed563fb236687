use Rattle.std.proofs.Common.{◌≡◌, ℕ, List, [], ◌++◌, Option, Some, None, sym, ap, subst, ◌∙◌}
use Rattle.framing.specs.Frames.{stream_of, IsTooLong, NotTooLong}
use Rattle.framing.specs.Framing.{Framing, Keeps}
use Rattle.framing.proofs.Fed.{fed_more, keeps_rest, keeps_length}
use Rattle.framing.proofs.framer.Framer.feed.Goals as goal
use Rattle.framing.proofs.framer.Framer.feed.Goals.{in-Some-too_long-2, in_default-too_long-2}

pub returns-clause-frames : goal.returns-clause-frames
returns-clause-frames c = λ fed bodies stands.
    let before = c.args.self.now in
    let after = c.match-too_long-2.self in
    let piece = c.args.piece.now in
    let more = c.in_ok-bodies.bodies.items in
    let rest = c.take_frames.new.pending.items in
    let unbroken : before.broken ≡ None = ap (λ (f : Framing). f.broken) (sym c.self.view_is) ∙ c.in_default.is in
    let parts : before.pending ++ piece ≡ stream_of more ++ rest =
    ap (λ (f : Framing). f.pending ++ piece) (sym c.self.view_is) ∙ c.in_ok-bodies.ensures.whole in
    let kept : Keeps after rest =
    elim c.match-too_long-2.branch [
      | in-Some-too_long-2 w ↦
          let n = w.in-Some-too_long-2.n in
          let over : IsTooLong n (rest ++ []) = subst (λ (x : List ℕ). IsTooLong n (x ++ [])) c.as_slice-2.ensures.value (w.in-Some-too_long-2.ensures) in
          let is : after ≡ record { pending = []; broken = Some n } = w.self-is ∙ ap (λ (x : List ℕ). record { pending = x; broken = Some n }) w.clear-in-Some-too_long-2.ensures.items in
          keeps_length rest n after is over
      | in_default-too_long-2 w ↦
          let allowed : NotTooLong (rest ++ []) = subst (λ (x : List ℕ). NotTooLong (x ++ [])) c.as_slice-2.ensures.value (w.in_default-too_long-2.ensures) in
          let is : after ≡ record { pending = rest; broken = None } = w.self-is ∙ ap (λ (b : Option ℕ). record { pending = rest; broken = b }) c.in_default.is in
          keeps_rest rest after is allowed c.in_ok-bodies.ensures.rest
    ] in
    fed_more before after fed piece bodies more rest stands unbroken parts c.in_ok-bodies.ensures.each kept
