-- One more piece: what the framer was fed before, and the frames of the pending bytes and the piece.
use Rattle.std.proofs.Common.{◌≡◌, ℕ, List, [], ◌++◌, Some, None, refl, sym, ap, subst, ◌∙◌, append_assoc}
use Rattle.std.specs.List.{All}
use Rattle.std.proofs.lemmas.Grind.{flat_map-append}
use Rattle.std.proofs.lemmas.List.{append-nil}
use Rattle.std.proofs.lemmas.Option.{MatchOption-at_none}
use Rattle.std.proofs.lemmas.List.Elements.{All-append}
use Rattle.sp_base.specs.Limits.{IsBody}
use Rattle.sp_base.specs.Spelling.{frame}
use Rattle.framing.specs.Frames.{stream_of, IsTooLong, IsUnfinished, NotTooLong, NoFrame}
use Rattle.framing.specs.Framing.{Framing, Keeps, Stands}

pub fed_more : (before after : Framing) (fed piece : List ℕ) (bodies more : List (List ℕ)) (rest : List ℕ) →
    Stands before fed bodies → before.broken ≡ None → before.pending ++ piece ≡ stream_of more ++ rest →
    All IsBody more → Keeps after rest → Stands after (fed ++ piece) (bodies ++ more)
fed_more before after fed piece bodies more rest stands open_ parts each kept =
    let was = MatchOption-at_none ((before.pending ≡ stands.rest) × IsUnfinished stands.rest) (λ n. (before.pending ≡ []) × IsTooLong n stands.rest) open_ stands.kept in
    let whole : fed ++ piece ≡ stream_of (bodies ++ more) ++ rest =
    ap (λ (x : List ℕ). x ++ piece) stands.whole
    ∙ append_assoc (stream_of bodies) stands.rest piece
    ∙ ap (λ (x : List ℕ). stream_of bodies ++ x) (ap (λ (x : List ℕ). x ++ piece) (sym was.0) ∙ parts)
    ∙ sym (append_assoc (stream_of bodies) (stream_of more) rest)
    ∙ ap (λ (x : List ℕ). x ++ rest) (sym (flat_map-append frame bodies more)) in
    record { rest = rest; whole = whole; each = All-append IsBody bodies more stands.each each; kept = kept }

-- the rest stays as it is where its length is none that is too long
pub keeps_rest : (rest : List ℕ) (framing : Framing) → framing ≡ record { pending = rest; broken = None } →
    NotTooLong (rest ++ []) → NoFrame rest → Keeps framing rest
keeps_rest rest framing is allowed short =
    subst (λ (f : Framing). Keeps f rest) (sym is)
    (refl, record { allowed = subst NotTooLong (append-nil rest) allowed; short = short })

pub keeps_length : (rest : List ℕ) (n : ℕ) (framing : Framing) → framing ≡ record { pending = []; broken = Some n } →
    IsTooLong n (rest ++ []) → Keeps framing rest
keeps_length rest n framing is over =
    subst (λ (f : Framing). Keeps f rest) (sym is) (refl, subst (IsTooLong n) (append-nil rest) over)
