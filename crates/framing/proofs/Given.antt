-- A body that is framed and fed comes out.
use Rattle.std.proofs.Common.{◌≡◌, ℕ, List, [], ◌∷◌, ◌++◌, None, refl, sym, ap, subst, ◌∙◌, arith}
use Rattle.std.proofs.lemmas.List.{append-nil}
use Rattle.std.proofs.lemmas.List.Concat.{flat_map-cons}
use Rattle.std.proofs.lemmas.List.Elements.{All-cons, All-nil}
use Rattle.sp_base.specs.Limits.{IsBody}
use Rattle.sp_base.specs.Spelling.{frame}
use Rattle.framing.specs.Frames.{stream_of}
use Rattle.framing.specs.Framing.{FramedIsGiven, Framing, Keeps, Stands}
use Rattle.framing.proofs.Fed.{fed_more}
use Rattle.framing.proofs.Once.{one_reading}

same_behind : {A : Type 0} (front xs ys : List A) → front ++ xs ≡ front ++ ys → xs ≡ ys
same_behind [] xs ys same = same
same_behind (x ∷ front) xs ys same = same_behind front xs ys (let rest : front ++ xs ≡ front ++ ys = cc in rest)

keeps_nothing : (framing : Framing) → framing ≡ record { pending = []; broken = None } → Keeps framing []
keeps_nothing framing is =
    subst (λ (f : Framing). Keeps f []) (sym is)
    (refl, record { allowed = λ some. absurd (omega (arith, some)); short = λ some allowed. absurd (omega (arith, some)) })

one_stream : (body : List ℕ) → frame body ≡ stream_of (body ∷ []) ++ []
one_stream body = sym (append-nil (stream_of (body ∷ [])) ∙ flat_map-cons frame body [] ∙ append-nil (frame body))

pub framed_given : FramedIsGiven
framed_given before after fed body bodies more short is stands stands' =
    let parts : before.pending ++ frame body ≡ stream_of (body ∷ []) ++ [] =
    ap (λ (f : Framing). f.pending ++ frame body) is ∙ one_stream body in
    let own : Stands before (fed ++ frame body) (bodies ++ body ∷ []) =
    fed_more before before fed (frame body) bodies (body ∷ []) [] stands (ap (λ (f : Framing). f.broken) is) parts
    (All-cons IsBody body [] short (All-nil IsBody)) (keeps_nothing before is) in
    let same = one_reading after before (fed ++ frame body) (bodies ++ more) (bodies ++ body ∷ []) stands' own in
    (same_behind bodies more (body ∷ []) same.0, same.1)
