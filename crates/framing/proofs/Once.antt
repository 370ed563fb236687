-- A stream has one reading: its frames, and what is kept of the rest, are determined.
use Rattle.std.proofs.Common.{◌≡◌, ℕ, ◌^◌, ◌+◌, ◌<◌, List, [], ◌∷◌, ◌++◌, length, take, drop, Option, Some, None, refl, sym, ap, subst, ◌∙◌, append_assoc, arith}
use Rattle.std.specs.List.{AllByRecursion}
use Rattle.std.specs.Int.{w32, to_be_bytes, from_be_bytes}
use Rattle.std.proofs.lemmas.List.{take_at, drop_at, length-append}
use Rattle.std.proofs.lemmas.List.Concat.{flat_map-cons}
use Rattle.std.proofs.lemmas.List.Elements.{recursion_from_All}
use Rattle.std.proofs.lemmas.Nat.{from_be_bytes-to_be_bytes_4}
use Rattle.sp_base.specs.Limits.{IsBody}
use Rattle.sp_base.specs.Spelling.{u32, frame}
use Rattle.framing.specs.Frames.{stream_of, announced, IsTooLong, NoFrame}
use Rattle.framing.specs.Framing.{Framing, Keeps, Stands}

-- a body's length in front of it, as announced
announced_frame : (body more : List ℕ) → IsBody body → announced (frame body ++ more) ≡ length body
unfolding u32
announced_frame body more short =
    let lt : length body < 2 ^ 32 = omega arith in
    ap (from_be_bytes w32) (ap (take 4) (append_assoc (to_be_bytes w32 (length body)) body more) ∙ take_at (to_be_bytes w32 (length body)) (body ++ more) 4 refl)
    ∙ from_be_bytes-to_be_bytes_4 (length body) lt

length_frame : (body more : List ℕ) → length (frame body ++ more) ≡ 4 + length body + length more
unfolding u32
length_frame body more = omega (arith, length-append (frame body) more, length-append (to_be_bytes w32 (length body)) body)

-- a rest that no frame begins is no stream of frames with a first one
no_frame : (body more : List ℕ) → IsBody body → NoFrame (frame body ++ more) → ⊥
no_frame body more short none =
    let n = announced_frame body more short in
    let l = length_frame body more in
    let lt : length (frame body ++ more) < 4 + announced (frame body ++ more) = none (omega arith) (omega arith) in
    omega (arith, n, l)

-- two frames at the front of one stream are one
same_frame : (body other more others : List ℕ) → IsBody body → IsBody other → frame body ++ more ≡ frame other ++ others →
    (body ≡ other) × (more ≡ others)
unfolding u32
same_frame body other more others short short' e =
    let n : length body ≡ length other = sym (announced_frame body more short) ∙ ap announced e ∙ announced_frame other others short' in
    let behind : body ++ more ≡ other ++ others =
    sym (drop_at (to_be_bytes w32 (length body)) (body ++ more) 4 refl)
    ∙ ap (drop 4) (sym (append_assoc (to_be_bytes w32 (length body)) body more) ∙ e ∙ append_assoc (to_be_bytes w32 (length other)) other others)
    ∙ drop_at (to_be_bytes w32 (length other)) (other ++ others) 4 refl in (
      sym (take_at body more (length body) refl) ∙ ap (take (length body)) behind ∙ take_at other others (length body) (sym n),
      sym (drop_at body more (length body) refl) ∙ ap (drop (length body)) behind ∙ drop_at other others (length body) (sym n),
    )

regroup : (body : List ℕ) (bodies : List (List ℕ)) (rest : List ℕ) →
    stream_of (body ∷ bodies) ++ rest ≡ frame body ++ (stream_of bodies ++ rest)
regroup body bodies rest = ap (λ (x : List ℕ). x ++ rest) (flat_map-cons frame body bodies) ∙ append_assoc (frame body) (stream_of bodies) rest

same_frames : (bodies others : List (List ℕ)) (rest rest' : List ℕ) → AllByRecursion IsBody bodies → AllByRecursion IsBody others →
    NoFrame rest → NoFrame rest' → stream_of bodies ++ rest ≡ stream_of others ++ rest' → (bodies ≡ others) × (rest ≡ rest')
same_frames [] [] rest rest' short short' none none' e = (refl, e)
same_frames [] (d ∷ ds) rest rest' short short' none none' e =
    absurd (no_frame d (stream_of ds ++ rest') short'.0 (subst NoFrame (e ∙ regroup d ds rest') none))
same_frames (b ∷ bs) [] rest rest' short short' none none' e =
    absurd (no_frame b (stream_of bs ++ rest) short.0 (subst NoFrame (sym e ∙ regroup b bs rest) none'))
same_frames (b ∷ bs) (d ∷ ds) rest rest' short short' none none' e =
    let first = same_frame b d (stream_of bs ++ rest) (stream_of ds ++ rest') short.0 short'.0 (sym (regroup b bs rest) ∙ e ∙ regroup d ds rest') in
    let others = same_frames bs ds rest rest' short.1 short'.1 none none' first.1 in
    (ap (λ (x : List ℕ). x ∷ bs) first.0 ∙ ap (λ (xs : List (List ℕ)). d ∷ xs) others.0, others.1)

too_long_none : (n : ℕ) (rest : List ℕ) → IsTooLong n rest → NoFrame rest
too_long_none n rest over spelled allowed = absurd (omega (arith, over.is, over.over))

keeps_none : (broken : Option ℕ) (pending rest : List ℕ) → Keeps (record { pending = pending; broken = broken }) rest → NoFrame rest
keeps_none None pending rest kept = kept.1.short
keeps_none (Some n) pending rest kept = too_long_none n rest kept.1

keeps_one : (broken broken' : Option ℕ) (pending pending' rest : List ℕ) → Keeps (record { pending = pending; broken = broken }) rest →
    Keeps (record { pending = pending'; broken = broken' }) rest →
    ((pending ≡ pending') × (broken ≡ broken'))
keeps_one None None pending pending' rest kept kept' = (kept.0 ∙ sym kept'.0, refl)
keeps_one None (Some n) pending pending' rest kept kept' = absurd (omega (arith, kept.1.allowed kept'.1.spelled, kept'.1.is, kept'.1.over))
keeps_one (Some n) None pending pending' rest kept kept' = absurd (omega (arith, kept'.1.allowed kept.1.spelled, kept.1.is, kept.1.over))
keeps_one (Some n) (Some m) pending pending' rest kept kept' = (kept.0 ∙ sym kept'.0, ap (λ (k : ℕ). Some k) (sym kept.1.is ∙ kept'.1.is))

pub one_reading : (one other : Framing) (fed : List ℕ) (bodies others : List (List ℕ)) →
    Stands one fed bodies → Stands other fed others → (bodies ≡ others) × (one ≡ other)
one_reading one other fed bodies others a b =
    let both = same_frames bodies others a.rest b.rest (recursion_from_All IsBody bodies a.each) (recursion_from_All IsBody others b.each)
    (keeps_none one.broken one.pending a.rest a.kept) (keeps_none other.broken other.pending b.rest b.kept) (sym a.whole ∙ b.whole) in
    let kept = keeps_one one.broken other.broken one.pending other.pending b.rest (subst (Keeps one) both.1 a.kept) b.kept in
    (both.0, ap (λ (p : List ℕ). record { pending = p; broken = one.broken }) kept.0 ∙ ap (λ (x : Option ℕ). record { pending = other.pending; broken = x }) kept.1)
