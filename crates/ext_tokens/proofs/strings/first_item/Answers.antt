-- The item that the first byte begins.
use Rattle.std.proofs.Common.{◌≡◌, ◌∷◌, ◌-◌, ℕ, List, [], ap, inl, refl, subst, sym, ◌∙◌, length, take, drop, get_or, arith}
use Rattle.std.specs.Prelude.{MatchOption}
use Rattle.ext_tokens.specs.Strings.{BeginsByItem}
use Rattle.ext_tokens.proofs.Slices.{first-of}
use Rattle.ext_tokens.proofs.strings.first_item.Goals as goal

pub returns-in-92 : goal.returns-in-92
returns-in-92 c =
    let mark : get_or c.args.bytes.now 0 0 ≡ 0x5c = omega arith in
    let whole : c.args.bytes.now ≡ 0x5c ∷ take (length c.args.bytes.now - 1) (drop 1 c.args.bytes.now) =
    first-of c.args.bytes.now c.in-92.len_at_least ∙ ap (λ byte. byte ∷ take (length c.args.bytes.now - 1) (drop 1 c.args.bytes.now)) mark in
    let P : List ℕ → Type 0 = λ text. MatchOption c.escaped_item.result
    ((item : ℕ) (rest : List ℕ) → BeginsByItem text item rest → ⊥) (λ found. BeginsByItem text found.0 found.1.now) in
    subst P (sym whole) c.escaped_item.ensures

pub returns-then-is_plain : goal.returns-then-is_plain
returns-then-is_plain c = (get_or c.args.bytes.now 0 0 ∷ [], inl (sym c.if-is_plain.ensures, refl), first-of c.args.bytes.now c.in-len1-up.len_at_least)
