-- The tests of the bounds, and what they tell.
use Rattle.std.proofs.Common.{◌≡◌, ◌<◌, ◌≤◌, ℕ, ◌&&◌, ◌||◌, ◌⊎◌, Bool, true, false, ◌∷◌, Option, Some, None, nat_le, refl, sym, ◌∙◌, ap, subst, arith, inl, inr}
use Rattle.std.proofs.lemmas.Bool.{leb-true, leb-false}
use Rattle.ext_mean.specs.declared.token.Token.{Token}
use Rattle.ext_mean.specs.declared.token.Token.TheVariants as token
use Rattle.ext_mean.specs.declared.token.Word.TheVariants as word
use Rattle.ext_mean.specs.declared.tree.Program.{Program}
use Rattle.ext_mean.specs.Bounds.{operators_at, IsNaming, IsAnyName}
use Rattle.ext_mean.specs.Wording.{Standing, naming, fn_token}
use Rattle.ext_grammar.specs.Coming.{Coming, functions, Move}
use Rattle.ext_grammar.specs.Reading.{open_operators, is_full_of_functions, is_full_of_locals}
use Rattle.ext_grammar.proofs.Walks.{Ended, Takes}
use Rattle.ext_grammar.proofs.Kept.{Zeroed, Declares, Kept}

pub both-true : (first second : Bool) → first && second ≡ true → (first ≡ true) × (second ≡ true)
both-true true second same = (refl, same)
both-true false second same = absurd (cc)

pub not-both : (first second : Bool) → first && second ≡ false → first ≡ true → second ≡ false
not-both true second none same = none
not-both false second none same = absurd (cc)

pub either-true : (first second : Bool) → first || second ≡ true → (first ≡ true) ⊎ (second ≡ true)
either-true true second same = inl refl
either-true false second same = inr same

pub neither-true : (first second : Bool) → first || second ≡ false →
    (first ≡ false) × (second ≡ false)
neither-true true second same = absurd (cc)
neither-true false second same = (refl, same)

pub le-true : (low high : ℕ) → low ≤ high → nat_le low high ≡ true
le-true low high less = grind (arith, leb-false)

-- the 33rd function
pub functions-full : (known : ℕ) (next : Token) → is_full_of_functions known next ≡ true →
    (next ≡ fn_token) × (32 ≤ known)
functions-full known (token.Word word.Fn) full = (refl, leb-true 32 known full)
functions-full known _ full = absurd (cc)

pub functions-room : (known : ℕ) (next : Token) → is_full_of_functions known next ≡ false →
    next ≡ fn_token → 32 ≤ known → ⊥
functions-room known (token.Word word.Fn) full same high =
    let less : known < 32 = leb-false 32 known full in omega arith
functions-room known _ full same high = cc

-- the 257th local
pub locals-full : (known : ℕ) (standing : Standing) → is_full_of_locals known standing ≡ true →
    IsNaming standing × (256 ≤ known)
locals-full known (naming operators) full = (tt, leb-true 256 known full)
locals-full known _ full = absurd (cc)

pub locals-room : (known : ℕ) (standing : Standing) → is_full_of_locals known standing ≡ false →
    IsNaming standing → 256 ≤ known → ⊥
locals-room known (naming operators) full named high =
    let less : known < 256 = leb-false 256 known full in omega arith
locals-room known _ full named high = named

-- the place of a slot that a walk takes
pub taken-operators : (state : Coming) (before : ℕ) (next : Token) (found : Option Move)
    (standing : Standing) (more : Coming → ℕ → Type 0) → Kept state before next found →
    Takes found standing more → operators_at standing ≡ before
taken-operators state before next None standing more kept takes = absurd takes
taken-operators state before next (Some move) standing more kept takes =
    ap operators_at (sym takes.0) ∙ kept.0

pub taken-name : (state : Coming) (before : ℕ) (next : Token) (found : Option Move)
    (standing : Standing) (more : Coming → ℕ → Type 0) → Kept state before next found →
    Takes found standing more → IsNaming standing → Declares state × IsAnyName next
taken-name state before next None standing more kept takes named = absurd takes
taken-name state before next (Some move) standing more kept takes named =
    let P : Standing → Type 0 = λ it. IsNaming it in kept.2 (subst P (sym takes.0) named)

-- no item is open where a program ends
pub ended-zero : (state : Coming) (before : ℕ) (program : Program) → Ended state program →
    Zeroed state before → open_operators state before ≡ 0
ended-zero (functions (first ∷ more)) before program ended zeroed = zeroed
ended-zero _ before program ended zeroed = absurd ended
