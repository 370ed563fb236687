-- How much of an input was read, and what a text that is too long is.
use Rattle.std.specs.Prelude.{IfSome}
use Rattle.std.proofs.Common.{◌≡◌, ◌≤◌, ℕ, ◌+◌, List, Option, Some, None, ap, sym, subst, inl, inr, length, ◌∙◌, ◌⊎◌, arith}
use Rattle.std.proofs.lemmas.List.{drop_all}
use Rattle.sp_outside.specs.Reading.{IsLongerInput, IsWholeInput, TookUpTo}
use Rattle.splinter.specs.declared.status.Status.{Status}
use Rattle.splinter.specs.declared.status.Status.TheVariants as status
use Rattle.splinter.specs.Checks.{JudgesText}
use Rattle.splinter.proofs.Checked.{long_line, too-long}

pub took-whole : (most : ℕ) (before left : Option (List ℕ)) (bytes : List ℕ) → IfSome before (λ input. IsWholeInput bytes input left)
    → length bytes ≤ most → IfSome before (λ input. TookUpTo (most + 1) input left)
took-whole most None left bytes whole short = tt
took-whole most (Some input) left bytes whole short =
    let fits : length input ≤ most = subst (λ (b : List ℕ). length b ≤ most) whole.whole short in
    record { taken = most + 1; few = omega arith; rest = whole.nothing ∙ ap Some (sym (drop_all (most + 1) input (omega (arith, fits)))) }

pub took-longer : (most : ℕ) (before left : Option (List ℕ)) → IfSome before (λ input. IsLongerInput most input left)
    → IfSome before (λ input. TookUpTo (most + 1) input left)
took-longer most None left longer = tt
took-longer most (Some input) left longer = record { taken = most + 1; few = omega arith; rest = longer.rest }

pub longer-judged : (before left : Option (List ℕ)) (result : Status)
    → IfSome before (λ input. IsLongerInput 16384 input left)
    → (result ≡ status.Refused) ⊎ (result ≡ status.WriteFault) → IfSome before (λ input. JudgesText result input)
longer-judged None left result longer ends = tt
longer-judged (Some input) left result longer (inl e) =
    subst (λ (s : Status). JudgesText s input) (sym e) (long_line, too-long input longer.more)
longer-judged (Some input) left result longer (inr e) = subst (λ (s : Status). JudgesText s input) (sym e) tt
