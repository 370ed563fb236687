-- What a drill leaves, by its summary and by what was written of it.
use Rattle.std.specs.Prelude.{IfSome}
use Rattle.std.proofs.Common.{◌≡◌, ◌⊎◌, ℕ, List, Option, Some, None, sym, subst, inl, inr}
use Rattle.splinter.specs.declared.status.Status.{Status}
use Rattle.splinter.specs.declared.status.Status.TheVariants as status
use Rattle.splinter.specs.Drilling.{Drills, HasPlay, IsDrillOf}
use Rattle.splinter.specs.Ending.{WritesText}

pub told-drilled : (result : Status) (count seed : ℕ) (text : List ℕ) (held after : Option (List ℕ)) → IsDrillOf count seed text
    → IfSome held (λ there. WritesText result status.Ok there text after) → IfSome held (λ there. Drills result count seed there after)
told-drilled result count seed text None after is written = tt
told-drilled result count seed text (Some there) after is (inl h) =
    subst (λ (s : Status). Drills s count seed there after) (sym h.status_is) (record { text = text; summary = is; written = h.written })
told-drilled result count seed text (Some there) after is (inr h) =
    subst (λ (s : Status). Drills s count seed there after) (sym h.status_is) (record { text = text; summary = is; prefix = h.prefix })

pub drilled-played : (result : Status) (count seed : ℕ) (text : List ℕ) → IsDrillOf count seed text
    → (result ≡ status.Ok) ⊎ (result ≡ status.WriteFault) → HasPlay result count seed
drilled-played result count seed text is (inl e) = subst (λ (s : Status). HasPlay s count seed) (sym e) (text, is)
drilled-played result count seed text is (inr e) = subst (λ (s : Status). HasPlay s count seed) (sym e) (text, is)
