-- A text has one first refusal.
use Rattle.std.proofs.Common.{◌≡◌, ℕ, List}
use Rattle.ext_mean.specs.declared.refusal.Refusal.{Refusal}
use Rattle.ext_check.specs.Checking.{IsRefused}
use Rattle.ext_check.proofs.OneRefusal.{one-refusal}

pub only_refusal : (input : List ℕ) (line : ℕ) (which : Refusal) → IsRefused input line which → (other : ℕ) (another : Refusal)
    → IsRefused input other another → (other ≡ line) × (another ≡ which)
only_refusal input line which refused other another also = one-refusal input other line another which also refused
