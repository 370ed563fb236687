-- One place or two.
use Rattle.std.specs.Prelude.{◌≡◌, true, false, refl}
use Rattle.std.proofs.Common.{arith}
use Rattle.std.proofs.lemmas.Grind.{common_steps}
use Rattle.std.proofs.lemmas.Bool.Decides.{nat_tests}
use Rattle.std.proofs.lemmas.Slice.Eq.{bytes_eq-Decides}
use Rattle.sp_base.specs.Places.{Place, same_place}

pub same_place-true : (a b : Place) → same_place a b ≡ true → a ≡ b
same_place-true a b same = grind (arith, nat_tests, common_steps, bytes_eq-Decides)

pub same_place-refl : (a : Place) → same_place a a ≡ true
same_place-refl a = grind (arith, nat_tests, common_steps, bytes_eq-Decides)
