-- The keys of a `multiget`.
use Rattle.std.proofs.Common.{◌≡◌, ℕ, ◌%◌, ◌≤◌, Bool, true, false, List, length, take, refl, arith, nat_le}
use Rattle.std.specs.Prelude.{IsTrue, ◌&&◌, ◌==◌}
use Rattle.std.proofs.lemmas.Bool.{leb-true}
use Rattle.std.proofs.lemmas.Bool.Decides.{nat_tests}
use Rattle.std.proofs.lemmas.List.{length-take-le}
use Rattle.ext_mean.specs.MeaningValues.{is_key}

pub and-both : (a b : Bool) → (a && b) ≡ true → (a ≡ true) × (b ≡ true)
and-both true b e = (refl, e)
and-both false b e = absurd (let f : false ≡ true = e in cc)

-- the first bytes of enough keys are a key
pub is_key-take : (width : ℕ) (keys : List ℕ) → 1 ≤ width → width ≤ 64 → width ≤ length keys → IsTrue (is_key (take width keys))
is_key-take width keys low high fits =
    let long : length (take width keys) ≡ width = length-take-le width keys fits in
    grind (arith, nat_tests, long)

-- a width that `multiget` takes
pub record IsWidth (width : ℕ) (keys : List ℕ) : Type 0 where
  pub some : 1 ≤ width
  pub short : width ≤ 64

pub width-tested : (width : ℕ) (keys : List ℕ) → IsTrue (nat_le 1 width && nat_le width 64 && (length keys % width == 0)) → IsWidth width keys
width-tested width keys h =
    let outer = and-both (nat_le 1 width && nat_le width 64) (length keys % width == 0) h in
    let inner = and-both (nat_le 1 width) (nat_le width 64) outer.0 in
    record { some = leb-true 1 width inner.0; short = leb-true width 64 inner.1 }
