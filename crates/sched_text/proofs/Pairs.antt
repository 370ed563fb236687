-- Bytes that are read one after the other.
use Rattle.std.proofs.Common.{◌≡◌, ℕ, List, [], ◌∷◌, ◌++◌, Option, Some, None, refl, ap, append_assoc}
use Rattle.std.specs.Prelude.{option_map}
use Rattle.sched_text.specs.Fields.{byte_of, pairs_of}

-- the bytes behind those before
abbrev pub behind : List ℕ → Option (List ℕ) → Option (List ℕ)
behind front read = option_map (λ bytes. front ++ bytes) read

regrouped : (front : List ℕ) (byte : ℕ) (read : Option (List ℕ)) → behind front (option_map (λ bytes. byte ∷ bytes) read) ≡ behind (front ++ byte ∷ []) read
regrouped front byte None = refl
regrouped front byte (Some bytes) = ap Some (simp append_assoc)

pub pair_read : (front : List ℕ) (high low byte : ℕ) (more : List ℕ) → byte_of high low ≡ Some byte → behind front (pairs_of (high ∷ low ∷ more)) ≡ behind (front ++ byte ∷ []) (pairs_of more)
pair_read front high low byte more e = rw e (regrouped front byte (pairs_of more))

pub pair_bad : (front : List ℕ) (high low : ℕ) (more : List ℕ) → byte_of high low ≡ None → behind front (pairs_of (high ∷ low ∷ more)) ≡ None
pair_bad front high low more e = rw e refl
