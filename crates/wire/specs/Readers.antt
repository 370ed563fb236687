-- Reading from left to right. A reader takes a value from the front and leaves the bytes behind it, or
-- it says how many bytes are left from the first bad one on: none where the bytes end too early.
use Rattle.std.specs.Prelude.{◌≡◌, ℕ, zero, suc, ◌+◌, List, [], ◌∷◌, length, Result, Ok, Err, ◌==◌, if◌then◌else◌}
use Rattle.wire.specs.declared.faults.ReadFault.{ReadFault}
use Rattle.wire.specs.declared.faults.ReadFault.TheVariants as faults

abbrev pub Reader : Type 0 → Type 0
Reader A = List ℕ → Result (A × List ℕ) ℕ

infixl 10 ◌>>=◌
abbrev pub ◌>>=◌ : {A B : Type 0} → Result A ℕ → (A → Result B ℕ) → Result B ℕ
(Ok x) >>= f = f x
(Err left) >>= f = Err left

-- a value, and then what is read behind it
abbrev pub bind : {A B : Type 0} → Reader A → (A → Reader B) → Reader B
bind p k bytes = p bytes >>= λ x. k x.0 x.1

-- a value, and what is made of it
abbrev pub made : {A B : Type 0} → (A → B) → Reader A → Reader B
made f p bytes = p bytes >>= λ x. Ok (f x.0, x.1)

-- a value that takes no bytes
abbrev pub done : {A : Type 0} → A → Reader A
done x bytes = Ok (x, bytes)

-- a byte, and then what it chooses
abbrev pub tagged : {A : Type 0} → (ℕ → Reader A) → Reader A
tagged choose [] = Err 0
tagged choose (b ∷ rest) = choose b rest

-- behind the byte k this, behind others the next
abbrev pub arm : {A : Type 0} → ℕ → Reader A → (ℕ → Reader A) → ℕ → Reader A
arm k p next b rest = if b == k then p rest else next b rest

-- the byte before the rest is bad
abbrev pub no_arm : {A : Type 0} → ℕ → Reader A
no_arm b rest = Err (length rest + 1)

-- n values, one after the other
unfoldable pub repeated : {A : Type 0} → Reader A → ℕ → Reader (List A)
repeated p zero bytes = Ok ([], bytes)
repeated p (suc n) bytes = p bytes >>= λ first. repeated p n first.1 >>= λ others. Ok (first.0 ∷ others.0, others.1)

-- all of the bytes
abbrev pub all_of : {A : Type 0} → Reader A → List ℕ → Result A ℕ
all_of p bytes = p bytes >>= λ x. if length x.1 == 0 then Ok x.0 else Err (length x.1)

-- what the code answered, seen by view, is what reading gives, unless memory ran out
abbrev pub Fails : {Y : Type 0} → ReadFault → Result Y ℕ → Type 0
Fails faults.Memory read = Unit {0}
Fails (faults.Bad left) read = read ≡ Err left

abbrev pub Gives : {X Y : Type 0} → (X → Y) → Result X ReadFault → Result Y ℕ → Type 0
Gives view (Ok x) read = read ≡ Ok (view x)
Gives view (Err e) read = Fails e read
