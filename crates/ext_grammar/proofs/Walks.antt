-- A walk of the reader over slots of a derivation: each token leads on and stands as the slot says.
use Rattle.std.proofs.Common.{◌≡◌, ℕ, ◌+◌, List, [], ◌∷◌, ◌++◌, Option, Some, None, refl, sym, ap, arith, zero-add, if◌then◌else◌}
use Rattle.ext_mean.specs.declared.token.Token.{Token}
use Rattle.ext_mean.specs.declared.token.Token.TheVariants as token
use Rattle.ext_mean.specs.declared.tree.Program.{Program}
use Rattle.ext_mean.specs.Wording.{Standing, inside, Slot, slot, is_operator, operators, going_on}
use Rattle.ext_grammar.specs.Coming.{Coming, functions, Move, on_token}
use Rattle.ext_grammar.specs.Reading.{open_operators}

-- a program ends here
abbrev pub Ended : Coming → Program → Type 0
Ended (functions (first ∷ more)) program = record { functions = first ∷ more } ≡ program
Ended other program = ⊥

abbrev pub Takes : Option Move → Standing → (Coming → ℕ → Type 0) → Type 0
Takes None standing behind = ⊥
Takes (Some move) standing behind = (move.standing ≡ standing) × behind move.coming move.operators

-- the token that comes next stands where its slot says
pub took : {A B : Type 0} {place : A} → B → (place ≡ place) × B
took walk = (refl, walk)

-- from here, where the open item has so many operators, the slots lead to the end of this program
abbrev pub Walk : List Slot → Coming → ℕ → Program → Type 0
Walk [] coming before program = Ended coming program
Walk (next ∷ more) coming before program =
    Takes (on_token coming (open_operators coming before) next.token) next.standing
    (λ then_coming then_before. Walk more then_coming then_before program)

-- the operators of an item behind one token more
abbrev pub with_token : Token → ℕ → ℕ
with_token token.Not before = before + 1
with_token (token.Binary operator) before = before + 1
with_token other before = before

abbrev pub counted : ℕ → List Token → ℕ
counted before [] = before
counted before (first ∷ more) = counted (with_token first before) more

-- these tokens inside an item, and then the rest
abbrev pub goes : ℕ → List Token → List Slot → List Slot
goes before [] rest = rest
goes before (first ∷ more) rest =
    slot first (inside before) ∷ goes (with_token first before) more rest

pub counted-append : (first second : List Token) (before : ℕ) → counted before (first ++ second)
    ≡ counted (counted before first) second
counted-append [] second before = refl
counted-append (token ∷ first) second before = counted-append first second (with_token token before)

pub goes-append : (first second : List Token) (before : ℕ) (rest : List Slot) →
    goes before (first ++ second) rest ≡ goes before first (goes (counted before first) second rest)
goes-append [] second before rest = refl
goes-append (token ∷ first) second before rest =
    ap (λ slots. slot token (inside before) ∷ slots)
    (goes-append first second (with_token token before) rest)

pub with_token-is : (token : Token) (before : ℕ) → with_token token before
    ≡ (if is_operator token then 1 else 0) + before
with_token-is token.Not before = omega arith
with_token-is (token.Binary operator) before = omega arith
with_token-is _ before = sym (zero-add before)

pub goes-is : (tokens : List Token) (before : ℕ) (rest : List Slot) → going_on before tokens ++ rest
    ≡ goes before tokens rest
goes-is [] before rest = refl
goes-is (first ∷ more) before rest =
    ap (λ slots. slot first (inside before) ∷ slots)
    (rw (← with_token-is first before) (goes-is more (with_token first before) rest))

pub counted-is : (tokens : List Token) (before : ℕ) → counted before tokens
    ≡ before + operators tokens
counted-is [] before = omega arith
counted-is (first ∷ more) before =
    let behind = counted-is more (with_token first before) in
    let one = with_token-is first before in
    omega arith
