-- Rounds through the gifts, and rows of the table, one at a time.
use Rattle.std.proofs.Common.{◌≡◌, ℕ, zero, suc, ◌+◌, ◌-◌, ◌<◌, Bool, true, List, [], ◌∷◌, ◌++◌, refl, ap, sym, ◌∙◌, arith, append_assoc}
use Rattle.std.specs.Prelude.{slice_set}
use Rattle.ext_mean.specs.declared.borrowing.Gift.{Gift}
use Rattle.ext_mean.specs.Origins.{is_marked}
use Rattle.ext_mean.specs.Borrowing.{borrowers, one_round, rounds, rows}

-- a mark that is set already
pub set-again : (marks : List Bool) (number : ℕ) → is_marked marks number ≡ true → slice_set marks number true ≡ marks
set-again [] number set = refl
set-again (mark ∷ marks) zero set = ap (λ (m : Bool). m ∷ marks) (sym set)
set-again (mark ∷ marks) (suc number) set = ap (λ (rest : List Bool). mark ∷ rest) (set-again marks number set)

-- a round that marks nothing, again and again
pub rounds-still : (buffer : ℕ) (gifts : List Gift) (more : ℕ) (marks : List Bool) → one_round buffer gifts marks ≡ marks → rounds buffer gifts more marks ≡ marks
rounds-still buffer gifts zero marks still = refl
rounds-still buffer gifts (suc more) marks still = ap (rounds buffer gifts more) still ∙ rounds-still buffer gifts more marks still

-- one round of those that are left
pub rounds-one : (buffer : ℕ) (gifts : List Gift) (count done : ℕ) (marks : List Bool) → done < count → rounds buffer gifts (count - done) marks ≡ rounds buffer gifts (count - (done + 1)) (one_round buffer gifts marks)
rounds-one buffer gifts count done marks below =
    let e : count - done ≡ suc (count - (done + 1)) = omega arith in
    ap (λ (n : ℕ). rounds buffer gifts n marks) e

-- one row of those that are left
pub rows-one : (gifts : List Gift) (count buffer : ℕ) → buffer < count → rows gifts count buffer (count - buffer) ≡ borrowers gifts count buffer ∷ rows gifts count (buffer + 1) (count - (buffer + 1))
rows-one gifts count buffer below =
    let e : count - buffer ≡ suc (count - (buffer + 1)) = omega arith in
    ap (rows gifts count buffer) e

-- one row more
pub row-pushed : (gifts : List Gift) (count buffer : ℕ) (built is : List (List Bool)) (row : List Bool) → buffer < count → is ≡ built ++ row ∷ [] → row ≡ borrowers gifts count buffer → is ++ rows gifts count (buffer + 1) (count - (buffer + 1)) ≡ built ++ rows gifts count buffer (count - buffer)
row-pushed gifts count buffer built is row below is-is row-is =
    rw (is-is, row-is, rows-one gifts count buffer below) (append_assoc built (borrowers gifts count buffer ∷ []) (rows gifts count (buffer + 1) (count - (buffer + 1))))

pub ruleset table_lemmas = (set-again, rounds-still, rounds-one, rows-one)
