-- The first of the tokens that are left, and those behind it.
use Rattle.std.proofs.Common.{◌≡◌, ◌∙◌, ap, refl, sym, arith, ℕ, ◌+◌, ◌<◌, ◌≤◌, ◌-◌, List, [], ◌∷◌, Option, Some, None, length, get_or, take, drop}
use Rattle.std.proofs.lemmas.List.{take_all, append-nil}
use Rattle.ext_mean.specs.declared.token.Placed.{Placed}
use Rattle.ext_parse.specs.Readers.{first_of, behind_first, first_line}

pub first-none : (placed : List Placed) → length placed < 1 → first_of placed ≡ None
first-none [] e = refl
first-none (first ∷ rest) e = absurd (omega arith)

pub first-some : (placed : List Placed) (item : Placed) → item ≡ get_or placed 0 item → 1 ≤ length placed → first_of placed ≡ Some item.token
first-some [] item is e = absurd (omega arith)
first-some (first ∷ rest) item is e = cc

pub behind-none : (placed : List Placed) → length placed < 1 → behind_first placed ≡ placed
behind-none [] e = refl
behind-none (first ∷ rest) e = absurd (omega arith)

pub behind-some : (placed : List Placed) → take (length placed - 1) (drop 1 placed) ≡ behind_first placed
behind-some [] = refl
behind-some (first ∷ rest) = take_all (length (first ∷ rest) - 1) rest (omega arith)

pub ruleset places = (first-none, first-some, behind-none, behind-some)

pub line-some : (placed : List Placed) (item : Placed) → item ≡ get_or placed 0 item → 1 ≤ length placed → first_line placed ≡ item.line ∷ []
line-some [] item is e = absurd (omega arith)
line-some (first ∷ rest) item is e = ap (λ (p : Placed). p.line ∷ []) (sym is)

pub line-none : (placed : List Placed) → length placed < 1 → first_line placed ≡ []
line-none [] e = refl
line-none (first ∷ rest) e = absurd (omega arith)

-- the line of an item that begins at the first token
pub ruleset first_lines = (line-some, line-none, append-nil)

pub second-some : (placed : List Placed) (item : Placed) → item ≡ get_or placed 1 item → 2 ≤ length placed → first_of (behind_first placed) ≡ Some item.token
second-some [] item is e = absurd (omega arith)
second-some (first ∷ []) item is e = absurd (omega arith)
second-some (first ∷ second ∷ rest) item is e = ap (λ (p : Placed). Some p.token) (sym is)

pub second-none : (placed : List Placed) → length placed < 2 → first_of (behind_first placed) ≡ None
second-none [] e = refl
second-none (first ∷ []) e = refl
second-none (first ∷ second ∷ rest) e = absurd (omega arith)

-- the token behind the first
pub ruleset seconds = (second-some, second-none)
