-- What tokens inside an item lead to, and where operators may follow an expression.
use Rattle.std.proofs.Common.{◌≡◌, ◌<◌, ◌≤◌, ℕ, Bool, true, false, List, [], ◌∷◌, ◌++◌, Option, None, refl, ap, subst, arith, if◌then◌else◌}
use Rattle.ext_mean.specs.declared.expr.BinOp.{BinOp}
use Rattle.ext_mean.specs.declared.expr.Expr.{Expr}
use Rattle.ext_mean.specs.declared.expr.Expr.TheVariants as expr
use Rattle.ext_mean.specs.declared.token.Token.{Token}
use Rattle.ext_mean.specs.declared.token.Token.TheVariants as token
use Rattle.ext_mean.specs.declared.tree.Program.{Program}
use Rattle.ext_mean.specs.Wording.{Standing, Slot}
use Rattle.ext_grammar.specs.Coming.{Level, disjoining, conjoining, comparing, adding, multiplying, level_of, is_level, AroundExpr, chain, right, negated, Coming, behind, Move, on_behind}
use Rattle.ext_grammar.proofs.Walks.{Takes, Walk, counted, counted-append, goes, goes-append}

-- these tokens of an item lead from here to there, whatever program they are in
abbrev pub Leads : Program → List Token → Coming → Coming → Type 0
Leads program tokens from to =
    (before : ℕ) (rest : List Slot) →
    Walk rest to (counted before tokens) program → Walk (goes before tokens rest) from before
    program

pub join : (program : Program) (first second : List Token) (from middle to : Coming) →
    Leads program first from middle → Leads program second middle to →
    Leads program (first ++ second) from to
join program first second from middle to one two before rest walk =
    rw (goes-append first second before rest)
    (one before (goes (counted before first) second rest)
    (two (counted before first) rest (rw (counted-append first second before) at walk)))

-- from the loosest level to the tightest
abbrev pub tightness : Level → ℕ
tightness disjoining = 1
tightness conjoining = 2
tightness comparing = 3
tightness adding = 4
tightness multiplying = 5

-- only operators of looser levels may follow an expression that stands here
abbrev pub Below : ℕ → AroundExpr → Type 0
Below bound (chain level around) = (tightness level < bound) × Below bound around
Below bound (right level operator left around) = (tightness level < bound) × Below bound around
Below bound (negated around) = Below bound around
Below bound other = Unit {0}

pub below-more : (around : AroundExpr) (low high : ℕ) → low ≤ high → Below low around →
    Below high around
below-more (chain level around) low high more (first, rest) =
    (omega arith, below-more around low high more rest)
below-more (right level operator left around) low high more (first, rest) =
    (omega arith, below-more around low high more rest)
below-more (negated around) low high more all = below-more around low high more all
below-more _ low high more all = tt

level-apart : (first second : Level) → tightness first < tightness second → is_level first second
    ≡ false
level-apart disjoining disjoining less = absurd (omega arith)
level-apart conjoining conjoining less = absurd (omega arith)
level-apart comparing comparing less = absurd (omega arith)
level-apart adding adding less = absurd (omega arith)
level-apart multiplying multiplying less = absurd (omega arith)
level-apart _ _ less = refl

level-same : (first second : Level) → is_level first second ≡ true → second ≡ first
level-same disjoining disjoining same = refl
level-same conjoining conjoining same = refl
level-same comparing comparing same = refl
level-same adding adding same = refl
level-same multiplying multiplying same = refl
level-same _ _ same = cc

-- no operator of this level or a tighter one goes on
rejected : (around : AroundExpr) (bound : ℕ) → Below bound around → (operator : BinOp) →
    bound ≤ tightness (level_of operator) → (found : Expr) (before : ℕ) →
    on_behind found around before (token.Binary operator) ≡ None
rejected (chain level around) bound (first, rest) operator high found before =
    rw (level-apart level (level_of operator) (omega arith))
    (rejected around bound rest operator high found before)
rejected (right disjoining by left around) bound (first, rest) operator high found before =
    rw (level-apart disjoining (level_of operator) (omega arith))
    (rejected around bound rest operator high (expr.Bin by left found) before)
rejected (right conjoining by left around) bound (first, rest) operator high found before =
    rw (level-apart conjoining (level_of operator) (omega arith))
    (rejected around bound rest operator high (expr.Bin by left found) before)
rejected (right comparing by left around) bound (first, rest) operator high found before =
    rejected around bound rest operator high (expr.Bin by left found) before
rejected (right adding by left around) bound (first, rest) operator high found before =
    rw (level-apart adding (level_of operator) (omega arith))
    (rejected around bound rest operator high (expr.Bin by left found) before)
rejected (right multiplying by left around) bound (first, rest) operator high found before =
    rw (level-apart multiplying (level_of operator) (omega arith))
    (rejected around bound rest operator high (expr.Bin by left found) before)
rejected (negated around) bound all operator high found before =
    rejected around bound all operator high (expr.Not found) before
rejected _ bound all operator high found before = refl

skip-operator : (same : Bool) (move otherwise : Option Move) (standing : Standing)
    (more : Coming → ℕ → Type 0) → (same ≡ true → otherwise ≡ None) →
    Takes otherwise standing more → Takes (if same then move else otherwise) standing more
skip-operator true move otherwise standing more none takes =
    absurd (let P : Option Move → Type 0 =
    λ it. Takes it standing more in subst P (none refl) takes)
skip-operator false move otherwise standing more none takes = takes

skip-token : (level : Level) (around : AroundExpr) → Below (tightness level) around →
    (found : Expr) (before : ℕ) (next : Token) (standing : Standing) (more : Coming → ℕ → Type 0) →
    Takes (on_behind found around before next) standing more →
    Takes (on_behind found (chain level around) before next) standing more
skip-token level around below found before (token.Binary operator) standing more takes =
    skip-operator (is_level level (level_of operator)) _ _ standing more
    (λ same. rejected around (tightness level) below operator
    (let e = ap tightness (level-same level (level_of operator) same) in omega arith) found before)
    takes
skip-token level around below found before _ standing more takes = takes

-- no operator of a level follows
pub skip : (program : Program) (level : Level) (around : AroundExpr) →
    Below (tightness level) around → (found : Expr) (before : ℕ) (rest : List Slot) →
    Walk rest (behind found around) before program →
    Walk rest (behind found (chain level around)) before program
skip program level around below found before [] walk = walk
skip program level around below found before (next ∷ rest) walk =
    skip-token level around below found before next.token next.standing _ walk

-- behind a right side, what may follow is what may follow the operation
pub right-goes : (program : Program) (level : Level) (apart : is_level comparing level ≡ false)
    (operator : BinOp) (left found : Expr) (around : AroundExpr) (before : ℕ) (rest : List Slot) →
    Walk rest (behind (expr.Bin operator left found) (chain level around)) before program →
    Walk rest (behind found (right level operator left around)) before program
right-goes program level apart operator left found around before [] walk = walk
right-goes program disjoining apart operator left found around before (next ∷ rest) walk = walk
right-goes program conjoining apart operator left found around before (next ∷ rest) walk = walk
right-goes program comparing apart operator left found around before (next ∷ rest) walk =
    absurd (cc)
right-goes program adding apart operator left found around before (next ∷ rest) walk = walk
right-goes program multiplying apart operator left found around before (next ∷ rest) walk = walk

pub right-compared : (program : Program) (operator : BinOp) (left found : Expr)
    (around : AroundExpr) (before : ℕ) (rest : List Slot) →
    Walk rest (behind (expr.Bin operator left found) around) before program →
    Walk rest (behind found (right comparing operator left around)) before program
right-compared program operator left found around before [] walk = walk
right-compared program operator left found around before (next ∷ rest) walk = walk
