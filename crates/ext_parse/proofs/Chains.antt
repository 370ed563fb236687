-- Operators between operands, and `!`.
use Rattle.std.proofs.Common.{◌≡◌, ◌∙◌, ap, refl, sym, ℕ, Bool, true, false, Option, Some, None, nat_le, cond}
use Rattle.ext_mean.specs.declared.codes.SyntaxCode.TheVariants as syntax
use Rattle.ext_mean.specs.declared.expr.BinOp.{BinOp}
use Rattle.ext_mean.specs.declared.expr.Expr.{Expr}
use Rattle.ext_mean.specs.declared.expr.Expr.TheVariants as expr
use Rattle.ext_mean.specs.declared.token.Token.{Token}
use Rattle.ext_mean.specs.declared.token.Token.TheVariants as token
use Rattle.ext_grammar.specs.Coming.{Level, disjoining, conjoining, comparing, adding, multiplying, level_of, is_level, AroundExpr, chain, right, negated, Coming, unary, primary, behind, side, Move, on_token, operates, operator_of, on_behind, on_chain}
use Rattle.ext_grammar.specs.Reading.{Counted, goes, stops, met, met_by}
use Rattle.ext_parse.specs.declared.level.Level as code
use Rattle.ext_parse.specs.declared.level.Level.TheVariants as level
use Rattle.ext_parse.specs.Readers.{Stand, left, next, advanced, with_operator, refusal}
use Rattle.ext_parse.specs.Levels.{at_level, operator_at, of_level, tighter_than, around_side}
use Rattle.ext_parse.proofs.Steps.{operating, full, alike, alike-moves, with_one}

-- with an operator more
operated-met : (coming after : Coming) (this : Token) (counted : Counted) (line : ℕ) → nat_le 64 counted.operators ≡ false → met coming counted (record { token = this; line = line }) ≡ cond (nat_le 64 counted.operators) (stops line syntax.Many) (goes after (with_one counted)) → met coming counted (record { token = this; line = line }) ≡ goes after (with_one counted)
operated-met coming after this counted line few is =
    is ∙ ap (λ (many : Bool). cond many (stops line syntax.Many) (goes after (with_one counted))) few

-- behind an operand, where the operator is one of the level or not
chained-move : (of : Level) (found : Expr) (around : AroundExpr) (before : ℕ) (operator : BinOp) → is_level of (level_of operator) ≡ true → on_token (behind found (chain of around)) before (token.Binary operator) ≡ operates before (unary (side of (right of operator found around)))
chained-move of found around before operator is =
    ap (λ (test : Bool). cond test (operates before (unary (side of (right of operator found around)))) (on_behind found around before (token.Binary operator))) is

chained-met : (of : Level) (found : Expr) (around : AroundExpr) (operator : BinOp) (counted : Counted) (line : ℕ) → is_level of (level_of operator) ≡ true → nat_le 64 counted.operators ≡ false → met (behind found (chain of around)) counted (record { token = token.Binary operator; line = line }) ≡ goes (unary (side of (right of operator found around))) (with_one counted)
chained-met of found around operator counted line is few =
    operated-met (behind found (chain of around)) (unary (side of (right of operator found around))) (token.Binary operator) counted line few
    (ap (λ (move : Option Move). cond (nat_le 64 counted.operators) (stops line syntax.Many) (met_by counted (record { token = token.Binary operator; line = line }) move)) (chained-move of found around counted.operators operator is))

at-level-some : (of : Level) (operator : Option BinOp) (taken : BinOp) → at_level of operator ≡ Some taken → (operator ≡ Some taken) × (is_level of (level_of taken) ≡ true)
at-level-some of None taken e = cc
at-level-some of (Some operator) taken e = by_test (is_level of (level_of operator)) refl e
  where
    by_test : (test : Bool) → is_level of (level_of operator) ≡ test → cond test (Some operator) None ≡ Some taken → (let o : Option BinOp = Some operator in o ≡ Some taken) × (is_level of (level_of taken) ≡ true)
    by_test true is same = (same, cc)
    by_test false is same = cc

at-level-none : (of : Level) (operator : BinOp) → at_level of (Some operator) ≡ None → is_level of (level_of operator) ≡ false
at-level-none of operator e = by_test (is_level of (level_of operator)) refl e
  where
    by_test : (test : Bool) → is_level of (level_of operator) ≡ test → cond test (Some operator) None ≡ None → is_level of (level_of operator) ≡ false
    by_test true is same = cc
    by_test false is same = is

binary-of : (this : Token) (operator : BinOp) → operator_of this ≡ Some operator → this ≡ token.Binary operator
binary-of (token.Binary found) operator e = cc
binary-of this operator e = cc

-- the operator of a level that comes next
taken-of : (of : Level) (this : Option Token) (operator : BinOp) → operator_at of this ≡ Some operator → (this ≡ Some (token.Binary operator)) × (is_level of (level_of operator) ≡ true)
taken-of of None operator e = cc
taken-of of (Some this) operator e =
    let at : (operator_of this ≡ Some operator) × (is_level of (level_of operator) ≡ true) = at-level-some of (operator_of this) operator e in
    (ap (λ (t : Token). Some t) (binary-of this operator at.0), at.1)

pub chain-some : (of : Level) (found : Expr) (around : AroundExpr) (operator : BinOp) (there : Stand) → operator_at of (next there) ≡ Some operator → nat_le 64 there.counted.operators ≡ false → left (behind found (chain of around)) there ≡ left (unary (side of (right of operator found around))) (advanced (with_operator there))
chain-some of found around operator there taken few =
    let at = taken-of of (next there) operator taken in
    operating (behind found (chain of around)) (unary (side of (right of operator found around))) (token.Binary operator) there
    (λ line. chained-met of found around operator there.counted line at.1 few) at.0

pub chain-full : (of : Level) (found : Expr) (around : AroundExpr) (there : Stand) (operator : BinOp) → operator_at of (next there) ≡ Some operator → nat_le 64 there.counted.operators ≡ true → left (behind found (chain of around)) there ≡ refusal there
chain-full of found around there operator taken many =
    full (behind found (chain of around)) there (token.Binary operator) refl (taken-of of (next there) operator taken).0 refl many

none-moves : (of : Level) (found : Expr) (around : AroundExpr) (before : ℕ) (this : Token) (operator : Option BinOp) → operator_of this ≡ operator → at_level of operator ≡ None → on_token (behind found (chain of around)) before this ≡ on_token (behind found around) before this
none-moves of found around before this None is e =
    ap (λ (o : Option BinOp). on_chain of found around before o (on_behind found around before this)) is
none-moves of found around before this (Some operator) is e =
    ap (λ (o : Option BinOp). on_chain of found around before o (on_behind found around before this)) is
    ∙ ap (λ (test : Bool). cond test (operates before (unary (side of (right of operator found around)))) (on_behind found around before this)) (at-level-none of operator e)

pub chain-none : (of : Level) (found : Expr) (around : AroundExpr) (there : Stand) → operator_at of (next there) ≡ None → left (behind found (chain of around)) there ≡ left (behind found around) there
chain-none of found around there e =
    alike-moves (behind found (chain of around)) (behind found around) there refl refl refl
    (λ this is. none-moves of found around there.counted.operators this (operator_of this) refl (sym (ap (operator_at of) is) ∙ e))

-- behind the right side of an operator
pub right-compared : (operator : BinOp) (before found : Expr) (around : AroundExpr) (there : Stand) → left (behind found (right comparing operator before around)) there ≡ left (behind (expr.Bin operator before found) around) there
right-compared operator before found around there =
    alike (behind found (right comparing operator before around)) (behind (expr.Bin operator before found) around) there refl (λ placed. refl)

pub right-chained : (of : code.Level) (operator : BinOp) (before found : Expr) (around : AroundExpr) (there : Stand) → (of ≡ level.Comparing → ⊥) → left (behind found (right (of_level of) operator before around)) there ≡ left (behind (expr.Bin operator before found) (chain (of_level of) around)) there
right-chained level.Disjoining operator before found around there other =
    alike (behind found (right disjoining operator before around)) (behind (expr.Bin operator before found) (chain disjoining around)) there refl (λ placed. refl)
right-chained level.Conjoining operator before found around there other =
    alike (behind found (right conjoining operator before around)) (behind (expr.Bin operator before found) (chain conjoining around)) there refl (λ placed. refl)
right-chained level.Comparing operator before found around there other = absurd (other refl)
right-chained level.Adding operator before found around there other =
    alike (behind found (right adding operator before around)) (behind (expr.Bin operator before found) (chain adding around)) there refl (λ placed. refl)
right-chained level.Multiplying operator before found around there other =
    alike (behind found (right multiplying operator before around)) (behind (expr.Bin operator before found) (chain multiplying around)) there refl (λ placed. refl)

-- the operands of a level are the sides of the one above it
pub side-by_tighter : (of : code.Level) (around : AroundExpr) (there : Stand) → left (unary (side (of_level of) around)) there ≡ left (unary (around_side around (tighter_than of))) there
side-by_tighter level.Disjoining around there = refl
side-by_tighter level.Conjoining around there = refl
side-by_tighter level.Comparing around there = refl
side-by_tighter level.Adding around there = refl
side-by_tighter level.Multiplying around there = refl

-- `!` before an operand
not-met : (around : AroundExpr) (counted : Counted) (line : ℕ) → nat_le 64 counted.operators ≡ false → met (unary around) counted (record { token = token.Not; line = line }) ≡ goes (primary (negated around)) (with_one counted)
not-met around counted line few =
    ap (λ (many : Bool). cond many (stops line syntax.Many) (goes (primary (negated around)) (with_one counted))) few

pub not-some : (around : AroundExpr) (there : Stand) → next there ≡ Some token.Not → nat_le 64 there.counted.operators ≡ false → left (unary around) there ≡ left (primary (negated around)) (advanced (with_operator there))
not-some around there e few =
    operating (unary around) (primary (negated around)) token.Not there (λ line. not-met around there.counted line few) e

pub not-full : (around : AroundExpr) (there : Stand) → next there ≡ Some token.Not → nat_le 64 there.counted.operators ≡ true → left (unary around) there ≡ refusal there
not-full around there e many = full (unary around) there token.Not refl e refl many

not-moves : (around : AroundExpr) (before : ℕ) (this : Token) → (this ≡ token.Not → ⊥) → on_token (unary around) before this ≡ on_token (primary around) before this
not-moves around before token.Not other = absurd (other refl)
not-moves around before this other = refl

pub not-none : (around : AroundExpr) (there : Stand) → (next there ≡ Some token.Not → ⊥) → left (unary around) there ≡ left (primary around) there
not-none around there other =
    alike-moves (unary around) (primary around) there refl refl refl (λ this e. not-moves around there.counted.operators this (λ is. other (e ∙ ap (λ (t : Token). Some t) is)))

pub negated-one : (found : Expr) (around : AroundExpr) (there : Stand) → left (behind found (negated around)) there ≡ left (behind (expr.Not found) around) there
negated-one found around there =
    alike (behind found (negated around)) (behind (expr.Not found) around) there refl (λ placed. refl)

pub ruleset taken_operators = (chain-some, chain-full, chain-none, not-some, not-full, not-none)

pub ruleset operands = (right-compared, right-chained, side-by_tighter, negated-one)
