-- The tokens that begin an operand, and the marks between and behind operands.
use Rattle.std.proofs.Common.{◌≡◌, ◌∙◌, ap, refl, sym, ℕ, Bool, true, false, List, Option, Some, None}
use Rattle.ext_mean.specs.declared.expr.Expr.{Expr}
use Rattle.ext_mean.specs.declared.expr.Expr.TheVariants as expr
use Rattle.ext_mean.specs.declared.token.Mark.TheVariants as mark
use Rattle.ext_mean.specs.declared.token.Token.{Token}
use Rattle.ext_mean.specs.declared.token.Token.TheVariants as token
use Rattle.ext_mean.specs.declared.token.Word.{Word}
use Rattle.ext_mean.specs.declared.token.Word.TheVariants as word
use Rattle.ext_grammar.specs.Coming.{AroundExpr, primary, behind, expression, fixed, view_name, in_parentheses, Single, len, temp, Double, byte, u64, Triple, sub, alloc, single_expr, double_expr, triple_expr, only_operand, first_of_two, second_of_two, first_of_three, second_of_three, third_of_three, on_token}
use Rattle.ext_parse.specs.Readers.{Stand, left, next, advanced, refusal}
use Rattle.ext_parse.proofs.Steps.{quiet, refuses, alike}

pub begins-number : (around : AroundExpr) (number : ℕ) (there : Stand) → next there ≡ Some (token.Number number) → left (primary around) there ≡ left (behind (expr.Number number) around) (advanced there)
begins-number around number there e = quiet (primary around) (behind (expr.Number number) around) (token.Number number) there (λ line. refl) e

pub begins-string : (around : AroundExpr) (items : List ℕ) (there : Stand) → next there ≡ Some (token.Str items) → left (primary around) there ≡ left (behind (expr.Str items) around) (advanced there)
begins-string around items there e = quiet (primary around) (behind (expr.Str items) around) (token.Str items) there (λ line. refl) e

pub begins-variable : (around : AroundExpr) (name : List ℕ) (there : Stand) → next there ≡ Some (token.Name name) → left (primary around) there ≡ left (behind (expr.Var name) around) (advanced there)
begins-variable around name there e = quiet (primary around) (behind (expr.Var name) around) (token.Name name) there (λ line. refl) e

pub begins-parentheses : (around : AroundExpr) (there : Stand) → next there ≡ Some (token.Mark mark.Open) → left (primary around) there ≡ left (expression (in_parentheses around)) (advanced there)
begins-parentheses around there e = quiet (primary around) (expression (in_parentheses around)) (token.Mark mark.Open) there (λ line. refl) e

pub begins-true : (around : AroundExpr) (there : Stand) → next there ≡ Some (token.Word word.True) → left (primary around) there ≡ left (behind (expr.Truth true) around) (advanced there)
begins-true around there e = quiet (primary around) (behind (expr.Truth true) around) (token.Word word.True) there (λ line. refl) e

pub begins-false : (around : AroundExpr) (there : Stand) → next there ≡ Some (token.Word word.False) → left (primary around) there ≡ left (behind (expr.Truth false) around) (advanced there)
begins-false around there e = quiet (primary around) (behind (expr.Truth false) around) (token.Word word.False) there (λ line. refl) e

pub begins-args : (around : AroundExpr) (there : Stand) → next there ≡ Some (token.Word word.Args) → left (primary around) there ≡ left (fixed mark.Open (fixed mark.Close (behind expr.Args around))) (advanced there)
begins-args around there e = quiet (primary around) (fixed mark.Open (fixed mark.Close (behind expr.Args around))) (token.Word word.Args) there (λ line. refl) e

pub begins-view : (around : AroundExpr) (there : Stand) → next there ≡ Some (token.Word word.View) → left (primary around) there ≡ left (fixed mark.Open (view_name around)) (advanced there)
begins-view around there e = quiet (primary around) (fixed mark.Open (view_name around)) (token.Word word.View) there (λ line. refl) e

pub begins-len : (around : AroundExpr) (there : Stand) → next there ≡ Some (token.Word word.Len) → left (primary around) there ≡ left (fixed mark.Open (expression (only_operand len around))) (advanced there)
begins-len around there e = quiet (primary around) (fixed mark.Open (expression (only_operand len around))) (token.Word word.Len) there (λ line. refl) e

pub begins-temp : (around : AroundExpr) (there : Stand) → next there ≡ Some (token.Word word.Temp) → left (primary around) there ≡ left (fixed mark.Open (expression (only_operand temp around))) (advanced there)
begins-temp around there e = quiet (primary around) (fixed mark.Open (expression (only_operand temp around))) (token.Word word.Temp) there (λ line. refl) e

pub begins-byte : (around : AroundExpr) (there : Stand) → next there ≡ Some (token.Word word.Byte) → left (primary around) there ≡ left (fixed mark.Open (expression (first_of_two byte around))) (advanced there)
begins-byte around there e = quiet (primary around) (fixed mark.Open (expression (first_of_two byte around))) (token.Word word.Byte) there (λ line. refl) e

pub begins-u64 : (around : AroundExpr) (there : Stand) → next there ≡ Some (token.Word word.U64) → left (primary around) there ≡ left (fixed mark.Open (expression (first_of_two u64 around))) (advanced there)
begins-u64 around there e = quiet (primary around) (fixed mark.Open (expression (first_of_two u64 around))) (token.Word word.U64) there (λ line. refl) e

pub begins-sub : (around : AroundExpr) (there : Stand) → next there ≡ Some (token.Word word.Sub) → left (primary around) there ≡ left (fixed mark.Open (expression (first_of_three sub around))) (advanced there)
begins-sub around there e = quiet (primary around) (fixed mark.Open (expression (first_of_three sub around))) (token.Word word.Sub) there (λ line. refl) e

pub begins-alloc : (around : AroundExpr) (there : Stand) → next there ≡ Some (token.Word word.Alloc) → left (primary around) there ≡ left (fixed mark.Open (expression (first_of_three alloc around))) (advanced there)
begins-alloc around there e = quiet (primary around) (fixed mark.Open (expression (first_of_three alloc around))) (token.Word word.Alloc) there (λ line. refl) e

-- what begins no operand
abbrev pub begins_operand : Token → Bool
begins_operand (token.Number number) = true
begins_operand (token.Str items) = true
begins_operand (token.Name name) = true
begins_operand (token.Mark mark.Open) = true
begins_operand (token.Word word.True) = true
begins_operand (token.Word word.False) = true
begins_operand (token.Word word.Args) = true
begins_operand (token.Word word.View) = true
begins_operand (token.Word word.Len) = true
begins_operand (token.Word word.Temp) = true
begins_operand (token.Word word.Byte) = true
begins_operand (token.Word word.U64) = true
begins_operand (token.Word word.Sub) = true
begins_operand (token.Word word.Alloc) = true
begins_operand other = false

no-operand-moves : (around : AroundExpr) (before : ℕ) (this : Token) → begins_operand this ≡ false → on_token (primary around) before this ≡ None
no-operand-moves around before (token.Number number) e = cc
no-operand-moves around before (token.Str items) e = cc
no-operand-moves around before (token.Name name) e = cc
no-operand-moves around before (token.Mark mark.Open) e = cc
no-operand-moves around before (token.Word word.True) e = cc
no-operand-moves around before (token.Word word.False) e = cc
no-operand-moves around before (token.Word word.Args) e = cc
no-operand-moves around before (token.Word word.View) e = cc
no-operand-moves around before (token.Word word.Len) e = cc
no-operand-moves around before (token.Word word.Temp) e = cc
no-operand-moves around before (token.Word word.Byte) e = cc
no-operand-moves around before (token.Word word.U64) e = cc
no-operand-moves around before (token.Word word.Sub) e = cc
no-operand-moves around before (token.Word word.Alloc) e = cc
no-operand-moves around before other e = refl

-- whether an operand begins with the next token
abbrev pub may_begin : Option Token → Bool
may_begin (Some this) = begins_operand this
may_begin None = false

pub begins-none : (around : AroundExpr) (there : Stand) → may_begin (next there) ≡ false → left (primary around) there ≡ refusal there
begins-none around there e =
    refuses (primary around) there refl refl (λ this is. no-operand-moves around there.counted.operators this (sym (ap may_begin is) ∙ e))

pub in-parentheses : (found : Expr) (around : AroundExpr) (there : Stand) → left (behind found (in_parentheses around)) there ≡ left (fixed mark.Close (behind found around)) there
in-parentheses found around there =
    alike (behind found (in_parentheses around)) (fixed mark.Close (behind found around)) there refl (λ placed. refl)

pub only-operand : (of : Single) (found : Expr) (around : AroundExpr) (there : Stand) → left (behind found (only_operand of around)) there ≡ left (fixed mark.Close (behind (single_expr of found) around)) there
only-operand of found around there =
    alike (behind found (only_operand of around)) (fixed mark.Close (behind (single_expr of found) around)) there refl (λ placed. refl)

pub first-of-two : (of : Double) (found : Expr) (around : AroundExpr) (there : Stand) → left (behind found (first_of_two of around)) there ≡ left (fixed mark.Comma (expression (second_of_two of found around))) there
first-of-two of found around there =
    alike (behind found (first_of_two of around)) (fixed mark.Comma (expression (second_of_two of found around))) there refl (λ placed. refl)

pub second-of-two : (of : Double) (first : Expr) (found : Expr) (around : AroundExpr) (there : Stand) → left (behind found (second_of_two of first around)) there ≡ left (fixed mark.Close (behind (double_expr of first found) around)) there
second-of-two of first found around there =
    alike (behind found (second_of_two of first around)) (fixed mark.Close (behind (double_expr of first found) around)) there refl (λ placed. refl)

pub first-of-three : (of : Triple) (found : Expr) (around : AroundExpr) (there : Stand) → left (behind found (first_of_three of around)) there ≡ left (fixed mark.Comma (expression (second_of_three of found around))) there
first-of-three of found around there =
    alike (behind found (first_of_three of around)) (fixed mark.Comma (expression (second_of_three of found around))) there refl (λ placed. refl)

pub second-of-three : (of : Triple) (first : Expr) (found : Expr) (around : AroundExpr) (there : Stand) → left (behind found (second_of_three of first around)) there ≡ left (fixed mark.Comma (expression (third_of_three of first found around))) there
second-of-three of first found around there =
    alike (behind found (second_of_three of first around)) (fixed mark.Comma (expression (third_of_three of first found around))) there refl (λ placed. refl)

pub third-of-three : (of : Triple) (first : Expr) (second : Expr) (found : Expr) (around : AroundExpr) (there : Stand) → left (behind found (third_of_three of first second around)) there ≡ left (fixed mark.Close (behind (triple_expr of first second found) around)) there
third-of-three of first second found around there =
    alike (behind found (third_of_three of first second around)) (fixed mark.Close (behind (triple_expr of first second found) around)) there refl (λ placed. refl)

-- no other word begins an operand
pub no-word : (this : Word) → (this ≡ word.True → ⊥) → (this ≡ word.False → ⊥) → (this ≡ word.Args → ⊥) → (this ≡ word.View → ⊥) → (this ≡ word.Len → ⊥) → (this ≡ word.Temp → ⊥) → (this ≡ word.Byte → ⊥) → (this ≡ word.U64 → ⊥) → (this ≡ word.Sub → ⊥) → (this ≡ word.Alloc → ⊥) → begins_operand (token.Word this) ≡ false
no-word word.True same n1 n2 n3 n4 n5 n6 n7 n8 n9 = absurd (same refl)
no-word word.False n0 same n2 n3 n4 n5 n6 n7 n8 n9 = absurd (same refl)
no-word word.Args n0 n1 same n3 n4 n5 n6 n7 n8 n9 = absurd (same refl)
no-word word.View n0 n1 n2 same n4 n5 n6 n7 n8 n9 = absurd (same refl)
no-word word.Len n0 n1 n2 n3 same n5 n6 n7 n8 n9 = absurd (same refl)
no-word word.Temp n0 n1 n2 n3 n4 same n6 n7 n8 n9 = absurd (same refl)
no-word word.Byte n0 n1 n2 n3 n4 n5 same n7 n8 n9 = absurd (same refl)
no-word word.U64 n0 n1 n2 n3 n4 n5 n6 same n8 n9 = absurd (same refl)
no-word word.Sub n0 n1 n2 n3 n4 n5 n6 n7 same n9 = absurd (same refl)
no-word word.Alloc n0 n1 n2 n3 n4 n5 n6 n7 n8 same = absurd (same refl)
no-word this n0 n1 n2 n3 n4 n5 n6 n7 n8 n9 = refl

-- the first token of an operand
pub ruleset operand_begins = (begins-number, begins-string, begins-variable, begins-parentheses, begins-true, begins-false, begins-args, begins-view, begins-len, begins-temp, begins-byte, begins-u64, begins-sub, begins-alloc, begins-none)

-- behind an operand
pub ruleset operand_ends = (in-parentheses, only-operand, first-of-two, second-of-two, first-of-three, second-of-three, third-of-three)
