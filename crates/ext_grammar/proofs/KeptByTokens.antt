-- Each token keeps the counts.
use Rattle.std.proofs.Common.{◌≡◌, ℕ, List, [], ◌∷◌, ◌++◌, None, refl, sym, subst}
use Rattle.ext_mean.specs.declared.expr.Expr.{Expr}
use Rattle.ext_mean.specs.declared.expr.Expr.TheVariants as expr
use Rattle.ext_mean.specs.declared.statement.Block.{Block}
use Rattle.ext_mean.specs.declared.statement.Kind.{Kind}
use Rattle.ext_mean.specs.declared.statement.Statement.{Statement}
use Rattle.ext_mean.specs.declared.token.Mark.TheVariants as mark
use Rattle.ext_mean.specs.declared.token.Token.{Token}
use Rattle.ext_mean.specs.declared.token.Token.TheVariants as token
use Rattle.ext_mean.specs.declared.token.Word.TheVariants as word
use Rattle.ext_mean.specs.declared.tree.Function.{Function}
use Rattle.ext_mean.specs.declared.tree.Param.{Param}
use Rattle.ext_mean.specs.Bounds.{IsNaming, IsAnyName}
use Rattle.ext_mean.specs.Derived.{block_of}
use Rattle.ext_mean.specs.Wording.{Standing, naming}
use Rattle.ext_grammar.specs.Coming.{Level, AroundBlock, AroundStatement, in_block, AroundExpr, chain, right, negated, in_parentheses, only_operand, first_of_two, second_of_two, first_of_three, second_of_three, third_of_three, call_argument, let_value, assigned, if_test, while_test, get_table, get_key, multiget_table, multiget_keys, multiget_width, write_place, write_value, del_table, del_key, answered, returned, Looking, Coming, fixed, unary, primary, behind, view_name, let_name, let_kind, value, behind_name, first_argument, written_name, put_name, some_word, some_name, none_word, arms_end, braces, statements, last_brace, maybe_else, functions, function_name, first_parameter, parameter, parameter_kind, behind_parameter, result_kind, level_operand, Move, operator_of, kind_of, name_of, is_mark, on_primary, on_unary, on_behind, on_statement, on_statements, on_done, on_else, on_value, on_behind_name, on_first_argument, on_some_word, on_none_word, on_functions, on_first_parameter, on_behind_parameter, on_token, done, closed, opens}
use Rattle.ext_grammar.specs.Coming as coming
use Rattle.ext_grammar.specs.Reading.{open_operators}
use Rattle.ext_grammar.proofs.Walks.{Takes}
use Rattle.ext_grammar.proofs.Kept.{Zeroed, Declares, Kept, kept-if, kept-mark, kept-some, kept-name, kept-chain, kept-longer-chain, done-zeroed, closed-zeroed}

primary-keeps : (state : Coming) (around : AroundExpr) (before : ℕ) (next : Token) →
    Kept state before next (on_primary around before next)
primary-keeps state around before (token.Number number) = (refl, tt, λ it. absurd it)
primary-keeps state around before (token.Str items) = (refl, tt, λ it. absurd it)
primary-keeps state around before (token.Name name) = (refl, tt, λ it. absurd it)
primary-keeps state around before (token.Mark mark.Open) = (refl, tt, λ it. absurd it)
primary-keeps state around before (token.Word word.True) = (refl, tt, λ it. absurd it)
primary-keeps state around before (token.Word word.False) = (refl, tt, λ it. absurd it)
primary-keeps state around before (token.Word word.Args) = (refl, tt, λ it. absurd it)
primary-keeps state around before (token.Word word.View) = (refl, tt, λ it. absurd it)
primary-keeps state around before (token.Word word.Len) = (refl, tt, λ it. absurd it)
primary-keeps state around before (token.Word word.Temp) = (refl, tt, λ it. absurd it)
primary-keeps state around before (token.Word word.Byte) = (refl, tt, λ it. absurd it)
primary-keeps state around before (token.Word word.U64) = (refl, tt, λ it. absurd it)
primary-keeps state around before (token.Word word.Sub) = (refl, tt, λ it. absurd it)
primary-keeps state around before (token.Word word.Alloc) = (refl, tt, λ it. absurd it)
primary-keeps state around before _ = tt

unary-keeps : (state : Coming) (around : AroundExpr) (before : ℕ) (next : Token) →
    Kept state before next (on_unary around before next)
unary-keeps state around before token.Not = (refl, tt, λ it. absurd it)
unary-keeps state around before next = primary-keeps state around before next

opening-keeps : (state : Coming) (around : AroundBlock) (before : ℕ) (next : Token) →
    Kept state before next (opens around before next)
opening-keeps state around before next =
    kept-mark state before next mark.OpenBlock _ (refl, refl, λ it. absurd it)

expr-keeps : (state : Coming) (around : AroundExpr) (found : Expr) (before : ℕ) (next : Token) →
    Kept state before next (on_behind found around before next)
expr-keeps state (chain level around) found before next =
    kept-chain state before next level found around (operator_of next) _
    (expr-keeps state around found before next)
expr-keeps state (right level by left around) found before next =
    kept-longer-chain state before next level (expr.Bin by left found) around (operator_of next) _
    (expr-keeps state around (expr.Bin by left found) before next)
expr-keeps state (negated around) found before next =
    expr-keeps state around (expr.Not found) before next
expr-keeps state (in_parentheses around) found before next =
    kept-mark state before next mark.Close _ (refl, tt, λ it. absurd it)
expr-keeps state (only_operand of around) found before next =
    kept-mark state before next mark.Close _ (refl, tt, λ it. absurd it)
expr-keeps state (first_of_two of around) found before next =
    kept-mark state before next mark.Comma _ (refl, tt, λ it. absurd it)
expr-keeps state (second_of_two of first around) found before next =
    kept-mark state before next mark.Close _ (refl, tt, λ it. absurd it)
expr-keeps state (first_of_three of around) found before next =
    kept-mark state before next mark.Comma _ (refl, tt, λ it. absurd it)
expr-keeps state (second_of_three of first around) found before next =
    kept-mark state before next mark.Comma _ (refl, tt, λ it. absurd it)
expr-keeps state (third_of_three of first second around) found before next =
    kept-mark state before next mark.Close _ (refl, tt, λ it. absurd it)
expr-keeps state (call_argument name of called values around) found before next =
    kept-if state before next (is_mark mark.Comma next) _ _ (refl, tt, λ it. absurd it)
    (kept-mark state before next mark.Close _ (refl, tt, λ it. absurd it))
expr-keeps state (let_value name of around) found before next =
    kept-mark state before next mark.Semicolon _ (refl, done-zeroed _ around, λ it. absurd it)
expr-keeps state (assigned name around) found before next =
    kept-mark state before next mark.Semicolon _ (refl, done-zeroed _ around, λ it. absurd it)
expr-keeps state (if_test around) found before next = opening-keeps state _ before next
expr-keeps state (while_test around) found before next = opening-keeps state _ before next
expr-keeps state (get_table around) found before next =
    kept-mark state before next mark.Comma _ (refl, tt, λ it. absurd it)
expr-keeps state (get_key table around) found before next =
    kept-mark state before next mark.Close _ (refl, tt, λ it. absurd it)
expr-keeps state (multiget_table around) found before next =
    kept-mark state before next mark.Comma _ (refl, tt, λ it. absurd it)
expr-keeps state (multiget_keys table around) found before next =
    kept-mark state before next mark.Comma _ (refl, tt, λ it. absurd it)
expr-keeps state (multiget_width table keys around) found before next =
    kept-mark state before next mark.Close _ (refl, tt, λ it. absurd it)
expr-keeps state (write_place writing name around) found before next =
    kept-mark state before next mark.Comma _ (refl, tt, λ it. absurd it)
expr-keeps state (write_value writing name place around) found before next =
    kept-mark state before next mark.Close _ (refl, tt, λ it. absurd it)
expr-keeps state (del_table around) found before next =
    kept-mark state before next mark.Comma _ (refl, tt, λ it. absurd it)
expr-keeps state (del_key table around) found before next =
    kept-mark state before next mark.Close _ (refl, tt, λ it. absurd it)
expr-keeps state (answered around) found before next =
    kept-mark state before next mark.Close _ (refl, tt, λ it. absurd it)
expr-keeps state (returned known around) found before next =
    kept-mark state before next mark.Semicolon _ (refl, refl, λ it. absurd it)

statement-keeps : (state : Coming) (around : AroundStatement) (before : ℕ) → before ≡ 0 →
    (next : Token) → Kept state before next (on_statement around next)
statement-keeps state around before zeroed (token.Name name) = (sym zeroed, tt, λ it. absurd it)
statement-keeps state around before zeroed (token.Word word.Let) = (sym zeroed, tt, λ it. absurd it)
statement-keeps state around before zeroed (token.Word word.If) = (sym zeroed, tt, λ it. absurd it)
statement-keeps state around before zeroed (token.Word word.While) =
    (sym zeroed, tt, λ it. absurd it)
statement-keeps state around before zeroed (token.Word word.Get) = (sym zeroed, tt, λ it. absurd it)
statement-keeps state around before zeroed (token.Word word.Multiget) =
    (sym zeroed, tt, λ it. absurd it)
statement-keeps state around before zeroed (token.Word word.Set) = (sym zeroed, tt, λ it. absurd it)
statement-keeps state around before zeroed (token.Word word.Set8) =
    (sym zeroed, tt, λ it. absurd it)
statement-keeps state around before zeroed (token.Word word.Copy) =
    (sym zeroed, tt, λ it. absurd it)
statement-keeps state around before zeroed (token.Word word.Put) = (sym zeroed, tt, λ it. absurd it)
statement-keeps state around before zeroed (token.Word word.Del) = (sym zeroed, tt, λ it. absurd it)
statement-keeps state around before zeroed (token.Word word.Resp) =
    (sym zeroed, tt, λ it. absurd it)
statement-keeps state around before zeroed _ = tt

statements-keep : (state : Coming) (known : List Statement) (around : AroundBlock) (before : ℕ) →
    before ≡ 0 → (next : Token) → Kept state before next (on_statements known around next)
statements-keep state known around before zeroed (token.Mark mark.CloseBlock) =
    (sym zeroed, closed-zeroed _ around, λ it. absurd it)
statements-keep state known around before zeroed (token.Word word.Return) =
    (sym zeroed, tt, λ it. absurd it)
statements-keep state known around before zeroed next =
    statement-keeps state (in_block known around) before zeroed next

done-keeps : (state : Coming) (statement : Statement) (around : AroundStatement) (before : ℕ) →
    before ≡ 0 → (next : Token) → Kept state before next (on_done statement around next)
done-keeps state statement (in_block known around) before zeroed next =
    statements-keep state (known ++ statement ∷ []) around before zeroed next

else-keeps : (state : Coming) (test : Expr) (block : Block) (operators : ℕ)
    (around : AroundStatement) (before : ℕ) → before ≡ 0 → (next : Token) →
    Kept state before next (on_else test block operators around next)
else-keeps state test block operators around before zeroed (token.Word word.Else) =
    (sym zeroed, tt, λ it. absurd it)
else-keeps state test block operators around before zeroed next =
    done-keeps state _ around before zeroed next

value-keeps : (state : Coming) (name : List ℕ) (of : Kind) (around : AroundStatement) (before : ℕ)
    (next : Token) → Kept state before next (on_value name of around before next)
value-keeps state name of around before (token.Name called) = (refl, tt, λ it. absurd it)
value-keeps state name of around before next =
    unary-keeps state (level_operand (let_value name of around)) before next

called-keeps : (state : Coming) (name : List ℕ) (of : Kind) (called : List ℕ)
    (around : AroundStatement) (before : ℕ) (next : Token) →
    Kept state before next (on_behind_name name of called around before next)
called-keeps state name of called around before (token.Mark mark.Open) = (refl, tt, λ it. absurd it)
called-keeps state name of called around before next =
    expr-keeps state (level_operand (let_value name of around)) (expr.Var called) before next

arguments-keep : (state : Coming) (name : List ℕ) (of : Kind) (called : List ℕ)
    (around : AroundStatement) (before : ℕ) (next : Token) →
    Kept state before next (on_first_argument name of called around before next)
arguments-keep state name of called around before (token.Mark mark.Close) =
    (refl, tt, λ it. absurd it)
arguments-keep state name of called around before next =
    unary-keeps state (level_operand (call_argument name of called [] around)) before next

some-keeps : (state : Coming) (looking : Looking) (around : AroundStatement) (before : ℕ)
    (next : Token) → Kept state before next (on_some_word looking around before next)
some-keeps state looking around before (token.Word word.Some) = (refl, tt, λ it. absurd it)
some-keeps state looking around before _ = tt

none-keeps : (state : Coming) (looking : Looking) (name : List ℕ) (block : Block)
    (around : AroundStatement) (before : ℕ) (next : Token) →
    Kept state before next (on_none_word looking name block around before next)
none-keeps state looking name block around before (token.Word word.None) =
    (refl, tt, λ it. absurd it)
none-keeps state looking name block around before _ = tt

functions-keep : (state : Coming) (known : List Function) (before : ℕ) → before ≡ 0 →
    (next : Token) → Kept state before next (on_functions known next)
functions-keep state known before zeroed (token.Word word.Fn) = (sym zeroed, tt, λ it. absurd it)
functions-keep state known before zeroed _ = tt

first-parameter-keeps : (known : List Function) (name : List ℕ) (before : ℕ) (next : Token) →
    Kept (first_parameter known name) before next (on_first_parameter known name before next)
first-parameter-keeps known name before (token.Mark mark.Close) = (refl, tt, λ it. absurd it)
first-parameter-keeps known name before (token.Name param) = (refl, tt, λ it. (tt, tt))
first-parameter-keeps known name before _ = tt

behind-parameter-keeps : (state : Coming) (known : List Function) (name : List ℕ)
    (params : List Param) (before : ℕ) (next : Token) →
    Kept state before next (on_behind_parameter known name params before next)
behind-parameter-keeps state known name params before (token.Mark mark.Comma) =
    (refl, tt, λ it. absurd it)
behind-parameter-keeps state known name params before (token.Mark mark.Close) =
    (refl, tt, λ it. absurd it)
behind-parameter-keeps state known name params before _ = tt

-- the count that stands behind the last token
pub keeps : (state : Coming) (before : ℕ) → Zeroed state before → (next : Token) →
    Kept state (open_operators state before) next
    (on_token state (open_operators state before) next)
keeps (fixed of state) before zeroed next =
    kept-mark (fixed of state) before next of _ (refl, zeroed, λ it. absurd it)
keeps (unary around) before zeroed next = unary-keeps (unary around) around before next
keeps (primary around) before zeroed next = primary-keeps (primary around) around before next
keeps (behind found around) before zeroed next =
    expr-keeps (behind found around) around found before next
keeps (view_name around) before zeroed next =
    kept-some (view_name around) before next (name_of next) _ (λ name. (refl, tt, λ it. absurd it))
keeps (let_name around) before zeroed next =
    kept-name (let_name around) before next _ (λ any name. (refl, tt, λ it. (tt, any)))
keeps (let_kind name around) before zeroed next =
    kept-some (let_kind name around) before next (kind_of next) _
    (λ of. (refl, tt, λ it. absurd it))
keeps (value name of around) before zeroed next =
    value-keeps (value name of around) name of around before next
keeps (behind_name name of called around) before zeroed next =
    called-keeps (behind_name name of called around) name of called around before next
keeps (first_argument name of called around) before zeroed next =
    arguments-keep (first_argument name of called around) name of called around before next
keeps (written_name writing around) before zeroed next =
    kept-some (written_name writing around) before next (name_of next) _
    (λ name. (refl, tt, λ it. absurd it))
keeps (put_name around) before zeroed next =
    kept-some (put_name around) before next (name_of next) _ (λ name. (refl, tt, λ it. absurd it))
keeps (some_word looking around) before zeroed next =
    some-keeps (some_word looking around) looking around before next
keeps (some_name looking around) before zeroed next =
    kept-name (some_name looking around) before next _ (λ any name. (refl, tt, λ it. (tt, any)))
keeps (none_word operators looking name block around) before zeroed next =
    none-keeps (none_word operators looking name block around) looking name block around operators
    next
keeps (arms_end operators statement around) before zeroed next =
    kept-mark (arms_end operators statement around) operators next mark.CloseBlock _
    (refl, done-zeroed statement around, λ it. absurd it)
keeps (coming.semicolon statement around) before zeroed next =
    kept-mark (coming.semicolon statement around) before next mark.Semicolon _
    (refl, done-zeroed statement around, λ it. absurd it)
keeps (braces around) before zeroed next = opening-keeps (braces around) around before next
keeps (statements known around) before zeroed next =
    statements-keep (statements known around) known around before zeroed next
keeps (last_brace known around) before zeroed next =
    kept-mark (last_brace known around) before next mark.CloseBlock _
    (sym zeroed, closed-zeroed (block_of known) around, λ it. absurd it)
keeps (maybe_else test block operators around) before zeroed next =
    else-keeps (maybe_else test block operators around) test block operators around before zeroed
    next
keeps (functions known) before zeroed next =
    functions-keep (functions known) known before zeroed next
keeps (function_name known) before zeroed next =
    kept-some (function_name known) before next (name_of next) _
    (λ name. (refl, tt, λ it. absurd it))
keeps (first_parameter known name) before zeroed next = first-parameter-keeps known name before next
keeps (parameter known name params) before zeroed next =
    kept-name (parameter known name params) before next _ (λ any param. (refl, tt, λ it. (tt, any)))
keeps (parameter_kind known name params param) before zeroed next =
    kept-some (parameter_kind known name params param) before next (kind_of next) _
    (λ of. (refl, tt, λ it. absurd it))
keeps (behind_parameter known name params) before zeroed next =
    behind-parameter-keeps (behind_parameter known name params) known name params before next
keeps (result_kind known name params) before zeroed next =
    kept-some (result_kind known name params) before next (kind_of next) _
    (λ of. (refl, tt, λ it. absurd it))

-- where a local may be named, any name may come
pub any-name : (state : Coming) → Declares state → (before : ℕ) (name : List ℕ) →
    on_token state before (token.Name name) ≡ None → ⊥
any-name (let_name around) declares before name none = cc
any-name (some_name looking around) declares before name none = cc
any-name (first_parameter known of) declares before name none = cc
any-name (parameter known of params) declares before name none = cc
any-name _ declares before name none = declares

naming-of : (before : ℕ) (standing : Standing) → naming before ≡ standing → IsNaming standing
naming-of before standing same = let P : Standing → Type 0 = λ it. IsNaming it in subst P same tt

-- and then it is the name of a local
named : (state : Coming) → Declares state → (before : ℕ) (name : List ℕ) (standing : Standing)
    (more : Coming → ℕ → Type 0) → Takes (on_token state before (token.Name name)) standing more →
    IsNaming standing
named (let_name around) declares before name standing more takes = naming-of before standing takes.0
named (some_name looking around) declares before name standing more takes =
    naming-of before standing takes.0
named (first_parameter known of) declares before name standing more takes =
    naming-of before standing takes.0
named (parameter known of params) declares before name standing more takes =
    naming-of before standing takes.0
named _ declares before name standing more takes = absurd declares

pub names-any : (state : Coming) → Declares state → (before : ℕ) (next : Token)
    (standing : Standing) (more : Coming → ℕ → Type 0) → IsAnyName next →
    Takes (on_token state before next) standing more → IsNaming standing
names-any state declares before (token.Name name) standing more any takes =
    named state declares before name standing more takes
names-any state declares before _ standing more any takes = absurd any
