-- The items of the statements that have blocks, and of blocks.
use Rattle.std.proofs.Common.{◌≡◌, ℕ, List, ◌∷◌, ◌++◌, map, Option, ap, sym, ◌∙◌}
use Rattle.ext_mean.specs.declared.check_codes.TypeCode.{TypeCode}
use Rattle.ext_mean.specs.declared.expr.Expr.{Expr}
use Rattle.ext_mean.specs.declared.tree.Param.{Param}
use Rattle.ext_mean.specs.declared.statement.Statement.{Statement}
use Rattle.ext_mean.specs.declared.statement.Statement.TheVariants.{If, While, Get, Multi, rolls-If, rolls-While, rolls-Get, rolls-Multi, outs-If, outs-While, outs-Get, outs-Multi}
use Rattle.ext_mean.specs.declared.statement.Statement.TheViews.{roll-Statement, out-Statement}
use Rattle.ext_mean.specs.declared.statement.Statement.TheOpen.{Statement-F}
use Rattle.ext_mean.specs.declared.statement.Statement.TheFolds.{fold-roll-Statement, map-Statement, fold_out-Block}
use Rattle.ext_mean.specs.declared.statement.Block.{Block}
use Rattle.ext_mean.specs.TypesOfItems.{Setting, statement_code}
use Rattle.ext_mean.specs.Typing.{Checked, Codes, arm_name, block_codes, checked, in_order, statement_step, block_step}

checked-roll : (setting : Setting) (form : Statement-F Statement Block) → checked setting (roll-Statement form) ≡ statement_step setting (map-Statement Statement Block Checked Codes (checked setting) (block_codes setting) form)
unfolding checked block_codes
checked-roll setting form = fold-roll-Statement Checked Codes (statement_step setting) block_step form

pub block_codes-items : (setting : Setting) (block : Block) (scope : List Param) → block_codes setting block scope ≡ in_order (map (checked setting) block.items) scope
unfolding checked block_codes
block_codes-items setting block scope = ap (λ (codes : Codes). codes scope) (fold_out-Block Checked Codes (statement_step setting) block_step block)

-- the codes of a statement, at one of its forms
abbrev codes_of : Setting → List Param → Statement → List (Option TypeCode)
codes_of setting scope statement = (checked setting statement).codes scope

codes-roll : (setting : Setting) (scope : List Param) (statement : Statement) (form : Statement-F Statement Block) → roll-Statement form ≡ statement → codes_of setting scope statement ≡ (statement_step setting (map-Statement Statement Block Checked Codes (checked setting) (block_codes setting) form)).codes scope
codes-roll setting scope statement form rolls = ap (codes_of setting scope) (sym rolls) ∙ ap (λ (z : Checked). z.codes scope) (checked-roll setting form)

pub codes-If : (setting : Setting) (scope : List Param) (test : Expr) (true_block false_block : Block) → (checked setting (If test true_block false_block)).codes scope ≡ statement_code setting scope (out-Statement (If test true_block false_block)) ∷ (block_codes setting true_block scope ++ block_codes setting false_block scope)
codes-If setting scope test true_block false_block =
    codes-roll setting scope _ (Statement-F.If test true_block false_block) (rolls-If test true_block false_block)
    ∙ ap (λ form. statement_code setting scope form ∷ (block_codes setting true_block scope ++ block_codes setting false_block scope)) (sym (outs-If test true_block false_block))

pub codes-While : (setting : Setting) (scope : List Param) (test : Expr) (body : Block) → (checked setting (While test body)).codes scope ≡ statement_code setting scope (out-Statement (While test body)) ∷ block_codes setting body scope
codes-While setting scope test body =
    codes-roll setting scope _ (Statement-F.While test body) (rolls-While test body)
    ∙ ap (λ form. statement_code setting scope form ∷ block_codes setting body scope) (sym (outs-While test body))

pub codes-Get : (setting : Setting) (scope : List Param) (table key : Expr) (some : List ℕ) (found_block none_block : Block) → (checked setting (Get table key some found_block none_block)).codes scope ≡ statement_code setting scope (out-Statement (Get table key some found_block none_block)) ∷ (block_codes setting found_block (scope ++ arm_name some) ++ block_codes setting none_block scope)
codes-Get setting scope table key some found_block none_block =
    codes-roll setting scope _ (Statement-F.Get table key some found_block none_block) (rolls-Get table key some found_block none_block)
    ∙ ap (λ form. statement_code setting scope form ∷ (block_codes setting found_block (scope ++ arm_name some) ++ block_codes setting none_block scope)) (sym (outs-Get table key some found_block none_block))

pub codes-Multi : (setting : Setting) (scope : List Param) (table keys width : Expr) (some : List ℕ) (found_block none_block : Block) → (checked setting (Multi table keys width some found_block none_block)).codes scope ≡ statement_code setting scope (out-Statement (Multi table keys width some found_block none_block)) ∷ (block_codes setting found_block (scope ++ arm_name some) ++ block_codes setting none_block scope)
codes-Multi setting scope table keys width some found_block none_block =
    codes-roll setting scope _ (Statement-F.Multi table keys width some found_block none_block) (rolls-Multi table keys width some found_block none_block)
    ∙ ap (λ form. statement_code setting scope form ∷ (block_codes setting found_block (scope ++ arm_name some) ++ block_codes setting none_block scope)) (sym (outs-Multi table keys width some found_block none_block))
