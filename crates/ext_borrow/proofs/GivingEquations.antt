-- What the statements that have blocks give, and what blocks give.
use Rattle.std.proofs.Common.{◌≡◌, ℕ, ◌+◌, List, ◌++◌, map, ap, sym, ◌∙◌, append_assoc}
use Rattle.ext_mean.specs.declared.borrowing.Gift.{Gift}
use Rattle.ext_mean.specs.declared.borrowing.Variable.{Variable}
use Rattle.ext_mean.specs.declared.expr.Expr.{Expr}
use Rattle.ext_mean.specs.declared.statement.Statement.{Statement}
use Rattle.ext_mean.specs.declared.statement.Statement.TheVariants.{If, While, Get, Multi, rolls-If, rolls-While, rolls-Get, rolls-Multi}
use Rattle.ext_mean.specs.declared.statement.Statement.TheViews.{roll-Statement}
use Rattle.ext_mean.specs.declared.statement.Statement.TheOpen.{Statement-F}
use Rattle.ext_mean.specs.declared.statement.Statement.TheFolds.{fold-roll-Statement, map-Statement, fold_out-Block}
use Rattle.ext_mean.specs.declared.statement.Block.{Block}
use Rattle.ext_mean.specs.Borrowing.{Giving, BlockGiving, block_giving, block_giving_step, count_all, gifts_in_order, giving, giving_step, numbered}
use Rattle.ext_mean.specs.Typing.{arm_name}

giving-roll : (form : Statement-F Statement Block) (statement : Statement) → roll-Statement form ≡ statement → giving statement ≡ giving_step (map-Statement Statement Block Giving BlockGiving giving block_giving form)
unfolding giving block_giving
giving-roll form statement rolls = ap giving (sym rolls) ∙ fold-roll-Statement Giving BlockGiving giving_step block_giving_step form

block-is : (block : Block) → block_giving block ≡ record { gifts = gifts_in_order (map giving block.items); count = count_all (map giving block.items) }
unfolding giving block_giving
block-is block = fold_out-Block Giving BlockGiving giving_step block_giving_step block

pub block-gifts : (block : Block) (scope : List Variable) (number : ℕ) → (block_giving block).gifts scope number ≡ gifts_in_order (map giving block.items) scope number
block-gifts block scope number = ap (λ (given : BlockGiving). given.gifts scope number) (block-is block)

pub block-count : (block : Block) → (block_giving block).count ≡ count_all (map giving block.items)
block-count block = ap (λ (given : BlockGiving). given.count) (block-is block)

pub gifts-If : (scope : List Variable) (number : ℕ) (test : Expr) (true_block false_block : Block) → (giving (If test true_block false_block)).gifts scope number ≡ (block_giving true_block).gifts scope number ++ (block_giving false_block).gifts scope (number + (block_giving true_block).count)
gifts-If scope number test true_block false_block = ap (λ (given : Giving). given.gifts scope number) (giving-roll (Statement-F.If test true_block false_block) _ (rolls-If test true_block false_block))

pub count-If : (test : Expr) (true_block false_block : Block) → (giving (If test true_block false_block)).count ≡ (block_giving true_block).count + (block_giving false_block).count
count-If test true_block false_block = ap (λ (given : Giving). given.count) (giving-roll (Statement-F.If test true_block false_block) _ (rolls-If test true_block false_block))

pub gifts-While : (scope : List Variable) (number : ℕ) (test : Expr) (body : Block) → (giving (While test body)).gifts scope number ≡ (block_giving body).gifts scope number
gifts-While scope number test body = ap (λ (given : Giving). given.gifts scope number) (giving-roll (Statement-F.While test body) _ (rolls-While test body))

pub count-While : (test : Expr) (body : Block) → (giving (While test body)).count ≡ (block_giving body).count
count-While test body = ap (λ (given : Giving). given.count) (giving-roll (Statement-F.While test body) _ (rolls-While test body))

pub gifts-Get : (scope : List Variable) (number : ℕ) (table key : Expr) (some : List ℕ) (found_block none_block : Block) → (giving (Get table key some found_block none_block)).gifts scope number ≡ (block_giving found_block).gifts (scope ++ numbered number (arm_name some)) (number + 1) ++ (block_giving none_block).gifts scope (number + 1 + (block_giving found_block).count)
gifts-Get scope number table key some found_block none_block = ap (λ (given : Giving). given.gifts scope number) (giving-roll (Statement-F.Get table key some found_block none_block) _ (rolls-Get table key some found_block none_block))

pub count-Get : (table key : Expr) (some : List ℕ) (found_block none_block : Block) → (giving (Get table key some found_block none_block)).count ≡ 1 + (block_giving found_block).count + (block_giving none_block).count
count-Get table key some found_block none_block = ap (λ (given : Giving). given.count) (giving-roll (Statement-F.Get table key some found_block none_block) _ (rolls-Get table key some found_block none_block))

pub gifts-Multi : (scope : List Variable) (number : ℕ) (table keys width : Expr) (some : List ℕ) (found_block none_block : Block) → (giving (Multi table keys width some found_block none_block)).gifts scope number ≡ (block_giving found_block).gifts (scope ++ numbered number (arm_name some)) (number + 1) ++ (block_giving none_block).gifts scope (number + 1 + (block_giving found_block).count)
gifts-Multi scope number table keys width some found_block none_block = ap (λ (given : Giving). given.gifts scope number) (giving-roll (Statement-F.Multi table keys width some found_block none_block) _ (rolls-Multi table keys width some found_block none_block))

pub count-Multi : (table keys width : Expr) (some : List ℕ) (found_block none_block : Block) → (giving (Multi table keys width some found_block none_block)).count ≡ 1 + (block_giving found_block).count + (block_giving none_block).count
count-Multi table keys width some found_block none_block = ap (λ (given : Giving). given.count) (giving-roll (Statement-F.Multi table keys width some found_block none_block) _ (rolls-Multi table keys width some found_block none_block))

-- gifts behind gifts
pub behind-both : (old mid first second whole : List Gift) → mid ≡ old ++ first → whole ≡ first ++ second → mid ++ second ≡ old ++ whole
behind-both old mid first second whole mid-is whole-is = rw (mid-is, whole-is) (append_assoc old first second)
