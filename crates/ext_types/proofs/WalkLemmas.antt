-- One statement of a block, and what is left of the block.
use Rattle.std.proofs.Common.{◌≡◌, ℕ, ◌+◌, ◌<◌, ◌≤◌, List, [], ◌∷◌, ◌++◌, length, map, drop, take, get_or, Option, ap, sym, ◌∙◌, arith, add-one, drop-cons}
use Rattle.std.proofs.lemmas.Grind.{common_steps}
use Rattle.std.proofs.lemmas.List.{length-take, take-append-le}
use Rattle.ext_mean.specs.declared.check_codes.TypeCode.{TypeCode}
use Rattle.ext_mean.specs.declared.tree.Param.{Param}
use Rattle.ext_mean.specs.declared.statement.Statement.{Statement}
use Rattle.ext_mean.specs.declared.statement.Block.{Block}
use Rattle.ext_mean.specs.TypesOfItems.{Setting}
use Rattle.ext_mean.specs.Typing.{block_codes, checked, in_order}
use Rattle.ext_mean.specs.declared.progress.Progress.{Progress}
use Rattle.ext_mean.specs.Progress.{after}
use Rattle.ext_mean.proofs.ProgressLemmas.{after-append, after-step}
use Rattle.ext_types.proofs.TypingEquations.{block_codes-items}

-- the first of the items that are left
pub drop-item : {A : Type 0} (items : List A) (at : ℕ) (item : A) → at < length items → item ≡ get_or items at item → drop at items ≡ item ∷ drop (at + 1) items
drop-item items at item below is =
    let d : drop at items ≡ get_or items at item ∷ drop (at + 1) items = rw (add-one, drop-cons items at item) in
    d ∙ ap (λ first. first ∷ drop (at + 1) items) (sym is)

pub one-statement : (setting : Setting) (items : List Statement) (at : ℕ) (item : Statement) (was is : Progress TypeCode) (scope more : List Param)
    → at < length items → item ≡ get_or items at item
    → is ≡ after was ((checked setting item).codes scope)
    → more ≡ scope ++ (checked setting item).declares
    → after is (in_order (map (checked setting) (drop (at + 1) items)) more) ≡ after was (in_order (map (checked setting) (drop at items)) scope)
one-statement setting items at item was is scope more below item-is goes declares =
    let d = drop-item items at item below item-is in
    rw (d, goes, declares) (sym (after-append was ((checked setting item).codes scope) (in_order (map (checked setting) (drop (at + 1) items)) (scope ++ (checked setting item).declares))))

nothing-more : (progress : Progress TypeCode) → progress ≡ after progress []
nothing-more progress = let e : progress.item ≡ progress.item + 0 = omega arith in ap (λ (n : ℕ). record progress { item = n }) e

-- nothing is left
pub no-statement : (setting : Setting) (block : Block) (items : List Statement) (at : ℕ) (was is : Progress TypeCode) (scope more : List Param)
    → items ≡ block.items → length items ≤ at
    → after is (in_order (map (checked setting) (drop at items)) more) ≡ after was (in_order (map (checked setting) items) scope)
    → is ≡ after was (block_codes setting block scope)
no-statement setting block items at was is scope more items-are none-left goes =
    let e : drop at items ≡ [] = grind (arith, common_steps) in
    let f : is ≡ after is (in_order (map (checked setting) (drop at items)) more) = rw e (nothing-more is) in
    f ∙ goes ∙ ap (after was) (ap (λ (z : List Statement). in_order (map (checked setting) z) scope) items-are ∙ sym (block_codes-items setting block scope))

-- the variables of outer blocks stay in front
pub outer-stays : (outer scope more : List Param) → take (length outer) scope ≡ outer → take (length outer) (scope ++ more) ≡ outer
outer-stays outer scope more stays =
    let n : length outer ≤ length scope = omega (arith, length-take (length outer) scope, ap length stays) in
    take-append-le (length outer) scope more n ∙ stays

-- a statement's own item, and then those of its two blocks
pub two-blocks : (was note mid : Progress TypeCode) (code own : Option TypeCode) (first second after_it all : List (Option TypeCode))
    → note ≡ after was (code ∷ []) → mid ≡ after note first → after_it ≡ second → code ≡ own → all ≡ own ∷ (first ++ second)
    → after mid after_it ≡ after was all
two-blocks was note mid code own first second after_it all noted behind same is whole =
    cc (after-step was code (first ++ second), after-append note first second)

-- the same with one block
pub one-block : (was note : Progress TypeCode) (code own : Option TypeCode) (first after_it all : List (Option TypeCode))
    → note ≡ after was (code ∷ []) → after_it ≡ first → code ≡ own → all ≡ own ∷ first
    → after note after_it ≡ after was all
one-block was note code own first after_it all noted same is whole = cc (after-step was code first)
