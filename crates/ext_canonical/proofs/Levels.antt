-- Derivations of an expression at each level of the grammar, with the tokens that are shown there.
use Rattle.std.proofs.Common.{◌≡◌, ℕ, List, [], ◌∷◌, ◌++◌, refl, sym, ap, ◌∙◌, append_assoc, append-nil}
use Rattle.ext_mean.specs.declared.expr.BinOp.TheVariants as op
use Rattle.ext_mean.specs.declared.expr.Expr.{Expr}
use Rattle.ext_mean.specs.declared.expr.Expr.TheVariants as expr
use Rattle.ext_mean.specs.declared.token.Token.{Token}
use Rattle.ext_mean.specs.declared.token.Token.TheVariants as token
use Rattle.ext_mean.specs.Canonical.{Shown, at_least}
use Rattle.ext_mean.specs.Derived.{disjunction_tree, or_tree, conjunction_tree, and_tree, comparison_tree, sum_tree, add_tree, product_tree, multiply_tree, unary_tree, primary_tree, comparing_operator, adding_operator, multiplying_operator}
use Rattle.ext_mean.specs.Grammar.{Comparing, Adding, Multiplying, Disjunction, disjunction, MoreOr, end_or, or, Conjunction, conjunction, MoreAnd, end_and, and, Comparison, only, compared, Sum, sum, MoreSum, end_sum, add, Product, product, MoreProduct, end_product, multiply, Unary, plain, Primary, parentheses}
use Rattle.ext_mean.specs.Wording.{open_, close, disjunction_tokens, or_tokens, conjunction_tokens, and_tokens, comparison_tokens, sum_tokens, add_tokens, product_tokens, multiply_tokens, unary_tokens, primary_tokens}

-- a derivation of each level, by its tree and its tokens
abbrev pub IsDisjunction : Expr → List Token → Type 0
IsDisjunction tree tokens = (x : Disjunction) × (disjunction_tree x ≡ tree) × (disjunction_tokens x ≡ tokens)

abbrev pub IsConjunction : Expr → List Token → Type 0
IsConjunction tree tokens = (x : Conjunction) × (conjunction_tree x ≡ tree) × (conjunction_tokens x ≡ tokens)

abbrev pub IsComparison : Expr → List Token → Type 0
IsComparison tree tokens = (x : Comparison) × (comparison_tree x ≡ tree) × (comparison_tokens x ≡ tokens)

abbrev pub IsSum : Expr → List Token → Type 0
IsSum tree tokens = (x : Sum) × (sum_tree x ≡ tree) × (sum_tokens x ≡ tokens)

abbrev pub IsProduct : Expr → List Token → Type 0
IsProduct tree tokens = (x : Product) × (product_tree x ≡ tree) × (product_tokens x ≡ tokens)

abbrev pub IsUnary : Expr → List Token → Type 0
IsUnary tree tokens = (x : Unary) × (unary_tree x ≡ tree) × (unary_tokens x ≡ tokens)

abbrev pub IsPrimary : Expr → List Token → Type 0
IsPrimary tree tokens = (x : Primary) × (primary_tree x ≡ tree) × (primary_tokens x ≡ tokens)

-- what binds more tightly may stand where less is asked for
pub unary-of : (tree : Expr) (tokens : List Token) → IsPrimary tree tokens → IsUnary tree tokens
unary-of tree tokens (x, is, spelled) = (plain x, is, spelled)

pub product-of : (tree : Expr) (tokens : List Token) → IsUnary tree tokens → IsProduct tree tokens
product-of tree tokens (x, is, spelled) = (product x end_product, is, append-nil (unary_tokens x) ∙ spelled)

pub sum-of : (tree : Expr) (tokens : List Token) → IsProduct tree tokens → IsSum tree tokens
sum-of tree tokens (x, is, spelled) = (sum x end_sum, is, append-nil (product_tokens x) ∙ spelled)

pub comparison-of : (tree : Expr) (tokens : List Token) → IsSum tree tokens → IsComparison tree tokens
comparison-of tree tokens (x, is, spelled) = (only x, is, spelled)

pub conjunction-of : (tree : Expr) (tokens : List Token) → IsComparison tree tokens → IsConjunction tree tokens
conjunction-of tree tokens (x, is, spelled) = (conjunction x end_and, is, append-nil (comparison_tokens x) ∙ spelled)

pub disjunction-of : (tree : Expr) (tokens : List Token) → IsConjunction tree tokens → IsDisjunction tree tokens
disjunction-of tree tokens (x, is, spelled) = (disjunction x end_or, is, append-nil (conjunction_tokens x) ∙ spelled)

pub parenthesized : (tree : Expr) (tokens : List Token) → IsDisjunction tree tokens → IsPrimary tree (open_ ∷ (tokens ++ close ∷ []))
parenthesized tree tokens (x, is, spelled) = (parentheses x, is, ap (λ it. open_ ∷ (it ++ close ∷ [])) spelled)

-- a derivation at each level, with the tokens that are shown at a place that asks for it
pub record Derives (tree : Expr) (how : Shown) : Type 0 where
  pub disjunction : IsDisjunction tree (at_least 0 how)
  pub conjunction : IsConjunction tree (at_least 1 how)
  pub comparison : IsComparison tree (at_least 2 how)
  pub sum : IsSum tree (at_least 3 how)
  pub product : IsProduct tree (at_least 4 how)
  pub unary : IsUnary tree (at_least 5 how)
  pub primary : IsPrimary tree (at_least 6 how)

abbrev binds : ℕ → List Token → Shown
binds level tokens = record { binds = level; tokens = tokens }

abbrev around : List Token → List Token
around tokens = open_ ∷ (tokens ++ close ∷ [])

pub from-primary : (tree : Expr) (tokens : List Token) → IsPrimary tree tokens → Derives tree (binds 6 tokens)
from-primary tree tokens it =
    let five = unary-of tree tokens it in
    let four = product-of tree tokens five in
    let three = sum-of tree tokens four in
    let two = comparison-of tree tokens three in
    let one = conjunction-of tree tokens two in
    record { disjunction = disjunction-of tree tokens one; conjunction = one; comparison = two; sum = three; product = four; unary = five; primary = it }

pub from-unary : (tree : Expr) (tokens : List Token) → IsUnary tree tokens → Derives tree (binds 5 tokens)
from-unary tree tokens it =
    let four = product-of tree tokens it in
    let three = sum-of tree tokens four in
    let two = comparison-of tree tokens three in
    let one = conjunction-of tree tokens two in
    let none = disjunction-of tree tokens one in
    record { disjunction = none; conjunction = one; comparison = two; sum = three; product = four; unary = it; primary = parenthesized tree tokens none }

pub from-product : (tree : Expr) (tokens : List Token) → IsProduct tree tokens → Derives tree (binds 4 tokens)
from-product tree tokens it =
    let three = sum-of tree tokens it in
    let two = comparison-of tree tokens three in
    let one = conjunction-of tree tokens two in
    let none = disjunction-of tree tokens one in
    let six = parenthesized tree tokens none in
    record { disjunction = none; conjunction = one; comparison = two; sum = three; product = it; unary = unary-of tree (around tokens) six; primary = six }

pub from-sum : (tree : Expr) (tokens : List Token) → IsSum tree tokens → Derives tree (binds 3 tokens)
from-sum tree tokens it =
    let two = comparison-of tree tokens it in
    let one = conjunction-of tree tokens two in
    let none = disjunction-of tree tokens one in
    let six = parenthesized tree tokens none in
    let five = unary-of tree (around tokens) six in
    record { disjunction = none; conjunction = one; comparison = two; sum = it; product = product-of tree (around tokens) five; unary = five; primary = six }

pub from-comparison : (tree : Expr) (tokens : List Token) → IsComparison tree tokens → Derives tree (binds 2 tokens)
from-comparison tree tokens it =
    let one = conjunction-of tree tokens it in
    let none = disjunction-of tree tokens one in
    let six = parenthesized tree tokens none in
    let five = unary-of tree (around tokens) six in
    let four = product-of tree (around tokens) five in
    record { disjunction = none; conjunction = one; comparison = it; sum = sum-of tree (around tokens) four; product = four; unary = five; primary = six }

pub from-conjunction : (tree : Expr) (tokens : List Token) → IsConjunction tree tokens → Derives tree (binds 1 tokens)
from-conjunction tree tokens it =
    let none = disjunction-of tree tokens it in
    let six = parenthesized tree tokens none in
    let five = unary-of tree (around tokens) six in
    let four = product-of tree (around tokens) five in
    let three = sum-of tree (around tokens) four in
    record { disjunction = none; conjunction = it; comparison = comparison-of tree (around tokens) three; sum = three; product = four; unary = five; primary = six }

pub from-disjunction : (tree : Expr) (tokens : List Token) → IsDisjunction tree tokens → Derives tree (binds 0 tokens)
from-disjunction tree tokens it =
    let six = parenthesized tree tokens it in
    let five = unary-of tree (around tokens) six in
    let four = product-of tree (around tokens) five in
    let three = sum-of tree (around tokens) four in
    let two = comparison-of tree (around tokens) three in
    record { disjunction = it; conjunction = conjunction-of tree (around tokens) two; comparison = two; sum = three; product = four; unary = five; primary = six }

-- One more operand at the end of a chain.

abbrev or_last : MoreOr → Conjunction → MoreOr
or_last end_or last = or last end_or
or_last (or next more) last = or next (or_last more last)

or-tree : (more : MoreOr) (last : Conjunction) (before : Expr) → or_tree (or_last more last) before ≡ expr.Bin op.Or (or_tree more before) (conjunction_tree last)
or-tree end_or last before = refl
or-tree (or next more) last before = or-tree more last (expr.Bin op.Or before (conjunction_tree next))

or-tokens : (more : MoreOr) (last : Conjunction) → or_tokens (or_last more last) ≡ or_tokens more ++ token.Binary op.Or ∷ conjunction_tokens last
or-tokens end_or last = ap (λ it. token.Binary op.Or ∷ it) (append-nil (conjunction_tokens last))
or-tokens (or next more) last =
    ap (λ it. token.Binary op.Or ∷ it) (ap (λ it. conjunction_tokens next ++ it) (or-tokens more last)
    ∙ sym (append_assoc (conjunction_tokens next) (or_tokens more) (token.Binary op.Or ∷ conjunction_tokens last)))

pub or-joins : (l r : Expr) (left right : List Token) → IsDisjunction l left → IsConjunction r right
    → IsDisjunction (expr.Bin op.Or l r) (left ++ token.Binary op.Or ∷ right)
or-joins l r left right (disjunction first more, is, spelled) (last, is', spelled') = (
  disjunction first (or_last more last),
  or-tree more last (conjunction_tree first) ∙ ap (λ it. expr.Bin op.Or it (conjunction_tree last)) is ∙ ap (λ it. expr.Bin op.Or l it) is',
  ap (λ it. conjunction_tokens first ++ it) (or-tokens more last)
      ∙ sym (append_assoc (conjunction_tokens first) (or_tokens more) (token.Binary op.Or ∷ conjunction_tokens last))
      ∙ ap (λ it. it ++ token.Binary op.Or ∷ conjunction_tokens last) spelled ∙ ap (λ it. left ++ token.Binary op.Or ∷ it) spelled',
)

abbrev and_last : MoreAnd → Comparison → MoreAnd
and_last end_and last = and last end_and
and_last (and next more) last = and next (and_last more last)

and-tree : (more : MoreAnd) (last : Comparison) (before : Expr) → and_tree (and_last more last) before ≡ expr.Bin op.And (and_tree more before) (comparison_tree last)
and-tree end_and last before = refl
and-tree (and next more) last before = and-tree more last (expr.Bin op.And before (comparison_tree next))

and-tokens : (more : MoreAnd) (last : Comparison) → and_tokens (and_last more last) ≡ and_tokens more ++ token.Binary op.And ∷ comparison_tokens last
and-tokens end_and last = ap (λ it. token.Binary op.And ∷ it) (append-nil (comparison_tokens last))
and-tokens (and next more) last =
    ap (λ it. token.Binary op.And ∷ it) (ap (λ it. comparison_tokens next ++ it) (and-tokens more last)
    ∙ sym (append_assoc (comparison_tokens next) (and_tokens more) (token.Binary op.And ∷ comparison_tokens last)))

pub and-joins : (l r : Expr) (left right : List Token) → IsConjunction l left → IsComparison r right
    → IsConjunction (expr.Bin op.And l r) (left ++ token.Binary op.And ∷ right)
and-joins l r left right (conjunction first more, is, spelled) (last, is', spelled') = (
  conjunction first (and_last more last),
  and-tree more last (comparison_tree first) ∙ ap (λ it. expr.Bin op.And it (comparison_tree last)) is ∙ ap (λ it. expr.Bin op.And l it) is',
  ap (λ it. comparison_tokens first ++ it) (and-tokens more last)
      ∙ sym (append_assoc (comparison_tokens first) (and_tokens more) (token.Binary op.And ∷ comparison_tokens last))
      ∙ ap (λ it. it ++ token.Binary op.And ∷ comparison_tokens last) spelled ∙ ap (λ it. left ++ token.Binary op.And ∷ it) spelled',
)

pub compare-joins : (sign : Comparing) (l r : Expr) (left right : List Token) → IsSum l left → IsSum r right
    → IsComparison (expr.Bin (comparing_operator sign) l r) (left ++ token.Binary (comparing_operator sign) ∷ right)
compare-joins sign l r left right (first, is, spelled) (last, is', spelled') = (
  compared first sign last,
  ap (λ it. expr.Bin (comparing_operator sign) it (sum_tree last)) is ∙ ap (λ it. expr.Bin (comparing_operator sign) l it) is',
  ap (λ it. it ++ token.Binary (comparing_operator sign) ∷ sum_tokens last) spelled
      ∙ ap (λ it. left ++ token.Binary (comparing_operator sign) ∷ it) spelled',
)

abbrev add_last : MoreSum → Adding → Product → MoreSum
add_last end_sum sign last = add sign last end_sum
add_last (add other next more) sign last = add other next (add_last more sign last)

add-tree : (more : MoreSum) (sign : Adding) (last : Product) (before : Expr)
    → add_tree (add_last more sign last) before ≡ expr.Bin (adding_operator sign) (add_tree more before) (product_tree last)
add-tree end_sum sign last before = refl
add-tree (add other next more) sign last before = add-tree more sign last (expr.Bin (adding_operator other) before (product_tree next))

add-tokens : (more : MoreSum) (sign : Adding) (last : Product) → add_tokens (add_last more sign last) ≡ add_tokens more ++ token.Binary (adding_operator sign) ∷ product_tokens last
add-tokens end_sum sign last = ap (λ it. token.Binary (adding_operator sign) ∷ it) (append-nil (product_tokens last))
add-tokens (add other next more) sign last =
    ap (λ it. token.Binary (adding_operator other) ∷ it) (ap (λ it. product_tokens next ++ it) (add-tokens more sign last)
    ∙ sym (append_assoc (product_tokens next) (add_tokens more) (token.Binary (adding_operator sign) ∷ product_tokens last)))

pub add-joins : (sign : Adding) (l r : Expr) (left right : List Token) → IsSum l left → IsProduct r right
    → IsSum (expr.Bin (adding_operator sign) l r) (left ++ token.Binary (adding_operator sign) ∷ right)
add-joins sign l r left right (sum first more, is, spelled) (last, is', spelled') = (
  sum first (add_last more sign last),
  add-tree more sign last (product_tree first) ∙ ap (λ it. expr.Bin (adding_operator sign) it (product_tree last)) is
      ∙ ap (λ it. expr.Bin (adding_operator sign) l it) is',
  ap (λ it. product_tokens first ++ it) (add-tokens more sign last)
      ∙ sym (append_assoc (product_tokens first) (add_tokens more) (token.Binary (adding_operator sign) ∷ product_tokens last))
      ∙ ap (λ it. it ++ token.Binary (adding_operator sign) ∷ product_tokens last) spelled
      ∙ ap (λ it. left ++ token.Binary (adding_operator sign) ∷ it) spelled',
)

abbrev multiply_last : MoreProduct → Multiplying → Unary → MoreProduct
multiply_last end_product sign last = multiply sign last end_product
multiply_last (multiply other next more) sign last = multiply other next (multiply_last more sign last)

multiply-tree : (more : MoreProduct) (sign : Multiplying) (last : Unary) (before : Expr)
    → multiply_tree (multiply_last more sign last) before ≡ expr.Bin (multiplying_operator sign) (multiply_tree more before) (unary_tree last)
multiply-tree end_product sign last before = refl
multiply-tree (multiply other next more) sign last before = multiply-tree more sign last (expr.Bin (multiplying_operator other) before (unary_tree next))

multiply-tokens : (more : MoreProduct) (sign : Multiplying) (last : Unary)
    → multiply_tokens (multiply_last more sign last) ≡ multiply_tokens more ++ token.Binary (multiplying_operator sign) ∷ unary_tokens last
multiply-tokens end_product sign last = ap (λ it. token.Binary (multiplying_operator sign) ∷ it) (append-nil (unary_tokens last))
multiply-tokens (multiply other next more) sign last =
    ap (λ it. token.Binary (multiplying_operator other) ∷ it) (ap (λ it. unary_tokens next ++ it) (multiply-tokens more sign last)
    ∙ sym (append_assoc (unary_tokens next) (multiply_tokens more) (token.Binary (multiplying_operator sign) ∷ unary_tokens last)))

pub multiply-joins : (sign : Multiplying) (l r : Expr) (left right : List Token) → IsProduct l left → IsUnary r right
    → IsProduct (expr.Bin (multiplying_operator sign) l r) (left ++ token.Binary (multiplying_operator sign) ∷ right)
multiply-joins sign l r left right (product first more, is, spelled) (last, is', spelled') = (
  product first (multiply_last more sign last),
  multiply-tree more sign last (unary_tree first) ∙ ap (λ it. expr.Bin (multiplying_operator sign) it (unary_tree last)) is
      ∙ ap (λ it. expr.Bin (multiplying_operator sign) l it) is',
  ap (λ it. unary_tokens first ++ it) (multiply-tokens more sign last)
      ∙ sym (append_assoc (unary_tokens first) (multiply_tokens more) (token.Binary (multiplying_operator sign) ∷ unary_tokens last))
      ∙ ap (λ it. it ++ token.Binary (multiplying_operator sign) ∷ unary_tokens last) spelled
      ∙ ap (λ it. left ++ token.Binary (multiplying_operator sign) ∷ it) spelled',
)
