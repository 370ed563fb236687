-- The tokens of an expression, of which those are left that are shown.
use Rattle.std.specs.Prelude.{nat_le}
use Rattle.std.proofs.Common.{◌≡◌, ℕ, ◌+◌, ◌≤◌, Bool, true, false, List, [], ◌∷◌, ◌++◌, refl, sym, ap, ◌∙◌, subst, arith, append_assoc, append-nil, if◌then◌else◌}
use Rattle.std.proofs.lemmas.Bool.Decides.{nat_tests}
use Rattle.ext_mean.specs.declared.expr.BinOp.{BinOp}
use Rattle.ext_mean.specs.declared.expr.BinOp.TheVariants as op
use Rattle.ext_mean.specs.declared.expr.Expr.{Expr}
use Rattle.ext_mean.specs.declared.expr.Expr.TheVariants as expr
use Rattle.ext_mean.specs.declared.expr.Expr.TheOpen.{Expr-F}
use Rattle.ext_mean.specs.declared.token.Token.{Token}
use Rattle.ext_mean.specs.declared.token.Token.TheVariants as token
use Rattle.ext_mean.specs.declared.token.Word.{Word}
use Rattle.ext_mean.specs.declared.token.Word.TheVariants as word
use Rattle.ext_mean.specs.Bounds.{open_with}
use Rattle.ext_mean.specs.Canonical.{Shown, shown, at_least, expression_shown, expression_tokens, binding, left_binding, tight, with_one, with_two, with_three}
use Rattle.ext_mean.specs.Derived.{disjunction_tree, or_tree, conjunction_tree, and_tree, comparison_tree, sum_tree, add_tree, product_tree, multiply_tree, unary_tree, primary_tree, comparing_operator, adding_operator, multiplying_operator}
use Rattle.ext_mean.specs.Grammar.{Comparing, equal, not_equal, less, less_equal, greater, greater_equal, Adding, plus, minus, Multiplying, times, over, remainder, Disjunction, disjunction, MoreOr, end_or, or, Conjunction, conjunction, MoreAnd, end_and, and, Comparison, only, compared, Sum, sum, MoreSum, end_sum, add, Product, product, MoreProduct, end_product, multiply, Unary, plain, negated, Primary, number, string, truth, variable, parentheses, args, len, view, temp, byte, u64, sub, alloc}
use Rattle.ext_mean.specs.Wording.{open_, close, comma, truth_word, disjunction_tokens, or_tokens, conjunction_tokens, and_tokens, comparison_tokens, sum_tokens, add_tokens, product_tokens, multiply_tokens, unary_tokens, primary_tokens}
use Rattle.ext_mean.proofs.CanonicalForms.{shown-Number, shown-Str, shown-Truth, shown-Var, shown-View, shown-Args, shown-Len, shown-Temp, shown-Byte, shown-Word, shown-Sub, shown-Alloc, shown-Not, shown-Bin}
use Rattle.ext_canonical.proofs.Levels.{IsDisjunction, IsPrimary, Derives, from-primary, from-unary, from-product, from-sum, from-comparison, from-conjunction, from-disjunction, or-joins, and-joins, compare-joins, add-joins, multiply-joins}
use Rattle.ext_canonical.proofs.Pruned.{Lean, lean-as, lean-nothing, lean-both, lean-kept, lean-within, lean-without, lean-two, lean-three}

-- a place that asks for no more than there is
at-least : (least level : ℕ) (tokens : List Token) → least ≤ level → at_least least (record { binds = level; tokens = tokens }) ≡ tokens
at-least least level tokens fits =
    let test : nat_le least level ≡ true = grind (arith, nat_tests) in
    rw test refl

-- An expression is derived at each level with the tokens that are shown there, and these are left of
-- its tokens where no more is asked for than its own level.
pub record Shows (level : ℕ) (tree : Expr) (tokens : List Token) : Type 0 where
  pub derives : Derives tree (shown tree)
  pub lean : (least : ℕ) → least ≤ level → Lean (at_least least (shown tree)) tokens

-- by the tokens shown
shows : (level : ℕ) (tree : Expr) (how : Shown) (tokens : List Token) → shown tree ≡ how → level ≤ how.binds
    → Derives tree how → Lean how.tokens tokens → Shows level tree tokens
shows level tree how tokens is high derives lean = record {
  derives = let D : Shown → Type 0 = λ it. Derives tree it in subst D (sym is) derives;
  lean = λ least fits.
      let L : Shown → Type 0 = λ it. Lean (at_least least it) tokens in
      subst L (sym is)
      (lean-as how.tokens (at_least least how) tokens tokens (sym (at-least least how.binds how.tokens (omega arith))) refl lean);
}

pub shows-lower : (level lower : ℕ) (tree : Expr) (tokens : List Token) → lower ≤ level → Shows level tree tokens → Shows lower tree tokens
shows-lower level lower tree tokens below it = record { derives = it.derives; lean = λ least fits. it.lean least (omega arith) }

-- where no binding is asked for
any-place : (how : Shown) → at_least 0 how ≡ how.tokens
any-place how = at-least 0 how.binds how.tokens (omega arith)

pub inner-lean : (tree : Expr) (tokens : List Token) → Shows 0 tree tokens → Lean (expression_tokens tree) tokens
inner-lean tree tokens it = lean-as (at_least 0 (shown tree)) (expression_tokens tree) tokens tokens (any-place (shown tree)) refl (it.lean 0 (omega arith))

pub inner-derives : (tree : Expr) → Derives tree (shown tree) → IsDisjunction tree (expression_tokens tree)
inner-derives tree it =
    let D : List Token → Type 0 = λ tokens. IsDisjunction tree tokens in
    subst D (any-place (shown tree)) it.disjunction

-- Parentheses are shown or not.
maybe : (test : Bool) (left tokens : List Token) → Lean left tokens
    → Lean (if test then left else (open_ ∷ (left ++ close ∷ []))) (open_ ∷ (tokens ++ close ∷ []))
maybe true left tokens it = lean-without left tokens it
maybe false left tokens it = lean-within left tokens [] [] it lean-nothing

parentheses-show : (tree : Expr) (tokens : List Token) → Shows 0 tree tokens → Shows 6 tree (open_ ∷ (tokens ++ close ∷ []))
parentheses-show tree tokens it = record {
  derives = it.derives;
  lean = λ least fits. maybe (nat_le least (shown tree).binds) (expression_tokens tree) tokens (inner-lean tree tokens it);
}

-- one token that is no bracket
one-shows : (tree : Expr) (next : Token) → shown tree ≡ tight (next ∷ []) → IsPrimary tree (next ∷ []) → ((n : ℕ) → open_with n next ≡ n) → Shows 6 tree (next ∷ [])
one-shows tree next is it plain' =
    shows 6 tree (tight (next ∷ [])) (next ∷ []) is (omega arith) (from-primary tree (next ∷ []) it) (lean-kept next [] [] plain' lean-nothing)

-- a word with its expressions
word-one : (of : Word) (a x : List Token) → ((n : ℕ) → open_with n (token.Word of) ≡ n) → Lean a x
    → Lean (with_one of a) (token.Word of ∷ open_ ∷ (x ++ close ∷ []))
word-one of a x plain' it = lean-kept (token.Word of) _ _ plain' (lean-within a x [] [] it lean-nothing)

word-two : (of : Word) (a x b y : List Token) → ((n : ℕ) → open_with n (token.Word of) ≡ n) → Lean a x → Lean b y
    → Lean (with_two of a b) (token.Word of ∷ open_ ∷ (x ++ comma ∷ (y ++ close ∷ [])))
word-two of a x b y plain' first second = lean-kept (token.Word of) _ _ plain' (lean-two a x b y [] [] first second lean-nothing)

word-three : (of : Word) (a x b y c z : List Token) → ((n : ℕ) → open_with n (token.Word of) ≡ n) → Lean a x → Lean b y → Lean c z
    → Lean (with_three of a b c) (token.Word of ∷ open_ ∷ (x ++ comma ∷ (y ++ comma ∷ (z ++ close ∷ []))))
word-three of a x b y c z plain' first second third =
    lean-kept (token.Word of) _ _ plain' (lean-three a x b y c z [] [] first second third lean-nothing)

-- an operator between two operands
bin-lean : (by : BinOp) (l r : Expr) (x y : List Token) → Lean (at_least (left_binding by) (shown l)) x → Lean (at_least (binding by + 1) (shown r)) y
    → Lean (expression_shown (Expr-F.Bin by (shown l) (shown r))).tokens (x ++ token.Binary by ∷ y)
bin-lean by l r x y left right =
    lean-both (at_least (left_binding by) (shown l)) x
    (token.Binary by ∷ at_least (binding by + 1) (shown r)) (token.Binary by ∷ y) left
    (lean-kept (token.Binary by) (at_least (binding by + 1) (shown r)) y (λ n. refl) right)

or-shows : (l r : Expr) (x y : List Token) → Shows 0 l x → Shows 1 r y → Shows 0 (expr.Bin op.Or l r) (x ++ token.Binary op.Or ∷ y)
or-shows l r x y left right =
    shows 0 (expr.Bin op.Or l r) (expression_shown (Expr-F.Bin op.Or (shown l) (shown r))) (x ++ token.Binary op.Or ∷ y) (shown-Bin op.Or l r) (omega arith)
    (from-disjunction (expr.Bin op.Or l r) _ (or-joins l r (at_least 0 (shown l)) (at_least 1 (shown r)) left.derives.disjunction right.derives.conjunction))
    (bin-lean op.Or l r x y (left.lean 0 (omega arith)) (right.lean 1 (omega arith)))

and-shows : (l r : Expr) (x y : List Token) → Shows 1 l x → Shows 2 r y → Shows 1 (expr.Bin op.And l r) (x ++ token.Binary op.And ∷ y)
and-shows l r x y left right =
    shows 1 (expr.Bin op.And l r) (expression_shown (Expr-F.Bin op.And (shown l) (shown r))) (x ++ token.Binary op.And ∷ y) (shown-Bin op.And l r) (omega arith)
    (from-conjunction (expr.Bin op.And l r) _ (and-joins l r (at_least 1 (shown l)) (at_least 2 (shown r)) left.derives.conjunction right.derives.comparison))
    (bin-lean op.And l r x y (left.lean 1 (omega arith)) (right.lean 2 (omega arith)))

-- an operator of three levels, by how it binds
record Binding (by : BinOp) (left level : ℕ) : Type 0 where
  first : left_binding by ≡ left
  own : binding by ≡ level

leveled : (by : BinOp) (left level : ℕ) (l r : Expr) (x y : List Token) → Binding by left level → Shows left l x → Shows (level + 1) r y
    → Derives (expr.Bin by l r) (record { binds = level; tokens = at_least left (shown l) ++ token.Binary by ∷ at_least (level + 1) (shown r) })
    → Shows level (expr.Bin by l r) (x ++ token.Binary by ∷ y)
leveled by left level l r x y is one other derives =
    let same : shown (expr.Bin by l r)
    ≡ record { binds = level; tokens = at_least left (shown l) ++ token.Binary by ∷ at_least (level + 1) (shown r) } =
    shown-Bin by l r
    ∙ ap (λ (n : ℕ). record { binds = binding by; tokens = at_least n (shown l) ++ token.Binary by ∷ at_least (binding by + 1) (shown r) }) is.first
    ∙ ap (λ (n : ℕ). record { binds = n; tokens = at_least left (shown l) ++ token.Binary by ∷ at_least (n + 1) (shown r) }) is.own in
    shows level (expr.Bin by l r) (record { binds = level; tokens = at_least left (shown l) ++ token.Binary by ∷ at_least (level + 1) (shown r) })
    (x ++ token.Binary by ∷ y) same (omega arith) derives
    (lean-both (at_least left (shown l)) x
    (token.Binary by ∷ at_least (level + 1) (shown r)) (token.Binary by ∷ y) (one.lean left (omega arith))
    (lean-kept (token.Binary by) (at_least (level + 1) (shown r)) y (λ n. refl) (other.lean (level + 1) (omega arith))))

compared-binding : (sign : Comparing) → Binding (comparing_operator sign) 3 2
compared-binding equal = record { first = refl; own = refl }
compared-binding not_equal = record { first = refl; own = refl }
compared-binding less = record { first = refl; own = refl }
compared-binding less_equal = record { first = refl; own = refl }
compared-binding greater = record { first = refl; own = refl }
compared-binding greater_equal = record { first = refl; own = refl }

added-binding : (sign : Adding) → Binding (adding_operator sign) 3 3
added-binding plus = record { first = refl; own = refl }
added-binding minus = record { first = refl; own = refl }

multiplied-binding : (sign : Multiplying) → Binding (multiplying_operator sign) 4 4
multiplied-binding times = record { first = refl; own = refl }
multiplied-binding over = record { first = refl; own = refl }
multiplied-binding remainder = record { first = refl; own = refl }

compare-shows : (sign : Comparing) (l r : Expr) (x y : List Token) → Shows 3 l x → Shows 3 r y
    → Shows 2 (expr.Bin (comparing_operator sign) l r) (x ++ token.Binary (comparing_operator sign) ∷ y)
compare-shows sign l r x y left right =
    leveled (comparing_operator sign) 3 2 l r x y (compared-binding sign) left right
    (from-comparison (expr.Bin (comparing_operator sign) l r) _
    (compare-joins sign l r (at_least 3 (shown l)) (at_least 3 (shown r)) left.derives.sum right.derives.sum))

add-shows : (sign : Adding) (l r : Expr) (x y : List Token) → Shows 3 l x → Shows 4 r y
    → Shows 3 (expr.Bin (adding_operator sign) l r) (x ++ token.Binary (adding_operator sign) ∷ y)
add-shows sign l r x y left right =
    leveled (adding_operator sign) 3 3 l r x y (added-binding sign) left right
    (from-sum (expr.Bin (adding_operator sign) l r) _
    (add-joins sign l r (at_least 3 (shown l)) (at_least 4 (shown r)) left.derives.sum right.derives.product))

multiply-shows : (sign : Multiplying) (l r : Expr) (x y : List Token) → Shows 4 l x → Shows 5 r y
    → Shows 4 (expr.Bin (multiplying_operator sign) l r) (x ++ token.Binary (multiplying_operator sign) ∷ y)
multiply-shows sign l r x y left right =
    leveled (multiplying_operator sign) 4 4 l r x y (multiplied-binding sign) left right
    (from-product (expr.Bin (multiplying_operator sign) l r) _
    (multiply-joins sign l r (at_least 4 (shown l)) (at_least 5 (shown r)) left.derives.product right.derives.unary))

not-shows : (operand : Expr) (x : List Token) → Shows 6 operand x → Shows 5 (expr.Not operand) (token.Not ∷ x)
not-shows operand x it =
    let (one, is, spelled) = it.derives.primary in
    shows 5 (expr.Not operand) (expression_shown (Expr-F.Not (shown operand))) (token.Not ∷ x) (shown-Not operand) (omega arith)
    (from-unary (expr.Not operand) (token.Not ∷ at_least 6 (shown operand))
    (negated one, ap (λ e. expr.Not e) is, ap (λ t. token.Not ∷ t) spelled))
    (lean-kept token.Not (at_least 6 (shown operand)) x (λ n. refl) (it.lean 6 (omega arith)))

-- the same tokens
tokens-as : (level : ℕ) (tree : Expr) (x y : List Token) → x ≡ y → Shows level tree x → Shows level tree y
tokens-as level tree x y same it = let S : List Token → Type 0 = λ tokens. Shows level tree tokens in subst S same it

-- words
len-shows : (a : Expr) (x : List Token) → Shows 0 a x → Shows 6 (expr.Len a) (token.Word word.Len ∷ open_ ∷ (x ++ close ∷ []))
len-shows a x it =
    let (one, is, spelled) = inner-derives a it.derives in
    shows 6 (expr.Len a) (expression_shown (Expr-F.Len (shown a))) _ (shown-Len a) (omega arith)
    (from-primary (expr.Len a) (with_one word.Len (expression_tokens a)) (len one, ap (λ e. expr.Len e) is, ap (λ t. with_one word.Len t) spelled))
    (word-one word.Len (expression_tokens a) x (λ n. refl) (inner-lean a x it))

temp-shows : (a : Expr) (x : List Token) → Shows 0 a x → Shows 6 (expr.Temp a) (token.Word word.Temp ∷ open_ ∷ (x ++ close ∷ []))
temp-shows a x it =
    let (one, is, spelled) = inner-derives a it.derives in
    shows 6 (expr.Temp a) (expression_shown (Expr-F.Temp (shown a))) _ (shown-Temp a) (omega arith)
    (from-primary (expr.Temp a) (with_one word.Temp (expression_tokens a)) (temp one, ap (λ e. expr.Temp e) is, ap (λ t. with_one word.Temp t) spelled))
    (word-one word.Temp (expression_tokens a) x (λ n. refl) (inner-lean a x it))

byte-shows : (a b : Expr) (x y : List Token) → Shows 0 a x → Shows 0 b y
    → Shows 6 (expr.Byte a b) (token.Word word.Byte ∷ open_ ∷ (x ++ comma ∷ (y ++ close ∷ [])))
byte-shows a b x y first second =
    let (one, is, spelled) = inner-derives a first.derives in
    let (two, is', spelled') = inner-derives b second.derives in
    shows 6 (expr.Byte a b) (expression_shown (Expr-F.Byte (shown a) (shown b))) _ (shown-Byte a b) (omega arith)
    (from-primary (expr.Byte a b) (with_two word.Byte (expression_tokens a) (expression_tokens b)) (
      byte one two,
      ap (λ e. expr.Byte e (disjunction_tree two)) is ∙ ap (λ e. expr.Byte a e) is',
      ap (λ t. with_two word.Byte t (disjunction_tokens two)) spelled ∙ ap (λ t. with_two word.Byte (expression_tokens a) t) spelled',
    ))
    (word-two word.Byte (expression_tokens a) x (expression_tokens b) y (λ n. refl) (inner-lean a x first) (inner-lean b y second))

u64-shows : (a b : Expr) (x y : List Token) → Shows 0 a x → Shows 0 b y
    → Shows 6 (expr.Word a b) (token.Word word.U64 ∷ open_ ∷ (x ++ comma ∷ (y ++ close ∷ [])))
u64-shows a b x y first second =
    let (one, is, spelled) = inner-derives a first.derives in
    let (two, is', spelled') = inner-derives b second.derives in
    shows 6 (expr.Word a b) (expression_shown (Expr-F.Word (shown a) (shown b))) _ (shown-Word a b) (omega arith)
    (from-primary (expr.Word a b) (with_two word.U64 (expression_tokens a) (expression_tokens b)) (
      u64 one two,
      ap (λ e. expr.Word e (disjunction_tree two)) is ∙ ap (λ e. expr.Word a e) is',
      ap (λ t. with_two word.U64 t (disjunction_tokens two)) spelled ∙ ap (λ t. with_two word.U64 (expression_tokens a) t) spelled',
    ))
    (word-two word.U64 (expression_tokens a) x (expression_tokens b) y (λ n. refl) (inner-lean a x first) (inner-lean b y second))

sub-shows : (a b c : Expr) (x y z : List Token) → Shows 0 a x → Shows 0 b y → Shows 0 c z
    → Shows 6 (expr.Sub a b c) (token.Word word.Sub ∷ open_ ∷ (x ++ comma ∷ (y ++ comma ∷ (z ++ close ∷ []))))
sub-shows a b c x y z first second third =
    let (one, is, spelled) = inner-derives a first.derives in
    let (two, is', spelled') = inner-derives b second.derives in
    let (three, is'', spelled'') = inner-derives c third.derives in
    shows 6 (expr.Sub a b c) (expression_shown (Expr-F.Sub (shown a) (shown b) (shown c))) _ (shown-Sub a b c) (omega arith)
    (from-primary (expr.Sub a b c) (with_three word.Sub (expression_tokens a) (expression_tokens b) (expression_tokens c)) (
      sub one two three,
      ap (λ e. expr.Sub e (disjunction_tree two) (disjunction_tree three)) is ∙ ap (λ e. expr.Sub a e (disjunction_tree three)) is'
          ∙ ap (λ e. expr.Sub a b e) is'',
      ap (λ t. with_three word.Sub t (disjunction_tokens two) (disjunction_tokens three)) spelled
          ∙ ap (λ t. with_three word.Sub (expression_tokens a) t (disjunction_tokens three)) spelled'
          ∙ ap (λ t. with_three word.Sub (expression_tokens a) (expression_tokens b) t) spelled'',
    ))
    (word-three word.Sub (expression_tokens a) x (expression_tokens b) y (expression_tokens c) z (λ n. refl)
    (inner-lean a x first) (inner-lean b y second) (inner-lean c z third))

alloc-shows : (a b c : Expr) (x y z : List Token) → Shows 0 a x → Shows 0 b y → Shows 0 c z
    → Shows 6 (expr.Alloc a b c) (token.Word word.Alloc ∷ open_ ∷ (x ++ comma ∷ (y ++ comma ∷ (z ++ close ∷ []))))
alloc-shows a b c x y z first second third =
    let (one, is, spelled) = inner-derives a first.derives in
    let (two, is', spelled') = inner-derives b second.derives in
    let (three, is'', spelled'') = inner-derives c third.derives in
    shows 6 (expr.Alloc a b c) (expression_shown (Expr-F.Alloc (shown a) (shown b) (shown c))) _ (shown-Alloc a b c) (omega arith)
    (from-primary (expr.Alloc a b c) (with_three word.Alloc (expression_tokens a) (expression_tokens b) (expression_tokens c)) (
      alloc one two three,
      ap (λ e. expr.Alloc e (disjunction_tree two) (disjunction_tree three)) is ∙ ap (λ e. expr.Alloc a e (disjunction_tree three)) is'
          ∙ ap (λ e. expr.Alloc a b e) is'',
      ap (λ t. with_three word.Alloc t (disjunction_tokens two) (disjunction_tokens three)) spelled
          ∙ ap (λ t. with_three word.Alloc (expression_tokens a) t (disjunction_tokens three)) spelled'
          ∙ ap (λ t. with_three word.Alloc (expression_tokens a) (expression_tokens b) t) spelled'',
    ))
    (word-three word.Alloc (expression_tokens a) x (expression_tokens b) y (expression_tokens c) z (λ n. refl)
    (inner-lean a x first) (inner-lean b y second) (inner-lean c z third))

-- one more operand of a chain
chained : (level : ℕ) (tree : Expr) (x y z : List Token) (by : Token) → Shows level tree ((x ++ by ∷ y) ++ z) → Shows level tree (x ++ by ∷ (y ++ z))
chained level tree x y z by it = tokens-as level tree ((x ++ by ∷ y) ++ z) (x ++ by ∷ (y ++ z)) (append_assoc x (by ∷ y) z) it

mutual
  pub disjunction-shows : (d : Disjunction) → Shows 0 (disjunction_tree d) (disjunction_tokens d)
  disjunction-shows (disjunction first more) =
      or-chain more (conjunction_tree first) (conjunction_tokens first)
      (shows-lower 1 0 (conjunction_tree first) (conjunction_tokens first) (omega arith) (conjunction-shows first))

  or-chain : (more : MoreOr) (tree : Expr) (x : List Token) → Shows 0 tree x → Shows 0 (or_tree more tree) (x ++ or_tokens more)
  or-chain end_or tree x it = tokens-as 0 tree x (x ++ []) (sym (append-nil x)) it
  or-chain (or next more) tree x it =
      chained 0 (or_tree more (expr.Bin op.Or tree (conjunction_tree next))) x (conjunction_tokens next) (or_tokens more) (token.Binary op.Or)
      (or-chain more (expr.Bin op.Or tree (conjunction_tree next)) (x ++ token.Binary op.Or ∷ conjunction_tokens next)
      (or-shows tree (conjunction_tree next) x (conjunction_tokens next) it (conjunction-shows next)))

  conjunction-shows : (d : Conjunction) → Shows 1 (conjunction_tree d) (conjunction_tokens d)
  conjunction-shows (conjunction first more) =
      and-chain more (comparison_tree first) (comparison_tokens first)
      (shows-lower 2 1 (comparison_tree first) (comparison_tokens first) (omega arith) (comparison-shows first))

  and-chain : (more : MoreAnd) (tree : Expr) (x : List Token) → Shows 1 tree x → Shows 1 (and_tree more tree) (x ++ and_tokens more)
  and-chain end_and tree x it = tokens-as 1 tree x (x ++ []) (sym (append-nil x)) it
  and-chain (and next more) tree x it =
      chained 1 (and_tree more (expr.Bin op.And tree (comparison_tree next))) x (comparison_tokens next) (and_tokens more) (token.Binary op.And)
      (and-chain more (expr.Bin op.And tree (comparison_tree next)) (x ++ token.Binary op.And ∷ comparison_tokens next)
      (and-shows tree (comparison_tree next) x (comparison_tokens next) it (comparison-shows next)))

  comparison-shows : (d : Comparison) → Shows 2 (comparison_tree d) (comparison_tokens d)
  comparison-shows (only whole) = shows-lower 3 2 (sum_tree whole) (sum_tokens whole) (omega arith) (sum-shows whole)
  comparison-shows (compared left sign right) =
      compare-shows sign (sum_tree left) (sum_tree right) (sum_tokens left) (sum_tokens right) (sum-shows left) (sum-shows right)

  sum-shows : (d : Sum) → Shows 3 (sum_tree d) (sum_tokens d)
  sum-shows (sum first more) =
      add-chain more (product_tree first) (product_tokens first)
      (shows-lower 4 3 (product_tree first) (product_tokens first) (omega arith) (product-shows first))

  add-chain : (more : MoreSum) (tree : Expr) (x : List Token) → Shows 3 tree x → Shows 3 (add_tree more tree) (x ++ add_tokens more)
  add-chain end_sum tree x it = tokens-as 3 tree x (x ++ []) (sym (append-nil x)) it
  add-chain (add sign next more) tree x it =
      chained 3 (add_tree more (expr.Bin (adding_operator sign) tree (product_tree next))) x (product_tokens next) (add_tokens more) (token.Binary (adding_operator sign))
      (add-chain more (expr.Bin (adding_operator sign) tree (product_tree next)) (x ++ token.Binary (adding_operator sign) ∷ product_tokens next)
      (add-shows sign tree (product_tree next) x (product_tokens next) it (product-shows next)))

  product-shows : (d : Product) → Shows 4 (product_tree d) (product_tokens d)
  product-shows (product first more) =
      multiply-chain more (unary_tree first) (unary_tokens first)
      (shows-lower 5 4 (unary_tree first) (unary_tokens first) (omega arith) (unary-shows first))

  multiply-chain : (more : MoreProduct) (tree : Expr) (x : List Token) → Shows 4 tree x → Shows 4 (multiply_tree more tree) (x ++ multiply_tokens more)
  multiply-chain end_product tree x it = tokens-as 4 tree x (x ++ []) (sym (append-nil x)) it
  multiply-chain (multiply sign next more) tree x it =
      chained 4 (multiply_tree more (expr.Bin (multiplying_operator sign) tree (unary_tree next))) x (unary_tokens next) (multiply_tokens more) (token.Binary (multiplying_operator sign))
      (multiply-chain more (expr.Bin (multiplying_operator sign) tree (unary_tree next)) (x ++ token.Binary (multiplying_operator sign) ∷ unary_tokens next)
      (multiply-shows sign tree (unary_tree next) x (unary_tokens next) it (unary-shows next)))

  unary-shows : (d : Unary) → Shows 5 (unary_tree d) (unary_tokens d)
  unary-shows (plain operand) = shows-lower 6 5 (primary_tree operand) (primary_tokens operand) (omega arith) (primary-shows operand)
  unary-shows (negated operand) = not-shows (primary_tree operand) (primary_tokens operand) (primary-shows operand)

  primary-shows : (d : Primary) → Shows 6 (primary_tree d) (primary_tokens d)
  primary-shows (number value) = one-shows (expr.Number value) (token.Number value) (shown-Number value) (number value, refl, refl) (λ n. refl)
  primary-shows (string items) = one-shows (expr.Str items) (token.Str items) (shown-Str items) (string items, refl, refl) (λ n. refl)
  primary-shows (truth value) = one-shows (expr.Truth value) (token.Word (truth_word value)) (shown-Truth value) (truth value, refl, refl) (λ n. refl)
  primary-shows (variable name) = one-shows (expr.Var name) (token.Name name) (shown-Var name) (variable name, refl, refl) (λ n. refl)
  primary-shows (parentheses inner) = parentheses-show (disjunction_tree inner) (disjunction_tokens inner) (disjunction-shows inner)
  primary-shows args =
      shows 6 expr.Args (expression_shown Expr-F.Args) _ shown-Args (omega arith)
      (from-primary expr.Args (token.Word word.Args ∷ open_ ∷ close ∷ []) (args, refl, refl))
      (word-one word.Args [] [] (λ n. refl) lean-nothing)
  primary-shows (len bytes) = len-shows (disjunction_tree bytes) (disjunction_tokens bytes) (disjunction-shows bytes)
  primary-shows (view name) =
      shows 6 (expr.View name) (expression_shown (Expr-F.View name)) _ (shown-View name) (omega arith)
      (from-primary (expr.View name) (token.Word word.View ∷ open_ ∷ token.Name name ∷ close ∷ []) (view name, refl, refl))
      (word-one word.View (token.Name name ∷ []) (token.Name name ∷ []) (λ n. refl) (lean-kept (token.Name name) [] [] (λ n. refl) lean-nothing))
  primary-shows (temp size) = temp-shows (disjunction_tree size) (disjunction_tokens size) (disjunction-shows size)
  primary-shows (byte bytes place) =
      byte-shows (disjunction_tree bytes) (disjunction_tree place) (disjunction_tokens bytes) (disjunction_tokens place)
      (disjunction-shows bytes) (disjunction-shows place)
  primary-shows (u64 bytes place) =
      u64-shows (disjunction_tree bytes) (disjunction_tree place) (disjunction_tokens bytes) (disjunction_tokens place)
      (disjunction-shows bytes) (disjunction-shows place)
  primary-shows (sub bytes from count) =
      sub-shows (disjunction_tree bytes) (disjunction_tree from) (disjunction_tree count)
      (disjunction_tokens bytes) (disjunction_tokens from) (disjunction_tokens count)
      (disjunction-shows bytes) (disjunction-shows from) (disjunction-shows count)
  primary-shows (alloc table key size) =
      alloc-shows (disjunction_tree table) (disjunction_tree key) (disjunction_tree size)
      (disjunction_tokens table) (disjunction_tokens key) (disjunction_tokens size)
      (disjunction-shows table) (disjunction-shows key) (disjunction-shows size)
