-- The tokens of an expression lead to the place behind it, with its tree.
use Rattle.std.proofs.Common.{◌≡◌, ℕ, ◌+◌, true, false, List, [], ◌∷◌, ◌++◌, refl, arith}
use Rattle.ext_mean.specs.declared.expr.BinOp.{BinOp}
use Rattle.ext_mean.specs.declared.expr.BinOp.TheVariants as op
use Rattle.ext_mean.specs.declared.expr.Expr.{Expr}
use Rattle.ext_mean.specs.declared.expr.Expr.TheVariants as expr
use Rattle.ext_mean.specs.declared.token.Mark.TheVariants as mark
use Rattle.ext_mean.specs.declared.token.Token.{Token}
use Rattle.ext_mean.specs.declared.token.Token.TheVariants as token
use Rattle.ext_mean.specs.declared.tree.Program.{Program}
use Rattle.ext_mean.specs.Derived.{comparing_operator, adding_operator, multiplying_operator, disjunction_tree, or_tree, conjunction_tree, and_tree, comparison_tree, sum_tree, add_tree, product_tree, multiply_tree, unary_tree, primary_tree}
use Rattle.ext_mean.specs.Grammar.{Comparing, Adding, Multiplying, equal, not_equal, less, less_equal, greater, greater_equal, plus, minus, times, over, remainder, Disjunction, disjunction, MoreOr, end_or, or, Conjunction, conjunction, MoreAnd, end_and, and, Comparison, only, compared, Sum, sum, MoreSum, end_sum, add, Product, product, MoreProduct, end_product, multiply, Unary, plain, negated, Primary, number, string, truth, variable, parentheses, args, len, view, temp, byte, u64, sub, alloc}
use Rattle.ext_mean.specs.Wording.{Slot, open_, close, comma, disjunction_tokens, or_tokens, conjunction_tokens, and_tokens, comparison_tokens, sum_tokens, add_tokens, product_tokens, multiply_tokens, unary_tokens, primary_tokens}
use Rattle.ext_grammar.specs.Coming.{Level, is_level, disjoining, conjoining, comparing, adding, multiplying, AroundExpr, chain, right, in_parentheses, only_operand, first_of_two, second_of_two, first_of_three, second_of_three, third_of_three, Coming, fixed, behind, unary, primary, side, level_operand, expression}
use Rattle.ext_grammar.specs.Coming as coming
use Rattle.ext_grammar.proofs.Walks.{took, Walk, counted, goes}
use Rattle.ext_grammar.proofs.Leading.{Leads, join, Below, below-more, skip, right-goes, right-compared}

module _ (program : Program) where
  -- an operand without its `!`
  as-unary : (operand : Primary) (around : AroundExpr) (before : ℕ) (rest : List Slot) →
      Walk (goes before (primary_tokens operand) rest) (primary around) before program →
      Walk (goes before (primary_tokens operand) rest) (unary around) before program
  as-unary (truth true) around before rest walk = walk
  as-unary (truth false) around before rest walk = walk
  as-unary (number value) around before rest walk = walk
  as-unary (string items) around before rest walk = walk
  as-unary (variable name) around before rest walk = walk
  as-unary (parentheses inner) around before rest walk = walk
  as-unary args around before rest walk = walk
  as-unary (len bytes) around before rest walk = walk
  as-unary (view name) around before rest walk = walk
  as-unary (temp size) around before rest walk = walk
  as-unary (byte bytes place) around before rest walk = walk
  as-unary (u64 bytes place) around before rest walk = walk
  as-unary (sub bytes from count) around before rest walk = walk
  as-unary (alloc table key size) around before rest walk = walk

  -- an expression and the tokens behind it
  pub followed-by : (tokens : List Token) (inner : Disjunction) (within : AroundExpr)
      (to : Coming) → Leads program (disjunction_tokens inner) (expression within)
      (behind (disjunction_tree inner) within) →
      Leads program tokens (behind (disjunction_tree inner) within) to →
      Leads program (disjunction_tokens inner ++ tokens) (expression within) to
  followed-by tokens inner within to one two =
      join program (disjunction_tokens inner) tokens (expression within)
      (behind (disjunction_tree inner) within) to one two

  through-not : (found : Expr) (around : AroundExpr) (before : ℕ) (rest : List Slot) →
      Walk rest (behind (expr.Not found) around) before program →
      Walk rest (behind found (coming.negated around)) before program
  through-not found around before [] walk = walk
  through-not found around before (next ∷ rest) walk = walk

  -- an operator leads to its right side
  comparing-leads : (by : Comparing) (found : Expr) (around : AroundExpr) →
      Leads program (token.Binary (comparing_operator by) ∷ [])
      (behind found (chain comparing around))
      (unary (side comparing (right comparing (comparing_operator by) found around)))
  comparing-leads equal found around before rest walk = took walk
  comparing-leads not_equal found around before rest walk = took walk
  comparing-leads less found around before rest walk = took walk
  comparing-leads less_equal found around before rest walk = took walk
  comparing-leads greater found around before rest walk = took walk
  comparing-leads greater_equal found around before rest walk = took walk

  adding-leads : (sign : Adding) (found : Expr) (around : AroundExpr) →
      Leads program (token.Binary (adding_operator sign) ∷ []) (behind found (chain adding around))
      (unary (side adding (right adding (adding_operator sign) found around)))
  adding-leads plus found around before rest walk = took walk
  adding-leads minus found around before rest walk = took walk

  multiplying-leads : (sign : Multiplying) (found : Expr) (around : AroundExpr) →
      Leads program (token.Binary (multiplying_operator sign) ∷ [])
      (behind found (chain multiplying around))
      (unary (right multiplying (multiplying_operator sign) found around))
  multiplying-leads times found around before rest walk = took walk
  multiplying-leads over found around before rest walk = took walk
  multiplying-leads remainder found around before rest walk = took walk

  -- a right side, and what follows the operation
  right-side : (level : Level) → is_level comparing level ≡ false → (operator : BinOp)
      (left found : Expr) (around : AroundExpr) (first second : List Token) (from to : Coming) →
      Leads program first from (behind found (right level operator left around)) →
      Leads program second (behind (expr.Bin operator left found) (chain level around)) to →
      Leads program (first ++ second) from to
  right-side level apart operator left found around first second from to one two =
      join program first second from (behind found (right level operator left around)) to one
      (λ before rest walk. right-goes program level apart operator left found around before
      (goes before second rest) (two before rest walk))

  -- what an expression leads to
  abbrev Whole : Disjunction → AroundExpr → Type 0
  Whole inner within =
      Leads program (disjunction_tokens inner) (expression within)
      (behind (disjunction_tree inner) within)

  -- the operands of a word
  abbrev operands : AroundExpr → Coming
  operands within = fixed mark.Open (expression within)

  one-operand : (kind : coming.Single) (inner : Disjunction) (around : AroundExpr) →
      Whole inner (only_operand kind around) →
      Leads program (open_ ∷ (disjunction_tokens inner ++ close ∷ []))
      (operands (only_operand kind around))
      (behind (coming.single_expr kind (disjunction_tree inner)) around)
  one-operand kind inner around one before rest walk =
      took (followed-by (close ∷ []) inner (only_operand kind around)
      (behind (coming.single_expr kind (disjunction_tree inner)) around) one
      (λ before rest walk. took walk) before rest walk)

  two-operands : (kind : coming.Double) (first second : Disjunction) (around : AroundExpr) →
      Whole first (first_of_two kind around) →
      Whole second (second_of_two kind (disjunction_tree first) around) →
      Leads program
      (open_ ∷ (disjunction_tokens first ++ comma ∷ (disjunction_tokens second ++ close ∷ [])))
      (operands (first_of_two kind around))
      (behind (coming.double_expr kind (disjunction_tree first) (disjunction_tree second)) around)
  two-operands kind first second around one two before rest walk =
      let to : Coming =
      behind (coming.double_expr kind (disjunction_tree first) (disjunction_tree second)) around
      in
      took (followed-by (comma ∷ (disjunction_tokens second ++ close ∷ [])) first
      (first_of_two kind around) to one
      (λ before rest walk. took (followed-by (close ∷ []) second
      (second_of_two kind (disjunction_tree first) around) to two
      (λ before rest walk. took walk) before rest walk)) before rest walk)

  three-operands : (kind : coming.Triple) (first second third : Disjunction) (around : AroundExpr) →
      Whole first (first_of_three kind around) →
      Whole second (second_of_three kind (disjunction_tree first) around) →
      Whole third (third_of_three kind (disjunction_tree first) (disjunction_tree second) around) →
      Leads program
      (open_ ∷ (disjunction_tokens first ++ comma ∷ (disjunction_tokens second
      ++ comma ∷ (disjunction_tokens third ++ close ∷ []))))
      (operands (first_of_three kind around))
      (behind (coming.triple_expr kind (disjunction_tree first) (disjunction_tree second)
      (disjunction_tree third)) around)
  three-operands kind first second third around one two three before rest walk =
      let to : Coming =
      behind (coming.triple_expr kind (disjunction_tree first) (disjunction_tree second)
      (disjunction_tree third)) around
      in
      took (followed-by
      (comma ∷ (disjunction_tokens second ++ comma ∷ (disjunction_tokens third ++ close ∷ [])))
      first
      (first_of_three kind around) to one
      (λ before rest walk. took (followed-by (comma ∷ (disjunction_tokens third ++ close ∷ []))
      second
      (second_of_three kind (disjunction_tree first) around) to two
      (λ before rest walk. took (followed-by (close ∷ []) third
      (third_of_three kind (disjunction_tree first) (disjunction_tree second) around) to three
      (λ before rest walk. took walk) before rest walk)) before rest walk)) before rest walk)

  mutual
    pub primary-leads : (operand : Primary) (around : AroundExpr) →
        Leads program (primary_tokens operand) (primary around)
        (behind (primary_tree operand) around)
    primary-leads (number value) around before rest walk = took walk
    primary-leads (string items) around before rest walk = took walk
    primary-leads (variable name) around before rest walk = took walk
    primary-leads (truth true) around before rest walk = took walk
    primary-leads (truth false) around before rest walk = took walk
    primary-leads (parentheses inner) around before rest walk =
        took (followed-by (close ∷ []) inner (in_parentheses around)
        (behind (disjunction_tree inner) around)
        (disjunction-leads inner (in_parentheses around) tt)
        (λ before rest walk. took walk) before rest walk)
    primary-leads args around before rest walk = took (took (took walk))
    primary-leads (view name) around before rest walk = took (took (took (took walk)))
    primary-leads (len bytes) around before rest walk =
        took (one-operand coming.len bytes around
        (disjunction-leads bytes (only_operand coming.len around) tt) before rest walk)
    primary-leads (temp size) around before rest walk =
        took (one-operand coming.temp size around
        (disjunction-leads size (only_operand coming.temp around) tt) before rest walk)
    primary-leads (byte bytes place) around before rest walk =
        took (two-operands coming.byte bytes place around
        (disjunction-leads bytes (first_of_two coming.byte around) tt)
        (disjunction-leads place (second_of_two coming.byte (disjunction_tree bytes) around) tt)
        before rest walk)
    primary-leads (u64 bytes place) around before rest walk =
        took (two-operands coming.u64 bytes place around
        (disjunction-leads bytes (first_of_two coming.u64 around) tt)
        (disjunction-leads place (second_of_two coming.u64 (disjunction_tree bytes) around) tt)
        before rest walk)
    primary-leads (sub bytes from count) around before rest walk =
        took (three-operands coming.sub bytes from count around
        (disjunction-leads bytes (first_of_three coming.sub around) tt)
        (disjunction-leads from (second_of_three coming.sub (disjunction_tree bytes) around) tt)
        (disjunction-leads count
        (third_of_three coming.sub (disjunction_tree bytes) (disjunction_tree from) around) tt)
        before rest walk)
    primary-leads (alloc table key size) around before rest walk =
        took (three-operands coming.alloc table key size around
        (disjunction-leads table (first_of_three coming.alloc around) tt)
        (disjunction-leads key (second_of_three coming.alloc (disjunction_tree table) around) tt)
        (disjunction-leads size
        (third_of_three coming.alloc (disjunction_tree table) (disjunction_tree key) around) tt)
        before rest walk)

    pub unary-leads : (operand : Unary) (around : AroundExpr) →
        Leads program (unary_tokens operand) (unary around) (behind (unary_tree operand) around)
    unary-leads (plain operand) around before rest walk =
        as-unary operand around before rest (primary-leads operand around before rest walk)
    unary-leads (negated operand) around before rest walk =
        took (primary-leads operand (coming.negated around) (before + 1) rest
        (through-not (primary_tree operand) around (counted (before + 1) (primary_tokens operand))
        rest
        walk))

    pub product-leads : (whole : Product) (around : AroundExpr) → Below 5 around →
        Leads program (product_tokens whole) (unary (side adding around))
        (behind (product_tree whole) around)
    product-leads (product first more) around below =
        join program (unary_tokens first) (multiply_tokens more) (unary (side adding around))
        (behind (unary_tree first) (chain multiplying around)) _
        (unary-leads first (chain multiplying around))
        (multiply-leads more (unary_tree first) around below)

    pub multiply-leads : (more : MoreProduct) (found : Expr) (around : AroundExpr) →
        Below 5 around →
        Leads program (multiply_tokens more) (behind found (chain multiplying around))
        (behind (multiply_tree more found) around)
    multiply-leads end_product found around below = skip program multiplying around below found
    multiply-leads (multiply sign next more) found around below =
        let by : BinOp = multiplying_operator sign in
        join program (token.Binary by ∷ []) (unary_tokens next ++ multiply_tokens more)
        (behind found (chain multiplying around)) (unary (right multiplying by found around)) _
        (multiplying-leads sign found around)
        (right-side multiplying refl by found (unary_tree next) around (unary_tokens next)
        (multiply_tokens more) (unary (right multiplying by found around)) _
        (unary-leads next (right multiplying by found around))
        (multiply-leads more (expr.Bin by found (unary_tree next)) around below))

    pub sum-leads : (whole : Sum) (around : AroundExpr) → Below 4 around →
        Leads program (sum_tokens whole) (unary (side comparing around))
        (behind (sum_tree whole) around)
    sum-leads (sum first more) around below =
        join program (product_tokens first) (add_tokens more) (unary (side comparing around))
        (behind (product_tree first) (chain adding around)) _
        (product-leads first (chain adding around)
        (omega arith, below-more around 4 5 (omega arith) below))
        (add-leads more (product_tree first) around below)

    pub add-leads : (more : MoreSum) (found : Expr) (around : AroundExpr) → Below 4 around →
        Leads program (add_tokens more) (behind found (chain adding around))
        (behind (add_tree more found) around)
    add-leads end_sum found around below = skip program adding around below found
    add-leads (add sign next more) found around below =
        let by : BinOp = adding_operator sign in
        join program (token.Binary by ∷ []) (product_tokens next ++ add_tokens more)
        (behind found (chain adding around)) (unary (side adding (right adding by found around))) _
        (adding-leads sign found around)
        (right-side adding refl by found (product_tree next) around (product_tokens next)
        (add_tokens more) (unary (side adding (right adding by found around))) _
        (product-leads next (right adding by found around)
        (omega arith, below-more around 4 5 (omega arith) below))
        (add-leads more (expr.Bin by found (product_tree next)) around below))

    pub comparison-leads : (whole : Comparison) (around : AroundExpr) → Below 3 around →
        Leads program (comparison_tokens whole) (unary (side conjoining around))
        (behind (comparison_tree whole) around)
    comparison-leads (only whole) around below = λ before rest walk.
        sum-leads whole (chain comparing around)
        (omega arith, below-more around 3 4 (omega arith) below) before rest
        (skip program comparing around below (sum_tree whole) (counted before (sum_tokens whole))
        rest
        walk)
    comparison-leads (compared left sign second) around below =
        let by : BinOp = comparing_operator sign in
        let inner : AroundExpr = right comparing by (sum_tree left) around in
        join program (sum_tokens left) (token.Binary by ∷ sum_tokens second)
        (unary (side conjoining around)) (behind (sum_tree left) (chain comparing around)) _
        (sum-leads left (chain comparing around)
        (omega arith, below-more around 3 4 (omega arith) below))
        (join program (token.Binary by ∷ []) (sum_tokens second)
        (behind (sum_tree left) (chain comparing around))
        (unary (side comparing inner)) _
        (comparing-leads sign (sum_tree left) around)
        (λ before rest walk. sum-leads second inner
        (omega arith, below-more around 3 4 (omega arith) below) before rest
        (right-compared program by (sum_tree left) (sum_tree second) around
        (counted before (sum_tokens second)) rest walk)))

    pub conjunction-leads : (whole : Conjunction) (around : AroundExpr) → Below 2 around →
        Leads program (conjunction_tokens whole) (unary (side disjoining around))
        (behind (conjunction_tree whole) around)
    conjunction-leads (conjunction first more) around below =
        join program (comparison_tokens first) (and_tokens more) (unary (side disjoining around))
        (behind (comparison_tree first) (chain conjoining around)) _
        (comparison-leads first (chain conjoining around)
        (omega arith, below-more around 2 3 (omega arith) below))
        (and-leads more (comparison_tree first) around below)

    pub and-leads : (more : MoreAnd) (found : Expr) (around : AroundExpr) → Below 2 around →
        Leads program (and_tokens more) (behind found (chain conjoining around))
        (behind (and_tree more found) around)
    and-leads end_and found around below = skip program conjoining around below found
    and-leads (and next more) found around below = λ before rest walk.
        let inner : AroundExpr = right conjoining op.And found around in
        took (right-side conjoining refl op.And found (comparison_tree next) around
        (comparison_tokens next) (and_tokens more) (unary (side conjoining inner)) _
        (comparison-leads next inner (omega arith, below-more around 2 3 (omega arith) below))
        (and-leads more (expr.Bin op.And found (comparison_tree next)) around below)
        (before + 1) rest walk)

    pub disjunction-leads : (whole : Disjunction) (around : AroundExpr) → Below 1 around →
        Leads program (disjunction_tokens whole) (expression around)
        (behind (disjunction_tree whole) around)
    disjunction-leads (disjunction first more) around below =
        join program (conjunction_tokens first) (or_tokens more) (expression around)
        (behind (conjunction_tree first) (chain disjoining around)) _
        (conjunction-leads first (chain disjoining around)
        (omega arith, below-more around 1 2 (omega arith) below))
        (or-leads more (conjunction_tree first) around below)

    pub or-leads : (more : MoreOr) (found : Expr) (around : AroundExpr) → Below 1 around →
        Leads program (or_tokens more) (behind found (chain disjoining around))
        (behind (or_tree more found) around)
    or-leads end_or found around below = skip program disjoining around below found
    or-leads (or next more) found around below = λ before rest walk.
        let inner : AroundExpr = right disjoining op.Or found around in
        took (right-side disjoining refl op.Or found (conjunction_tree next) around
        (conjunction_tokens next) (or_tokens more) (unary (side disjoining inner)) _
        (conjunction-leads next inner (omega arith, below-more around 1 2 (omega arith) below))
        (or-leads more (expr.Bin op.Or found (conjunction_tree next)) around below)
        (before + 1) rest walk)
