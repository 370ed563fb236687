-- An operator that the reader takes is one that the grammar may have there.
use Rattle.std.proofs.Common.{ℕ, List, ◌∷◌, refl}
use Rattle.ext_mean.specs.declared.expr.BinOp.TheVariants as op
use Rattle.ext_mean.specs.declared.expr.Expr.{Expr}
use Rattle.ext_mean.specs.declared.token.Token.{Token}
use Rattle.ext_mean.specs.declared.token.Token.TheVariants as token
use Rattle.ext_mean.specs.Grammar.{equal, not_equal, less, less_equal, greater, greater_equal, plus, minus, times, over, remainder, MoreOr, end_or, or, MoreAnd, end_and, and, MoreSum, end_sum, add, MoreProduct, end_product, multiply}
use Rattle.ext_mean.specs.Wording.{unary_tokens, conjunction_tokens, comparison_tokens, sum_tokens, product_tokens, or_tokens, and_tokens, add_tokens, multiply_tokens}
use Rattle.ext_grammar.specs.Coming.{Level, disjoining, conjoining, comparing, adding, multiplying, AroundExpr, right, operator_of, on_chain, on_behind}
use Rattle.ext_grammar.proofs.Continuing.{Reads, Further, no_further, further, further_tokens, AfterExpr}
use Rattle.ext_grammar.proofs.Joined.{ahead-both, ahead, Then, product-read, sum-read, comparison-read, conjunction-read}

-- an operator of a level, or what may come instead
abbrev Instead : AroundExpr → Expr → ℕ → Token → List Token → Type 0
Instead around found before next tokens =
    Then (on_behind found around before next) tokens → AfterExpr around (next ∷ tokens)

abbrev Chained : Level → AroundExpr → Expr → ℕ → Token → List Token → Type 0
Chained level around found before next tokens =
    Then (on_chain level found around before (operator_of next)
    (on_behind found around before next)) tokens

pub or-step : (around : AroundExpr) (found : Expr) (before : ℕ) (next : Token)
    (tokens : List Token) →
    Instead around found before next tokens → Chained disjoining around found before next tokens →
    (more : MoreOr) × Reads (or_tokens more) (AfterExpr around) (next ∷ tokens)
or-step around found before (token.Binary op.Or) tokens instead read =
    let (first, (rest, one, (more, reads))) = conjunction-read (right disjoining op.Or found around)
    tokens read in (
      or first more,
      ahead-both (token.Binary op.Or) (conjunction_tokens first) (or_tokens more)
          tokens (AfterExpr around) (rest, one, reads),
    )
or-step around found before next tokens instead read = (end_or, (next ∷ tokens, refl, instead read))

pub and-step : (around : AroundExpr) (found : Expr) (before : ℕ) (next : Token)
    (tokens : List Token) →
    Instead around found before next tokens → Chained conjoining around found before next tokens →
    (more : MoreAnd) × Reads (and_tokens more) (AfterExpr around) (next ∷ tokens)
and-step around found before (token.Binary op.And) tokens instead read =
    let (first, (rest, one, (more, reads))) = comparison-read (right conjoining op.And found around)
    tokens read in (
      and first more,
      ahead-both (token.Binary op.And) (comparison_tokens first) (and_tokens more)
          tokens (AfterExpr around) (rest, one, reads),
    )
and-step around found before next tokens instead read =
    (end_and, (next ∷ tokens, refl, instead read))

pub add-step : (around : AroundExpr) (found : Expr) (before : ℕ) (next : Token)
    (tokens : List Token) →
    Instead around found before next tokens → Chained adding around found before next tokens →
    (more : MoreSum) × Reads (add_tokens more) (AfterExpr around) (next ∷ tokens)
add-step around found before (token.Binary op.Add) tokens instead read =
    let (first, (rest, one, (more, reads))) = product-read (right adding op.Add found around) tokens
    read in (
      add plus first more,
      ahead-both (token.Binary op.Add) (product_tokens first) (add_tokens more)
          tokens (AfterExpr around) (rest, one, reads),
    )
add-step around found before (token.Binary op.Subtract) tokens instead read =
    let (first, (rest, one, (more, reads))) = product-read (right adding op.Subtract found around)
    tokens read in (
      add minus first more,
      ahead-both (token.Binary op.Subtract) (product_tokens first)
          (add_tokens more) tokens (AfterExpr around) (rest, one, reads),
    )
add-step around found before next tokens instead read =
    (end_sum, (next ∷ tokens, refl, instead read))

pub multiply-step : (around : AroundExpr) (found : Expr) (before : ℕ) (next : Token)
    (tokens : List Token) →
    Instead around found before next tokens → Chained multiplying around found before next tokens →
    (more : MoreProduct) × Reads (multiply_tokens more) (AfterExpr around) (next ∷ tokens)
multiply-step around found before (token.Binary op.Multiply) tokens instead
    (first, (rest, one, (more, reads))) = (
      multiply times first more,
      ahead-both (token.Binary op.Multiply) (unary_tokens first)
          (multiply_tokens more) tokens (AfterExpr around) (rest, one, reads),
    )
multiply-step around found before (token.Binary op.Divide) tokens instead
    (first, (rest, one, (more, reads))) = (
      multiply over first more,
      ahead-both (token.Binary op.Divide) (unary_tokens first)
          (multiply_tokens more) tokens (AfterExpr around) (rest, one, reads),
    )
multiply-step around found before (token.Binary op.Remainder) tokens instead
    (first, (rest, one, (more, reads))) = (
      multiply remainder first more,
      ahead-both (token.Binary op.Remainder) (unary_tokens first)
          (multiply_tokens more) tokens (AfterExpr around) (rest, one, reads),
    )
multiply-step around found before next tokens instead read =
    (end_product, (next ∷ tokens, refl, instead read))

pub compare-step : (around : AroundExpr) (found : Expr) (before : ℕ) (next : Token)
    (tokens : List Token) →
    Instead around found before next tokens → Chained comparing around found before next tokens →
    (more : Further) × Reads (further_tokens more) (AfterExpr around) (next ∷ tokens)
compare-step around found before (token.Binary op.Equal) tokens instead read =
    let (second, reads) = sum-read (right comparing op.Equal found around) tokens read in (
      further equal second,
      ahead (token.Binary op.Equal) (sum_tokens second) tokens
          (AfterExpr around) reads,
    )
compare-step around found before (token.Binary op.NotEqual) tokens instead read =
    let (second, reads) = sum-read (right comparing op.NotEqual found around) tokens read in (
      further not_equal second,
      ahead (token.Binary op.NotEqual) (sum_tokens second) tokens
          (AfterExpr around) reads,
    )
compare-step around found before (token.Binary op.Less) tokens instead read =
    let (second, reads) = sum-read (right comparing op.Less found around) tokens read in (
      further less second,
      ahead (token.Binary op.Less) (sum_tokens second) tokens (AfterExpr around)
          reads,
    )
compare-step around found before (token.Binary op.LessEqual) tokens instead read =
    let (second, reads) = sum-read (right comparing op.LessEqual found around) tokens read in (
      further less_equal second,
      ahead (token.Binary op.LessEqual) (sum_tokens second) tokens
          (AfterExpr around) reads,
    )
compare-step around found before (token.Binary op.Greater) tokens instead read =
    let (second, reads) = sum-read (right comparing op.Greater found around) tokens read in (
      further greater second,
      ahead (token.Binary op.Greater) (sum_tokens second) tokens
          (AfterExpr around) reads,
    )
compare-step around found before (token.Binary op.GreaterEqual) tokens instead read =
    let (second, reads) = sum-read (right comparing op.GreaterEqual found around) tokens read in (
      further greater_equal second,
      ahead (token.Binary op.GreaterEqual) (sum_tokens second) tokens
          (AfterExpr around) reads,
    )
compare-step around found before next tokens instead read =
    (no_further, (next ∷ tokens, refl, instead read))
