-- Parts of an expression that were read one behind the other are one.
use Rattle.std.proofs.Common.{◌≡◌, ℕ, Bool, true, false, List, ◌∷◌, ◌++◌, Option, Some, None, refl, sym, ◌∙◌, ap, append_assoc, append-nil, if◌then◌else◌}
use Rattle.ext_mean.specs.declared.statement.Kind.{Kind}
use Rattle.ext_mean.specs.declared.statement.Kind.TheVariants as kind
use Rattle.ext_mean.specs.declared.token.Mark.{Mark}
use Rattle.ext_mean.specs.declared.token.Mark.TheVariants as mark
use Rattle.ext_mean.specs.declared.token.Token.{Token}
use Rattle.ext_mean.specs.declared.token.Token.TheVariants as token
use Rattle.ext_mean.specs.declared.token.Word.TheVariants as word
use Rattle.ext_mean.specs.Grammar.{Disjunction, disjunction, Conjunction, conjunction, Comparison, only, compared, Sum, sum, Product, product}
use Rattle.ext_mean.specs.Wording.{kind_token, disjunction_tokens, or_tokens, conjunction_tokens, and_tokens, comparison_tokens, sum_tokens, add_tokens, product_tokens, multiply_tokens, unary_tokens}
use Rattle.ext_grammar.specs.Coming.{disjoining, conjoining, comparing, adding, AroundExpr, chain, unary, side, level_operand, Move, is_mark, on_mark, on_some, name_of, kind_of}
use Rattle.ext_grammar.proofs.Continuing.{Reads, Further, no_further, further, further_tokens, AfterExpr, Continues}

-- the state behind a token, if it may come, goes on with these
abbrev pub Then : Option Move → List Token → Type 0
Then None tokens = ⊥
Then (Some move) tokens = Continues move.coming tokens

pub joined : (first second : List Token) (all middle rest : List Token) → all ≡ first ++ middle →
    middle ≡ second ++ rest → all ≡ (first ++ second) ++ rest
joined first second all middle rest one two =
    one ∙ ap (λ it. first ++ it) two ∙ sym (append_assoc first second rest)

-- one token more in front, as it stands or as another that it is
pub ahead : (next : Token) (first tokens : List Token) (More : List Token → Type 0) →
    Reads first More tokens → Reads (next ∷ first) More (next ∷ tokens)
ahead next first tokens More (rest, same, more) = (rest, ap (λ it. next ∷ it) same, more)

pub ahead-as : (next as-this : Token) (first tokens : List Token) (More : List Token → Type 0) →
    next ≡ as-this → Reads first More tokens → Reads (as-this ∷ first) More (next ∷ tokens)
ahead-as next as-this first tokens More is (rest, same, more) =
    (rest, ap (λ it. it ∷ tokens) is ∙ ap (λ it. as-this ∷ it) same, more)

-- two lists of tokens that were read one behind the other
pub read-both : (first second tokens : List Token) (More : List Token → Type 0) →
    Reads first (Reads second More) tokens → Reads (first ++ second) More tokens
read-both first second tokens More (rest, one, (last, two, more)) =
    (last, joined first second tokens rest last one two, more)

pub ahead-both : (next : Token) (first second tokens : List Token) (More : List Token → Type 0) →
    Reads first (Reads second More) tokens → Reads (next ∷ (first ++ second)) More (next ∷ tokens)
ahead-both next first second tokens More reads =
    ahead next (first ++ second) tokens More (read-both first second tokens More reads)

pub ahead-as-both : (next as-this : Token) (first second tokens : List Token)
    (More : List Token → Type 0) → next ≡ as-this → Reads first (Reads second More) tokens →
    Reads (as-this ∷ (first ++ second)) More (next ∷ tokens)
ahead-as-both next as-this first second tokens More is reads =
    ahead-as next as-this (first ++ second) tokens More is
    (read-both first second tokens More reads)

-- the same tokens, written otherwise
pub read-as : (first others tokens : List Token) (More : List Token → Type 0) → first ≡ others →
    Reads first More tokens → Reads others More tokens
read-as first others tokens More same (rest, one, more) =
    (rest, one ∙ ap (λ it. it ++ rest) same, more)

-- a mark, a name and a kind
pub mark-is : (of : Mark) (next : Token) → is_mark of next ≡ true → next ≡ token.Mark of
mark-is mark.Open (token.Mark mark.Open) same = refl
mark-is mark.Close (token.Mark mark.Close) same = refl
mark-is mark.OpenBlock (token.Mark mark.OpenBlock) same = refl
mark-is mark.CloseBlock (token.Mark mark.CloseBlock) same = refl
mark-is mark.Comma (token.Mark mark.Comma) same = refl
mark-is mark.Semicolon (token.Mark mark.Semicolon) same = refl
mark-is mark.Colon (token.Mark mark.Colon) same = refl
mark-is mark.Assign (token.Mark mark.Assign) same = refl
mark-is mark.Arrow (token.Mark mark.Arrow) same = refl
mark-is mark.Arm (token.Mark mark.Arm) same = refl
mark-is _ _ same = cc

if-so : (test : Bool) (move : Option Move) (tokens : List Token) →
    Then (if test then move else None) tokens → (test ≡ true) × Then move tokens
if-so true move tokens more = (refl, more)
if-so false move tokens more = absurd more

pub from-mark : (of : Mark) (next : Token) (move : Option Move) (tokens : List Token) →
    Then (on_mark of next move) tokens → (next ≡ token.Mark of) × Then move tokens
from-mark of next move tokens more =
    let (same, after) = if-so (is_mark of next) move tokens more in (mark-is of next same, after)

pub from-name : (next : Token) (move : List ℕ → Option Move) (tokens : List Token) →
    Then (on_some (name_of next) move) tokens → (name : List ℕ) × (next ≡ token.Name name)
    × Then (move name) tokens
from-name (token.Name name) move tokens more = (name, refl, more)
from-name _ move tokens more = absurd more

pub from-kind : (next : Token) (move : Kind → Option Move) (tokens : List Token) →
    Then (on_some (kind_of next) move) tokens → (of : Kind) × (next ≡ kind_token of)
    × Then (move of) tokens
from-kind (token.Word word.Int) move tokens more = (kind.Int, refl, more)
from-kind (token.Word word.Bool) move tokens more = (kind.Bool, refl, more)
from-kind (token.Word word.Slice) move tokens more = (kind.Slice, refl, more)
from-kind (token.Word word.Buf) move tokens more = (kind.Buf, refl, more)
from-kind (token.Word word.Temp) move tokens more = (kind.Temp, refl, more)
from-kind _ move tokens more = absurd more

-- a chain of each level
pub product-read : (around : AroundExpr) (tokens : List Token) →
    Continues (unary (side adding around)) tokens →
    (whole : Product) × Reads (product_tokens whole) (AfterExpr around) tokens
product-read around tokens (operand, (rest, one, (more, reads))) = (
  product operand more,
  read-both (unary_tokens operand) (multiply_tokens more) tokens
      (AfterExpr around) (rest, one, reads),
)

pub sum-read : (around : AroundExpr) (tokens : List Token) →
    Continues (unary (side comparing around)) tokens →
    (whole : Sum) × Reads (sum_tokens whole) (AfterExpr around) tokens
sum-read around tokens read =
    let (first, (rest, one, (more, reads))) = product-read (chain adding around) tokens read in (
      sum first more,
      read-both (product_tokens first) (add_tokens more) tokens (AfterExpr around)
          (rest, one, reads),
    )

compare : Sum → Further → Comparison
compare first no_further = only first
compare first (further by second) = compared first by second

compare-is : (first : Sum) (more : Further) →
    sum_tokens first ++ further_tokens more ≡ comparison_tokens (compare first more)
unfolding compare
compare-is first no_further = append-nil (sum_tokens first)
compare-is first (further by second) = refl

pub comparison-read : (around : AroundExpr) (tokens : List Token) →
    Continues (unary (side conjoining around)) tokens →
    (whole : Comparison) × Reads (comparison_tokens whole) (AfterExpr around) tokens
comparison-read around tokens read =
    let (first, (rest, one, (more, reads))) = sum-read (chain comparing around) tokens read in (
      compare first more,
      read-as (sum_tokens first ++ further_tokens more)
          (comparison_tokens (compare first more)) tokens
          (AfterExpr around) (compare-is first more)
          (read-both (sum_tokens first) (further_tokens more) tokens (AfterExpr around)
          (rest, one, reads)),
    )

pub conjunction-read : (around : AroundExpr) (tokens : List Token) →
    Continues (unary (side disjoining around)) tokens →
    (whole : Conjunction) × Reads (conjunction_tokens whole) (AfterExpr around) tokens
conjunction-read around tokens read =
    let (first, (rest, one, (more, reads))) = comparison-read (chain conjoining around) tokens
    read in (
      conjunction first more,
      read-both (comparison_tokens first) (and_tokens more) tokens
          (AfterExpr around) (rest, one, reads),
    )

pub whole-read : (around : AroundExpr) (tokens : List Token) →
    Continues (unary (level_operand around)) tokens →
    (whole : Disjunction) × Reads (disjunction_tokens whole) (AfterExpr around) tokens
whole-read around tokens read =
    let (first, (rest, one, (more, reads))) = conjunction-read (chain disjoining around) tokens
    read in (
      disjunction first more,
      read-both (conjunction_tokens first) (or_tokens more) tokens
          (AfterExpr around) (rest, one, reads),
    )
