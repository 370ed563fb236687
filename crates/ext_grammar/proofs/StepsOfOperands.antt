-- A token that the reader takes as an operand is one that the grammar may have there.
use Rattle.std.proofs.Common.{ℕ, true, false, List, [], ◌∷◌, ◌++◌, refl, ◌∙◌, ap}
use Rattle.ext_mean.specs.declared.token.Mark.TheVariants as mark
use Rattle.ext_mean.specs.declared.token.Token.{Token}
use Rattle.ext_mean.specs.declared.token.Token.TheVariants as token
use Rattle.ext_mean.specs.declared.token.Word.TheVariants as word
use Rattle.ext_mean.specs.Grammar.{Braces, open_end, returning, Arms, arms, equal, not_equal, less, less_equal, greater, greater_equal, plus, minus, times, over, remainder, Disjunction, MoreOr, end_or, or, MoreAnd, end_and, and, MoreSum, end_sum, add, MoreProduct, end_product, multiply, Unary, plain, Primary, number, string, truth, variable, parentheses, args, len, view, temp, byte, u64, sub, alloc, MoreArguments, end_arguments, argument}
use Rattle.ext_mean.specs.Grammar as grammar
use Rattle.ext_mean.specs.Wording.{primary_tokens, open_, close, comma, disjunction_tokens}
use Rattle.ext_grammar.specs.Coming.{Level, disjoining, conjoining, comparing, adding, multiplying, AroundBlock, if_block, while_block, AroundStatement, in_block, AroundExpr, Looking, chain, right, negated, in_parentheses, only_operand, first_of_two, second_of_two, first_of_three, second_of_three, third_of_three, call_argument, let_value, assigned, if_test, while_test, get_table, get_key, multiget_table, multiget_keys, multiget_width, write_place, write_value, del_table, del_key, answered, returned, Coming, fixed, unary, primary, behind, last_brace, some_word, expression, Move, stays, ends, done, operator_of, is_mark, on_mark, on_primary, on_unary, on_chain, on_behind, opens, statements}
use Rattle.ext_grammar.specs.Coming as coming
use Rattle.ext_grammar.proofs.Continuing.{Reads, AfterExpr, Continues}
use Rattle.ext_grammar.proofs.Joined.{ahead-both, ahead, Then, whole-read}

-- behind a `(` an expression, and what follows it
pub opened : (within : AroundExpr) (tokens : List Token) →
    Continues (fixed mark.Open (expression within)) tokens →
    (inner : Disjunction) × Reads (open_ ∷ disjunction_tokens inner) (AfterExpr within) tokens
opened within tokens (rest, same, read) =
    let (inner, (last, other, after)) = whole-read within rest read in
    (inner, (last, same ∙ ap (λ it. open_ ∷ it) other, after))

pub primary-step : (around : AroundExpr) (before : ℕ) (next : Token) (tokens : List Token) →
    Then (on_primary around before next) tokens → Continues (primary around) (next ∷ tokens)
primary-step around before (token.Number value) tokens more = (number value, (tokens, refl, more))
primary-step around before (token.Str items) tokens more = (string items, (tokens, refl, more))
primary-step around before (token.Name name) tokens more = (variable name, (tokens, refl, more))
primary-step around before (token.Word word.True) tokens more = (truth true, (tokens, refl, more))
primary-step around before (token.Word word.False) tokens more = (truth false, (tokens, refl, more))
primary-step around before (token.Mark mark.Open) tokens more =
    let (inner, reads) = whole-read (in_parentheses around) tokens more in (
      parentheses inner,
      ahead-both open_ (disjunction_tokens inner) (close ∷ []) tokens
          (AfterExpr around) reads,
    )
primary-step around before (token.Word word.Args) tokens reads = (
  args,
  ahead-both (token.Word word.Args) (open_ ∷ []) (close ∷ []) tokens (AfterExpr around)
      reads,
)
primary-step around before (token.Word word.View) tokens (rest, one, (name, reads)) = (
  view name,
  ahead-both (token.Word word.View) (open_ ∷ []) (token.Name name ∷ close ∷ []) tokens
      (AfterExpr around) (rest, one, reads),
)
primary-step around before (token.Word word.Len) tokens more =
    let (inner, reads) = opened (only_operand coming.len around) tokens more in (
      len inner,
      ahead-both (token.Word word.Len) (open_ ∷ disjunction_tokens inner)
          (close ∷ []) tokens (AfterExpr around) reads,
    )
primary-step around before (token.Word word.Temp) tokens more =
    let (inner, reads) = opened (only_operand coming.temp around) tokens more in (
      temp inner,
      ahead-both (token.Word word.Temp) (open_ ∷ disjunction_tokens inner)
          (close ∷ []) tokens (AfterExpr around) reads,
    )
primary-step around before (token.Word word.Byte) tokens more =
    let (inner, (rest, one, (second, reads))) = opened (first_of_two coming.byte around) tokens
    more in (
      byte inner second,
      ahead-both (token.Word word.Byte) (open_ ∷ disjunction_tokens inner)
          (comma ∷ (disjunction_tokens second ++ close ∷ [])) tokens (AfterExpr around)
          (rest, one, reads),
    )
primary-step around before (token.Word word.U64) tokens more =
    let (inner, (rest, one, (second, reads))) = opened (first_of_two coming.u64 around) tokens
    more in (
      u64 inner second,
      ahead-both (token.Word word.U64) (open_ ∷ disjunction_tokens inner)
          (comma ∷ (disjunction_tokens second ++ close ∷ [])) tokens (AfterExpr around)
          (rest, one, reads),
    )
primary-step around before (token.Word word.Sub) tokens more =
    let (inner, (rest, one, (second, third, reads))) =
    opened (first_of_three coming.sub around) tokens more in (
      sub inner second third,
      ahead-both (token.Word word.Sub) (open_ ∷ disjunction_tokens inner)
          (comma ∷ (disjunction_tokens second ++ comma ∷ (disjunction_tokens third ++ close ∷ [])))
          tokens (AfterExpr around) (rest, one, reads),
    )
primary-step around before (token.Word word.Alloc) tokens more =
    let (inner, (rest, one, (second, third, reads))) =
    opened (first_of_three coming.alloc around) tokens more in (
      alloc inner second third,
      ahead-both (token.Word word.Alloc) (open_ ∷ disjunction_tokens inner)
          (comma ∷ (disjunction_tokens second ++ comma ∷ (disjunction_tokens third ++ close ∷ [])))
          tokens (AfterExpr around) (rest, one, reads),
    )
primary-step around before _ tokens more = absurd more

pub unary-step : (around : AroundExpr) (before : ℕ) (next : Token) (tokens : List Token) →
    Then (on_unary around before next) tokens → Continues (unary around) (next ∷ tokens)
unary-step around before token.Not tokens (operand, reads) = (
  grammar.negated operand,
  ahead token.Not (primary_tokens operand) tokens (AfterExpr around)
      reads,
)
unary-step around before next tokens more =
    let (operand, reads) = primary-step around before next tokens more in (plain operand, reads)
