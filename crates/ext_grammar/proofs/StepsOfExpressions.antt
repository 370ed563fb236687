-- A token that the reader takes behind an expression is one that the grammar may have there.
use Rattle.std.proofs.Common.{◌≡◌, ℕ, Bool, true, false, List, [], ◌∷◌, ◌++◌, Option, ◌⊎◌, refl, sym, ap, append_assoc, inl, inr, if◌then◌else◌}
use Rattle.ext_mean.specs.declared.expr.Expr.{Expr}
use Rattle.ext_mean.specs.declared.expr.Expr.TheVariants as expr
use Rattle.ext_mean.specs.declared.token.Mark.{Mark}
use Rattle.ext_mean.specs.declared.token.Mark.TheVariants as mark
use Rattle.ext_mean.specs.declared.token.Token.{Token}
use Rattle.ext_mean.specs.declared.token.Token.TheVariants as token
use Rattle.ext_mean.specs.declared.token.Word.TheVariants as word
use Rattle.ext_mean.specs.declared.statement.Kind.{Kind}
use Rattle.ext_mean.specs.declared.statement.Statement.{Statement}
use Rattle.ext_mean.specs.declared.statement.Statement.TheVariants as does
use Rattle.ext_mean.specs.Derived.{write_tree}
use Rattle.ext_mean.specs.Grammar.{Braces, open_end, returning, Arms, arms, Disjunction, MoreArguments, end_arguments, argument}
use Rattle.ext_mean.specs.Wording.{close, open_block, close_block, comma, semicolon, disjunction_tokens, more_arguments_tokens}
use Rattle.ext_grammar.specs.Coming.{Level, disjoining, conjoining, comparing, adding, multiplying, AroundBlock, if_block, while_block, AroundStatement, in_block, AroundExpr, Looking, chain, right, negated, in_parentheses, only_operand, first_of_two, second_of_two, first_of_three, second_of_three, third_of_three, call_argument, let_value, assigned, if_test, while_test, get_table, get_key, multiget_table, multiget_keys, multiget_width, write_place, write_value, del_table, del_key, answered, returned, Coming, fixed, unary, primary, behind, last_brace, some_word, expression, Move, stays, ends, done, operator_of, is_mark, on_mark, on_primary, on_unary, on_chain, on_behind, opens, statements}
use Rattle.ext_grammar.specs.Coming as coming
use Rattle.ext_grammar.proofs.BareTokens.{braces_tokens, arms_tokens}
use Rattle.ext_grammar.proofs.Continuing.{Reads, otherwise_tokens, inner_tokens, named_tokens, AfterBlock, AfterStatement, AfterExpr, Continues}
use Rattle.ext_grammar.proofs.Joined.{ahead-as-both, ahead-as, read-both, read-as, Then, mark-is, from-mark, whole-read}
use Rattle.ext_grammar.proofs.StepsOfOperators.{or-step, and-step, compare-step, add-step, multiply-step}

-- one mark, and what follows it; a mark and others
pub one-mark : (of : Mark) (next : Token) (move : Option Move) (tokens : List Token)
    (More : List Token → Type 0) → (Then move tokens → More tokens) →
    Then (on_mark of next move) tokens → Reads (token.Mark of ∷ []) More (next ∷ tokens)
one-mark of next move tokens More goes read =
    let (same, after) = from-mark of next move tokens read in
    (tokens, ap (λ it. it ∷ tokens) same, goes after)

two-marks : (of : Mark) (next : Token) (move : Option Move) (tokens others : List Token)
    (More : List Token → Type 0) → (Then move tokens → Reads others More tokens) →
    Then (on_mark of next move) tokens → Reads (token.Mark of ∷ others) More (next ∷ tokens)
two-marks of next move tokens others More goes read =
    let (same, after) = from-mark of next move tokens read in
    ahead-as next (token.Mark of) others tokens More same (goes after)

-- behind a comma an expression, and what follows it
comma-then : (around : AroundExpr) (next : Token) (before : ℕ) (tokens : List Token) →
    Then (on_mark mark.Comma next (stays before (expression around))) tokens →
    (whole : Disjunction) × Reads (comma ∷ disjunction_tokens whole) (AfterExpr around)
    (next ∷ tokens)
comma-then around next before tokens read =
    let (same, after) = from-mark mark.Comma next (stays before (expression around)) tokens read in
    let (whole, reads) = whole-read around tokens after in
    (whole, ahead-as next comma (disjunction_tokens whole) tokens (AfterExpr around) same reads)

-- a block
braces-is : (block : Braces) → open_block ∷ inner_tokens block ≡ braces_tokens block
braces-is (open_end all) = refl
braces-is (returning all whole) = refl

pub opened-block : (around : AroundBlock) (before : ℕ) (next : Token) (tokens : List Token) →
    Then (opens around before next) tokens →
    (block : Braces) × Reads (braces_tokens block) (AfterBlock around) (next ∷ tokens)
opened-block around before next tokens read =
    let (same, (block, reads)) =
    from-mark mark.OpenBlock next (ends before (statements [] around)) tokens read in (
      block,
      read-as (open_block ∷ inner_tokens block) (braces_tokens block) (next ∷ tokens)
          (AfterBlock around) (braces-is block)
          (ahead-as next open_block (inner_tokens block) tokens (AfterBlock around) same reads),
    )

pub done-after : (statement : Statement) (around : AroundStatement) (tokens : List Token) →
    Continues (done statement around) tokens → AfterStatement around tokens
done-after statement (in_block known around) tokens after = after

-- the arms of a read behind its `)`
armed : (looking : Looking) (around : AroundStatement) (before : ℕ) (next : Token)
    (tokens : List Token) →
    Then (on_mark mark.Close next (stays before (fixed mark.OpenBlock (some_word looking around))))
    tokens →
    (both : Arms) × Reads (close ∷ arms_tokens both) (AfterStatement around) (next ∷ tokens)
armed looking around before next tokens read =
    let (same, (rest, one, (name, block, other, reads))) = from-mark mark.Close next
    (stays before (fixed mark.OpenBlock (some_word looking around))) tokens read in (
      arms name block other,
      ahead-as-both next close (open_block ∷ [])
          (token.Word word.Some ∷ named_tokens name block other) tokens (AfterStatement around) same
          (rest, one, reads),
    )

-- the arguments of a call
either : (test : Bool) (move other : Option Move) (tokens : List Token) →
    Then (if test then move else other) tokens →
    ((test ≡ true) × Then move tokens) ⊎ Then other tokens
either true move other tokens read = inl (refl, read)
either false move other tokens read = inr read

abbrev Argued : AroundStatement → List Token → Type 0
Argued around tokens =
    (more : MoreArguments)
    × Reads (more_arguments_tokens more ++ close ∷ semicolon ∷ []) (AfterStatement around) tokens

argument-on : (around : AroundStatement) (next : Token) (tokens : List Token) → next ≡ comma →
    (whole : Disjunction) × Reads (disjunction_tokens whole) (Argued around) tokens →
    Argued around (next ∷ tokens)
argument-on around next tokens same (whole, (rest, one, (more, reads))) =
    let first : List Token = disjunction_tokens whole in
    let others : List Token = more_arguments_tokens more in
    let ending : List Token = close ∷ semicolon ∷ [] in (
      argument whole more,
      ahead-as next comma ((first ++ others) ++ ending) tokens
          (AfterStatement around) same
          (read-as (first ++ (others ++ ending)) ((first ++ others) ++ ending) tokens
          (AfterStatement around)
          (sym (append_assoc first others ending))
          (read-both first (others ++ ending) tokens (AfterStatement around) (rest, one, reads))),
    )

argument-step : (name : List ℕ) (of : Kind) (called : List ℕ) (values : List Expr)
    (around : AroundStatement) (found : Expr) (before : ℕ) (next : Token) (tokens : List Token) →
    Then (on_behind found (call_argument name of called values around) before next) tokens →
    AfterExpr (call_argument name of called values around) (next ∷ tokens)
argument-step name of called values around found before next tokens read =
    let known : List Expr = values ++ found ∷ [] in
    elim (either (is_mark mark.Comma next) _ _ tokens read) [
      | inl (same, again) ↦
          argument-on around next tokens (mark-is mark.Comma next same)
          (whole-read (call_argument name of called known around) tokens again)
      | inr closing ↦ (
        end_arguments,
        two-marks mark.Close next
            (stays before (coming.semicolon (does.LetCall name of called known) around)) tokens
            (semicolon ∷ []) (AfterStatement around) (λ it. it) closing,
      )
    ]

pub expr-step : (around : AroundExpr) (found : Expr) (before : ℕ) (next : Token)
    (tokens : List Token) →
    Then (on_behind found around before next) tokens → AfterExpr around (next ∷ tokens)
expr-step (chain disjoining around) found before next tokens read =
    or-step around found before next tokens
    (λ more. expr-step around found before next tokens more) read
expr-step (chain conjoining around) found before next tokens read =
    and-step around found before next tokens
    (λ more. expr-step around found before next tokens more) read
expr-step (chain comparing around) found before next tokens read =
    compare-step around found before next tokens
    (λ more. expr-step around found before next tokens more) read
expr-step (chain adding around) found before next tokens read =
    add-step around found before next tokens
    (λ more. expr-step around found before next tokens more) read
expr-step (chain multiplying around) found before next tokens read =
    multiply-step around found before next tokens
    (λ more. expr-step around found before next tokens more) read
expr-step (right disjoining by left around) found before next tokens read =
    or-step around (expr.Bin by left found) before next tokens
    (λ more. expr-step around (expr.Bin by left found) before next tokens more) read
expr-step (right conjoining by left around) found before next tokens read =
    and-step around (expr.Bin by left found) before next tokens
    (λ more. expr-step around (expr.Bin by left found) before next tokens more) read
expr-step (right adding by left around) found before next tokens read =
    add-step around (expr.Bin by left found) before next tokens
    (λ more. expr-step around (expr.Bin by left found) before next tokens more) read
expr-step (right multiplying by left around) found before next tokens read =
    multiply-step around (expr.Bin by left found) before next tokens
    (λ more. expr-step around (expr.Bin by left found) before next tokens more) read
expr-step (right comparing by left around) found before next tokens read =
    expr-step around (expr.Bin by left found) before next tokens read
expr-step (negated around) found before next tokens read =
    expr-step around (expr.Not found) before next tokens read
expr-step (in_parentheses around) found before next tokens read =
    one-mark mark.Close next _ tokens (AfterExpr around) (λ it. it) read
expr-step (only_operand of around) found before next tokens read =
    one-mark mark.Close next _ tokens (AfterExpr around) (λ it. it) read
expr-step (second_of_two of first around) found before next tokens read =
    one-mark mark.Close next _ tokens (AfterExpr around) (λ it. it) read
expr-step (third_of_three of first second around) found before next tokens read =
    one-mark mark.Close next _ tokens (AfterExpr around) (λ it. it) read
expr-step (first_of_two of around) found before next tokens read =
    let (whole, reads) = comma-then (second_of_two of found around) next before tokens read in (
      whole,
      read-both (comma ∷ disjunction_tokens whole) (close ∷ []) (next ∷ tokens)
          (AfterExpr around) reads,
    )
expr-step (first_of_three of around) found before next tokens read =
    let (whole, (rest, one, (third, reads))) =
    comma-then (second_of_three of found around) next before tokens read in (
      whole,
      third,
      read-both (comma ∷ disjunction_tokens whole)
          (comma ∷ (disjunction_tokens third ++ close ∷ [])) (next ∷ tokens) (AfterExpr around)
          (rest, one, reads),
    )
expr-step (second_of_three of first around) found before next tokens read =
    let (whole, reads) = comma-then (third_of_three of first found around) next before tokens
    read in (
      whole,
      read-both (comma ∷ disjunction_tokens whole) (close ∷ []) (next ∷ tokens)
          (AfterExpr around) reads,
    )
expr-step (call_argument name of called values around) found before next tokens read =
    argument-step name of called values around found before next tokens read
expr-step (let_value name of around) found before next tokens read =
    one-mark mark.Semicolon next (ends before (done (does.Let name of found) around)) tokens
    (AfterStatement around) (λ it. done-after (does.Let name of found) around tokens it) read
expr-step (assigned name around) found before next tokens read =
    one-mark mark.Semicolon next (ends before (done (does.Assign name found) around)) tokens
    (AfterStatement around) (λ it. done-after (does.Assign name found) around tokens it) read
expr-step (if_test around) found before next tokens read =
    let (block, (rest, one, (other, reads))) =
    opened-block (if_block found before around) before next tokens read in (
      block,
      other,
      read-both (braces_tokens block) (otherwise_tokens other) (next ∷ tokens)
          (AfterStatement around) (rest, one, reads),
    )
expr-step (while_test around) found before next tokens read =
    opened-block (while_block found around) before next tokens read
expr-step (get_table around) found before next tokens read =
    let (whole, (rest, one, (both, reads))) =
    comma-then (get_key found around) next before tokens read in (
      whole,
      both,
      read-both (comma ∷ disjunction_tokens whole) (close ∷ arms_tokens both)
          (next ∷ tokens) (AfterStatement around) (rest, one, reads),
    )
expr-step (get_key table around) found before next tokens read =
    armed (coming.get table found) around before next tokens read
expr-step (multiget_table around) found before next tokens read =
    let (whole, (rest, one, (width, both, reads))) =
    comma-then (multiget_keys found around) next before tokens read in (
      whole,
      width,
      both,
      read-both (comma ∷ disjunction_tokens whole)
          (comma ∷ (disjunction_tokens width ++ close ∷ arms_tokens both))
          (next ∷ tokens) (AfterStatement around) (rest, one, reads),
    )
expr-step (multiget_keys table around) found before next tokens read =
    let (whole, (rest, one, (both, reads))) =
    comma-then (multiget_width table found around) next before tokens read in (
      whole,
      both,
      read-both (comma ∷ disjunction_tokens whole) (close ∷ arms_tokens both)
          (next ∷ tokens) (AfterStatement around) (rest, one, reads),
    )
expr-step (multiget_width table keys around) found before next tokens read =
    armed (coming.multiget table keys found) around before next tokens read
expr-step (write_place writing name around) found before next tokens read =
    let (whole, reads) = comma-then (write_value writing name found around) next before tokens
    read in (
      whole,
      read-both (comma ∷ disjunction_tokens whole) (close ∷ semicolon ∷ []) (next ∷ tokens)
          (AfterStatement around) reads,
    )
expr-step (del_table around) found before next tokens read =
    let (whole, reads) = comma-then (del_key found around) next before tokens read in (
      whole,
      read-both (comma ∷ disjunction_tokens whole) (close ∷ semicolon ∷ []) (next ∷ tokens)
          (AfterStatement around) reads,
    )
expr-step (write_value writing name place around) found before next tokens read =
    two-marks mark.Close next (stays before
    (coming.semicolon (write_tree writing name place found) around)) tokens
    (semicolon ∷ []) (AfterStatement around) (λ it. it) read
expr-step (del_key table around) found before next tokens read =
    two-marks mark.Close next (stays before (coming.semicolon (does.Del table found) around)) tokens
    (semicolon ∷ []) (AfterStatement around) (λ it. it) read
expr-step (answered around) found before next tokens read =
    two-marks mark.Close next (stays before (coming.semicolon (does.Resp found) around)) tokens
    (semicolon ∷ []) (AfterStatement around) (λ it. it) read
expr-step (returned known around) found before next tokens read =
    two-marks mark.Semicolon next (ends before
    (last_brace (known ++ does.Return found ∷ []) around))
    tokens (close_block ∷ []) (AfterBlock around) (λ it. it) read
