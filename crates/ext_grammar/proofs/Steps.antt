-- A token that the reader takes is one that the grammar may have there.
use Rattle.std.proofs.Common.{ℕ, List, [], ◌∷◌, ◌++◌, ◌∙◌, ap}
use Rattle.ext_mean.specs.declared.statement.Block.{Block}
use Rattle.ext_mean.specs.declared.statement.Kind.{Kind}
use Rattle.ext_mean.specs.declared.token.Mark.TheVariants as mark
use Rattle.ext_mean.specs.declared.token.Token.{Token}
use Rattle.ext_mean.specs.declared.token.Token.TheVariants as token
use Rattle.ext_mean.specs.declared.token.Word.TheVariants as word
use Rattle.ext_mean.specs.declared.tree.Function.{Function}
use Rattle.ext_mean.specs.declared.tree.Param.{Param}
use Rattle.ext_mean.specs.Derived.{block_of}
use Rattle.ext_mean.specs.Grammar.{Parameters, Braces, end_parameters, no_parameters, parameters, function, define, program}
use Rattle.ext_mean.specs.Grammar as grammar
use Rattle.ext_mean.specs.Wording.{open_, close, close_block, comma, semicolon, colon, assigns, fn_token, kind_token, disjunction_tokens}
use Rattle.ext_grammar.specs.Coming.{AroundStatement, Looking, write_place, Coming, fixed, unary, primary, behind, view_name, let_name, let_kind, value, behind_name, first_argument, written_name, put_name, some_word, some_name, none_word, arms_end, braces, statements, last_brace, maybe_else, functions, function_name, first_parameter, parameter, parameter_kind, behind_parameter, result_kind, Move, stays, names, ends, stands_out, done, closed, expression, on_some, on_mark, on_some_word, on_none_word, on_functions, on_first_parameter, on_behind_parameter, on_token}
use Rattle.ext_grammar.specs.Coming as coming
use Rattle.ext_grammar.proofs.BareTokens.{more_parameters_tokens, braces_tokens, parameters_tokens, signature_end}
use Rattle.ext_grammar.proofs.Continuing.{named_tokens, none_tokens, valued_tokens, AreFunctions, AfterBlock, AfterStatement, AfterExpr, Continues}
use Rattle.ext_grammar.proofs.Joined.{ahead-both, ahead-as-both, ahead, ahead-as, read-both, Then, from-name, from-kind, whole-read}
use Rattle.ext_grammar.proofs.StepsOfOperands.{primary-step, unary-step}
use Rattle.ext_grammar.proofs.StepsOfExpressions.{one-mark, expr-step, opened-block, done-after}
use Rattle.ext_grammar.proofs.StepsOfStatements.{closed-after, value-step, called-step, arguments-step, statements-step, else-step}

-- the arms of a read
some-step : (looking : Looking) (around : AroundStatement) (before : ℕ) (next : Token)
    (tokens : List Token) → Then (on_some_word looking around before next) tokens →
    Continues (some_word looking around) (next ∷ tokens)
some-step looking around before (token.Word word.Some) tokens (name, block, other, reads) = (
  name,
  block,
  other,
  ahead (token.Word word.Some) (named_tokens name block other) tokens
      (AfterStatement around) reads,
)
some-step looking around before _ tokens read = absurd read

none-step : (operators : ℕ) (looking : Looking) (name : List ℕ) (block : Block)
    (around : AroundStatement) (before : ℕ) (next : Token) (tokens : List Token) →
    Then (on_none_word looking name block around before next) tokens →
    Continues (none_word operators looking name block around) (next ∷ tokens)
none-step operators looking name block around before (token.Word word.None) tokens
    (rest, one, (other, reads)) =
    let More : List Token → Type 0 = AfterStatement around in (
      other,
      ahead-both (token.Word word.None) (token.Mark mark.Arm ∷ [])
          (braces_tokens other ++ close_block ∷ []) tokens More
          (rest, one, read-both (braces_tokens other) (close_block ∷ []) rest More reads),
    )
none-step operators looking name block around before _ tokens read = absurd read

-- functions and their parameters
abbrev heading : List ℕ → Parameters → Kind → Braces → List Token
heading name params result body =
    token.Name name ∷ open_ ∷ (parameters_tokens params ++ signature_end result body)

functions-step : (known : List Function) (next : Token) (tokens : List Token) →
    Then (on_functions known next) tokens → Continues (functions known) (next ∷ tokens)
functions-step [] (token.Word word.Fn) tokens (name, params, result, body, (rest, one, (more, two)))
    = (
      program (function name params result body) more,
      ap (λ it. fn_token ∷ it) (one ∙ ap (λ it. heading name params result body ++ it) two),
    )
functions-step (first ∷ known) (token.Word word.Fn) tokens
    (name, params, result, body, (rest, one, (more, two))) = (
      define (function name params result body) more,
      ap (λ it. fn_token ∷ it) (one ∙ ap (λ it. heading name params result body ++ it) two),
    )
functions-step known _ tokens read = absurd read

first-parameter-step : (known : List Function) (name : List ℕ) (before : ℕ) (next : Token)
    (tokens : List Token) → Then (on_first_parameter known name before next) tokens →
    Continues (first_parameter known name) (next ∷ tokens)
first-parameter-step known name before (token.Mark mark.Close) tokens
    (rest, one, (result, body, reads)) = (
      no_parameters,
      result,
      body,
      ahead-both close (token.Mark mark.Arrow ∷ [])
          (kind_token result ∷ braces_tokens body) tokens AreFunctions (rest, one, reads),
    )
first-parameter-step known name before (token.Name param) tokens
    (rest, one, (of, more, result, body, reads)) = (
      parameters param of more,
      result,
      body,
      ahead-both (token.Name param) (colon ∷ [])
          (kind_token of ∷ (more_parameters_tokens more ++ signature_end result body)) tokens
          AreFunctions (rest, one, reads),
    )
first-parameter-step known name before _ tokens read = absurd read

behind-parameter-step : (known : List Function) (name : List ℕ) (params : List Param) (before : ℕ)
    (next : Token) (tokens : List Token) →
    Then (on_behind_parameter known name params before next) tokens →
    Continues (behind_parameter known name params) (next ∷ tokens)
behind-parameter-step known name params before (token.Mark mark.Comma) tokens
    (param, of, more, result, body, reads) = (
      grammar.parameter param of more,
      result,
      body,
      ahead comma
          (token.Name param ∷ colon ∷ kind_token of ∷ (more_parameters_tokens more
          ++ signature_end result body))
          tokens AreFunctions reads,
    )
behind-parameter-step known name params before (token.Mark mark.Close) tokens
    (rest, one, (result, body, reads)) = (
      end_parameters,
      result,
      body,
      ahead-both close (token.Mark mark.Arrow ∷ [])
          (kind_token result ∷ braces_tokens body) tokens AreFunctions (rest, one, reads),
    )
behind-parameter-step known name params before _ tokens read = absurd read

-- each state
pub step : (state : Coming) (before : ℕ) (next : Token) (tokens : List Token) →
    Then (on_token state before next) tokens → Continues state (next ∷ tokens)
step (fixed of state) before next tokens read =
    one-mark of next (stays before state) tokens (Continues state) (λ it. it) read
step (unary around) before next tokens read = unary-step around before next tokens read
step (primary around) before next tokens read = primary-step around before next tokens read
step (behind found around) before next tokens read = expr-step around found before next tokens read
step (view_name around) before next tokens read =
    let (name, same, reads) = from-name next _ tokens read in
    (name, ahead-as next (token.Name name) (close ∷ []) tokens (AfterExpr around) same reads)
step (let_name around) before next tokens read =
    let (name, same, (rest, one, (of, whole, reads))) = from-name next _ tokens read in
    let More : List Token → Type 0 = AfterStatement around in (
      name,
      of,
      whole,
      ahead-as-both next (token.Name name) (colon ∷ [])
          (kind_token of ∷ assigns ∷ valued_tokens whole) tokens More same (rest, one, reads),
    )
step (let_kind name around) before next tokens read =
    let (of, same, (rest, one, (whole, reads))) = from-kind next _ tokens read in
    let More : List Token → Type 0 = AfterStatement around in (
      of,
      whole,
      ahead-as-both next (kind_token of) (assigns ∷ []) (valued_tokens whole) tokens More
          same (rest, one, reads),
    )
step (value name of around) before next tokens read =
    value-step name of around before next tokens read
step (behind_name name of called around) before next tokens read =
    called-step name of called around before next tokens read
step (first_argument name of called around) before next tokens read =
    arguments-step name of called around before next tokens read
step (written_name writing around) before next tokens read =
    let (name, same, (rest, one, again)) = from-name next _ tokens read in
    let (place, (middle, two, (whole, reads))) = whole-read (write_place writing name around) rest
    again in
    let More : List Token → Type 0 = AfterStatement around in
    let ending : List Token = comma ∷ (disjunction_tokens whole ++ close ∷ semicolon ∷ []) in (
      name,
      place,
      whole,
      ahead-as-both next (token.Name name) (comma ∷ [])
          (disjunction_tokens place ++ ending) tokens More same
          (rest, one, read-both (disjunction_tokens place) ending rest More (middle, two, reads)),
    )
step (put_name around) before next tokens read =
    let (name, same, reads) = from-name next _ tokens read in
    let More : List Token → Type 0 = AfterStatement around in (
      name,
      ahead-as next (token.Name name) (close ∷ semicolon ∷ []) tokens More same
          (read-both (close ∷ []) (semicolon ∷ []) tokens More reads),
    )
step (some_word looking around) before next tokens read =
    some-step looking around before next tokens read
step (some_name looking around) before next tokens read =
    let (name, same, (rest, one, (block, (middle, two, (other, reads))))) =
    from-name next _ tokens read in
    let More : List Token → Type 0 = AfterStatement around in (
      name,
      block,
      other,
      ahead-as-both next (token.Name name) (token.Mark mark.Arm ∷ [])
          (braces_tokens block ++ none_tokens other) tokens More same (
            rest,
            one,
            read-both (braces_tokens block) (none_tokens other) rest More
                (middle, two, reads),
          ),
    )
step (none_word operators looking name block around) before next tokens read =
    none-step operators looking name block around before next tokens read
step (arms_end operators statement around) before next tokens read =
    one-mark mark.CloseBlock next (ends before (done statement around)) tokens
    (AfterStatement around)
    (λ it. done-after statement around tokens it) read
step (coming.semicolon statement around) before next tokens read =
    one-mark mark.Semicolon next (ends before (done statement around)) tokens
    (AfterStatement around)
    (λ it. done-after statement around tokens it) read
step (braces around) before next tokens read = opened-block around before next tokens read
step (statements known around) before next tokens read =
    statements-step known around next tokens read
step (last_brace known around) before next tokens read =
    one-mark mark.CloseBlock next (stands_out 0 (closed (block_of known) around)) tokens
    (AfterBlock around) (λ it. closed-after (block_of known) around tokens it) read
step (maybe_else test block operators around) before next tokens read =
    else-step test block operators around next tokens read
step (functions known) before next tokens read = functions-step known next tokens read
step (function_name known) before next tokens read =
    let (name, same, (rest, one, (params, result, body, reads))) = from-name next _ tokens read in (
      name,
      params,
      result,
      body,
      ahead-as-both next (token.Name name) (open_ ∷ [])
          (parameters_tokens params ++ signature_end result body) tokens AreFunctions same
          (rest, one, reads),
    )
step (first_parameter known name) before next tokens read =
    first-parameter-step known name before next tokens read
step (parameter known name params) before next tokens read =
    let (param, same, (rest, one, (of, more, result, body, reads))) =
    from-name next _ tokens read in (
      param,
      of,
      more,
      result,
      body,
      ahead-as-both next (token.Name param) (colon ∷ [])
          (kind_token of ∷ (more_parameters_tokens more ++ signature_end result body)) tokens
          AreFunctions same (rest, one, reads),
    )
step (parameter_kind known name params param) before next tokens read =
    let (of, same, (more, result, body, reads)) = from-kind next _ tokens read in (
      of,
      more,
      result,
      body,
      ahead-as next (kind_token of)
          (more_parameters_tokens more ++ signature_end result body) tokens AreFunctions same reads,
    )
step (behind_parameter known name params) before next tokens read =
    behind-parameter-step known name params before next tokens read
step (result_kind known name params) before next tokens read =
    let (of, same, (body, reads)) = from-kind next _ tokens read in
    (of, body, ahead-as next (kind_token of) (braces_tokens body) tokens AreFunctions same reads)
