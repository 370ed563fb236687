-- A token that the reader takes in a block is one that the grammar may have there.
use Rattle.std.proofs.Common.{◌≡◌, ℕ, List, [], ◌∷◌, ◌++◌, refl, sym, ap, append_assoc, append-nil, inl, inr}
use Rattle.ext_mean.specs.declared.expr.Expr.{Expr}
use Rattle.ext_mean.specs.declared.expr.Expr.TheVariants as expr
use Rattle.ext_mean.specs.declared.statement.Block.{Block}
use Rattle.ext_mean.specs.declared.statement.Kind.{Kind}
use Rattle.ext_mean.specs.declared.statement.Statement.{Statement}
use Rattle.ext_mean.specs.declared.token.Mark.TheVariants as mark
use Rattle.ext_mean.specs.declared.token.Token.{Token}
use Rattle.ext_mean.specs.declared.token.Token.TheVariants as token
use Rattle.ext_mean.specs.declared.token.Word.TheVariants as word
use Rattle.ext_mean.specs.declared.tree.Function.{Function}
use Rattle.ext_mean.specs.Derived.{block_of}
use Rattle.ext_mean.specs.Grammar.{Writing, plain, variable, MoreArguments, no_arguments, arguments, Arguments, set, set8, copy, Braces, open_end, returning, end_statements, statement, Sentence, MoreFunctions, Disjunction}
use Rattle.ext_mean.specs.Grammar as grammar
use Rattle.ext_mean.specs.Wording.{writing_word, open_, close, close_block, comma, semicolon, assigns, disjunction_tokens, more_arguments_tokens, arguments_tokens}
use Rattle.ext_grammar.specs.Coming.{AroundExpr, fixed, unary, behind_name, first_argument, written_name, AroundBlock, if_block, else_block, while_block, some_block, none_block, function_body, AroundStatement, in_block, call_argument, let_value, assigned, if_test, while_test, get_table, multiget_table, del_table, answered, returned, functions, level_operand, closed, function_of, on_value, on_behind_name, on_first_argument, on_statement, on_statements, on_done, on_else}
use Rattle.ext_grammar.proofs.BareTokens.{braces_tokens, statements_tokens, sentence_tokens, arms_tokens}
use Rattle.ext_grammar.proofs.Continuing.{let_tokens, Reads, Otherwise, no_else, otherwise, otherwise_tokens, Valued, valued, calling, valued_tokens, inner_tokens, AreFunctions, AfterBlock, AfterStatement, Continues}
use Rattle.ext_grammar.proofs.Joined.{ahead-both, ahead, read-both, read-as, Then, whole-read}
use Rattle.ext_grammar.proofs.StepsOfOperands.{opened, unary-step}
use Rattle.ext_grammar.proofs.StepsOfExpressions.{expr-step, done-after}

-- behind a block
known-after : (known : List Function) (last : Function) (tokens : List Token) →
    Continues (functions (known ++ last ∷ [])) tokens → AreFunctions tokens
known-after [] last tokens after = after
known-after (first ∷ known) last tokens after = after

pub closed-after : (block : Block) (around : AroundBlock) (tokens : List Token) →
    Continues (closed block around) tokens → AfterBlock around tokens
closed-after block (if_block test operators around) tokens after = after
closed-after block (else_block test other around) tokens after = done-after _ around tokens after
closed-after block (while_block test around) tokens after = done-after _ around tokens after
closed-after block (some_block looking name operators around) tokens after = after
closed-after block (none_block looking name other operators around) tokens after = after
closed-after block (function_body known name params of) tokens after =
    known-after known (function_of name params of block) tokens after

-- a block with one statement more
prepended : Sentence → Braces → Braces
prepended first (open_end all) = open_end (statement first all)
prepended first (returning all whole) = returning (statement first all) whole

prepended-is : (first : Sentence) (block : Braces) → sentence_tokens first ++ inner_tokens block
    ≡ inner_tokens (prepended first block)
unfolding prepended
prepended-is first (open_end all) =
    sym (append_assoc (sentence_tokens first) (statements_tokens all) (close_block ∷ []))
prepended-is first (returning all whole) =
    sym (append_assoc (sentence_tokens first) (statements_tokens all)
    (token.Word word.Return ∷ (disjunction_tokens whole ++ semicolon ∷ close_block ∷ [])))

stated : (around : AroundStatement) (tokens : List Token) (first : Sentence) →
    Reads (sentence_tokens first) (AfterStatement around) tokens → AfterStatement around tokens
stated (in_block known around) tokens first (rest, one, (block, reads)) = (
  prepended first block,
  read-as (sentence_tokens first ++ inner_tokens block) (inner_tokens (prepended first block))
      tokens
      (AfterBlock around) (prepended-is first block)
      (read-both (sentence_tokens first) (inner_tokens block) tokens (AfterBlock around)
      (rest, one, reads)),
)

if-sentence : Disjunction → Braces → Otherwise → Sentence
if-sentence test block no_else = grammar.if test block
if-sentence test block (otherwise other) = grammar.if_else test block other

if-is : (test : Disjunction) (block : Braces) (other : Otherwise) →
    token.Word word.If ∷ (disjunction_tokens test
    ++ (braces_tokens block ++ otherwise_tokens other))
    ≡ sentence_tokens (if-sentence test block other)
unfolding if-sentence
if-is test block no_else =
    ap (λ it. token.Word word.If ∷ (disjunction_tokens test ++ it))
    (append-nil (braces_tokens block))
if-is test block (otherwise other) = refl

-- what a `let` may have
value-of : (name : List ℕ) (of : Kind) (around : AroundStatement) (tokens : List Token) →
    Continues (unary (level_operand (let_value name of around))) tokens →
    (whole : Valued) × Reads (valued_tokens whole) (AfterStatement around) tokens
value-of name of around tokens read =
    let (whole, reads) = whole-read (let_value name of around) tokens read in (
      valued whole,
      read-both (disjunction_tokens whole) (semicolon ∷ []) tokens (AfterStatement around) reads,
    )

pub value-step : (name : List ℕ) (of : Kind) (around : AroundStatement) (before : ℕ)
    (next : Token) (tokens : List Token) →
    Then (on_value name of around before next) tokens →
    (whole : Valued) × Reads (valued_tokens whole) (AfterStatement around) (next ∷ tokens)
value-step name of around before (token.Name called) tokens (inl after) =
    value-of name of around (token.Name called ∷ tokens)
    (plain (variable called), (tokens, refl, after))
value-step name of around before (token.Name called) tokens (inr (values, reads)) = (
  calling called values,
  ahead (token.Name called)
      (open_ ∷ (arguments_tokens values ++ close ∷ semicolon ∷ [])) tokens (AfterStatement around)
      reads,
)
value-step name of around before next tokens read =
    value-of name of around (next ∷ tokens)
    (unary-step (level_operand (let_value name of around)) before next tokens read)

pub called-step : (name : List ℕ) (of : Kind) (called : List ℕ) (around : AroundStatement)
    (before : ℕ) (next : Token) (tokens : List Token) →
    Then (on_behind_name name of called around before next) tokens →
    Continues (behind_name name of called around) (next ∷ tokens)
called-step name of called around before (token.Mark mark.Open) tokens (values, reads) =
    inr (
      values,
      ahead open_ (arguments_tokens values ++ close ∷ semicolon ∷ []) tokens
          (AfterStatement around) reads,
    )
called-step name of called around before next tokens read =
    inl (expr-step (level_operand (let_value name of around)) (expr.Var called) before next tokens
    read)

pub arguments-step : (name : List ℕ) (of : Kind) (called : List ℕ) (around : AroundStatement)
    (before : ℕ) (next : Token) (tokens : List Token) →
    Then (on_first_argument name of called around before next) tokens →
    Continues (first_argument name of called around) (next ∷ tokens)
arguments-step name of called around before (token.Mark mark.Close) tokens reads =
    (no_arguments, ahead close (semicolon ∷ []) tokens (AfterStatement around) reads)
arguments-step name of called around before next tokens read =
    let within : AroundExpr = call_argument name of called [] around in
    let (whole, (rest, one, (more, reads))) = whole-read within (next ∷ tokens)
    (unary-step (level_operand within) before next tokens read) in
    let first : List Token = disjunction_tokens whole in
    let others : List Token = more_arguments_tokens more in
    let ending : List Token = close ∷ semicolon ∷ [] in (
      arguments whole more,
      read-as (first ++ (others ++ ending)) ((first ++ others) ++ ending) (next ∷ tokens)
          (AfterStatement around) (sym (append_assoc first others ending))
          (read-both first (others ++ ending) (next ∷ tokens) (AfterStatement around) (rest, one, reads)),
    )

write-step : (writing : Writing) (around : AroundStatement) (tokens : List Token) →
    Continues (fixed mark.Open (written_name writing around)) tokens →
    AfterStatement around (token.Word (writing_word writing) ∷ tokens)
write-step writing around tokens (rest, one, (name, place, whole, reads)) =
    stated around (token.Word (writing_word writing) ∷ tokens)
    (grammar.write writing name place whole)
    (ahead-both (token.Word (writing_word writing)) (open_ ∷ [])
    (token.Name name ∷ comma ∷ (disjunction_tokens place
    ++ comma ∷ (disjunction_tokens whole ++ close ∷ semicolon ∷ []))) tokens (AfterStatement around)
    (rest, one, reads))

-- statements
pub statement-step : (around : AroundStatement) (next : Token) (tokens : List Token) →
    Then (on_statement around next) tokens → AfterStatement around (next ∷ tokens)
statement-step around (token.Name name) tokens (rest, one, read) =
    let (whole, reads) = whole-read (assigned name around) rest read in
    stated around (token.Name name ∷ tokens) (grammar.assign name whole)
    (ahead-both (token.Name name) (assigns ∷ []) (disjunction_tokens whole ++ semicolon ∷ []) tokens
    (AfterStatement around) (
      rest,
      one,
      read-both (disjunction_tokens whole) (semicolon ∷ []) rest (AfterStatement around) reads,
    ))
statement-step around (token.Word word.Let) tokens (name, of, valued whole, reads) =
    stated around (token.Word word.Let ∷ tokens) (grammar.let_value name of whole)
    (ahead (token.Word word.Let) (let_tokens name of (valued whole)) tokens (AfterStatement around)
    reads)
statement-step around (token.Word word.Let) tokens (name, of, calling called values, reads) =
    stated around (token.Word word.Let ∷ tokens) (grammar.let_call name of called values)
    (ahead (token.Word word.Let) (let_tokens name of (calling called values)) tokens
    (AfterStatement around) reads)
statement-step around (token.Word word.If) tokens read =
    let (test, (rest, one, (block, other, reads))) = whole-read (if_test around) tokens read in
    let parts : List Token = braces_tokens block ++ otherwise_tokens other in
    stated around (token.Word word.If ∷ tokens) (if-sentence test block other)
    (read-as (token.Word word.If ∷ (disjunction_tokens test ++ parts))
    (sentence_tokens (if-sentence test block other)) (token.Word word.If ∷ tokens)
    (AfterStatement around) (if-is test block other)
    (ahead (token.Word word.If) (disjunction_tokens test ++ parts) tokens (AfterStatement around)
    (read-both (disjunction_tokens test) parts tokens (AfterStatement around) (rest, one, reads))))
statement-step around (token.Word word.While) tokens read =
    let (test, (rest, one, (block, reads))) = whole-read (while_test around) tokens read in
    stated around (token.Word word.While ∷ tokens) (grammar.while test block)
    (ahead-both (token.Word word.While) (disjunction_tokens test) (braces_tokens block) tokens
    (AfterStatement around) (rest, one, reads))
statement-step around (token.Word word.Get) tokens read =
    let (table, (rest, one, (key, both, reads))) = opened (get_table around) tokens read in
    stated around (token.Word word.Get ∷ tokens) (grammar.get table key both)
    (ahead-both (token.Word word.Get) (open_ ∷ disjunction_tokens table)
    (comma ∷ (disjunction_tokens key ++ close ∷ arms_tokens both)) tokens
    (AfterStatement around) (rest, one, reads))
statement-step around (token.Word word.Multiget) tokens read =
    let (table, (rest, one, (keys, width, both, reads))) =
    opened (multiget_table around) tokens read in
    stated around (token.Word word.Multiget ∷ tokens) (grammar.multiget table keys width both)
    (ahead-both (token.Word word.Multiget) (open_ ∷ disjunction_tokens table)
    (comma ∷ (disjunction_tokens keys
    ++ comma ∷ (disjunction_tokens width ++ close ∷ arms_tokens both))) tokens
    (AfterStatement around) (rest, one, reads))
statement-step around (token.Word word.Set) tokens read = write-step set around tokens read
statement-step around (token.Word word.Set8) tokens read = write-step set8 around tokens read
statement-step around (token.Word word.Copy) tokens read = write-step copy around tokens read
statement-step around (token.Word word.Put) tokens (rest, one, (name, reads)) =
    stated around (token.Word word.Put ∷ tokens) (grammar.put name)
    (ahead-both (token.Word word.Put) (open_ ∷ []) (token.Name name ∷ close ∷ semicolon ∷ []) tokens
    (AfterStatement around) (rest, one, reads))
statement-step around (token.Word word.Del) tokens read =
    let (table, (rest, one, (key, reads))) = opened (del_table around) tokens read in
    stated around (token.Word word.Del ∷ tokens) (grammar.del table key)
    (ahead-both (token.Word word.Del) (open_ ∷ disjunction_tokens table)
    (comma ∷ (disjunction_tokens key ++ close ∷ semicolon ∷ [])) tokens (AfterStatement around)
    (rest, one, reads))
statement-step around (token.Word word.Resp) tokens read =
    let (whole, reads) = opened (answered around) tokens read in
    stated around (token.Word word.Resp ∷ tokens) (grammar.resp whole)
    (ahead-both (token.Word word.Resp) (open_ ∷ disjunction_tokens whole) (close ∷ semicolon ∷ [])
    tokens (AfterStatement around) reads)
statement-step around _ tokens read = absurd read

pub statements-step : (known : List Statement) (around : AroundBlock) (next : Token)
    (tokens : List Token) →
    Then (on_statements known around next) tokens → AfterStatement (in_block known around)
    (next ∷ tokens)
statements-step known around (token.Mark mark.CloseBlock) tokens read =
    (open_end end_statements, (tokens, refl, closed-after (block_of known) around tokens read))
statements-step known around (token.Word word.Return) tokens read =
    let (whole, reads) = whole-read (returned known around) tokens read in (
      returning end_statements whole,
      ahead-both (token.Word word.Return) (disjunction_tokens whole)
          (semicolon ∷ close_block ∷ []) tokens (AfterBlock around) reads,
    )
statements-step known around next tokens read =
    statement-step (in_block known around) next tokens read

done-step : (before : Statement) (around : AroundStatement) (next : Token) (tokens : List Token) →
    Then (on_done before around next) tokens → AfterStatement around (next ∷ tokens)
done-step before (in_block known around) next tokens read =
    statements-step (known ++ before ∷ []) around next tokens read

pub else-step : (test : Expr) (block : Block) (operators : ℕ) (around : AroundStatement)
    (next : Token) (tokens : List Token) → Then (on_else test block operators around next) tokens →
    (other : Otherwise) × Reads (otherwise_tokens other) (AfterStatement around) (next ∷ tokens)
else-step test block operators around (token.Word word.Else) tokens (other, reads) = (
  otherwise other,
  ahead (token.Word word.Else) (braces_tokens other) tokens
      (AfterStatement around) reads,
)
else-step test block operators around next tokens read =
    (no_else, (next ∷ tokens, refl, done-step _ around next tokens read))
