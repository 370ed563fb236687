-- Which tokens may follow from a state, up to the end of the program, by the grammar alone.
use Rattle.std.proofs.Common.{◌≡◌, ℕ, ◌⊎◌, List, [], ◌∷◌, ◌++◌}
use Rattle.ext_mean.specs.declared.statement.Kind.{Kind}
use Rattle.ext_mean.specs.declared.token.Mark.TheVariants as mark
use Rattle.ext_mean.specs.declared.token.Token.{Token}
use Rattle.ext_mean.specs.declared.token.Token.TheVariants as token
use Rattle.ext_mean.specs.declared.token.Word.TheVariants as word
use Rattle.ext_mean.specs.Derived.{comparing_operator}
use Rattle.ext_mean.specs.Grammar.{Comparing, Disjunction, MoreOr, MoreAnd, Sum, MoreSum, MoreProduct, Unary, Primary, MoreArguments, Arguments, Braces, open_end, returning, Arms, MoreParameters, Parameters, MoreFunctions, Whole}
use Rattle.ext_mean.specs.Wording.{open_, close, close_block, comma, semicolon, colon, assigns, kind_token, disjunction_tokens, or_tokens, and_tokens, sum_tokens, add_tokens, multiply_tokens, unary_tokens, primary_tokens, more_arguments_tokens, arguments_tokens}
use Rattle.ext_grammar.specs.Coming.{Level, disjoining, conjoining, comparing, adding, multiplying, AroundBlock, if_block, else_block, while_block, some_block, none_block, function_body, AroundStatement, in_block, AroundExpr, chain, right, negated, in_parentheses, only_operand, first_of_two, second_of_two, first_of_three, second_of_three, third_of_three, call_argument, let_value, assigned, if_test, while_test, get_table, get_key, multiget_table, multiget_keys, multiget_width, write_place, write_value, del_table, del_key, answered, returned, Coming, fixed, unary, primary, behind, view_name, let_name, let_kind, value, behind_name, first_argument, written_name, put_name, some_word, some_name, none_word, arms_end, braces, statements, last_brace, maybe_else, functions, function_name, first_parameter, parameter, parameter_kind, behind_parameter, result_kind, level_operand}
use Rattle.ext_grammar.specs.Coming as coming
use Rattle.ext_grammar.proofs.BareTokens.{braces_tokens, statements_tokens, arms_tokens, more_parameters_tokens, parameters_tokens, signature_end, more_functions_tokens, whole_tokens}

-- these tokens come first, and then others
abbrev pub Reads : List Token → (List Token → Type 0) → List Token → Type 0
Reads first more tokens = (rest : List Token) × (tokens ≡ first ++ rest) × more rest

-- a comparison and its right side, or none
pub data Further : Type 0 where
  no_further : Further
  further : Comparing → Sum → Further

abbrev pub further_tokens : Further → List Token
further_tokens no_further = []
further_tokens (further by second) = token.Binary (comparing_operator by) ∷ sum_tokens second

-- an `else` with its block, or none
pub data Otherwise : Type 0 where
  no_else : Otherwise
  otherwise : Braces → Otherwise

abbrev pub otherwise_tokens : Otherwise → List Token
otherwise_tokens no_else = []
otherwise_tokens (otherwise block) = token.Word word.Else ∷ braces_tokens block

-- what a `let` may have behind its `=`
pub data Valued : Type 0 where
  valued : Disjunction → Valued
  calling : List ℕ → Arguments → Valued

abbrev pub valued_tokens : Valued → List Token
valued_tokens (valued whole) = disjunction_tokens whole ++ semicolon ∷ []
valued_tokens (calling called values) =
    token.Name called ∷ open_ ∷ (arguments_tokens values ++ close ∷ semicolon ∷ [])

abbrev pub let_tokens : List ℕ → Kind → Valued → List Token
let_tokens name of whole =
    token.Name name ∷ colon ∷ kind_token of ∷ assigns ∷ valued_tokens whole

-- a block behind its `{`, and the arms of a read behind theirs
abbrev pub inner_tokens : Braces → List Token
inner_tokens (open_end all) = statements_tokens all ++ close_block ∷ []
inner_tokens (returning all whole) =
    statements_tokens all ++ token.Word word.Return
    ∷ (disjunction_tokens whole ++ semicolon ∷ close_block ∷ [])

abbrev pub none_tokens : Braces → List Token
none_tokens other =
    token.Word word.None ∷ token.Mark mark.Arm ∷ (braces_tokens other ++ close_block ∷ [])

abbrev pub named_tokens : List ℕ → Braces → Braces → List Token
named_tokens name block other =
    token.Name name ∷ token.Mark mark.Arm ∷ (braces_tokens block ++ none_tokens other)

abbrev pub AreFunctions : List Token → Type 0
AreFunctions tokens = (more : MoreFunctions) × (tokens ≡ more_functions_tokens more)

abbrev mutual
  pub AfterBlock : AroundBlock → List Token → Type 0
  AfterBlock (if_block test operators around) tokens =
      (other : Otherwise) × Reads (otherwise_tokens other) (AfterStatement around) tokens
  AfterBlock (else_block test block around) tokens = AfterStatement around tokens
  AfterBlock (while_block test around) tokens = AfterStatement around tokens
  AfterBlock (some_block looking name operators around) tokens =
      (other : Braces) × Reads (none_tokens other) (AfterStatement around) tokens
  AfterBlock (none_block looking name block operators around) tokens =
      Reads (close_block ∷ []) (AfterStatement around) tokens
  AfterBlock (function_body known name params of) tokens = AreFunctions tokens

  pub AfterStatement : AroundStatement → List Token → Type 0
  AfterStatement (in_block known around) tokens =
      (block : Braces) × Reads (inner_tokens block) (AfterBlock around) tokens

abbrev pub AfterExpr : AroundExpr → List Token → Type 0
AfterExpr (chain disjoining around) tokens =
    (more : MoreOr) × Reads (or_tokens more) (AfterExpr around) tokens
AfterExpr (chain conjoining around) tokens =
    (more : MoreAnd) × Reads (and_tokens more) (AfterExpr around) tokens
AfterExpr (chain comparing around) tokens =
    (more : Further) × Reads (further_tokens more) (AfterExpr around) tokens
AfterExpr (chain adding around) tokens =
    (more : MoreSum) × Reads (add_tokens more) (AfterExpr around) tokens
AfterExpr (chain multiplying around) tokens =
    (more : MoreProduct) × Reads (multiply_tokens more) (AfterExpr around) tokens
AfterExpr (right disjoining by left around) tokens =
    (more : MoreOr) × Reads (or_tokens more) (AfterExpr around) tokens
AfterExpr (right conjoining by left around) tokens =
    (more : MoreAnd) × Reads (and_tokens more) (AfterExpr around) tokens
AfterExpr (right comparing by left around) tokens = AfterExpr around tokens
AfterExpr (right adding by left around) tokens =
    (more : MoreSum) × Reads (add_tokens more) (AfterExpr around) tokens
AfterExpr (right multiplying by left around) tokens =
    (more : MoreProduct) × Reads (multiply_tokens more) (AfterExpr around) tokens
AfterExpr (negated around) tokens = AfterExpr around tokens
AfterExpr (in_parentheses around) tokens = Reads (close ∷ []) (AfterExpr around) tokens
AfterExpr (only_operand kind around) tokens = Reads (close ∷ []) (AfterExpr around) tokens
AfterExpr (first_of_two kind around) tokens =
    (second : Disjunction) × Reads (comma ∷ (disjunction_tokens second ++ close ∷ []))
    (AfterExpr around) tokens
AfterExpr (second_of_two kind first around) tokens = Reads (close ∷ []) (AfterExpr around) tokens
AfterExpr (first_of_three kind around) tokens =
    (second : Disjunction) × (third : Disjunction)
    × Reads (comma ∷ (disjunction_tokens second
    ++ comma ∷ (disjunction_tokens third ++ close ∷ []))) (AfterExpr around) tokens
AfterExpr (second_of_three kind first around) tokens =
    (third : Disjunction) × Reads (comma ∷ (disjunction_tokens third ++ close ∷ []))
    (AfterExpr around) tokens
AfterExpr (third_of_three kind first second around) tokens =
    Reads (close ∷ []) (AfterExpr around) tokens
AfterExpr (call_argument name of called values around) tokens =
    (more : MoreArguments) × Reads (more_arguments_tokens more ++ close ∷ semicolon ∷ [])
    (AfterStatement around) tokens
AfterExpr (let_value name of around) tokens = Reads (semicolon ∷ []) (AfterStatement around) tokens
AfterExpr (assigned name around) tokens = Reads (semicolon ∷ []) (AfterStatement around) tokens
AfterExpr (if_test around) tokens =
    (block : Braces) × (other : Otherwise)
    × Reads (braces_tokens block ++ otherwise_tokens other) (AfterStatement around) tokens
AfterExpr (while_test around) tokens =
    (block : Braces) × Reads (braces_tokens block) (AfterStatement around) tokens
AfterExpr (get_table around) tokens =
    (key : Disjunction) × (both : Arms)
    × Reads (comma ∷ (disjunction_tokens key ++ close ∷ arms_tokens both)) (AfterStatement around)
    tokens
AfterExpr (get_key table around) tokens =
    (both : Arms) × Reads (close ∷ arms_tokens both) (AfterStatement around) tokens
AfterExpr (multiget_table around) tokens =
    (keys : Disjunction) × (width : Disjunction) × (both : Arms)
    × Reads (comma ∷ (disjunction_tokens keys
    ++ comma ∷ (disjunction_tokens width ++ close ∷ arms_tokens both)))
    (AfterStatement around) tokens
AfterExpr (multiget_keys table around) tokens =
    (width : Disjunction) × (both : Arms)
    × Reads (comma ∷ (disjunction_tokens width ++ close ∷ arms_tokens both)) (AfterStatement around)
    tokens
AfterExpr (multiget_width table keys around) tokens =
    (both : Arms) × Reads (close ∷ arms_tokens both) (AfterStatement around) tokens
AfterExpr (write_place writing name around) tokens =
    (whole : Disjunction)
    × Reads (comma ∷ (disjunction_tokens whole ++ close ∷ semicolon ∷ [])) (AfterStatement around)
    tokens
AfterExpr (write_value writing name place around) tokens =
    Reads (close ∷ semicolon ∷ []) (AfterStatement around) tokens
AfterExpr (del_table around) tokens =
    (key : Disjunction) × Reads (comma ∷ (disjunction_tokens key ++ close ∷ semicolon ∷ []))
    (AfterStatement around) tokens
AfterExpr (del_key table around) tokens =
    Reads (close ∷ semicolon ∷ []) (AfterStatement around) tokens
AfterExpr (answered around) tokens = Reads (close ∷ semicolon ∷ []) (AfterStatement around) tokens
AfterExpr (returned known around) tokens =
    Reads (semicolon ∷ close_block ∷ []) (AfterBlock around) tokens

-- these tokens may come where a reader is in this state, and end a program
abbrev pub Continues : Coming → List Token → Type 0
Continues (fixed kind coming) tokens = Reads (token.Mark kind ∷ []) (Continues coming) tokens
Continues (unary around) tokens =
    (operand : Unary) × Reads (unary_tokens operand) (AfterExpr around) tokens
Continues (primary around) tokens =
    (operand : Primary) × Reads (primary_tokens operand) (AfterExpr around) tokens
Continues (behind found around) tokens = AfterExpr around tokens
Continues (view_name around) tokens =
    (name : List ℕ) × Reads (token.Name name ∷ close ∷ []) (AfterExpr around) tokens
Continues (let_name around) tokens =
    (name : List ℕ) × (of : Kind) × (whole : Valued)
    × Reads (let_tokens name of whole)
    (AfterStatement around) tokens
Continues (let_kind name around) tokens =
    (of : Kind) × (whole : Valued)
    × Reads (kind_token of ∷ assigns ∷ valued_tokens whole) (AfterStatement around) tokens
Continues (value name of around) tokens =
    (whole : Valued) × Reads (valued_tokens whole) (AfterStatement around) tokens
Continues (behind_name name of called around) tokens =
    AfterExpr (level_operand (let_value name of around)) tokens
    ⊎ ((values : Arguments) × Reads (open_ ∷ (arguments_tokens values ++ close ∷ semicolon ∷ []))
    (AfterStatement around) tokens)
Continues (first_argument name of called around) tokens =
    (values : Arguments) × Reads (arguments_tokens values ++ close ∷ semicolon ∷ [])
    (AfterStatement around) tokens
Continues (written_name writing around) tokens =
    (name : List ℕ) × (place : Disjunction) × (whole : Disjunction)
    × Reads (token.Name name ∷ comma
    ∷ (disjunction_tokens place ++ comma
    ∷ (disjunction_tokens whole ++ close ∷ semicolon ∷ [])))
    (AfterStatement around) tokens
Continues (put_name around) tokens =
    (name : List ℕ) × Reads (token.Name name ∷ close ∷ semicolon ∷ []) (AfterStatement around)
    tokens
Continues (some_word looking around) tokens =
    (name : List ℕ) × (block : Braces) × (other : Braces)
    × Reads (token.Word word.Some ∷ named_tokens name block other) (AfterStatement around) tokens
Continues (some_name looking around) tokens =
    (name : List ℕ) × (block : Braces) × (other : Braces)
    × Reads (named_tokens name block other) (AfterStatement around) tokens
Continues (none_word operators looking name block around) tokens =
    (other : Braces) × Reads (none_tokens other) (AfterStatement around) tokens
Continues (arms_end operators statement around) tokens =
    Reads (close_block ∷ []) (AfterStatement around) tokens
Continues (coming.semicolon statement around) tokens =
    Reads (semicolon ∷ []) (AfterStatement around) tokens
Continues (braces around) tokens =
    (block : Braces) × Reads (braces_tokens block) (AfterBlock around) tokens
Continues (statements known around) tokens =
    (block : Braces) × Reads (inner_tokens block) (AfterBlock around) tokens
Continues (last_brace known around) tokens = Reads (close_block ∷ []) (AfterBlock around) tokens
Continues (maybe_else test block operators around) tokens =
    (other : Otherwise) × Reads (otherwise_tokens other) (AfterStatement around) tokens
Continues (functions []) tokens = (whole : Whole) × (tokens ≡ whole_tokens whole)
Continues (functions (first ∷ known)) tokens = AreFunctions tokens
Continues (function_name known) tokens =
    (name : List ℕ) × (params : Parameters) × (result : Kind) × (body : Braces)
    × Reads (token.Name name ∷ open_ ∷ (parameters_tokens params ++ signature_end result body))
    AreFunctions tokens
Continues (first_parameter known name) tokens =
    (params : Parameters) × (result : Kind) × (body : Braces)
    × Reads (parameters_tokens params ++ signature_end result body) AreFunctions tokens
Continues (parameter known name params) tokens =
    (next : List ℕ) × (of : Kind) × (more : MoreParameters) × (result : Kind) × (body : Braces)
    × Reads (token.Name next ∷ colon ∷ kind_token of ∷ (more_parameters_tokens more
    ++ signature_end result body)) AreFunctions tokens
Continues (parameter_kind known name params next) tokens =
    (of : Kind) × (more : MoreParameters) × (result : Kind) × (body : Braces)
    × Reads (kind_token of ∷ (more_parameters_tokens more ++ signature_end result body))
    AreFunctions tokens
Continues (behind_parameter known name params) tokens =
    (more : MoreParameters) × (result : Kind) × (body : Braces)
    × Reads (more_parameters_tokens more ++ signature_end result body) AreFunctions tokens
Continues (result_kind known name params) tokens =
    (result : Kind) × (body : Braces) × Reads (kind_token result ∷ braces_tokens body) AreFunctions
    tokens
