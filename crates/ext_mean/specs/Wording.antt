-- The tokens of a derivation in their order, each with where it stands: what the grammar says of
-- the text, and where its items begin and end.
use Rattle.std.specs.Prelude.{ℕ, ◌+◌, Bool, true, false, List, [], ◌∷◌, ◌++◌, if◌then◌else◌}
use Rattle.ext_mean.specs.declared.expr.BinOp.TheVariants as op
use Rattle.ext_mean.specs.declared.statement.Kind.{Kind}
use Rattle.ext_mean.specs.declared.statement.Kind.TheVariants as kind
use Rattle.ext_mean.specs.declared.token.Word.{Word}
use Rattle.ext_mean.specs.declared.token.Word.TheVariants as word
use Rattle.ext_mean.specs.declared.token.Mark.TheVariants as mark
use Rattle.ext_mean.specs.declared.token.Token.{Token}
use Rattle.ext_mean.specs.declared.token.Token.TheVariants as token
use Rattle.ext_mean.specs.Derived.{comparing_operator, adding_operator, multiplying_operator}
use Rattle.ext_mean.specs.Grammar.{Disjunction, disjunction, MoreOr, end_or, or, Conjunction, conjunction, MoreAnd, end_and, and, Comparison, only, compared, Sum, sum, MoreSum, end_sum, add, Product, product, MoreProduct, end_product, multiply, Unary, plain, negated, Primary, number, string, truth, variable, parentheses, args, len, view, temp, byte, u64, sub, alloc, MoreArguments, end_arguments, argument, Arguments, no_arguments, arguments, Writing, set, set8, copy, Braces, open_end, returning, MoreStatements, end_statements, statement, Sentence, Arms, arms, MoreParameters, end_parameters, parameter, Parameters, no_parameters, parameters, Definition, function, MoreFunctions, end_functions, define, Whole, program}
use Rattle.ext_mean.specs.Grammar as grammar

-- the tokens of marks, words and kinds
abbrev pub open_ : Token
open_ = token.Mark mark.Open

abbrev pub close : Token
close = token.Mark mark.Close

abbrev pub open_block : Token
open_block = token.Mark mark.OpenBlock

abbrev pub close_block : Token
close_block = token.Mark mark.CloseBlock

abbrev pub comma : Token
comma = token.Mark mark.Comma

abbrev pub semicolon : Token
semicolon = token.Mark mark.Semicolon

abbrev pub colon : Token
colon = token.Mark mark.Colon

abbrev pub assigns : Token
assigns = token.Mark mark.Assign

abbrev pub fn_token : Token
fn_token = token.Word word.Fn

abbrev pub kind_word : Kind → Word
kind_word kind.Int = word.Int
kind_word kind.Bool = word.Bool
kind_word kind.Slice = word.Slice
kind_word kind.Buf = word.Buf
kind_word kind.Temp = word.Temp

abbrev pub kind_token : Kind → Token
kind_token of = token.Word (kind_word of)

abbrev pub truth_word : Bool → Word
truth_word true = word.True
truth_word false = word.False

-- the tokens of an expression
abbrev mutual
  pub disjunction_tokens : Disjunction → List Token
  disjunction_tokens (disjunction first more) = conjunction_tokens first ++ or_tokens more

  pub or_tokens : MoreOr → List Token
  or_tokens end_or = []
  or_tokens (or next more) = token.Binary op.Or ∷ (conjunction_tokens next ++ or_tokens more)

  pub conjunction_tokens : Conjunction → List Token
  conjunction_tokens (conjunction first more) = comparison_tokens first ++ and_tokens more

  pub and_tokens : MoreAnd → List Token
  and_tokens end_and = []
  and_tokens (and next more) = token.Binary op.And ∷ (comparison_tokens next ++ and_tokens more)

  pub comparison_tokens : Comparison → List Token
  comparison_tokens (only whole) = sum_tokens whole
  comparison_tokens (compared left comparing right) =
      sum_tokens left ++ token.Binary (comparing_operator comparing) ∷ sum_tokens right

  pub sum_tokens : Sum → List Token
  sum_tokens (sum first more) = product_tokens first ++ add_tokens more

  pub add_tokens : MoreSum → List Token
  add_tokens end_sum = []
  add_tokens (add sign next more) =
      token.Binary (adding_operator sign) ∷ (product_tokens next ++ add_tokens more)

  pub product_tokens : Product → List Token
  product_tokens (product first more) = unary_tokens first ++ multiply_tokens more

  pub multiply_tokens : MoreProduct → List Token
  multiply_tokens end_product = []
  multiply_tokens (multiply sign next more) =
      token.Binary (multiplying_operator sign) ∷ (unary_tokens next ++ multiply_tokens more)

  pub unary_tokens : Unary → List Token
  unary_tokens (plain operand) = primary_tokens operand
  unary_tokens (negated operand) = token.Not ∷ primary_tokens operand

  pub primary_tokens : Primary → List Token
  primary_tokens (number value) = token.Number value ∷ []
  primary_tokens (string items) = token.Str items ∷ []
  primary_tokens (truth value) = token.Word (truth_word value) ∷ []
  primary_tokens (variable name) = token.Name name ∷ []
  primary_tokens (parentheses inner) = open_ ∷ (disjunction_tokens inner ++ close ∷ [])
  primary_tokens args = token.Word word.Args ∷ open_ ∷ close ∷ []
  primary_tokens (len bytes) =
      token.Word word.Len ∷ open_ ∷ (disjunction_tokens bytes ++ close ∷ [])
  primary_tokens (view name) =
      token.Word word.View ∷ open_ ∷ token.Name name ∷ close ∷ []
  primary_tokens (temp size) =
      token.Word word.Temp ∷ open_ ∷ (disjunction_tokens size ++ close ∷ [])
  primary_tokens (byte bytes place) =
      token.Word word.Byte ∷ open_ ∷ (disjunction_tokens bytes ++ comma ∷ (disjunction_tokens place ++ close ∷ []))
  primary_tokens (u64 bytes place) =
      token.Word word.U64 ∷ open_ ∷ (disjunction_tokens bytes ++ comma ∷ (disjunction_tokens place ++ close ∷ []))
  primary_tokens (sub bytes from count) =
      token.Word word.Sub ∷ open_ ∷ (disjunction_tokens bytes ++ comma ∷ (disjunction_tokens from
      ++ comma ∷ (disjunction_tokens count ++ close ∷ [])))
  primary_tokens (alloc table key size) =
      token.Word word.Alloc ∷ open_ ∷ (disjunction_tokens table ++ comma ∷ (disjunction_tokens key
      ++ comma ∷ (disjunction_tokens size ++ close ∷ [])))

-- the tokens of a call's arguments
abbrev pub more_arguments_tokens : MoreArguments → List Token
more_arguments_tokens end_arguments = []
more_arguments_tokens (argument next more) =
    comma ∷ (disjunction_tokens next ++ more_arguments_tokens more)

abbrev pub arguments_tokens : Arguments → List Token
arguments_tokens no_arguments = []
arguments_tokens (arguments first more) = disjunction_tokens first ++ more_arguments_tokens more

-- Where a token stands: no item is open before it; an item begins with it; or an item is open that
-- has so many operators before it, and the token is any, or is the name of a local.
pub data Standing : Type 0 where
  outside : Standing
  begins : Standing
  inside : ℕ → Standing
  naming : ℕ → Standing

pub record Slot : Type 0 where
  pub token : Token
  pub standing : Standing

abbrev pub slot : Token → Standing → Slot
slot token standing = record { token = token; standing = standing }

-- the operators are `!` and those between two operands
abbrev pub is_operator : Token → Bool
is_operator token.Not = true
is_operator (token.Binary operator) = true
is_operator other = false

abbrev pub operators : List Token → ℕ
operators [] = 0
operators (token ∷ tokens) = (if is_operator token then 1 else 0) + operators tokens

-- tokens of an item that has so many operators before them
abbrev pub going_on : ℕ → List Token → List Slot
going_on before [] = []
going_on before (token ∷ tokens) =
    slot token (inside before) ∷ going_on ((if is_operator token then 1 else 0) + before) tokens

-- an item that begins with this token
abbrev pub item : Token → List Token → List Slot
item first tokens = slot first begins ∷ going_on 0 tokens

-- `return` with its expression
abbrev pub return_slots : Disjunction → List Slot
return_slots value = item (token.Word word.Return) (disjunction_tokens value ++ semicolon ∷ [])

-- `let name: type =`, and what follows up to the `;`
abbrev pub let_slots : List ℕ → Kind → List Token → List Slot
let_slots name of value =
    slot (token.Word word.Let) begins ∷ slot (token.Name name) (naming 0)
    ∷ going_on 0 (colon ∷ kind_token of ∷ assigns ∷ (value ++ semicolon ∷ []))

abbrev pub writing_word : Writing → Word
writing_word set = word.Set
writing_word set8 = word.Set8
writing_word copy = word.Copy

-- the tokens of blocks and statements; a block is given the operators of the item that it belongs to
abbrev mutual
  pub braces_slots : Braces → ℕ → List Slot
  braces_slots (open_end statements) before =
      slot open_block (inside before) ∷ (statements_slots statements ++ slot close_block outside ∷ [])
  braces_slots (returning statements value) before =
      slot open_block (inside before)
      ∷ (statements_slots statements ++ (return_slots value ++ slot close_block outside ∷ []))

  pub statements_slots : MoreStatements → List Slot
  statements_slots end_statements = []
  statements_slots (statement first more) = sentence_slots first ++ statements_slots more

  pub sentence_slots : Sentence → List Slot
  sentence_slots (grammar.let_value name of value) = let_slots name of (disjunction_tokens value)
  sentence_slots (grammar.let_call name of called values) =
      let_slots name of (token.Name called ∷ open_ ∷ (arguments_tokens values ++ close ∷ []))
  sentence_slots (grammar.assign name value) =
      item (token.Name name) (assigns ∷ (disjunction_tokens value ++ semicolon ∷ []))
  sentence_slots (grammar.if test yes_block) =
      item (token.Word word.If) (disjunction_tokens test)
      ++ braces_slots yes_block (operators (disjunction_tokens test))
  sentence_slots (grammar.if_else test yes_block no_block) =
      item (token.Word word.If) (disjunction_tokens test)
      ++ (braces_slots yes_block (operators (disjunction_tokens test))
      ++ (slot (token.Word word.Else) outside
      ∷ braces_slots no_block (operators (disjunction_tokens test))))
  sentence_slots (grammar.while test body) =
      item (token.Word word.While) (disjunction_tokens test)
      ++ braces_slots body (operators (disjunction_tokens test))
  sentence_slots (grammar.get table key behind) =
      item (token.Word word.Get)
      (open_ ∷ (disjunction_tokens table ++ comma ∷ (disjunction_tokens key ++ close ∷ [])))
      ++ arms_slots behind (operators (disjunction_tokens table) + operators (disjunction_tokens key))
  sentence_slots (grammar.multiget table keys width behind) =
      item (token.Word word.Multiget)
      (open_ ∷ (disjunction_tokens table ++ comma ∷ (disjunction_tokens keys
      ++ comma ∷ (disjunction_tokens width ++ close ∷ []))))
      ++ arms_slots behind
      (operators (disjunction_tokens table) + (operators (disjunction_tokens keys)
      + operators (disjunction_tokens width)))
  sentence_slots (grammar.write writing name place value) =
      item (token.Word (writing_word writing))
      (open_ ∷ token.Name name ∷ comma ∷ (disjunction_tokens place
      ++ comma ∷ (disjunction_tokens value ++ close ∷ semicolon ∷ [])))
  sentence_slots (grammar.put name) =
      item (token.Word word.Put) (open_ ∷ token.Name name ∷ close ∷ semicolon ∷ [])
  sentence_slots (grammar.del table key) =
      item (token.Word word.Del)
      (open_ ∷ (disjunction_tokens table ++ comma ∷ (disjunction_tokens key
      ++ close ∷ semicolon ∷ [])))
  sentence_slots (grammar.resp value) =
      item (token.Word word.Resp) (open_ ∷ (disjunction_tokens value ++ close ∷ semicolon ∷ []))

  pub arms_slots : Arms → ℕ → List Slot
  arms_slots (arms name yes_block no_block) before =
      slot open_block (inside before) ∷ slot (token.Word word.Some) (inside before)
      ∷ slot (token.Name name) (naming before) ∷ slot (token.Mark mark.Arm) (inside before)
      ∷ (braces_slots yes_block before
      ++ (slot (token.Word word.None) (inside before) ∷ slot (token.Mark mark.Arm) (inside before)
      ∷ (braces_slots no_block before ++ slot close_block (inside before) ∷ [])))

-- the parameters of a function, each a local
abbrev pub parameter_slots : List ℕ → Kind → List Slot
parameter_slots name of =
    slot (token.Name name) (naming 0) ∷ going_on 0 (colon ∷ kind_token of ∷ [])

abbrev pub more_parameters_slots : MoreParameters → List Slot
more_parameters_slots end_parameters = []
more_parameters_slots (parameter name of more) =
    slot comma (inside 0) ∷ (parameter_slots name of ++ more_parameters_slots more)

abbrev pub parameters_slots : Parameters → List Slot
parameters_slots no_parameters = []
parameters_slots (parameters name of more) = parameter_slots name of ++ more_parameters_slots more

abbrev pub definition_slots : Definition → List Slot
definition_slots (function name params result body) =
    item (token.Word word.Fn) (token.Name name ∷ open_ ∷ [])
    ++ (parameters_slots params
    ++ (going_on 0 (close ∷ token.Mark mark.Arrow ∷ kind_token result ∷ [])
    ++ braces_slots body 0))

abbrev pub more_functions_slots : MoreFunctions → List Slot
more_functions_slots end_functions = []
more_functions_slots (define next more) = definition_slots next ++ more_functions_slots more

-- the tokens of a program, each with where it stands
abbrev pub program_slots : Whole → List Slot
program_slots (program first more) = definition_slots first ++ more_functions_slots more

-- the tokens alone
abbrev pub slot_tokens : List Slot → List Token
slot_tokens [] = []
slot_tokens (first ∷ rest) = first.token ∷ slot_tokens rest

abbrev pub program_tokens : Whole → List Token
program_tokens whole = slot_tokens (program_slots whole)
