-- The tree of a derivation: without its parentheses, chains to the left, an absent `else` as an
-- empty block, and a `return` as the last statement of its block.
use Rattle.std.specs.Prelude.{ℕ, List, [], ◌∷◌, ◌++◌}
use Rattle.ext_mean.specs.declared.expr.BinOp.{BinOp}
use Rattle.ext_mean.specs.declared.expr.BinOp.TheVariants as op
use Rattle.ext_mean.specs.declared.expr.Expr.{Expr}
use Rattle.ext_mean.specs.declared.expr.Expr.TheVariants as expr
use Rattle.ext_mean.specs.declared.statement.Statement.{Statement}
use Rattle.ext_mean.specs.declared.statement.Statement.TheVariants as does
use Rattle.ext_mean.specs.declared.statement.Statement.TheViews.{roll-Block}
use Rattle.ext_mean.specs.declared.statement.Block.{Block}
use Rattle.ext_mean.specs.declared.tree.Program.{Program}
use Rattle.ext_mean.specs.declared.tree.Function.{Function}
use Rattle.ext_mean.specs.declared.tree.Param.{Param}
use Rattle.ext_mean.specs.Grammar.{Comparing, equal, not_equal, less, less_equal, greater, greater_equal, Adding, plus, minus, Multiplying, times, over, remainder, Disjunction, disjunction, MoreOr, end_or, or, Conjunction, conjunction, MoreAnd, end_and, and, Comparison, only, compared, Sum, sum, MoreSum, end_sum, add, Product, product, MoreProduct, end_product, multiply, Unary, plain, negated, Primary, number, string, truth, variable, parentheses, args, len, view, temp, byte, u64, sub, alloc, MoreArguments, end_arguments, argument, Arguments, no_arguments, arguments, Writing, set, set8, copy, Braces, open_end, returning, MoreStatements, end_statements, statement, Sentence, Arms, arms, MoreParameters, end_parameters, parameter, Parameters, no_parameters, parameters, Definition, function, MoreFunctions, end_functions, define, Whole, program}
use Rattle.ext_mean.specs.Grammar as grammar

-- the operator of a comparison and of the two kinds of sign
abbrev pub comparing_operator : Comparing → BinOp
comparing_operator equal = op.Equal
comparing_operator not_equal = op.NotEqual
comparing_operator less = op.Less
comparing_operator less_equal = op.LessEqual
comparing_operator greater = op.Greater
comparing_operator greater_equal = op.GreaterEqual

abbrev pub adding_operator : Adding → BinOp
adding_operator plus = op.Add
adding_operator minus = op.Subtract

abbrev pub multiplying_operator : Multiplying → BinOp
multiplying_operator times = op.Multiply
multiplying_operator over = op.Divide
multiplying_operator remainder = op.Remainder

-- The expression of a derivation. The operands of a chain join the tree of those before them.
abbrev mutual
  pub disjunction_tree : Disjunction → Expr
  disjunction_tree (disjunction first more) = or_tree more (conjunction_tree first)

  pub or_tree : MoreOr → Expr → Expr
  or_tree end_or before = before
  or_tree (or next more) before = or_tree more (expr.Bin op.Or before (conjunction_tree next))

  pub conjunction_tree : Conjunction → Expr
  conjunction_tree (conjunction first more) = and_tree more (comparison_tree first)

  pub and_tree : MoreAnd → Expr → Expr
  and_tree end_and before = before
  and_tree (and next more) before = and_tree more (expr.Bin op.And before (comparison_tree next))

  pub comparison_tree : Comparison → Expr
  comparison_tree (only whole) = sum_tree whole
  comparison_tree (compared left comparing right) =
      expr.Bin (comparing_operator comparing) (sum_tree left) (sum_tree right)

  pub sum_tree : Sum → Expr
  sum_tree (sum first more) = add_tree more (product_tree first)

  pub add_tree : MoreSum → Expr → Expr
  add_tree end_sum before = before
  add_tree (add sign next more) before =
      add_tree more (expr.Bin (adding_operator sign) before (product_tree next))

  pub product_tree : Product → Expr
  product_tree (product first more) = multiply_tree more (unary_tree first)

  pub multiply_tree : MoreProduct → Expr → Expr
  multiply_tree end_product before = before
  multiply_tree (multiply sign next more) before =
      multiply_tree more (expr.Bin (multiplying_operator sign) before (unary_tree next))

  pub unary_tree : Unary → Expr
  unary_tree (plain operand) = primary_tree operand
  unary_tree (negated operand) = expr.Not (primary_tree operand)

  pub primary_tree : Primary → Expr
  primary_tree (number value) = expr.Number value
  primary_tree (string items) = expr.Str items
  primary_tree (truth value) = expr.Truth value
  primary_tree (variable name) = expr.Var name
  primary_tree (parentheses inner) = disjunction_tree inner
  primary_tree args = expr.Args
  primary_tree (len bytes) = expr.Len (disjunction_tree bytes)
  primary_tree (view name) = expr.View name
  primary_tree (temp size) = expr.Temp (disjunction_tree size)
  primary_tree (byte bytes place) = expr.Byte (disjunction_tree bytes) (disjunction_tree place)
  primary_tree (u64 bytes place) = expr.Word (disjunction_tree bytes) (disjunction_tree place)
  primary_tree (sub bytes from count) =
      expr.Sub (disjunction_tree bytes) (disjunction_tree from) (disjunction_tree count)
  primary_tree (alloc table key size) =
      expr.Alloc (disjunction_tree table) (disjunction_tree key) (disjunction_tree size)

-- the arguments of a call
abbrev pub more_arguments_tree : MoreArguments → List Expr
more_arguments_tree end_arguments = []
more_arguments_tree (argument next more) = disjunction_tree next ∷ more_arguments_tree more

abbrev pub arguments_tree : Arguments → List Expr
arguments_tree no_arguments = []
arguments_tree (arguments first more) = disjunction_tree first ∷ more_arguments_tree more

-- a block of these statements
abbrev pub block_of : List Statement → Block
block_of statements = roll-Block (record { items = statements })

-- a statement that writes into a buffer
abbrev pub write_tree : Writing → List ℕ → Expr → Expr → Statement
write_tree set name place value = does.Set name place value
write_tree set8 name place value = does.Set8 name place value
write_tree copy name place source = does.Copy name place source

-- the arm's name and its two blocks, where the read that they belong to is known
abbrev mutual
  pub braces_tree : Braces → Block
  braces_tree (open_end statements) = block_of (statements_tree statements)
  braces_tree (returning statements value) =
      block_of (statements_tree statements ++ does.Return (disjunction_tree value) ∷ [])

  pub statements_tree : MoreStatements → List Statement
  statements_tree end_statements = []
  statements_tree (statement first more) = sentence_tree first ∷ statements_tree more

  pub sentence_tree : Sentence → Statement
  sentence_tree (grammar.let_value name kind value) = does.Let name kind (disjunction_tree value)
  sentence_tree (grammar.let_call name kind called values) =
      does.LetCall name kind called (arguments_tree values)
  sentence_tree (grammar.assign name value) = does.Assign name (disjunction_tree value)
  sentence_tree (grammar.if test yes_block) =
      does.If (disjunction_tree test) (braces_tree yes_block) (block_of [])
  sentence_tree (grammar.if_else test yes_block no_block) =
      does.If (disjunction_tree test) (braces_tree yes_block) (braces_tree no_block)
  sentence_tree (grammar.while test body) = does.While (disjunction_tree test) (braces_tree body)
  sentence_tree (grammar.get table key behind) =
      arms_tree behind (does.Get (disjunction_tree table) (disjunction_tree key))
  sentence_tree (grammar.multiget table keys width behind) =
      arms_tree behind
      (does.Multi (disjunction_tree table) (disjunction_tree keys) (disjunction_tree width))
  sentence_tree (grammar.write writing name place value) =
      write_tree writing name (disjunction_tree place) (disjunction_tree value)
  sentence_tree (grammar.put name) = does.Put name
  sentence_tree (grammar.del table key) =
      does.Del (disjunction_tree table) (disjunction_tree key)
  sentence_tree (grammar.resp value) = does.Resp (disjunction_tree value)

  pub arms_tree : Arms → (List ℕ → Block → Block → Statement) → Statement
  arms_tree (arms name yes_block no_block) read =
      read name (braces_tree yes_block) (braces_tree no_block)

-- the parameters of a function
abbrev pub more_parameters_tree : MoreParameters → List Param
more_parameters_tree end_parameters = []
more_parameters_tree (parameter name kind more) =
    record { name = name; kind = kind } ∷ more_parameters_tree more

abbrev pub parameters_tree : Parameters → List Param
parameters_tree no_parameters = []
parameters_tree (parameters name kind more) =
    record { name = name; kind = kind } ∷ more_parameters_tree more

abbrev pub definition_tree : Definition → Function
definition_tree (function name params result body) = record {
  name = name;
  params = parameters_tree params;
  result = result;
  body = braces_tree body;
}

abbrev pub more_functions_tree : MoreFunctions → List Function
more_functions_tree end_functions = []
more_functions_tree (define next more) = definition_tree next ∷ more_functions_tree more

-- the program of a derivation
abbrev pub program_tree : Whole → Program
program_tree (program first more) =
    record { functions = definition_tree first ∷ more_functions_tree more }
