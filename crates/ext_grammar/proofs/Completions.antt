-- From each state some tokens lead to the end of a program.
use Rattle.std.proofs.Common.{List, [], ◌∷◌, refl, inl}
use Rattle.ext_mean.specs.declared.statement.Kind.TheVariants as kind
use Rattle.ext_mean.specs.declared.token.Token.{Token}
use Rattle.ext_mean.specs.Grammar.{Disjunction, disjunction, end_or, conjunction, end_and, only, sum, end_sum, product, end_product, plain, number, end_arguments, no_arguments, Braces, open_end, end_statements, Arms, arms, end_parameters, no_parameters, function, end_functions, program}
use Rattle.ext_grammar.specs.Coming.{Level, disjoining, conjoining, comparing, adding, multiplying, AroundBlock, if_block, else_block, while_block, some_block, none_block, function_body, AroundStatement, in_block, AroundExpr, chain, right, negated, in_parentheses, only_operand, first_of_two, second_of_two, first_of_three, second_of_three, third_of_three, call_argument, let_value, assigned, if_test, while_test, get_table, get_key, multiget_table, multiget_keys, multiget_width, write_place, write_value, del_table, del_key, answered, returned, Coming, fixed, unary, primary, behind, view_name, let_name, let_kind, value, behind_name, first_argument, written_name, put_name, some_word, some_name, none_word, arms_end, braces, statements, last_brace, maybe_else, functions, function_name, first_parameter, parameter, parameter_kind, behind_parameter, result_kind, level_operand}
use Rattle.ext_grammar.specs.Coming as coming
use Rattle.ext_grammar.proofs.Continuing.{no_further, no_else, valued, AfterBlock, AfterStatement, AfterExpr, Continues}

-- the least of each
abbrev nought : Disjunction
nought =
    disjunction (conjunction (only (sum (product (plain (number 0)) end_product) end_sum)) end_and)
    end_or

abbrev nothing : Braces
nothing = open_end end_statements

abbrev neither : Arms
neither = arms [] nothing nothing

mutual
  after-block : (around : AroundBlock) → (tokens : List Token) × AfterBlock around tokens
  after-block (if_block test operators around) =
      let (tokens, more) = after-statement around in (tokens, (no_else, (tokens, refl, more)))
  after-block (else_block test block around) = after-statement around
  after-block (while_block test around) = after-statement around
  after-block (some_block looking name operators around) =
      let (tokens, more) = after-statement around in (_, (nothing, (tokens, refl, more)))
  after-block (none_block looking name block operators around) =
      let (tokens, more) = after-statement around in (_, (tokens, refl, more))
  after-block (function_body known name params of) = ([], (end_functions, refl))

  after-statement : (around : AroundStatement) → (tokens : List Token)
      × AfterStatement around tokens
  after-statement (in_block known around) =
      let (tokens, more) = after-block around in (_, (nothing, (tokens, refl, more)))

after-expr : (around : AroundExpr) → (tokens : List Token) × AfterExpr around tokens
after-expr (chain disjoining around) =
    let (tokens, more) = after-expr around in (_, (end_or, (tokens, refl, more)))
after-expr (chain conjoining around) =
    let (tokens, more) = after-expr around in (_, (end_and, (tokens, refl, more)))
after-expr (chain comparing around) =
    let (tokens, more) = after-expr around in (_, (no_further, (tokens, refl, more)))
after-expr (chain adding around) =
    let (tokens, more) = after-expr around in (_, (end_sum, (tokens, refl, more)))
after-expr (chain multiplying around) =
    let (tokens, more) = after-expr around in (_, (end_product, (tokens, refl, more)))
after-expr (right disjoining by left around) =
    let (tokens, more) = after-expr around in (_, (end_or, (tokens, refl, more)))
after-expr (right conjoining by left around) =
    let (tokens, more) = after-expr around in (_, (end_and, (tokens, refl, more)))
after-expr (right comparing by left around) = after-expr around
after-expr (right adding by left around) =
    let (tokens, more) = after-expr around in (_, (end_sum, (tokens, refl, more)))
after-expr (right multiplying by left around) =
    let (tokens, more) = after-expr around in (_, (end_product, (tokens, refl, more)))
after-expr (negated around) = after-expr around
after-expr (in_parentheses around) =
    let (tokens, more) = after-expr around in (_, (tokens, refl, more))
after-expr (only_operand of around) =
    let (tokens, more) = after-expr around in (_, (tokens, refl, more))
after-expr (first_of_two of around) =
    let (tokens, more) = after-expr around in (_, (nought, (tokens, refl, more)))
after-expr (second_of_two of first around) =
    let (tokens, more) = after-expr around in (_, (tokens, refl, more))
after-expr (first_of_three of around) =
    let (tokens, more) = after-expr around in (_, (nought, nought, (tokens, refl, more)))
after-expr (second_of_three of first around) =
    let (tokens, more) = after-expr around in (_, (nought, (tokens, refl, more)))
after-expr (third_of_three of first second around) =
    let (tokens, more) = after-expr around in (_, (tokens, refl, more))
after-expr (call_argument name of called values around) =
    let (tokens, more) = after-statement around in (_, (end_arguments, (tokens, refl, more)))
after-expr (let_value name of around) =
    let (tokens, more) = after-statement around in (_, (tokens, refl, more))
after-expr (assigned name around) =
    let (tokens, more) = after-statement around in (_, (tokens, refl, more))
after-expr (if_test around) =
    let (tokens, more) = after-statement around in (_, (nothing, no_else, (tokens, refl, more)))
after-expr (while_test around) =
    let (tokens, more) = after-statement around in (_, (nothing, (tokens, refl, more)))
after-expr (get_table around) =
    let (tokens, more) = after-statement around in (_, (nought, neither, (tokens, refl, more)))
after-expr (get_key table around) =
    let (tokens, more) = after-statement around in (_, (neither, (tokens, refl, more)))
after-expr (multiget_table around) =
    let (tokens, more) = after-statement around in
    (_, (nought, nought, neither, (tokens, refl, more)))
after-expr (multiget_keys table around) =
    let (tokens, more) = after-statement around in (_, (nought, neither, (tokens, refl, more)))
after-expr (multiget_width table keys around) =
    let (tokens, more) = after-statement around in (_, (neither, (tokens, refl, more)))
after-expr (write_place writing name around) =
    let (tokens, more) = after-statement around in (_, (nought, (tokens, refl, more)))
after-expr (write_value writing name place around) =
    let (tokens, more) = after-statement around in (_, (tokens, refl, more))
after-expr (del_table around) =
    let (tokens, more) = after-statement around in (_, (nought, (tokens, refl, more)))
after-expr (del_key table around) =
    let (tokens, more) = after-statement around in (_, (tokens, refl, more))
after-expr (answered around) =
    let (tokens, more) = after-statement around in (_, (tokens, refl, more))
after-expr (returned known around) =
    let (tokens, more) = after-block around in (_, (tokens, refl, more))

pub some : (state : Coming) → (tokens : List Token) × Continues state tokens
some (fixed of state) = let (tokens, more) = some state in (_, (tokens, refl, more))
some (unary around) =
    let (tokens, more) = after-expr around in (_, (plain (number 0), (tokens, refl, more)))
some (primary around) =
    let (tokens, more) = after-expr around in (_, (number 0, (tokens, refl, more)))
some (behind found around) = after-expr around
some (view_name around) = let (tokens, more) = after-expr around in (_, ([], (tokens, refl, more)))
some (let_name around) =
    let (tokens, more) = after-statement around in
    (_, ([], kind.Int, valued nought, (tokens, refl, more)))
some (let_kind name around) =
    let (tokens, more) = after-statement around in
    (_, (kind.Int, valued nought, (tokens, refl, more)))
some (value name of around) =
    let (tokens, more) = after-statement around in (_, (valued nought, (tokens, refl, more)))
some (behind_name name of called around) =
    let (tokens, more) = after-expr (level_operand (let_value name of around)) in (tokens, inl more)
some (first_argument name of called around) =
    let (tokens, more) = after-statement around in (_, (no_arguments, (tokens, refl, more)))
some (written_name writing around) =
    let (tokens, more) = after-statement around in (_, ([], nought, nought, (tokens, refl, more)))
some (put_name around) =
    let (tokens, more) = after-statement around in (_, ([], (tokens, refl, more)))
some (some_word looking around) =
    let (tokens, more) = after-statement around in (_, ([], nothing, nothing, (tokens, refl, more)))
some (some_name looking around) =
    let (tokens, more) = after-statement around in (_, ([], nothing, nothing, (tokens, refl, more)))
some (none_word operators looking name block around) =
    let (tokens, more) = after-statement around in (_, (nothing, (tokens, refl, more)))
some (arms_end operators statement around) =
    let (tokens, more) = after-statement around in (_, (tokens, refl, more))
some (coming.semicolon statement around) =
    let (tokens, more) = after-statement around in (_, (tokens, refl, more))
some (braces around) =
    let (tokens, more) = after-block around in (_, (nothing, (tokens, refl, more)))
some (statements known around) =
    let (tokens, more) = after-block around in (_, (nothing, (tokens, refl, more)))
some (last_brace known around) =
    let (tokens, more) = after-block around in (_, (tokens, refl, more))
some (maybe_else test block operators around) =
    let (tokens, more) = after-statement around in (_, (no_else, (tokens, refl, more)))
some (functions []) =
    (_, (program (function [] no_parameters kind.Int nothing) end_functions, refl))
some (functions (first ∷ known)) = ([], (end_functions, refl))
some (function_name known) =
    (_, ([], no_parameters, kind.Int, nothing, ([], refl, (end_functions, refl))))
some (first_parameter known name) =
    (_, (no_parameters, kind.Int, nothing, ([], refl, (end_functions, refl))))
some (parameter known name params) =
    (_, ([], kind.Int, end_parameters, kind.Int, nothing, ([], refl, (end_functions, refl))))
some (parameter_kind known name params next) =
    (_, (kind.Int, end_parameters, kind.Int, nothing, ([], refl, (end_functions, refl))))
some (behind_parameter known name params) =
    (_, (end_parameters, kind.Int, nothing, ([], refl, (end_functions, refl))))
some (result_kind known name params) = (_, (kind.Int, nothing, ([], refl, (end_functions, refl))))
