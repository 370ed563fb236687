-- Which tokens stand next to each other: behind an operator, `!` and `=` an operand begins.
use Rattle.std.proofs.Common.{◌≡◌, Bool, true, false, ◌&&◌, ◌||◌, not, List, [], ◌∷◌, ◌++◌, refl, ap, ◌∙◌, append_assoc, ℕ}
use Rattle.std.proofs.lemmas.Bool.{and_from}
use Rattle.ext_mean.specs.declared.token.Mark.TheVariants as mark
use Rattle.ext_mean.specs.declared.token.Token.{Token}
use Rattle.ext_mean.specs.declared.token.Token.TheVariants as token
use Rattle.ext_mean.specs.Derived.{comparing_operator}
use Rattle.ext_mean.specs.Grammar.{Disjunction, disjunction, MoreOr, end_or, or, Conjunction, conjunction, MoreAnd, end_and, and, Comparison, only, compared, Sum, sum, MoreSum, end_sum, add, Product, product, MoreProduct, end_product, multiply, Unary, plain, negated, Primary, number, string, truth, variable, parentheses, args, len, view, temp, byte, u64, sub, alloc, MoreArguments, end_arguments, argument, Arguments, no_arguments, arguments, Braces, open_end, returning, MoreStatements, end_statements, statement, Sentence, Arms, arms, MoreParameters, end_parameters, parameter, Parameters, no_parameters, parameters, Definition, function, MoreFunctions, end_functions, define, Whole, program}
use Rattle.ext_mean.specs.Grammar as grammar
use Rattle.ext_mean.specs.Wording.{close, comma, semicolon, disjunction_tokens, or_tokens, conjunction_tokens, and_tokens, comparison_tokens, sum_tokens, add_tokens, product_tokens, multiply_tokens, unary_tokens, primary_tokens, arguments_tokens, more_arguments_tokens}
use Rattle.ext_grammar.proofs.BareTokens.{braces_tokens, statements_tokens, sentence_tokens, arms_tokens, parameters_tokens, more_parameters_tokens, definition_tokens, more_functions_tokens, whole_tokens}

-- whether an operand is to come behind a token, and whether one begins with it
abbrev pub joins : Token → Bool
joins (token.Mark mark.Assign) = true
joins token.Not = true
joins (token.Binary operator) = true
joins other = false

abbrev pub starts : Token → Bool
starts (token.Word word) = true
starts (token.Name name) = true
starts (token.Number value) = true
starts (token.Str items) = true
starts (token.Mark mark.Open) = true
starts token.Not = true
starts other = false

-- behind each token that asks for an operand one begins; the first of these is asked to, or not
abbrev pub stands : Bool → List Token → Bool
stands joined [] = true
stands joined (next ∷ more) = (starts next || not joined) && stands (joins next) more

-- tokens that stand so before others that do
record Stands (joined : Bool) (tokens : List Token) : Type 0 where
  before : (rest : List Token) → stands false rest ≡ true → stands joined (tokens ++ rest) ≡ true

none-stand : Stands false []
none-stand = record { before = λ rest stand. stand }

next-stands : (joined : Bool) (next : Token) (more : List Token) → (starts next || not joined) ≡ true → Stands (joins next) more → Stands joined (next ∷ more)
next-stands joined next more one others = record { before = λ rest stand. and_from _ _ one (others.before rest stand) }

both-stand : (joined : Bool) (a b : List Token) → Stands joined a → Stands false b → Stands joined (a ++ b)
both-stand joined a b first second = record {
  before = λ rest stand. ap (stands joined) (append_assoc a b rest) ∙ first.before (b ++ rest) (second.before rest stand);
}

-- one, two and three expressions in parentheses, before others
within-one : (joined : Bool) (a c : List Token) → Stands false a → Stands false c → Stands joined (token.Mark mark.Open ∷ (a ++ close ∷ c))
within-one joined a c first after =
    next-stands joined (token.Mark mark.Open) _ refl (both-stand false a (close ∷ c) first (next-stands false close c refl after))

within-two : (joined : Bool) (a b c : List Token) → Stands false a → Stands false b → Stands false c
    → Stands joined (token.Mark mark.Open ∷ (a ++ comma ∷ (b ++ close ∷ c)))
within-two joined a b c first second after =
    next-stands joined (token.Mark mark.Open) _ refl (both-stand false a _ first (next-stands false comma _ refl
    (both-stand false b (close ∷ c) second (next-stands false close c refl after))))

within-three : (joined : Bool) (a b c d : List Token) → Stands false a → Stands false b → Stands false c → Stands false d
    → Stands joined (token.Mark mark.Open ∷ (a ++ comma ∷ (b ++ comma ∷ (c ++ close ∷ d))))
within-three joined a b c d first second third after =
    next-stands joined (token.Mark mark.Open) _ refl (both-stand false a _ first (next-stands false comma _ refl
    (both-stand false b _ second (next-stands false comma _ refl
    (both-stand false c (close ∷ d) third (next-stands false close d refl after))))))

-- expressions
mutual
  disjunction-stands : (d : Disjunction) (joined : Bool) → Stands joined (disjunction_tokens d)
  disjunction-stands (disjunction first more) joined =
      both-stand joined (conjunction_tokens first) (or_tokens more) (conjunction-stands first joined) (or-stands more)

  or-stands : (more : MoreOr) → Stands false (or_tokens more)
  or-stands end_or = none-stand
  or-stands (or next more) =
      next-stands false _ _ refl (both-stand true (conjunction_tokens next) (or_tokens more) (conjunction-stands next true) (or-stands more))

  conjunction-stands : (d : Conjunction) (joined : Bool) → Stands joined (conjunction_tokens d)
  conjunction-stands (conjunction first more) joined =
      both-stand joined (comparison_tokens first) (and_tokens more) (comparison-stands first joined) (and-stands more)

  and-stands : (more : MoreAnd) → Stands false (and_tokens more)
  and-stands end_and = none-stand
  and-stands (and next more) =
      next-stands false _ _ refl (both-stand true (comparison_tokens next) (and_tokens more) (comparison-stands next true) (and-stands more))

  comparison-stands : (d : Comparison) (joined : Bool) → Stands joined (comparison_tokens d)
  comparison-stands (only whole) joined = sum-stands whole joined
  comparison-stands (compared left sign right) joined =
      both-stand joined (sum_tokens left) (token.Binary (comparing_operator sign) ∷ sum_tokens right) (sum-stands left joined)
      (next-stands false (token.Binary (comparing_operator sign)) (sum_tokens right) refl (sum-stands right true))

  sum-stands : (d : Sum) (joined : Bool) → Stands joined (sum_tokens d)
  sum-stands (sum first more) joined = both-stand joined (product_tokens first) (add_tokens more) (product-stands first joined) (add-stands more)

  add-stands : (more : MoreSum) → Stands false (add_tokens more)
  add-stands end_sum = none-stand
  add-stands (add sign next more) =
      next-stands false _ _ refl (both-stand true (product_tokens next) (add_tokens more) (product-stands next true) (add-stands more))

  product-stands : (d : Product) (joined : Bool) → Stands joined (product_tokens d)
  product-stands (product first more) joined =
      both-stand joined (unary_tokens first) (multiply_tokens more) (unary-stands first joined) (multiply-stands more)

  multiply-stands : (more : MoreProduct) → Stands false (multiply_tokens more)
  multiply-stands end_product = none-stand
  multiply-stands (multiply sign next more) =
      next-stands false _ _ refl (both-stand true (unary_tokens next) (multiply_tokens more) (unary-stands next true) (multiply-stands more))

  unary-stands : (d : Unary) (joined : Bool) → Stands joined (unary_tokens d)
  unary-stands (plain operand) joined = primary-stands operand joined
  unary-stands (negated operand) joined = next-stands joined token.Not (primary_tokens operand) refl (primary-stands operand true)

  primary-stands : (d : Primary) (joined : Bool) → Stands joined (primary_tokens d)
  primary-stands (number value) joined = next-stands joined _ [] refl none-stand
  primary-stands (string items) joined = next-stands joined _ [] refl none-stand
  primary-stands (truth value) joined = next-stands joined _ [] refl none-stand
  primary-stands (variable name) joined = next-stands joined _ [] refl none-stand
  primary-stands (parentheses inner) joined = within-one joined (disjunction_tokens inner) [] (disjunction-stands inner false) none-stand
  primary-stands args joined = next-stands joined _ _ refl (within-one false [] [] none-stand none-stand)
  primary-stands (len bytes) joined =
      next-stands joined _ _ refl (within-one false (disjunction_tokens bytes) [] (disjunction-stands bytes false) none-stand)
  primary-stands (view name) joined =
      next-stands joined _ _ refl (within-one false (token.Name name ∷ []) [] (next-stands false _ [] refl none-stand) none-stand)
  primary-stands (temp size) joined =
      next-stands joined _ _ refl (within-one false (disjunction_tokens size) [] (disjunction-stands size false) none-stand)
  primary-stands (byte bytes place) joined =
      next-stands joined _ _ refl (within-two false (disjunction_tokens bytes) (disjunction_tokens place) []
      (disjunction-stands bytes false) (disjunction-stands place false) none-stand)
  primary-stands (u64 bytes place) joined =
      next-stands joined _ _ refl (within-two false (disjunction_tokens bytes) (disjunction_tokens place) []
      (disjunction-stands bytes false) (disjunction-stands place false) none-stand)
  primary-stands (sub bytes from count) joined =
      next-stands joined _ _ refl (within-three false (disjunction_tokens bytes) (disjunction_tokens from) (disjunction_tokens count) []
      (disjunction-stands bytes false) (disjunction-stands from false) (disjunction-stands count false) none-stand)
  primary-stands (alloc table key size) joined =
      next-stands joined _ _ refl (within-three false (disjunction_tokens table) (disjunction_tokens key) (disjunction_tokens size) []
      (disjunction-stands table false) (disjunction-stands key false) (disjunction-stands size false) none-stand)

more-stand : (more : MoreArguments) → Stands false (more_arguments_tokens more)
more-stand end_arguments = none-stand
more-stand (argument next more) =
    next-stands false _ _ refl (both-stand false (disjunction_tokens next) (more_arguments_tokens more) (disjunction-stands next false) (more-stand more))

arguments-stand : (all : Arguments) → Stands false (arguments_tokens all)
arguments-stand no_arguments = none-stand
arguments-stand (arguments first more) =
    both-stand false (disjunction_tokens first) (more_arguments_tokens more) (disjunction-stands first false) (more-stand more)

-- an expression before a `;` and what follows it
ended-stands : (joined : Bool) (value : Disjunction) (rest : List Token) → Stands false rest → Stands joined (disjunction_tokens value ++ semicolon ∷ rest)
ended-stands joined value rest after =
    both-stand joined (disjunction_tokens value) (semicolon ∷ rest) (disjunction-stands value joined) (next-stands false semicolon rest refl after)

semicolon-stands : Stands false (semicolon ∷ [])
semicolon-stands = next-stands false semicolon [] refl none-stand

name-stands : (name : List ℕ) → Stands false (token.Name name ∷ [])
name-stands name = next-stands false _ [] refl none-stand

mutual
  braces-stand : (whole : Braces) → Stands false (braces_tokens whole)
  braces-stand (open_end all) =
      next-stands false _ _ refl (both-stand false (statements_tokens all) _ (statements-stand all) (next-stands false _ [] refl none-stand))
  braces-stand (returning all value) =
      next-stands false _ _ refl (both-stand false (statements_tokens all) _ (statements-stand all)
      (next-stands false _ _ refl (ended-stands false value _ (next-stands false _ [] refl none-stand))))

  statements-stand : (whole : MoreStatements) → Stands false (statements_tokens whole)
  statements-stand end_statements = none-stand
  statements-stand (statement first more) = both-stand false (sentence_tokens first) (statements_tokens more) (sentence-stands first) (statements-stand more)

  sentence-stands : (whole : Sentence) → Stands false (sentence_tokens whole)
  sentence-stands (grammar.let_value name of value) =
      next-stands false _ _ refl (next-stands false _ _ refl (next-stands false _ _ refl (next-stands false _ _ refl (next-stands false _ _ refl
      (ended-stands true value [] none-stand)))))
  sentence-stands (grammar.let_call name of called values) =
      next-stands false _ _ refl (next-stands false _ _ refl (next-stands false _ _ refl (next-stands false _ _ refl (next-stands false _ _ refl
      (next-stands true _ _ refl (within-one false (arguments_tokens values) (semicolon ∷ []) (arguments-stand values) semicolon-stands))))))
  sentence-stands (grammar.assign name value) = next-stands false _ _ refl (next-stands false _ _ refl (ended-stands true value [] none-stand))
  sentence-stands (grammar.if test body) =
      next-stands false _ _ refl (both-stand false (disjunction_tokens test) (braces_tokens body) (disjunction-stands test false) (braces-stand body))
  sentence-stands (grammar.if_else test body other) =
      next-stands false _ _ refl (both-stand false (disjunction_tokens test) _ (disjunction-stands test false)
      (both-stand false (braces_tokens body) _ (braces-stand body) (next-stands false _ _ refl (braces-stand other))))
  sentence-stands (grammar.while test body) =
      next-stands false _ _ refl (both-stand false (disjunction_tokens test) (braces_tokens body) (disjunction-stands test false) (braces-stand body))
  sentence-stands (grammar.get table key both) =
      next-stands false _ _ refl (within-two false (disjunction_tokens table) (disjunction_tokens key) (arms_tokens both)
      (disjunction-stands table false) (disjunction-stands key false) (arms-stand both))
  sentence-stands (grammar.multiget table keys width both) =
      next-stands false _ _ refl (within-three false (disjunction_tokens table) (disjunction_tokens keys) (disjunction_tokens width) (arms_tokens both)
      (disjunction-stands table false) (disjunction-stands keys false) (disjunction-stands width false) (arms-stand both))
  sentence-stands (grammar.write writing name place value) =
      next-stands false _ _ refl (within-three false (token.Name name ∷ []) (disjunction_tokens place) (disjunction_tokens value) (semicolon ∷ [])
      (name-stands name) (disjunction-stands place false) (disjunction-stands value false) semicolon-stands)
  sentence-stands (grammar.put name) =
      next-stands false _ _ refl (within-one false (token.Name name ∷ []) (semicolon ∷ []) (name-stands name) semicolon-stands)
  sentence-stands (grammar.del table key) =
      next-stands false _ _ refl (within-two false (disjunction_tokens table) (disjunction_tokens key) (semicolon ∷ [])
      (disjunction-stands table false) (disjunction-stands key false) semicolon-stands)
  sentence-stands (grammar.resp value) =
      next-stands false _ _ refl (within-one false (disjunction_tokens value) (semicolon ∷ []) (disjunction-stands value false) semicolon-stands)

  arms-stand : (both : Arms) → Stands false (arms_tokens both)
  arms-stand (arms name body other) =
      next-stands false _ _ refl (next-stands false _ _ refl (next-stands false _ _ refl (next-stands false _ _ refl
      (both-stand false (braces_tokens body) _ (braces-stand body)
      (next-stands false _ _ refl (next-stands false _ _ refl
      (both-stand false (braces_tokens other) _ (braces-stand other) (next-stands false _ [] refl none-stand))))))))

more-parameters-stand : (more : MoreParameters) → Stands false (more_parameters_tokens more)
more-parameters-stand end_parameters = none-stand
more-parameters-stand (parameter name of more) =
    next-stands false _ _ refl (next-stands false _ _ refl (next-stands false _ _ refl (next-stands false _ _ refl (more-parameters-stand more))))

parameters-stand : (all : Parameters) → Stands false (parameters_tokens all)
parameters-stand no_parameters = none-stand
parameters-stand (parameters name of more) =
    next-stands false _ _ refl (next-stands false _ _ refl (next-stands false _ _ refl (more-parameters-stand more)))

definition-stands : (whole : Definition) → Stands false (definition_tokens whole)
definition-stands (function name params result body) =
    next-stands false _ _ refl (next-stands false _ _ refl (within-one false (parameters_tokens params) _ (parameters-stand params)
    (next-stands false _ _ refl (next-stands false _ _ refl (braces-stand body)))))

functions-stand : (whole : MoreFunctions) → Stands false (more_functions_tokens whole)
functions-stand end_functions = none-stand
functions-stand (define next more) =
    both-stand false (definition_tokens next) (more_functions_tokens more) (definition-stands next) (functions-stand more)

-- the tokens of a program stand so
pub whole-stands : (whole : Whole) → stands false (whole_tokens whole ++ []) ≡ true
whole-stands (program first more) =
    (both-stand false (definition_tokens first) (more_functions_tokens more) (definition-stands first) (functions-stand more)).before [] refl
