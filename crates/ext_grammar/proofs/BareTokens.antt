-- The tokens of a derivation without where they stand.
use Rattle.std.proofs.Common.{◌≡◌, ℕ, ◌+◌, List, [], ◌∷◌, ◌++◌, refl, ◌∙◌, ap, append_assoc, if◌then◌else◌}
use Rattle.ext_mean.specs.declared.statement.Kind.{Kind}
use Rattle.ext_mean.specs.declared.token.Mark.TheVariants as mark
use Rattle.ext_mean.specs.declared.token.Token.{Token}
use Rattle.ext_mean.specs.declared.token.Token.TheVariants as token
use Rattle.ext_mean.specs.declared.token.Word.TheVariants as word
use Rattle.ext_mean.specs.Grammar.{Disjunction, Braces, open_end, returning, MoreStatements, end_statements, statement, Sentence, Arms, arms, MoreParameters, end_parameters, parameter, Parameters, no_parameters, parameters, Definition, function, MoreFunctions, end_functions, define, Whole, program}
use Rattle.ext_mean.specs.Grammar as grammar
use Rattle.ext_mean.specs.Wording.{inside, outside, Slot, slot, open_, close, open_block, close_block, comma, semicolon, colon, assigns, fn_token, kind_token, is_operator, operators, disjunction_tokens, arguments_tokens, going_on, return_slots, writing_word, braces_slots, statements_slots, sentence_slots, arms_slots, more_parameters_slots, parameters_slots, definition_slots, more_functions_slots, slot_tokens, program_tokens}

abbrev mutual
  pub braces_tokens : Braces → List Token
  braces_tokens (open_end all) = open_block ∷ (statements_tokens all ++ close_block ∷ [])
  braces_tokens (returning all whole) =
      open_block ∷ (statements_tokens all
      ++ token.Word word.Return ∷ (disjunction_tokens whole ++ semicolon ∷ close_block ∷ []))

  pub statements_tokens : MoreStatements → List Token
  statements_tokens end_statements = []
  statements_tokens (statement first more) = sentence_tokens first ++ statements_tokens more

  pub sentence_tokens : Sentence → List Token
  sentence_tokens (grammar.let_value name of whole) =
      token.Word word.Let ∷ token.Name name ∷ colon ∷ kind_token of ∷ assigns
      ∷ (disjunction_tokens whole ++ semicolon ∷ [])
  sentence_tokens (grammar.let_call name of called values) =
      token.Word word.Let ∷ token.Name name ∷ colon ∷ kind_token of ∷ assigns ∷ token.Name called
      ∷ open_
      ∷ (arguments_tokens values ++ close ∷ semicolon ∷ [])
  sentence_tokens (grammar.assign name whole) =
      token.Name name ∷ assigns ∷ (disjunction_tokens whole ++ semicolon ∷ [])
  sentence_tokens (grammar.if test block) =
      token.Word word.If ∷ (disjunction_tokens test ++ braces_tokens block)
  sentence_tokens (grammar.if_else test block other) =
      token.Word word.If ∷ (disjunction_tokens test
      ++ (braces_tokens block ++ token.Word word.Else ∷ braces_tokens other))
  sentence_tokens (grammar.while test block) =
      token.Word word.While ∷ (disjunction_tokens test ++ braces_tokens block)
  sentence_tokens (grammar.get table key both) =
      token.Word word.Get ∷ open_ ∷ (disjunction_tokens table
      ++ comma ∷ (disjunction_tokens key ++ close ∷ arms_tokens both))
  sentence_tokens (grammar.multiget table keys width both) =
      token.Word word.Multiget ∷ open_
      ∷ (disjunction_tokens table ++ comma ∷ (disjunction_tokens keys
      ++ comma ∷ (disjunction_tokens width ++ close ∷ arms_tokens both)))
  sentence_tokens (grammar.write writing name place whole) =
      token.Word (writing_word writing) ∷ open_ ∷ token.Name name ∷ comma
      ∷ (disjunction_tokens place
      ++ comma ∷ (disjunction_tokens whole ++ close ∷ semicolon ∷ []))
  sentence_tokens (grammar.put name) =
      token.Word word.Put ∷ open_ ∷ token.Name name ∷ close ∷ semicolon ∷ []
  sentence_tokens (grammar.del table key) =
      token.Word word.Del ∷ open_ ∷ (disjunction_tokens table
      ++ comma ∷ (disjunction_tokens key ++ close ∷ semicolon ∷ []))
  sentence_tokens (grammar.resp whole) =
      token.Word word.Resp ∷ open_ ∷ (disjunction_tokens whole ++ close ∷ semicolon ∷ [])

  pub arms_tokens : Arms → List Token
  arms_tokens (arms name block other) =
      open_block ∷ token.Word word.Some ∷ token.Name name ∷ token.Mark mark.Arm
      ∷ (braces_tokens block
      ++ token.Word word.None ∷ token.Mark mark.Arm ∷ (braces_tokens other ++ close_block ∷ []))

abbrev pub more_parameters_tokens : MoreParameters → List Token
more_parameters_tokens end_parameters = []
more_parameters_tokens (parameter name of more) =
    comma ∷ token.Name name ∷ colon ∷ kind_token of ∷ more_parameters_tokens more

abbrev pub parameters_tokens : Parameters → List Token
parameters_tokens no_parameters = []
parameters_tokens (parameters name of more) =
    token.Name name ∷ colon ∷ kind_token of ∷ more_parameters_tokens more

-- what stands behind the parameters of a function
abbrev pub signature_end : Kind → Braces → List Token
signature_end result body = close ∷ token.Mark mark.Arrow ∷ kind_token result ∷ braces_tokens body

abbrev pub definition_tokens : Definition → List Token
definition_tokens (function name params result body) =
    fn_token ∷ token.Name name ∷ open_ ∷ (parameters_tokens params ++ signature_end result body)

abbrev pub more_functions_tokens : MoreFunctions → List Token
more_functions_tokens end_functions = []
more_functions_tokens (define next more) = definition_tokens next ++ more_functions_tokens more

abbrev pub whole_tokens : Whole → List Token
whole_tokens (program first more) = definition_tokens first ++ more_functions_tokens more

pub tokens-append : (first second : List Slot) → slot_tokens (first ++ second) ≡ slot_tokens first
    ++ slot_tokens second
tokens-append [] second = refl
tokens-append (next ∷ first) second = ap (λ it. next.token ∷ it) (tokens-append first second)

pub tokens-going_on : (tokens : List Token) (before : ℕ) → slot_tokens (going_on before tokens)
    ≡ tokens
tokens-going_on [] before = refl
tokens-going_on (next ∷ more) before =
    ap (λ it. next ∷ it) (tokens-going_on more ((if is_operator next then 1 else 0) + before))

-- some tokens of an item, and what stands behind them
went : (tokens : List Token) (rest : List Slot) (others : List Token) → slot_tokens rest ≡ others →
    slot_tokens (going_on 0 tokens ++ rest) ≡ tokens ++ others
went tokens rest others same =
    tokens-append (going_on 0 tokens) rest ∙ ap (λ it. it ++ slot_tokens rest)
    (tokens-going_on tokens 0) ∙ ap (λ it. tokens ++ it) same

both-are : (slots rest : List Slot) (tokens others : List Token) → slot_tokens slots ≡ tokens →
    slot_tokens rest ≡ others → slot_tokens (slots ++ rest) ≡ tokens ++ others
both-are slots rest tokens others first second =
    tokens-append slots rest ∙ ap (λ it. it ++ slot_tokens rest) first
    ∙ ap (λ it. tokens ++ it) second

mutual
  pub braces-are : (block : Braces) (before : ℕ) → slot_tokens (braces_slots block before)
      ≡ braces_tokens block
  braces-are (open_end all) before =
      ap (λ it. open_block ∷ it) (both-are (statements_slots all) (slot close_block outside ∷ [])
      (statements_tokens all) (close_block ∷ []) (statements-are all) refl)
  braces-are (returning all whole) before =
      ap (λ it. open_block ∷ it) (both-are (statements_slots all)
      (return_slots whole ++ slot close_block outside ∷ []) (statements_tokens all)
      (token.Word word.Return ∷ (disjunction_tokens whole ++ semicolon ∷ close_block ∷ []))
      (statements-are all)
      (ap (λ it. token.Word word.Return ∷ it)
      (went (disjunction_tokens whole ++ semicolon ∷ []) (slot close_block outside ∷ [])
      (close_block ∷ []) refl ∙ append_assoc (disjunction_tokens whole) (semicolon ∷ [])
      (close_block ∷ []))))

  pub statements-are : (all : MoreStatements) → slot_tokens (statements_slots all)
      ≡ statements_tokens all
  statements-are end_statements = refl
  statements-are (statement first more) =
      both-are (sentence_slots first) (statements_slots more) (sentence_tokens first)
      (statements_tokens more) (sentence-are first) (statements-are more)

  pub sentence-are : (first : Sentence) → slot_tokens (sentence_slots first) ≡ sentence_tokens first
  sentence-are (grammar.let_value name of whole) =
      ap (λ it. token.Word word.Let ∷ token.Name name ∷ it)
      (tokens-going_on (colon ∷ kind_token of ∷ assigns
      ∷ (disjunction_tokens whole ++ semicolon ∷ [])) 0)
  sentence-are (grammar.let_call name of called values) =
      ap (λ it. token.Word word.Let ∷ token.Name name ∷ it)
      (tokens-going_on (colon ∷ kind_token of ∷ assigns
      ∷ ((token.Name called ∷ open_ ∷ (arguments_tokens values ++ close ∷ []))
      ++ semicolon ∷ [])) 0
      ∙ ap (λ it. colon ∷ kind_token of ∷ assigns ∷ token.Name called ∷ open_ ∷ it)
      (append_assoc (arguments_tokens values) (close ∷ []) (semicolon ∷ [])))
  sentence-are (grammar.assign name whole) =
      ap (λ it. token.Name name ∷ it)
      (tokens-going_on (assigns ∷ (disjunction_tokens whole ++ semicolon ∷ [])) 0)
  sentence-are (grammar.if test block) =
      ap (λ it. token.Word word.If ∷ it)
      (went (disjunction_tokens test) (braces_slots block (operators (disjunction_tokens test)))
      (braces_tokens block) (braces-are block (operators (disjunction_tokens test))))
  sentence-are (grammar.if_else test block other) =
      ap (λ it. token.Word word.If ∷ it)
      (went (disjunction_tokens test) (braces_slots block (operators (disjunction_tokens test))
      ++ (slot (token.Word word.Else) outside ∷ braces_slots other
      (operators (disjunction_tokens test))))
      (braces_tokens block ++ token.Word word.Else ∷ braces_tokens other)
      (both-are (braces_slots block (operators (disjunction_tokens test)))
      (slot (token.Word word.Else) outside ∷ braces_slots other
      (operators (disjunction_tokens test))) (braces_tokens block)
      (token.Word word.Else ∷ braces_tokens other)
      (braces-are block (operators (disjunction_tokens test)))
      (ap (λ it. token.Word word.Else ∷ it)
      (braces-are other (operators (disjunction_tokens test))))))
  sentence-are (grammar.while test block) =
      ap (λ it. token.Word word.While ∷ it)
      (went (disjunction_tokens test) (braces_slots block (operators (disjunction_tokens test)))
      (braces_tokens block) (braces-are block (operators (disjunction_tokens test))))
  sentence-are (grammar.get table key both) =
      ap (λ it. token.Word word.Get ∷ it)
      (went (open_ ∷ (disjunction_tokens table ++ comma ∷ (disjunction_tokens key ++ close ∷ [])))
      (arms_slots both (operators (disjunction_tokens table) + operators
      (disjunction_tokens key))) (arms_tokens both)
      (arms-are both (operators (disjunction_tokens table) + operators
      (disjunction_tokens key)))
      ∙ simp append_assoc)
  sentence-are (grammar.multiget table keys width both) =
      ap (λ it. token.Word word.Multiget ∷ it)
      (went (open_ ∷ (disjunction_tokens table
      ++ comma ∷ (disjunction_tokens keys ++ comma ∷ (disjunction_tokens width ++ close ∷ []))))
      (arms_slots both (operators (disjunction_tokens table)
      + (operators (disjunction_tokens keys) + operators (disjunction_tokens width))))
      (arms_tokens both) (arms-are both
      (operators (disjunction_tokens table)
      + (operators (disjunction_tokens keys) + operators (disjunction_tokens width))))
      ∙ simp append_assoc)
  sentence-are (grammar.write writing name place whole) =
      ap (λ it. token.Word (writing_word writing) ∷ it)
      (tokens-going_on (open_ ∷ token.Name name ∷ comma
      ∷ (disjunction_tokens place ++ comma
      ∷ (disjunction_tokens whole ++ close ∷ semicolon ∷ []))) 0)
  sentence-are (grammar.put name) = refl
  sentence-are (grammar.del table key) =
      ap (λ it. token.Word word.Del ∷ it)
      (tokens-going_on (open_ ∷ (disjunction_tokens table
      ++ comma ∷ (disjunction_tokens key ++ close ∷ semicolon ∷ []))) 0)
  sentence-are (grammar.resp whole) =
      ap (λ it. token.Word word.Resp ∷ it)
      (tokens-going_on (open_ ∷ (disjunction_tokens whole ++ close ∷ semicolon ∷ [])) 0)

  pub arms-are : (both : Arms) (before : ℕ) → slot_tokens (arms_slots both before)
      ≡ arms_tokens both
  arms-are (arms name block other) before =
      ap (λ it. open_block ∷ token.Word word.Some ∷ token.Name name ∷ token.Mark mark.Arm ∷ it)
      (both-are (braces_slots block before)
      (slot (token.Word word.None) (inside before) ∷ slot (token.Mark mark.Arm) (inside before)
      ∷ (braces_slots other before ++ slot close_block (inside before) ∷ []))
      (braces_tokens block)
      (token.Word word.None ∷ token.Mark mark.Arm ∷ (braces_tokens other ++ close_block ∷ []))
      (braces-are block before)
      (ap (λ it. token.Word word.None ∷ token.Mark mark.Arm ∷ it)
      (both-are (braces_slots other before) (slot close_block (inside before) ∷ [])
      (braces_tokens other) (close_block ∷ []) (braces-are other before) refl)))

more-parameters-are : (more : MoreParameters) → slot_tokens (more_parameters_slots more)
    ≡ more_parameters_tokens more
more-parameters-are end_parameters = refl
more-parameters-are (parameter name of more) =
    ap (λ it. comma ∷ token.Name name ∷ colon ∷ kind_token of ∷ it) (more-parameters-are more)

parameters-are : (params : Parameters) → slot_tokens (parameters_slots params)
    ≡ parameters_tokens params
parameters-are no_parameters = refl
parameters-are (parameters name of more) =
    ap (λ it. token.Name name ∷ colon ∷ kind_token of ∷ it) (more-parameters-are more)

definition-are : (first : Definition) → slot_tokens (definition_slots first)
    ≡ definition_tokens first
definition-are (function name params result body) =
    ap (λ it. fn_token ∷ token.Name name ∷ open_ ∷ it)
    (both-are (parameters_slots params)
    (going_on 0 (close ∷ token.Mark mark.Arrow ∷ kind_token result ∷ []) ++ braces_slots body 0)
    (parameters_tokens params) (signature_end result body)
    (parameters-are params)
    (ap (λ it. close ∷ token.Mark mark.Arrow ∷ kind_token result ∷ it) (braces-are body 0)))

more-functions-are : (more : MoreFunctions) → slot_tokens (more_functions_slots more)
    ≡ more_functions_tokens more
more-functions-are end_functions = refl
more-functions-are (define next more) =
    both-are (definition_slots next) (more_functions_slots more) (definition_tokens next)
    (more_functions_tokens more) (definition-are next) (more-functions-are more)

pub whole-are : (whole : Whole) → program_tokens whole ≡ whole_tokens whole
whole-are (program first more) =
    both-are (definition_slots first) (more_functions_slots more) (definition_tokens first)
    (more_functions_tokens more) (definition-are first) (more-functions-are more)
