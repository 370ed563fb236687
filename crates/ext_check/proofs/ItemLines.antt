-- Each item has its line: as many slots begin an item as the program has items.
use Rattle.std.proofs.Common.{◌≡◌, ℕ, suc, ◌+◌, List, [], ◌∷◌, ◌++◌, length, map, refl, ap, arith, length-append}
use Rattle.std.specs.Prelude.{flat_map, if◌then◌else◌}
use Rattle.ext_mean.specs.declared.statement.Statement.{Statement}
use Rattle.ext_mean.specs.declared.statement.Statement.TheVariants as does
use Rattle.ext_mean.specs.declared.token.Placed.{Placed}
use Rattle.ext_mean.specs.declared.expr.Expr.{Expr}
use Rattle.ext_mean.specs.declared.token.Mark.TheVariants as mark
use Rattle.ext_mean.specs.declared.token.Token.{Token}
use Rattle.ext_mean.specs.declared.token.Token.TheVariants as token
use Rattle.ext_mean.specs.declared.token.Word.TheVariants as word
use Rattle.ext_mean.specs.declared.tree.Program.{Program}
use Rattle.ext_mean.specs.Derived.{block_of, braces_tree, statements_tree, sentence_tree, arms_tree, definition_tree, more_functions_tree, program_tree, disjunction_tree}
use Rattle.ext_mean.specs.Grammar.{Disjunction, Writing, set, set8, copy, Braces, open_end, returning, MoreStatements, end_statements, statement, Sentence, Arms, arms, MoreParameters, end_parameters, parameter, Parameters, no_parameters, parameters, Definition, function, MoreFunctions, end_functions, define, Whole, program}
use Rattle.ext_mean.specs.Grammar as grammar
use Rattle.ext_mean.specs.ProgramItems.{Item, joined, statement_items, block_items, function_items, program_items}
use Rattle.ext_mean.specs.Text.{item_lines, line_if_begins, SpellsAt}
use Rattle.ext_mean.specs.Tokens.{tokens_of}
use Rattle.ext_mean.specs.Wording.{Slot, Standing, outside, begins, inside, naming, going_on, is_operator, braces_slots, statements_slots, sentence_slots, arms_slots, parameters_slots, more_parameters_slots, definition_slots, more_functions_slots, program_slots, slot_tokens, operators, disjunction_tokens, slot, open_, close, close_block, comma, kind_token}
use Rattle.ext_mean.proofs.ItemEquations.{item_equations, items-block, items-If, items-While, items-Get, items-Multi}

abbrev tail_or_none : List Token → List Token
tail_or_none [] = []
tail_or_none (first ∷ rest) = rest

-- the items that begin among some slots
abbrev begun_by : Standing → ℕ
begun_by begins = 1
begun_by other = 0

abbrev begun : List Slot → ℕ
begun [] = 0
begun (first ∷ rest) = begun_by first.standing + begun rest

begun-append : (first second : List Slot) → begun (first ++ second) ≡ begun first + begun second
begun-append [] second = omega arith
begun-append (slot ∷ first) second = omega (arith, begun-append first second)

begun-going_on : (before : ℕ) (tokens : List Token) → begun (going_on before tokens) ≡ 0
begun-going_on before [] = refl
begun-going_on before (token ∷ tokens) =
    omega (arith, begun-going_on ((if is_operator token then 1 else 0) + before) tokens)

-- the items of some statements
abbrev many_items : List Statement → List Item
many_items statements = joined (map statement_items statements)

many-append : (first second : List Statement) → length (many_items (first ++ second)) ≡ length (many_items first) + length (many_items second)
many-append [] second = omega arith
many-append (one ∷ first) second = omega (arith, many-append first second, length-append (statement_items one) (many_items (first ++ second)), length-append (statement_items one) (many_items first))

ruleset counts = (begun-append, begun-going_on, length-append, many-append)

abbrev items_in_arms : Arms → ℕ
items_in_arms (arms name yes_block no_block) =
    length (block_items (braces_tree yes_block)) + length (block_items (braces_tree no_block))

items-get : (behind : Arms) (table key : Expr) → suc (items_in_arms behind) ≡ length (statement_items (arms_tree behind (does.Get table key)))
items-get (arms name yes_block no_block) table key =
    let e = items-Get table key name (braces_tree yes_block) (braces_tree no_block) in
    let l = length-append (block_items (braces_tree yes_block)) (block_items (braces_tree no_block)) in
    grind (arith, e, l)

items-multi : (behind : Arms) (table keys width : Expr) → suc (items_in_arms behind) ≡ length (statement_items (arms_tree behind (does.Multi table keys width)))
items-multi (arms name yes_block no_block) table keys width =
    let e = items-Multi table keys width name (braces_tree yes_block) (braces_tree no_block) in
    let l = length-append (block_items (braces_tree yes_block)) (block_items (braces_tree no_block)) in
    grind (arith, e, l)

mutual
  begun-braces : (braces : Braces) (before : ℕ) → begun (braces_slots braces before) ≡ length (block_items (braces_tree braces))
  begun-braces (open_end statements) before =
      let e = items-block (statements_tree statements) in
      let s = begun-statements statements in
      grind (arith, counts, e, s)
  begun-braces (returning statements value) before =
      let e = items-block (statements_tree statements ++ does.Return (disjunction_tree value) ∷ []) in
      let s = begun-statements statements in
      grind (arith, counts, e, s, item_equations)

  begun-statements : (statements : MoreStatements) → begun (statements_slots statements) ≡ length (many_items (statements_tree statements))
  begun-statements end_statements = refl
  begun-statements (statement first more) =
      omega (arith, begun-append (sentence_slots first) (statements_slots more), begun-sentence first, begun-statements more, length-append (statement_items (sentence_tree first)) (many_items (statements_tree more)))

  begun-sentence : (sentence : Sentence) → begun (sentence_slots sentence) ≡ length (statement_items (sentence_tree sentence))
  begun-sentence (grammar.let_value name of value) = grind (arith, counts, item_equations)
  begun-sentence (grammar.let_call name of called values) = grind (arith, counts, item_equations)
  begun-sentence (grammar.assign name value) = grind (arith, counts, item_equations)
  begun-sentence (grammar.if test yes_block) =
      let shown = disjunction_tokens test in
      let before = operators shown in
      let g = begun-append (going_on 0 shown) (braces_slots yes_block before) in
      let z = begun-going_on 0 shown in
      let y = begun-braces yes_block before in
      let e = items-If (disjunction_tree test) (braces_tree yes_block) (block_of []) in
      let l = length-append (block_items (braces_tree yes_block)) (block_items (block_of [])) in
      let n = items-block [] in
      grind (arith, g, z, y, e, l, n)
  begun-sentence (grammar.if_else test yes_block no_block) =
      let shown = disjunction_tokens test in
      let before = operators shown in
      let rest : List Slot = slot (token.Word word.Else) outside ∷ braces_slots no_block before in
      let g = begun-append (going_on 0 shown) (braces_slots yes_block before ++ rest) in
      let h = begun-append (braces_slots yes_block before) rest in
      let z = begun-going_on 0 shown in
      let y = begun-braces yes_block before in
      let o = begun-braces no_block before in
      let e = items-If (disjunction_tree test) (braces_tree yes_block) (braces_tree no_block) in
      let l = length-append (block_items (braces_tree yes_block)) (block_items (braces_tree no_block)) in
      grind (arith, g, h, z, y, o, e, l)
  begun-sentence (grammar.while test body) =
      let shown = disjunction_tokens test in
      let before = operators shown in
      let g = begun-append (going_on 0 shown) (braces_slots body before) in
      let z = begun-going_on 0 shown in
      let y = begun-braces body before in
      let e = items-While (disjunction_tree test) (braces_tree body) in
      grind (arith, g, z, y, e)
  begun-sentence (grammar.get table key behind) =
      let shown = open_ ∷ (disjunction_tokens table ++ comma ∷ (disjunction_tokens key ++ close ∷ [])) in
      let before = operators (disjunction_tokens table) + operators (disjunction_tokens key) in
      let g = begun-append (going_on 0 shown) (arms_slots behind before) in
      let z = begun-going_on 0 shown in
      let y = begun-arms behind before in
      let i = items-get behind (disjunction_tree table) (disjunction_tree key) in
      grind (arith, g, z, y, i)
  begun-sentence (grammar.multiget table keys width behind) =
      let shown = open_ ∷ (disjunction_tokens table ++ comma ∷ (disjunction_tokens keys ++ comma ∷ (disjunction_tokens width ++ close ∷ []))) in
      let before = operators (disjunction_tokens table) + (operators (disjunction_tokens keys) + operators (disjunction_tokens width)) in
      let g = begun-append (going_on 0 shown) (arms_slots behind before) in
      let z = begun-going_on 0 shown in
      let y = begun-arms behind before in
      let i = items-multi behind (disjunction_tree table) (disjunction_tree keys) (disjunction_tree width) in
      grind (arith, g, z, y, i)
  begun-sentence (grammar.write set name place value) = grind (arith, counts, item_equations)
  begun-sentence (grammar.write set8 name place value) = grind (arith, counts, item_equations)
  begun-sentence (grammar.write copy name place value) = grind (arith, counts, item_equations)
  begun-sentence (grammar.put name) = grind (arith, counts, item_equations)
  begun-sentence (grammar.del table key) = grind (arith, counts, item_equations)
  begun-sentence (grammar.resp value) = grind (arith, counts, item_equations)

  -- the slots of the arms begin the items of their two blocks
  begun-arms : (behind : Arms) (before : ℕ) → begun (arms_slots behind before) ≡ items_in_arms behind
  begun-arms (arms name yes_block no_block) before =
      let last : List Slot = slot close_block (inside before) ∷ [] in
      let rest : List Slot = slot (token.Word word.None) (inside before) ∷ slot (token.Mark mark.Arm) (inside before) ∷ (braces_slots no_block before ++ last) in
      let g = begun-append (braces_slots yes_block before) rest in
      let h = begun-append (braces_slots no_block before) last in
      let y = begun-braces yes_block before in
      let o = begun-braces no_block before in
      grind (arith, g, h, y, o)

begun-parameters-more : (more : MoreParameters) → begun (more_parameters_slots more) ≡ 0
begun-parameters-more end_parameters = refl
begun-parameters-more (parameter name of more) = grind (arith, begun-parameters-more more)

begun-parameters : (params : Parameters) → begun (parameters_slots params) ≡ 0
begun-parameters no_parameters = refl
begun-parameters (parameters name of more) = grind (arith, begun-parameters-more more)

begun-definition : (definition : Definition) → begun (definition_slots definition) ≡ length (function_items (definition_tree definition))
begun-definition (function name params result body) =
    let tail : List Slot = going_on 0 (close ∷ token.Mark mark.Arrow ∷ kind_token result ∷ []) ++ braces_slots body 0 in
    let g = begun-append (parameters_slots params) tail in
    let p = begun-parameters params in
    let b = begun-braces body 0 in
    grind (arith, g, p, b)

begun-functions : (more : MoreFunctions) → begun (more_functions_slots more) ≡ length (flat_map function_items (more_functions_tree more))
begun-functions end_functions = refl
begun-functions (define next more) =
    omega (arith, begun-append (definition_slots next) (more_functions_slots more), begun-definition next, begun-functions more, length-append (function_items (definition_tree next)) (flat_map function_items (more_functions_tree more)))

begun-program : (whole : Whole) → begun (program_slots whole) ≡ length (program_items (program_tree whole))
begun-program (program first more) =
    omega (arith, begun-append (definition_slots first) (more_functions_slots more), begun-definition first, begun-functions more, length-append (function_items (definition_tree first)) (flat_map function_items (more_functions_tree more)))

-- the lines of the items are as many as the slots that begin one
line-count-if : (standing : Standing) (line : ℕ) (lines : List ℕ) → length (line_if_begins standing line lines) ≡ begun_by standing + length lines
line-count-if outside line lines = omega arith
line-count-if begins line lines = omega arith
line-count-if (inside before) line lines = omega arith
line-count-if (naming before) line lines = omega arith

line-count : (slots : List Slot) (placed : List Placed) → slot_tokens slots ≡ tokens_of placed → length (item_lines slots placed) ≡ begun slots
line-count [] placed e = refl
line-count (slot ∷ slots) [] e = absurd (let f : (slot.token ∷ slot_tokens slots) ≡ [] = e in cc)
line-count (slot ∷ slots) (one ∷ placed) e =
    let f : slot_tokens slots ≡ tokens_of placed = ap tail_or_none e in
    omega (arith, line-count-if slot.standing one.line (item_lines slots placed), line-count slots placed f)

-- a text's items each have a line
pub lines-of-items : (text : List ℕ) (tree : Program) (lines : List ℕ) → SpellsAt text tree lines → length lines ≡ length (program_items tree)
lines-of-items text tree lines spelled =
    let c = line-count (program_slots spelled.reading.whole) spelled.reading.placed spelled.reading.sentence in
    let b = begun-program spelled.reading.whole in
    let t = spelled.tree in
    let p = spelled.places in
    grind (arith, c, b, t, p)
