-- The tokens of blocks and statements lead to the place behind them, with their trees.
use Rattle.std.proofs.Common.{◌≡◌, ℕ, ◌+◌, List, [], ◌∷◌, ◌++◌, sym, ◌∙◌, ap, subst, zero-add, add_assoc, append_assoc, append-nil}
use Rattle.ext_mean.specs.declared.expr.Expr.{Expr}
use Rattle.ext_mean.specs.declared.statement.Block.{Block}
use Rattle.ext_mean.specs.declared.statement.Statement.{Statement}
use Rattle.ext_mean.specs.declared.statement.Statement.TheVariants as does
use Rattle.ext_mean.specs.declared.token.Mark.TheVariants as mark
use Rattle.ext_mean.specs.declared.token.Token.{Token}
use Rattle.ext_mean.specs.declared.token.Token.TheVariants as token
use Rattle.ext_mean.specs.declared.token.Word.TheVariants as word
use Rattle.ext_mean.specs.declared.tree.Program.{Program}
use Rattle.ext_mean.specs.Derived.{block_of, disjunction_tree, braces_tree, statements_tree, sentence_tree, arms_tree}
use Rattle.ext_mean.specs.Grammar.{Disjunction, Braces, open_end, returning, MoreStatements, end_statements, statement, Sentence, Arms, arms}
use Rattle.ext_mean.specs.Grammar as grammar
use Rattle.ext_mean.specs.Wording.{Standing, inside, outside, Slot, slot, open_, close, comma, semicolon, close_block, operators, disjunction_tokens, braces_slots, statements_slots, sentence_slots, arms_slots, return_slots, going_on}
use Rattle.ext_grammar.specs.Coming.{AroundExpr, AroundStatement, AroundBlock, in_block, if_block, else_block, while_block, some_block, none_block, if_test, while_test, get_table, get_key, multiget_table, multiget_keys, multiget_width, returned, Looking, looking_statement, Coming, fixed, behind, braces, statements, maybe_else, some_word, expression, on_else, on_done, on_token, done, closed}
use Rattle.ext_grammar.specs.Coming as coming
use Rattle.ext_grammar.proofs.Walks.{took, Takes, Walk, counted, counted-append, counted-is}
use Rattle.ext_grammar.proofs.Leading.{Leads}
use Rattle.ext_grammar.proofs.LedExpressions.{disjunction-leads, followed-by}
use Rattle.ext_grammar.proofs.LedItems.{closing, let_value-passes, let_call-passes, assign-passes, resp-passes, put-passes, del-passes, write-passes}
use Rattle.ext_grammar.proofs.Passing.{Passes, passes-both, passes-on}

module _ (program : Program) where
  -- behind a test its block
  if-goes : (found : Expr) (around : AroundStatement) (before : ℕ) (slots : List Slot) →
      Walk slots (braces (if_block found before around)) before program →
      Walk slots (behind found (if_test around)) before program
  if-goes found around before [] walk = walk
  if-goes found around before (next ∷ rest) walk = walk

  while-goes : (found : Expr) (around : AroundStatement) (before : ℕ) (slots : List Slot) →
      Walk slots (braces (while_block found around)) before program →
      Walk slots (behind found (while_test around)) before program
  while-goes found around before [] walk = walk
  while-goes found around before (next ∷ rest) walk = walk

  -- an `if` without `else`
  no-else-token : (test : Expr) (block : Block) (before : ℕ) (around : AroundBlock)
      (known : List Statement) (next : Token) (standing : Standing) (more : Coming → ℕ → Type 0) →
      Takes (on_done (does.If test block (block_of [])) (in_block known around) next) standing
      more → Takes (on_else test block before (in_block known around) next) standing more
  no-else-token test block before around known (token.Word word.Else) standing more takes =
      absurd takes
  no-else-token test block before around known _ standing more takes = takes

  no-else : (test : Expr) (block : Block) (before : ℕ) (around : AroundBlock)
      (known : List Statement) (slots : List Slot) →
      Walk slots (statements (known ++ does.If test block (block_of []) ∷ []) around) 0 program →
      Walk slots (maybe_else test block before (in_block known around)) 0 program
  no-else test block before around known [] walk = walk
  no-else test block before around known (next ∷ rest) walk =
      no-else-token test block before around known next.token next.standing _ walk

  -- `return`, its expression and the `}`
  return-passes : (whole : Disjunction) (known : List Statement) (around : AroundBlock) →
      Passes program (return_slots whole ++ slot close_block outside ∷ []) (statements known around)
      0
      (closed (block_of (known ++ does.Return (disjunction_tree whole) ∷ [])) around) 0
  return-passes whole known around =
      let last : Coming = coming.last_brace (known ++ does.Return (disjunction_tree whole) ∷ [])
      around in
      let within : AroundExpr = returned known around in
      passes-both program (return_slots whole) (slot close_block outside ∷ [])
      (statements known around)
      last (closed (block_of (known ++ does.Return (disjunction_tree whole) ∷ [])) around) 0 0 0
      (λ rest walk. took (passes-on program (disjunction_tokens whole ++ semicolon ∷ [])
      (expression within) last 0
      (closing program (semicolon ∷ []) whole within last
      (disjunction-leads program whole within tt)
      (λ before rest walk. took walk) 0) rest walk))
      (λ rest walk. took walk)

  -- the operators that a block is given are those that were counted
  test-count : (test : Disjunction) →
      operators (disjunction_tokens test) ≡ counted 0 (disjunction_tokens test)
  test-count test =
      sym (counted-is (disjunction_tokens test) 0 ∙ zero-add (operators (disjunction_tokens test)))

  two-count : (first second : Disjunction) →
      operators (disjunction_tokens first) + operators (disjunction_tokens second)
      ≡ counted 0 (open_ ∷ (disjunction_tokens first
      ++ comma ∷ (disjunction_tokens second ++ close ∷ [])))
  two-count first second =
      let one : List Token = disjunction_tokens first in
      let two : List Token = disjunction_tokens second in
      sym (counted-append one (comma ∷ (two ++ close ∷ [])) 0
      ∙ counted-append two (close ∷ []) (counted 0 one)
      ∙ counted-is two (counted 0 one)
      ∙ ap (λ it. it + operators two) (sym (test-count first)))

  three-count : (first second third : Disjunction) →
      operators (disjunction_tokens first)
      + (operators (disjunction_tokens second) + operators (disjunction_tokens third))
      ≡ counted 0 (open_ ∷ (disjunction_tokens first ++ comma ∷ (disjunction_tokens second
      ++ comma ∷ (disjunction_tokens third ++ close ∷ []))))
  three-count first second third =
      let one : List Token = disjunction_tokens first in
      let two : List Token = disjunction_tokens second in
      let three : List Token = disjunction_tokens third in
      sym (counted-append one (comma ∷ (two ++ comma ∷ (three ++ close ∷ []))) 0
      ∙ counted-append two (comma ∷ (three ++ close ∷ [])) (counted 0 one)
      ∙ counted-append three (close ∷ []) (counted (counted 0 one) two)
      ∙ counted-is three (counted (counted 0 one) two)
      ∙ ap (λ it. it + operators three) (counted-is two (counted 0 one))
      ∙ ap (λ it. it + operators two + operators three) (sym (test-count first))
      ∙ add_assoc (operators one) (operators two) (operators three))

  -- slots that are given the operators that were counted
  recounted : (slots : ℕ → List Slot) (from to : Coming) (count before after : ℕ) → count ≡ before →
      Passes program (slots before) from before to after →
      Passes program (slots count) from before to after
  recounted slots from to count before after same passes =
      let P : ℕ → Type 0 = λ it. Passes program (slots it) from before to after in
      subst P (sym same) passes

  -- a test, and its block
  test-passes : (test : Disjunction) (within : AroundExpr) →
      Leads program (disjunction_tokens test) (expression within)
      (behind (disjunction_tree test) within) →
      Passes program (going_on 0 (disjunction_tokens test)) (expression within) 0
      (behind (disjunction_tree test) within) (counted 0 (disjunction_tokens test))
  test-passes test within leads =
      passes-on program (disjunction_tokens test) (expression within)
      (behind (disjunction_tree test) within) (counted 0 (disjunction_tokens test)) (leads 0)

  block-passes : (test : Disjunction) (block : Braces) (around : AroundBlock) (to : Coming) →
      Passes program (braces_slots block (counted 0 (disjunction_tokens test))) (braces around)
      (counted 0 (disjunction_tokens test)) to 0 →
      Passes program (braces_slots block (operators (disjunction_tokens test))) (braces around)
      (counted 0 (disjunction_tokens test)) to 0
  block-passes test block around to passes =
      recounted (braces_slots block) (braces around) to (operators (disjunction_tokens test))
      (counted 0 (disjunction_tokens test)) 0 (test-count test) passes

  -- the operands of a read, and its arms
  looking-passes : (tokens : List Token) (from : Coming) (looking : Looking)
      (around : AroundStatement) (both : Arms) (count : ℕ) (to : Coming) → count
      ≡ counted 0 tokens →
      Leads program tokens from (fixed mark.OpenBlock (some_word looking around)) →
      Passes program (arms_slots both (counted 0 tokens))
      (fixed mark.OpenBlock (some_word looking around)) (counted 0 tokens) to 0 →
      Passes program (going_on 0 tokens ++ arms_slots both count) from 0 to 0
  looking-passes tokens from looking around both count to same leads passes =
      let middle : Coming = fixed mark.OpenBlock (some_word looking around) in
      passes-both program (going_on 0 tokens) (arms_slots both count) from middle to 0
      (counted 0 tokens) 0
      (passes-on program tokens from middle (counted 0 tokens) (leads 0))
      (recounted (arms_slots both) middle to count (counted 0 tokens) 0 same passes)

  get-leads : (table key : Disjunction) (around : AroundStatement) →
      Leads program
      (open_ ∷ (disjunction_tokens table ++ comma ∷ (disjunction_tokens key ++ close ∷ [])))
      (fixed mark.Open (expression (get_table around)))
      (fixed mark.OpenBlock
      (some_word (coming.get (disjunction_tree table) (disjunction_tree key)) around))
  get-leads table key around before rest walk =
      let two : AroundExpr = get_key (disjunction_tree table) around in
      took (followed-by program (comma ∷ (disjunction_tokens key ++ close ∷ [])) table
      (get_table around) _ (disjunction-leads program table (get_table around) tt)
      (λ before rest walk. took (followed-by program (close ∷ []) key two _
      (disjunction-leads program key two tt)
      (λ before rest walk. took walk) before rest walk)) before rest walk)

  multiget-leads : (table keys width : Disjunction) (around : AroundStatement) →
      Leads program
      (open_ ∷ (disjunction_tokens table ++ comma ∷ (disjunction_tokens keys
      ++ comma ∷ (disjunction_tokens width ++ close ∷ []))))
      (fixed mark.Open (expression (multiget_table around)))
      (fixed mark.OpenBlock (some_word
      (coming.multiget (disjunction_tree table) (disjunction_tree keys) (disjunction_tree width))
      around))
  multiget-leads table keys width around before rest walk =
      let two : AroundExpr = multiget_keys (disjunction_tree table) around in
      let three : AroundExpr = multiget_width (disjunction_tree table) (disjunction_tree keys)
      around in
      took (followed-by program
      (comma ∷ (disjunction_tokens keys ++ comma ∷ (disjunction_tokens width ++ close ∷ []))) table
      (multiget_table around) _ (disjunction-leads program table (multiget_table around) tt)
      (λ before rest walk. took (followed-by program
      (comma ∷ (disjunction_tokens width ++ close ∷ [])) keys two _
      (disjunction-leads program keys two tt)
      (λ before rest walk. took (followed-by program (close ∷ []) width three _
      (disjunction-leads program width three tt)
      (λ before rest walk. took walk) before rest walk)) before rest walk)) before rest walk)

  mutual
    pub braces-pass : (block : Braces) (around : AroundBlock) (before : ℕ) →
        Passes program (braces_slots block before) (braces around) before
        (closed (braces_tree block) around) 0
    braces-pass (open_end all) around before = λ rest walk.
        took (passes-both program (statements_slots all) (slot close_block outside ∷ [])
        (statements [] around) (statements (statements_tree all) around)
        (closed (block_of (statements_tree all)) around) 0 0 0 (statements-pass all [] around)
        (λ rest walk. took walk) rest walk)
    braces-pass (returning all whole) around before = λ rest walk.
        took (passes-both program (statements_slots all)
        (return_slots whole ++ slot close_block outside ∷ []) (statements [] around)
        (statements (statements_tree all) around)
        (closed (braces_tree (returning all whole)) around) 0 0 0 (statements-pass all [] around)
        (return-passes whole (statements_tree all) around) rest walk)

    pub statements-pass : (all : MoreStatements) (known : List Statement) (around : AroundBlock) →
        Passes program (statements_slots all) (statements known around) 0
        (statements (known ++ statements_tree all) around) 0
    statements-pass end_statements known around = λ rest walk. rw (append-nil known) at walk
    statements-pass (statement first more) known around = λ rest walk.
        let then : List Statement = known ++ sentence_tree first ∷ [] in
        passes-both program (sentence_slots first) (statements_slots more) (statements known around)
        (statements then around) (statements (then ++ statements_tree more) around) 0 0 0
        (sentence-passes first known around) (statements-pass more then around) rest
        (rw (append_assoc known (sentence_tree first ∷ []) (statements_tree more)) walk)

    pub sentence-passes : (first : Sentence) (known : List Statement) (around : AroundBlock) →
        Passes program (sentence_slots first) (statements known around) 0
        (statements (known ++ sentence_tree first ∷ []) around) 0
    sentence-passes (grammar.let_value name of whole) known around =
        let_value-passes program name of whole known around
    sentence-passes (grammar.let_call name of called values) known around =
        let_call-passes program name of called values known around
    sentence-passes (grammar.assign name whole) known around =
        assign-passes program name whole known around
    sentence-passes (grammar.write writing name place whole) known around =
        write-passes program writing name place whole known around
    sentence-passes (grammar.put name) known around = put-passes program name known around
    sentence-passes (grammar.del table key) known around = del-passes program table key known around
    sentence-passes (grammar.resp whole) known around = resp-passes program whole known around
    sentence-passes (grammar.if test block) known around = λ rest walk.
        let within : AroundExpr = if_test (in_block known around) in
        let count : ℕ = counted 0 (disjunction_tokens test) in
        let first : AroundBlock = if_block (disjunction_tree test) count (in_block known around) in
        let maybe : Coming =
        maybe_else (disjunction_tree test) (braces_tree block) count (in_block known around) in
        let to : Coming = statements (known ++ sentence_tree (grammar.if test block) ∷ []) around in
        let slots : List Slot = braces_slots block (operators (disjunction_tokens test)) in
        took (passes-both program (going_on 0 (disjunction_tokens test)) slots (expression within)
        (behind (disjunction_tree test) within) to 0 count 0
        (test-passes test within (disjunction-leads program test within tt))
        (λ rest walk. if-goes (disjunction_tree test) (in_block known around) count (slots ++ rest)
        (block-passes test block first maybe (braces-pass block first count) rest
        (no-else (disjunction_tree test) (braces_tree block) count around known rest walk)))
        rest walk)
    sentence-passes (grammar.if_else test block other) known around = λ rest walk.
        let within : AroundExpr = if_test (in_block known around) in
        let count : ℕ = counted 0 (disjunction_tokens test) in
        let first : AroundBlock = if_block (disjunction_tree test) count (in_block known around) in
        let second : AroundBlock =
        else_block (disjunction_tree test) (braces_tree block) (in_block known around) in
        let maybe : Coming =
        maybe_else (disjunction_tree test) (braces_tree block) count (in_block known around) in
        let to : Coming =
        statements (known ++ sentence_tree (grammar.if_else test block other) ∷ []) around in
        let one : List Slot = braces_slots block (operators (disjunction_tokens test)) in
        let two : List Slot = slot (token.Word word.Else) outside
        ∷ braces_slots other (operators (disjunction_tokens test)) in
        took (passes-both program (going_on 0 (disjunction_tokens test)) (one ++ two)
        (expression within) (behind (disjunction_tree test) within) to 0 count 0
        (test-passes test within (disjunction-leads program test within tt))
        (λ rest walk. if-goes (disjunction_tree test) (in_block known around) count
        ((one ++ two) ++ rest)
        (passes-both program one two (braces first) maybe to count 0 0
        (block-passes test block first maybe (braces-pass block first count))
        (λ rest walk. took (block-passes test other second to (braces-pass other second count)
        rest walk)) rest walk))
        rest walk)
    sentence-passes (grammar.while test block) known around = λ rest walk.
        let within : AroundExpr = while_test (in_block known around) in
        let count : ℕ = counted 0 (disjunction_tokens test) in
        let body : AroundBlock = while_block (disjunction_tree test) (in_block known around) in
        let to : Coming = statements (known ++ sentence_tree (grammar.while test block) ∷ [])
        around in
        let slots : List Slot = braces_slots block (operators (disjunction_tokens test)) in
        took (passes-both program (going_on 0 (disjunction_tokens test)) slots (expression within)
        (behind (disjunction_tree test) within) to 0 count 0
        (test-passes test within (disjunction-leads program test within tt))
        (λ rest walk. while-goes (disjunction_tree test) (in_block known around) count
        (slots ++ rest)
        (block-passes test block body to (braces-pass block body count) rest walk))
        rest walk)
    sentence-passes (grammar.get table key both) known around = λ rest walk.
        let within : AroundStatement = in_block known around in
        let looking : Looking = coming.get (disjunction_tree table) (disjunction_tree key) in
        let tokens : List Token =
        open_ ∷ (disjunction_tokens table ++ comma ∷ (disjunction_tokens key ++ close ∷ [])) in
        took (looking-passes tokens (fixed mark.Open (expression (get_table within))) looking within
        both (operators (disjunction_tokens table) + operators (disjunction_tokens key))
        (done (arms_tree both (looking_statement looking)) within)
        (two-count table key) (get-leads table key within)
        (arms-pass both looking within (counted 0 tokens)) rest walk)
    sentence-passes (grammar.multiget table keys width both) known around = λ rest walk.
        let within : AroundStatement = in_block known around in
        let looking : Looking = coming.multiget (disjunction_tree table) (disjunction_tree keys)
        (disjunction_tree width) in
        let tokens : List Token = open_
        ∷ (disjunction_tokens table ++ comma ∷ (disjunction_tokens keys
        ++ comma ∷ (disjunction_tokens width ++ close ∷ []))) in
        took (looking-passes tokens (fixed mark.Open (expression (multiget_table within))) looking
        within both (operators (disjunction_tokens table)
        + (operators (disjunction_tokens keys) + operators (disjunction_tokens width)))
        (done (arms_tree both (looking_statement looking)) within)
        (three-count table keys width) (multiget-leads table keys width within)
        (arms-pass both looking within (counted 0 tokens)) rest walk)

    pub arms-pass : (both : Arms) (looking : Looking) (around : AroundStatement) (before : ℕ) →
        Passes program (arms_slots both before) (fixed mark.OpenBlock (some_word looking around))
        before (done (arms_tree both (looking_statement looking)) around) 0
    arms-pass (arms name block other) looking around before = λ rest walk.
        let first : AroundBlock = some_block looking name before around in
        let second : AroundBlock = none_block looking name (braces_tree block) before around in
        let statement : Statement =
        looking_statement looking name (braces_tree block) (braces_tree other) in
        let last : List Slot = braces_slots other before ++ slot close_block (inside before) ∷ [] in
        took (took (took (took (passes-both program (braces_slots block before)
        (slot (token.Word word.None) (inside before) ∷ slot (token.Mark mark.Arm) (inside before)
        ∷ last)
        (braces first) (closed (braces_tree block) first) (done statement around) before 0 0
        (braces-pass block first before)
        (λ rest walk. took (took (passes-both program (braces_slots other before)
        (slot close_block (inside before) ∷ []) (braces second) (closed (braces_tree other) second)
        (done statement around) before 0 0 (braces-pass other second before)
        (λ rest walk. took walk) rest walk))) rest walk))))
