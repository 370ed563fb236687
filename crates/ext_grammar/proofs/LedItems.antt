-- The tokens of an item lead to the place behind it, where no operator is counted.
use Rattle.std.proofs.Common.{◌≡◌, ℕ, List, [], ◌∷◌, ◌++◌, Option, append_assoc}
use Rattle.ext_mean.specs.declared.expr.Expr.{Expr}
use Rattle.ext_mean.specs.declared.expr.Expr.TheVariants as expr
use Rattle.ext_mean.specs.declared.statement.Kind.{Kind}
use Rattle.ext_mean.specs.declared.statement.Kind.TheVariants as kind
use Rattle.ext_mean.specs.declared.statement.Statement.{Statement}
use Rattle.ext_mean.specs.declared.statement.Statement.TheVariants as does
use Rattle.ext_mean.specs.declared.token.Mark.TheVariants as mark
use Rattle.ext_mean.specs.declared.token.Token.{Token}
use Rattle.ext_mean.specs.declared.token.Token.TheVariants as token
use Rattle.ext_mean.specs.declared.token.Word.TheVariants as word
use Rattle.ext_mean.specs.declared.tree.Program.{Program}
use Rattle.ext_mean.specs.Derived.{disjunction_tree, more_arguments_tree, arguments_tree, write_tree}
use Rattle.ext_mean.specs.Grammar.{Disjunction, MoreArguments, end_arguments, argument, Arguments, no_arguments, arguments, Writing, set, set8, copy}
use Rattle.ext_mean.specs.Wording.{Standing, begins, Slot, slot, open_, close, comma, semicolon, colon, assigns, kind_token, disjunction_tokens, more_arguments_tokens, arguments_tokens, let_slots, item, going_on, writing_word}
use Rattle.ext_grammar.specs.Coming.{AroundExpr, AroundStatement, AroundBlock, in_block, call_argument, let_value, assigned, write_place, write_value, del_table, del_key, answered, Coming, fixed, behind, value, behind_name, first_argument, written_name, statements, expression, level_operand, Move, on_some, kind_of, on_unary, on_behind, on_value, on_behind_name, on_first_argument, on_token, done}
use Rattle.ext_grammar.specs.Coming as coming
use Rattle.ext_grammar.proofs.Walks.{took, Takes, Walk, counted, goes, goes-append}
use Rattle.ext_grammar.proofs.Leading.{Leads}
use Rattle.ext_grammar.proofs.LedExpressions.{disjunction-leads, followed-by}
use Rattle.ext_grammar.proofs.Passing.{Passes, passes-on}

-- these tokens lead from inside an item to its end
abbrev pub Closes : Program → List Token → Coming → Coming → Type 0
Closes program tokens from to =
    (before : ℕ) (rest : List Slot) → Walk rest to 0 program → Walk (goes before tokens rest) from
    before program

pub kind-step : (of : Kind) (move : Kind → Option Move) (standing : Standing)
    (more : Coming → ℕ → Type 0) → Takes (move of) standing more →
    Takes (on_some (kind_of (kind_token of)) move) standing more
kind-step kind.Int move standing more takes = takes
kind-step kind.Bool move standing more takes = takes
kind-step kind.Slice move standing more takes = takes
kind-step kind.Buf move standing more takes = takes
kind-step kind.Temp move standing more takes = takes

module _ (program : Program) where
  pub join-closing : (first second : List Token) (from middle to : Coming) →
      Leads program first from middle → Closes program second middle to →
      Closes program (first ++ second) from to
  join-closing first second from middle to one two before rest walk =
      rw (goes-append first second before rest)
      (one before (goes (counted before first) second rest)
      (two (counted before first) rest walk))

  -- an expression and the end of its item
  pub closing : (tokens : List Token) (inner : Disjunction) (within : AroundExpr) (to : Coming) →
      Leads program (disjunction_tokens inner) (expression within)
      (behind (disjunction_tree inner) within) →
      Closes program tokens (behind (disjunction_tree inner) within) to →
      Closes program (disjunction_tokens inner ++ tokens) (expression within) to
  closing tokens inner within to one two =
      join-closing (disjunction_tokens inner) tokens (expression within)
      (behind (disjunction_tree inner) within) to one two

  -- a name alone may become a call
  called-token : (name : List ℕ) (of : Kind) (called : List ℕ) (around : AroundStatement)
      (before : ℕ) (next : Token) (standing : Standing) (more : Coming → ℕ → Type 0) →
      Takes (on_behind (expr.Var called) (level_operand (let_value name of around)) before next)
      standing more → Takes (on_behind_name name of called around before next) standing more
  called-token name of called around before (token.Mark mark.Open) standing more takes =
      absurd takes
  called-token name of called around before _ standing more takes = takes

  called-goes : (name : List ℕ) (of : Kind) (called : List ℕ) (around : AroundStatement)
      (before : ℕ) (slots : List Slot) →
      Walk slots (behind (expr.Var called) (level_operand (let_value name of around))) before
      program → Walk slots (behind_name name of called around) before program
  called-goes name of called around before [] walk = walk
  called-goes name of called around before (next ∷ rest) walk =
      called-token name of called around before next.token next.standing _ walk

  value-token : (name : List ℕ) (of : Kind) (around : AroundStatement) (before : ℕ) (next : Token)
      (standing : Standing) (rest : List Slot) →
      Takes (on_unary (level_operand (let_value name of around)) before next) standing
      (λ then_coming then_before. Walk rest then_coming then_before program) →
      Takes (on_value name of around before next) standing
      (λ then_coming then_before. Walk rest then_coming then_before program)
  value-token name of around before (token.Name called) standing rest (same, walk) =
      (same, called-goes name of called around before rest walk)
  value-token name of around before _ standing rest takes = takes

  value-goes : (name : List ℕ) (of : Kind) (around : AroundStatement) (before : ℕ)
      (slots : List Slot) → Walk slots (expression (let_value name of around)) before program →
      Walk slots (value name of around) before program
  value-goes name of around before [] walk = walk
  value-goes name of around before (next ∷ rest) walk =
      value-token name of around before next.token next.standing rest walk

  -- the arguments of a call
  argument-token : (name : List ℕ) (of : Kind) (called : List ℕ) (around : AroundStatement)
      (before : ℕ) (next : Token) (standing : Standing) (more : Coming → ℕ → Type 0) →
      Takes (on_unary (level_operand (call_argument name of called [] around)) before next) standing
      more → Takes (on_first_argument name of called around before next) standing more
  argument-token name of called around before (token.Mark mark.Close) standing more takes =
      absurd takes
  argument-token name of called around before _ standing more takes = takes

  argument-goes : (name : List ℕ) (of : Kind) (called : List ℕ) (around : AroundStatement)
      (before : ℕ) (slots : List Slot) →
      Walk slots (expression (call_argument name of called [] around)) before program →
      Walk slots (first_argument name of called around) before program
  argument-goes name of called around before [] walk = walk
  argument-goes name of called around before (next ∷ rest) walk =
      argument-token name of called around before next.token next.standing _ walk

  abbrev call : List ℕ → Kind → List ℕ → List Expr → AroundStatement → Coming
  call name of called values around = coming.semicolon (does.LetCall name of called values) around

  more-arguments-lead : (more : MoreArguments) (name : List ℕ) (of : Kind) (called : List ℕ)
      (values : List Expr) (found : Expr) (around : AroundStatement) →
      Leads program (more_arguments_tokens more ++ close ∷ [])
      (behind found (call_argument name of called values around))
      (call name of called (values ++ found ∷ more_arguments_tree more) around)
  more-arguments-lead end_arguments name of called values found around =
      λ before rest walk. took walk
  more-arguments-lead (argument next more) name of called values found around = λ before rest walk.
      let known : List Expr = values ++ found ∷ [] in
      let next-tokens : List Token = disjunction_tokens next in
      let regrouped : (next-tokens ++ more_arguments_tokens more) ++ close ∷ []
      ≡ next-tokens ++ (more_arguments_tokens more ++ close ∷ []) =
      append_assoc next-tokens (more_arguments_tokens more) (close ∷ []) in
      took (rw regrouped
      (followed-by program (more_arguments_tokens more ++ close ∷ []) next
      (call_argument name of called known around)
      (call name of called (known ++ disjunction_tree next ∷ more_arguments_tree more) around)
      (disjunction-leads program next (call_argument name of called known around) tt)
      (more-arguments-lead more name of called known (disjunction_tree next) around)
      before rest
      (rw (append_assoc values (found ∷ []) (disjunction_tree next ∷ more_arguments_tree more))
      (rw regrouped at walk))))

  arguments-lead : (all : Arguments) (name : List ℕ) (of : Kind) (called : List ℕ)
      (around : AroundStatement) →
      Leads program (arguments_tokens all ++ close ∷ []) (first_argument name of called around)
      (call name of called (arguments_tree all) around)
  arguments-lead no_arguments name of called around = λ before rest walk. took walk
  arguments-lead (arguments first more) name of called around = λ before rest walk.
      let within : AroundExpr = call_argument name of called [] around in
      let first-tokens : List Token = disjunction_tokens first in
      let regrouped : (first-tokens ++ more_arguments_tokens more) ++ close ∷ []
      ≡ first-tokens ++ (more_arguments_tokens more ++ close ∷ []) =
      append_assoc first-tokens (more_arguments_tokens more) (close ∷ []) in
      argument-goes name of called around before
      (goes before ((first-tokens ++ more_arguments_tokens more) ++ close ∷ []) rest)
      (rw regrouped
      (followed-by program (more_arguments_tokens more ++ close ∷ []) first within
      (call name of called (disjunction_tree first ∷ more_arguments_tree more) around)
      (disjunction-leads program first within tt)
      (more-arguments-lead more name of called [] (disjunction_tree first) around)
      before rest (rw regrouped at walk)))

  -- a sentence without blocks, behind its first token
  item-passes : (tokens : List Token) (from to : Coming) → Closes program tokens from to →
      Passes program (going_on 0 tokens) from 0 to 0
  item-passes tokens from to closes = passes-on program tokens from to 0 (closes 0)

  let-passes : (name : List ℕ) (of : Kind) (tokens : List Token) (to : Coming)
      (known : List Statement) (block : AroundBlock) →
      Closes program (tokens ++ semicolon ∷ []) (value name of (in_block known block)) to →
      Passes program (let_slots name of tokens) (statements known block) 0 to 0
  let-passes name of tokens to known block closes rest walk =
      took (took (item-passes (colon ∷ kind_token of ∷ assigns ∷ (tokens ++ semicolon ∷ []))
      (fixed mark.Colon (coming.let_kind name (in_block known block))) to
      (λ before rest walk. took (kind-step of _ _ _ (took (took (closes before rest walk)))))
      rest walk))

  pub let_value-passes : (name : List ℕ) (of : Kind) (whole : Disjunction)
      (known : List Statement) (block : AroundBlock) →
      Passes program (let_slots name of (disjunction_tokens whole)) (statements known block) 0
      (done (does.Let name of (disjunction_tree whole)) (in_block known block)) 0
  let_value-passes name of whole known block =
      let within : AroundExpr = let_value name of (in_block known block) in
      let to : Coming = done (does.Let name of (disjunction_tree whole)) (in_block known block) in
      let-passes name of (disjunction_tokens whole) to known block
      (λ before rest walk. value-goes name of (in_block known block) before
      (goes before (disjunction_tokens whole ++ semicolon ∷ []) rest)
      (closing (semicolon ∷ []) whole within to (disjunction-leads program whole within tt)
      (λ before rest walk. took walk) before rest walk))

  pub let_call-passes : (name : List ℕ) (of : Kind) (called : List ℕ) (values : Arguments)
      (known : List Statement) (block : AroundBlock) →
      Passes program
      (let_slots name of (token.Name called ∷ open_ ∷ (arguments_tokens values ++ close ∷ [])))
      (statements known block) 0
      (done (does.LetCall name of called (arguments_tree values)) (in_block known block)) 0
  let_call-passes name of called values known block =
      let around : AroundStatement = in_block known block in
      let to : Coming = done (does.LetCall name of called (arguments_tree values)) around in
      let-passes name of (token.Name called ∷ open_ ∷ (arguments_tokens values ++ close ∷ [])) to
      known block
      (λ before rest walk. took (took (join-closing (arguments_tokens values ++ close ∷ [])
      (semicolon ∷ []) (first_argument name of called around)
      (call name of called (arguments_tree values) around) to
      (arguments-lead values name of called around)
      (λ before rest walk. took walk) before rest walk)))

  pub assign-passes : (name : List ℕ) (whole : Disjunction) (known : List Statement)
      (block : AroundBlock) →
      Passes program (item (token.Name name)
      (assigns ∷ (disjunction_tokens whole ++ semicolon ∷ [])))
      (statements known block) 0
      (done (does.Assign name (disjunction_tree whole)) (in_block known block)) 0
  assign-passes name whole known block rest walk =
      let within : AroundExpr = assigned name (in_block known block) in
      let to : Coming = done (does.Assign name (disjunction_tree whole)) (in_block known block) in
      took (item-passes (assigns ∷ (disjunction_tokens whole ++ semicolon ∷ []))
      (fixed mark.Assign (expression within)) to
      (λ before rest walk. took (closing (semicolon ∷ []) whole within to
      (disjunction-leads program whole within tt)
      (λ before rest walk. took walk) before rest walk)) rest walk)

  pub resp-passes : (whole : Disjunction) (known : List Statement) (block : AroundBlock) →
      Passes program
      (item (token.Word word.Resp) (open_ ∷ (disjunction_tokens whole ++ close ∷ semicolon ∷ [])))
      (statements known block) 0 (done (does.Resp (disjunction_tree whole)) (in_block known block))
      0
  resp-passes whole known block rest walk =
      let within : AroundExpr = answered (in_block known block) in
      let to : Coming = done (does.Resp (disjunction_tree whole)) (in_block known block) in
      took (item-passes (open_ ∷ (disjunction_tokens whole ++ close ∷ semicolon ∷ []))
      (fixed mark.Open (expression within)) to
      (λ before rest walk. took (closing (close ∷ semicolon ∷ []) whole within to
      (disjunction-leads program whole within tt)
      (λ before rest walk. took (took walk)) before rest walk)) rest walk)

  pub put-passes : (name : List ℕ) (known : List Statement) (block : AroundBlock) →
      Passes program
      (item (token.Word word.Put) (open_ ∷ token.Name name ∷ close ∷ semicolon ∷ []))
      (statements known block) 0 (done (does.Put name) (in_block known block)) 0
  put-passes name known block rest walk =
      took (item-passes (open_ ∷ token.Name name ∷ close ∷ semicolon ∷ [])
      (fixed mark.Open (coming.put_name (in_block known block)))
      (done (does.Put name) (in_block known block))
      (λ before rest walk. took (took (took (took walk)))) rest walk)

  -- two expressions with a comma between them, and the end of the item
  two-closing : (tokens : List Token) (first second : Disjunction) (one two : AroundExpr)
      (to : Coming) →
      Leads program (comma ∷ []) (behind (disjunction_tree first) one) (expression two) →
      Leads program (disjunction_tokens first) (expression one)
      (behind (disjunction_tree first) one) →
      Leads program (disjunction_tokens second) (expression two)
      (behind (disjunction_tree second) two) →
      Closes program tokens (behind (disjunction_tree second) two) to →
      Closes program (disjunction_tokens first ++ comma ∷ (disjunction_tokens second ++ tokens))
      (expression one) to
  two-closing tokens first second one two to comma-leads first-leads second-leads closes =
      closing (comma ∷ (disjunction_tokens second ++ tokens)) first one to first-leads
      (join-closing (comma ∷ []) (disjunction_tokens second ++ tokens)
      (behind (disjunction_tree first) one) (expression two) to comma-leads
      (closing tokens second two to second-leads closes))

  pub del-passes : (table key : Disjunction) (known : List Statement) (block : AroundBlock) →
      Passes program
      (item (token.Word word.Del) (open_ ∷ (disjunction_tokens table
      ++ comma ∷ (disjunction_tokens key ++ close ∷ semicolon ∷ []))))
      (statements known block) 0
      (done (does.Del (disjunction_tree table) (disjunction_tree key)) (in_block known block)) 0
  del-passes table key known block rest walk =
      let around : AroundStatement = in_block known block in
      let to : Coming = done (does.Del (disjunction_tree table) (disjunction_tree key)) around in
      took (item-passes
      (open_ ∷ (disjunction_tokens table
      ++ comma ∷ (disjunction_tokens key ++ close ∷ semicolon ∷ [])))
      (fixed mark.Open (expression (del_table around))) to
      (λ before rest walk. took (two-closing (close ∷ semicolon ∷ []) table key (del_table around)
      (del_key (disjunction_tree table) around) to (λ before rest walk. took walk)
      (disjunction-leads program table (del_table around) tt)
      (disjunction-leads program key (del_key (disjunction_tree table) around) tt)
      (λ before rest walk. took (took walk)) before rest walk)) rest walk)

  written : (writing : Writing) (name : List ℕ) (place whole : Disjunction)
      (around : AroundStatement) →
      Closes program (open_ ∷ token.Name name ∷ comma ∷ (disjunction_tokens place
      ++ comma ∷ (disjunction_tokens whole ++ close ∷ semicolon ∷ [])))
      (fixed mark.Open (written_name writing around))
      (done (write_tree writing name (disjunction_tree place) (disjunction_tree whole)) around)
  written writing name place whole around before rest walk =
      let one : AroundExpr = write_place writing name around in
      let two : AroundExpr = write_value writing name (disjunction_tree place) around in
      took (took (took (two-closing (close ∷ semicolon ∷ []) place whole one two
      (done (write_tree writing name (disjunction_tree place) (disjunction_tree whole)) around)
      (λ before rest walk. took walk)
      (disjunction-leads program place one tt) (disjunction-leads program whole two tt)
      (λ before rest walk. took (took walk)) before rest walk)))

  writing-starts : (writing : Writing) (known : List Statement) (block : AroundBlock)
      (slots : List Slot) →
      Walk slots (fixed mark.Open (written_name writing (in_block known block))) 0 program →
      Walk (slot (token.Word (writing_word writing)) begins ∷ slots) (statements known block) 0
      program
  writing-starts set known block slots walk = took walk
  writing-starts set8 known block slots walk = took walk
  writing-starts copy known block slots walk = took walk

  pub write-passes : (writing : Writing) (name : List ℕ) (place whole : Disjunction)
      (known : List Statement) (block : AroundBlock) →
      Passes program
      (item (token.Word (writing_word writing)) (open_ ∷ token.Name name ∷ comma
      ∷ (disjunction_tokens place ++ comma ∷ (disjunction_tokens whole ++ close ∷ semicolon ∷ []))))
      (statements known block) 0
      (done (write_tree writing name (disjunction_tree place) (disjunction_tree whole))
      (in_block known block)) 0
  write-passes writing name place whole known block rest walk =
      let around : AroundStatement = in_block known block in
      let tokens : List Token = open_ ∷ token.Name name ∷ comma ∷ (disjunction_tokens place
      ++ comma ∷ (disjunction_tokens whole ++ close ∷ semicolon ∷ [])) in
      writing-starts writing known block (going_on 0 tokens ++ rest)
      (item-passes tokens (fixed mark.Open (written_name writing around))
      (done (write_tree writing name (disjunction_tree place) (disjunction_tree whole)) around)
      (written writing name place whole around) rest walk)
