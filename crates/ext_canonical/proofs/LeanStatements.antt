-- The tokens of a program, of which those are left that are shown.
use Rattle.std.specs.List.{flat_map}
use Rattle.std.proofs.Common.{◌≡◌, ℕ, ◌+◌, List, [], ◌∷◌, ◌++◌, map, refl, sym, ap, ◌∙◌, subst, append_assoc, append-nil}
use Rattle.ext_mean.specs.declared.expr.Expr.{Expr}
use Rattle.ext_mean.specs.declared.statement.Block.{Block}
use Rattle.ext_mean.specs.declared.statement.Kind.{Kind}
use Rattle.ext_mean.specs.declared.statement.Statement.{Statement}
use Rattle.ext_mean.specs.declared.statement.Statement.TheVariants as does
use Rattle.ext_mean.specs.declared.token.Mark.TheVariants as mark
use Rattle.ext_mean.specs.declared.token.Token.{Token}
use Rattle.ext_mean.specs.declared.token.Token.TheVariants as token
use Rattle.ext_mean.specs.declared.token.Word.{Word}
use Rattle.ext_mean.specs.declared.token.Word.TheVariants as word
use Rattle.ext_mean.specs.Bounds.{open_with}
use Rattle.ext_mean.specs.Canonical.{expression_tokens, listed, listed_behind, braced, else_shown, arms_shown, let_shown, with_three, sentence_shown, block_shown, parameters_shown, parameters_behind, function_shown, program_shown}
use Rattle.ext_mean.specs.Derived.{disjunction_tree, arguments_tree, more_arguments_tree, block_of, write_tree, braces_tree, statements_tree, sentence_tree, parameters_tree, more_parameters_tree, definition_tree, more_functions_tree, program_tree}
use Rattle.ext_mean.specs.Grammar.{Disjunction, MoreArguments, end_arguments, argument, Arguments, no_arguments, arguments, Writing, set, set8, copy, Braces, open_end, returning, MoreStatements, end_statements, statement, Sentence, Arms, arms, MoreParameters, end_parameters, parameter, Parameters, no_parameters, parameters, Definition, function, MoreFunctions, end_functions, define, Whole, program}
use Rattle.ext_mean.specs.Grammar as grammar
use Rattle.ext_mean.specs.Wording.{Slot, slot, begins, inside, naming, outside, open_, close, open_block, close_block, comma, semicolon, colon, assigns, kind_token, operators, going_on, item, disjunction_tokens, arguments_tokens, more_arguments_tokens, return_slots, writing_word, braces_slots, statements_slots, sentence_slots, arms_slots, parameter_slots, parameters_slots, more_parameters_slots, definition_slots, more_functions_slots, program_slots}
use Rattle.ext_mean.proofs.CanonicalForms.{sentence-Let, sentence-LetCall, sentence-Assign, sentence-If, sentence-While, sentence-Get, sentence-Multi, sentence-Set, sentence-Set8, sentence-Copy, sentence-Put, sentence-Del, sentence-Resp, sentence-Return, block-items}
use Rattle.ext_grammar.proofs.BareTokens.{braces_tokens, statements_tokens, sentence_tokens, arms_tokens, parameters_tokens, more_parameters_tokens, definition_tokens, more_functions_tokens, whole_tokens}
use Rattle.ext_canonical.proofs.Pruned.{Leaner, nothing-leaner, both-leaner, leaner-as, kept-leaner, bracketed, unbracketed, dropped, IsDropped, Lean, lean-as, lean-nothing, lean-both, lean-kept, lean-within, lean-two, lean-three}
use Rattle.ext_canonical.proofs.LeanExpressions.{disjunction-shows, inner-lean, inner-derives}

-- a derivation of the same expression with the tokens that are shown
pub record LeanExpression (whole : Disjunction) : Type 0 where
  pub new : Disjunction
  pub tree : disjunction_tree new ≡ disjunction_tree whole
  pub tokens : disjunction_tokens new ≡ expression_tokens (disjunction_tree whole)
  pub lean : Lean (disjunction_tokens new) (disjunction_tokens whole)

pub expression-lean : (whole : Disjunction) → LeanExpression whole
expression-lean whole =
    let shows = disjunction-shows whole in
    let (new, tree, tokens) = inner-derives (disjunction_tree whole) shows.derives in
    record {
      new = new;
      tree = tree;
      tokens = tokens;
      lean = lean-as (expression_tokens (disjunction_tree whole)) (disjunction_tokens new) (disjunction_tokens whole) (disjunction_tokens whole)
          (sym tokens) refl (inner-lean (disjunction_tree whole) (disjunction_tokens whole) shows);
    }

-- arguments
record LeanMore (whole : MoreArguments) : Type 0 where
  pub new : MoreArguments
  pub tree : more_arguments_tree new ≡ more_arguments_tree whole
  pub tokens : more_arguments_tokens new ≡ listed_behind (more_arguments_tree whole)
  pub lean : Lean (more_arguments_tokens new) (more_arguments_tokens whole)

more-lean : (whole : MoreArguments) → LeanMore whole
more-lean end_arguments = record { new = end_arguments; tree = refl; tokens = refl; lean = lean-nothing }
more-lean (argument next more) =
    let one = expression-lean next in
    let others = more-lean more in
    record {
      new = argument one.new others.new;
      tree = ap (λ it. it ∷ more_arguments_tree others.new) one.tree ∙ ap (λ it. disjunction_tree next ∷ it) others.tree;
      tokens = ap (λ it. comma ∷ (it ++ more_arguments_tokens others.new)) one.tokens
          ∙ ap (λ it. comma ∷ (expression_tokens (disjunction_tree next) ++ it)) others.tokens;
      lean = lean-kept comma _ _ (λ n. refl)
          (lean-both (disjunction_tokens one.new) (disjunction_tokens next) (more_arguments_tokens others.new) (more_arguments_tokens more) one.lean others.lean);
    }

record LeanArguments (whole : Arguments) : Type 0 where
  pub new : Arguments
  pub tree : arguments_tree new ≡ arguments_tree whole
  pub tokens : arguments_tokens new ≡ listed (arguments_tree whole)
  pub lean : Lean (arguments_tokens new) (arguments_tokens whole)

arguments-lean : (whole : Arguments) → LeanArguments whole
arguments-lean no_arguments = record { new = no_arguments; tree = refl; tokens = refl; lean = lean-nothing }
arguments-lean (arguments first more) =
    let one = expression-lean first in
    let others = more-lean more in
    record {
      new = arguments one.new others.new;
      tree = ap (λ it. it ∷ more_arguments_tree others.new) one.tree ∙ ap (λ it. disjunction_tree first ∷ it) others.tree;
      tokens = ap (λ it. it ++ more_arguments_tokens others.new) one.tokens
          ∙ ap (λ it. expression_tokens (disjunction_tree first) ++ it) others.tokens;
      lean = lean-both (disjunction_tokens one.new) (disjunction_tokens first) (more_arguments_tokens others.new) (more_arguments_tokens more) one.lean others.lean;
    }

-- statements and blocks
pub record LeanSentence (whole : Sentence) : Type 0 where
  pub new : Sentence
  pub tree : sentence_tree new ≡ sentence_tree whole
  pub tokens : sentence_tokens new ≡ sentence_shown (sentence_tree whole)
  pub lean : Leaner (sentence_slots new) (sentence_slots whole)

abbrev flat : List Statement → List Token
flat all = flat_map (λ (one : List Token). one) (map sentence_shown all)

pub record LeanStatements (whole : MoreStatements) : Type 0 where
  pub new : MoreStatements
  pub tree : statements_tree new ≡ statements_tree whole
  pub tokens : statements_tokens new ≡ flat (statements_tree whole)
  pub lean : Leaner (statements_slots new) (statements_slots whole)

pub record LeanBraces (whole : Braces) : Type 0 where
  pub new : Braces
  pub tree : braces_tree new ≡ braces_tree whole
  pub tokens : braces_tokens new ≡ braced (block_shown (braces_tree whole))
  pub lean : (n : ℕ) → Leaner (braces_slots new n) (braces_slots whole n)

shown-block : (all : List Statement) → block_shown (block_of all) ≡ map sentence_shown all
shown-block all = block-items (block_of all)

flat-append : (a b : List Statement) → flat (a ++ b) ≡ flat a ++ flat b
flat-append [] b = refl
flat-append (next ∷ a) b =
    ap (λ it. sentence_shown next ++ it) (flat-append a b) ∙ sym (append_assoc (sentence_shown next) (flat a) (flat b))

-- an item with its first token
item-lean : (first : Token) (a x : List Token) → ((n : ℕ) → open_with n first ≡ n) → Lean a x → Leaner (item first a) (item first x)
item-lean first a x plain it = kept-leaner (slot first begins) (going_on 0 a) (going_on 0 x) plain (it.slots 0)

one-lean : (next : Token) → ((n : ℕ) → open_with n next ≡ n) → Lean (next ∷ []) (next ∷ [])
one-lean next plain = lean-kept next [] [] plain lean-nothing

-- an expression before a `;`
ended-lean : (a x : List Token) → Lean a x → Lean (a ++ semicolon ∷ []) (x ++ semicolon ∷ [])
ended-lean a x it = lean-both a x (semicolon ∷ []) (semicolon ∷ []) it (one-lean semicolon (λ n. refl))

open-end-lean : (all : MoreStatements) → LeanStatements all → LeanBraces (open_end all)
open-end-lean all it = record {
  new = open_end it.new;
  tree = ap (λ them. block_of them) it.tree;
  tokens = ap (λ them. open_block ∷ (them ++ close_block ∷ [])) it.tokens ∙ ap braced (sym (shown-block (statements_tree all)));
  lean = λ n. bracketed (slot open_block (inside n)) (slot close_block outside) (statements_slots it.new) (statements_slots all) [] []
      (λ k. refl) (λ k. refl) it.lean nothing-leaner;
}

return-behind : (f e : List Token)
    → f ++ token.Word word.Return ∷ (e ++ semicolon ∷ close_block ∷ [])
    ≡ (f ++ ((token.Word word.Return ∷ (e ++ semicolon ∷ [])) ++ [])) ++ close_block ∷ []
return-behind f e = simp (append_assoc, append-nil)

returning-lean : (all : MoreStatements) (value : Disjunction) → LeanStatements all → LeanExpression value → LeanBraces (returning all value)
returning-lean all value it last = record {
  new = returning it.new last.new;
  tree = ap (λ them. block_of (them ++ does.Return (disjunction_tree last.new) ∷ [])) it.tree
      ∙ ap (λ e. block_of (statements_tree all ++ does.Return e ∷ [])) last.tree;
  tokens =
      let e : Expr = disjunction_tree value in
      ap (λ them. open_block ∷ (them ++ token.Word word.Return ∷ (disjunction_tokens last.new ++ semicolon ∷ close_block ∷ []))) it.tokens
      ∙ ap (λ them. open_block ∷ (flat (statements_tree all) ++ token.Word word.Return ∷ (them ++ semicolon ∷ close_block ∷ []))) last.tokens
      ∙ ap (λ them. open_block ∷ them) (return-behind (flat (statements_tree all)) (expression_tokens e))
      ∙ ap (λ them. open_block ∷ ((flat (statements_tree all) ++ (them ++ [])) ++ close_block ∷ [])) (sym (sentence-Return e))
      ∙ ap (λ them. open_block ∷ (them ++ close_block ∷ [])) (sym (flat-append (statements_tree all) (does.Return e ∷ [])))
      ∙ ap braced (sym (shown-block (statements_tree all ++ does.Return e ∷ [])));
  lean = λ n.
      let closes : Slot = slot close_block outside in
      let ends = both-leaner (statements_slots it.new) (statements_slots all) (return_slots last.new) (return_slots value) it.lean
      (item-lean (token.Word word.Return) (disjunction_tokens last.new ++ semicolon ∷ []) (disjunction_tokens value ++ semicolon ∷ []) (λ k. refl)
      (ended-lean (disjunction_tokens last.new) (disjunction_tokens value) last.lean)) in
      leaner-as (slot open_block (inside n) ∷ ((statements_slots it.new ++ return_slots last.new) ++ closes ∷ [])) (braces_slots (returning it.new last.new) n)
      (slot open_block (inside n) ∷ ((statements_slots all ++ return_slots value) ++ closes ∷ [])) (braces_slots (returning all value) n)
      (ap (λ them. slot open_block (inside n) ∷ them) (append_assoc (statements_slots it.new) (return_slots last.new) (closes ∷ [])))
      (ap (λ them. slot open_block (inside n) ∷ them) (append_assoc (statements_slots all) (return_slots value) (closes ∷ [])))
      (bracketed (slot open_block (inside n)) closes (statements_slots it.new ++ return_slots last.new) (statements_slots all ++ return_slots value) [] []
      (λ k. refl) (λ k. refl) ends nothing-leaner);
}

-- a block of an item, by the operators before it
braces-at : (whole : Braces) (it : LeanBraces whole) (n m : ℕ) → n ≡ m → Leaner (braces_slots it.new n) (braces_slots whole m)
braces-at whole it n m same = let B : ℕ → Type 0 = λ k. Leaner (braces_slots it.new n) (braces_slots whole k) in subst B same (it.lean n)

-- each form of statement
let-lean : (name : List ℕ) (of : Kind) (value : Disjunction) → LeanExpression value → LeanSentence (grammar.let_value name of value)
let-lean name of value it = record {
  new = grammar.let_value name of it.new;
  tree = ap (λ e. does.Let name of e) it.tree;
  tokens = ap (λ them. let_shown name of them) it.tokens ∙ sym (sentence-Let name of (disjunction_tree value));
  lean =
      kept-leaner (slot (token.Word word.Let) begins) _ _ (λ n. refl)
      (kept-leaner (slot (token.Name name) (naming 0)) _ _ (λ n. refl)
      ((lean-kept colon _ _ (λ n. refl) (lean-kept (kind_token of) _ _ (λ n. refl) (lean-kept assigns _ _ (λ n. refl)
      (ended-lean (disjunction_tokens it.new) (disjunction_tokens value) it.lean)))).slots 0));
}

call-lean : (name : List ℕ) (of : Kind) (called : List ℕ) (values : Arguments) → LeanArguments values
    → LeanSentence (grammar.let_call name of called values)
call-lean name of called values it = record {
  new = grammar.let_call name of called it.new;
  tree = ap (λ e. does.LetCall name of called e) it.tree;
  tokens =
      ap (λ them. token.Word word.Let ∷ token.Name name ∷ colon ∷ kind_token of ∷ assigns ∷ token.Name called ∷ open_ ∷ them)
      (sym (append_assoc (arguments_tokens it.new) (close ∷ []) (semicolon ∷ [])))
      ∙ ap (λ them. let_shown name of (token.Name called ∷ open_ ∷ (them ++ close ∷ []))) it.tokens
      ∙ sym (sentence-LetCall name of called (arguments_tree values));
  lean =
      kept-leaner (slot (token.Word word.Let) begins) _ _ (λ n. refl)
      (kept-leaner (slot (token.Name name) (naming 0)) _ _ (λ n. refl)
      ((lean-kept colon _ _ (λ n. refl) (lean-kept (kind_token of) _ _ (λ n. refl) (lean-kept assigns _ _ (λ n. refl)
      (ended-lean (token.Name called ∷ open_ ∷ (arguments_tokens it.new ++ close ∷ [])) (token.Name called ∷ open_ ∷ (arguments_tokens values ++ close ∷ []))
      (lean-kept (token.Name called) _ _ (λ n. refl)
      (lean-within (arguments_tokens it.new) (arguments_tokens values) [] [] it.lean lean-nothing)))))).slots 0));
}

assign-lean : (name : List ℕ) (value : Disjunction) → LeanExpression value → LeanSentence (grammar.assign name value)
assign-lean name value it = record {
  new = grammar.assign name it.new;
  tree = ap (λ e. does.Assign name e) it.tree;
  tokens = ap (λ them. token.Name name ∷ assigns ∷ (them ++ semicolon ∷ [])) it.tokens ∙ sym (sentence-Assign name (disjunction_tree value));
  lean = item-lean (token.Name name) _ _ (λ n. refl)
      (lean-kept assigns _ _ (λ n. refl) (ended-lean (disjunction_tokens it.new) (disjunction_tokens value) it.lean));
}

-- an item with a test, and its block
tested-lean : (of : Word) (test : Disjunction) (body : Braces) (it : LeanExpression test) (block : LeanBraces body) → ((n : ℕ) → open_with n (token.Word of) ≡ n)
    → Leaner (item (token.Word of) (disjunction_tokens it.new) ++ braces_slots block.new (operators (disjunction_tokens it.new)))
    (item (token.Word of) (disjunction_tokens test) ++ braces_slots body (operators (disjunction_tokens test)))
tested-lean of test body it block plain =
    both-leaner (item (token.Word of) (disjunction_tokens it.new)) (item (token.Word of) (disjunction_tokens test))
    (braces_slots block.new (operators (disjunction_tokens it.new))) (braces_slots body (operators (disjunction_tokens test)))
    (item-lean (token.Word of) (disjunction_tokens it.new) (disjunction_tokens test) plain it.lean)
    (braces-at body block (operators (disjunction_tokens it.new)) (operators (disjunction_tokens test)) it.lean.same)

while-lean : (test : Disjunction) (body : Braces) → LeanExpression test → LeanBraces body → LeanSentence (grammar.while test body)
while-lean test body it block = record {
  new = grammar.while it.new block.new;
  tree = ap (λ e. does.While e (braces_tree block.new)) it.tree ∙ ap (λ b. does.While (disjunction_tree test) b) block.tree;
  tokens = ap (λ them. token.Word word.While ∷ (them ++ braces_tokens block.new)) it.tokens
      ∙ ap (λ them. token.Word word.While ∷ (expression_tokens (disjunction_tree test) ++ them)) block.tokens
      ∙ sym (sentence-While (disjunction_tree test) (braces_tree body));
  lean = tested-lean word.While test body it block (λ n. refl);
}

-- an `if` without `else`, by its shown tokens
if-tokens : (test : Disjunction) (body : Braces) (it : LeanExpression test) (block : LeanBraces body)
    → sentence_tokens (grammar.if it.new block.new)
    ≡ sentence_shown (does.If (disjunction_tree test) (braces_tree body) (block_of []))
if-tokens test body it block =
    ap (λ them. token.Word word.If ∷ (them ++ braces_tokens block.new)) it.tokens
    ∙ ap (λ them. token.Word word.If ∷ (expression_tokens (disjunction_tree test) ++ them)) block.tokens
    ∙ ap (λ them. token.Word word.If ∷ (expression_tokens (disjunction_tree test) ++ them)) (sym (append-nil (braced (block_shown (braces_tree body)))))
    ∙ ap (λ them. token.Word word.If ∷ (expression_tokens (disjunction_tree test) ++ (braced (block_shown (braces_tree body)) ++ else_shown them)))
    (sym (shown-block []))
    ∙ sym (sentence-If (disjunction_tree test) (braces_tree body) (block_of []))

if-tree : (test : Disjunction) (body : Braces) (it : LeanExpression test) (block : LeanBraces body)
    → does.If (disjunction_tree it.new) (braces_tree block.new) (block_of []) ≡ does.If (disjunction_tree test) (braces_tree body) (block_of [])
if-tree test body it block =
    ap (λ e. does.If e (braces_tree block.new) (block_of [])) it.tree ∙ ap (λ b. does.If (disjunction_tree test) b (block_of [])) block.tree

if-lean : (test : Disjunction) (body : Braces) → LeanExpression test → LeanBraces body → LeanSentence (grammar.if test body)
if-lean test body it block = record {
  new = grammar.if it.new block.new;
  tree = if-tree test body it block;
  tokens = if-tokens test body it block;
  lean = tested-lean word.If test body it block (λ n. refl);
}

-- an `else` with an empty block is left out
else-gone : (n : ℕ) → Leaner [] (slot (token.Word word.Else) outside ∷ slot open_block (inside n) ∷ slot close_block outside ∷ [])
else-gone n =
    let gone : IsDropped (slot open_block (inside n)) = record { functions = λ k. refl; locals = λ k. refl } in
    let gone' : IsDropped (slot close_block outside) = record { functions = λ k. refl; locals = λ k. refl } in
    dropped (slot (token.Word word.Else) outside) [] (slot open_block (inside n) ∷ slot close_block outside ∷ []) (λ k. refl)
    (record { functions = λ k. refl; locals = λ k. refl })
    (unbracketed (slot open_block (inside n)) (slot close_block outside) [] [] (λ k. refl) (λ k. refl) gone gone' nothing-leaner)

no-else-lean : (test : Disjunction) (body : Braces) → LeanExpression test → LeanBraces body
    → LeanSentence (grammar.if_else test body (open_end end_statements))
no-else-lean test body it block = record {
  new = grammar.if it.new block.new;
  tree = if-tree test body it block;
  tokens = if-tokens test body it block;
  lean =
      let n : ℕ = operators (disjunction_tokens it.new) in
      let m : ℕ = operators (disjunction_tokens test) in
      let gone : List Slot = slot (token.Word word.Else) outside ∷ slot open_block (inside m) ∷ slot close_block outside ∷ [] in
      let blocks = both-leaner (braces_slots block.new n) (braces_slots body m) [] gone (braces-at body block n m it.lean.same) (else-gone m) in
      let blocks' = leaner-as (braces_slots block.new n ++ []) (braces_slots block.new n) (braces_slots body m ++ gone) (braces_slots body m ++ gone)
      (append-nil (braces_slots block.new n)) refl blocks in
      both-leaner (item (token.Word word.If) (disjunction_tokens it.new)) (item (token.Word word.If) (disjunction_tokens test))
      (braces_slots block.new n) (braces_slots body m ++ gone)
      (item-lean (token.Word word.If) (disjunction_tokens it.new) (disjunction_tokens test) (λ k. refl) it.lean) blocks';
}

-- a block with a statement
else-filled : (shown first : List (List Token)) (next : List Token) → shown ≡ next ∷ first → else_shown shown ≡ token.Word word.Else ∷ braced shown
else-filled shown first next is =
    let E : List (List Token) → Type 0 = λ them. else_shown them ≡ token.Word word.Else ∷ braced them in
    subst E (sym is) refl

with-else-lean : (test : Disjunction) (body other : Braces) → LeanExpression test → LeanBraces body → LeanBraces other
    → else_shown (block_shown (braces_tree other)) ≡ token.Word word.Else ∷ braced (block_shown (braces_tree other))
    → LeanSentence (grammar.if_else test body other)
with-else-lean test body other it block last filled = record {
  new = grammar.if_else it.new block.new last.new;
  tree = ap (λ e. does.If e (braces_tree block.new) (braces_tree last.new)) it.tree
      ∙ ap (λ b. does.If (disjunction_tree test) b (braces_tree last.new)) block.tree
      ∙ ap (λ b. does.If (disjunction_tree test) (braces_tree body) b) last.tree;
  tokens =
      let T : List Token = expression_tokens (disjunction_tree test) in
      let B : List Token = braced (block_shown (braces_tree body)) in
      ap (λ them. token.Word word.If ∷ (them ++ (braces_tokens block.new ++ token.Word word.Else ∷ braces_tokens last.new))) it.tokens
      ∙ ap (λ them. token.Word word.If ∷ (T ++ (them ++ token.Word word.Else ∷ braces_tokens last.new))) block.tokens
      ∙ ap (λ them. token.Word word.If ∷ (T ++ (B ++ token.Word word.Else ∷ them))) last.tokens
      ∙ ap (λ them. token.Word word.If ∷ (T ++ (B ++ them))) (sym filled)
      ∙ sym (sentence-If (disjunction_tree test) (braces_tree body) (braces_tree other));
  lean =
      let n : ℕ = operators (disjunction_tokens it.new) in
      let m : ℕ = operators (disjunction_tokens test) in
      let then_else : Slot = slot (token.Word word.Else) outside in
      both-leaner (item (token.Word word.If) (disjunction_tokens it.new)) (item (token.Word word.If) (disjunction_tokens test))
      (braces_slots block.new n ++ then_else ∷ braces_slots last.new n) (braces_slots body m ++ then_else ∷ braces_slots other m)
      (item-lean (token.Word word.If) (disjunction_tokens it.new) (disjunction_tokens test) (λ k. refl) it.lean)
      (both-leaner (braces_slots block.new n) (braces_slots body m) (then_else ∷ braces_slots last.new n) (then_else ∷ braces_slots other m)
      (braces-at body block n m it.lean.same)
      (kept-leaner then_else (braces_slots last.new n) (braces_slots other m) (λ k. refl) (braces-at other last n m it.lean.same)));
}

else-lean : (test : Disjunction) (body other : Braces) → LeanExpression test → LeanBraces body → LeanBraces other
    → LeanSentence (grammar.if_else test body other)
else-lean test body (open_end end_statements) it block last = no-else-lean test body it block
else-lean test body (open_end (statement first more)) it block last =
    with-else-lean test body (open_end (statement first more)) it block last
    (else-filled _ _ _ (shown-block (sentence_tree first ∷ statements_tree more)))
else-lean test body (returning end_statements value) it block last =
    with-else-lean test body (returning end_statements value) it block last
    (else-filled _ _ _ (shown-block (does.Return (disjunction_tree value) ∷ [])))
else-lean test body (returning (statement first more) value) it block last =
    with-else-lean test body (returning (statement first more) value) it block last
    (else-filled _ _ _ (shown-block (sentence_tree first ∷ (statements_tree more ++ does.Return (disjunction_tree value) ∷ []))))

-- the arms of a read
arms-lean : (name : List ℕ) (body other : Braces) (block : LeanBraces body) (last : LeanBraces other) (n m : ℕ) → n ≡ m
    → Leaner (arms_slots (arms name block.new last.new) n) (arms_slots (arms name body other) m)
arms-lean name body other block last n m same =
    let opens : Slot = slot open_block (inside n) in
    let closes : Slot = slot close_block (inside n) in
    let some : Slot = slot (token.Word word.Some) (inside n) in
    let named : Slot = slot (token.Name name) (naming n) in
    let arm : Slot = slot (token.Mark mark.Arm) (inside n) in
    let none : Slot = slot (token.Word word.None) (inside n) in
    let a : List Slot = braces_slots block.new n in
    let x : List Slot = braces_slots body n in
    let b : List Slot = braces_slots last.new n in
    let y : List Slot = braces_slots other n in
    let inner : Leaner (some ∷ named ∷ arm ∷ (a ++ none ∷ arm ∷ b)) (some ∷ named ∷ arm ∷ (x ++ none ∷ arm ∷ y)) =
    kept-leaner some _ _ (λ k. refl) (kept-leaner named _ _ (λ k. refl) (kept-leaner arm _ _ (λ k. refl)
    (both-leaner a x (none ∷ arm ∷ b) (none ∷ arm ∷ y) (block.lean n)
    (kept-leaner none _ _ (λ k. refl) (kept-leaner arm _ _ (λ k. refl) (last.lean n)))))) in
    let all = bracketed opens closes (some ∷ named ∷ arm ∷ (a ++ none ∷ arm ∷ b)) (some ∷ named ∷ arm ∷ (x ++ none ∷ arm ∷ y)) [] []
    (λ k. refl) (λ k. refl) inner nothing-leaner in
    let it : Leaner (arms_slots (arms name block.new last.new) n) (arms_slots (arms name body other) n) =
    leaner-as (opens ∷ some ∷ named ∷ arm ∷ ((a ++ none ∷ arm ∷ b) ++ closes ∷ [])) (arms_slots (arms name block.new last.new) n)
    (opens ∷ some ∷ named ∷ arm ∷ ((x ++ none ∷ arm ∷ y) ++ closes ∷ [])) (arms_slots (arms name body other) n)
    (ap (λ them. opens ∷ some ∷ named ∷ arm ∷ them) (append_assoc a (none ∷ arm ∷ b) (closes ∷ [])))
    (ap (λ them. opens ∷ some ∷ named ∷ arm ∷ them) (append_assoc x (none ∷ arm ∷ y) (closes ∷ []))) all in
    let A : ℕ → Type 0 = λ k. Leaner (arms_slots (arms name block.new last.new) n) (arms_slots (arms name body other) k) in
    subst A same it

arms-tokens : (name : List ℕ) (body other : Braces) (block : LeanBraces body) (last : LeanBraces other)
    → arms_tokens (arms name block.new last.new) ≡ arms_shown name (block_shown (braces_tree body)) (block_shown (braces_tree other))
arms-tokens name body other block last =
    let front : List Token → List Token = λ them. open_block ∷ token.Word word.Some ∷ token.Name name ∷ token.Mark mark.Arm ∷ them in
    let behind : List Token → List Token = λ them. token.Word word.None ∷ token.Mark mark.Arm ∷ (them ++ close_block ∷ []) in
    ap (λ them. front (them ++ behind (braces_tokens last.new))) block.tokens
    ∙ ap (λ them. front (braced (block_shown (braces_tree body)) ++ behind them)) last.tokens

two-behind : (a b c : List Token) → a ++ comma ∷ (b ++ close ∷ c) ≡ (a ++ comma ∷ (b ++ close ∷ [])) ++ c
two-behind a b c = simp append_assoc

three-behind : (a b c d : List Token)
    → a ++ comma ∷ (b ++ comma ∷ (c ++ close ∷ d)) ≡ (a ++ comma ∷ (b ++ comma ∷ (c ++ close ∷ []))) ++ d
three-behind a b c d = simp append_assoc

get-lean : (table key : Disjunction) (name : List ℕ) (body other : Braces) → LeanExpression table → LeanExpression key → LeanBraces body → LeanBraces other
    → LeanSentence (grammar.get table key (arms name body other))
get-lean table key name body other t k block last = record {
  new = grammar.get t.new k.new (arms name block.new last.new);
  tree = ap (λ e. does.Get e (disjunction_tree k.new) name (braces_tree block.new) (braces_tree last.new)) t.tree
      ∙ ap (λ e. does.Get (disjunction_tree table) e name (braces_tree block.new) (braces_tree last.new)) k.tree
      ∙ ap (λ b. does.Get (disjunction_tree table) (disjunction_tree key) name b (braces_tree last.new)) block.tree
      ∙ ap (λ b. does.Get (disjunction_tree table) (disjunction_tree key) name (braces_tree body) b) last.tree;
  tokens =
      let T : List Token = expression_tokens (disjunction_tree table) in
      let K : List Token = expression_tokens (disjunction_tree key) in
      let A : List Token = arms_tokens (arms name block.new last.new) in
      ap (λ them. token.Word word.Get ∷ open_ ∷ (them ++ comma ∷ (disjunction_tokens k.new ++ close ∷ A))) t.tokens
      ∙ ap (λ them. token.Word word.Get ∷ open_ ∷ (T ++ comma ∷ (them ++ close ∷ A))) k.tokens
      ∙ ap (λ them. token.Word word.Get ∷ open_ ∷ (T ++ comma ∷ (K ++ close ∷ them))) (arms-tokens name body other block last)
      ∙ ap (λ them. token.Word word.Get ∷ open_ ∷ them) (two-behind T K (arms_shown name (block_shown (braces_tree body)) (block_shown (braces_tree other))))
      ∙ sym (sentence-Get (disjunction_tree table) (disjunction_tree key) name (braces_tree body) (braces_tree other));
  lean =
      both-leaner _ _ _ _
      (item-lean (token.Word word.Get) (open_ ∷ (disjunction_tokens t.new ++ comma ∷ (disjunction_tokens k.new ++ close ∷ [])))
      (open_ ∷ (disjunction_tokens table ++ comma ∷ (disjunction_tokens key ++ close ∷ []))) (λ n. refl)
      (lean-two (disjunction_tokens t.new) (disjunction_tokens table) (disjunction_tokens k.new) (disjunction_tokens key) [] [] t.lean k.lean lean-nothing))
      (arms-lean name body other block last
      (operators (disjunction_tokens t.new) + operators (disjunction_tokens k.new))
      (operators (disjunction_tokens table) + operators (disjunction_tokens key))
      (ap (λ n. n + operators (disjunction_tokens k.new)) t.lean.same ∙ ap (λ n. operators (disjunction_tokens table) + n) k.lean.same));
}

multiget-lean : (table keys width : Disjunction) (name : List ℕ) (body other : Braces)
    → LeanExpression table → LeanExpression keys → LeanExpression width → LeanBraces body → LeanBraces other
    → LeanSentence (grammar.multiget table keys width (arms name body other))
multiget-lean table keys width name body other t k w block last = record {
  new = grammar.multiget t.new k.new w.new (arms name block.new last.new);
  tree = ap (λ e. does.Multi e (disjunction_tree k.new) (disjunction_tree w.new) name (braces_tree block.new) (braces_tree last.new)) t.tree
      ∙ ap (λ e. does.Multi (disjunction_tree table) e (disjunction_tree w.new) name (braces_tree block.new) (braces_tree last.new)) k.tree
      ∙ ap (λ e. does.Multi (disjunction_tree table) (disjunction_tree keys) e name (braces_tree block.new) (braces_tree last.new)) w.tree
      ∙ ap (λ b. does.Multi (disjunction_tree table) (disjunction_tree keys) (disjunction_tree width) name b (braces_tree last.new)) block.tree
      ∙ ap (λ b. does.Multi (disjunction_tree table) (disjunction_tree keys) (disjunction_tree width) name (braces_tree body) b) last.tree;
  tokens =
      let T : List Token = expression_tokens (disjunction_tree table) in
      let K : List Token = expression_tokens (disjunction_tree keys) in
      let W : List Token = expression_tokens (disjunction_tree width) in
      let A : List Token = arms_tokens (arms name block.new last.new) in
      ap (λ them. token.Word word.Multiget ∷ open_ ∷ (them ++ comma ∷ (disjunction_tokens k.new ++ comma ∷ (disjunction_tokens w.new ++ close ∷ A)))) t.tokens
      ∙ ap (λ them. token.Word word.Multiget ∷ open_ ∷ (T ++ comma ∷ (them ++ comma ∷ (disjunction_tokens w.new ++ close ∷ A)))) k.tokens
      ∙ ap (λ them. token.Word word.Multiget ∷ open_ ∷ (T ++ comma ∷ (K ++ comma ∷ (them ++ close ∷ A)))) w.tokens
      ∙ ap (λ them. token.Word word.Multiget ∷ open_ ∷ (T ++ comma ∷ (K ++ comma ∷ (W ++ close ∷ them)))) (arms-tokens name body other block last)
      ∙ ap (λ them. token.Word word.Multiget ∷ open_ ∷ them) (three-behind T K W (arms_shown name (block_shown (braces_tree body)) (block_shown (braces_tree other))))
      ∙ sym (sentence-Multi (disjunction_tree table) (disjunction_tree keys) (disjunction_tree width) name (braces_tree body) (braces_tree other));
  lean =
      both-leaner _ _ _ _
      (item-lean (token.Word word.Multiget)
      (open_ ∷ (disjunction_tokens t.new ++ comma ∷ (disjunction_tokens k.new ++ comma ∷ (disjunction_tokens w.new ++ close ∷ []))))
      (open_ ∷ (disjunction_tokens table ++ comma ∷ (disjunction_tokens keys ++ comma ∷ (disjunction_tokens width ++ close ∷ [])))) (λ n. refl)
      (lean-three (disjunction_tokens t.new) (disjunction_tokens table) (disjunction_tokens k.new) (disjunction_tokens keys)
      (disjunction_tokens w.new) (disjunction_tokens width) [] [] t.lean k.lean w.lean lean-nothing))
      (arms-lean name body other block last
      (operators (disjunction_tokens t.new) + (operators (disjunction_tokens k.new) + operators (disjunction_tokens w.new)))
      (operators (disjunction_tokens table) + (operators (disjunction_tokens keys) + operators (disjunction_tokens width)))
      (ap (λ n. n + (operators (disjunction_tokens k.new) + operators (disjunction_tokens w.new))) t.lean.same
      ∙ ap (λ n. operators (disjunction_tokens table) + (n + operators (disjunction_tokens w.new))) k.lean.same
      ∙ ap (λ n. operators (disjunction_tokens table) + (operators (disjunction_tokens keys) + n)) w.lean.same));
}

-- what a write shows
write-shown : (writing : Writing) (name : List ℕ) (place value : Expr)
    → sentence_shown (write_tree writing name place value)
    ≡ with_three (writing_word writing) (token.Name name ∷ []) (expression_tokens place) (expression_tokens value) ++ semicolon ∷ []
write-shown set name place value = sentence-Set name place value
write-shown set8 name place value = sentence-Set8 name place value
write-shown copy name place value = sentence-Copy name place value

write-plain : (writing : Writing) (n : ℕ) → open_with n (token.Word (writing_word writing)) ≡ n
write-plain set n = refl
write-plain set8 n = refl
write-plain copy n = refl

semicolons : Lean (semicolon ∷ []) (semicolon ∷ [])
semicolons = one-lean semicolon (λ n. refl)

write-lean : (writing : Writing) (name : List ℕ) (place value : Disjunction) → LeanExpression place → LeanExpression value
    → LeanSentence (grammar.write writing name place value)
write-lean writing name place value p v = record {
  new = grammar.write writing name p.new v.new;
  tree = ap (λ e. write_tree writing name e (disjunction_tree v.new)) p.tree ∙ ap (λ e. write_tree writing name (disjunction_tree place) e) v.tree;
  tokens =
      let P : List Token = expression_tokens (disjunction_tree place) in
      let V : List Token = expression_tokens (disjunction_tree value) in
      ap (λ them. token.Word (writing_word writing) ∷ open_ ∷ token.Name name ∷ comma
      ∷ (them ++ comma ∷ (disjunction_tokens v.new ++ close ∷ semicolon ∷ []))) p.tokens
      ∙ ap (λ them. token.Word (writing_word writing) ∷ open_ ∷ token.Name name ∷ comma ∷ (P ++ comma ∷ (them ++ close ∷ semicolon ∷ []))) v.tokens
      ∙ ap (λ them. token.Word (writing_word writing) ∷ open_ ∷ them) (three-behind (token.Name name ∷ []) P V (semicolon ∷ []))
      ∙ sym (write-shown writing name (disjunction_tree place) (disjunction_tree value));
  lean = item-lean (token.Word (writing_word writing)) _ _ (write-plain writing)
      (lean-three (token.Name name ∷ []) (token.Name name ∷ []) (disjunction_tokens p.new) (disjunction_tokens place) (disjunction_tokens v.new) (disjunction_tokens value)
      (semicolon ∷ []) (semicolon ∷ []) (one-lean (token.Name name) (λ n. refl)) p.lean v.lean semicolons);
}

put-lean : (name : List ℕ) → LeanSentence (grammar.put name)
put-lean name = record {
  new = grammar.put name;
  tree = refl;
  tokens = sym (sentence-Put name);
  lean = item-lean (token.Word word.Put) _ _ (λ n. refl)
      (lean-within (token.Name name ∷ []) (token.Name name ∷ []) (semicolon ∷ []) (semicolon ∷ []) (one-lean (token.Name name) (λ n. refl)) semicolons);
}

del-lean : (table key : Disjunction) → LeanExpression table → LeanExpression key → LeanSentence (grammar.del table key)
del-lean table key t k = record {
  new = grammar.del t.new k.new;
  tree = ap (λ e. does.Del e (disjunction_tree k.new)) t.tree ∙ ap (λ e. does.Del (disjunction_tree table) e) k.tree;
  tokens =
      let T : List Token = expression_tokens (disjunction_tree table) in
      let K : List Token = expression_tokens (disjunction_tree key) in
      ap (λ them. token.Word word.Del ∷ open_ ∷ (them ++ comma ∷ (disjunction_tokens k.new ++ close ∷ semicolon ∷ []))) t.tokens
      ∙ ap (λ them. token.Word word.Del ∷ open_ ∷ (T ++ comma ∷ (them ++ close ∷ semicolon ∷ []))) k.tokens
      ∙ ap (λ them. token.Word word.Del ∷ open_ ∷ them) (two-behind T K (semicolon ∷ []))
      ∙ sym (sentence-Del (disjunction_tree table) (disjunction_tree key));
  lean = item-lean (token.Word word.Del) _ _ (λ n. refl)
      (lean-two (disjunction_tokens t.new) (disjunction_tokens table) (disjunction_tokens k.new) (disjunction_tokens key) (semicolon ∷ []) (semicolon ∷ [])
      t.lean k.lean semicolons);
}

resp-lean : (value : Disjunction) → LeanExpression value → LeanSentence (grammar.resp value)
resp-lean value it = record {
  new = grammar.resp it.new;
  tree = ap (λ e. does.Resp e) it.tree;
  tokens =
      let V : List Token = expression_tokens (disjunction_tree value) in
      ap (λ them. token.Word word.Resp ∷ open_ ∷ (them ++ close ∷ semicolon ∷ [])) it.tokens
      ∙ ap (λ them. token.Word word.Resp ∷ open_ ∷ them) (sym (append_assoc V (close ∷ []) (semicolon ∷ [])))
      ∙ sym (sentence-Resp (disjunction_tree value));
  lean = item-lean (token.Word word.Resp) _ _ (λ n. refl)
      (lean-within (disjunction_tokens it.new) (disjunction_tokens value) (semicolon ∷ []) (semicolon ∷ []) it.lean semicolons);
}

statements-lean-more : (first : Sentence) (more : MoreStatements) → LeanSentence first → LeanStatements more → LeanStatements (statement first more)
statements-lean-more first more one others = record {
  new = statement one.new others.new;
  tree = ap (λ s. s ∷ statements_tree others.new) one.tree ∙ ap (λ them. sentence_tree first ∷ them) others.tree;
  tokens = ap (λ them. them ++ statements_tokens others.new) one.tokens ∙ ap (λ them. sentence_shown (sentence_tree first) ++ them) others.tokens;
  lean = both-leaner (sentence_slots one.new) (sentence_slots first) (statements_slots others.new) (statements_slots more) one.lean others.lean;
}

mutual
  pub braces-lean : (whole : Braces) → LeanBraces whole
  braces-lean (open_end all) = open-end-lean all (statements-lean all)
  braces-lean (returning all value) = returning-lean all value (statements-lean all) (expression-lean value)

  statements-lean : (whole : MoreStatements) → LeanStatements whole
  statements-lean end_statements = record { new = end_statements; tree = refl; tokens = refl; lean = nothing-leaner }
  statements-lean (statement first more) = statements-lean-more first more (sentence-lean first) (statements-lean more)

  sentence-lean : (whole : Sentence) → LeanSentence whole
  sentence-lean (grammar.let_value name of value) = let-lean name of value (expression-lean value)
  sentence-lean (grammar.let_call name of called values) = call-lean name of called values (arguments-lean values)
  sentence-lean (grammar.assign name value) = assign-lean name value (expression-lean value)
  sentence-lean (grammar.if test body) = if-lean test body (expression-lean test) (braces-lean body)
  sentence-lean (grammar.if_else test body other) = else-lean test body other (expression-lean test) (braces-lean body) (braces-lean other)
  sentence-lean (grammar.while test body) = while-lean test body (expression-lean test) (braces-lean body)
  sentence-lean (grammar.get table key (arms name body other)) =
      get-lean table key name body other (expression-lean table) (expression-lean key) (braces-lean body) (braces-lean other)
  sentence-lean (grammar.multiget table keys width (arms name body other)) =
      multiget-lean table keys width name body other (expression-lean table) (expression-lean keys) (expression-lean width) (braces-lean body) (braces-lean other)
  sentence-lean (grammar.write writing name place value) = write-lean writing name place value (expression-lean place) (expression-lean value)
  sentence-lean (grammar.put name) = put-lean name
  sentence-lean (grammar.del table key) = del-lean table key (expression-lean table) (expression-lean key)
  sentence-lean (grammar.resp value) = resp-lean value (expression-lean value)

-- parameters stay as they are
parameter-slots : (name : List ℕ) (of : Kind) (a x : List Slot) → Leaner a x → Leaner (parameter_slots name of ++ a) (parameter_slots name of ++ x)
parameter-slots name of a x it =
    kept-leaner (slot (token.Name name) (naming 0)) _ _ (λ n. refl)
    (kept-leaner (slot colon (inside 0)) _ _ (λ n. refl) (kept-leaner (slot (kind_token of) (inside 0)) a x (λ n. refl) it))

more-parameters-lean : (more : MoreParameters) → Leaner (more_parameters_slots more) (more_parameters_slots more)
more-parameters-lean end_parameters = nothing-leaner
more-parameters-lean (parameter name of more) =
    kept-leaner (slot comma (inside 0)) _ _ (λ n. refl)
    (parameter-slots name of (more_parameters_slots more) (more_parameters_slots more) (more-parameters-lean more))

parameters-lean : (all : Parameters) → Leaner (parameters_slots all) (parameters_slots all)
parameters-lean no_parameters = nothing-leaner
parameters-lean (parameters name of more) = parameter-slots name of (more_parameters_slots more) (more_parameters_slots more) (more-parameters-lean more)

more-parameters-shown : (more : MoreParameters) → more_parameters_tokens more ≡ parameters_behind (more_parameters_tree more)
more-parameters-shown end_parameters = refl
more-parameters-shown (parameter name of more) =
    ap (λ them. comma ∷ token.Name name ∷ colon ∷ kind_token of ∷ them) (more-parameters-shown more)

parameters-shown : (all : Parameters) → parameters_tokens all ≡ parameters_shown (parameters_tree all)
parameters-shown no_parameters = refl
parameters-shown (parameters name of more) = ap (λ them. token.Name name ∷ colon ∷ kind_token of ∷ them) (more-parameters-shown more)

-- functions
record LeanDefinition (whole : Definition) : Type 0 where
  pub new : Definition
  pub tree : definition_tree new ≡ definition_tree whole
  pub tokens : definition_tokens new ≡ function_shown (definition_tree whole)
  pub lean : Leaner (definition_slots new) (definition_slots whole)

definition-lean : (whole : Definition) → LeanDefinition whole
definition-lean (function name params result body) =
    let it = braces-lean body in
    record {
      new = function name params result it.new;
      tree = ap (λ (b : Block). record { name = name; params = parameters_tree params; result = result; body = b }) it.tree;
      tokens =
          let front : List Token → List Token → List Token = λ them block.
          token.Word word.Fn ∷ token.Name name ∷ open_ ∷ (them ++ close ∷ token.Mark mark.Arrow ∷ kind_token result ∷ block) in
          ap (λ them. front them (braces_tokens it.new)) (parameters-shown params)
          ∙ ap (λ them. front (parameters_shown (parameters_tree params)) them) it.tokens;
      lean =
          kept-leaner (slot (token.Word word.Fn) begins) _ _ (λ n. refl)
          (kept-leaner (slot (token.Name name) (inside 0)) _ _ (λ n. refl)
          (bracketed (slot open_ (inside 0)) (slot close (inside 0)) (parameters_slots params) (parameters_slots params) _ _ (λ n. refl) (λ n. refl)
          (parameters-lean params)
          (kept-leaner (slot (token.Mark mark.Arrow) (inside 0)) _ _ (λ n. refl)
          (kept-leaner (slot (kind_token result) (inside 0)) (braces_slots it.new 0) (braces_slots body 0) (λ n. refl) (it.lean 0)))));
    }

record LeanFunctions (whole : MoreFunctions) : Type 0 where
  pub new : MoreFunctions
  pub tree : more_functions_tree new ≡ more_functions_tree whole
  pub tokens : more_functions_tokens new ≡ flat_map function_shown (more_functions_tree whole)
  pub lean : Leaner (more_functions_slots new) (more_functions_slots whole)

functions-lean : (whole : MoreFunctions) → LeanFunctions whole
functions-lean end_functions = record { new = end_functions; tree = refl; tokens = refl; lean = nothing-leaner }
functions-lean (define next more) =
    let one = definition-lean next in
    let others = functions-lean more in
    record {
      new = define one.new others.new;
      tree = ap (λ f. f ∷ more_functions_tree others.new) one.tree ∙ ap (λ them. definition_tree next ∷ them) others.tree;
      tokens = ap (λ them. them ++ more_functions_tokens others.new) one.tokens
          ∙ ap (λ them. function_shown (definition_tree next) ++ them) others.tokens;
      lean = both-leaner (definition_slots one.new) (definition_slots next) (more_functions_slots others.new) (more_functions_slots more) one.lean others.lean;
    }

-- a derivation of the same program with the tokens of its canonical text, which are left of all its tokens
pub record LeanWhole (whole : Whole) : Type 0 where
  pub new : Whole
  pub tree : program_tree new ≡ program_tree whole
  pub tokens : whole_tokens new ≡ program_shown (program_tree whole)
  pub lean : Leaner (program_slots new) (program_slots whole)

pub whole-lean : (whole : Whole) → LeanWhole whole
whole-lean (program first more) =
    let one = definition-lean first in
    let others = functions-lean more in
    record {
      new = program one.new others.new;
      tree = ap (λ (f : _). record { functions = f ∷ more_functions_tree others.new }) one.tree
          ∙ ap (λ (them : _). record { functions = definition_tree first ∷ them }) others.tree;
      tokens = ap (λ them. them ++ more_functions_tokens others.new) one.tokens
          ∙ ap (λ them. function_shown (definition_tree first) ++ them) others.tokens;
      lean = both-leaner (definition_slots one.new) (definition_slots first) (more_functions_slots others.new) (more_functions_slots more) one.lean others.lean;
    }
