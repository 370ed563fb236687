-- The first token of a statement, the marks that end its parts, and the words between them.
use Rattle.std.proofs.Common.{◌≡◌, ◌∙◌, ap, refl, sym, ℕ, Bool, true, false, List, [], ◌∷◌, ◌++◌, Option, Some, None}
use Rattle.ext_mean.specs.declared.expr.Expr.{Expr}
use Rattle.ext_mean.specs.declared.statement.Kind.{Kind}
use Rattle.ext_mean.specs.declared.statement.Statement.{Statement}
use Rattle.ext_mean.specs.declared.statement.Statement.TheVariants as does
use Rattle.ext_mean.specs.declared.token.Mark.{Mark}
use Rattle.ext_mean.specs.declared.token.Mark.TheVariants as mark
use Rattle.ext_mean.specs.declared.token.Token.{Token}
use Rattle.ext_mean.specs.declared.token.Token.TheVariants as token
use Rattle.ext_mean.specs.declared.token.Word.{Word}
use Rattle.ext_mean.specs.declared.token.Word.TheVariants as word
use Rattle.ext_mean.specs.Derived.{block_of, write_tree}
use Rattle.ext_mean.specs.Grammar.{Writing, set, set8, copy}
use Rattle.ext_grammar.specs.Coming.{AroundStatement, AroundBlock, in_block, if_block, while_block, get, multiget, fixed, behind, expression, let_value, assigned, if_test, while_test, get_table, get_key, multiget_table, multiget_keys, multiget_width, write_place, write_value, del_table, del_key, answered, returned, let_name, written_name, put_name, some_word, semicolon, braces, statements, last_brace, done, closed, on_token}
use Rattle.ext_parse.specs.Readers.{Stand, left, next, advanced, begun, going_on, refusal}
use Rattle.ext_parse.proofs.Marks.{no-mark}
use Rattle.ext_parse.proofs.Steps.{starting, ending_one, refuses, alike}

pub starts-assign : (known : List Statement) (around : AroundBlock) (name : List ℕ) (there : Stand) → next there ≡ Some (token.Name name) → left (statements known around) there ≡ left (fixed mark.Assign (expression (assigned name (in_block known around)))) (advanced (begun there))
starts-assign known around name there e = starting (statements known around) (fixed mark.Assign (expression (assigned name (in_block known around)))) (token.Name name) there (λ line. refl) e

pub starts-let : (known : List Statement) (around : AroundBlock) (there : Stand) → next there ≡ Some (token.Word word.Let) → left (statements known around) there ≡ left (let_name (in_block known around)) (advanced (begun there))
starts-let known around there e = starting (statements known around) (let_name (in_block known around)) (token.Word word.Let) there (λ line. refl) e

pub starts-if : (known : List Statement) (around : AroundBlock) (there : Stand) → next there ≡ Some (token.Word word.If) → left (statements known around) there ≡ left (expression (if_test (in_block known around))) (advanced (begun there))
starts-if known around there e = starting (statements known around) (expression (if_test (in_block known around))) (token.Word word.If) there (λ line. refl) e

pub starts-while : (known : List Statement) (around : AroundBlock) (there : Stand) → next there ≡ Some (token.Word word.While) → left (statements known around) there ≡ left (expression (while_test (in_block known around))) (advanced (begun there))
starts-while known around there e = starting (statements known around) (expression (while_test (in_block known around))) (token.Word word.While) there (λ line. refl) e

pub starts-get : (known : List Statement) (around : AroundBlock) (there : Stand) → next there ≡ Some (token.Word word.Get) → left (statements known around) there ≡ left (fixed mark.Open (expression (get_table (in_block known around)))) (advanced (begun there))
starts-get known around there e = starting (statements known around) (fixed mark.Open (expression (get_table (in_block known around)))) (token.Word word.Get) there (λ line. refl) e

pub starts-multiget : (known : List Statement) (around : AroundBlock) (there : Stand) → next there ≡ Some (token.Word word.Multiget) → left (statements known around) there ≡ left (fixed mark.Open (expression (multiget_table (in_block known around)))) (advanced (begun there))
starts-multiget known around there e = starting (statements known around) (fixed mark.Open (expression (multiget_table (in_block known around)))) (token.Word word.Multiget) there (λ line. refl) e

pub starts-set : (known : List Statement) (around : AroundBlock) (there : Stand) → next there ≡ Some (token.Word word.Set) → left (statements known around) there ≡ left (fixed mark.Open (written_name set (in_block known around))) (advanced (begun there))
starts-set known around there e = starting (statements known around) (fixed mark.Open (written_name set (in_block known around))) (token.Word word.Set) there (λ line. refl) e

pub starts-set8 : (known : List Statement) (around : AroundBlock) (there : Stand) → next there ≡ Some (token.Word word.Set8) → left (statements known around) there ≡ left (fixed mark.Open (written_name set8 (in_block known around))) (advanced (begun there))
starts-set8 known around there e = starting (statements known around) (fixed mark.Open (written_name set8 (in_block known around))) (token.Word word.Set8) there (λ line. refl) e

pub starts-copy : (known : List Statement) (around : AroundBlock) (there : Stand) → next there ≡ Some (token.Word word.Copy) → left (statements known around) there ≡ left (fixed mark.Open (written_name copy (in_block known around))) (advanced (begun there))
starts-copy known around there e = starting (statements known around) (fixed mark.Open (written_name copy (in_block known around))) (token.Word word.Copy) there (λ line. refl) e

pub starts-put : (known : List Statement) (around : AroundBlock) (there : Stand) → next there ≡ Some (token.Word word.Put) → left (statements known around) there ≡ left (fixed mark.Open (put_name (in_block known around))) (advanced (begun there))
starts-put known around there e = starting (statements known around) (fixed mark.Open (put_name (in_block known around))) (token.Word word.Put) there (λ line. refl) e

pub starts-del : (known : List Statement) (around : AroundBlock) (there : Stand) → next there ≡ Some (token.Word word.Del) → left (statements known around) there ≡ left (fixed mark.Open (expression (del_table (in_block known around)))) (advanced (begun there))
starts-del known around there e = starting (statements known around) (fixed mark.Open (expression (del_table (in_block known around)))) (token.Word word.Del) there (λ line. refl) e

pub starts-resp : (known : List Statement) (around : AroundBlock) (there : Stand) → next there ≡ Some (token.Word word.Resp) → left (statements known around) there ≡ left (fixed mark.Open (expression (answered (in_block known around)))) (advanced (begun there))
starts-resp known around there e = starting (statements known around) (fixed mark.Open (expression (answered (in_block known around)))) (token.Word word.Resp) there (λ line. refl) e

pub starts-return : (known : List Statement) (around : AroundBlock) (there : Stand) → next there ≡ Some (token.Word word.Return) → left (statements known around) there ≡ left (expression (returned known around)) (advanced (begun there))
starts-return known around there e = starting (statements known around) (expression (returned known around)) (token.Word word.Return) there (λ line. refl) e

-- the first token of a statement
pub ruleset statement_begins = (starts-assign, starts-let, starts-if, starts-while, starts-get, starts-multiget, starts-set, starts-set8, starts-copy, starts-put, starts-del, starts-resp, starts-return)

-- the tokens that may come in a block
abbrev pub stands_in_block : Token → Bool
stands_in_block (token.Name name) = true
stands_in_block (token.Mark mark.CloseBlock) = true
stands_in_block (token.Word word.Let) = true
stands_in_block (token.Word word.If) = true
stands_in_block (token.Word word.While) = true
stands_in_block (token.Word word.Get) = true
stands_in_block (token.Word word.Multiget) = true
stands_in_block (token.Word word.Set) = true
stands_in_block (token.Word word.Set8) = true
stands_in_block (token.Word word.Copy) = true
stands_in_block (token.Word word.Put) = true
stands_in_block (token.Word word.Del) = true
stands_in_block (token.Word word.Resp) = true
stands_in_block (token.Word word.Return) = true
stands_in_block other = false

abbrev pub may_stand : Option Token → Bool
may_stand (Some this) = stands_in_block this
may_stand None = false

no-statement-moves : (known : List Statement) (around : AroundBlock) (before : ℕ) (this : Token) → stands_in_block this ≡ false → on_token (statements known around) before this ≡ None
no-statement-moves known around before (token.Name name) e = cc
no-statement-moves known around before (token.Mark mark.CloseBlock) e = cc
no-statement-moves known around before (token.Word word.Let) e = cc
no-statement-moves known around before (token.Word word.If) e = cc
no-statement-moves known around before (token.Word word.While) e = cc
no-statement-moves known around before (token.Word word.Get) e = cc
no-statement-moves known around before (token.Word word.Multiget) e = cc
no-statement-moves known around before (token.Word word.Set) e = cc
no-statement-moves known around before (token.Word word.Set8) e = cc
no-statement-moves known around before (token.Word word.Copy) e = cc
no-statement-moves known around before (token.Word word.Put) e = cc
no-statement-moves known around before (token.Word word.Del) e = cc
no-statement-moves known around before (token.Word word.Resp) e = cc
no-statement-moves known around before (token.Word word.Return) e = cc
no-statement-moves known around before other e = refl

pub statements-refused : (known : List Statement) (around : AroundBlock) (there : Stand) → may_stand (next there) ≡ false → left (statements known around) there ≡ refusal there
statements-refused known around there e =
    refuses (statements known around) there refl refl (λ this is. no-statement-moves known around there.counted.operators this (sym (ap may_stand is) ∙ e))

-- no other mark may stand in a block, and no other word begins a statement
pub no-mark-in-block : (this : Mark) → (this ≡ mark.CloseBlock → ⊥) → stands_in_block (token.Mark this) ≡ false
no-mark-in-block mark.CloseBlock other = absurd (other refl)
no-mark-in-block this other = refl

pub no-word-in-block : (this : Word) → (this ≡ word.Let → ⊥) → (this ≡ word.If → ⊥) → (this ≡ word.While → ⊥) → (this ≡ word.Get → ⊥) → (this ≡ word.Multiget → ⊥) → (this ≡ word.Set → ⊥) → (this ≡ word.Set8 → ⊥) → (this ≡ word.Copy → ⊥) → (this ≡ word.Put → ⊥) → (this ≡ word.Del → ⊥) → (this ≡ word.Resp → ⊥) → (this ≡ word.Return → ⊥) → stands_in_block (token.Word this) ≡ false
no-word-in-block word.Let same n1 n2 n3 n4 n5 n6 n7 n8 n9 n10 n11 = absurd (same refl)
no-word-in-block word.If n0 same n2 n3 n4 n5 n6 n7 n8 n9 n10 n11 = absurd (same refl)
no-word-in-block word.While n0 n1 same n3 n4 n5 n6 n7 n8 n9 n10 n11 = absurd (same refl)
no-word-in-block word.Get n0 n1 n2 same n4 n5 n6 n7 n8 n9 n10 n11 = absurd (same refl)
no-word-in-block word.Multiget n0 n1 n2 n3 same n5 n6 n7 n8 n9 n10 n11 = absurd (same refl)
no-word-in-block word.Set n0 n1 n2 n3 n4 same n6 n7 n8 n9 n10 n11 = absurd (same refl)
no-word-in-block word.Set8 n0 n1 n2 n3 n4 n5 same n7 n8 n9 n10 n11 = absurd (same refl)
no-word-in-block word.Copy n0 n1 n2 n3 n4 n5 n6 same n8 n9 n10 n11 = absurd (same refl)
no-word-in-block word.Put n0 n1 n2 n3 n4 n5 n6 n7 same n9 n10 n11 = absurd (same refl)
no-word-in-block word.Del n0 n1 n2 n3 n4 n5 n6 n7 n8 same n10 n11 = absurd (same refl)
no-word-in-block word.Resp n0 n1 n2 n3 n4 n5 n6 n7 n8 n9 same n11 = absurd (same refl)
no-word-in-block word.Return n0 n1 n2 n3 n4 n5 n6 n7 n8 n9 n10 same = absurd (same refl)
no-word-in-block this n0 n1 n2 n3 n4 n5 n6 n7 n8 n9 n10 n11 = refl

pub let-ends : (found : Expr) (name : List ℕ) (of : Kind) (around : AroundStatement) (there : Stand) → left (behind found (let_value name of around)) there ≡ left (semicolon (does.Let name of found) around) there
let-ends found name of around there = alike (behind found (let_value name of around)) (semicolon (does.Let name of found) around) there refl (λ placed. refl)

pub assign-ends : (found : Expr) (name : List ℕ) (around : AroundStatement) (there : Stand) → left (behind found (assigned name around)) there ≡ left (semicolon (does.Assign name found) around) there
assign-ends found name around there = alike (behind found (assigned name around)) (semicolon (does.Assign name found) around) there refl (λ placed. refl)

pub get-table : (found : Expr) (around : AroundStatement) (there : Stand) → left (behind found (get_table around)) there ≡ left (fixed mark.Comma (expression (get_key found around))) there
get-table found around there = alike (behind found (get_table around)) (fixed mark.Comma (expression (get_key found around))) there refl (λ placed. refl)

pub get-key : (found : Expr) (table : Expr) (around : AroundStatement) (there : Stand) → left (behind found (get_key table around)) there ≡ left (fixed mark.Close (fixed mark.OpenBlock (some_word (get table found) around))) there
get-key found table around there = alike (behind found (get_key table around)) (fixed mark.Close (fixed mark.OpenBlock (some_word (get table found) around))) there refl (λ placed. refl)

pub multiget-table : (found : Expr) (around : AroundStatement) (there : Stand) → left (behind found (multiget_table around)) there ≡ left (fixed mark.Comma (expression (multiget_keys found around))) there
multiget-table found around there = alike (behind found (multiget_table around)) (fixed mark.Comma (expression (multiget_keys found around))) there refl (λ placed. refl)

pub multiget-keys : (found : Expr) (table : Expr) (around : AroundStatement) (there : Stand) → left (behind found (multiget_keys table around)) there ≡ left (fixed mark.Comma (expression (multiget_width table found around))) there
multiget-keys found table around there = alike (behind found (multiget_keys table around)) (fixed mark.Comma (expression (multiget_width table found around))) there refl (λ placed. refl)

pub multiget-width : (found : Expr) (table : Expr) (keys : Expr) (around : AroundStatement) (there : Stand) → left (behind found (multiget_width table keys around)) there ≡ left (fixed mark.Close (fixed mark.OpenBlock (some_word (multiget table keys found) around))) there
multiget-width found table keys around there = alike (behind found (multiget_width table keys around)) (fixed mark.Close (fixed mark.OpenBlock (some_word (multiget table keys found) around))) there refl (λ placed. refl)

pub write-place : (found : Expr) (writing : Writing) (name : List ℕ) (around : AroundStatement) (there : Stand) → left (behind found (write_place writing name around)) there ≡ left (fixed mark.Comma (expression (write_value writing name found around))) there
write-place found writing name around there = alike (behind found (write_place writing name around)) (fixed mark.Comma (expression (write_value writing name found around))) there refl (λ placed. refl)

pub write-value : (found : Expr) (writing : Writing) (name : List ℕ) (place : Expr) (around : AroundStatement) (there : Stand) → left (behind found (write_value writing name place around)) there ≡ left (fixed mark.Close (semicolon (write_tree writing name place found) around)) there
write-value found writing name place around there = alike (behind found (write_value writing name place around)) (fixed mark.Close (semicolon (write_tree writing name place found) around)) there refl (λ placed. refl)

pub del-table : (found : Expr) (around : AroundStatement) (there : Stand) → left (behind found (del_table around)) there ≡ left (fixed mark.Comma (expression (del_key found around))) there
del-table found around there = alike (behind found (del_table around)) (fixed mark.Comma (expression (del_key found around))) there refl (λ placed. refl)

pub del-key : (found : Expr) (table : Expr) (around : AroundStatement) (there : Stand) → left (behind found (del_key table around)) there ≡ left (fixed mark.Close (semicolon (does.Del table found) around)) there
del-key found table around there = alike (behind found (del_key table around)) (fixed mark.Close (semicolon (does.Del table found) around)) there refl (λ placed. refl)

pub answered-ends : (found : Expr) (around : AroundStatement) (there : Stand) → left (behind found (answered around)) there ≡ left (fixed mark.Close (semicolon (does.Resp found) around)) there
answered-ends found around there = alike (behind found (answered around)) (fixed mark.Close (semicolon (does.Resp found) around)) there refl (λ placed. refl)

pub if-test : (found : Expr) (around : AroundStatement) (there : Stand) → left (behind found (if_test around)) there ≡ left (braces (if_block found there.counted.operators around)) there
if-test found around there = alike (behind found (if_test around)) (braces (if_block found there.counted.operators around)) there refl (λ placed. refl)

pub while-test : (found : Expr) (around : AroundStatement) (there : Stand) → left (behind found (while_test around)) there ≡ left (braces (while_block found around)) there
while-test found around there = alike (behind found (while_test around)) (braces (while_block found around)) there refl (λ placed. refl)

-- behind an expression of a statement
pub ruleset statement_parts = (let-ends, assign-ends, get-table, get-key, multiget-table, multiget-keys, multiget-width, write-place, write-value, del-table, del-key, answered-ends, if-test, while-test)

pub semicolon-found : (statement : Statement) (around : AroundStatement) (there : Stand) → next there ≡ Some (token.Mark mark.Semicolon) → left (semicolon statement around) there ≡ left (done statement around) (going_on 0 (advanced there))
semicolon-found statement around there e = ending_one (semicolon statement around) (done statement around) (token.Mark mark.Semicolon) 0 there (λ line. refl) e

pub semicolon-refused : (statement : Statement) (around : AroundStatement) (there : Stand) → (next there ≡ Some (token.Mark mark.Semicolon) → ⊥) → left (semicolon statement around) there ≡ refusal there
semicolon-refused statement around there other =
    refuses (semicolon statement around) there refl refl (λ this e. no-mark mark.Semicolon this _ (λ is. other (e ∙ ap (λ (t : Token). Some t) is)))

pub returned-found : (found : Expr) (known : List Statement) (around : AroundBlock) (there : Stand) → next there ≡ Some (token.Mark mark.Semicolon) → left (behind found (returned known around)) there ≡ left (last_brace (known ++ does.Return found ∷ []) around) (going_on 0 (advanced there))
returned-found found known around there e = ending_one (behind found (returned known around)) (last_brace (known ++ does.Return found ∷ []) around) (token.Mark mark.Semicolon) 0 there (λ line. refl) e

pub returned-refused : (found : Expr) (known : List Statement) (around : AroundBlock) (there : Stand) → (next there ≡ Some (token.Mark mark.Semicolon) → ⊥) → left (behind found (returned known around)) there ≡ refusal there
returned-refused found known around there other =
    refuses (behind found (returned known around)) there refl refl (λ this e. no-mark mark.Semicolon this _ (λ is. other (e ∙ ap (λ (t : Token). Some t) is)))

pub braces-found : (around : AroundBlock) (there : Stand) → next there ≡ Some (token.Mark mark.OpenBlock) → left (braces around) there ≡ left (statements [] around) (going_on 0 (advanced there))
braces-found around there e = ending_one (braces around) (statements [] around) (token.Mark mark.OpenBlock) 0 there (λ line. refl) e

pub braces-refused : (around : AroundBlock) (there : Stand) → (next there ≡ Some (token.Mark mark.OpenBlock) → ⊥) → left (braces around) there ≡ refusal there
braces-refused around there other =
    refuses (braces around) there refl refl (λ this e. no-mark mark.OpenBlock this _ (λ is. other (e ∙ ap (λ (t : Token). Some t) is)))

pub last-brace-found : (known : List Statement) (around : AroundBlock) (there : Stand) → next there ≡ Some (token.Mark mark.CloseBlock) → left (last_brace known around) there ≡ left (closed (block_of known) around) (going_on 0 (advanced there))
last-brace-found known around there e = ending_one (last_brace known around) (closed (block_of known) around) (token.Mark mark.CloseBlock) 0 there (λ line. refl) e

pub last-brace-refused : (known : List Statement) (around : AroundBlock) (there : Stand) → (next there ≡ Some (token.Mark mark.CloseBlock) → ⊥) → left (last_brace known around) there ≡ refusal there
last-brace-refused known around there other =
    refuses (last_brace known around) there refl refl (λ this e. no-mark mark.CloseBlock this _ (λ is. other (e ∙ ap (λ (t : Token). Some t) is)))

pub statements-closed : (known : List Statement) (around : AroundBlock) (there : Stand) → next there ≡ Some (token.Mark mark.CloseBlock) → left (statements known around) there ≡ left (closed (block_of known) around) (going_on 0 (advanced there))
statements-closed known around there e =
    ending_one (statements known around) (closed (block_of known) around) (token.Mark mark.CloseBlock) 0 there (λ line. refl) e

-- the marks that end an item, or stand around a block
pub ruleset marks_around = (semicolon-found, semicolon-refused, returned-found, returned-refused, braces-found, braces-refused, last-brace-found, last-brace-refused, statements-closed)

-- where no statement begins
pub ruleset statements_other = (statements-refused, no-mark-in-block)
