-- The words and marks of the arms of a read, `else`, and calls.
use Rattle.std.proofs.Common.{◌≡◌, ◌∙◌, ap, refl, sym, arith, ℕ, ◌-◌, List, [], ◌∷◌, ◌++◌, Option, Some, None, length, IsTrue}
use Rattle.ext_mean.specs.declared.expr.Expr.{Expr}
use Rattle.ext_mean.specs.declared.expr.Expr.TheVariants as expr
use Rattle.ext_mean.specs.declared.statement.Block.{Block}
use Rattle.ext_mean.specs.declared.statement.Kind.{Kind}
use Rattle.ext_mean.specs.declared.statement.Statement.{Statement}
use Rattle.ext_mean.specs.declared.statement.Statement.TheVariants as does
use Rattle.ext_mean.specs.declared.token.Mark.TheVariants as mark
use Rattle.ext_mean.specs.declared.token.Placed.{Placed}
use Rattle.ext_mean.specs.declared.token.Token.{Token}
use Rattle.ext_mean.specs.declared.token.Token.TheVariants as token
use Rattle.ext_mean.specs.declared.token.Word.{Word}
use Rattle.ext_mean.specs.declared.token.Word.TheVariants as word
use Rattle.ext_mean.specs.Derived.{block_of}
use Rattle.ext_grammar.specs.Coming.{AroundStatement, AroundBlock, in_block, else_block, none_block, Looking, fixed, behind, unary, expression, level_operand, let_value, call_argument, value, behind_name, first_argument, written_name, some_word, some_name, none_word, arms_end, semicolon, braces, statements, maybe_else, done, name_of, on_token}
use Rattle.ext_grammar.specs.Reading.{answer}
use Rattle.ext_parse.specs.Parts.{is_write, written_by}
use Rattle.ext_parse.specs.Readers.{Stand, left, next, first_of, behind_first, advanced, begun, going_on, refusal, name_at, remaining}
use Rattle.ext_parse.proofs.Marks.{no-mark}
use Rattle.ext_parse.proofs.Names.{name-token}
use Rattle.ext_parse.proofs.Statements.{starts-set, starts-set8, starts-copy}
use Rattle.ext_parse.proofs.Steps.{quiet, ending_one, refuses, alike-moves, remaining-going_on, remaining-by}

-- no other word leads on
no-some-moves : (looking : Looking) (around : AroundStatement) (before : ℕ) (this : Token) → (this ≡ token.Word word.Some → ⊥) → on_token (some_word looking around) before this ≡ None
no-some-moves looking around before (token.Word word.Some) other = absurd (other refl)
no-some-moves looking around before this other = refl

pub some-found : (looking : Looking) (around : AroundStatement) (there : Stand) → next there ≡ Some (token.Word word.Some) → left (some_word looking around) there ≡ left (some_name looking around) (advanced there)
some-found looking around there e = quiet (some_word looking around) (some_name looking around) (token.Word word.Some) there (λ line. refl) e

pub some-refused : (looking : Looking) (around : AroundStatement) (there : Stand) → (next there ≡ Some (token.Word word.Some) → ⊥) → left (some_word looking around) there ≡ refusal there
some-refused looking around there other =
    refuses (some_word looking around) there refl refl (λ this e. no-some-moves looking around there.counted.operators this (λ is. other (e ∙ ap (λ (t : Token). Some t) is)))

-- Behind a block of a read, its item goes on with the operators that it had.
pub none-goes_on : (operators : ℕ) (looking : Looking) (name : List ℕ) (block : Block) (around : AroundStatement) (there : Stand) → left (none_word operators looking name block around) there ≡ left (none_word operators looking name block around) (going_on operators there)
unfolding left going_on
none-goes_on operators looking name block around there = goes (there.rest)
  where
    goes : (rest : List Placed) → answer (none_word operators looking name block around) there.counted there.ending rest ≡ answer (none_word operators looking name block around) (record { functions = there.counted.functions; locals = there.counted.locals; operators = operators; lines = there.counted.lines }) there.ending rest
    goes [] = refl
    goes (first ∷ rest) = refl

no-none-moves : (operators : ℕ) (looking : Looking) (name : List ℕ) (block : Block) (around : AroundStatement) (before : ℕ) (this : Token) → (this ≡ token.Word word.None → ⊥) → on_token (none_word operators looking name block around) before this ≡ None
no-none-moves operators looking name block around before (token.Word word.None) other = absurd (other refl)
no-none-moves operators looking name block around before this other = refl

none-found-there : (operators : ℕ) (looking : Looking) (name : List ℕ) (block : Block) (around : AroundStatement) (there : Stand) → next (going_on operators there) ≡ Some (token.Word word.None) → left (none_word operators looking name block around) (going_on operators there) ≡ left (fixed mark.Arm (braces (none_block looking name block operators around))) (advanced (going_on operators there))
unfolding going_on
none-found-there operators looking name block around there e =
    quiet (none_word operators looking name block around) (fixed mark.Arm (braces (none_block looking name block operators around))) (token.Word word.None) (going_on operators there) (λ line. refl) e

pub none-found : (operators : ℕ) (looking : Looking) (name : List ℕ) (block : Block) (around : AroundStatement) (there : Stand) → next (going_on operators there) ≡ Some (token.Word word.None) → left (none_word operators looking name block around) there ≡ left (fixed mark.Arm (braces (none_block looking name block operators around))) (advanced (going_on operators there))
none-found operators looking name block around there e =
    none-goes_on operators looking name block around there
    ∙ none-found-there operators looking name block around there e

none-refused-there : (operators : ℕ) (looking : Looking) (name : List ℕ) (block : Block) (around : AroundStatement) (there : Stand) → (next (going_on operators there) ≡ Some (token.Word word.None) → ⊥) → left (none_word operators looking name block around) (going_on operators there) ≡ refusal (going_on operators there)
unfolding going_on
none-refused-there operators looking name block around there other =
    refuses (none_word operators looking name block around) (going_on operators there) refl refl (λ this e. no-none-moves operators looking name block around operators this (λ is. other (e ∙ ap (λ (t : Token). Some t) is)))

pub none-refused : (operators : ℕ) (looking : Looking) (name : List ℕ) (block : Block) (around : AroundStatement) (there : Stand) → (next (going_on operators there) ≡ Some (token.Word word.None) → ⊥) → left (none_word operators looking name block around) there ≡ refusal (going_on operators there)
none-refused operators looking name block around there other =
    none-goes_on operators looking name block around there ∙ none-refused-there operators looking name block around there other

pub arms-goes_on : (operators : ℕ) (statement : Statement) (around : AroundStatement) (there : Stand) → left (arms_end operators statement around) there ≡ left (arms_end operators statement around) (going_on operators there)
unfolding left going_on
arms-goes_on operators statement around there = goes (there.rest)
  where
    goes : (rest : List Placed) → answer (arms_end operators statement around) there.counted there.ending rest ≡ answer (arms_end operators statement around) (record { functions = there.counted.functions; locals = there.counted.locals; operators = operators; lines = there.counted.lines }) there.ending rest
    goes [] = refl
    goes (first ∷ rest) = refl

pub arms-found : (operators : ℕ) (statement : Statement) (around : AroundStatement) (there : Stand) → next (going_on operators there) ≡ Some (token.Mark mark.CloseBlock) → left (arms_end operators statement around) there ≡ left (done statement around) (going_on 0 (advanced (going_on operators there)))
arms-found operators statement around there e =
    arms-goes_on operators statement around there
    ∙ ending_one (arms_end operators statement around) (done statement around) (token.Mark mark.CloseBlock) 0 (going_on operators there) (λ line. refl) e

arms-refused-there : (operators : ℕ) (statement : Statement) (around : AroundStatement) (there : Stand) → (next (going_on operators there) ≡ Some (token.Mark mark.CloseBlock) → ⊥) → left (arms_end operators statement around) (going_on operators there) ≡ refusal (going_on operators there)
unfolding going_on
arms-refused-there operators statement around there other =
    refuses (arms_end operators statement around) (going_on operators there) refl refl (λ this e. no-mark mark.CloseBlock this _ (λ is. other (e ∙ ap (λ (t : Token). Some t) is)))

pub arms-refused : (operators : ℕ) (statement : Statement) (around : AroundStatement) (there : Stand) → (next (going_on operators there) ≡ Some (token.Mark mark.CloseBlock) → ⊥) → left (arms_end operators statement around) there ≡ refusal (going_on operators there)
arms-refused operators statement around there other =
    arms-goes_on operators statement around there ∙ arms-refused-there operators statement around there other

pub ruleset arms_met = (some-found, some-refused, none-found, none-refused, arms-found, arms-refused)

-- an `else`, or the next statement
pub else-found : (test : Expr) (block : Block) (operators : ℕ) (around : AroundStatement) (there : Stand) → next there ≡ Some (token.Word word.Else) → left (maybe_else test block operators around) there ≡ left (braces (else_block test block around)) (going_on operators (advanced there))
else-found test block operators around there e =
    ending_one (maybe_else test block operators around) (braces (else_block test block around)) (token.Word word.Else) operators there (λ line. refl) e

no-else-moves : (test : Expr) (block : Block) (operators : ℕ) (known : List Statement) (around : AroundBlock) (before : ℕ) (this : Token) → (this ≡ token.Word word.Else → ⊥) → on_token (maybe_else test block operators (in_block known around)) before this ≡ on_token (statements (known ++ does.If test block (block_of []) ∷ []) around) before this
no-else-moves test block operators known around before (token.Word word.Else) other = absurd (other refl)
no-else-moves test block operators known around before this other = refl

pub else-none : (test : Expr) (block : Block) (operators : ℕ) (known : List Statement) (around : AroundBlock) (there : Stand) → (next there ≡ Some (token.Word word.Else) → ⊥) → left (maybe_else test block operators (in_block known around)) there ≡ left (statements (known ++ does.If test block (block_of []) ∷ []) around) there
else-none test block operators known around there other =
    alike-moves (maybe_else test block operators (in_block known around)) (statements (known ++ does.If test block (block_of []) ∷ []) around) there refl refl refl
    (λ this e. no-else-moves test block operators known around there.counted.operators this (λ is. other (e ∙ ap (λ (t : Token). Some t) is)))

pub ruleset else_met = (else-found, else-none)

-- a call, or an expression
pub value-call : (name : List ℕ) (of : Kind) (called : List ℕ) (around : AroundStatement) (there : Stand) → name_at (next there) ≡ Some called → next (advanced there) ≡ Some (token.Mark mark.Open) → left (value name of around) there ≡ left (first_argument name of called around) (advanced (advanced there))
value-call name of called around there e opens =
    quiet (value name of around) (behind_name name of called around) (token.Name called) there (λ line. refl) (name-token (next there) called e)
    ∙ quiet (behind_name name of called around) (first_argument name of called around) (token.Mark mark.Open) (advanced there) (λ line. refl) opens

no-open-moves : (name : List ℕ) (of : Kind) (called : List ℕ) (around : AroundStatement) (before : ℕ) (this : Token) → (this ≡ token.Mark mark.Open → ⊥) → on_token (behind_name name of called around) before this ≡ on_token (behind (expr.Var called) (level_operand (let_value name of around))) before this
no-open-moves name of called around before (token.Mark mark.Open) other = absurd (other refl)
no-open-moves name of called around before this other = refl

no-open : (name : List ℕ) (of : Kind) (called : List ℕ) (around : AroundStatement) (there : Stand) → (next there ≡ Some (token.Mark mark.Open) → ⊥) → left (behind_name name of called around) there ≡ left (behind (expr.Var called) (level_operand (let_value name of around))) there
no-open name of called around there other =
    alike-moves (behind_name name of called around) (behind (expr.Var called) (level_operand (let_value name of around))) there refl refl refl
    (λ this e. no-open-moves name of called around there.counted.operators this (λ is. other (e ∙ ap (λ (t : Token). Some t) is)))

no-name-moves : (name : List ℕ) (of : Kind) (around : AroundStatement) (before : ℕ) (this : Token) → name_of this ≡ None → on_token (value name of around) before this ≡ on_token (unary (level_operand (let_value name of around))) before this
no-name-moves name of around before (token.Name called) e = cc
no-name-moves name of around before this e = refl

pub value-unnamed : (name : List ℕ) (of : Kind) (around : AroundStatement) (there : Stand) → name_at (next there) ≡ None → left (value name of around) there ≡ left (unary (level_operand (let_value name of around))) there
value-unnamed name of around there e =
    alike-moves (value name of around) (unary (level_operand (let_value name of around))) there refl refl refl
    (λ this is. no-name-moves name of around there.counted.operators this (sym (ap name_at is) ∙ e))

value-by : (name : List ℕ) (of : Kind) (around : AroundStatement) (there : Stand) (found : Option (List ℕ)) → name_at (next there) ≡ found → (next (advanced there) ≡ Some (token.Mark mark.Open) → ⊥) → left (value name of around) there ≡ left (unary (level_operand (let_value name of around))) there
value-by name of around there None e other = value-unnamed name of around there e
value-by name of around there (Some called) e other =
    let at : next there ≡ Some (token.Name called) = name-token (next there) called e in
    quiet (value name of around) (behind_name name of called around) (token.Name called) there (λ line. refl) at
    ∙ no-open name of called around (advanced there) other
    ∙ sym (quiet (unary (level_operand (let_value name of around))) (behind (expr.Var called) (level_operand (let_value name of around))) (token.Name called) there (λ line. refl) at)

pub value-other : (name : List ℕ) (of : Kind) (around : AroundStatement) (there : Stand) → (next (advanced there) ≡ Some (token.Mark mark.Open) → ⊥) → left (value name of around) there ≡ left (unary (level_operand (let_value name of around))) there
value-other name of around there other = value-by name of around there (name_at (next there)) refl other

pub ruleset values_met = (value-call, value-unnamed, value-other)

-- the arguments of a call
no-close-moves : (name : List ℕ) (of : Kind) (called : List ℕ) (around : AroundStatement) (before : ℕ) (this : Token) → (this ≡ token.Mark mark.Close → ⊥) → on_token (first_argument name of called around) before this ≡ on_token (expression (call_argument name of called [] around)) before this
no-close-moves name of called around before (token.Mark mark.Close) other = absurd (other refl)
no-close-moves name of called around before this other = refl

pub arguments-none : (name : List ℕ) (of : Kind) (called : List ℕ) (around : AroundStatement) (there : Stand) → next there ≡ Some (token.Mark mark.Close) → left (first_argument name of called around) there ≡ left (semicolon (does.LetCall name of called []) around) (advanced there)
arguments-none name of called around there e =
    quiet (first_argument name of called around) (semicolon (does.LetCall name of called []) around) (token.Mark mark.Close) there (λ line. refl) e

pub arguments-some : (name : List ℕ) (of : Kind) (called : List ℕ) (around : AroundStatement) (there : Stand) → (next there ≡ Some (token.Mark mark.Close) → ⊥) → left (first_argument name of called around) there ≡ left (expression (call_argument name of called [] around)) there
arguments-some name of called around there other =
    alike-moves (first_argument name of called around) (expression (call_argument name of called [] around)) there refl refl refl
    (λ this e. no-close-moves name of called around there.counted.operators this (λ is. other (e ∙ ap (λ (t : Token). Some t) is)))

pub arguments-end : (found : Expr) (name : List ℕ) (of : Kind) (called : List ℕ) (values : List Expr) (around : AroundStatement) (there : Stand) → next there ≡ Some (token.Mark mark.Close) → left (behind found (call_argument name of called values around)) there ≡ left (semicolon (does.LetCall name of called (values ++ found ∷ [])) around) (advanced there)
arguments-end found name of called values around there e =
    quiet (behind found (call_argument name of called values around)) (semicolon (does.LetCall name of called (values ++ found ∷ [])) around) (token.Mark mark.Close) there (λ line. refl) e

no-end-moves : (found : Expr) (name : List ℕ) (of : Kind) (called : List ℕ) (values : List Expr) (around : AroundStatement) (before : ℕ) (this : Token) → (this ≡ token.Mark mark.Close → ⊥) → on_token (behind found (call_argument name of called values around)) before this ≡ on_token (fixed mark.Comma (expression (call_argument name of called (values ++ found ∷ []) around))) before this
no-end-moves found name of called values around before (token.Mark mark.Close) other = absurd (other refl)
no-end-moves found name of called values around before this other = refl

pub arguments-more : (found : Expr) (name : List ℕ) (of : Kind) (called : List ℕ) (values : List Expr) (around : AroundStatement) (there : Stand) → (next there ≡ Some (token.Mark mark.Close) → ⊥) → left (behind found (call_argument name of called values around)) there ≡ left (fixed mark.Comma (expression (call_argument name of called (values ++ found ∷ []) around))) there
arguments-more found name of called values around there other =
    alike-moves (behind found (call_argument name of called values around)) (fixed mark.Comma (expression (call_argument name of called (values ++ found ∷ []) around))) there refl refl refl
    (λ this e. no-end-moves found name of called values around there.counted.operators this (λ is. other (e ∙ ap (λ (t : Token). Some t) is)))

pub ruleset arguments_met = (arguments-none, arguments-some, arguments-end, arguments-more)

-- the tokens left behind the next one, by those that are left before it
abbrev pub less_by : Option Token → ℕ → ℕ
less_by None count = count
less_by (Some this) count = count - 1

behind-list : (placed : List Placed) → length (behind_first placed) ≡ less_by (first_of placed) (length placed)
behind-list [] = refl
behind-list (first ∷ rest) = omega arith

pub remaining-behind : (there : Stand) → remaining (advanced there) ≡ less_by (next there) (remaining there)
unfolding remaining next advanced
remaining-behind there = behind-list there.rest

pub ruleset counting_back = (remaining-behind, remaining-going_on, remaining-by)

-- a statement that changes a buffer
pub starts-write : (known : List Statement) (around : AroundBlock) (which : Word) (there : Stand) → next there ≡ Some (token.Word which) → IsTrue (is_write which) → left (statements known around) there ≡ left (fixed mark.Open (written_name (written_by which) (in_block known around))) (advanced (begun there))
starts-write known around word.Set there e is = starts-set known around there e
starts-write known around word.Set8 there e is = starts-set8 known around there e
starts-write known around word.Copy there e is = starts-copy known around there e
starts-write known around which there e is = cc

pub ruleset write_begins = (starts-write, remaining-going_on)
