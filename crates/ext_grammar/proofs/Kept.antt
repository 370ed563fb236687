-- What each step of the reader keeps: the operators that it counts are those of the token's place, no
-- item is open between two statements, and a local is named only where any name would name one.
use Rattle.std.proofs.Common.{◌≡◌, ℕ, Bool, true, false, List, Option, Some, None, refl, if◌then◌else◌}
use Rattle.ext_mean.specs.declared.expr.BinOp.{BinOp}
use Rattle.ext_mean.specs.declared.expr.Expr.{Expr}
use Rattle.ext_mean.specs.declared.statement.Block.{Block}
use Rattle.ext_mean.specs.declared.statement.Statement.{Statement}
use Rattle.ext_mean.specs.declared.token.Mark.{Mark}
use Rattle.ext_mean.specs.declared.token.Token.{Token}
use Rattle.ext_mean.specs.declared.token.Token.TheVariants as token
use Rattle.ext_mean.specs.Bounds.{operators_at, IsNaming, IsAnyName}
use Rattle.ext_grammar.specs.Coming.{AroundBlock, if_block, else_block, while_block, some_block, none_block, function_body, AroundStatement, in_block, Coming, fixed, statements, last_brace, maybe_else, functions, let_name, some_name, first_parameter, parameter, Level, Move, on_mark, on_some, name_of, on_chain, on_longer_chain, is_level, level_of, disjoining, conjoining, comparing, adding, multiplying, AroundExpr, done, closed}

-- no operator is counted between two items
abbrev pub Zeroed : Coming → ℕ → Type 0
Zeroed (fixed of state) before = Zeroed state before
Zeroed (statements known around) before = before ≡ 0
Zeroed (last_brace known around) before = before ≡ 0
Zeroed (maybe_else test block operators around) before = before ≡ 0
Zeroed (functions known) before = before ≡ 0
Zeroed other before = Unit {0}

-- a name is the name of a local here
abbrev pub Declares : Coming → Type 0
Declares (let_name around) = Unit {0}
Declares (some_name looking around) = Unit {0}
Declares (first_parameter known name) = Unit {0}
Declares (parameter known name params) = Unit {0}
Declares other = ⊥

abbrev pub Kept : Coming → ℕ → Token → Option Move → Type 0
Kept state before next None = Unit {0}
Kept state before next (Some move) =
    (operators_at move.standing ≡ before) × Zeroed move.coming move.operators
    × (IsNaming move.standing → Declares state × IsAnyName next)

pub kept-if : (state : Coming) (before : ℕ) (next : Token) (test : Bool)
    (move other : Option Move) → Kept state before next move → Kept state before next other →
    Kept state before next (if test then move else other)
kept-if state before next true move other one two = one
kept-if state before next false move other one two = two

pub kept-mark : (state : Coming) (before : ℕ) (next : Token) (of : Mark) (move : Option Move) →
    Kept state before next move → Kept state before next (on_mark of next move)
kept-mark state before next of move kept = kept-if state before next _ move None kept tt

pub kept-some : {A : Type 0} (state : Coming) (before : ℕ) (next : Token) (found : Option A)
    (move : A → Option Move) → ((value : A) → Kept state before next (move value)) →
    Kept state before next (on_some found move)
kept-some state before next (Some value) move kept = kept value
kept-some state before next None move kept = tt

pub kept-name : (state : Coming) (before : ℕ) (next : Token) (move : List ℕ → Option Move) →
    (IsAnyName next → (name : List ℕ) → Kept state before next (move name)) →
    Kept state before next (on_some (name_of next) move)
kept-name state before (token.Name name) move kept = kept tt name
kept-name state before _ move kept = tt

pub kept-chain : (state : Coming) (before : ℕ) (next : Token) (level : Level) (left : Expr)
    (around : AroundExpr) (operator : Option BinOp) (other : Option Move) →
    Kept state before next other →
    Kept state before next (on_chain level left around before operator other)
kept-chain state before next level left around (Some operator) other kept =
    kept-if state before next (is_level level (level_of operator)) _ other
    (refl, tt, λ it. absurd it) kept
kept-chain state before next level left around None other kept = kept

pub kept-longer-chain : (state : Coming) (before : ℕ) (next : Token) (level : Level) (left : Expr)
    (around : AroundExpr) (operator : Option BinOp) (other : Option Move) →
    Kept state before next other →
    Kept state before next (on_longer_chain level left around before operator other)
kept-longer-chain state before next comparing left around operator other kept = kept
kept-longer-chain state before next disjoining left around operator other kept =
    kept-chain state before next disjoining left around operator other kept
kept-longer-chain state before next conjoining left around operator other kept =
    kept-chain state before next conjoining left around operator other kept
kept-longer-chain state before next adding left around operator other kept =
    kept-chain state before next adding left around operator other kept
kept-longer-chain state before next multiplying left around operator other kept =
    kept-chain state before next multiplying left around operator other kept

pub done-zeroed : (statement : Statement) (around : AroundStatement) →
    Zeroed (done statement around) 0
done-zeroed statement (in_block known around) = refl

pub closed-zeroed : (block : Block) (around : AroundBlock) → Zeroed (closed block around) 0
closed-zeroed block (if_block test operators around) = refl
closed-zeroed block (else_block test other around) = done-zeroed _ around
closed-zeroed block (while_block test around) = done-zeroed _ around
closed-zeroed block (some_block looking name operators around) = tt
closed-zeroed block (none_block looking name other operators around) = tt
closed-zeroed block (function_body known name params of) = refl
