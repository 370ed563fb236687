-- The levels of operators as the code names them.
use Rattle.std.specs.Prelude.{ℕ, Option, Some, None, if◌then◌else◌}
use Rattle.ext_mean.specs.declared.expr.BinOp.{BinOp}
use Rattle.ext_mean.specs.declared.expr.Expr.{Expr}
use Rattle.ext_mean.specs.declared.token.Token.{Token}
use Rattle.ext_grammar.specs.Coming as grammar
use Rattle.ext_grammar.specs.Coming.{level_of, is_level, operator_of}
use Rattle.ext_parse.specs.declared.level.Level.{Level}
use Rattle.ext_parse.specs.declared.level.Level.TheVariants as level

-- the grammar's level of that name
abbrev pub of_level : Level → grammar.Level
of_level level.Disjoining = grammar.disjoining
of_level level.Conjoining = grammar.conjoining
of_level level.Comparing = grammar.comparing
of_level level.Adding = grammar.adding
of_level level.Multiplying = grammar.multiplying

-- the next level that binds more tightly
abbrev pub tighter_than : Level → Option Level
tighter_than level.Disjoining = Some level.Conjoining
tighter_than level.Conjoining = Some level.Comparing
tighter_than level.Comparing = Some level.Adding
tighter_than level.Adding = Some level.Multiplying
tighter_than level.Multiplying = None

-- how many levels bind more tightly
abbrev pub levels_below : Level → ℕ
levels_below level.Disjoining = 4
levels_below level.Conjoining = 3
levels_below level.Comparing = 2
levels_below level.Adding = 1
levels_below level.Multiplying = 0

abbrev pub at_level : grammar.Level → Option BinOp → Option BinOp
at_level of (Some operator) = if is_level of (level_of operator) then Some operator else None
at_level of None = None

-- the operator of a level, if the token is one
abbrev pub operator_at : grammar.Level → Option Token → Option BinOp
operator_at of (Some token) = at_level of (operator_of token)
operator_at of None = None

-- what is to come behind an operand and the operator of a level, if there is one
abbrev pub behind_operand : grammar.Level → Expr → grammar.AroundExpr → Option BinOp → grammar.Coming
behind_operand of found around (Some operator) =
    grammar.unary (grammar.side of (grammar.right of operator found around))
behind_operand of found around None = grammar.behind found around

-- around an operand of a level, by the next tighter level
abbrev pub around_side : grammar.AroundExpr → Option Level → grammar.AroundExpr
around_side around (Some tighter) = grammar.side (of_level tighter) (grammar.chain (of_level tighter) around)
around_side around None = around
