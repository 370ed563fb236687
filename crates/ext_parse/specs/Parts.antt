-- What is to come behind what may be read or left out.
use Rattle.std.specs.Prelude.{ℕ, Bool, true, false, List, Option, Some, None}
use Rattle.ext_mean.specs.declared.statement.Kind.{Kind}
use Rattle.ext_mean.specs.declared.token.Word.{Word}
use Rattle.ext_mean.specs.declared.token.Word.TheVariants as word
use Rattle.ext_mean.specs.Grammar.{Writing, set, set8, copy}
use Rattle.ext_grammar.specs.Coming.{AroundStatement, Coming, first_argument, unary, level_operand, let_value}

-- behind the name of a called function and its `(`, or where no call comes
abbrev pub behind_called : List ℕ → Kind → AroundStatement → Option (List ℕ) → Coming
behind_called name of around (Some called) = first_argument name of called around
behind_called name of around None = unary (level_operand (let_value name of around))

-- the words that change a buffer, and which change each is
abbrev pub is_write : Word → Bool
is_write word.Set = true
is_write word.Set8 = true
is_write word.Copy = true
is_write other = false

abbrev pub written_by : Word → Writing
written_by word.Set = set
written_by word.Set8 = set8
written_by other = copy
