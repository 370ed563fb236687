-- what is left adds the rest
use Rattle.std.proofs.Common.{◌≡◌, ◌++◌, drop, length}
use Rattle.gen_code.specs.Codes.{all_values}
use Rattle.gen_compile.proofs.values.write_all.Given as goal

abbrev pub invariant-loop-expression : goal.invariant-loop-expression
invariant-loop-expression l =
    l.ops ++ all_values (drop l.expression-index l.expressions) l.scope (length l.ops)
    ≡ l.fn.ops ++ all_values l.expressions l.scope (length l.fn.ops)
