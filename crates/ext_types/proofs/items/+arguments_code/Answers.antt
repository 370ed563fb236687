use Rattle.std.proofs.Common.{◌≡◌, ◌<◌, ◌≤◌, List, [], ◌∷◌, length, Some, refl, arith}
use Rattle.ext_mean.specs.declared.check_codes.TypeCode.TheVariants as code
use Rattle.ext_mean.specs.declared.expr.Expr.{Expr}
use Rattle.ext_mean.specs.declared.tree.Param.{Param}
use Rattle.ext_mean.specs.TypesOfItems.{arguments_code}
use Rattle.ext_types.proofs.items.+arguments_code.Goals as goal

-- parameters without arguments
too_few : (scope params : List Param) (args : List Expr) → length args < 1 → 1 ≤ length params → Some code.Count ≡ arguments_code scope params args
too_few scope [] args below least = absurd (omega arith)
too_few scope (param ∷ params) [] below least = refl
too_few scope (param ∷ params) (arg ∷ args) below least = absurd (omega arith)

pub returns-in-len1-up-params : goal.returns-in-len1-up-params
returns-in-len1-up-params t c = too_few c.args.scope.now c.args.params.now c.args.args.now c.in-empty.len_below c.in-len1-up-params.len_at_least
