-- the parameters so far
use Rattle.std.proofs.Common.{◌≡◌, take}
use Rattle.gen_compile.proofs.compiling.parameters.Given as goal

abbrev pub invariant-loop-param : goal.invariant-loop-param
invariant-loop-param l = record {
  scope : l.variables.in_scope.items ≡ take l.param-index l.params;
  declared : l.variables.declared ≡ l.param-index;
}
