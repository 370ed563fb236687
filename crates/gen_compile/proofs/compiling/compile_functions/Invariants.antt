-- the functions that are left complete the code
use Rattle.std.proofs.Common.{◌≡◌, ◌++◌, drop}
use Rattle.gen_code.specs.Codes.{function_codes}
use Rattle.gen_compile.proofs.compiling.compile_functions.Given as goal

abbrev pub invariant-loop-count : goal.invariant-loop-count
invariant-loop-count l = l.codes ++ function_codes l.functions l.count (drop l.count l.functions) ≡ function_codes l.functions 0 l.functions
