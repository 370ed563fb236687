-- As many calls as were gone through, each of the tenant and with few arguments.
use Rattle.std.specs.List.{AllByRecursion}
use Rattle.std.proofs.Common.{◌≡◌, length}
use Rattle.sp_base.specs.Limits.{IsArguments}
use Rattle.sp_base.specs.declared.calls.Call.{Call}
use Rattle.parking_tests.specs.declared.books.TheConstants.{TENANT}
use Rattle.parking_tests.proofs.calls.calls_of.Given as goal

abbrev pub invariant-loop-one : goal.invariant-loop-one
invariant-loop-one l = record {
  length : length l.calls.items ≡ l.one-index;
  sized : AllByRecursion (λ (call : Call). IsArguments call.args) l.calls.items;
  own : AllByRecursion (λ (call : Call). call.caller.tenant ≡ TENANT) l.calls.items;
}
