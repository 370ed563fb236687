-- The calls so far are asked, each within its ranges.
use Rattle.std.specs.List.{AllByRecursion}
use Rattle.std.proofs.Common.{◌≡◌, map, take}
use Rattle.sp_base.specs.Spelling.{FitsAsked}
use Rattle.client_core.specs.Talking.{asked_of}
use Rattle.client_core.proofs.asking.all_asked.Given as goal

abbrev pub invariant-loop-call : goal.invariant-loop-call
invariant-loop-call l = record {
  asks : l.all.items ≡ map asked_of (take l.call-index l.calls);
  fits : AllByRecursion FitsAsked l.all.items;
}
