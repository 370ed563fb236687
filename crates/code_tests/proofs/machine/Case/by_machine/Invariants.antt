-- the run may go on, within its limit
use Rattle.std.proofs.Common.{◌≡◌, ◌≤◌}
use Rattle.gen_vm.specs.declared.phase.Phase.TheVariants.{Ready}
use Rattle.gen_vm.specs.Standing.{Stands}
use Rattle.code_tests.proofs.machine.Case.by_machine.Given as goal

abbrev pub invariant-pauses : goal.invariant-pauses
invariant-pauses l = record {
  stands : Stands l.self.code l.machine;
  ready : l.machine.phase ≡ Ready;
  used : l.machine.here.used ≤ l.limit;
  room : l.limit ≤ l.self.budget;
  budget : l.machine.budget ≡ l.self.budget;
}
