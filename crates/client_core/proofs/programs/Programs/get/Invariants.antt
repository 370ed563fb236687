-- The program found among those that are left is the one found among all.
use Rattle.std.proofs.Common.{◌≡◌, drop}
use Rattle.client_core.specs.Talking.{program_in}
use Rattle.client_core.proofs.programs.Programs.get.Given as goal

abbrev pub invariant-loop-known : goal.invariant-loop-known
invariant-loop-known l = program_in (drop l.known-index l.known-items) l.number ≡ program_in l.fn.self l.number
