-- the place among the variables still to come, behind those before them
use Rattle.std.proofs.Common.{◌≡◌, ◌+◌, drop}
use Rattle.gen_code.specs.Codes.{slot_of}
use Rattle.gen_compile.proofs.names.place_of.Given as goal

abbrev pub invariant-loop-place : goal.invariant-loop-place
invariant-loop-place l = slot_of (drop l.place l.scope) l.name + l.place ≡ slot_of l.scope l.name
