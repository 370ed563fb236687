-- The first faulty item has its line.
use Rattle.std.proofs.Common.{◌≡◌, ◌<◌, subst, sym, length, Some, List, ℕ}
use Rattle.std.specs.Prelude.{slice_get}
use Rattle.ext_mean.specs.Typing.{type_fault}
use Rattle.ext_types.specs.Refusals.{Explains}
use Rattle.ext_check.specs.Checking.{by_types}
use Rattle.ext_check.proofs.FaultLines.{type-fault-line}
use Rattle.ext_check.proofs.check.untyped.Goals as goal

pub line_of-requires : goal.line_of-requires
line_of-requires c =
    let faulty = subst (λ z. Explains z (type_fault c.args.parsed.now.program)) c.in-Fault.is c.requires.explains in
    subst (λ (z : List ℕ). c.in-Fault.item < length z) (sym c.as_slice.ensures.value)
    (type-fault-line c.args.parsed.now.program c.args.parsed.now.lines.items c.in-Fault.item c.in-Fault.code c.requires.lines faulty)

pub returns-in-Fault : goal.returns-in-Fault
returns-in-Fault c =
    let faulty = subst (λ z. Explains z (type_fault c.args.parsed.now.program)) c.in-Fault.is c.requires.explains in
    by_types c.in-Fault.item faulty
    (subst (λ (z : List ℕ). slice_get z c.in-Fault.item ≡ Some c.line_of.result) c.as_slice.ensures.value c.line_of.ensures)
