-- The first faulty item has its line.
use Rattle.std.proofs.Common.{◌≡◌, ◌<◌, subst, sym, length, Some, List, ℕ}
use Rattle.std.specs.Prelude.{slice_get}
use Rattle.ext_mean.specs.Ownership.{borrow_fault}
use Rattle.ext_borrow.specs.Refusals.{Explains}
use Rattle.ext_check.specs.Checking.{by_borrows}
use Rattle.ext_check.proofs.FaultLines.{borrow-fault-line}
use Rattle.ext_check.proofs.check.unowned.Goals as goal

pub line_of-requires : goal.line_of-requires
line_of-requires c =
    let faulty = subst (λ z. Explains z (borrow_fault c.args.parsed.now.program)) c.in-Fault.is c.requires.explains in
    subst (λ (z : List ℕ). c.in-Fault.item < length z) (sym c.as_slice.ensures.value)
    (borrow-fault-line c.args.parsed.now.program c.args.parsed.now.lines.items c.in-Fault.item c.in-Fault.code c.requires.lines faulty)

pub returns-in-Fault : goal.returns-in-Fault
returns-in-Fault c =
    let faulty = subst (λ z. Explains z (borrow_fault c.args.parsed.now.program)) c.in-Fault.is c.requires.explains in
    by_borrows c.in-Fault.item c.requires.typed faulty
    (subst (λ (z : List ℕ). slice_get z c.in-Fault.item ≡ Some c.line_of.result) c.as_slice.ensures.value c.line_of.ensures)
