-- what the changes still to come answer is the answer for all
use Rattle.std.proofs.Common.{◌≡◌, drop}
use Rattle.sp_base.specs.Places.{Place, same_place}
use Rattle.ext_mean.specs.MeaningValues.{place_changed}
use Rattle.gen_vm.specs.Finding.{first_from}
use Rattle.gen_vm.proofs.records.place_of_change.Given as goal

abbrev pub invariant-loop-at : goal.invariant-loop-at
invariant-loop-at l =
    let place : Place = record { table = l.table.0; key = l.key } in
    first_from (λ write. same_place (place_changed write) place) l.at (drop l.at l.writes)
    ≡ first_from (λ write. same_place (place_changed write) place) 0 l.fn.writes
