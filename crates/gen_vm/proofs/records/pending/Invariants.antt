-- what is left of the writes answers as all of them do
use Rattle.std.proofs.Common.{◌≡◌, drop}
use Rattle.ext_mean.specs.MeaningValues.{pending}
use Rattle.gen_vm.proofs.records.pending.Given as goal

abbrev pub invariant-loop-write : goal.invariant-loop-write
invariant-loop-write l =
    pending (record { table = l.table.0; key = l.key }) (drop l.write-index l.writes)
    ≡ pending (record { table = l.table.0; key = l.key }) l.fn.writes
