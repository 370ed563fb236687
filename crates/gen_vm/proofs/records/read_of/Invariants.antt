-- what is left of the reads answers as all of them do
use Rattle.std.proofs.Common.{◌≡◌, drop}
use Rattle.ext_mean.specs.Views.{value_read}
use Rattle.gen_vm.proofs.records.read_of.Given as goal

abbrev pub invariant-loop-read : goal.invariant-loop-read
invariant-loop-read l =
    value_read (drop l.read-index l.reads) (record { table = l.table.0; key = l.key })
    ≡ value_read l.fn.reads (record { table = l.table.0; key = l.key })
