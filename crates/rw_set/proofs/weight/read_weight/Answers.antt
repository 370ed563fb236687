-- The bytes are counted field by field.
use Rattle.std.proofs.Common.{length, ap, arith}
use Rattle.rw_set.proofs.Weights.{read-bytes, opt_bytes}
use Rattle.rw_set.proofs.weight.read_weight.Goals as goal
use Rattle.rw_set.proofs.weight.read_weight.Goals.{in-None, in-Some}

pub returns-clause-weight : goal.returns-clause-weight
returns-clause-weight c =
    let bytes = read-bytes c.args.read.now in
    let key = ap length c.bytes.ensures.bytes in
    elim c.match-read.branch [
      | in-None w ↦ (let value = ap opt_bytes w.in-None.is in let is = w.value-is in omega (arith, bytes, key, value, is))
      | in-Some w ↦ (let value = ap opt_bytes w.in-Some.is in let is = w.value-is in let long = w.len.ensures in omega (arith, bytes, key, value, is, long))
    ]
