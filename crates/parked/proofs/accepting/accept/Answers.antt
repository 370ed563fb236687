-- What is not refused has the shape of a run, and its tables may be written.
use Rattle.std.proofs.Common.{◌≡◌, None}
use Rattle.parked.specs.Taking.{refusal_of}
use Rattle.parked.proofs.Taken.{taken}
use Rattle.parked.proofs.accepting.accept.Goals as goal

pub invariant_of-result : goal.invariant_of-result
invariant_of-result c =
    let finish = c.args.finish in
    let none : refusal_of c.args.rights.now finish.outcome finish.writes ≡ None = (cc) in
    let good = taken c.args.rights.now finish.outcome finish.writes none in
    record { distinct = good.distinct; few = good.few; shaped = good.shaped }

pub returns-clause-within : goal.returns-clause-within
returns-clause-within c =
    let finish = c.args.finish in
    let none : refusal_of c.args.rights.now finish.outcome finish.writes ≡ None = (cc) in
    (taken c.args.rights.now finish.outcome finish.writes none).within
