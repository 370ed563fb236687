use Rattle.std.proofs.Common.{rules, ◌≡◌}
use Rattle.sched_text.specs.Tenants.{with_right}
use Rattle.sched_text.proofs.Tables.{with_right_there, with_right_fits}
use Rattle.sched_text.proofs.tenants.with_right.Goals as goal

pub of-requires : goal.of-requires
of-requires c =
    let there = with_right_there c.args.rights.now c.args.table c.args.level in
    let e : c.insert.new.self.items ≡ with_right c.args.table c.args.level c.args.rights.now = search (rules, there) in
    rw e (with_right_fits c.args.rights.now c.args.table c.args.level c.requires.absent c.requires.room c.requires.some c.as_slice.ensures.rights)
