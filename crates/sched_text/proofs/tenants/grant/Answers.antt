use Rattle.std.proofs.Common.{rules, ◌≡◌, ◌∙◌, ◌<◌, refl, length, get_or}
use Rattle.sched_text.specs.Tenants.{with_right, granted}
use Rattle.sched_text.proofs.Tables.{granted_there}
use Rattle.sched_text.proofs.tenants.grant.Goals as goal

pub returns-then-eq : goal.returns-then-eq
returns-then-eq c =
    let same = c.loop-at.invariant.same in
    let row = c.index-as_slice-at.result in
    let lt : c.loop-at.at < length c.loop-at.rows = rw same (search rules) in
    let is : row ≡ get_or c.loop-at.rows c.loop-at.at row = search rules in
    let own : row.0 ≡ c.args.tenant = search rules in
    let more : c.in_ok-more.more ≡ with_right c.args.table c.args.level row.1 = search rules in
    let there = granted_there c.loop-at.rows c.loop-at.at c.args.tenant c.args.table c.args.level row c.in_ok-more.more lt is own more c.loop-at.invariant.after in
    let all : granted c.args.tenant c.args.table c.args.level c.loop-at.rows ≡ granted c.args.tenant c.args.table c.args.level c.args.rows.now = rw same refl in
    c.set.ensures ∙ there ∙ all
