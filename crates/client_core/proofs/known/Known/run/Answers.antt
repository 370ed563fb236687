-- The end of a run that came to its end is sayable.
use Rattle.std.proofs.Common.{◌≡◌, rules, arith, ap, subst, ℕ}
use Rattle.sp_base.specs.Spelling.{IsU32, IsU64}
use Rattle.sp_base.specs.declared.outcomes.Outcome.TheVariants as outcomes
use Rattle.ext_mean.specs.declared.run.Run.TheVariants as run
use Rattle.ext_mean.specs.Meaning.{mean}
use Rattle.ext_mean.specs.Outcomes.{changes_of, outcome_of}
use Rattle.ext_mean.specs.Views.{part}
use Rattle.client_core.proofs.Sayings.{run-sayable}
use Rattle.client_core.proofs.known.Known.run.Goals as goal

pub returns-in-Done-clause-sayable : goal.returns-in-Done-clause-sayable
returns-in-Done-clause-sayable c =
    let carried = c.args.carried in
    let is : mean c.args.program.now carried.call.args carried.call.budget (part carried.reads c.args.self.now.rights)
    ≡ run.Done c.in-Done.reply c.in-Done.writes c.in-Done.used = first_of ((cc), search rules) in
    let caller : IsU32 carried.call.caller.number = first_of (omega arith, search rules) in
    let number : IsU64 carried.call.number.0 = first_of (omega arith, search rules) in
    let code : IsU64 c.in-Done.reply.code = first_of (omega arith, search rules) in
    rw c.finishing.ensures
    (run-sayable c.args.self.now carried c.args.program.now (run.Done c.in-Done.reply c.in-Done.writes c.in-Done.used) c.requires caller number code is)
