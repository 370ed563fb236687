-- A run that is fed may go on.
use Rattle.std.proofs.Common.{◌≡◌, ◌≢◌, ◌≤◌, ap, sym, subst, ◌∙◌}
use Rattle.gen_vm.specs.Answers.{Tells}
use Rattle.gen_vm.specs.Running.{Running, fed_with}
use Rattle.gen_vm.specs.Standing.{Stands}
use Rattle.gen_vm.specs.declared.paused.Paused.{Paused}
use Rattle.gen_vm.specs.declared.paused.Paused.TheVariants as paused
use Rattle.gen_vm.specs.declared.phase.Phase.{Phase}
use Rattle.gen_vm.specs.declared.phase.Phase.TheVariants.{Waiting}
use Rattle.code_tests.proofs.machine.Case.by_machine.Goals as goal

pub pauses-preserved : goal.pauses-preserved
pauses-preserved c =
    let code = c.args.self.now.code in
    let run : Running = c.resume-paused.new.self in
    let unended : c.resume-paused.result ≢ paused.Ended =
    λ ended. (let clash : paused.Wants c.in-Wants.table c.in-Wants.key ≡ paused.Ended = sym c.in-Wants.is ∙ ended in cc) in
    let waits : run.phase ≡ Waiting c.in-Wants.table c.in-Wants.key =
    subst (λ (answer : Paused). Tells answer run.phase) c.in-Wants.is c.resume-paused.ensures.told in
    let fed : c.feed.new.self ≡ fed_with c.in-Some.field-0.value (Waiting c.in-Wants.table c.in-Wants.key) run =
    c.feed.ensures.fed ∙ ap (λ (phase : Phase). fed_with c.in-Some.field-0.value phase run) waits in
    record {
      stands = c.feed.ensures.stands code (c.resume-paused.ensures.stands unended);
      ready = ap (λ (next : Running). next.phase) fed;
      used = subst (λ (next : Running). next.here.used ≤ c.pauses.limit) (sym fed) c.resume-paused.ensures.resumes.within;
      room = c.pauses.invariant.room;
      budget = ap (λ (next : Running). next.budget) fed ∙ c.resume-paused.ensures.resumes.budget ∙ c.pauses.invariant.budget;
    }
