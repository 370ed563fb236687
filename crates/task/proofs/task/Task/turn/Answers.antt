-- The machine answers what the meaning with the units of the turn says. Where an earlier turn found no
-- memory it may stand behind these units, which are then spent.
use Rattle.std.proofs.Common.{◌≡◌, ◌<◌, sym, ap, ◌∙◌, subst, arith}
use Rattle.std.specs.Arc.{arc_value}
use Rattle.ext_mean.specs.declared.run.Run.TheVariants.{Spent}
use Rattle.gen_code.specs.declared.code.Code.{Code}
use Rattle.gen_code.specs.Does.{Does}
use Rattle.gen_vm.specs.declared.paused.Paused.TheVariants as paused
use Rattle.gen_vm.specs.Standing.{Stands}
use Rattle.task.specs.declared.phase.Phase.TheVariants.{Ready}
use Rattle.task.specs.Following.{live_of}
use Rattle.task.specs.Turning.{Live, meaning_with, turn_of, units_of_turn}
use Rattle.task.proofs.Machines.{meaning-same, past-spent}
use Rattle.task.proofs.Stepping.{ends-follows, ends-turn, goes-ready, turn-task, wants-follows, wants-turn}
use Rattle.task.proofs.task.Task.turn.Goals as goal

pub run_out-requires-clause-spent : goal.run_out-requires-clause-spent
run_out-requires-clause-spent c =
    let inside = c.self.inside in
    let live : Live = live_of inside.call (arc_value inside.ext) inside.rights inside.reads inside.spent inside.killed inside.run in
    let ready : live.phase ≡ Ready = ap (λ (l : Live). l.phase) c.self.view_is ∙ c.requires.ready in
    let used = c.used.ensures in
    let below = c.if-units-used.true in
    let past : c.units-units.result < inside.run.here.used = omega (arith, used, below) in
    subst (λ (l : Live). meaning_with l c.units-units.result ≡ Spent) c.self.view_is
    (past-spent (arc_value inside.code) live inside.run c.self.invariant.2 c.units-units.result (goes-ready live ready) past)

pub run_out-requires-in-Out-clause-spent : goal.run_out-requires-in-Out-clause-spent
run_out-requires-in-Out-clause-spent c =
    let inside = c.self.inside in
    let live : Live = live_of inside.call (arc_value inside.ext) inside.rights inside.reads inside.spent inside.killed inside.run in
    let follows = c.self.invariant.2 in
    let does : Does c.deref.result.now (arc_value inside.ext).program = rw c.deref.ensures follows.does in
    sym (meaning-same (arc_value inside.code) live inside.run follows c.units-units.result)
    ∙ c.in-Out.ensures.answer (arc_value inside.ext).program does

pub invariant_of-self : goal.invariant_of-self
invariant_of-self c =
    let inside = c.self.inside in
    let code = arc_value inside.code in
    let ext = arc_value inside.ext in
    let live : Live = live_of inside.call ext inside.rights inside.reads inside.spent inside.killed inside.run in
    let ready : live.phase ≡ Ready = ap (λ (l : Live). l.phase) c.self.view_is ∙ c.requires.ready in
    let units : c.units-units.result ≡ units_of_turn live c.args.quantum =
    c.units-units.ensures ∙ ap (λ (l : Live). units_of_turn l c.args.quantum) (sym c.self.view_is) in
    let follows = c.self.invariant.2 in
    let does : Does c.deref.result.now ext.program = rw c.deref.ensures follows.does in
    let said = c.in-Wants.ensures.answer ext.program does in
    let is = wants-turn code inside.call ext inside.rights inside.reads inside.spent inside.killed inside.run c.resume.new.self c.units-units.result c.args.quantum
    follows ready units c.in-Wants.table c.in-Wants.key c.used-self-inside.result c.in-Wants.ensures.told said c.used-self-inside.ensures in
    let stands : Stands c.deref.result.now c.resume.new.self =
    c.in-Wants.ensures.stands (λ e. let clash : paused.Wants c.in-Wants.table c.in-Wants.key ≡ paused.Ended = e in cc) in
    let there : Stands code c.resume.new.self = subst (λ (k : Code). Stands k c.resume.new.self) c.deref.ensures stands in (
      turn-task code inside.call ext inside.rights inside.reads inside.spent inside.killed inside.run c.resume.new.self c.units-units.result c.args.quantum
          follows ready units c.used-self-inside.result is c.self.invariant.0,
      c.self.invariant.1,
      wants-follows code inside.call ext inside.rights inside.reads inside.spent inside.killed inside.run c.resume.new.self c.units-units.result c.args.quantum
          follows ready units c.used-self-inside.result c.in-Wants.ensures.resumes there,
    )

pub invariant_of-self-in-Ended : goal.invariant_of-self-in-Ended
invariant_of-self-in-Ended c =
    let inside = c.self.inside in
    let code = arc_value inside.code in
    let ext = arc_value inside.ext in
    let live : Live = live_of inside.call ext inside.rights inside.reads inside.spent inside.killed inside.run in
    let ready : live.phase ≡ Ready = ap (λ (l : Live). l.phase) c.self.view_is ∙ c.requires.ready in
    let units : c.units-units.result ≡ units_of_turn live c.args.quantum =
    c.units-units.ensures ∙ ap (λ (l : Live). units_of_turn l c.args.quantum) (sym c.self.view_is) in
    let follows = c.self.invariant.2 in
    let does : Does c.deref.result.now ext.program = rw c.deref.ensures follows.does in
    let said = c.in-Ended.ensures.answer ext.program does in
    let is = ends-turn code inside.call ext inside.rights inside.reads inside.spent inside.killed inside.run c.resume.new.self c.units-units.result c.args.quantum
    follows ready units said in (
      turn-task code inside.call ext inside.rights inside.reads inside.spent inside.killed inside.run c.resume.new.self c.units-units.result c.args.quantum
          follows ready units inside.spent is c.self.invariant.0,
      c.self.invariant.1,
      ends-follows code inside.call ext inside.rights inside.reads inside.spent inside.killed inside.run c.resume.new.self c.units-units.result c.args.quantum
          follows ready units c.in-Ended.ensures.resumes c.in-Ended.ensures.told,
    )

pub returns-in-Wants-clause-turn : goal.returns-in-Wants-clause-turn
returns-in-Wants-clause-turn c = λ _.
    let inside = c.self.inside in
    let ext = arc_value inside.ext in
    let live : Live = live_of inside.call ext inside.rights inside.reads inside.spent inside.killed inside.run in
    let ready : live.phase ≡ Ready = ap (λ (l : Live). l.phase) c.self.view_is ∙ c.requires.ready in
    let units : c.units-units.result ≡ units_of_turn live c.args.quantum =
    c.units-units.ensures ∙ ap (λ (l : Live). units_of_turn l c.args.quantum) (sym c.self.view_is) in
    let follows = c.self.invariant.2 in
    let does : Does c.deref.result.now ext.program = rw c.deref.ensures follows.does in
    let said = c.in-Wants.ensures.answer ext.program does in
    wants-turn (arc_value inside.code) inside.call ext inside.rights inside.reads inside.spent inside.killed inside.run c.resume.new.self c.units-units.result c.args.quantum
    follows ready units c.in-Wants.table c.in-Wants.key c.used-self-inside.result c.in-Wants.ensures.told said c.used-self-inside.ensures
    ∙ ap (λ (l : Live). turn_of l c.args.quantum) c.self.view_is

pub returns-in-Ended-clause-turn : goal.returns-in-Ended-clause-turn
returns-in-Ended-clause-turn c = λ _.
    let inside = c.self.inside in
    let ext = arc_value inside.ext in
    let live : Live = live_of inside.call ext inside.rights inside.reads inside.spent inside.killed inside.run in
    let ready : live.phase ≡ Ready = ap (λ (l : Live). l.phase) c.self.view_is ∙ c.requires.ready in
    let units : c.units-units.result ≡ units_of_turn live c.args.quantum =
    c.units-units.ensures ∙ ap (λ (l : Live). units_of_turn l c.args.quantum) (sym c.self.view_is) in
    let follows = c.self.invariant.2 in
    let does : Does c.deref.result.now ext.program = rw c.deref.ensures follows.does in
    ends-turn (arc_value inside.code) inside.call ext inside.rights inside.reads inside.spent inside.killed inside.run c.resume.new.self c.units-units.result c.args.quantum
    follows ready units (c.in-Ended.ensures.answer ext.program does)
    ∙ ap (λ (l : Live). turn_of l c.args.quantum) c.self.view_is
