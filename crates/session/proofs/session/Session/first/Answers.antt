-- Any other first request is out of turn.
use Rattle.std.proofs.Common.{sym, subst}
use Rattle.wire.specs.declared.requests.Request.{Request}
use Rattle.wire.specs.declared.requests.Request.TheVariants as request
use Rattle.session.specs.declared.fault.Fault.TheVariants as fault
use Rattle.session.specs.declared.plan.Plan.{Plan}
use Rattle.session.specs.declared.session.Session.{Session}
use Rattle.session.specs.Standing.{Planned}
use Rattle.session.specs.Steps as steps
use Rattle.session.proofs.Asking.{fault-planned, no-hello, out-of-turn}
use Rattle.session.proofs.session.Session.first.Goals as goal
use Rattle.session.proofs.session.Session.first.Goals.{in-Hello, in_default}

pub returns : goal.returns
returns c = λ journal stands.
    elim c.match-request.branch [
      | in-Hello w ↦
          subst (λ (m : Request). Planned c.args.self.now c.match-request.self c.args.book.now c.args.book.now journal m c.match-request.result) (sym w.in-Hello.is)
          (subst (λ (s : Session). Planned c.args.self.now s c.args.book.now c.args.book.now journal (request.Hello w.in-Hello.tenant w.in-Hello.key) c.match-request.result) (sym w.self-is)
          (subst (λ (p : Plan). Planned c.args.self.now w.hello.new.self c.args.book.now c.args.book.now journal (request.Hello w.in-Hello.tenant w.in-Hello.key) p) (sym w.result-is)
          (w.hello.ensures journal stands)))
      | in_default w ↦
          subst (λ (s : Session). Planned c.args.self.now s c.args.book.now c.args.book.now journal c.args.request c.match-request.result) (sym w.self-is)
          (subst (λ (p : Plan). Planned c.args.self.now w.stop.new.self c.args.book.now c.args.book.now journal c.args.request p) (sym w.result-is)
          (subst (λ (p : Plan). Planned c.args.self.now w.stop.new.self c.args.book.now c.args.book.now journal c.args.request p) (sym w.stop.ensures.told)
          (fault-planned c.args.self.now w.stop.new.self c.args.book.now journal c.args.request fault.OutOfTurn stands
          (c.requires.fits journal stands) w.stop.ensures.ended
          (λ state was. steps.out_of_turn c.args.request
          (out-of-turn c.args.self.now state c.args.request was c.requires.first (no-hello c.args.request w.in_default.not-Hello))))))
    ]
