-- A text is made an extension, or refused; before a Hello it is out of turn.
use Rattle.std.proofs.Common.{ℕ, List, refl, sym, subst, ap}
use Rattle.wire.specs.declared.answers.Answer.{Answer}
use Rattle.wire.specs.declared.answers.Answer.TheVariants as answer
use Rattle.wire.specs.declared.answers.InstallAnswer.TheVariants as installed
use Rattle.wire.specs.declared.requests.Request.TheVariants as request
use Rattle.session.specs.Standing.{Refused}
use Rattle.session.proofs.Asking.{admitted-none, admitted-some, refused-by-fault, refused-memory, refused-text}
use Rattle.session.proofs.session.Session.make.Goals as goal

pub returns-then-is_none-clause-refused : goal.returns-then-is_none-clause-refused
returns-then-is_none-clause-refused c =
    subst (λ (a : Answer). Refused c.args.self.now c.end.new.self (request.Install c.args.text.now) a) (sym c.end.ensures.told)
    (refused-by-fault c.args.self.now c.end.new.self (request.Install c.args.text.now) (admitted-none c.args.self.now.admitted c.if-is_none.ensures) refl c.end.ensures.ended)

pub returns-in-Ok-clause-asked : goal.returns-in-Ok-clause-asked
returns-in-Ok-clause-asked c = record {
  stands_for = ap (λ (text : List ℕ). request.Install text) c.in-Ok.ensures.accepted.text_is;
  admitted = refl;
  asked = admitted-some c.args.self.now.admitted c.if-is_none.ensures;
  ready = c.requires.open;
  still = λ state was. was;
  fits = λ journal grants fits. fits;
  ask_fits = λ journal grants fits. tt;
  conf = refl;
}

pub returns-in-Err-Rejected-clause-refused : goal.returns-in-Err-Rejected-clause-refused
returns-in-Err-Rejected-clause-refused c =
    let tenant = admitted-some c.args.self.now.admitted c.if-is_none.ensures in
    let is = rw c.in-Err-Rejected.field-0-is at c.in-Err-Rejected.ensures.refused in
    subst (λ (n : ℕ). Refused c.args.self.now c.args.self.now (request.Install c.args.text.now) (answer.Installed (installed.Rejected c.in-Err-Rejected.line n))) (sym c.number.ensures)
    (refused-text c.args.self.now tenant.0 c.args.text.now c.in-Err-Rejected.line c.in-Err-Rejected.code c.requires.open tenant.1 is)

pub returns-in-Err-Memory-clause-refused : goal.returns-in-Err-Memory-clause-refused
returns-in-Err-Memory-clause-refused c =
    let tenant = admitted-some c.args.self.now.admitted c.if-is_none.ensures in
    refused-memory c.args.self.now tenant.0 c.args.text.now c.requires.open tenant.1
