-- The installation is answered as the book does.
use Rattle.std.proofs.Common.{sym, subst, ◌∙◌}
use Rattle.wire.specs.declared.answers.Answer.TheVariants as answer
use Rattle.wire.specs.declared.answers.InstallAnswer.{InstallAnswer}
use Rattle.wire.specs.declared.requests.Request.TheVariants as request
use Rattle.session.specs.declared.plan.Plan.TheVariants as plan
use Rattle.session.specs.Standing.{Planned}
use Rattle.session.proofs.Putting.{install-planned}
use Rattle.session.proofs.session.Session.install.Goals as goal

pub returns-clause-planned : goal.returns-clause-planned
returns-clause-planned c = λ journal stands.
    subst (λ (told : InstallAnswer). Planned c.args.self.now c.show_install.new.self c.args.book.now c.install-installed.new.self journal
    (request.Install c.args.ext.text) (plan.Send (answer.Installed told))) (sym c.install_told.ensures)
    (install-planned c.args.self.now c.show_install.new.self c.args.book.now c.install-installed.new.self journal c.in-Some.tenant c.args.ext.text c.args.ext.program
    c.install-installed.result c.len.result c.requires.open (c.requires.fits journal stands) (sym c.tenant.ensures ∙ c.in-Some.is)
    c.install-installed.ensures.fixed c.program-accepted.ensures.accepted (c.install-installed.ensures.answer journal stands)
    (c.install-installed.ensures.stands journal stands) (c.len.ensures _ (c.install-installed.ensures.stands journal stands)) c.show_install.ensures)
