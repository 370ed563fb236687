-- A session that has heard nothing may be driven over a book that is audited as it is.
use Rattle.std.proofs.Common.{◌∙◌, ap, sym}
use Rattle.session.specs.declared.conf.SessionConf.{SessionConf}
use Rattle.short_memory.proofs.bench.opened.Goals as goal

pub returns : goal.returns
returns c = record {
  ready = c.new.ensures.open;
  fits = λ journal stands. c.new.ensures.fits journal c.args.book.now.grants;
  audit = ap (λ (conf : SessionConf). conf.audit) c.new.ensures.conf ∙ sym c.requires;
}
