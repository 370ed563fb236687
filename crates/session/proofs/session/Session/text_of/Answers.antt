-- The text's answer is sent.
use Rattle.session.proofs.Telling.{text-planned}
use Rattle.session.proofs.session.Session.text_of.Goals as goal

pub returns : goal.returns
returns c = λ journal stands.
    text-planned c.args.self.now c.show_text.new.self c.args.book.now journal c.args.tenant c.args.ext.0 c.text-told.result
    c.requires.open (c.requires.fits journal stands) c.requires.admitted stands (c.text-told.ensures.told journal stands) c.text-told.ensures.within c.show_text.ensures
