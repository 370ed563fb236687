-- The record, or why it is not told, is sent.
use Rattle.std.proofs.Common.{List, subst}
use Rattle.task.specs.Parking.{ParkedCall}
use Rattle.session.specs.Fetching.{HasFetched}
use Rattle.session.proofs.Fetching.{fetch-planned, fetched-so}
use Rattle.session.proofs.session.Session.fetch.Goals as goal

pub returns : goal.returns
returns c = λ journal stands.
    let so = fetched-so c.args.self.now c.fetched-told.new.self c.show_fetch.new.self c.fetched-told.result c.fetched-told.ensures.same c.show_fetch.ensures in
    fetch-planned c.args.self.now c.show_fetch.new.self c.args.book.now journal c.args.tenant c.args.caller c.args.number.0 c.args.table c.args.key c.fetched-told.result
    c.requires.open (c.requires.fits journal stands) c.requires.admitted stands
    (subst (λ (l : List ParkedCall). HasFetched c.args.book.now.grants c.args.tenant journal c.args.self.now.parked l c.args.caller c.args.number.0 c.args.table c.args.key c.fetched-told.result)
    so.0 (c.fetched-told.ensures.told journal stands))
    c.fetched-told.ensures.within so.1
