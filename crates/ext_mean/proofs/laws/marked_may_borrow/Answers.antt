-- The law is proved for all lists of gifts.
use Rattle.ext_mean.proofs.Borrowers.{marked-may-borrow}
use Rattle.ext_mean.proofs.laws.marked_may_borrow.Goals as goal

pub returns : goal.returns
returns c = marked-may-borrow
