-- The book is not audited.
use Rattle.std.proofs.Common.{◌≡◌, false}
use Rattle.session_tests.proofs.random.spoiled_frames_are_answered.Given as goal

abbrev pub invariant-rounds : goal.invariant-rounds
invariant-rounds g l = l.book.audit ≡ false

abbrev pub invariant-bodies : goal.invariant-bodies
invariant-bodies g l = l.book.audit ≡ false
