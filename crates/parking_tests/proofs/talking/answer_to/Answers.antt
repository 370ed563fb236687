-- The request is short enough for a frame.
use Rattle.parking_tests.proofs.Lengths.{request-short}
use Rattle.parking_tests.proofs.talking.answer_to.Goals as goal

pub encode_request-requires-clause-short : goal.encode_request-requires-clause-short
encode_request-requires-clause-short c = request-short c.args.request.now c.requires.fits
