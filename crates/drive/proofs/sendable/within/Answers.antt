-- Its fields fit, so it is short enough for a frame.
use Rattle.drive.proofs.Lengths.{answer-short}
use Rattle.drive.proofs.sendable.within.Goals as goal

pub returns : goal.returns
returns c = record {
  fits = c.fields_within.ensures;
  short = answer-short c.args.answer.now c.requires c.fields_within.ensures;
}
