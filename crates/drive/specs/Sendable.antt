-- Answers that may be sent.
use Rattle.sp_base.specs.Limits.{IsBody}
use Rattle.wire.specs.Answers as spelling
use Rattle.wire.specs.Answers.{FitsAnswer}
use Rattle.wire.specs.declared.answers.Answer.{Answer}

-- each field is within its range, and the whole within the limit of frames
pub record IsSendable (given : Answer) : Type 0 where
  pub fits : FitsAnswer given
  pub short : IsBody (spelling.answer given)
