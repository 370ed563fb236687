use Rattle.std.proofs.Common.{sym, ◌∙◌}
use Rattle.wire.proofs.Formats.{ok_is}
use Rattle.wire.proofs.Asking.{request_again}
use Rattle.wire.proofs.Replies.{answer_again}
use Rattle.wire.proofs.encode.one_message.Goals as goal

pub returns-clause-requests : goal.returns-clause-requests
returns-clause-requests c = λ body m n s t. ok_is m n (sym (request_again body m s) ∙ request_again body n t)

pub returns-clause-answers : goal.returns-clause-answers
returns-clause-answers c = λ body m n s t. ok_is m n (sym (answer_again body m s) ∙ answer_again body n t)
