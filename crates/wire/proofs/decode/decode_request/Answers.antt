use Rattle.std.proofs.Common.{◌≡◌, ◌-◌, length, sym, subst, ◌∙◌, arith}
use Rattle.wire.specs.Readers.{all_of}
use Rattle.wire.specs.Messages.{request_at}
use Rattle.wire.specs.Requests.{LongestRequest}
use Rattle.wire.proofs.Formats.{ok_is, ok_err}
use Rattle.wire.proofs.Asking.{request_found, request_again, request_longest}
use Rattle.wire.proofs.decode.decode_request.Goals as goal

pub returns-in-Ok-clause-found : goal.returns-in-Ok-clause-found
returns-in-Ok-clause-found c = request_found c.args.body.now c.in-Ok.message (λ i. omega (arith, c.type_inv.body i)) c.in-Ok.ensures

pub returns-in-Ok-clause-only : goal.returns-in-Ok-clause-only
returns-in-Ok-clause-only c = λ m s. ok_is c.in-Ok.message m (sym c.in-Ok.ensures ∙ request_again c.args.body.now m s)

pub returns-in-Err-Bad-clause-only : goal.returns-in-Err-Bad-clause-only
returns-in-Err-Bad-clause-only c = λ m s. ok_err (all_of request_at c.args.body.now) m c.in-Err-Bad.left (request_again c.args.body.now m s) (rw c.in-Err-Bad.field-0-is at c.in-Err-Bad.ensures)

pub returns-in-Err-Bad-clause-bad : goal.returns-in-Err-Bad-clause-bad
returns-in-Err-Bad-clause-bad c = λ at e short.
    let same : length c.args.body.now - c.in-Err-Bad.left ≡ at = sym (c.at_of.ensures short) ∙ cc in
    subst (LongestRequest c.args.body.now) same
    (request_longest c.args.body.now c.in-Err-Bad.left (λ i. omega (arith, c.type_inv.body i)) (rw c.in-Err-Bad.field-0-is at c.in-Err-Bad.ensures))
