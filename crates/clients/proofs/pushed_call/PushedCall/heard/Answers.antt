-- The client sends what the program leads to, and carries the same call still.
use Rattle.clients.specs.Client.{at_client}
use Rattle.clients.proofs.Heard.{heard-carries, heard-same, sent-heard}
use Rattle.client_core.specs.declared.next.Next.TheVariants.{Send}
use Rattle.clients.proofs.pushed_call.PushedCall.heard.Goals as goal

pub invariant_of-result : goal.invariant_of-result
invariant_of-result c =
    let client = c.args.client in
    let after = c.on_answer.new.self in
    let heard = sent-heard client after c.args.answer c.on_answer.result c.in-Send.sent c.on_answer.ensures.hears c.in-Send.is in
    heard-carries c.args.parked client after c.args.answer c.in-Send.sent c.requires.carried c.requires.runs heard

pub returns-in-Send : goal.returns-in-Send
returns-in-Send c =
    let client = c.args.client in
    let after = c.on_answer.new.self in
    let heard = sent-heard client after c.args.answer c.on_answer.result c.in-Send.sent c.on_answer.ensures.hears c.in-Send.is in
    heard-same c.args.parked client after c.args.answer (at_client c.args.parked client) (Send c.in-Send.sent) c.requires.runs heard
