-- The push is an answer in turn to the client that asked the call.
use Rattle.std.proofs.Common.{List, [], ◌∷◌, ap, ◌∙◌, subst}
use Rattle.sp_base.specs.declared.reads.ReadItem.{ReadItem}
use Rattle.rw_set.specs.ReadLists.{IsReadList}
use Rattle.task.specs.Extensions.{ExtValue}
use Rattle.wire.specs.declared.answers.Answer.TheVariants.{Answers}
use Rattle.wire.specs.declared.items.Item.TheVariants as item
use Rattle.clients.specs.Client.{allowed, asking}
use Rattle.clients.proofs.Pushing.{push-heard, pushed-carried}
use Rattle.clients.proofs.pushed_call.PushedCall.of.Goals as goal

pub heard-requires-clause-carried : goal.heard-requires-clause-carried
heard-requires-clause-carried c =
    pushed-carried c.args.task c.of-parked.result c.in_ok-call.call _ c.in_ok-client.client c.args.rights c.spent-spent.ensures.kept
    c.of-parked.ensures c.in_ok-client.ensures c.requires

pub heard-requires-clause-runs : goal.heard-requires-clause-runs
heard-requires-clause-runs c =
    let kept = c.of-parked.result in
    let call = c.in_ok-call.call in
    let spent = c.spent-spent.result in
    let client = c.in_ok-client.ensures ∙ ap (λ (ext : ExtValue). asking call ext.program c.args.rights) c.ext.ensures in
    let reads = subst IsReadList c.reads.ensures c.in_ok-answer.ensures.kept in
    let told = c.in_ok-answer.ensures.answer ∙ ap (λ (reads : List ReadItem). Answers (item.Pushed 0 spent reads ∷ [])) c.reads.ensures in
    push-heard c.args.task kept call c.in_ok-client.client c.args.rights spent c.in_ok-answer.answer c.spent-spent.ensures.kept c.of-parked.ensures
    (c.in_ok-call.ensures ∙ ap allowed c.call.ensures) client reads told
