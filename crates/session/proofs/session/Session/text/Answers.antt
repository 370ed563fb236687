-- The text is the one that the journal has, or there is none.
use Rattle.std.proofs.Common.{ap, sym, ◌∙◌, Some}
use Rattle.task.specs.Extensions.{ExtValue}
use Rattle.session.specs.Steps as steps
use Rattle.session.proofs.Telling.{text-is, text-is-absent}
use Rattle.session.proofs.session.Session.text.Goals as goal

pub returns-in-Ok-Some-clause-told : goal.returns-in-Ok-Some-clause-told
returns-in-Ok-Some-clause-told c = λ journal stands seen by.
    let found = rw c.in-Ok-Some.field-0-is at (c.in-Ok-Some.ensures journal stands) in
    text-is c.args.tenant journal seen c.args.ext.0 c.deref.result.now.text c.share_text.result by
    (sym found ∙ ap (λ (ext : ExtValue). Some ext.text) (sym c.deref.ensures)) c.share_text.ensures.told

pub returns-in-Ok-None-clause-told : goal.returns-in-Ok-None-clause-told
returns-in-Ok-None-clause-told c = λ journal stands seen by.
    let none = rw c.in-Ok-None.field-0-is at (c.in-Ok-None.ensures journal stands) in
    text-is-absent c.args.tenant journal seen c.args.ext.0 c.ext_count.result c.len.result by (sym none)
    (c.ext_count.ensures journal stands) (c.len.ensures journal stands)

pub returns-in-Err-clause-told : goal.returns-in-Err-clause-told
returns-in-Err-clause-told c = λ journal stands seen by. steps.no_text_memory
