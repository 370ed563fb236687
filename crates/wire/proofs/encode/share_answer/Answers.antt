use Rattle.std.proofs.Common.{◌≡◌, ◌∙◌}
use Rattle.wire.specs.Answers.{answer, SpellsAnswer}
use Rattle.wire.proofs.Framed.{body_of, frame_long}
use Rattle.wire.proofs.encode.share_answer.Goals as goal

pub split_at-requires : goal.split_at-requires
split_at-requires c = frame_long c.bytes.result.now (answer c.args.message.now) (c.bytes.ensures ∙ c.in_ok-frame.ensures)

pub returns-in-Ok : goal.returns-in-Ok
returns-in-Ok c =
    let body : c.split_at.result.1.now ≡ answer c.args.message.now = c.split_at.ensures.back ∙ body_of c.bytes.result.now (answer c.args.message.now) (c.bytes.ensures ∙ c.in_ok-frame.ensures) in
    let spells : SpellsAnswer c.split_at.result.1.now c.args.message.now = record { fits = c.requires.fits; spelled = body } in
    c.in-Ok.ensures.only c.args.message.now spells

pub unreachable-requires : goal.unreachable-requires
unreachable-requires c =
    let body : c.split_at.result.1.now ≡ answer c.args.message.now = c.split_at.ensures.back ∙ body_of c.bytes.result.now (answer c.args.message.now) (c.bytes.ensures ∙ c.in_ok-frame.ensures) in
    let spells : SpellsAnswer c.split_at.result.1.now c.args.message.now = record { fits = c.requires.fits; spelled = body } in
    let bad = c.in-Err-Bad.ensures.only c.args.message.now spells in
    let same = c.in-Err-Bad.field-0-is in
    cc
