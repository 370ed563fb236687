use Rattle.std.proofs.Common.{◌∙◌, below_more, refl, sym}
use Rattle.gen_code.proofs.SoundLemmas.{LandsAt, all-land, lands-jump, lands-none}
use Rattle.gen_code.proofs.sound.is_sound_function.Goals as goal
use Rattle.gen_code.proofs.sound.is_sound_function.Goals.{in-Some+else-not-lands, in_default}

pub loop-pc-preserved : goal.loop-pc-preserved
loop-pc-preserved c =
    let ops = c.args.ops.now in
    let op = c.index-ops-pc.result in
    below_more (LandsAt ops) _ c.loop-pc.invariant (elim c.match-jump_of.branch [
      | in-Some+else-not-lands w ↦
          lands-jump ops c.loop-pc.pc op w.in-Some.target c.loop-pc-test.true c.index-ops-pc.is (sym w.in-Some.is ∙ c.jump_of.ensures) (w.lands.ensures.0 w.if-not-lands.false)
      | in_default w ↦
          lands-none ops c.loop-pc.pc op c.loop-pc-test.true c.index-ops-pc.is (sym w.in_default.is ∙ c.jump_of.ensures)
    ])

pub returns : goal.returns
returns c = (λ _. all-land c.args.ops.now c.loop-pc.pc c.loop-pc-test.false c.loop-pc.invariant, λ _. refl)
