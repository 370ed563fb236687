use Rattle.std.proofs.Common.{◌∙◌, ℕ, List, below_more, refl, subst, sym}
use Rattle.gen_code.specs.declared.code.CodeFn.{CodeFn}
use Rattle.gen_code.specs.Sound.{IsSoundFn}
use Rattle.gen_code.proofs.SoundLemmas.{SoundAt, all-sound, not-sound, sound-item}
use Rattle.gen_code.proofs.sound.is_sound.Goals as goal

pub loop-function-preserved : goal.loop-function-preserved
loop-function-preserved c =
    let functions = c.as_slice-function-items.result.now in
    let function = c.function-item.result in
    let sound = subst IsSoundFn c.as_slice.ensures (c.is_sound_function.ensures.0 c.if-not-is_sound_function.false) in
    below_more (SoundAt functions) _ c.loop-function.invariant
    (sound-item functions c.loop-function.function-index function c.loop-function-test.true c.function-item.is sound)

pub returns-then-not-is_sound_function : goal.returns-then-not-is_sound_function
returns-then-not-is_sound_function c =
    let functions = c.as_slice-function-items.result.now in
    let function = c.function-item.result in (
      λ h. cc,
      λ sound.
          let all = subst (λ (l : List CodeFn). (number : ℕ) → SoundAt l number) (sym c.as_slice-function-items.ensures) sound in
          let own = not-sound functions c.loop-function.function-index function c.loop-function-test.true c.function-item.is all in
          sym c.if-not-is_sound_function.true ∙ c.is_sound_function.ensures.1 (subst IsSoundFn (sym c.as_slice.ensures) own),
    )

pub returns : goal.returns
returns c =
    let functions = c.as_slice-function-items.result.now in (
      λ _. subst (λ (l : List CodeFn). (number : ℕ) → SoundAt l number) c.as_slice-function-items.ensures
          (all-sound functions c.loop-function.function-index c.loop-function-test.false c.loop-function.invariant),
      λ _. refl,
    )
