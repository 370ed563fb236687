-- The last values by their depth.
use Rattle.std.proofs.Common.{◌≡◌, List, [], ◌∷◌, refl}
use Rattle.ext_mean.specs.declared.state.Value.{Value}
use Rattle.gen_code.specs.Machine.{below, top}
use Rattle.gen_vm.specs.Depths.{at_depth}

pub at_depth-zero : (stack : List Value) → at_depth 0 stack ≡ top stack
at_depth-zero [] = refl
at_depth-zero (a ∷ stack) = refl

pub at_depth-one : (stack : List Value) → at_depth 1 stack ≡ top (below stack)
at_depth-one [] = refl
at_depth-one (a ∷ []) = refl
at_depth-one (a ∷ b ∷ stack) = refl

pub at_depth-two : (stack : List Value) → at_depth 2 stack ≡ top (below (below stack))
at_depth-two [] = refl
at_depth-two (a ∷ []) = refl
at_depth-two (a ∷ b ∷ []) = refl
at_depth-two (a ∷ b ∷ c ∷ stack) = refl

pub at_depth-three : (stack : List Value) → at_depth 3 stack ≡ top (below (below (below stack)))
at_depth-three [] = refl
at_depth-three (a ∷ []) = refl
at_depth-three (a ∷ b ∷ []) = refl
at_depth-three (a ∷ b ∷ c ∷ []) = refl
at_depth-three (a ∷ b ∷ c ∷ d ∷ stack) = refl

pub ruleset depths = (at_depth-zero, at_depth-one, at_depth-two, at_depth-three)
