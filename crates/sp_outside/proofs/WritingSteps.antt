-- Steps of writing a text, piece by piece.
use Rattle.std.proofs.Common.{◌≡◌, ℕ, ◌+◌, ◌<◌, ◌≤◌, List, ◌++◌, length, take, drop, Option, Some, None, IfSome, sym, ◌∙◌, ap, subst, append_assoc, append-nil}
use Rattle.std.proofs.Math.Seq.{take-add}
use Rattle.std.proofs.lemmas.List.{take_all}
use Rattle.sp_outside.specs.Writing.{HoldsPrefix}

-- the first bytes of the text stand behind what was held
abbrev pub HasWritten : Option (List ℕ) → Option (List ℕ) → List ℕ → ℕ → Type 0
HasWritten before now text done = IfSome before (λ held. now ≡ Some (held ++ take done text))

-- at first none do
pub written_none : (a : Option (List ℕ)) (text : List ℕ) → HasWritten a a text 0
written_none None text = tt
written_none (Some held) text = ap Some (sym (append-nil held))

-- n more bytes are taken
pub written_more : (a b c : Option (List ℕ)) (text piece : List ℕ) (done n : ℕ) → piece ≡ drop done text
    → HasWritten a b text done → IfSome b (λ held. c ≡ Some (held ++ take n piece))
    → HasWritten a c text (done + n)
written_more None b c text piece done n e before more = tt
written_more (Some held) b c text piece done n e before more =
    let P : Option (List ℕ) → Type 0 = λ o. IfSome o (λ xs. c ≡ Some (xs ++ take n piece)) in
    let here : c ≡ Some ((held ++ take done text) ++ take n piece) = subst P before more in
    let joined : take done text ++ take n piece ≡ take (done + n) text =
    ap (λ xs. take done text ++ take n xs) e ∙ sym (take-add done n text) in
    here ∙ ap Some (append_assoc held (take done text) (take n piece) ∙ ap (λ xs. held ++ xs) joined)

-- all are taken
pub written_whole : (a b : Option (List ℕ)) (text : List ℕ) (done : ℕ) → length text ≤ done
    → HasWritten a b text done → IfSome a (λ held. b ≡ Some (held ++ text))
written_whole None b text done all before = tt
written_whole (Some held) b text done all before = before ∙ ap (λ xs. Some (held ++ xs)) (take_all done text all)

-- a call takes nothing
pub written_failed : (a b c : Option (List ℕ)) (text : List ℕ) (done : ℕ) → done < length text
    → HasWritten a b text done → IfSome b (λ held. c ≡ Some held) → IfSome a (λ held. HoldsPrefix held text c)
written_failed None b c text done short before same = tt
written_failed (Some held) b c text done short before same =
    let P : Option (List ℕ) → Type 0 = λ o. IfSome o (λ xs. c ≡ Some xs) in
    record { taken = done; short = short; prefix = subst P before same }
