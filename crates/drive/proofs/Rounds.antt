-- The turns of a batch, one more each time, over a journal that grows.
use Rattle.std.proofs.Common.{◌≡◌, ◌+◌, ℕ, List, ◌∷◌, ◌++◌, refl, subst, ap, ◌∙◌, append_assoc}
use Rattle.sp_base.specs.declared.calls.Policy.{Policy}
use Rattle.sp_base.specs.declared.numbers.TableId.{TableId}
use Rattle.task.specs.declared.phase.Phase.TheVariants.{Waiting}
use Rattle.task.specs.Turning.{Live, given, turn_of}
use Rattle.journal.specs.declared.entry.Entry.{Entry}
use Rattle.book.specs.declared.ends.CallEnd.{CallEnd}
use Rattle.book.specs.Verdict.{item_at}
use Rattle.session.specs.declared.plan.Begun.{Begun}
use Rattle.drive.specs.declared.pushing.Placement.{Placement}
use Rattle.drive.specs.declared.running.Passed.{Passed}
use Rattle.drive.specs.declared.running.Passed.TheVariants as passed
use Rattle.drive.specs.Placing.{handed_by, placed_turn}
use Rattle.drive.specs.Running.{HasPassed, IsNoted}
use Rattle.drive.specs.Turns as turning
use Rattle.drive.specs.Turns.{IsGiven, IsTurn, Turns, placement_before}

-- ---- One turn

-- the call that waits gets its record
pub read-turn : (quantum : ℕ) (journal : List Entry) (live mid : Live) (table : TableId) (key : List ℕ) (made : Passed) → mid ≡ turn_of live quantum
    → mid.phase ≡ Waiting table key → IsGiven journal mid table key made → IsTurn quantum journal live made
read-turn quantum journal live mid table key (passed.GoesOn next) is waits given_so =
    turning.has_read table key (subst (λ (l : Live). l.phase ≡ Waiting table key) is waits)
    (given_so ∙ ap (λ (l : Live). given l (item_at journal table key)) is)
read-turn quantum journal live mid table key (passed.Ends end) is waits given_so = given_so

-- the call has ended, and is not handed back
pub end-turn : (quantum : ℕ) (journal : List Entry) (live : Live) (made : Passed) → HasPassed made → handed_by made ≡ 0 → IsTurn quantum journal live made
end-turn quantum journal live (passed.GoesOn next) ended here = absurd ended
end-turn quantum journal live (passed.Ends end) ended here = here

-- ---- All turns

turns-longer : (policy : Policy) (quantum room : ℕ) (journal more : List Entry) (begun : List Begun) (left : ℕ) (live : List Begun) (ends : List CallEnd)
    → Turns policy quantum room journal begun left live ends → Turns policy quantum room (journal ++ more) begun left live ends
turns-longer policy quantum room journal more begun left live ends turning.none_yet = turning.none_yet
turns-longer policy quantum room journal more begun left live ends
    (turning.one_more before one rest came now later turned left_then live_then ends_then turns whole turn noted fewer) =
    turning.one_more before one rest came now (later ++ more) turned left_then live_then ends_then
    (turns-longer policy quantum room journal more begun before (one ∷ rest) came turns)
    (ap (λ (j : List Entry). j ++ more) whole ∙ append_assoc now later more) turn noted fewer

-- one turn more, with what the placement rule makes of it
pub turns-noted : (policy : Policy) (quantum room : ℕ) (journal later : List Entry) (begun : List Begun) (left : ℕ) (live : List Begun) (one : Begun) (rest : List Begun) (ends : List CallEnd)
    (turned given_so : Passed) (placement : Placement) (left_then : ℕ) (live_then : List Begun) (ends_then : List CallEnd)
    → live ≡ one ∷ rest → placement ≡ placement_before policy rest left → given_so ≡ placed_turn placement turned
    → Turns policy quantum room journal begun left live ends → IsTurn quantum journal one.task turned
    → IsNoted rest ends one.place given_so live_then ends_then → left_then + handed_by given_so ≡ left
    → Turns policy quantum room (journal ++ later) begun left_then live_then ends_then
turns-noted policy quantum room journal later begun left live one rest ends turned given_so placement left_then live_then ends_then first placing is turns turn noted fewer =
    let made : given_so ≡ placed_turn (placement_before policy rest left) turned = is ∙ ap (λ (p : Placement). placed_turn p turned) placing in
    turning.one_more left one rest ends journal later turned left_then live_then ends_then
    (turns-longer policy quantum room journal later begun left (one ∷ rest) ends
    (subst (λ (list : List Begun). Turns policy quantum room journal begun left list ends) first turns))
    refl turn
    (subst (λ (p : Passed). IsNoted rest ends one.place p live_then ends_then) made noted)
    (subst (λ (p : Passed). left_then + handed_by p ≡ left) made fewer)
