-- What a list of records holds at a place, once a record was replaced, added or taken out.
use Rattle.std.specs.Prelude.{not, filter, position, cond, nat_lt, if◌then◌else◌}
use Rattle.std.specs.List.{position_or_len}
use Rattle.std.proofs.Common.{◌≡◌, ◌<◌, ◌≤◌, ℕ, zero, suc, Bool, true, false, List, [], ◌∷◌, ◌++◌, length, get_or, Option, Some, None, refl, sym, ◌∙◌, ap, subst, arith}
use Rattle.std.proofs.Math.ListN.{set}
use Rattle.std.proofs.lemmas.Grind.{common_steps}
use Rattle.std.proofs.lemmas.Bool.Decides.{nat_tests}
use Rattle.std.proofs.lemmas.List.Quantifiers.{position-Some}
use Rattle.std.proofs.lemmas.List.Sums.{fails_before_first}
use Rattle.sp_base.specs.Places.{Place, same_place}
use Rattle.records.specs.declared.stored.Stored.{Stored}
use Rattle.records.specs.Records.{Record, absent, held_at, is_at, put_record, stored_place}
use Rattle.records.proofs.Places.{same_place-true, same_place-refl}

-- of two records at one place the first is seen
same-one : (b c : Bool) (u v w : Record) → c ≡ b → (if b then u else w) ≡ (if b then u else (if c then v else w))
same-one true c u v w same = refl
same-one false true u v w same = (cc)
same-one false false u v w same = refl

-- of two records at different places each is seen at its own
apart-one : (b c : Bool) (u v w z : Record) → (b ≡ true → c ≡ true → ⊥) → z ≡ (if b then u else w)
    → (if c then v else z) ≡ (if b then u else (if c then v else w))
apart-one true true u v w z apart is = absurd (apart refl refl)
apart-one true false u v w z apart is = is
apart-one false true u v w z apart is = refl
apart-one false false u v w z apart is = is

-- two places that are not one are not both a third
not-both : (a b place : Place) → same_place a b ≡ false → same_place b place ≡ true → same_place a place ≡ true → ⊥
not-both a b place apart at_b at_a =
    let same : a ≡ b = same_place-true a place at_a ∙ sym (same_place-true b place at_b) in
    let one : same_place a b ≡ true = ap (λ (p : Place). same_place a p) (sym same) ∙ same_place-refl a in
    (cc)

held-replaced : (stored : List Stored) (i : ℕ) (next old : Stored) (target place : Place)
    → i < length stored → is_at target (get_or stored i old) ≡ true
    → ((k : ℕ) → k < i → is_at target (get_or stored k old) ≡ false)
    → stored_place next ≡ target
    → held_at (set stored i next) place
    ≡ (if same_place target place then put_record next.version next.value else held_at stored place)
held-replaced [] i next old target place within here before own = absurd (omega arith)
held-replaced (x ∷ rest) zero next old target place within here before own =
    ap (λ (p : Place). if same_place p place then put_record next.version next.value else held_at rest place) own
    ∙ same-one (same_place target place) (same_place (stored_place x) place) _ (put_record x.version x.value) (held_at rest place)
    (ap (λ (p : Place). same_place p place) (same_place-true (stored_place x) target here))
held-replaced (x ∷ rest) (suc i) next old target place within here before own =
    apart-one (same_place target place) (same_place (stored_place x) place) _ (put_record x.version x.value) (held_at rest place) _
    (not-both (stored_place x) target place (before zero (omega arith)))
    (held-replaced rest i next old target place (omega arith) here (λ k below. before (suc k) (omega arith)) own)

-- the first record at a place, replaced by another one there
pub held-put-over : (stored : List Stored) (i : ℕ) (next old : Stored) (target place : Place)
    → position (is_at target) stored ≡ Some i → old ≡ get_or stored i old → stored_place next ≡ stored_place old
    → held_at (set stored i next) place
    ≡ (if same_place target place then put_record next.version next.value else held_at stored place)
held-put-over stored i next old target place found is kept =
    let h = position-Some (is_at target) stored i old found in
    let here : is_at target old ≡ true = ap (λ (s : Stored). is_at target s) is ∙ h.1 in
    held-replaced stored i next old target place h.0 h.1 h.2 (kept ∙ same_place-true (stored_place old) target here)

held-added : (stored : List Stored) (next : Stored) (place : Place)
    → ((k : ℕ) → k < length stored → is_at (stored_place next) (get_or stored k next) ≡ false)
    → held_at (stored ++ next ∷ []) place
    ≡ (if same_place (stored_place next) place then put_record next.version next.value else held_at stored place)
held-added [] next place none = refl
held-added (x ∷ rest) next place none =
    apart-one (same_place (stored_place next) place) (same_place (stored_place x) place) _ (put_record x.version x.value) (held_at rest place) _
    (not-both (stored_place x) (stored_place next) place (none zero (omega arith)))
    (held-added rest next place (λ k below. none (suc k) (omega arith)))

-- a test that no position passes
passed-by : (at count : ℕ) → cond (nat_lt at count) (Some at) None ≡ None → count ≤ at
passed-by at count nowhere = grind (arith, nat_tests)

-- a record at a place where none stood, behind the others
pub held-put-behind : (stored : List Stored) (next : Stored) (place : Place)
    → position (is_at (stored_place next)) stored ≡ None
    → held_at (stored ++ next ∷ []) place
    ≡ (if same_place (stored_place next) place then put_record next.version next.value else held_at stored place)
held-put-behind stored next place nowhere =
    let first : ℕ = position_or_len (is_at (stored_place next)) stored in
    let behind : length stored ≤ first = passed-by first (length stored) nowhere in
    held-added stored next place
    (λ k below. fails_before_first (is_at (stored_place next)) stored k next (omega (arith, below, behind)))

either-absent : (b : Bool) → absent ≡ (if b then absent else absent)
either-absent true = refl
either-absent false = refl

taken-first : (rest : List Stored) (x : Stored) (target place : Place) (here : Bool) → is_at target x ≡ here
    → held_at (filter (λ (s : Stored). not (is_at target s)) rest) place
    ≡ (if same_place target place then absent else held_at rest place)
    → held_at (cond (not here) (x ∷ filter (λ (s : Stored). not (is_at target s)) rest) (filter (λ (s : Stored). not (is_at target s)) rest)) place
    ≡ (if same_place target place then absent else held_at (x ∷ rest) place)
taken-first rest x target place true is others =
    others
    ∙ same-one (same_place target place) (same_place (stored_place x) place) absent (put_record x.version x.value) (held_at rest place)
    (ap (λ (p : Place). same_place p place) (same_place-true (stored_place x) target is))
taken-first rest x target place false is others =
    apart-one (same_place target place) (same_place (stored_place x) place) absent (put_record x.version x.value) (held_at rest place) _
    (not-both (stored_place x) target place is) others

-- the records that do not stand at a place
pub held-taken : (stored : List Stored) (target place : Place)
    → held_at (filter (λ (x : Stored). not (is_at target x)) stored) place
    ≡ (if same_place target place then absent else held_at stored place)
held-taken [] target place = either-absent (same_place target place)
held-taken (x ∷ rest) target place =
    taken-first rest x target place (is_at target x) refl (held-taken rest target place)
