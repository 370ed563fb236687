-- The index of callers, as calls begin, move and end.
use Rattle.std.specs.Prelude.{◌==◌, if◌then◌else◌}
use Rattle.std.specs.List.{sum_by}
use Rattle.std.proofs.Common.{◌≡◌, ◌<◌, ◌≤◌, ◌⊎◌, ℕ, ◌+◌, Bool, true, false, List, [], ◌∷◌, length, Option, Some, None, inl, inr, refl, ap, sym, ◌∙◌, subst, arith}
use Rattle.std.specs.HashMap.{get}
use Rattle.std.proofs.lemmas.Bool.{and_parts, eqb-true}
use Rattle.std.proofs.lemmas.List.Sums.{sum_by-cons}
use Rattle.sp_base.specs.declared.calls.Call.{Call}
use Rattle.sp_base.specs.declared.numbers.Caller.{Caller}
use Rattle.journal.specs.Folds.{same_caller}
use Rattle.clients.proofs.Places.{same-self}
use Rattle.task.specs.Turning.{Live}
use Rattle.clients.specs.declared.callers.Callers.{Callers}
use Rattle.clients.specs.First.{first_of}
use Rattle.clients.specs.Numbering.{number_of, same_numbers}
use Rattle.sim.specs.Counting.{Indexes, PointsTo, is_of, number_in, total}
use Rattle.sim.specs.Queueing.{with_back}
use Rattle.sim.specs.State.{is_call_of, live_call, or_first_of}
use Rattle.sim.proofs.Totals.{total-back}

-- ---- Looking a caller up

either : (b : Bool) → (b ≡ true) ⊎ (b ≡ false)
either true = inl refl
either false = inr refl

-- where nothing is counted, the test fails
abbrev counted : Bool → ℕ
counted same = if same then 1 else 0

not-counted : (same : Bool) → counted same ≡ 0 → same ≡ false
not-counted true e = absurd (omega arith)
not-counted false e = refl

of-caller : (caller : Caller) (live : Live) → same_caller live.call.caller caller ≡ true
    → (is_of caller live ≡ 1) × (number_in caller live ≡ live.call.number.0)
of-caller caller live same = (ap (λ (b : Bool). if b then 1 else 0) same, ap (λ (b : Bool). if b then live.call.number.0 else 0) same)

of-another : (caller : Caller) (live : Live) → same_caller live.call.caller caller ≡ false
    → (is_of caller live ≡ 0) × (number_in caller live ≡ 0)
of-another caller live apart = (ap (λ (b : Bool). if b then 1 else 0) apart, ap (λ (b : Bool). if b then live.call.number.0 else 0) apart)

-- a queue in which the caller has no call
record HasNone (caller : Caller) (queue : List Live) (other : Option Live) : Type 0 where
  found : or_first_of queue caller other ≡ other
  numbers : sum_by (number_in caller) queue ≡ 0

first-none : (caller : Caller) (queue : List Live) (other : Option Live) → sum_by (is_of caller) queue ≡ 0 → HasNone caller queue other
first-none caller [] other none = record { found = refl; numbers = refl }
first-none caller (live ∷ queue) other none =
    let sums : is_of caller live + sum_by (is_of caller) queue ≡ 0 = sym (sum_by-cons (is_of caller) live queue) ∙ none in
    let here : is_of caller live ≡ 0 = omega (arith, sums) in
    let behind = first-none caller queue other (omega (arith, sums)) in
    let apart : same_caller live.call.caller caller ≡ false = not-counted (same_caller live.call.caller caller) here in
    let number = (of-another caller live apart).1 in
    record {
      found = ap (λ (b : Bool). if b then Some live else or_first_of queue caller other) apart ∙ behind.found;
      numbers = sum_by-cons (number_in caller) live queue ∙ omega (arith, number, behind.numbers);
    }

-- a live call that was found, and the sum of the numbers
pub record FoundOne (found : Option Live) (numbers : ℕ) : Type 0 where
  pub live : Live
  pub is : found ≡ Some live
  pub number : live.call.number.0 ≡ numbers

first-one : (caller : Caller) (queue : List Live) (other : Option Live) → sum_by (is_of caller) queue ≡ 1
    → FoundOne (or_first_of queue caller other) (sum_by (number_in caller) queue)
first-one caller [] other one = absurd (omega (arith, one))
first-one caller (live ∷ queue) other one =
    let sums : is_of caller live + sum_by (is_of caller) queue ≡ 1 = sym (sum_by-cons (is_of caller) live queue) ∙ one in
    let numbers = sum_by-cons (number_in caller) live queue in
    elim (either (same_caller live.call.caller caller)) [
      | inl same ↦
          let its = of-caller caller live same in
          let none = first-none caller queue other (omega (arith, sums, its.0)) in
          record {
            live = live;
            is = ap (λ (b : Bool). if b then Some live else or_first_of queue caller other) same;
            number = omega (arith, numbers, its.1, none.numbers);
          }
      | inr apart ↦
          let its = of-another caller live apart in
          let behind = first-one caller queue other (omega (arith, sums, its.0)) in
          record {
            live = behind.live;
            is = ap (λ (b : Bool). if b then Some live else or_first_of queue caller other) apart ∙ behind.is;
            number = omega (arith, numbers, its.1, behind.number);
          }
    ]

-- queues in which the caller has no call
record HaveNone (caller : Caller) (queues : List (List Live)) : Type 0 where
  found : live_call queues caller ≡ None
  numbers : total (number_in caller) queues ≡ 0

live-none : (caller : Caller) (queues : List (List Live)) → total (is_of caller) queues ≡ 0 → HaveNone caller queues
live-none caller [] none = record { found = refl; numbers = refl }
live-none caller (queue ∷ queues) none =
    let sums : sum_by (is_of caller) queue + total (is_of caller) queues ≡ 0 = sym (sum_by-cons (sum_by (is_of caller)) queue queues) ∙ none in
    let here = first-none caller queue (live_call queues caller) (omega (arith, sums)) in
    let behind = live-none caller queues (omega (arith, sums)) in
    record {
      found = here.found ∙ behind.found;
      numbers = sum_by-cons (sum_by (number_in caller)) queue queues ∙ omega (arith, here.numbers, behind.numbers);
    }

-- one of two is one, and the other none
split-one : (a b : ℕ) → a + b ≡ 1 → ((a ≡ 1) × (b ≡ 0)) ⊎ ((a ≡ 0) × (b ≡ 1))
split-one a b e = grind arith

live-one : (caller : Caller) (queues : List (List Live)) → total (is_of caller) queues ≡ 1
    → FoundOne (live_call queues caller) (total (number_in caller) queues)
live-one caller [] one = absurd (omega (arith, one))
live-one caller (queue ∷ queues) one =
    let sums : sum_by (is_of caller) queue + total (is_of caller) queues ≡ 1 = sym (sum_by-cons (sum_by (is_of caller)) queue queues) ∙ one in
    let numbers = sum_by-cons (sum_by (number_in caller)) queue queues in
    elim (split-one _ _ sums) [
      | inl here ↦
          let found = first-one caller queue (live_call queues caller) here.0 in
          let none = live-none caller queues here.1 in
          record { live = found.live; is = found.is; number = omega (arith, numbers, found.number, none.numbers) }
      | inr behind ↦
          let none = first-none caller queue (live_call queues caller) behind.0 in
          let found = live-one caller queues behind.1 in
          record { live = found.live; is = none.found ∙ found.is; number = omega (arith, numbers, found.number, none.numbers) }
    ]

-- the index has no number: no live call is the caller's
pub index-none : (callers : Callers) (queues : List (List Live)) (caller : Caller) → Indexes callers queues
    → number_of callers caller ≡ None → live_call queues caller ≡ None
index-none callers queues caller indexes none =
    let points : PointsTo None (total (is_of caller) queues) (total (number_in caller) queues) =
    subst (λ (n : Option ℕ). PointsTo n (total (is_of caller) queues) (total (number_in caller) queues)) none (indexes caller) in
    (live-none caller queues points).found

-- the index has a number: it is that of the caller's live call
pub index-some : (callers : Callers) (queues : List (List Live)) (caller : Caller) (number : ℕ) → Indexes callers queues
    → number_of callers caller ≡ Some number → FoundOne (live_call queues caller) number
index-some callers queues caller number indexes some =
    let points : PointsTo (Some number) (total (is_of caller) queues) (total (number_in caller) queues) =
    subst (λ (n : Option ℕ). PointsTo n (total (is_of caller) queues) (total (number_in caller) queues)) some (indexes caller) in
    let found = live-one caller queues points.0 in
    record { live = found.live; is = found.is; number = found.number ∙ points.1 }

-- ---- Calls that move, begin and end

-- what the index says stays true where both sums stay
same-points : (number : Option ℕ) (calls numbers more sums : ℕ) → more ≡ calls → sums ≡ numbers → PointsTo number calls numbers → PointsTo number more sums
same-points number calls numbers more sums e f points =
    subst (λ (n : ℕ). PointsTo number n sums) (sym e) (subst (λ (n : ℕ). PointsTo number calls n) (sym f) points)

-- where one call stands for another of the same caller and number, all is indexed as it was
pub indexed-alike : (callers : Callers) (before after : List (List Live)) (live next : Live) → next.call ≡ live.call
    → ((weight : Live → ℕ) → total weight after + weight live ≡ total weight before + weight next)
    → Indexes callers before → Indexes callers after
indexed-alike callers before after live next same sums indexes caller =
    let calls = sums (is_of caller) in
    let numbers = sums (number_in caller) in
    let its : is_of caller next ≡ is_of caller live = ap (λ (c : Call). if same_caller c.caller caller then 1 else 0) same in
    let number : number_in caller next ≡ number_in caller live = ap (λ (c : Call). if same_caller c.caller caller then c.number.0 else 0) same in
    same-points (number_of callers caller) _ _ _ _ (omega (arith, calls, its)) (omega (arith, numbers, number)) (indexes caller)

-- two callers that are one by the test are one
same-number : (a b : Caller) (callers : Callers) → same_caller a b ≡ true → number_of callers a ≡ number_of callers b
same-number a b callers same =
    let parts = and_parts (a.tenant.0 == b.tenant.0) (a.number == b.number) same in
    let tenants : a.tenant.0 ≡ b.tenant.0 = eqb-true a.tenant.0 b.tenant.0 parts.0 in
    let numbers : a.number ≡ b.number = eqb-true a.number b.number parts.1 in
    ap (λ (n : ℕ). get same_numbers callers.numbers (n, a.number)) tenants
    ∙ ap (λ (n : ℕ). get same_numbers callers.numbers (b.tenant.0, n)) numbers

-- a call begins that is the only one of its caller
pub indexed-begun : (callers after : Callers) (queues : List (List Live)) (worker : ℕ) (live : Live)
    → worker < length queues → Indexes callers queues → number_of callers live.call.caller ≡ None
    → ((caller : Caller) → number_of after caller ≡ (if same_caller live.call.caller caller then Some live.call.number.0 else number_of callers caller))
    → Indexes after (with_back queues worker live)
indexed-begun callers after queues worker live small indexes none added caller =
    let back = total-back (is_of caller) queues worker live small in
    let back-number = total-back (number_in caller) queues worker live small in
    elim (either (same_caller live.call.caller caller)) [
      | inl same ↦
          let its = of-caller caller live same in
          let is : number_of after caller ≡ Some live.call.number.0 =
          added caller ∙ ap (λ (b : Bool). if b then Some live.call.number.0 else number_of callers caller) same in
          let nothing : number_of callers caller ≡ None = sym (same-number live.call.caller caller callers same) ∙ none in
          let calls : total (is_of caller) queues ≡ 0 =
          subst (λ (n : Option ℕ). PointsTo n (total (is_of caller) queues) (total (number_in caller) queues)) nothing (indexes caller) in
          let numbers = (live-none caller queues calls).numbers in
          subst (λ (n : Option ℕ). PointsTo n (total (is_of caller) (with_back queues worker live)) (total (number_in caller) (with_back queues worker live)))
          (sym is) (omega (arith, back, calls, its.0), omega (arith, back-number, numbers, its.1))
      | inr apart ↦
          let its = of-another caller live apart in
          let is : number_of after caller ≡ number_of callers caller =
          added caller ∙ ap (λ (b : Bool). if b then Some live.call.number.0 else number_of callers caller) apart in
          subst (λ (n : Option ℕ). PointsTo n (total (is_of caller) (with_back queues worker live)) (total (number_in caller) (with_back queues worker live)))
          (sym is) (same-points (number_of callers caller) _ _ _ _ (omega (arith, back, its.0)) (omega (arith, back-number, its.1)) (indexes caller))
    ]

-- where a caller's call is taken out, none is left
none-left : (number : Option ℕ) (calls numbers rest : ℕ) → PointsTo number calls numbers → calls ≡ rest + 1 → rest ≡ 0
none-left None calls numbers rest points more = absurd (omega (arith, points, more))
none-left (Some number) calls numbers rest points more = omega (arith, points.0, more)

-- a call ends, and its caller has none
pub indexed-ended : (callers after : Callers) (before between : List (List Live)) (live : Live)
    → ((weight : Live → ℕ) → total weight before ≡ total weight between + weight live) → Indexes callers before
    → ((caller : Caller) → number_of after caller ≡ (if same_caller live.call.caller caller then None else number_of callers caller))
    → Indexes after between
indexed-ended callers after before between live gone indexes removed caller =
    let one = gone (is_of caller) in
    let number = gone (number_in caller) in
    elim (either (same_caller live.call.caller caller)) [
      | inl same ↦
          let its = of-caller caller live same in
          let is : number_of after caller ≡ None =
          removed caller ∙ ap (λ (b : Bool). if b then None else number_of callers caller) same in
          subst (λ (n : Option ℕ). PointsTo n (total (is_of caller) between) (total (number_in caller) between)) (sym is)
          (none-left (number_of callers caller) _ _ _ (indexes caller) (omega (arith, one, its.0)))
      | inr apart ↦
          let its = of-another caller live apart in
          let is : number_of after caller ≡ number_of callers caller =
          removed caller ∙ ap (λ (b : Bool). if b then None else number_of callers caller) apart in
          subst (λ (n : Option ℕ). PointsTo n (total (is_of caller) between) (total (number_in caller) between)) (sym is)
          (same-points (number_of callers caller) _ _ _ _ (omega (arith, one, its.0)) (omega (arith, number, its.1)) (indexes caller))
    ]

-- ---- A list that has no call of a caller

none-in : (caller : Caller) (calls : List Live) → sum_by (is_of caller) calls ≡ 0 → first_of (is_call_of caller) calls ≡ None
none-in caller [] none = refl
none-in caller (live ∷ calls) none =
    let sums : is_of caller live + sum_by (is_of caller) calls ≡ 0 = sym (sum_by-cons (is_of caller) live calls) ∙ none in
    let apart : same_caller live.call.caller caller ≡ false = not-counted (same_caller live.call.caller caller) (omega (arith, sums)) in
    ap (λ (b : Bool). if b then Some live else first_of (is_call_of caller) calls) apart ∙ none-in caller calls (omega (arith, sums))

one-at-most : (number : Option ℕ) (calls numbers : ℕ) → PointsTo number calls numbers → calls ≤ 1
one-at-most None calls numbers points = omega (arith, points)
one-at-most (Some number) calls numbers points = omega (arith, points.0)

-- the caller of a call that is in a queue has none that was pushed
pub free-of : (callers : Callers) (pushed : List Live) (queues between : List (List Live)) (live : Live)
    → Indexes callers (pushed ∷ queues) → total (is_of live.call.caller) queues ≡ total (is_of live.call.caller) between + is_of live.call.caller live
    → first_of (is_call_of live.call.caller) pushed ≡ None
free-of callers pushed queues between live indexes gone =
    let caller : Caller = live.call.caller in
    let its = (of-caller caller live (same-self caller)).0 in
    let whole = sum_by-cons (sum_by (is_of caller)) pushed queues in
    let few = one-at-most (number_of callers caller) (total (is_of caller) (pushed ∷ queues)) (total (number_in caller) (pushed ∷ queues)) (indexes caller) in
    none-in caller pushed (omega (arith, its, whole, few, gone))
