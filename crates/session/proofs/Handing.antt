-- A call that is handed back belongs to the journal.
use Rattle.std.specs.Prelude.{◌==◌, IsTrue, slice_get}
use Rattle.std.specs.List.{AllByRecursion}
use Rattle.std.proofs.Common.{◌≡◌, ◌≤◌, ◌<◌, ◌*◌, ℕ, zero, suc, List, [], ◌∷◌, ◌++◌, length, take, drop, Option, Some, None, refl, sym, subst, ap, ◌∙◌, arith}
use Rattle.std.proofs.lemmas.Bool.{eqb-true}
use Rattle.std.proofs.lemmas.List.{length-take, take-append-drop, take-take}
use Rattle.sp_base.specs.declared.calls.Call.{Call}
use Rattle.sp_base.specs.declared.calls.Policy.{Policy}
use Rattle.sp_base.specs.declared.limits.TheConstants.{MOST_BUDGET}
use Rattle.sp_base.specs.declared.numbers.TableId.{TableId}
use Rattle.sp_base.specs.declared.numbers.TenantId.{TenantId}
use Rattle.sp_base.specs.declared.reads.ReadItem.{ReadItem}
use Rattle.sp_base.specs.Limits.{IsArguments}
use Rattle.sp_base.specs.RightsList.{can_read}
use Rattle.ext_mean.specs.declared.run.Run.{Run}
use Rattle.ext_mean.specs.declared.run.Run.TheVariants as run
use Rattle.ext_mean.specs.declared.tree.Program.{Program}
use Rattle.ext_mean.specs.Asked.{AreAsked, IsWanted}
use Rattle.ext_mean.specs.Laws.{IsWithin}
use Rattle.ext_mean.specs.Meaning.{mean}
use Rattle.ext_mean.specs.Views.{part, place_of}
use Rattle.ext_mean.proofs.AskedProved.{reads-cost}
use Rattle.ext_mean.proofs.ConfinementProved.{only-readable}
use Rattle.ext_mean.proofs.WantsProved.{stay-within}
use Rattle.records.specs.GrantsList.{GrantsList, RightsList}
use Rattle.task.specs.Parking.{ParkedCall}
use Rattle.journal.specs.declared.entry.Entry.{Entry}
use Rattle.journal.specs.Granted.{granted}
use Rattle.journal.specs.Reads.{IsHeld}
use Rattle.book.specs.Ends.{IsPushed, NamesExt}
use Rattle.session.specs.declared.session.Admitted.{Admitted}
use Rattle.session.specs.Keeping.{call_in}
use Rattle.session.specs.Standing.{HasOwnRights, IsParkedIn, ParkedFit, tenant_of}
use Rattle.session.proofs.Items.{all-of}
use Rattle.session.proofs.Keeping.{call-beside, call-here, call-last, split, unlike}
use Rattle.session.proofs.LongerSteps.{all-held-longer, names-ext-longer}

-- ---- Reads that were asked for

get-of-take : {A : Type 0} (xs : List A) (k j : ℕ) (x : A) → slice_get (take k xs) j ≡ Some x → (slice_get xs j ≡ Some x) × (j < k)
get-of-take [] zero j x found = absurd cc
get-of-take [] (suc k) j x found = absurd cc
get-of-take (y ∷ xs) zero j x found = absurd cc
get-of-take (y ∷ xs) (suc k) zero x found = (found, omega arith)
get-of-take (y ∷ xs) (suc k) (suc j) x found = let rest = get-of-take xs k j x found in (rest.0, (let less = rest.1 in omega (arith, less)))

some-within : {A : Type 0} (xs : List A) (i : ℕ) → i < length xs → (x : A) × (slice_get xs i ≡ Some x)
some-within [] i within = absurd (omega arith)
some-within (x ∷ xs) zero within = (x, refl)
some-within (x ∷ xs) (suc i) within = some-within xs i (omega arith)

-- a run that wants the record has wanted it with some units
wants-read : (ran : Run) (read : ReadItem) → IsWanted ran read → (table : TableId) × (key : List ℕ) × (used : ℕ) × (ran ≡ run.Wants table key used)
wants-read (run.Done reply writes used) read wanted = absurd cc
wants-read (run.Trapped trap used) read wanted = absurd cc
wants-read run.Spent read wanted = absurd cc
wants-read (run.Wants table key used) read wanted = (table, key, used, refl)

asked-front : (program : Program) (args : List ℕ) (budget : ℕ) (rights : RightsList) (reads : List ReadItem) (k : ℕ)
    → AreAsked program args budget rights reads → AreAsked program args budget rights (take k reads)
asked-front program args budget rights reads k asked = record {
  each = λ j read found.
      let there = get-of-take reads k j read found in
      let less = there.1 in
      subst (λ (front : List ReadItem). IsWanted (mean program args budget (part front rights)) read)
      (sym (take-take j k reads (omega (arith, less)))) (asked.each j read there.0);
}

used-within : (ran : Run) (table : TableId) (key : List ℕ) (used budget : ℕ) → ran ≡ run.Wants table key used → IsWithin budget ran → used ≤ budget
used-within ran table key used budget is within = subst (IsWithin budget) is within

-- each read that was asked for is paid with 16 units
paid-by : (program : Program) (args : List ℕ) (budget : ℕ) (rights : RightsList) (reads : List ReadItem) (n : ℕ) → length reads ≡ n
    → AreAsked program args budget rights reads → 16 * length reads ≤ budget
paid-by program args budget rights reads zero many asked = omega (arith, many)
paid-by program args budget rights reads (suc k) many asked =
    let last = some-within reads k (omega (arith, many)) in
    let wants = wants-read (mean program args budget (part (take k reads) rights)) last.0 (asked.each k last.0 last.1) in
    let cost = reads-cost program args budget rights (take k reads) wants.0 wants.1 wants.2
    (asked-front program args budget rights reads k asked) wants.3 in
    let within = used-within (mean program args budget (part (take k reads) rights)) wants.0 wants.1 wants.2 budget wants.3
    (stay-within program args budget (part (take k reads) rights)) in
    omega (arith, many, cost, within, length-take k reads)

asked-paid : (program : Program) (args : List ℕ) (budget : ℕ) (rights : RightsList) (reads : List ReadItem)
    → AreAsked program args budget rights reads → 16 * length reads ≤ budget
asked-paid program args budget rights reads asked = paid-by program args budget rights reads (length reads) refl asked

asked-readable : (program : Program) (args : List ℕ) (budget : ℕ) (rights : RightsList) (reads : List ReadItem)
    → AreAsked program args budget rights reads → AllByRecursion (λ read. IsTrue (can_read rights read.table.0)) reads
asked-readable program args budget rights reads asked =
    all-of (λ (read : ReadItem). IsTrue (can_read rights read.table.0)) reads (λ k read found.
    (only-readable program args budget (part (take k reads) rights) (place_of read) (asked.each k read found)).0)

-- ---- The call that is parked

pub pushed-in : (grants : GrantsList) (policy : Policy) (journal : List Entry) (since : ℕ) (call : Call) (load spent : ℕ) (parked : ParkedCall)
    → IsPushed grants policy journal since call load spent parked → IsArguments call.args → call.budget ≤ MOST_BUDGET
    → IsParkedIn call.caller.tenant (granted grants journal call.caller.tenant) journal parked
pushed-in grants policy journal since call load spent parked is args small =
    let handed = is.handed in
    let same : parked.call ≡ call = handed.call_is in
    let whole : take is.moment journal ++ drop is.moment journal ≡ journal = take-append-drop is.moment journal in
    let paid : 16 * length parked.reads ≤ call.budget =
    asked-paid parked.ext.program call.args call.budget (granted grants journal call.caller.tenant) parked.reads handed.are.asked in
    record {
      own = ap (λ (c : Call). c.caller.tenant) same;
      args = subst (λ (c : Call). IsArguments c.args) (sym same) args;
      budget = subst (λ (c : Call). c.budget ≤ MOST_BUDGET) (sym same) small;
      named = subst (λ (c : Call). NamesExt journal c parked.ext) (sym same)
          (subst (λ (j : List Entry). NamesExt j call parked.ext) whole
          (names-ext-longer (take is.moment journal) (drop is.moment journal) call parked.ext handed.named));
      held = subst (λ (j : List Entry). AllByRecursion (IsHeld j) parked.reads) whole
          (all-held-longer (take is.moment journal) (drop is.moment journal) parked.reads handed.are.held);
      readable = asked-readable parked.ext.program call.args call.budget (granted grants journal call.caller.tenant) parked.reads handed.are.asked;
      paid = subst (λ (c : Call). 16 * length parked.reads ≤ c.budget) (sym same) paid;
    }

-- one call more fits
pub fit-more : (own : Option Admitted) (journal : List Entry) (grants : GrantsList) (tenant : TenantId) (parked : List ParkedCall) (last : ParkedCall)
    → tenant_of own ≡ Some tenant → HasOwnRights own journal grants → ParkedFit own journal parked → call_in parked last.call.caller.number ≡ None
    → IsParkedIn tenant (granted grants journal tenant) journal last → ParkedFit own journal (parked ++ last ∷ [])
fit-more None journal grants tenant parked last is rights fit none fits = absurd cc
fit-more (Some admitted) journal grants tenant parked last is rights fit none fits = λ caller one found.
    split (last.call.caller.number == caller)
    (λ holds.
    let same : last.call.caller.number ≡ caller = eqb-true last.call.caller.number caller holds in
    let own : admitted.tenant ≡ tenant = cc in
    let free : call_in parked caller ≡ None = ap (call_in parked) (sym same) ∙ none in
    let both : Some last ≡ Some one = sym (call-last parked last caller free ∙ call-here last [] caller same) ∙ found in
    let it : last ≡ one = cc in
    subst (λ (p : ParkedCall). IsParkedIn admitted.tenant admitted.rights journal p) it
    (subst (λ (r : RightsList). IsParkedIn admitted.tenant r journal last) (sym rights)
    (subst (λ (t : TenantId). IsParkedIn t (granted grants journal t) journal last) (sym own) fits)))
    (λ fails. fit caller one (sym (call-beside parked last caller (unlike last.call.caller.number caller fails)) ∙ found))
