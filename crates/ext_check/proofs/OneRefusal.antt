-- A text has one first refusal at most, and then it is accepted as no program.
use Rattle.std.proofs.Common.{◌≡◌, ℕ, List, Option, Some, None, sym, ◌∙◌, ap, subst}
use Rattle.std.specs.Prelude.{slice_get}
use Rattle.ext_mean.specs.declared.refusal.Refusal.{Refusal}
use Rattle.ext_mean.specs.declared.refusal.Refusal.TheVariants as refusal
use Rattle.ext_mean.specs.declared.tree.Program.{Program}
use Rattle.ext_mean.specs.Ownership.{IsOwned, borrow_fault}
use Rattle.ext_mean.specs.Typing.{IsTyped, type_fault}
use Rattle.ext_parse.proofs.OneFault.{one-fault, faulty-spells-none}
use Rattle.ext_parse.proofs.OneProgram.{one-program}
use Rattle.ext_check.specs.Checking.{IsFaulty, by_types, by_borrows, by_syntax, by_checks}
use Rattle.ext_check.specs.Laws.{TextsHaveOneRefusal, RefusedAreNotAccepted}

-- one item and one code
same-found : {A : Type 0} (fault : Option (ℕ × A)) (item other : ℕ) (which another : A)
    → fault ≡ Some (item, which) → fault ≡ Some (other, another) → (item ≡ other) × (which ≡ another)
same-found {A = A} fault item other which another first second =
    let pair : ℕ × A = (item, which) in
    let pair' : ℕ × A = (other, another) in
    let both : Some pair ≡ Some pair' = sym first ∙ second in
    let pairs : pair ≡ pair' = cc in
    (ap (λ (it : ℕ × A). it.0) pairs, ap (λ (it : ℕ × A). it.1) pairs)

-- one line of an item
same-line : (lines : List ℕ) (item other line last : ℕ) → item ≡ other
    → slice_get lines item ≡ Some line → slice_get lines other ≡ Some last → line ≡ last
same-line lines item other line last same first second =
    let both : Some line ≡ Some last = sym first ∙ ap (slice_get lines) same ∙ second in
    cc

not-typed : {A : Type 0} (fault : Option (ℕ × A)) (item : ℕ) (which : A) → fault ≡ Some (item, which) → fault ≡ None → ⊥
not-typed {A = A} fault item which first second =
    let pair : ℕ × A = (item, which) in
    let found : Option (ℕ × A) = Some pair in
    let both : found ≡ None = sym first ∙ second in
    cc

faults-one : (program : Program) (lines : List ℕ) (line other : ℕ) (which another : Refusal)
    → IsFaulty program lines line which → IsFaulty program lines other another → (line ≡ other) × (which ≡ another)
faults-one program lines line other which another (by_types item {which = code} found at) (by_types item' {which = code'} found' at') =
    let same = same-found (type_fault program) item item' code code' found found' in
    (same-line lines item item' line other same.0 at at', ap refusal.Types same.1)
faults-one program lines line other which another (by_types item {which = code} found at) (by_borrows item' typed found' at') =
    absurd (not-typed (type_fault program) item code found typed)
faults-one program lines line other which another (by_borrows item typed found at) (by_types item' {which = code} found' at') =
    absurd (not-typed (type_fault program) item' code found' typed)
faults-one program lines line other which another (by_borrows item {which = code} typed found at) (by_borrows item' {which = code'} typed' found' at') =
    let same = same-found (borrow_fault program) item item' code code' found found' in
    (same-line lines item item' line other same.0 at at', ap refusal.Borrows same.1)

pub one-refusal : TextsHaveOneRefusal
one-refusal text line other which another (by_syntax {which = code} fault) (by_syntax {which = code'} fault') =
    let same = one-fault text line other code code' fault fault' in
    (same.0, ap refusal.Syntax same.1)
one-refusal text line other which another (by_syntax {which = code} fault) (by_checks program lines spelled faulty) =
    absurd (faulty-spells-none text line code program lines fault spelled)
one-refusal text line other which another (by_checks program lines spelled faulty) (by_syntax {which = code} fault) =
    absurd (faulty-spells-none text other code program lines fault spelled)
one-refusal text line other which another (by_checks program lines spelled faulty) (by_checks program' lines' spelled' faulty') =
    let same = one-program text program program' lines lines' spelled spelled' in
    let P : Program → Type 0 = λ it. IsFaulty it lines' other another in
    let Q : List ℕ → Type 0 = λ it. IsFaulty program it other another in
    faults-one program lines line other which another faulty (subst Q (sym same.1) (subst P (sym same.0) faulty'))

not-accepted : (program : Program) (lines : List ℕ) (line : ℕ) (which : Refusal) → IsFaulty program lines line which
    → IsTyped program → IsOwned program → ⊥
not-accepted program lines line which (by_types item {which = code} found at) typed owned = not-typed (type_fault program) item code found typed
not-accepted program lines line which (by_borrows item {which = code} typed' found at) typed owned = not-typed (borrow_fault program) item code found owned

pub refused-not-accepted : RefusedAreNotAccepted
refused-not-accepted text line which program (by_syntax {which = code} fault) accepted =
    faulty-spells-none text line code program accepted.spelled.0 fault accepted.spelled.1
refused-not-accepted text line which program (by_checks other lines spelled faulty) accepted =
    let same = one-program text other program lines accepted.spelled.0 spelled accepted.spelled.1 in
    let P : Program → Type 0 = λ it. IsFaulty it lines line which in
    not-accepted program lines line which (subst P same.0 faulty) accepted.typed accepted.owned
