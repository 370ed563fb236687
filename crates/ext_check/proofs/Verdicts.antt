-- What is said of a text, by what is said of the program that it spells.
use Rattle.std.proofs.Common.{◌≡◌, ◌∙◌, sym, subst, ap, ℕ, List, Option, Some, None, refl}
use Rattle.std.specs.Prelude.{IfOk, IfErr, OnOk, MatchResult, Result, Ok, Err}
use Rattle.ext_mean.specs.declared.refusal.Refusal.{Refusal}
use Rattle.ext_mean.specs.declared.tree.Program.{Program}
use Rattle.ext_mean.specs.Ownership.{IsOwned, borrow_fault}
use Rattle.ext_mean.specs.Text.{SpellsAt}
use Rattle.ext_mean.specs.Typing.{IsTyped, type_fault}
use Rattle.ext_parse.specs.declared.fault.ParseFault.{ParseFault}
use Rattle.ext_parse.specs.declared.fault.ParseFault.TheVariants as parse
use Rattle.ext_parse.specs.declared.parsed.Parsed.{Parsed}
use Rattle.ext_parse.specs.Faults as parsing
use Rattle.ext_check.specs.declared.fault.CheckFault.{CheckFault}
use Rattle.ext_check.specs.declared.fault.CheckFault.TheVariants as fault
use Rattle.ext_check.specs.Checking.{Explains, IsAccepted, IsFaulty, by_types, by_borrows, by_syntax, by_checks, Judges, unparsed}

-- only one program is the text's
abbrev pub IsTheOne : List ℕ → Parsed → Type 0
IsTheOne text parsed =
    (program : Program) (lines : List ℕ) → SpellsAt text program lines →
    (parsed.program ≡ program) × (parsed.lines.items ≡ lines)

no-fault : {C : Type 0} (item : ℕ) (which : C) (found : Option (ℕ × C)) → found ≡ Some (item, which) → found ≡ None → ⊥
no-fault {C} item which found some none = let e : Some (item, which) ≡ None = sym some ∙ none in cc

faulty-not : (program : Program) (lines : List ℕ) (line : ℕ) (which : Refusal) → IsFaulty program lines line which → IsTyped program → IsOwned program → ⊥
faulty-not program lines line which (by_types item {which = code} is at) typed owned = no-fault item code (type_fault program) is typed
faulty-not program lines line which (by_borrows item {which = code} also is at) typed owned = no-fault item code (borrow_fault program) is owned

only-memory : (program : Program) (lines : List ℕ) (e : CheckFault) → Judges program lines e → IsTyped program → IsOwned program → e ≡ fault.Memory
only-memory program lines (fault.Refused line which) judged typed owned = absurd (faulty-not program lines line which judged typed owned)
only-memory program lines fault.Memory judged typed owned = refl

pub if-accepted : (text : List ℕ) (parsed : Parsed) (result : Result Program CheckFault) → SpellsAt text parsed.program parsed.lines.items
    → IfOk result (λ program. program ≡ parsed.program) → OnOk result (IsTyped parsed.program) → OnOk result (IsOwned parsed.program)
    → IfOk result (λ program. IsAccepted text program)
if-accepted text parsed (Ok program) spelled same typed owned =
    subst (IsAccepted text) (sym same) (record { spelled = (parsed.lines.items, spelled); typed = typed; owned = owned })
if-accepted text parsed (Err e) spelled same typed owned = tt

pub if-only : (text : List ℕ) (parsed : Parsed) (result : Result Program CheckFault) → IsTheOne text parsed
    → IfOk result (λ program. program ≡ parsed.program) → IfErr result (λ e. Judges parsed.program parsed.lines.items e)
    → (program : Program) → IsAccepted text program → MatchResult result (λ other. other ≡ program) (λ e. e ≡ fault.Memory)
if-only text parsed (Ok other) one same faulty program accepted =
    same ∙ (one program accepted.spelled.0 accepted.spelled.1).0
if-only text parsed (Err e) one same faulty program accepted =
    let is = (one program accepted.spelled.0 accepted.spelled.1).0 in
    only-memory parsed.program parsed.lines.items e faulty (subst IsTyped (sym is) accepted.typed) (subst IsOwned (sym is) accepted.owned)

explained : (text : List ℕ) (parsed : Parsed) (e : CheckFault) → SpellsAt text parsed.program parsed.lines.items → Judges parsed.program parsed.lines.items e → Explains text e
explained text parsed (fault.Refused line which) spelled judged = by_checks parsed.program parsed.lines.items spelled judged
explained text parsed fault.Memory spelled judged = tt

pub if-refused : (text : List ℕ) (parsed : Parsed) (result : Result Program CheckFault) → SpellsAt text parsed.program parsed.lines.items
    → IfErr result (λ e. Judges parsed.program parsed.lines.items e) → IfErr result (λ e. Explains text e)
if-refused text parsed (Ok program) spelled faulty = tt
if-refused text parsed (Err e) spelled faulty = explained text parsed e spelled faulty

pub unparsed-explained : (text : List ℕ) (e : ParseFault) → parsing.Explains text e → Explains text (unparsed e)
unparsed-explained text (parse.Syntax line which) is = by_syntax is
unparsed-explained text parse.Memory is = tt

pub unparsed-memory : (e : ParseFault) → e ≡ parse.Memory → unparsed e ≡ fault.Memory
unparsed-memory e is = ap unparsed is
