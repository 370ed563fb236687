-- Every text is accepted or refused.
use Rattle.std.proofs.Common.{◌≡◌, ◌<◌, ◌⊎◌, ℕ, List, [], ◌∷◌, zero, suc, length, Option, Some, None, refl, inl, inr, arith}
use Rattle.std.specs.Prelude.{slice_get}
use Rattle.ext_mean.specs.declared.check_codes.BorrowCode.{BorrowCode}
use Rattle.ext_mean.specs.declared.check_codes.TypeCode.{TypeCode}
use Rattle.ext_mean.specs.declared.refusal.Refusal.TheVariants as refusal
use Rattle.ext_mean.specs.declared.tree.Program.{Program}
use Rattle.ext_mean.specs.Ownership.{borrow_fault}
use Rattle.ext_mean.specs.Text.{SpellsAt}
use Rattle.ext_mean.specs.Typing.{IsTyped, type_fault}
use Rattle.ext_parse.proofs.Judged as parse
use Rattle.ext_check.specs.Checking.{HaveLines, by_syntax, by_checks, by_types, by_borrows}
use Rattle.ext_check.specs.Laws.{IsAcceptedAsSome, HasRefusal, EveryTextIsJudged}
use Rattle.ext_check.proofs.FaultLines.{type-fault-line, borrow-fault-line}
use Rattle.ext_check.proofs.ItemLines.{lines-of-items}

-- a place within a list has its item
item-there : (lines : List ℕ) (at : ℕ) → at < length lines → (line : ℕ) × (slice_get lines at ≡ Some line)
item-there [] at within = absurd (omega arith)
item-there (line ∷ lines) zero within = (line, refl)
item-there (line ∷ lines) (suc at) within = item-there lines at (omega arith)

borrows-judged : (text : List ℕ) (program : Program) (lines : List ℕ) → SpellsAt text program lines → HaveLines program lines → IsTyped program
    → (fault : Option (ℕ × BorrowCode)) → borrow_fault program ≡ fault → IsAcceptedAsSome text ⊎ HasRefusal text
borrows-judged text program lines spelled lined typed None owned =
    inl (record { program = program; accepted = record { spelled = (lines, spelled); typed = typed; owned = owned } })
borrows-judged text program lines spelled lined typed (Some (item, which)) faulty =
    let there = item-there lines item (borrow-fault-line program lines item which lined faulty) in
    inr (record {
      line = there.0;
      which = refusal.Borrows which;
      refused = by_checks program lines spelled (by_borrows item typed faulty there.1);
    })

types-judged : (text : List ℕ) (program : Program) (lines : List ℕ) → SpellsAt text program lines → HaveLines program lines
    → (fault : Option (ℕ × TypeCode)) → type_fault program ≡ fault → IsAcceptedAsSome text ⊎ HasRefusal text
types-judged text program lines spelled lined None typed =
    borrows-judged text program lines spelled lined typed (borrow_fault program) refl
types-judged text program lines spelled lined (Some (item, which)) faulty =
    let there = item-there lines item (type-fault-line program lines item which lined faulty) in
    inr (record {
      line = there.0;
      which = refusal.Types which;
      refused = by_checks program lines spelled (by_types item faulty there.1);
    })

pub every-judged : EveryTextIsJudged
every-judged text =
    elim (parse.every-judged text) [
      | inl found ↦ types-judged text found.program found.lines found.spelled (lines-of-items text found.program found.lines found.spelled) (type_fault found.program) refl
      | inr broken ↦ inr (record { line = broken.line; which = refusal.Syntax broken.which; refused = by_syntax broken.fault })
    ]
