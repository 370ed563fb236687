-- The caller's number is the one that was set, and every other's stays.
use Rattle.std.specs.Prelude.{cond, unwrap_or, if◌then◌else◌}
use Rattle.std.proofs.Common.{◌≡◌, ℕ, Bool, true, false, Option, Some, refl, ap, ◌∙◌}
use Rattle.journal.specs.Folds.{same_caller}
use Rattle.book.proofs.lasts.Lasts.set.Goals as goal

set-or-kept : (b : Bool) (n : ℕ) (old : Option ℕ) → unwrap_or (cond b (Some n) old) 0 ≡ (if b then n else unwrap_or old 0)
set-or-kept true n old = refl
set-or-kept false n old = refl

pub returns-clause-ok : goal.returns-clause-ok
returns-clause-ok c other =
    ap (λ (found : Option ℕ). unwrap_or found 0) (c.in_ok-insert.ensures.updates.0 (other.tenant.0, other.number))
    ∙ set-or-kept (same_caller c.args.caller other) c.args.number _
