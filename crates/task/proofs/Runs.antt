-- The runs of one live call, with more units or fewer.
use Rattle.std.proofs.Common.{◌≡◌, ◌≢◌, ◌≤◌, ◌<◌, ◌+◌, ℕ, List, [], ◌∷◌, ◌++◌, length, Some, None, refl, sym, ap, ◌∙◌, subst, arith, length-append}
use Rattle.std.proofs.Math.Nat.{lt_of_not-le}
use Rattle.sp_base.specs.declared.numbers.TableId.{TableId}
use Rattle.sp_base.specs.declared.outcomes.Outcome.{Outcome}
use Rattle.sp_base.specs.declared.reads.ReadItem.{ReadItem}
use Rattle.sp_base.specs.Places.{Place}
use Rattle.ext_mean.specs.declared.run.Run.{Run}
use Rattle.ext_mean.specs.declared.run.Run.TheVariants.{Done, Trapped, Spent, Wants}
use Rattle.ext_mean.specs.Laws.{IsWithin}
use Rattle.ext_mean.specs.Outcomes.{outcome_of, units_of, wanted_by}
use Rattle.ext_mean.specs.Views.{part}
use Rattle.ext_mean.proofs.LawsProved.{greater-budgets}
use Rattle.ext_mean.proofs.UnitsProved.{used-suffice}
use Rattle.ext_mean.proofs.WantsProved.{are-due, next-want, stay-within}
use Rattle.task.proofs.Knowing.{extends-by, known-last}
use Rattle.task.specs.Tasks.{StandsReady, at_begin, at_read, at_quantum}
use Rattle.task.specs.Turning.{Live, meaning_on, meaning_with}

-- a run that wants a record is not spent
pub wants-unspent : (run : Run) (table : TableId) (key : List ℕ) (used : ℕ) → run ≡ Wants table key used → run ≢ Spent
wants-unspent run table key used wants spent = let clash : Wants table key used ≡ Spent = sym wants ∙ spent in cc

-- nor is one that wants a place
pub wanted-unspent : (run : Run) (place : Place) → wanted_by run ≡ Some place → run ≢ Spent
wanted-unspent run place wanted spent = let clash : Some place ≡ None = sym wanted ∙ ap wanted_by spent in cc

-- with more units a run that is not spent is the same
pub with-more : (live : Live) (units greater : ℕ) (reads : List ReadItem) (run : Run) → units ≤ greater → run ≢ Spent
    → meaning_on live units reads ≡ run → meaning_on live greater reads ≡ run
with-more live units greater reads run fits unspent is =
    greater-budgets live.ext.program live.call.args units greater (part reads live.rights) fits (λ spent. unspent (sym is ∙ spent)) ∙ is

-- a want uses no more units than there are
pub want-within : (live : Live) (units : ℕ) (reads : List ReadItem) (table : TableId) (key : List ℕ) (used : ℕ)
    → meaning_on live units reads ≡ Wants table key used → used ≤ units
want-within live units reads table key used is =
    subst (IsWithin units) is (stay-within live.ext.program live.call.args units (part reads live.rights))

-- with the units used there, or more, a want is the same
pub with-used : (live : Live) (units enough : ℕ) (reads : List ReadItem) (table : TableId) (key : List ℕ) (used : ℕ)
    → meaning_on live units reads ≡ Wants table key used → used ≤ enough → meaning_on live enough reads ≡ Wants table key used
with-used live units enough reads table key used is fits =
    used-suffice live.ext.program live.call.args units enough (part reads live.rights)
    (wants-unspent (meaning_on live units reads) table key used is)
    (subst (λ run. units_of units run ≤ enough) (sym is) fits)
    ∙ is

-- the want behind a read comes at least 16 units after that of the read
want-behind : (live : Live) (units : ℕ) (earlier : List ReadItem) (read : ReadItem) (table : TableId) (key : List ℕ) (used before : ℕ)
    → meaning_on live units earlier ≡ Wants read.table read.key before
    → meaning_on live units (earlier ++ read ∷ []) ≡ Wants table key used → before + 16 ≤ used
want-behind live units earlier read table key used before first second =
    next-want live.ext.program live.call.args units (part earlier live.rights) (part (earlier ++ read ∷ []) live.rights)
    read.table table read.key key before used (extends-by earlier (read ∷ []) live.rights) (known-last earlier read) first second

-- a call that may turn wants its next record behind the units that it has spent
pub want-raises : (live : Live) (units : ℕ) (table : TableId) (key : List ℕ) (used : ℕ) → StandsReady live
    → live.spent ≤ live.call.budget → units ≤ live.call.budget
    → meaning_with live units ≡ Wants table key used → live.spent < used
want-raises live units table key used (at_begin none nothing) within fits wants =
    let due = are-due live.ext.program live.call.args units (part live.reads live.rights) table key used wants in
    omega (arith, due.paid, nothing)
want-raises live units table key used (at_read earlier read is first) within fits wants =
    let first-whole = with-more live live.spent live.call.budget earlier (Wants read.table read.key live.spent) within
    (wants-unspent (Wants read.table read.key live.spent) read.table read.key live.spent refl) first in
    let second-whole = with-more live units live.call.budget live.reads (Wants table key used) fits
    (wants-unspent (Wants table key used) table key used refl) wants in
    let later = want-behind live live.call.budget earlier read table key used live.spent first-whole
    (subst (λ reads. meaning_on live live.call.budget reads ≡ Wants table key used) is second-whole) in
    omega (arith, later)
want-raises live units table key used (at_quantum spent) within fits wants =
    lt_of_not-le (λ less.
    wants-unspent (meaning_with live live.spent) table key used
    (with-used live units live.spent live.reads table key used wants less) spent)

-- a run that has an outcome wants nothing
pub ended-wants-nothing : (run : Run) (outcome : Outcome) → outcome_of run ≡ Some outcome → wanted_by run ≡ None
ended-wants-nothing (Done reply writes used) outcome answers = refl
ended-wants-nothing (Trapped trap used) outcome answers = refl
ended-wants-nothing Spent outcome answers = refl
ended-wants-nothing (Wants table key used) outcome answers = absurd (let clash : None ≡ Some outcome = answers in cc)

-- two lists with one more element each are equal only where both parts are
pub snoc-same : {A : Type 0} (xs ys : List A) (x y : A) → xs ++ x ∷ [] ≡ ys ++ y ∷ [] → (xs ≡ ys) × (x ≡ y)
snoc-same [] [] x y same = (refl, cc)
snoc-same [] (z ∷ zs) x y same = absurd (let long = ap length same in omega (arith, length-append zs (y ∷ []), long))
snoc-same (z ∷ zs) [] x y same = absurd (let long = ap length same in omega (arith, length-append zs (x ∷ []), long))
snoc-same (w ∷ ws) (z ∷ zs) x y same =
    let head : w ≡ z = cc in
    let tail : ws ++ x ∷ [] ≡ zs ++ y ∷ [] = cc in
    let rest = snoc-same ws zs x y tail in
    let lists : ws ≡ zs = rest.0 in
    (cc, rest.1)
