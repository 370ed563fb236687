-- What a committed run owes: its meaning on the tables that now stand.
use Rattle.std.specs.Prelude.{IsTrue, map}
use Rattle.std.specs.List.{AllByRecursion}
use Rattle.std.proofs.Common.{◌≡◌, ◌≤◌, ℕ, suc, List, [], ◌∷◌, length, take, Some, slice_get, refl, sym, ◌∙◌, ap, subst, arith}
use Rattle.std.proofs.Math.Seq.{take-length}
use Rattle.std.proofs.lemmas.List.{length-map}
use Rattle.sp_base.specs.declared.calls.Call.{Call}
use Rattle.sp_base.specs.declared.outcomes.Outcome.{Outcome}
use Rattle.sp_base.specs.declared.reads.ReadItem.{ReadItem}
use Rattle.sp_base.specs.declared.writes.Write.{Write}
use Rattle.sp_base.specs.Limits.{IsArguments}
use Rattle.sp_base.specs.RightsList.{can_read, can_write}
use Rattle.ext_mean.specs.declared.tree.Program.{Program}
use Rattle.ext_mean.specs.Asked.{AreAsked, IsComplete}
use Rattle.ext_mean.specs.Meaning.{mean}
use Rattle.ext_mean.specs.Outcomes.{ChangeFits, EndsWith, wanted_by}
use Rattle.ext_mean.specs.Views.{View, part, whole, place_of}
use Rattle.ext_mean.proofs.ConfinementProved.{only-readable, only-writable, within-limits}
use Rattle.records.specs.GrantsList.{GrantsList, RightsList}
use Rattle.journal.specs.declared.entry.Entry.{Entry}
use Rattle.journal.specs.declared.entry.Home.TheVariants.{Client, Server}
use Rattle.journal.specs.Folds.{tables_of, version_of}
use Rattle.journal.specs.Granted.{granted}
use Rattle.journal.specs.Legal.{IsLegal, IsMeantOn, Names, CallIsWithin}
use Rattle.journal.specs.Reads.{HasNext, IsCurrent, IsHeld, bare, valued}
use Rattle.journal.specs.Sizes.{InvokeFits}
use Rattle.journal.proofs.Moments.{asked-made_at, bare-made_at, made_at, part-made_at}
use Rattle.journal.proofs.TrueReads.{held-current, meant-whole, tell-held, tell-valued}

current-bare : (journal : List Entry) (reads : List ReadItem) → AllByRecursion (IsCurrent journal) reads
    → AllByRecursion (IsCurrent journal) (map bare reads)
current-bare journal [] current = tt
current-bare journal (read ∷ reads) current = (current.0, current-bare journal reads current.1)

-- what holds of each item that is found holds by recursion, also of the items seen by a function
from-gets : {A B : Type 0} (P : B → Type 0) (f : A → B) (xs : List A)
    → ((k : ℕ) (x : A) → slice_get xs k ≡ Some x → P (f x)) → AllByRecursion P (map f xs)
from-gets P f [] each = tt
from-gets P f (x ∷ xs) each = (each 0 x refl, from-gets P f xs (λ k y found. each (suc k) y found))

-- a run reads and writes only tables that its rights let it
pub run-within : (grants : GrantsList) (journal : List Entry) (call : Call) (program : Program) (reads : List ReadItem)
    (rights : RightsList) (outcome : Outcome) (writes : List Write)
    → rights ≡ granted grants journal call.caller.tenant
    → AreAsked program call.args call.budget rights reads
    → EndsWith (mean program call.args call.budget (part reads rights)) outcome writes
    → CallIsWithin grants journal call writes (map bare reads)
run-within grants journal call program reads rights outcome writes own asked ends = record {
  reading =
      from-gets (λ (read : ReadItem). IsTrue (can_read (granted grants journal call.caller.tenant) read.table.0))
      bare reads (λ k read found.
      subst (λ (list : RightsList). IsTrue (can_read list read.table.0)) own
      (only-readable program call.args call.budget (part (take k reads) rights) (place_of read)
      (asked.each k read found)).0);
  writing =
      subst (λ (list : RightsList). AllByRecursion (λ write. IsTrue (can_write list write.table.0)) writes) own
      (subst (λ (changes : List Write). AllByRecursion (λ write. IsTrue (can_write rights write.table.0)) changes)
      ends.leaves (only-writable program call.args call.budget (part reads rights)));
}

-- a run's entry is within the limits
pub run-fits : (program : Program) (args : List ℕ) (budget : ℕ) (reads : List ReadItem)
    (rights : RightsList) (outcome : Outcome) (writes : List Write) → IsArguments args → length reads ≤ 6250
    → EndsWith (mean program args budget (part reads rights)) outcome writes
    → InvokeFits args outcome writes (map bare reads)
run-fits program args budget reads rights outcome writes arguments few ends =
    let small = within-limits program args budget (part reads rights) in
    record {
      arguments = arguments;
      reply = small.reply outcome ends.answers;
      few_writes = omega (arith, small.few, ap length ends.leaves);
      values = subst (λ (changes : List Write). AllByRecursion ChangeFits changes) ends.leaves small.values;
      few_reads = omega (arith, few, length-map reads bare);
    }

-- a read that is held and current, as if it were made now
held-now : (journal : List Entry) (read : ReadItem) → IsHeld journal read → IsCurrent journal read
    → IsHeld journal (made_at (length journal) read)
held-now journal read held current = record {
  by_then = omega arith;
  version = current ∙ ap (λ (all : List Entry). version_of all (place_of read)) (sym (take-length journal));
  value =
      sym (held-current journal read held current)
      ∙ ap (λ (all : List Entry). tables_of all (place_of read)) (sym (take-length journal));
}

all-held-now : (journal : List Entry) (reads : List ReadItem) → AllByRecursion (IsHeld journal) reads
    → AllByRecursion (IsCurrent journal) reads → AllByRecursion (IsHeld journal) (map (made_at (length journal)) reads)
all-held-now journal [] held current = tt
all-held-now journal (read ∷ reads) held current =
    (held-now journal read held.0 current.0, all-held-now journal reads held.1 current.1)

all-made_at : (moment : ℕ) (reads : List ReadItem) → AllByRecursion (λ read. read.read_at ≡ moment) (map (made_at moment) reads)
all-made_at moment [] = tt
all-made_at moment (read ∷ reads) = (refl, all-made_at moment reads)

-- the reads of a finished run that are current are those that its call makes alone on what now stands
has-next : (grants : GrantsList) (journal : List Entry) (call : Call) (program : Program) (reads : List ReadItem) (rights : RightsList)
    → rights ≡ granted grants journal call.caller.tenant
    → AllByRecursion (IsHeld journal) reads → AllByRecursion (IsCurrent journal) reads
    → AreAsked program call.args call.budget rights reads → IsComplete program call.args call.budget rights reads
    → HasNext grants journal call program (map bare reads)
has-next grants journal call program reads rights own held current asked complete =
    let moment : ℕ = length journal in
    let next : List ReadItem = map (made_at moment) reads in
    record {
      reads = next;
      next = record {
        are = record {
          asked =
              subst (λ (list : RightsList). AreAsked program call.args call.budget list next) own
              (asked-made_at moment reads asked);
          held = all-held-now journal reads held current;
        };
        complete =
            subst (λ (list : RightsList). IsComplete program call.args call.budget list next) own
            (ap (λ (view : View). wanted_by (mean program call.args call.budget view)) (part-made_at moment reads rights)
            ∙ complete);
        now = all-made_at moment reads;
      };
      kept_are = sym (bare-made_at moment reads);
    }

-- a finished run whose reads are held and have not moved is legal after this journal
pub run-legal : (grants : GrantsList) (journal : List Entry) (call : Call) (program : Program)
    (reads : List ReadItem) (rights : RightsList) (outcome : Outcome) (writes : List Write)
    → rights ≡ granted grants journal call.caller.tenant → Names journal call program
    → AllByRecursion (IsHeld journal) reads → AllByRecursion (IsCurrent journal) reads
    → AreAsked program call.args call.budget rights reads → IsComplete program call.args call.budget rights reads
    → EndsWith (mean program call.args call.budget (part reads rights)) outcome writes
    → IsLegal grants journal call outcome writes (map bare reads) Server
run-legal grants journal call program reads rights outcome writes own names held current asked complete ends =
    let meant = meant-whole program call.args call.budget journal reads rights outcome writes (tell-held journal reads held current) ends in
    record {
      program = program;
      names = names;
      meant = subst (λ (list : RightsList). EndsWith (mean program call.args call.budget (whole (tables_of journal) list)) outcome writes) own meant;
      current = current-bare journal reads current;
      asked = has-next grants journal call program reads rights own held current asked complete;
    }

-- an honest call whose reads are current is legal
pub honest-legal : (grants : GrantsList) (journal : List Entry) (call : Call) (program : Program)
    (reads : List ReadItem) (outcome : Outcome) (writes : List Write)
    → Names journal call program → AllByRecursion (IsCurrent journal) reads
    → IsMeantOn grants journal call program outcome writes reads
    → IsLegal grants journal call outcome writes reads Client
honest-legal grants journal call program reads outcome writes names current meant = record {
  program = program;
  names = names;
  meant = meant-whole program call.args call.budget journal (map (valued journal) reads) (granted grants journal call.caller.tenant)
      outcome writes (tell-valued journal reads current) meant;
  current = current;
  asked = tt;
}
