-- What ended runs owe: their entries are within limits and grants, and sound where no read has moved.
use Rattle.std.specs.Prelude.{IsTrue, map, if◌then◌else◌}
use Rattle.std.specs.List.{AllByRecursion}
use Rattle.std.proofs.Common.{◌≡◌, ◌≤◌, ℕ, Bool, true, false, List, [], ◌∷◌, length, Option, Some, refl, sym, ◌∙◌, ap, subst, arith}
use Rattle.std.proofs.lemmas.List.{length-map}
use Rattle.sp_base.specs.declared.calls.Call.{Call}
use Rattle.sp_base.specs.declared.outcomes.Outcome.{Outcome}
use Rattle.sp_base.specs.declared.reads.ReadItem.{ReadItem}
use Rattle.sp_base.specs.declared.writes.Write.{Write}
use Rattle.sp_base.specs.Limits.{IsArguments}
use Rattle.sp_base.specs.Places.{Place, same_place}
use Rattle.sp_base.specs.RightsList.{can_read}
use Rattle.ext_mean.specs.declared.tree.Program.{Program}
use Rattle.ext_mean.specs.Asked.{AreAsked, IsComplete}
use Rattle.ext_mean.specs.Meaning.{mean}
use Rattle.ext_mean.specs.Outcomes.{ChangeFits, EndsWith, ReplyFits}
use Rattle.ext_mean.specs.Views.{View, part, place_of, value_read}
use Rattle.records.specs.GrantsList.{GrantsList, RightsList}
use Rattle.journal.specs.declared.entry.Entry.{Entry}
use Rattle.journal.specs.Folds.{value_at}
use Rattle.journal.specs.Granted.{granted}
use Rattle.journal.specs.Reads.{IsCurrent, IsHeld, bare, valued}
use Rattle.journal.proofs.Committing.{run-fits, run-legal, run-within}
use Rattle.journal.proofs.TrueReads.{held-current}
use Rattle.journal.proofs.Versions.{valued-record}
use Rattle.book.specs.Standing.{IsAudited, IsTrueTo, MayJoin, RanOn, SentOn}
use Rattle.book.specs.Verdict.{entry_of, sent_entry}

-- the value of a held read's version, which still stands, is the read's
version-told : (journal : List Entry) (read : ReadItem) → IsHeld journal read → IsCurrent journal read
    → value_at journal (place_of read) read.version ≡ read.value
version-told journal read held current =
    ap (λ (n : ℕ). value_at journal (place_of read) n) current
    ∙ (valued-record journal (place_of read)).value
    ∙ held-current journal read held current

-- so bare reads with the values of their versions know what the reads knew
values-told : (journal : List Entry) (reads : List ReadItem) (place : Place)
    → AllByRecursion (IsHeld journal) reads → AllByRecursion (IsCurrent journal) reads
    → value_read (map (valued journal) (map bare reads)) place ≡ value_read reads place
values-told journal [] place held current = refl
values-told journal (read ∷ reads) place held current =
    ap (λ (value : Option (List ℕ)). if same_place (place_of read) place then Some value else value_read (map (valued journal) (map bare reads)) place)
    (version-told journal read held.0 current.0)
    ∙ ap (λ (others : Option (Option (List ℕ))). if same_place (place_of read) place then Some read.value else others)
    (values-told journal reads place held.1 current.1)

part-told : (journal : List Entry) (reads : List ReadItem) (rights : RightsList)
    → AllByRecursion (IsHeld journal) reads → AllByRecursion (IsCurrent journal) reads
    → part (map (valued journal) (map bare reads)) rights ≡ part reads rights
part-told journal reads rights held current =
    λ i. record { rights = rights; known = λ place. values-told journal reads place held current i }

-- what is true to the reads that were kept is honest on the versions that the entry keeps
audited : (grants : GrantsList) (audit : Bool) (journal : List Entry) (call : Call) (program : Program)
    (outcome : Outcome) (writes : List Write) (reads : List ReadItem)
    → AllByRecursion (IsHeld journal) reads → AllByRecursion (IsCurrent journal) reads
    → IsTrueTo audit (granted grants journal call.caller.tenant) call program outcome writes reads
    → IsAudited audit grants journal call program outcome writes (map bare reads)
audited grants true journal call program outcome writes reads held current meant =
    subst (λ (view : View). EndsWith (mean program call.args call.budget view) outcome writes)
    (sym (part-told journal reads (granted grants journal call.caller.tenant) held current)) meant
audited grants false journal call program outcome writes reads held current meant = tt

bare-current : (journal : List Entry) (reads : List ReadItem) → AllByRecursion (IsCurrent journal) reads
    → AllByRecursion (IsCurrent journal) (map bare reads)
bare-current journal [] current = tt
bare-current journal (read ∷ reads) current = (current.0, bare-current journal reads current.1)

bare-readable : (rights : RightsList) (reads : List ReadItem) → AllByRecursion (λ read. IsTrue (can_read rights read.table.0)) reads
    → AllByRecursion (λ read. IsTrue (can_read rights read.table.0)) (map bare reads)
bare-readable rights [] readable = tt
bare-readable rights (read ∷ reads) readable = (readable.0, bare-readable rights reads readable.1)

-- a run that its client sent may join the journal
pub sent-joins : (grants : GrantsList) (audit : Bool) (journal : List Entry) (call : Call)
    (outcome : Outcome) (writes : List Write) (reads : List ReadItem)
    → IsArguments call.args → ReplyFits outcome → AllByRecursion ChangeFits writes
    → length writes ≤ 64 → length reads ≤ 6250
    → SentOn grants audit journal call outcome writes reads
    → MayJoin grants audit journal (sent_entry call outcome writes reads) reads
sent-joins grants audit journal call outcome writes reads arguments reply values few small sent = record {
  fits = record {
    arguments = arguments;
    reply = reply;
    few_writes = omega (arith, few);
    values = values;
    few_reads = omega (arith, small, length-map reads bare);
  };
  within = record {
    reading = bare-readable (granted grants journal call.caller.tenant) reads sent.within.reading;
    writing = sent.within.writing;
  };
  sound = λ current. record {
    program = sent.program;
    names = sent.named;
    current = bare-current journal reads current;
    honest = audited grants audit journal call sent.program outcome writes reads sent.held current sent.true_to;
  };
}

-- a finished run may join the journal
pub done-joins : (grants : GrantsList) (audit : Bool) (journal : List Entry) (call : Call) (program : Program)
    (rights : RightsList) (outcome : Outcome) (writes : List Write) (reads : List ReadItem)
    → IsArguments call.args → length reads ≤ 6250
    → EndsWith (mean program call.args call.budget (part reads rights)) outcome writes
    → AreAsked program call.args call.budget rights reads → IsComplete program call.args call.budget rights reads
    → RanOn grants journal call program rights reads
    → MayJoin grants audit journal (entry_of call outcome writes reads) reads
done-joins grants audit journal call program rights outcome writes reads arguments small meant asked complete ran = record {
  fits = run-fits program call.args call.budget reads rights outcome writes arguments small meant;
  within = run-within grants journal call program reads rights outcome writes ran.own asked meant;
  sound = λ current. run-legal grants journal call program reads rights outcome writes ran.own ran.named ran.held current asked complete meant;
}
