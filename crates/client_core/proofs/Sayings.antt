-- All that is said is sayable: each request fits, and each end is the meaning on the records given.
use Rattle.std.specs.Prelude.{◌&&◌, IsTrue}
use Rattle.std.specs.List.{AllByRecursion}
use Rattle.std.proofs.Common.{◌≡◌, ◌≤◌, ◌<◌, ◌^◌, ℕ, Bool, true, false, List, [], ◌∷◌, length, Option, Some, None, refl, sym, ◌∙◌, ap, subst, arith}
use borrow.Author.Tests.{ltb-true}
use Rattle.sp_base.specs.Limits.{IsKey, IsValue}
use Rattle.sp_base.specs.RightsList.{can_write, level_of, allows_write, is_table, can_read, allows_read}
use Rattle.sp_base.specs.Spelling.{FitsChange, FitsOutcome, FitsWrite, FitWrites, IsU32, IsU64}
use Rattle.sp_base.specs.declared.calls.Call.{Call}
use Rattle.sp_base.specs.declared.numbers.CallNo.{CallNo}
use Rattle.sp_base.specs.declared.numbers.TableId.{TableId}
use Rattle.sp_base.specs.declared.outcomes.Outcome.{Outcome}
use Rattle.sp_base.specs.declared.outcomes.Outcome.TheVariants as outcomes
use Rattle.sp_base.specs.declared.rights.Level.{Level}
use Rattle.sp_base.specs.declared.writes.Change.{Change}
use Rattle.sp_base.specs.declared.writes.Change.TheVariants.{Put, Del}
use Rattle.sp_base.specs.declared.writes.Write.{Write}
use Rattle.ext_mean.specs.declared.run.Run.{Run}
use Rattle.ext_mean.specs.declared.run.Run.TheVariants as run
use Rattle.ext_mean.specs.declared.tree.Program.{Program}
use Rattle.ext_mean.specs.Confinement.{IsWithinLimits}
use Rattle.ext_mean.specs.Meaning.{mean}
use Rattle.ext_mean.specs.Outcomes.{ChangeFits, EndsWith, PutFits, ReplyFits, changes_of, outcome_of, wanted_by}
use Rattle.ext_mean.specs.Views.{part}
use Rattle.ext_mean.proofs.ConfinementProved.{only-readable, only-writable, within-limits}
use Rattle.wire.specs.declared.requests.Request.TheVariants.{Finish, Fetch, TextOf}
use Rattle.client_core.specs.declared.answered.CallAnswer.{CallAnswer}
use Rattle.client_core.specs.declared.next.Next.TheVariants.{Send, Answered, PeerFault, Memory}
use Rattle.client_core.specs.declared.stage.Awaited.TheVariants.{TheText, TheRecord, TheEnd}
use Rattle.client_core.specs.declared.stage.Carried.{Carried}
use Rattle.client_core.specs.declared.stage.Stage.TheVariants.{Idle, Carries}
use Rattle.client_core.specs.Finishing.{IsSayable}
use Rattle.client_core.specs.Talking.{Known, after_run, fault, finishing, program_in}

-- the second of two tests that both hold
second : (a b : Bool) → IsTrue (a && b) → IsTrue b
second true b both = both
second false b both = absurd (cc)

-- a table that may be written, or read, has a number of 32 bits
writable-small : (rights : List (TableId × Level)) (table : ℕ) → IsTrue (can_write rights table) → IsU32 table
writable-small rights table may = ltb-true table (2 ^ 32) (second (allows_write (level_of rights table)) (is_table table) may)

readable-small : (rights : List (TableId × Level)) (table : ℕ) → IsTrue (can_read rights table) → IsU32 table
readable-small rights table may = ltb-true table (2 ^ 32) (second (allows_read (level_of rights table)) (is_table table) may)

change-fits : (change : Change) → PutFits change → FitsChange change
change-fits (Put value) fits = fits
change-fits Del fits = tt

each-fits : (rights : List (TableId × Level)) (writes : List Write)
    → AllByRecursion (λ write. IsTrue (can_write rights write.table.0)) writes
    → AllByRecursion (λ write. IsKey write.key) writes → AllByRecursion ChangeFits writes
    → AllByRecursion FitsWrite writes
each-fits rights [] may keys values = tt
each-fits rights (write ∷ writes) may keys values = (
  record { table = writable-small rights write.table.0 may.0; key = keys.0; change = change-fits write.change values.0 },
  each-fits rights writes may.1 keys.1 values.1,
)

outcome-fits : (run : Run) (outcome : Outcome) → IsWithinLimits run → outcome_of run ≡ Some outcome
    → ((code : ℕ) (bytes : List ℕ) → outcome ≡ outcomes.Done (record { code = code; bytes = bytes }) → IsU64 code)
    → FitsOutcome outcome
outcome-fits run (outcomes.Done reply) small is code = (code reply.code reply.bytes refl, small.reply (outcomes.Done reply) is)
outcome-fits run (outcomes.Trapped trap) small is code = tt
outcome-fits run outcomes.Killed small is code = tt

-- nothing is known of the fault of a peer but that no more is said
pub fault-sayable : (known : Known) → IsSayable known fault
fault-sayable known = record {
  told = λ same. (cc);
  fits = tt;
  meant = record { each = λ caller number outcome writes same. absurd (cc) };
  rests = λ answers same. absurd (cc);
}

pub answered-sayable : (known : Known) (answers : List CallAnswer) → IsSayable known (Answered answers, Idle)
answered-sayable known answers = record {
  told = λ same. (cc);
  fits = tt;
  meant = record { each = λ caller number outcome writes same. absurd (cc) };
  rests = λ others same. refl;
}

pub asking-sayable : (known : Known) (carried : Carried) → IsU32 carried.call.ext.0
    → IsSayable known (Send (TextOf carried.call.ext), Carries carried TheText)
asking-sayable known carried small = record {
  told = λ same. (cc);
  fits = small;
  meant = record { each = λ caller number outcome writes same. absurd (cc) };
  rests = λ answers same. absurd (cc);
}

fetching-sayable : (known : Known) (carried : Carried) (table : TableId) (key : List ℕ)
    → IsU32 carried.call.caller.number → IsU64 carried.call.number.0 → IsU32 table.0 → IsKey key
    → IsSayable known (Send (Fetch carried.call.caller.number carried.call.number table key), Carries carried (TheRecord table key))
fetching-sayable known carried table key caller number small sized = record {
  told = λ same. (cc);
  fits = (caller, (number, (small, sized)));
  meant = record { each = λ of at outcome writes same. absurd (cc) };
  rests = λ answers same. absurd (cc);
}

finishing-sayable : (known : Known) (carried : Carried) (program : Program) (outcome : Outcome) (writes : List Write)
    → program_in known.programs carried.call.ext ≡ Some program
    → IsU32 carried.call.caller.number → IsU64 carried.call.number.0 → FitsOutcome outcome → FitWrites writes
    → EndsWith (mean program carried.call.args carried.call.budget (part carried.reads known.rights)) outcome writes
    → IsSayable known (finishing carried outcome writes)
finishing-sayable known carried program outcome writes given caller number fits each ends = record {
  told = λ same. (cc);
  fits = (caller, (number, (fits, each)));
  meant = record {
    each = λ of at sent changes same.
        let one : outcome ≡ sent = (cc) in
        let other : writes ≡ changes = (cc) in
        record {
          carried = carried;
          carries = refl;
          caller_is = (cc);
          number_is = (cc);
          program = program;
          given = given;
          ends =
              subst (λ (list : List Write). EndsWith (mean program carried.call.args carried.call.budget (part carried.reads known.rights)) sent list) other
              (subst (λ (o : Outcome). EndsWith (mean program carried.call.args carried.call.budget (part carried.reads known.rights)) o writes) one ends);
        };
  };
  rests = λ answers same. absurd (cc);
}

-- the end of a run is sayable
ended-sayable : (known : Known) (carried : Carried) (program : Program) (outcome : Outcome) (writes : List Write)
    → program_in known.programs carried.call.ext ≡ Some program
    → IsU32 carried.call.caller.number → IsU64 carried.call.number.0
    → ((code : ℕ) (bytes : List ℕ) → outcome ≡ outcomes.Done (record { code = code; bytes = bytes }) → IsU64 code)
    → EndsWith (mean program carried.call.args carried.call.budget (part carried.reads known.rights)) outcome writes
    → IsSayable known (finishing carried outcome writes)
ended-sayable known carried program outcome writes given caller number code ends =
    let small = within-limits program carried.call.args carried.call.budget (part carried.reads known.rights) in
    let may = only-writable program carried.call.args carried.call.budget (part carried.reads known.rights) in
    let few : length writes ≤ 255 = omega (arith, small.few, ap length ends.leaves) in
    let each : AllByRecursion FitsWrite writes =
    subst (λ (list : List Write). AllByRecursion FitsWrite list) ends.leaves
    (each-fits known.rights _ may small.keys small.values) in
    finishing-sayable known carried program outcome writes given caller number
    (outcome-fits _ outcome small ends.answers code) (few, each) ends

-- the code of a run that came to its end has 64 bits
abbrev pub CodeFits : Run → Type 0
CodeFits (run.Done reply writes used) = IsU64 reply.code
CodeFits (run.Trapped trap used) = Unit {0}
CodeFits run.Spent = Unit {0}
CodeFits (run.Wants table key used) = Unit {0}

-- what a run of the call's program on the records given leads to is sayable
pub run-sayable : (known : Known) (carried : Carried) (program : Program) (run : Run)
    → program_in known.programs carried.call.ext ≡ Some program
    → IsU32 carried.call.caller.number → IsU64 carried.call.number.0 → CodeFits run
    → mean program carried.call.args carried.call.budget (part carried.reads known.rights) ≡ run
    → IsSayable known (after_run carried run)
run-sayable known carried program (run.Wants table key used) given caller number code is =
    let due = only-readable program carried.call.args carried.call.budget (part carried.reads known.rights)
    (record { table = table.0; key = key }) (ap wanted_by is) in
    fetching-sayable known carried table key caller number (readable-small known.rights table.0 due.0) due.1
run-sayable known carried program (run.Done reply writes used) given caller number code is =
    ended-sayable known carried program (outcomes.Done reply) writes given caller number
    (λ other bytes same. let e : reply.code ≡ other = (cc) in subst (λ (n : ℕ). IsU64 n) e code)
    (record { answers = ap outcome_of is; leaves = ap changes_of is })
run-sayable known carried program (run.Trapped trap used) given caller number code is =
    ended-sayable known carried program (outcomes.Trapped trap) [] given caller number (λ other bytes same. absurd (cc))
    (record { answers = ap outcome_of is; leaves = ap changes_of is })
run-sayable known carried program run.Spent given caller number code is =
    ended-sayable known carried program outcomes.Killed [] given caller number (λ other bytes same. absurd (cc))
    (record { answers = ap outcome_of is; leaves = ap changes_of is })
