-- What the command `drill` writes.
use Rattle.std.specs.Prelude.{◌≡◌, ℕ, ◌+◌, Bool, true, false, List, ◌++◌, length, count_by, Option, Some, if◌then◌else◌}
use Rattle.sp_outside.specs.Writing.{HoldsPrefix}
use Rattle.journal.specs.declared.entry.Entry.{Entry}
use Rattle.load_gen.specs.Drill.{drill_script}
use Rattle.report.specs.declared.counts.Counts.{Counts}
use Rattle.report.specs.declared.line.Line.{Line}
use Rattle.report.specs.declared.line.Line.TheVariants as line
use Rattle.report.specs.declared.line.Said.{Said}
use Rattle.report.specs.declared.line.Said.TheVariants as said
use Rattle.report.specs.Summary.{summary_text}
use Rattle.sim.specs.Play.{Answer}
use Rattle.splinter.specs.declared.status.Status.{Status}
use Rattle.splinter.specs.declared.status.Status.TheVariants as status
use Rattle.splinter.specs.Running.{HoldsSome, IsOnePlay}

-- ---- what is counted

-- what is said of a call tells that it committed, that it met a conflict, that it was pushed to its client
abbrev pub says_commit : Said → Bool
says_commit (said.Committed n outcome) = true
says_commit other = false

abbrev pub says_conflict : Said → Bool
says_conflict (said.Conflict table key read now) = true
says_conflict other = false

abbrev pub says_push : Said → Bool
says_push (said.Read table key version pushed) = pushed
says_push (said.On spent pushed) = pushed
says_push other = false

-- the line is of a call, and tells this of it
abbrev pub tells : (Said → Bool) → Line → Bool
tells says (line.Of caller number said away) = says said
tells says other = false

abbrev pub tells_commit : Line → Bool
tells_commit told = tells says_commit told

abbrev pub tells_conflict : Line → Bool
tells_conflict told = tells says_conflict told

abbrev pub tells_push : Line → Bool
tells_push told = tells says_push told

-- the counts of a drill with so many calls, by its answers and its journal
abbrev pub drill_counts : ℕ → List Answer → List Entry → Counts
drill_counts calls answers journal = record {
  calls = calls;
  committed = count_by (λ answer. tells_commit answer.1) answers;
  conflict = count_by (λ answer. tells_conflict answer.1) answers;
  pushed = count_by (λ answer. tells_push answer.1) answers;
  journal = length journal;
}

-- one more, where this is so
abbrev pub one_if : Bool → ℕ → ℕ
one_if more count = if more then count + 1 else count

-- the counts, once a line was heard
abbrev pub counted : Counts → Line → Counts
counted counts told = record counts {
  committed = one_if (tells_commit told) counts.committed;
  conflict = one_if (tells_conflict told) counts.conflict;
  pushed = one_if (tells_push told) counts.pushed;
}

-- ---- what is written

-- these are the counts of the drill's one play, whose journal is one legal history
pub record CountsDrill (count seed : ℕ) (counts : Counts) : Type 0 where
  pub answers : List Answer
  pub journal : List Entry
  pub play : IsOnePlay (drill_script count seed) answers journal
  pub counts_are : counts ≡ drill_counts count answers journal

-- the text is the summary of the drill's one play
pub record IsDrillOf (count seed : ℕ) (text : List ℕ) : Type 0 where
  pub counts : Counts
  pub counted : CountsDrill count seed counts
  pub text_is : text ≡ summary_text counts

-- ---- what stands after a drill

-- the whole summary stands behind what was held
pub record WritesSummary (count seed : ℕ) (held : List ℕ) (after : Option (List ℕ)) : Type 0 where
  pub text : List ℕ
  pub summary : IsDrillOf count seed text
  pub written : after ≡ Some (held ++ text)

-- a prefix of the summary, and not all of it, stands behind what was held
pub record WritesPrefix (count seed : ℕ) (held : List ℕ) (after : Option (List ℕ)) : Type 0 where
  pub text : List ℕ
  pub summary : IsDrillOf count seed text
  pub prefix : HoldsPrefix held text after

-- what a drill leaves, by its status, of a sink that held these bytes
abbrev pub Drills : Status → ℕ → ℕ → List ℕ → Option (List ℕ) → Type 0
Drills status.Ok count seed held after = WritesSummary count seed held after
Drills status.WriteFault count seed held after = WritesPrefix count seed held after
Drills status.Memory count seed held after = (text : List ℕ) → IsDrillOf count seed text → HoldsSome held text after
Drills status.Refused count seed held after = ⊥
Drills status.Usage count seed held after = ⊥
Drills status.Script count seed held after = ⊥
Drills status.ReadFault count seed held after = ⊥

-- where the drill was played to its end, its script has a summary
abbrev pub HasPlay : Status → ℕ → ℕ → Type 0
HasPlay status.Ok count seed = (text : List ℕ) × IsDrillOf count seed text
HasPlay status.WriteFault count seed = (text : List ℕ) × IsDrillOf count seed text
HasPlay status.Memory count seed = Unit {0}
HasPlay status.Refused count seed = ⊥
HasPlay status.Usage count seed = ⊥
HasPlay status.Script count seed = ⊥
HasPlay status.ReadFault count seed = ⊥
