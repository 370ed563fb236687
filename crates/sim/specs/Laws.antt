-- What holds of every play.
use Rattle.std.specs.Prelude.{◌≡◌, ◌≢◌, List}
use Rattle.std.specs.List.{AllByRecursion}
use Rattle.journal.specs.declared.entry.Entry.{Entry}
use Rattle.report.specs.declared.line.Line.{Line}
use Rattle.report.specs.declared.line.Line.TheVariants as line
use Rattle.report.specs.declared.line.Said.{Said}
use Rattle.report.specs.declared.line.Said.TheVariants as said
use Rattle.sched_text.specs.declared.event.Event.{Event}
use Rattle.sched_text.specs.declared.script.Script.{Script}
use Rattle.sim.specs.Play.{Answer, IsJudged, Judgement, Plays}

-- of every event one thing is judged at most
abbrev pub EventsAreJudgedOnce : Type 0
EventsAreJudgedOnce =
    (event : Event) (one other : Judgement) → IsJudged event one → IsJudged event other → one ≡ other

-- a script has one play at most
abbrev pub ScriptsHaveOnePlay : Type 0
ScriptsHaveOnePlay =
    (script : Script) (answers others : List Answer) (journal another : List Entry)
    → Plays script answers journal → Plays script others another → (answers ≡ others) × (journal ≡ another)

-- a conflict shows the version that was read and the one that then stood, and they differ
abbrev pub SaysMoved : Said → Type 0
SaysMoved (said.Conflict table key read now) = read ≢ now
SaysMoved _ = Unit {0}

abbrev pub TellsMoved : Line → Type 0
TellsMoved (line.Of caller number what away) = SaysMoved what
TellsMoved _ = Unit {0}

-- every Conflict among the answers tells of a read whose version had moved
abbrev pub ConflictsHaveMoved : List Answer → Type 0
ConflictsHaveMoved answers = AllByRecursion (λ answer. TellsMoved answer.1) answers

abbrev pub PlaysTellMovedReads : Type 0
PlaysTellMovedReads =
    (script : Script) (answers : List Answer) (journal : List Entry) → Plays script answers journal → ConflictsHaveMoved answers
