-- What the parts of a play are, and what a listener hears of them.
use Rattle.std.specs.Prelude.{◌≡◌, ℕ, Bool, true, false, List, ◌++◌, fold, map}
use Rattle.report.specs.declared.line.Line.{Line}
use Rattle.report.specs.declared.line.Prefix.TheVariants.{At}
use Rattle.sched_text.specs.declared.event.Event.{Event}
use Rattle.sched_text.specs.declared.script.Script.{Script}
use Rattle.sim.specs.declared.sim.Sim.{Sim}
use Rattle.sim.specs.Play.{Answer, Drains, Follows, in_drain}
use Rattle.sim.specs.Standing.{DrainStep, NoneLeft, Played, StandsAt}
use Rattle.sim.specs.State.{SimState}
use Rattle.splinter.specs.Running.{IsOnePlay}

module _ {Listener : Type 0} (hear : Listener → Answer → Listener) where
  -- an event was played, and its answer was heard
  pub record TellsEvent (old new : Sim) (number : ℕ) (event : Event) (before after : Listener) : Type 0 where
    pub line : Line
    pub played : Played old new event line
    pub heard : after ≡ hear before (At number, line)

  -- from this state the events were played, and their answers were heard
  pub record TellsBody (old : SimState) (sim : Sim) (events : List (ℕ × Event)) (before after : Listener) : Type 0 where
    pub state : SimState
    pub at : StandsAt sim state
    pub answers : List Answer
    pub follows : Follows old events answers state
    pub heard : after ≡ fold hear before answers

  -- the next event of the drain was played, and its answer was heard
  pub record StepTold (old new : Sim) (before after : Listener) : Type 0 where
    pub line : Line
    pub played : DrainStep old new line
    pub heard : after ≡ hear before (in_drain line)

  -- no call is live, and nothing was heard
  pub record NoneTold (old new : Sim) (before after : Listener) : Type 0 where
    pub none : NoneLeft old new
    pub heard : after ≡ before

  abbrev pub TellsStep : Bool → Sim → Sim → Listener → Listener → Type 0
  TellsStep true old new before after = StepTold old new before after
  TellsStep false old new before after = NoneTold old new before after

  -- from this state some events of the drain were played, and their answers were heard; as the drain goes on
  -- from there, it goes on from the first state
  pub record TellsSteps (old : SimState) (sim : Sim) (before after : Listener) : Type 0 where
    pub state : SimState
    pub at : StandsAt sim state
    pub lines : List Line
    pub goes_on : (rest : List Line) (last : SimState) → Drains state rest last → Drains old (lines ++ rest) last
    pub heard : after ≡ fold hear before (map in_drain lines)

  -- the same of the whole drain
  pub record TellsDrain (old : SimState) (sim : Sim) (before after : Listener) : Type 0 where
    pub state : SimState
    pub at : StandsAt sim state
    pub lines : List Line
    pub drains : Drains old lines state
    pub heard : after ≡ fold hear before (map in_drain lines)

  -- the script was played to its end, where the simulation stands, and its answers were heard
  pub record TellsPlay (script : Script) (sim : Sim) (before after : Listener) : Type 0 where
    pub answers : List Answer
    pub state : SimState
    pub at : StandsAt sim state
    pub play : IsOnePlay script answers state.journal
    pub heard : after ≡ fold hear before answers
