-- What a journal says of a session, every longer one says too.
use Rattle.std.specs.Prelude.{ℕ, List, ◌++◌}
use Rattle.sp_base.specs.declared.calls.Asked.{Asked}
use Rattle.sp_base.specs.declared.calls.Call.{Call}
use Rattle.sp_base.specs.declared.calls.Policy.{Policy}
use Rattle.records.specs.GrantsList.{GrantsList}
use Rattle.journal.specs.declared.entry.Entry.{Entry}
use Rattle.book.specs.declared.ends.End.{End}
use Rattle.book.specs.Ends.{ItemHolds}
use Rattle.wire.specs.declared.answers.Answer.{Answer}
use Rattle.wire.specs.declared.requests.Request.{Request}
use Rattle.session.specs.declared.session.Session.{Session}
use Rattle.session.specs.declared.plan.Ask.{Ask}
use Rattle.session.specs.Standing.{AskFits, Awaits, Fits}
use Rattle.session.specs.States.{State, Terms}
use Rattle.session.specs.Steps.{Step}

-- An explained answer, the end of a call, a session that fits and one that waits for its calls: each stays
-- what it is as the journal grows.
pub record LongerJournalsExplainAsMuch : Type 0 where
  pub items : (grants : GrantsList) (limit : ℕ) (policy : Policy) (journal later : List Entry) (seen : ℕ) (call : Call) (end : End)
      → ItemHolds grants limit policy journal seen call end → ItemHolds grants limit policy (journal ++ later) seen call end
  pub steps : (terms : Terms) (journal later : List Entry) (state : State) (message : Request) (given : Answer) (next : State)
      → Step terms journal state message given next → Step terms (journal ++ later) state message given next
  pub fits : (session : Session) (journal later : List Entry) (grants : GrantsList)
      → Fits session journal grants → Fits session (journal ++ later) grants
  pub asks : (session : Session) (given : Ask) (journal later : List Entry) (grants : GrantsList)
      → AskFits session given journal grants → AskFits session given (journal ++ later) grants
  pub waits : (session : Session) (terms : Terms) (journal later : List Entry) (calls : List Asked)
      → Awaits session terms journal calls → Awaits session terms (journal ++ later) calls
