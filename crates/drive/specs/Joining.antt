-- Entries that joined a journal, and the answers that tell them.
use Rattle.std.specs.Prelude.{◌≡◌, ◌≤◌, ◌<◌, ℕ, List, length, Some, slice_get}
use Rattle.sp_base.specs.declared.outcomes.Outcome.{Outcome}
use Rattle.journal.specs.declared.entry.Entry.{Entry}
use Rattle.book.specs.declared.ends.CallEnd.{CallEnd}
use Rattle.wire.specs.declared.answers.Answer.{Answer}
use Rattle.wire.specs.declared.answers.Answer.TheVariants as answer
use Rattle.wire.specs.declared.items.Item.{Item}
use Rattle.wire.specs.declared.items.Item.TheVariants as item
use Rattle.session.specs.Standing.{IsCommitted, own_entry}

-- an answer tells the entry of this number, as the one of its request or as that of a call of its batch
pub data TellsEntry (n : ℕ) : Answer → Type 0 where
  of_request : (given : Answer) → own_entry given ≡ Some n → TellsEntry n given
  of_call : (items : List Item) (place : ℕ) (outcome : Outcome) → slice_get items place ≡ Some (item.Committed n outcome)
      → TellsEntry n (answer.Answers items)

-- one of these answers tells it
pub record IsShownIn (answers : List Answer) (n : ℕ) : Type 0 where
  pub at : ℕ
  pub given : Answer
  pub there : slice_get answers at ≡ Some given
  pub tells : TellsEntry n given

-- each entry of the journal from this number on is told by one of these answers
abbrev pub AreShown : ℕ → List Entry → List Answer → Type 0
AreShown from journal answers = (n : ℕ) → from ≤ n → n < length journal → IsShownIn answers n

-- each entry of the journal from this number on is that of a call that was committed as its end
abbrev pub AreCommitted : ℕ → List Entry → List CallEnd → Type 0
AreCommitted from journal ends = (n : ℕ) → from ≤ n → n < length journal → (place : ℕ) × IsCommitted ends place n
