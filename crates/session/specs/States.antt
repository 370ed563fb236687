-- What a session has come to: its tenant, the calls that were handed back to its client, and the part of
-- the journal that it has seen.
use Rattle.std.specs.Prelude.{◌≡◌, ℕ, ◌+◌, ◌==◌, ◌&&◌, max, Bool, List, [], ◌∷◌, Option, Some, None, if◌then◌else◌}
use Rattle.std.specs.List.{list_any}
use Rattle.sp_base.specs.declared.numbers.TenantId.{TenantId}
use Rattle.sp_base.specs.declared.reads.ReadItem.{ReadItem}
use Rattle.records.specs.GrantsList.{GrantsList}
use Rattle.task.specs.Parking.{ParkedCall}
use Rattle.wire.specs.declared.answers.Answer.{Answer}
use Rattle.wire.specs.declared.answers.Answer.TheVariants as answer
use Rattle.wire.specs.declared.answers.FetchAnswer.{FetchAnswer}
use Rattle.wire.specs.declared.answers.FetchAnswer.TheVariants as fetched
use Rattle.wire.specs.declared.answers.InstallAnswer.{InstallAnswer}
use Rattle.wire.specs.declared.answers.InstallAnswer.TheVariants as installed
use Rattle.wire.specs.declared.answers.PutAnswer.{PutAnswer}
use Rattle.wire.specs.declared.answers.PutAnswer.TheVariants as puts
use Rattle.wire.specs.declared.answers.TextAnswer.{TextAnswer}
use Rattle.wire.specs.declared.answers.TextAnswer.TheVariants as texts
use Rattle.wire.specs.declared.items.Item.{Item}
use Rattle.wire.specs.declared.items.Item.TheVariants as item
use Rattle.session.specs.declared.conf.SessionConf.{SessionConf}

-- on what terms a session answers: how it is configured, and the grants and the most entries of its book
pub record Terms : Type 0 where
  pub conf : SessionConf
  pub grants : GrantsList
  pub limit : ℕ

-- whether a tenant is configured with this key
abbrev pub knows : SessionConf → TenantId → ℕ → Bool
knows conf tenant secret = list_any (λ known. (known.0.0 == tenant.0) && (known.1 == secret)) conf.tenants.items

-- A call that was handed back to the client, with the reads that are kept for it. It is doubtful once
-- its client was answered that memory had run out: then it may be gone.
pub record Kept : Type 0 where
  pub parked : ParkedCall
  pub doubtful : Bool

-- The tenant, once it has said Hello; the calls that its client carries on, at most one of each caller; and the
-- number of entries of the journal that the session has seen.
pub record State : Type 0 where
  pub tenant : Option TenantId
  pub kept : List Kept
  pub seen : ℕ

-- a session begins with no tenant and no call, and has seen nothing
abbrev pub opening : State
opening = record { tenant = None; kept = []; seen = 0 }

-- ---- Calls that are kept

abbrev pub is_of : ℕ → Kept → Bool
is_of caller kept = kept.parked.call.caller.number == caller

-- the kept call of a caller
abbrev pub kept_of : List Kept → ℕ → Option Kept
kept_of [] caller = None
kept_of (kept ∷ others) caller = if is_of caller kept then Some kept else kept_of others caller

-- at most one call of each caller
abbrev pub IsMap : List Kept → Type 0
IsMap [] = Unit {0}
IsMap (kept ∷ others) = (kept_of others kept.parked.call.caller.number ≡ None) × IsMap others

-- without the call of a caller
abbrev pub without : List Kept → ℕ → List Kept
without [] caller = []
without (kept ∷ others) caller = if is_of caller kept then without others caller else kept ∷ without others caller

-- without the call of a caller, where it is doubtful
abbrev pub without_doubtful : List Kept → ℕ → List Kept
without_doubtful [] caller = []
without_doubtful (kept ∷ others) caller =
    if is_of caller kept && kept.doubtful then without_doubtful others caller else kept ∷ without_doubtful others caller

-- with the call of a caller as it now is
abbrev pub with_call : List Kept → ℕ → Kept → List Kept
with_call [] caller now = []
with_call (kept ∷ others) caller now =
    if is_of caller kept then now ∷ with_call others caller now else kept ∷ with_call others caller now

-- how many calls are kept that are not doubtful
abbrev pub parked_count : List Kept → ℕ
parked_count [] = 0
parked_count (kept ∷ others) = if kept.doubtful then parked_count others else parked_count others + 1

-- ---- What an answer shows of the journal

-- after the moments of some reads
abbrev pub seen_in_reads : ℕ → List ReadItem → ℕ
seen_in_reads seen [] = seen
seen_in_reads seen (read ∷ reads) = seen_in_reads (max seen read.read_at) reads

-- an entry that is shown is seen, and so is the journal up to a moment that is shown
abbrev pub seen_in_item : ℕ → Item → ℕ
seen_in_item seen (item.Committed n outcome) = max seen (n + 1)
seen_in_item seen (item.Stale last at) = max seen at
seen_in_item seen (item.Conflict table key read read_at now now_at) = max (max seen read_at) now_at
seen_in_item seen (item.Pushed load spent reads) = seen_in_reads seen reads
seen_in_item seen (item.Full at) = max seen at
seen_in_item seen (item.NoExtension count at) = max seen at
seen_in_item seen _ = seen

abbrev pub seen_in_items : ℕ → List Item → ℕ
seen_in_items seen [] = seen
seen_in_items seen (item ∷ items) = seen_in_items (seen_in_item seen item) items

abbrev pub seen_in_install : ℕ → InstallAnswer → ℕ
seen_in_install seen (installed.Done n ext) = max seen (n + 1)
seen_in_install seen (installed.Full at) = max seen at
seen_in_install seen _ = seen

abbrev pub seen_in_fetch : ℕ → FetchAnswer → ℕ
seen_in_fetch seen (fetched.Found version read_at value) = max seen read_at
seen_in_fetch seen _ = seen

abbrev pub seen_in_put : ℕ → PutAnswer → ℕ
seen_in_put seen (puts.Done n) = max seen (n + 1)
seen_in_put seen (puts.Full at) = max seen at
seen_in_put seen _ = seen

abbrev pub seen_in_text : ℕ → TextAnswer → ℕ
seen_in_text seen (texts.NoExtension count at) = max seen at
seen_in_text seen _ = seen

-- how much of the journal a session has seen after an answer
abbrev pub seen_in : ℕ → Answer → ℕ
seen_in seen (answer.Welcome rights at) = max seen at
seen_in seen (answer.Installed given) = seen_in_install seen given
seen_in seen (answer.Answers items) = seen_in_items seen items
seen_in seen (answer.Fetched given) = seen_in_fetch seen given
seen_in seen (answer.Finished given) = seen_in_item seen given
seen_in seen (answer.PutDone given) = seen_in_put seen given
seen_in seen (answer.Text given) = seen_in_text seen given
seen_in seen (answer.Fault code) = seen

-- the state after an answer, with these calls kept
abbrev pub after_answer : State → Answer → List Kept → State
after_answer state answer kept = record { tenant = state.tenant; kept = kept; seen = seen_in state.seen answer }
