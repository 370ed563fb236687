-- The one spelling of each answer, and which answers have one.
use Rattle.std.specs.Prelude.{◌≡◌, ℕ, ◌≤◌, List, [], ◌∷◌, ◌++◌, length, take}
use Rattle.std.specs.List.{flat_map, AllByRecursion}
use Rattle.sp_base.specs.Limits.{IsKey, IsText}
use Rattle.wire.specs.declared.answers.Answer.{Answer}
use Rattle.wire.specs.declared.answers.Answer.TheVariants.{Welcome, Installed, Answers, Fetched, Finished, PutDone, Text, Fault}
use Rattle.wire.specs.declared.answers.FetchAnswer.{FetchAnswer}
use Rattle.wire.specs.declared.answers.FetchAnswer.TheVariants as fetched
use Rattle.wire.specs.declared.answers.InstallAnswer.{InstallAnswer}
use Rattle.wire.specs.declared.answers.InstallAnswer.TheVariants as installed
use Rattle.wire.specs.declared.answers.PutAnswer.{PutAnswer}
use Rattle.wire.specs.declared.answers.PutAnswer.TheVariants as puts
use Rattle.wire.specs.declared.answers.TextAnswer.{TextAnswer}
use Rattle.wire.specs.declared.answers.TextAnswer.TheVariants as texts
use Rattle.wire.specs.declared.items.Item.{Item}
use Rattle.wire.specs.declared.items.Item.TheVariants.{Committed, Stale, Conflict, Pushed, Full, Busy, Repeated, NoExtension, BadBudget, Memory, Foreign, Shape, Lied, NotParked}
use Rattle.sp_base.specs.Spelling.{u16, u32, u64, IsU32, IsU64, key, long, opt, FitsOpt, outcome, FitsOutcome, reads, FitReads, rights, FitRights}

-- the number is from least to most
pub record IsIn (least most n : ℕ) : Type 0 where
  pub low : least ≤ n
  pub high : n ≤ most

-- ---- answer items

abbrev pub item_tag : Item → ℕ
item_tag (Committed n ended) = 0
item_tag (Stale last at) = 1
item_tag (Conflict table place read read_at now now_at) = 2
item_tag (Pushed load spent seen) = 3
item_tag (Full at) = 4
item_tag (Busy number) = 5
item_tag Repeated = 6
item_tag (NoExtension count at) = 7
item_tag BadBudget = 8
item_tag Memory = 9
item_tag (Foreign table) = 10
item_tag (Shape code) = 11
item_tag Lied = 12
item_tag NotParked = 13

abbrev pub item_fields : Item → List ℕ
item_fields (Committed n ended) = u64 n ++ outcome ended
item_fields (Stale last at) = u64 last ++ u64 at
item_fields (Conflict table place read read_at now now_at) =
    u32 table.0 ++ (key place ++ (u64 read ++ (u64 read_at ++ (u64 now ++ u64 now_at))))
item_fields (Pushed load spent seen) = u32 load ++ (u32 spent ++ reads seen)
item_fields (Full at) = u64 at
item_fields (Busy number) = u64 number.0
item_fields (NoExtension count at) = u32 count ++ u64 at
item_fields (Foreign table) = u32 table.0
item_fields (Shape code) = code ∷ []
item_fields Repeated = []
item_fields BadBudget = []
item_fields Memory = []
item_fields Lied = []
item_fields NotParked = []

-- an item: its tag, and its fields
abbrev pub item : Item → List ℕ
item ended = item_tag ended ∷ item_fields ended

-- each field is within its range
abbrev pub FitsItem : Item → Type 0
FitsItem (Committed n ended) = IsU64 n × FitsOutcome ended
FitsItem (Stale last at) = IsU64 last × IsU64 at
FitsItem (Conflict table place read read_at now now_at) =
    IsU32 table.0 × (IsKey place × (IsU64 read × (IsU64 read_at × (IsU64 now × IsU64 now_at))))
FitsItem (Pushed load spent seen) = IsU32 load × (IsU32 spent × FitReads seen)
FitsItem (Full at) = IsU64 at
FitsItem (Busy number) = IsU64 number.0
FitsItem (NoExtension count at) = IsU32 count × IsU64 at
FitsItem (Foreign table) = IsU32 table.0
FitsItem (Shape code) = IsIn 1 3 code
FitsItem Repeated = Unit {0}
FitsItem BadBudget = Unit {0}
FitsItem Memory = Unit {0}
FitsItem Lied = Unit {0}
FitsItem NotParked = Unit {0}

-- how a call of a batch may end
abbrev pub EndsInBatch : Item → Type 0
EndsInBatch (Foreign table) = ⊥
EndsInBatch (Shape code) = ⊥
EndsInBatch Lied = ⊥
EndsInBatch NotParked = ⊥
EndsInBatch _ = Unit {0}

-- how a parked call may end
abbrev pub EndsParked : Item → Type 0
EndsParked (Pushed load spent seen) = ⊥
EndsParked (Busy number) = ⊥
EndsParked Repeated = ⊥
EndsParked (NoExtension count at) = ⊥
EndsParked BadBudget = ⊥
EndsParked _ = Unit {0}

abbrev pub FitsBatchItem : Item → Type 0
FitsBatchItem ended = EndsInBatch ended × FitsItem ended

abbrev pub FitsParkedItem : Item → Type 0
FitsParkedItem ended = EndsParked ended × FitsItem ended

-- from 1 to 64 items
pub record FitItems (items : List Item) : Type 0 where
  pub some : 1 ≤ length items
  pub few : length items ≤ 64
  pub each : AllByRecursion FitsBatchItem items

-- items behind their count
abbrev pub items_of : List Item → List ℕ
items_of items = u16 (length items) ++ flat_map item items

-- ---- answers of one request

abbrev pub install_answer : InstallAnswer → List ℕ
install_answer (installed.Done n ext) = 0 ∷ (u64 n ++ u32 ext.0)
install_answer (installed.Rejected line code) = 1 ∷ (u32 line ++ code ∷ [])
install_answer (installed.Full at) = 2 ∷ u64 at
install_answer installed.Memory = 3 ∷ []

abbrev pub FitsInstallAnswer : InstallAnswer → Type 0
FitsInstallAnswer (installed.Done n ext) = IsU64 n × IsU32 ext.0
FitsInstallAnswer (installed.Rejected line code) = IsU32 line × IsIn 1 16 code
FitsInstallAnswer (installed.Full at) = IsU64 at
FitsInstallAnswer installed.Memory = Unit {0}

abbrev pub fetch_answer : FetchAnswer → List ℕ
fetch_answer (fetched.Found version read_at value) = 0 ∷ (u64 version ++ (u64 read_at ++ opt value))
fetch_answer fetched.Denied = 1 ∷ []
fetch_answer fetched.NotParked = 2 ∷ []
fetch_answer fetched.Memory = 3 ∷ []
fetch_answer fetched.Many = 4 ∷ []

abbrev pub FitsFetchAnswer : FetchAnswer → Type 0
FitsFetchAnswer (fetched.Found version read_at value) = IsU64 version × (IsU64 read_at × FitsOpt value)
FitsFetchAnswer fetched.Denied = Unit {0}
FitsFetchAnswer fetched.NotParked = Unit {0}
FitsFetchAnswer fetched.Memory = Unit {0}
FitsFetchAnswer fetched.Many = Unit {0}

abbrev pub put_answer : PutAnswer → List ℕ
put_answer (puts.Done n) = 0 ∷ u64 n
put_answer puts.Denied = 1 ∷ []
put_answer (puts.Full at) = 2 ∷ u64 at
put_answer puts.Memory = 3 ∷ []

abbrev pub FitsPutAnswer : PutAnswer → Type 0
FitsPutAnswer (puts.Done n) = IsU64 n
FitsPutAnswer puts.Denied = Unit {0}
FitsPutAnswer (puts.Full at) = IsU64 at
FitsPutAnswer puts.Memory = Unit {0}

-- there is no tag 2
abbrev pub text_answer : TextAnswer → List ℕ
text_answer (texts.Text text) = 0 ∷ long text
text_answer (texts.NoExtension count at) = 1 ∷ (u32 count ++ u64 at)
text_answer texts.Memory = 3 ∷ []

abbrev pub FitsTextAnswer : TextAnswer → Type 0
FitsTextAnswer (texts.Text text) = IsText text
FitsTextAnswer (texts.NoExtension count at) = IsU32 count × IsU64 at
FitsTextAnswer texts.Memory = Unit {0}

-- ---- answers

-- a byte of kind, and the fields
abbrev pub answer : Answer → List ℕ
answer (Welcome granted at) = 65 ∷ (rights granted ++ u64 at)
answer (Installed given) = 66 ∷ install_answer given
answer (Answers items) = 67 ∷ items_of items
answer (Fetched given) = 68 ∷ fetch_answer given
answer (Finished ended) = 69 ∷ item ended
answer (PutDone given) = 70 ∷ put_answer given
answer (Text given) = 71 ∷ text_answer given
answer (Fault code) = 72 ∷ code ∷ []

-- each field is within its range
abbrev pub FitsAnswer : Answer → Type 0
FitsAnswer (Welcome granted at) = FitRights granted × IsU64 at
FitsAnswer (Installed given) = FitsInstallAnswer given
FitsAnswer (Answers items) = FitItems items
FitsAnswer (Fetched given) = FitsFetchAnswer given
FitsAnswer (Finished ended) = FitsParkedItem ended
FitsAnswer (PutDone given) = FitsPutAnswer given
FitsAnswer (Text given) = FitsTextAnswer given
FitsAnswer (Fault code) = IsIn 1 5 code

-- the body is an answer's spelling
pub record SpellsAnswer (body : List ℕ) (message : Answer) : Type 0 where
  pub fits : FitsAnswer message
  pub spelled : body ≡ answer message

-- some answer's spelling begins so
pub record BeginsAnswer (front : List ℕ) : Type 0 where
  pub message : Answer
  pub fits : FitsAnswer message
  pub more : List ℕ
  pub spelled : answer message ≡ front ++ more

-- the first `at` bytes of the body begin an answer, and no more of them do
pub record LongestAnswer (body : List ℕ) (at : ℕ) : Type 0 where
  pub within : at ≤ length body
  pub begins : BeginsAnswer (take at body)
  pub longest : (k : ℕ) → k ≤ length body → BeginsAnswer (take k body) → k ≤ at
