-- How long answers are: within the limit of frames.
use Rattle.std.specs.List.{AllByRecursion, flat_map}
use Rattle.std.proofs.Common.{◌≡◌, ◌≤◌, ◌+◌, ◌*◌, ℕ, List, [], ◌∷◌, ◌++◌, length, Option, Some, None, refl, arith, length-append}
use Rattle.std.proofs.lemmas.List.Sums.{sum_by-cons}
use Rattle.sp_base.specs.declared.numbers.TableId.{TableId}
use Rattle.sp_base.specs.declared.outcomes.Outcome.{Outcome}
use Rattle.sp_base.specs.declared.outcomes.Outcome.TheVariants.{Done, Trapped, Killed}
use Rattle.sp_base.specs.declared.reads.ReadItem.{ReadItem}
use Rattle.sp_base.specs.declared.rights.Level.{Level}
use Rattle.sp_base.specs.Spelling as spelling
use Rattle.sp_base.specs.Spelling.{FitsOutcome, FitRights, u16, u32, u64}
use Rattle.rw_set.specs.Weight.{weight_of, weight_of_read}
use Rattle.wire.specs.Answers as answers
use Rattle.wire.specs.Answers.{FitItems, FitsAnswer, FitsBatchItem, FitsItem}
use Rattle.wire.specs.declared.answers.Answer.{Answer}
use Rattle.wire.specs.declared.answers.Answer.TheVariants as answer
use Rattle.wire.specs.declared.answers.FetchAnswer.TheVariants as fetched
use Rattle.wire.specs.declared.answers.InstallAnswer.TheVariants as installed
use Rattle.wire.specs.declared.answers.PutAnswer.TheVariants as puts
use Rattle.wire.specs.declared.answers.TextAnswer.TheVariants as texts
use Rattle.wire.specs.declared.items.Item.{Item}
use Rattle.wire.specs.declared.items.Item.TheVariants as item
use Rattle.session.specs.Standing.{IsItemWithin, IsWithin}

length-u16 : (n : ℕ) → length (u16 n) ≡ 2
unfolding u16
length-u16 n = refl

length-u32 : (n : ℕ) → length (u32 n) ≡ 4
unfolding u32
length-u32 n = refl

length-u64 : (n : ℕ) → length (u64 n) ≡ 8
unfolding u64
length-u64 n = refl

front-u16 : (n : ℕ) (rest : List ℕ) → length (u16 n ++ rest) ≡ 2 + length rest
front-u16 n rest = omega (arith, length-append (u16 n) rest, length-u16 n)

front-u32 : (n : ℕ) (rest : List ℕ) → length (u32 n ++ rest) ≡ 4 + length rest
front-u32 n rest = omega (arith, length-append (u32 n) rest, length-u32 n)

front-u64 : (n : ℕ) (rest : List ℕ) → length (u64 n ++ rest) ≡ 8 + length rest
front-u64 n rest = omega (arith, length-append (u64 n) rest, length-u64 n)

long-length : (bytes : List ℕ) → length (spelling.long bytes) ≡ 2 + length bytes
long-length bytes = front-u16 (length bytes) bytes

outcome-short : (outcome : Outcome) → FitsOutcome outcome → length (spelling.outcome outcome) ≤ 4107
outcome-short (Done reply) fits =
    let bytes : length reply.bytes ≤ 4096 = fits.1 in
    omega (arith, front-u64 reply.code (spelling.long reply.bytes), long-length reply.bytes, bytes)
outcome-short (Trapped trap) fits = omega arith
outcome-short Killed fits = omega arith

reads-length : (reads : List ReadItem) → length (flat_map spelling.read reads) ≡ weight_of reads
reads-length [] = refl
reads-length (read ∷ reads) =
    omega (arith, length-append (spelling.read read) (flat_map spelling.read reads), sum_by-cons weight_of_read read reads, reads-length reads)

item-short : (given : Item) → IsItemWithin given → FitsItem given → length (answers.item given) ≤ 66000
item-short (item.Committed n outcome) within fits =
    let short = outcome-short outcome fits.1 in omega (arith, front-u64 n (spelling.outcome outcome), short)
item-short (item.Stale last at) within fits = omega (arith, front-u64 last (u64 at), length-u64 at)
item-short (item.Conflict table key read read_at now now_at) within fits =
    let key_short : length key ≤ 64 = fits.1.0.short in
    let numbers = u64 read ++ (u64 read_at ++ (u64 now ++ u64 now_at)) in
    omega (
      arith,
      front-u32 table.0 (spelling.key key ++ numbers),
      length-append (spelling.key key) numbers,
      front-u64 read (u64 read_at ++ (u64 now ++ u64 now_at)),
      front-u64 read_at (u64 now ++ u64 now_at),
      front-u64 now (u64 now_at),
      length-u64 now_at,
      key_short,
    )
item-short (item.Pushed load spent reads) within fits =
    let weight : weight_of reads ≤ 65536 = within.1 in
    omega (
      arith,
      front-u32 load (u32 spent ++ spelling.reads reads),
      front-u32 spent (spelling.reads reads),
      front-u16 (length reads) (flat_map spelling.read reads),
      reads-length reads,
      weight,
    )
item-short (item.Full at) within fits = omega (arith, length-u64 at)
item-short (item.Busy number) within fits = omega (arith, length-u64 number.0)
item-short item.Repeated within fits = omega arith
item-short (item.NoExtension count at) within fits = omega (arith, front-u32 count (u64 at), length-u64 at)
item-short item.BadBudget within fits = omega arith
item-short item.Memory within fits = omega arith
item-short (item.Foreign table) within fits = absurd within
item-short (item.Shape code) within fits = absurd within
item-short item.Lied within fits = absurd within
item-short item.NotParked within fits = absurd within

items-short : (items : List Item) → AllByRecursion IsItemWithin items → AllByRecursion FitsBatchItem items
    → length (flat_map answers.item items) ≤ 66000 * length items
items-short [] within fits = omega arith
items-short (given ∷ items) within fits =
    let one = item-short given within.0 fits.0.1 in
    let rest = items-short items within.1 fits.1 in
    omega (arith, length-append (answers.item given) (flat_map answers.item items), one, rest)

parked-short : (given : Item) → FitsItem given → answers.EndsParked given → length (answers.item given) ≤ 66000
parked-short (item.Committed n outcome) fits ends =
    let short = outcome-short outcome fits.1 in omega (arith, front-u64 n (spelling.outcome outcome), short)
parked-short (item.Stale last at) fits ends = omega (arith, front-u64 last (u64 at), length-u64 at)
parked-short (item.Conflict table key read read_at now now_at) fits ends =
    let key_short : length key ≤ 64 = fits.1.0.short in
    let numbers = u64 read ++ (u64 read_at ++ (u64 now ++ u64 now_at)) in
    omega (
      arith,
      front-u32 table.0 (spelling.key key ++ numbers),
      length-append (spelling.key key) numbers,
      front-u64 read (u64 read_at ++ (u64 now ++ u64 now_at)),
      front-u64 read_at (u64 now ++ u64 now_at),
      front-u64 now (u64 now_at),
      length-u64 now_at,
      key_short,
    )
parked-short (item.Pushed load spent reads) fits ends = absurd ends
parked-short (item.Full at) fits ends = omega (arith, length-u64 at)
parked-short (item.Busy number) fits ends = absurd ends
parked-short item.Repeated fits ends = absurd ends
parked-short (item.NoExtension count at) fits ends = absurd ends
parked-short item.BadBudget fits ends = absurd ends
parked-short item.Memory fits ends = omega arith
parked-short (item.Foreign table) fits ends = omega (arith, length-u32 table.0)
parked-short (item.Shape code) fits ends = omega arith
parked-short item.Lied fits ends = omega arith
parked-short item.NotParked fits ends = omega arith

rights-length : (rights : List (TableId × Level)) → length (flat_map spelling.right rights) ≡ 5 * length rights
rights-length [] = refl
rights-length (right ∷ rights) =
    omega (
      arith,
      length-append (spelling.right right) (flat_map spelling.right rights),
      front-u32 right.0.0 (spelling.level_number right.1 ∷ []),
      rights-length rights,
    )

opt-short : (value : Option (List ℕ)) → spelling.FitsOpt value → length (spelling.opt value) ≤ 4099
opt-short None fits = omega arith
opt-short (Some value) fits = let short : length value ≤ 4096 = fits in omega (arith, long-length value, short)

-- an answer within its limits is short enough for a frame
pub answer-short : (given : Answer) → IsWithin given → FitsAnswer given → length (answers.answer given) ≤ 8388608
answer-short (answer.Welcome rights at) within fits =
    let few : length rights ≤ 64 = fits.0.rights.few in
    omega (arith, length-append (spelling.rights rights) (u64 at), rights-length rights, length-u64 at, few)
answer-short (answer.Installed (installed.Done n ext)) within fits = omega (arith, front-u64 n (u32 ext.0), length-u32 ext.0)
answer-short (answer.Installed (installed.Rejected line code)) within fits = omega (arith, front-u32 line (code ∷ []))
answer-short (answer.Installed (installed.Full at)) within fits = omega (arith, length-u64 at)
answer-short (answer.Installed installed.Memory) within fits = omega arith
answer-short (answer.Answers items) within fits =
    let short = items-short items within.each fits.each in
    let few = fits.few in
    omega (arith, front-u16 (length items) (flat_map answers.item items), short, few)
answer-short (answer.Fetched (fetched.Found version read_at value)) within fits =
    let short = opt-short value fits.1.1 in
    omega (arith, front-u64 version (u64 read_at ++ spelling.opt value), front-u64 read_at (spelling.opt value), short)
answer-short (answer.Fetched fetched.Denied) within fits = omega arith
answer-short (answer.Fetched fetched.NotParked) within fits = omega arith
answer-short (answer.Fetched fetched.Memory) within fits = omega arith
answer-short (answer.Fetched fetched.Many) within fits = omega arith
answer-short (answer.Finished given) within fits = let short = parked-short given fits.1 fits.0 in omega (arith, short)
answer-short (answer.PutDone (puts.Done n)) within fits = omega (arith, length-u64 n)
answer-short (answer.PutDone puts.Denied) within fits = omega arith
answer-short (answer.PutDone (puts.Full at)) within fits = omega (arith, length-u64 at)
answer-short (answer.PutDone puts.Memory) within fits = omega arith
answer-short (answer.Text (texts.Text text)) within fits =
    let short : length text ≤ 16384 = fits.short in omega (arith, long-length text, short)
answer-short (answer.Text (texts.NoExtension count at)) within fits = omega (arith, front-u32 count (u64 at), length-u64 at)
answer-short (answer.Text texts.Memory) within fits = omega arith
answer-short (answer.Fault code) within fits = omega arith
