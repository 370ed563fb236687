-- The items of answers are read exactly.
use Rattle.std.proofs.Common.{ℕ, ◌≤◌, inl, inr, List, [], ◌∷◌, ◌++◌, length, refl, ap, arith}
use Rattle.std.specs.List.{flat_map}
use Rattle.wire.specs.declared.items.Item.{Item}
use Rattle.wire.specs.declared.items.Item.TheVariants.{Committed, Stale, Conflict, Pushed, Full, Busy, Repeated, NoExtension, BadBudget, Memory, Foreign, Shape, Lied, NotParked}
use Rattle.wire.specs.Readers.{repeated}
use Rattle.wire.specs.Fields.{byte_in, read_at, reads_at}
use Rattle.wire.specs.Messages.{committed_at, stale_at, conflict_at, pushed_at, no_extension_at, batch_item_at, parked_item_at, items_at}
use Rattle.sp_base.specs.Spelling.{u16, read, reads, FitReads}
use Rattle.wire.specs.Answers.{item, FitsItem, EndsInBatch, EndsParked, FitsBatchItem, FitsParkedItem, FitItems, install_answer, FitsInstallAnswer, fetch_answer, FitsFetchAnswer, put_answer, FitsPutAnswer, text_answer, FitsTextAnswer, answer, FitsAnswer, SpellsAnswer, BeginsAnswer, LongestAnswer}
use Rattle.wire.specs.Answers as said
use Rattle.wire.proofs.Formats.{Reads, Format, Shows, Makes, bind_reads, made_reads, done_reads, repeated_reads, as_format, format_of}
use Rattle.wire.proofs.Choices.{arms, no_arms, tagged_reads}
use Rattle.wire.proofs.Digits.{byte_reads, u16_reads}
use Rattle.wire.proofs.Parts.{u32_any, u64_any, key_reads, outcome_reads, read_reads}

-- a byte that is a code
pub code_reads : (least most : ℕ) → least ≤ most → Reads (byte_in least most) (λ n. n) (λ n. n ∷ []) (said.IsIn least most)
code_reads least most le = as_format (format_of (byte_reads least most le)) (λ n. n ∷ []) (said.IsIn least most)
    (λ n f. (n, refl, (f.low, f.high), refl)) (λ n f. (record { low = f.0; high = f.1 }, refl))

pub reads_reads : Reads reads_at (λ rs. rs) reads FitReads
unfolding reads_at
reads_reads = as_format (format_of (bind_reads (repeated read_at) (u16_reads 0 65535 (omega arith) (omega arith)) (λ n f. repeated_reads read_reads n))) reads FitReads
    (λ rs f. ((length rs, rs), refl, ((omega arith, f.0), (refl, f.1)), refl))
    (λ x f. ((omega (arith, f.1.0, f.0.1), f.1.1), ap (λ (n : ℕ). u16 n ++ flat_map read x.1) f.1.0))

-- ---- items

abbrev committed_format : Format Item
committed_format = format_of (bind_reads _ u64_any (λ n f. made_reads (λ ended. Committed n ended) outcome_reads))

committed_reads : Reads committed_at committed_format.make committed_format.spell committed_format.Fits
unfolding committed_at
committed_reads = committed_format.reads

abbrev stale_format : Format Item
stale_format = format_of (bind_reads _ u64_any (λ last f. made_reads (λ at. Stale last at) u64_any))

stale_reads : Reads stale_at stale_format.make stale_format.spell stale_format.Fits
unfolding stale_at
stale_reads = stale_format.reads

abbrev conflict_format : Format Item
conflict_format = format_of (bind_reads _ u32_any (λ table f. bind_reads _ key_reads (λ place g. bind_reads _ u64_any (λ read h.
    bind_reads _ u64_any (λ read_at i. bind_reads _ u64_any (λ now j.
    made_reads (λ now_at. Conflict (record { 0 = table }) place read read_at now now_at) u64_any))))))

conflict_reads : Reads conflict_at conflict_format.make conflict_format.spell conflict_format.Fits
unfolding conflict_at
conflict_reads = conflict_format.reads

abbrev pushed_format : Format Item
pushed_format = format_of (bind_reads _ u32_any (λ load f. bind_reads _ u32_any (λ spent g. made_reads (λ seen. Pushed load spent seen) reads_reads)))

pushed_reads : Reads pushed_at pushed_format.make pushed_format.spell pushed_format.Fits
unfolding pushed_at
pushed_reads = pushed_format.reads

abbrev no_extension_format : Format Item
no_extension_format = format_of (bind_reads _ u32_any (λ count f. made_reads (λ at. NoExtension count at) u64_any))

no_extension_reads : Reads no_extension_at no_extension_format.make no_extension_format.spell no_extension_format.Fits
unfolding no_extension_at
no_extension_reads = no_extension_format.reads

abbrev batch_format : Format Item
batch_format = format_of (tagged_reads (inr (inr (inr (inr (inr (inr (inl tt))))))) tt
    (arms 0 (omega arith) committed_reads
    (arms 1 (omega arith) stale_reads
    (arms 2 (omega arith) conflict_reads
    (arms 3 (omega arith) pushed_reads
    (arms 4 (omega arith) (made_reads (λ at. Full at) u64_any)
    (arms 5 (omega arith) (made_reads (λ number. Busy (record { 0 = number })) u64_any)
    (arms 6 (omega arith) (done_reads Repeated)
    (arms 7 (omega arith) no_extension_reads
    (arms 8 (omega arith) (done_reads BadBudget)
    (arms 9 (omega arith) (done_reads Memory) (no_arms 10))))))))))))

batch_to : (m : Item) → FitsBatchItem m → Shows batch_format item m
batch_to (Committed n ended) f = (inl (n, ended), refl, f.1, refl)
batch_to (Stale last at) f = (inr (inl (last, at)), refl, f.1, refl)
batch_to (Conflict table place read read_at now now_at) f = (inr (inr (inl (table.0, (place, (read, (read_at, (now, now_at))))))), refl, f.1, refl)
batch_to (Pushed load spent seen) f = (inr (inr (inr (inl (load, (spent, seen))))), refl, f.1, refl)
batch_to (Full at) f = (inr (inr (inr (inr (inl at)))), refl, f.1, refl)
batch_to (Busy number) f = (inr (inr (inr (inr (inr (inl number.0))))), refl, f.1, refl)
batch_to Repeated f = (inr (inr (inr (inr (inr (inr (inl tt)))))), refl, tt, refl)
batch_to (NoExtension count at) f = (inr (inr (inr (inr (inr (inr (inr (inl (count, at)))))))), refl, f.1, refl)
batch_to BadBudget f = (inr (inr (inr (inr (inr (inr (inr (inr (inl tt)))))))), refl, tt, refl)
batch_to Memory f = (inr (inr (inr (inr (inr (inr (inr (inr (inr (inl tt))))))))), refl, tt, refl)
batch_to (Foreign table) f = absurd f.0
batch_to (Shape code) f = absurd f.0
batch_to Lied f = absurd f.0
batch_to NotParked f = absurd f.0

batch_from : (x : batch_format.Source) → batch_format.Fits x → Makes batch_format item FitsBatchItem x
batch_from (inl x) f = ((tt, f), refl)
batch_from (inr (inl x)) f = ((tt, f), refl)
batch_from (inr (inr (inl x))) f = ((tt, f), refl)
batch_from (inr (inr (inr (inl x)))) f = ((tt, f), refl)
batch_from (inr (inr (inr (inr (inl x))))) f = ((tt, f), refl)
batch_from (inr (inr (inr (inr (inr (inl x)))))) f = ((tt, f), refl)
batch_from (inr (inr (inr (inr (inr (inr (inl x))))))) f = ((tt, f), refl)
batch_from (inr (inr (inr (inr (inr (inr (inr (inl x)))))))) f = ((tt, f), refl)
batch_from (inr (inr (inr (inr (inr (inr (inr (inr (inl x))))))))) f = ((tt, f), refl)
batch_from (inr (inr (inr (inr (inr (inr (inr (inr (inr (inl x)))))))))) f = ((tt, f), refl)
batch_from (inr (inr (inr (inr (inr (inr (inr (inr (inr (inr x)))))))))) f = absurd x

pub batch_item_reads : Reads batch_item_at (λ m. m) item FitsBatchItem
unfolding batch_item_at
batch_item_reads = as_format batch_format item FitsBatchItem batch_to batch_from

abbrev parked_format : Format Item
parked_format = format_of (tagged_reads (inr (inr (inr (inr (inl tt))))) tt
    (arms 0 (omega arith) committed_reads
    (arms 1 (omega arith) stale_reads
    (arms 2 (omega arith) conflict_reads
    (arms 4 (omega arith) (made_reads (λ at. Full at) u64_any)
    (arms 9 (omega arith) (done_reads Memory)
    (arms 10 (omega arith) (made_reads (λ table. Foreign (record { 0 = table })) u32_any)
    (arms 11 (omega arith) (made_reads (λ code. Shape code) (code_reads 1 3 (omega arith)))
    (arms 12 (omega arith) (done_reads Lied)
    (arms 13 (omega arith) (done_reads NotParked) (no_arms 14)))))))))))

parked_to : (m : Item) → FitsParkedItem m → Shows parked_format item m
parked_to (Committed n ended) f = (inl (n, ended), refl, f.1, refl)
parked_to (Stale last at) f = (inr (inl (last, at)), refl, f.1, refl)
parked_to (Conflict table place read read_at now now_at) f = (inr (inr (inl (table.0, (place, (read, (read_at, (now, now_at))))))), refl, f.1, refl)
parked_to (Full at) f = (inr (inr (inr (inl at))), refl, f.1, refl)
parked_to Memory f = (inr (inr (inr (inr (inl tt)))), refl, tt, refl)
parked_to (Foreign table) f = (inr (inr (inr (inr (inr (inl table.0))))), refl, f.1, refl)
parked_to (Shape code) f = (inr (inr (inr (inr (inr (inr (inl code)))))), refl, f.1, refl)
parked_to Lied f = (inr (inr (inr (inr (inr (inr (inr (inl tt))))))), refl, tt, refl)
parked_to NotParked f = (inr (inr (inr (inr (inr (inr (inr (inr (inl tt)))))))), refl, tt, refl)
parked_to (Pushed load spent seen) f = absurd f.0
parked_to (Busy number) f = absurd f.0
parked_to Repeated f = absurd f.0
parked_to (NoExtension count at) f = absurd f.0
parked_to BadBudget f = absurd f.0

parked_from : (x : parked_format.Source) → parked_format.Fits x → Makes parked_format item FitsParkedItem x
parked_from (inl x) f = ((tt, f), refl)
parked_from (inr (inl x)) f = ((tt, f), refl)
parked_from (inr (inr (inl x))) f = ((tt, f), refl)
parked_from (inr (inr (inr (inl x)))) f = ((tt, f), refl)
parked_from (inr (inr (inr (inr (inl x))))) f = ((tt, f), refl)
parked_from (inr (inr (inr (inr (inr (inl x)))))) f = ((tt, f), refl)
parked_from (inr (inr (inr (inr (inr (inr (inl x))))))) f = ((tt, f), refl)
parked_from (inr (inr (inr (inr (inr (inr (inr (inl x)))))))) f = ((tt, f), refl)
parked_from (inr (inr (inr (inr (inr (inr (inr (inr (inl x))))))))) f = ((tt, f), refl)
parked_from (inr (inr (inr (inr (inr (inr (inr (inr (inr x))))))))) f = absurd x

pub parked_item_reads : Reads parked_item_at (λ m. m) item FitsParkedItem
unfolding parked_item_at
parked_item_reads = as_format parked_format item FitsParkedItem parked_to parked_from

abbrev items_spelled : List Item → List ℕ
items_spelled items = u16 (length items) ++ flat_map item items

pub items_reads : Reads items_at (λ ms. ms) items_spelled FitItems
unfolding items_at
items_reads = as_format (format_of (bind_reads (repeated batch_item_at) (u16_reads 1 64 (omega arith) (omega arith)) (λ n f. repeated_reads batch_item_reads n))) items_spelled FitItems
    (λ ms f. ((length ms, ms), refl, ((f.some, f.few), (refl, f.each)), refl))
    (λ x f. (record { some = omega (arith, f.1.0, f.0.0); few = omega (arith, f.1.0, f.0.1); each = f.1.1 }, ap (λ (n : ℕ). u16 n ++ flat_map item x.1) f.1.0))
