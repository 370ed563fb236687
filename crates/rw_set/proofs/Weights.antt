-- The bytes of a read, and those of reads with one more.
use Rattle.std.proofs.Common.{◌≡◌, ◌+◌, ℕ, List, [], ◌∷◌, ◌++◌, length, Option, Some, None, refl, ap, ◌∙◌, arith, length-append}
use Rattle.std.proofs.lemmas.List.Sums.{sum_by-append}
use Rattle.sp_base.specs.declared.reads.ReadItem.{ReadItem}
use Rattle.sp_base.specs.Spelling as spelling
use Rattle.sp_base.specs.Spelling.{u16, u32, u64, opt}
use Rattle.rw_set.specs.Weight.{weight_of, weight_of_read}

length-u16 : (n : ℕ) → length (u16 n) ≡ 2
unfolding u16
length-u16 n = refl

length-u32 : (n : ℕ) → length (u32 n) ≡ 4
unfolding u32
length-u32 n = refl

length-u64 : (n : ℕ) → length (u64 n) ≡ 8
unfolding u64
length-u64 n = refl

abbrev pub opt_bytes : Option (List ℕ) → ℕ
opt_bytes None = 1
opt_bytes (Some value) = 3 + length value

opt-length : (value : Option (List ℕ)) → length (opt value) ≡ opt_bytes value
opt-length None = refl
opt-length (Some value) = omega (arith, length-append (u16 (length value)) value, length-u16 (length value))

-- a table, a key behind its length, a version, a moment and a value
pub read-bytes : (read : ReadItem) → weight_of_read read ≡ 21 + length read.key + opt_bytes read.value
read-bytes read =
    let value = opt read.value in
    let moment = u64 read.read_at ++ value in
    let version = u64 read.version ++ moment in
    let key = spelling.key read.key ++ version in
    let a : length (u32 read.table.0 ++ key) ≡ length (u32 read.table.0) + length key = length-append (u32 read.table.0) key in
    let b : length key ≡ length (spelling.key read.key) + length version = length-append (spelling.key read.key) version in
    let c : length version ≡ length (u64 read.version) + length moment = length-append (u64 read.version) moment in
    let d : length moment ≡ length (u64 read.read_at) + length value = length-append (u64 read.read_at) value in
    omega (arith, a, b, c, d, length-u32 read.table.0, length-u64 read.version, length-u64 read.read_at, opt-length read.value)

pub weight-more : (reads : List ReadItem) (item : ReadItem) → weight_of (reads ++ item ∷ []) ≡ weight_of reads + weight_of_read item
weight-more reads item = sum_by-append weight_of_read reads (item ∷ []) ∙ ap (λ w. weight_of reads + w) (omega arith)
