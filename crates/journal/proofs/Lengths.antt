-- The size of an entry is the number of its bytes.
use Rattle.std.specs.List.{flat_map}
use Rattle.std.proofs.Common.{◌≡◌, ℕ, suc, ◌+◌, List, [], ◌∷◌, ◌++◌, length, sum_by, true, false, Bool, refl, ap, sym, ◌∙◌, arith, length-append}
use Rattle.std.proofs.lemmas.List.Sums.{sum_by-cons}
use Rattle.sp_base.specs.Spelling as spelling
use Rattle.sp_base.specs.Spelling.{u16, u32, u64}
use Rattle.sp_base.specs.declared.calls.Call.{Call}
use Rattle.sp_base.specs.declared.outcomes.Outcome.{Outcome}
use Rattle.sp_base.specs.declared.outcomes.Outcome.TheVariants.{Done, Trapped, Killed}
use Rattle.sp_base.specs.declared.reads.ReadItem.{ReadItem}
use Rattle.sp_base.specs.declared.writes.Change.{Change}
use Rattle.sp_base.specs.declared.writes.Change.TheVariants as change
use Rattle.sp_base.specs.declared.writes.Write.{Write}
use Rattle.journal.specs.declared.entry.Entry.{Entry}
use Rattle.journal.specs.declared.entry.Entry.TheVariants.{Invoke, Put, Install}
use Rattle.journal.specs.EntryBytes.{SizesAreLengths, bytes_of, call_bytes, home_number, read_bytes, reads_bytes}
use Rattle.journal.specs.Sizes.{bytes_size, change_size, key_size, outcome_size, read_size, size_of_entry, write_size}

length-u16 : (n : ℕ) → length (u16 n) ≡ 2
unfolding u16
length-u16 n = refl

length-u32 : (n : ℕ) → length (u32 n) ≡ 4
unfolding u32
length-u32 n = refl

length-u64 : (n : ℕ) → length (u64 n) ≡ 8
unfolding u64
length-u64 n = refl

-- numbers in front of more bytes
front-u16 : (n : ℕ) (rest : List ℕ) → length (u16 n ++ rest) ≡ 2 + length rest
front-u16 n rest = omega (arith, length-append (u16 n) rest, length-u16 n)

front-u32 : (n : ℕ) (rest : List ℕ) → length (u32 n ++ rest) ≡ 4 + length rest
front-u32 n rest = omega (arith, length-append (u32 n) rest, length-u32 n)

front-u64 : (n : ℕ) (rest : List ℕ) → length (u64 n ++ rest) ≡ 8 + length rest
front-u64 n rest = omega (arith, length-append (u64 n) rest, length-u64 n)

long-length : (bytes : List ℕ) → length (spelling.long bytes) ≡ bytes_size bytes
long-length bytes = front-u16 (length bytes) bytes

outcome-length : (outcome : Outcome) → length (spelling.outcome outcome) ≡ outcome_size outcome
outcome-length (Done reply) =
    omega (arith, front-u64 reply.code (spelling.long reply.bytes), long-length reply.bytes)
outcome-length (Trapped trap) = refl
outcome-length Killed = refl

change-length : (made : Change) → length (spelling.change made) ≡ change_size made
change-length change.Del = refl
change-length (change.Put value) = omega (arith, long-length value)

write-length : (write : Write) → length (spelling.write write) ≡ write_size write
write-length write =
    omega (
      arith,
      front-u32 write.table.0 (spelling.key write.key ++ spelling.change write.change),
      length-append (spelling.key write.key) (spelling.change write.change),
      change-length write.change,
    )

read-length : (read : ReadItem) → length (read_bytes read) ≡ read_size read
read-length read =
    omega (
      arith,
      front-u32 read.table.0 (spelling.key read.key ++ u64 read.version),
      length-append (spelling.key read.key) (u64 read.version),
      length-u64 read.version,
    )

all-lengths : {A : Type 0} (spell : A → List ℕ) (size : A → ℕ) → ((x : A) → length (spell x) ≡ size x) → (xs : List A)
    → length (flat_map spell xs) ≡ sum_by size xs
all-lengths spell size each [] = refl
all-lengths spell size each (x ∷ xs) =
    omega (arith, length-append (spell x) (flat_map spell xs), each x, sum_by-cons size x xs, all-lengths spell size each xs)

flag-length : (flag : Bool) → length (spelling.flag flag) ≡ 1
flag-length true = refl
flag-length false = refl

call-length : (call : Call) → length (call_bytes call) ≡ 25 + bytes_size call.args
call-length call =
    let args = spelling.long call.args in
    let push = spelling.flag call.push_ok ++ args in
    let budget = u32 call.budget ++ push in
    let ext = u32 call.ext.0 ++ budget in
    let number = u64 call.number.0 ++ ext in
    omega (
      arith,
      front-u32 call.caller.tenant.0 (u32 call.caller.number ++ number),
      front-u32 call.caller.number number,
      front-u64 call.number.0 ext,
      front-u32 call.ext.0 budget,
      front-u32 call.budget push,
      length-append (spelling.flag call.push_ok) args,
      flag-length call.push_ok,
      long-length call.args,
    )

invoke-length : (call : Call) (outcome : Outcome) (writes : List Write) (reads : List ReadItem) (last : List ℕ) → length last ≡ 1
    → 30 + bytes_size call.args + outcome_size outcome + sum_by write_size writes + sum_by read_size reads
    ≡ suc (length (call_bytes call ++ (spelling.outcome outcome ++ (spelling.writes writes ++ (reads_bytes reads ++ last)))))
invoke-length call outcome writes reads last one =
    let behind = reads_bytes reads ++ last in
    let changes = spelling.writes writes ++ behind in
    let ended = spelling.outcome outcome ++ changes in
    omega (
      arith,
      length-append (call_bytes call) ended,
      length-append (spelling.outcome outcome) changes,
      length-append (spelling.writes writes) behind,
      length-append (reads_bytes reads) last,
      call-length call,
      outcome-length outcome,
      all-lengths spelling.write write_size write-length writes,
      front-u16 (length reads) (flat_map read_bytes reads),
      all-lengths read_bytes read_size read-length reads,
      one,
    )

pub sizes-are-lengths : SizesAreLengths
sizes-are-lengths (Invoke call outcome writes reads home) =
    invoke-length call outcome writes reads (home_number home ∷ []) refl
sizes-are-lengths (Put tenant table key value) =
    omega (
      arith,
      front-u32 tenant.0 (u32 table.0 ++ (spelling.key key ++ spelling.long value)),
      front-u32 table.0 (spelling.key key ++ spelling.long value),
      length-append (spelling.key key) (spelling.long value),
      long-length value,
    )
sizes-are-lengths (Install tenant text) = omega (arith, front-u32 tenant.0 (spelling.long text), long-length text)
