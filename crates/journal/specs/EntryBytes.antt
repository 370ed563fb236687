-- The bytes of an entry, field by field behind its tag, so that they can be read back.
use Rattle.std.specs.Prelude.{◌≡◌, ℕ, List, [], ◌∷◌, ◌++◌, length}
use Rattle.std.specs.List.{flat_map}
use Rattle.sp_base.specs.Spelling as spelling
use Rattle.sp_base.specs.declared.calls.Call.{Call}
use Rattle.sp_base.specs.declared.reads.ReadItem.{ReadItem}
use Rattle.journal.specs.declared.entry.Entry.{Entry}
use Rattle.journal.specs.declared.entry.Entry.TheVariants.{Invoke, Put, Install}
use Rattle.journal.specs.declared.entry.Home.{Home}
use Rattle.journal.specs.declared.entry.Home.TheVariants.{Server, Client}
use Rattle.journal.specs.Sizes.{size_of_entry}

-- a call: tenant, caller, number, extension, budget, push flag and arguments
abbrev pub call_bytes : Call → List ℕ
call_bytes call =
    spelling.u32 call.caller.tenant.0 ++ (spelling.u32 call.caller.number ++ (spelling.u64 call.number.0
    ++ (spelling.u32 call.ext.0 ++ (spelling.u32 call.budget
    ++ (spelling.flag call.push_ok ++ spelling.long call.args)))))

-- a read of an entry: its table, its key and its version
abbrev pub read_bytes : ReadItem → List ℕ
read_bytes read = spelling.u32 read.table.0 ++ (spelling.key read.key ++ spelling.u64 read.version)

-- reads behind their count
abbrev pub reads_bytes : List ReadItem → List ℕ
reads_bytes reads = spelling.u16 (length reads) ++ flat_map read_bytes reads

abbrev pub home_number : Home → ℕ
home_number Server = 0
home_number Client = 1

-- the tag is 1, 2 or 3
abbrev pub bytes_of : Entry → List ℕ
bytes_of (Invoke call outcome writes reads home) =
    1 ∷ (call_bytes call ++ (spelling.outcome outcome ++ (spelling.writes writes
    ++ (reads_bytes reads ++ home_number home ∷ []))))
bytes_of (Put tenant table key value) =
    2 ∷ (spelling.u32 tenant.0 ++ (spelling.u32 table.0 ++ (spelling.key key ++ spelling.long value)))
bytes_of (Install tenant text) = 3 ∷ (spelling.u32 tenant.0 ++ spelling.long text)

-- the size of every entry is the number of its bytes
abbrev pub SizesAreLengths : Type 0
SizesAreLengths = (entry : Entry) → size_of_entry entry ≡ length (bytes_of entry)
