-- Values, variables and pending changes. Where a value is of another kind than its place asks,
-- which the checks rule out, it counts as 0, as false or as no bytes.
use Rattle.std.specs.Prelude.{ℕ, zero, suc, ◌+◌, ◌==◌, Bool, true, false, List, [], ◌∷◌, ◌++◌, take, drop, length, nat_le, ◌&&◌, Option, Some, None, if◌then◌else◌}
use Rattle.std.specs.Str.{bytes_eq}
use Rattle.std.specs.Int.{w64, from_le_bytes, to_le_bytes}
use Rattle.sp_base.specs.declared.writes.Change.{Change}
use Rattle.sp_base.specs.declared.writes.Change.TheVariants.{Put, Del}
use Rattle.sp_base.specs.declared.writes.Write.{Write}
use Rattle.sp_base.specs.Places.{Place, same_place}
use Rattle.ext_mean.specs.declared.state.Value.{Value}
use Rattle.ext_mean.specs.declared.state.Value.TheVariants as value
use Rattle.ext_mean.specs.declared.state.Local.{Local}
use Rattle.ext_mean.specs.declared.tree.Param.{Param}

abbrev pub number_of : Value → ℕ
number_of (value.Int number) = number
number_of _ = 0

abbrev pub truth_of : Value → Bool
truth_of (value.Bool truth) = truth
truth_of _ = false

-- the bytes of a slice
abbrev pub bytes_of : Value → List ℕ
bytes_of (value.Slice bytes) = bytes
bytes_of _ = []

-- the bytes of a buffer, with or without a place
abbrev pub buffer_of : Value → List ℕ
buffer_of (value.Buf buffer) = buffer.bytes
buffer_of (value.Temp bytes) = bytes
buffer_of _ = []

-- the same buffer with other bytes
abbrev pub with_bytes : Value → List ℕ → Value
with_bytes (value.Buf buffer) bytes = value.Buf (record buffer { bytes = bytes })
with_bytes (value.Temp old) bytes = value.Temp bytes
with_bytes other bytes = other

-- the value that stands for none
abbrev pub nothing : Value
nothing = value.Int 0

-- two ints, two bools or two slices that are equal
abbrev pub same_value : Value → Value → Bool
same_value (value.Int left) (value.Int right) = left == right
same_value (value.Bool left) (value.Bool right) = if left then right else (if right then false else true)
same_value (value.Slice left) (value.Slice right) = bytes_eq left right
same_value _ _ = false

-- eight bytes as a number, little endian, and a number as eight bytes
abbrev pub word_of : List ℕ → ℕ
word_of bytes = from_le_bytes w64 bytes

abbrev pub word_bytes : ℕ → List ℕ
word_bytes number = to_le_bytes w64 number

-- the `count` bytes from a place on
abbrev pub part_of : List ℕ → ℕ → ℕ → List ℕ
part_of bytes from count = take count (drop from bytes)

-- the bytes with others written over them from a place on
abbrev pub overwritten : List ℕ → ℕ → List ℕ → List ℕ
overwritten bytes place written =
    take place bytes ++ written ++ drop (place + length written) bytes

-- the value of a variable
abbrev pub value_of : List ℕ → List Local → Value
value_of name [] = nothing
value_of name (first ∷ rest) = if bytes_eq first.name name then first.value else value_of name rest

-- the variables after `name = value`
abbrev pub assigned : List ℕ → Value → List Local → List Local
assigned name new [] = []
assigned name new (first ∷ rest) =
    if bytes_eq first.name name
    then record first { value = new } ∷ rest
    else first ∷ assigned name new rest

-- a variable's declaration stands behind those before it
abbrev pub declared : List ℕ → Value → List Local → List Local
declared name value locals = locals ++ record { name = name; value = value } ∷ []

-- each parameter with its argument
abbrev pub bound : List Param → List Value → List Local
bound [] values = []
bound (param ∷ params) [] = []
bound (param ∷ params) (value ∷ values) = record { name = param.name; value = value } ∷ bound params values

-- the place of a change
abbrev pub place_changed : Write → Place
place_changed write = record { table = write.table.0; key = write.key }

-- the pending change at a place
abbrev pub pending : Place → List Write → Option Change
pending place [] = None
pending place (write ∷ writes) =
    if same_place (place_changed write) place then Some write.change else pending place writes

-- what a pending change leaves at its place
abbrev pub left_by : Change → Option (List ℕ)
left_by (Put bytes) = Some bytes
left_by Del = None

-- The changes after one more: it takes the place of the one at its own place, or is the last.
abbrev pub changed : Write → List Write → List Write
changed new [] = new ∷ []
changed new (write ∷ writes) =
    if same_place (place_changed write) (place_changed new)
    then new ∷ writes
    else write ∷ changed new writes

-- pieces of `width` bytes each
abbrev pub pieces : ℕ → ℕ → List ℕ → List (List ℕ)
pieces zero width bytes = []
pieces (suc count) width bytes = take width bytes ∷ pieces count width (drop width bytes)

-- whether a key has from 1 to 64 bytes
abbrev pub is_key : List ℕ → Bool
is_key key = nat_le 1 (length key) && nat_le (length key) 64
