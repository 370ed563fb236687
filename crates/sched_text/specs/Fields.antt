-- The fields of a line, and the values that they spell.
use Rattle.std.specs.Prelude.{ℕ, Bool, true, false, zero, suc, ◌+◌, ◌-◌, ◌*◌, ◌^◌, ◌==◌, nat_lt, nat_le, ◌&&◌, List, [], ◌∷◌, length, codes, Option, Some, None, option_and_then, option_map, slice_index_or, Result, Ok, Err, if◌then◌else◌}
use Rattle.std.specs.Option.{option_map_or}
use Rattle.std.specs.Str.{bytes_eq}
use Rattle.sp_base.specs.declared.rights.Level.{Level}
use Rattle.sp_base.specs.declared.rights.Level.TheVariants.{Read, Write}
use Rattle.sched_text.specs.declared.code.LineCode.{LineCode}
use Rattle.sched_text.specs.declared.code.LineCode.TheVariants.{Field}
use Rattle.sched_text.specs.Results.{passed}

-- ---- where a text is cut

-- a byte before what stands before the cut
abbrev pub with_byte : ℕ → List ℕ × Option (List ℕ) → List ℕ × Option (List ℕ)
with_byte byte parts = (byte ∷ parts.0, parts.1)

-- what stands before the first such byte, and what follows it, if there is one
abbrev pub cut : ℕ → List ℕ → List ℕ × Option (List ℕ)
cut mark [] = ([], None)
cut mark (byte ∷ text) = if byte == mark then ([], Some text) else with_byte byte (cut mark text)

-- the first fields of a line, which is cut at each space
abbrev pub first_fields : ℕ → List ℕ → List (List ℕ)
first_fields zero line = []
first_fields (suc more) line =
    (cut 32 line).0 ∷ option_map_or (first_fields more) (cut 32 line).1 []

-- the fields of a line; no line has more than nine, so ten tell whether there are too many
unfoldable pub fields_of : List ℕ → List (List ℕ)
fields_of line = first_fields 10 line

-- a field by its number, from 0
abbrev pub field : List (List ℕ) → ℕ → List ℕ
field fields at = slice_index_or fields at []

-- ---- numbers

-- the greatest numbers of 32 and of 64 bits
abbrev pub u32_max : ℕ
u32_max = 2 ^ 32 - 1

abbrev pub u64_max : ℕ
u64_max = 2 ^ 64 - 1

-- the value of a decimal digit
unfoldable pub digit_value : ℕ → Option ℕ
digit_value byte =
    if nat_lt byte 48 then None else if nat_lt 57 byte then None else Some (byte - 48)

-- the number that digits spell behind those of this value
abbrev pub digits_behind : ℕ → List ℕ → Option ℕ
digits_behind value [] = Some value
digits_behind value (byte ∷ more) =
    option_and_then (λ digit. digits_behind (10 * value + digit) more) (digit_value byte)

-- a number that is not above `most`
abbrev pub at_most : ℕ → Option ℕ → Option ℕ
at_most most spelled =
    option_and_then (λ number. if nat_le number most then Some number else None) spelled

-- the number with one more digit, if it is not above `most`
unfoldable pub next_digit : ℕ → ℕ → ℕ → Option ℕ
next_digit most value byte =
    option_and_then (λ digit. at_most most (Some (10 * value + digit))) (digit_value byte)

-- whether a zero stands before further digits
abbrev pub has_leading_zero : List ℕ → Bool
has_leading_zero [] = false
has_leading_zero (first ∷ []) = false
has_leading_zero (first ∷ second ∷ more) = first == 48

-- the number that a field spells: decimal digits, without a sign and without a leading zero
abbrev pub number_of : List ℕ → Option ℕ
number_of [] = None
number_of (first ∷ more) =
    if has_leading_zero (first ∷ more) then None else digits_behind 0 (first ∷ more)

-- a number of this range
unfoldable pub number_field : ℕ → ℕ → List ℕ → Result ℕ LineCode
number_field least most text =
    option_map_or (λ number. passed Field (nat_le least number) number)
    (at_most most (number_of text)) (Err Field)

-- ---- bytes

-- the value of a hexadecimal digit that is a lower-case letter
abbrev pub letter_value : ℕ → Option ℕ
letter_value byte = if nat_lt byte 97 then None else if nat_lt 102 byte then None else Some (byte - 87)

-- the value of a lower-case hexadecimal digit
unfoldable pub hex_value : ℕ → Option ℕ
hex_value byte = option_map_or Some (digit_value byte) (letter_value byte)

-- the byte that two digits spell
unfoldable pub byte_of : ℕ → ℕ → Option ℕ
byte_of high low =
    option_and_then (λ x. option_map (λ y. 16 * x + y) (hex_value low)) (hex_value high)

-- the bytes that digits spell, two digits each
abbrev pub pairs_of : List ℕ → Option (List ℕ)
pairs_of [] = Some []
pairs_of (high ∷ []) = None
pairs_of (high ∷ low ∷ more) =
    option_and_then (λ byte. option_map (λ bytes. byte ∷ bytes) (pairs_of more)) (byte_of high low)

-- the bytes that a field spells: `x`, and two digits for each byte
abbrev pub bytes_of : List ℕ → Option (List ℕ)
bytes_of [] = None
bytes_of (first ∷ digits) = if first == 120 then pairs_of digits else None

-- so many bytes
unfoldable pub bytes_field : ℕ → ℕ → List ℕ → Result (List ℕ) LineCode
bytes_field least most text =
    option_map_or
    (λ bytes. passed Field (nat_le least (length bytes) && nat_le (length bytes) most) bytes)
    (bytes_of text) (Err Field)

-- ---- words

-- `read` or `write`
unfoldable pub level_field : List ℕ → Result Level LineCode
level_field text =
    if bytes_eq text (codes "read") then Ok Read
    else if bytes_eq text (codes "write") then Ok Write else Err Field

-- `push` or `stay`
unfoldable pub push_field : List ℕ → Result Bool LineCode
push_field text =
    if bytes_eq text (codes "push") then Ok true
    else if bytes_eq text (codes "stay") then Ok false else Err Field
