-- Frames on a stream, one after the other.
use Rattle.std.specs.Prelude.{◌≡◌, ℕ, ◌+◌, ◌<◌, ◌≤◌, List, length, take}
use Rattle.std.specs.Int.{w32, from_be_bytes}
use Rattle.std.specs.List.{flat_map}
use Rattle.sp_base.specs.declared.limits.TheConstants.{MOST_FRAME}
use Rattle.sp_base.specs.Spelling.{frame}

-- the stream that these frames make, one after the other
abbrev pub stream_of : List (List ℕ) → List ℕ
stream_of bodies = flat_map frame bodies

-- the length that the first four bytes spell
abbrev pub announced : List ℕ → ℕ
announced bytes = from_be_bytes w32 (take 4 bytes)

-- a length that is too long stands at the front
pub record IsTooLong (n : ℕ) (bytes : List ℕ) : Type 0 where
  pub spelled : 4 ≤ length bytes
  pub is : announced bytes ≡ n
  pub over : MOST_FRAME < n

-- no whole frame stands at the front
abbrev pub NoFrame : List ℕ → Type 0
NoFrame bytes = 4 ≤ length bytes → announced bytes ≤ MOST_FRAME → length bytes < 4 + announced bytes

-- the length at the front, if its four bytes are there, is none that is too long
abbrev pub NotTooLong : List ℕ → Type 0
NotTooLong bytes = 4 ≤ length bytes → announced bytes ≤ MOST_FRAME

-- less than a whole frame
pub record IsUnfinished (bytes : List ℕ) : Type 0 where
  pub allowed : NotTooLong bytes
  pub short : NoFrame bytes
