-- The lengths that keys, values, arguments, replies, texts and bodies of frames may have, in bytes.
use Rattle.std.specs.Prelude.{ℕ, ◌≤◌, List, length}
use Rattle.sp_base.specs.declared.limits.TheConstants.{MOST_KEY, MOST_VALUE, MOST_ARGUMENTS, MOST_TEXT, MOST_FRAME}

-- a key has from 1 to 64 bytes
pub record IsKey (bytes : List ℕ) : Type 0 where
  pub some : 1 ≤ length bytes
  pub short : length bytes ≤ MOST_KEY

-- a record's value has at most 4,096 bytes
abbrev pub IsValue : List ℕ → Type 0
IsValue bytes = length bytes ≤ MOST_VALUE

-- a call's arguments have at most 1,024 bytes
abbrev pub IsArguments : List ℕ → Type 0
IsArguments bytes = length bytes ≤ MOST_ARGUMENTS

-- an extension's text has from 1 to 16,384 bytes
pub record IsText (bytes : List ℕ) : Type 0 where
  pub some : 1 ≤ length bytes
  pub short : length bytes ≤ MOST_TEXT

-- the body of a frame has at most 8,388,608 bytes
abbrev pub IsBody : List ℕ → Type 0
IsBody body = length body ≤ MOST_FRAME
