-- The lines of a text.
use Rattle.std.specs.Prelude.{ℕ, zero, suc, ◌==◌, Bool, true, false, ◌&&◌, List, [], ◌∷◌, if◌then◌else◌}
use Rattle.std.specs.Option.{is_some}
use Rattle.sched_text.specs.Fields.{cut}

-- a byte before the first line
abbrev pub onto : ℕ → List (List ℕ) → List (List ℕ)
onto byte [] = (byte ∷ []) ∷ []
onto byte (line ∷ lines) = (byte ∷ line) ∷ lines

-- the lines of a text, each with its newline; the last may lack it
abbrev pub lines_of : List ℕ → List (List ℕ)
lines_of [] = []
lines_of (byte ∷ text) = if byte == 10 then (10 ∷ []) ∷ lines_of text else onto byte (lines_of text)

-- a line without its newline
abbrev pub bare : List ℕ → List ℕ
bare line = (cut 10 line).0

-- whether a line has its newline
abbrev pub is_ended : List ℕ → Bool
is_ended line = is_some (cut 10 line).1

-- whether so many lines are there, each with its newline
abbrev pub has_lines : ℕ → List (List ℕ) → Bool
has_lines zero lines = true
has_lines (suc count) [] = false
has_lines (suc count) (line ∷ lines) = is_ended line && has_lines count lines

-- whether a line is passed over: an empty one, or a comment
abbrev pub is_skipped : List ℕ → Bool
is_skipped [] = true
is_skipped (byte ∷ rest) = byte == 35
