-- The first line of a text, and the lines behind it.
use Rattle.std.specs.Prelude.{◌≡◌, ℕ, List, ◌∷◌}
use Rattle.sched_text.specs.Texts.{lines_of, bare}

-- the text is a line, which is this one with or without its newline, and the lines behind it
pub record BeginsWith (text line behind : List ℕ) : Type 0 where
  pub whole : List ℕ
  pub lines : lines_of text ≡ whole ∷ lines_of behind
  pub bared : bare whole ≡ line
