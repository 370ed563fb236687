-- Where the first lines of a text end.
use Rattle.std.specs.Prelude.{◌≡◌, ◌≤◌, ℕ, true, List, length, take, drop}
use Rattle.std.specs.List.{concat}
use Rattle.sched_text.specs.Texts.{lines_of, has_lines}

-- so many lines are there, and end here
pub record IsEnd (count : ℕ) (text : List ℕ) (end : ℕ) : Type 0 where
  pub are : has_lines count (lines_of text) ≡ true
  pub within : end ≤ length text
  pub front : take end text ≡ concat (take count (lines_of text))
  pub behind : lines_of (drop end text) ≡ drop count (lines_of text)
