-- The text of an extension: which program it spells, and on which line each item begins.
use Rattle.std.specs.Prelude.{◌≡◌, ◌≤◌, ℕ, List, [], ◌∷◌, ◌++◌, length}
use Rattle.sp_base.specs.declared.limits.TheConstants.{MOST_TEXT}
use Rattle.ext_mean.specs.declared.tree.Program.{Program}
use Rattle.ext_mean.specs.declared.token.Placed.{Placed}
use Rattle.ext_mean.specs.Tokens.{Tokens, tokens_of, IsGap, newline}
use Rattle.ext_mean.specs.Grammar.{Whole}
use Rattle.ext_mean.specs.Derived.{program_tree}
use Rattle.ext_mean.specs.Wording.{Slot, Standing, begins, program_slots, program_tokens}
use Rattle.ext_mean.specs.Bounds.{AreBounded}

-- the last byte is a newline
abbrev pub EndsLine : List ℕ → Type 0
EndsLine text = (front : List ℕ) × (text ≡ front ++ newline ∷ [])

-- The lines of the items, in the order in which the items are numbered from 0: the line of an item
-- is that of its first token.
abbrev pub line_if_begins : Standing → ℕ → List ℕ → List ℕ
line_if_begins begins line lines = line ∷ lines
line_if_begins other line lines = lines

abbrev pub item_lines : List Slot → List Placed → List ℕ
item_lines (slot ∷ slots) (placed ∷ more) =
    line_if_begins slot.standing placed.line (item_lines slots more)
item_lines slots placed = []

-- A reading of a text: its tokens are those of a derivation within the bounds.
pub record Reading (text : List ℕ) : Type 0 where
  pub placed : List Placed
  pub last : List ℕ
  pub whole : Whole
  pub size : length text ≤ MOST_TEXT
  pub ends : EndsLine text
  pub tokens : Tokens text 1 placed last
  pub gap : IsGap last
  pub sentence : program_tokens whole ≡ tokens_of placed
  pub bounds : AreBounded (program_slots whole)

-- the text spells the program, with its items on these lines
pub record SpellsAt (text : List ℕ) (program : Program) (lines : List ℕ) : Type 0 where
  pub reading : Reading text
  pub tree : program ≡ program_tree reading.whole
  pub places : lines ≡ item_lines (program_slots reading.whole) reading.placed

-- the text spells the program
abbrev pub Spells : List ℕ → Program → Type 0
Spells text program = (lines : List ℕ) × SpellsAt text program lines
