-- The word that bytes spell.
use Rattle.std.specs.Prelude.{ℕ, List, [], ◌∷◌, Option, Some, None, if◌then◌else◌}
use Rattle.std.specs.Str.{bytes_eq}
use Rattle.ext_mean.specs.declared.token.Word.{Word}
use Rattle.ext_mean.specs.Tokens.{letters}

-- the first of these words that has the letters
abbrev pub word_among : List Word → List ℕ → Option Word
word_among [] bytes = None
word_among (word ∷ words) bytes =
    if bytes_eq (letters word) bytes then (Some word) else (word_among words bytes)
