-- what the words still to come tell is what all tell
use Rattle.std.specs.Prelude.{string_bytes}
use Rattle.std.specs.List.{list_any}
use Rattle.std.proofs.Common.{◌≡◌, drop}
use Rattle.words.specs.Grammar.{is_refused}
use Rattle.words.proofs.read.has_refused.Given as goal

abbrev pub invariant-loop-word : goal.invariant-loop-word
invariant-loop-word l =
    list_any (λ word. is_refused (string_bytes word)) (drop l.word-index l.words) ≡ list_any (λ word. is_refused (string_bytes word)) l.fn.words
