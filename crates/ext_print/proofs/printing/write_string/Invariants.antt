-- What is written and what is left to write are the whole.
use Rattle.std.proofs.Common.{◌≡◌, ◌++◌, ◌∷◌, [], drop}
use Rattle.std.specs.List.{flat_map}
use Rattle.ext_mean.specs.Canonical.{shown_byte}
use Rattle.ext_print.proofs.printing.write_string.Given as goal

abbrev pub invariant-loop-byte : goal.invariant-loop-byte
invariant-loop-byte l =
    l.text.items ++ (flat_map shown_byte (drop l.byte-index l.items) ++ 0x22 ∷ [])
    ≡ l.fn.text.items ++ 0x22 ∷ (flat_map shown_byte l.items ++ 0x22 ∷ [])
