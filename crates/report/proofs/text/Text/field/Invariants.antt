-- The digits of the bytes so far stand behind the mark of a byte field.
use Rattle.std.proofs.Common.{◌≡◌, ◌++◌, take}
use Rattle.std.specs.List.{flat_map}
use Rattle.sp_base.specs.Fields.{hex_pair}
use Rattle.report.proofs.text.Text.field.Given as goal

abbrev pub invariant-loop-byte : goal.invariant-loop-byte
invariant-loop-byte l = l.self ≡ l.initial.self ++ flat_map hex_pair (take l.byte-index l.bytes)
