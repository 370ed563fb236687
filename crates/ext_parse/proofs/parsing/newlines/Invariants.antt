-- The newlines so far and those that are left are all.
use Rattle.std.proofs.Common.{◌≡◌, ◌+◌, ◌≤◌, drop}
use Rattle.ext_mean.specs.Tokens.{newlines}
use Rattle.ext_parse.proofs.parsing.newlines.Given as goal

abbrev pub invariant-loop-byte : goal.invariant-loop-byte
invariant-loop-byte l = record {
  count : l.count + newlines (drop l.byte-index l.text) ≡ newlines l.text;
  few : l.count ≤ l.byte-index;
}
