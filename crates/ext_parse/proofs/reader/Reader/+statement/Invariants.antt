-- The tokens that are left, and then what leads to the next block.
use Rattle.std.proofs.Common.{◌≡◌, ◌<◌, ◌+◌, ◌*◌}
use Rattle.ext_grammar.specs.Coming.{AroundBlock, braces, statements}
use Rattle.ext_parse.specs.Readers.{stand, left, remaining}
use Rattle.ext_parse.proofs.reader.Reader.+statement.Given as goal

-- what is left is the whole, behind the statements so far
abbrev pub invariant-block-items : goal.invariant-block-items
invariant-block-items l = record {
  same : (around : AroundBlock) → left (braces around) (stand l.fn.self) ≡ left (statements l.items around) (stand l.self);
  shorter : remaining (stand l.self) < remaining (stand l.fn.self);
}

abbrev pub decreases-block-items : goal.decreases-block-items
decreases-block-items l = remaining (stand l.self)

abbrev pub decreases-statement : goal.decreases-statement
decreases-statement l = 10 * remaining (stand l.self.now) + 5

abbrev pub decreases-worded : goal.decreases-worded
decreases-worded l = 10 * remaining (stand l.self.now) + 4

abbrev pub decreases-branch : goal.decreases-branch
decreases-branch l = 10 * remaining (stand l.self.now) + 3

abbrev pub decreases-turns : goal.decreases-turns
decreases-turns l = 10 * remaining (stand l.self.now) + 3

abbrev pub decreases-armed : goal.decreases-armed
decreases-armed l = 10 * remaining (stand l.self.now) + 2

abbrev pub decreases-arms : goal.decreases-arms
decreases-arms l = 10 * remaining (stand l.self.now) + 1

abbrev pub decreases-block : goal.decreases-block
decreases-block l = 10 * remaining (stand l.self.now) + 1
