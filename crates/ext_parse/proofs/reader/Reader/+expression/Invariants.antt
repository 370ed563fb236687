-- The tokens that are left, and then the levels of the grammar from the top.
use Rattle.std.proofs.Common.{◌≡◌, ◌<◌, ◌+◌, ◌*◌}
use Rattle.ext_grammar.specs.Coming.{AroundExpr, unary, behind, side, chain}
use Rattle.ext_parse.specs.Levels.{of_level, levels_below}
use Rattle.ext_parse.specs.Readers.{stand, left, remaining}
use Rattle.ext_parse.proofs.reader.Reader.+expression.Given as goal

abbrev pub decreases-expression : goal.decreases-expression
decreases-expression l = 20 * remaining (stand l.self.now) + 16

abbrev pub decreases-chain : goal.decreases-chain
decreases-chain l = 20 * remaining (stand l.self.now) + 2 * levels_below l.level + 6

abbrev pub decreases-side : goal.decreases-side
decreases-side l = 20 * remaining (stand l.self.now) + 2 * levels_below l.level + 5

abbrev pub decreases-unary : goal.decreases-unary
decreases-unary l = 20 * remaining (stand l.self.now) + 4

abbrev pub decreases-primary : goal.decreases-primary
decreases-primary l = 20 * remaining (stand l.self.now) + 3

abbrev pub decreases-parentheses : goal.decreases-parentheses
decreases-parentheses l = 20 * remaining (stand l.self.now) + 2

abbrev pub decreases-word : goal.decreases-word
decreases-word l = 20 * remaining (stand l.self.now) + 2

abbrev pub decreases-one_operand : goal.decreases-one_operand
decreases-one_operand l = 20 * remaining (stand l.self.now)

abbrev pub decreases-two_operands : goal.decreases-two_operands
decreases-two_operands l = 20 * remaining (stand l.self.now)

abbrev pub decreases-byte : goal.decreases-byte
decreases-byte l = 20 * remaining (stand l.self.now) + 1

abbrev pub decreases-u64_of : goal.decreases-u64_of
decreases-u64_of l = 20 * remaining (stand l.self.now) + 1

abbrev pub decreases-leading_operands : goal.decreases-leading_operands
decreases-leading_operands l = 20 * remaining (stand l.self.now)

abbrev pub decreases-sub : goal.decreases-sub
decreases-sub l = 20 * remaining (stand l.self.now) + 1

abbrev pub decreases-alloc_of : goal.decreases-alloc_of
decreases-alloc_of l = 20 * remaining (stand l.self.now) + 1

-- what is left is the whole, behind what was found
abbrev pub invariant-chain-operators : goal.invariant-chain-operators
invariant-chain-operators l = record {
  same : (around : AroundExpr) →
      left (unary (side (of_level l.level) (chain (of_level l.level) around))) (stand l.fn.self) ≡ left (behind l.found (chain (of_level l.level) around)) (stand l.self);
  shorter : remaining (stand l.self) < remaining (stand l.fn.self);
}

abbrev pub decreases-chain-operators : goal.decreases-chain-operators
decreases-chain-operators l = remaining (stand l.self)
