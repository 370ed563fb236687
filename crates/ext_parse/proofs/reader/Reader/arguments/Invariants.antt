-- What is left is the whole, behind the arguments so far.
use Rattle.std.proofs.Common.{◌≡◌, ◌≤◌, ℕ, List}
use Rattle.ext_mean.specs.declared.statement.Kind.{Kind}
use Rattle.ext_grammar.specs.Coming.{AroundStatement, first_argument, call_argument, expression}
use Rattle.ext_parse.specs.Readers.{stand, left, remaining}
use Rattle.ext_parse.proofs.reader.Reader.arguments.Given as goal

abbrev pub invariant-values : goal.invariant-values
invariant-values l = record {
  same : (name : List ℕ) (kind : Kind) (called : List ℕ) (around : AroundStatement) →
      left (first_argument name kind called around) (stand l.fn.self) ≡ left (expression (call_argument name kind called l.found around)) (stand l.self);
  shorter : remaining (stand l.self) ≤ remaining (stand l.fn.self);
}

abbrev pub decreases-values : goal.decreases-values
decreases-values l = remaining (stand l.self)
