-- What is left is the whole, behind the parameters so far.
use Rattle.std.proofs.Common.{◌≡◌, ◌≤◌, ℕ, List}
use Rattle.ext_mean.specs.declared.tree.Function.{Function}
use Rattle.ext_grammar.specs.Coming.{first_parameter, parameter}
use Rattle.ext_parse.specs.Readers.{stand, left, remaining}
use Rattle.ext_parse.proofs.reader.Reader.parameters.Given as goal

abbrev pub invariant-params : goal.invariant-params
invariant-params l = record {
  same : (known : List Function) (name : List ℕ) →
      left (first_parameter known name) (stand l.fn.self) ≡ left (parameter known name l.found) (stand l.self);
  shorter : remaining (stand l.self) ≤ remaining (stand l.fn.self);
}

abbrev pub decreases-params : goal.decreases-params
decreases-params l = remaining (stand l.self)
