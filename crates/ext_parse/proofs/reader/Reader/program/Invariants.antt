-- What is left is the whole, behind the functions so far; behind one of them the text goes on.
use Rattle.std.proofs.Common.{◌≡◌, [], true}
use Rattle.ext_grammar.specs.Coming as grammar
use Rattle.ext_parse.specs.Ends.{ends, may_follow}
use Rattle.ext_parse.specs.Readers.{stand, left, remaining}
use Rattle.ext_parse.proofs.reader.Reader.program.Given as goal

abbrev pub invariant-functions : goal.invariant-functions
invariant-functions l = record {
  same : left (grammar.functions []) (stand l.fn.self) ≡ left (grammar.functions l.functions) (stand l.self);
  follows : may_follow (ends (stand l.self)) l.functions ≡ true;
}

abbrev pub decreases-functions : goal.decreases-functions
decreases-functions l = remaining (stand l.self)
