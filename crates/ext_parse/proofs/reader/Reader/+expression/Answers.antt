-- No other word begins an operand.
use Rattle.std.proofs.Common.{◌∙◌, ap, sym}
use Rattle.ext_parse.proofs.Operands.{begins-none, no-word, may_begin}
use Rattle.ext_parse.proofs.reader.Reader.+expression.Goals as goal

pub word-returns-in_default : goal.word-returns-in_default
word-returns-in_default t c = record {
  reads = λ around. begins-none around _ (ap may_begin c.requires ∙ no-word c.args.word c.in_default.not-True c.in_default.not-False c.in_default.not-Args c.in_default.not-View c.in_default.not-Len c.in_default.not-Temp c.in_default.not-Byte c.in_default.not-U64 c.in_default.not-Sub c.in_default.not-Alloc) ∙ sym (c.refuse.ensures _);
  shorter = tt;
}
