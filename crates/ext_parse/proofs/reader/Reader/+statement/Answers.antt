-- No other word begins a statement.
use Rattle.std.proofs.Common.{◌∙◌, ap, sym}
use Rattle.ext_parse.proofs.Statements.{statements-refused, no-word-in-block, may_stand}
use Rattle.ext_parse.proofs.reader.Reader.+statement.Goals as goal

pub worded-returns-in_default : goal.worded-returns-in_default
worded-returns-in_default t c = record {
  reads = λ known around. statements-refused known around _ (ap may_stand c.requires.next ∙ no-word-in-block c.args.word c.in_default.not-Let c.in_default.not-If c.in_default.not-While c.in_default.not-Get c.in_default.not-Multiget c.in_default.not-Set c.in_default.not-Set8 c.in_default.not-Copy c.in_default.not-Put c.in_default.not-Del c.in_default.not-Resp c.requires.more) ∙ sym (c.refuse.ensures _);
  shorter = tt;
}
