-- A read with its operands, as the grammar names it.
use Rattle.ext_grammar.specs.Coming.{Looking, get, multiget}
use Rattle.ext_parse.specs.declared.look.Look.{Look}
use Rattle.ext_parse.specs.declared.look.Look.TheVariants as look

abbrev pub looking_of : Look → Looking
looking_of (look.Get table key) = get table key
looking_of (look.Multiget table keys width) = multiget table keys width
