-- The words by which reports name what is wrong with a line.
use Rattle.std.specs.Prelude.{ℕ, List, codes}
use Rattle.sched_text.specs.declared.code.LineCode.{LineCode}
use Rattle.sched_text.specs.declared.code.LineCode.TheVariants.{Long, Many, Word, Count, Field, Order, Twice, NoTenant, NoWorker, Text, Refused}

abbrev pub code_word : LineCode → List ℕ
code_word Long = codes "Long"
code_word Many = codes "Many"
code_word Word = codes "Word"
code_word Count = codes "Count"
code_word Field = codes "Field"
code_word Order = codes "Order"
code_word Twice = codes "Twice"
code_word NoTenant = codes "NoTenant"
code_word NoWorker = codes "NoWorker"
code_word Text = codes "Text"
code_word Refused = codes "Refused"
