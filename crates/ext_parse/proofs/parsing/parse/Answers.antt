-- A text that has a fault spells no program, and has no other fault.
use Rattle.ext_parse.proofs.Told.{told}
use Rattle.ext_parse.proofs.parsing.parse.Goals as goal

pub returns-clause-only_fault : goal.returns-clause-only_fault
returns-clause-only_fault c line which fault =
    told c.args.text.now c.parse_text.result line which c.parse_text.ensures.found c.parse_text.ensures.fault fault
