-- What a text of whole lines spells, and its first fault, by the answer to its tokens.
use Rattle.std.proofs.Common.{ap}
use Rattle.ext_grammar.specs.Reading.{whole_answer}
use Rattle.ext_parse.specs.Readers.{ending_of}
use Rattle.ext_parse.proofs.Readings.{if-found, if-only, if-fault}
use Rattle.ext_parse.proofs.parsing.parse_lines.Goals as goal

pub returns-clause-found : goal.returns-clause-found
returns-clause-found c =
    if-found c.args.text.now c.in_ok-scanned.scanned (whole_answer (ending_of c.in_ok-scanned.scanned.end) c.as_slice.result.now) c.read_program.result (ap (whole_answer (ending_of c.in_ok-scanned.scanned.end)) c.as_slice.ensures.value) c.requires.size c.requires.lines c.in_ok-scanned.ensures c.read_program.ensures

pub returns-clause-only : goal.returns-clause-only
returns-clause-only c =
    if-only c.args.text.now c.in_ok-scanned.scanned (whole_answer (ending_of c.in_ok-scanned.scanned.end) c.as_slice.result.now) c.read_program.result (ap (whole_answer (ending_of c.in_ok-scanned.scanned.end)) c.as_slice.ensures.value) c.in_ok-scanned.ensures c.read_program.ensures

pub returns-clause-fault : goal.returns-clause-fault
returns-clause-fault c =
    if-fault c.args.text.now c.in_ok-scanned.scanned (whole_answer (ending_of c.in_ok-scanned.scanned.end) c.as_slice.result.now) c.read_program.result (ap (whole_answer (ending_of c.in_ok-scanned.scanned.end)) c.as_slice.ensures.value) c.requires.size c.requires.lines c.in_ok-scanned.ensures c.read_program.ensures
