-- A text that is refused is accepted as no program, and has no other first refusal.
use Rattle.ext_check.proofs.Told.{told}
use Rattle.ext_check.proofs.check.check_text.Goals as goal

pub returns-clause-only_refused : goal.returns-clause-only_refused
returns-clause-only_refused c line which refused =
    told c.args.text.now c.checked.result line which c.checked.ensures.accepted c.checked.ensures.refused refused
