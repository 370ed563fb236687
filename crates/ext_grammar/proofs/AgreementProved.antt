-- The reader of tokens and the grammar agree.
use Rattle.std.proofs.Common.{[], sym, ◌∙◌, ap, subst}
use Rattle.ext_mean.specs.Derived.{program_tree}
use Rattle.ext_mean.specs.Text.{item_lines}
use Rattle.ext_mean.specs.Wording.{program_slots}
use Rattle.ext_grammar.specs.Agreement.{ProgramsAreAccepted, AcceptedArePrograms, FaultsAreFirst}
use Rattle.ext_grammar.specs.Coming.{functions}
use Rattle.ext_grammar.specs.Reading.{Answer, accepted}
use Rattle.ext_grammar.proofs.LedPrograms.{program-leads}
use Rattle.ext_grammar.proofs.Reached.{start, none_counted}
use Rattle.ext_grammar.proofs.Accepted.{followed}
use Rattle.ext_grammar.proofs.Explained.{Explains, whole-explained}

pub programs-are-accepted : ProgramsAreAccepted
programs-are-accepted placed ending program lines complete make =
    followed ending complete (program_tree make.whole) (program_slots make.whole) placed []
    (functions []) none_counted [] start
    (program-leads make.whole) make.sentence make.bounds
    ∙ ap (λ it. accepted it (item_lines (program_slots make.whole) placed)) (sym make.tree)
    ∙ ap (λ it. accepted program it) (sym make.places)

pub accepted-are-programs : AcceptedArePrograms
accepted-are-programs placed ending program lines sound same =
    let P : Answer → Type 0 = λ it. Explains placed ending it in
    subst P same (whole-explained placed ending sound)

pub faults-are-first : FaultsAreFirst
faults-are-first placed ending line which sound same =
    let P : Answer → Type 0 = λ it. Explains placed ending it in
    subst P same (whole-explained placed ending sound)
