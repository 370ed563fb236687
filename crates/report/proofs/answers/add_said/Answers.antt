-- The longest words.
use Rattle.report.proofs.answers.add_said.Goals as goal

pub returns-in-NoExtension : goal.returns-in-NoExtension
returns-in-NoExtension c = rw c.in-NoExtension.is (rw c.from.ensures at c.add_counted-in-NoExtension.ensures)

pub returns-in-BadBudget : goal.returns-in-BadBudget
returns-in-BadBudget c = rw c.in-BadBudget.is c.word-in-BadBudget.ensures

pub returns-in-NotParked : goal.returns-in-NotParked
returns-in-NotParked c = rw c.in-NotParked.is c.word-in-NotParked.ensures
