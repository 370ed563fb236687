use Rattle.sched_text.specs.Texts.{lines_of}
use Rattle.sched_text.proofs.Calling.{text_there}
use Rattle.sched_text.proofs.call_draft.CallDraft.add.Goals as goal

pub add_text-requires : goal.add_text-requires
add_text-requires c = (text_there (lines_of c.args.behind.now) c.in-Install.lines (rw c.in-Install.is at c.requires)).are
