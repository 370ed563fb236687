use Rattle.sched_text.specs.Texts.{lines_of}
use Rattle.sched_text.proofs.Coding.{table_absent, table_room, text_there}
use Rattle.sched_text.proofs.draft.Draft.add.Goals as goal

pub grant-requires-clause-absent : goal.grant-requires-clause-absent
grant-requires-clause-absent c = table_absent c.args.self.now (lines_of c.args.behind.now) c.in-Table.table c.in-Table.tenant c.in-Table.level (rw c.in-Table.is at c.requires.good)

pub grant-requires-clause-room : goal.grant-requires-clause-room
grant-requires-clause-room c = table_room c.args.self.now (lines_of c.args.behind.now) c.in-Table.table c.in-Table.tenant c.in-Table.level (rw c.in-Table.is at c.requires.good)

pub push_text-requires : goal.push_text-requires
push_text-requires c = text_there c.args.self.now (lines_of c.args.behind.now) c.in-Ext.tenant c.in-Ext.lines (rw c.in-Ext.is at c.requires.good)
