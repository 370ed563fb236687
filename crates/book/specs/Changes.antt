-- The changes that an entry makes to the tables.
use Rattle.std.specs.Prelude.{List, [], ◌∷◌}
use Rattle.sp_base.specs.declared.writes.Change.TheVariants as change
use Rattle.sp_base.specs.declared.writes.Write.{Write}
use Rattle.journal.specs.declared.entry.Entry.{Entry}
use Rattle.journal.specs.declared.entry.Entry.TheVariants.{Invoke, Put, Install}

-- a call's own writes, and a put's one
abbrev pub changes_in : Entry → List Write
changes_in (Invoke call outcome writes reads home) = writes
changes_in (Put tenant table key value) = record { table = table; key = key; change = change.Put value } ∷ []
changes_in (Install tenant text) = []
