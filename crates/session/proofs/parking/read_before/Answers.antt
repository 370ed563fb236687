-- A read that is found is within the limits.
use Rattle.std.specs.Prelude.{IfSome}
use Rattle.std.specs.List.{AllByRecursion}
use Rattle.std.specs.Option.{option_copied}
use Rattle.std.proofs.Common.{◌≡◌, List, Option, Some, None, Bor, sym}
use Rattle.sp_base.specs.declared.reads.ReadItem.{ReadItem}
use Rattle.sp_base.specs.Places.{Place}
use Rattle.sp_base.specs.Spelling.{FitsOpt}
use Rattle.ext_mean.specs.Laws.{place_in}
use Rattle.rw_set.specs.ReadLists.{read_of}
use Rattle.session.proofs.Fetching.{read-all}
use Rattle.session.proofs.parking.read_before.Goals as goal

some-fits : (found : Option (Bor ReadItem)) (reads : List ReadItem) (place : Place) → option_copied found ≡ read_of reads place
    → AllByRecursion (λ read. FitsOpt read.value) reads → IfSome found (λ read. FitsOpt read.now.value)
some-fits None reads place is all = tt
some-fits (Some read) reads place is all = read-all (λ (r : ReadItem). FitsOpt r.value) reads place read.now all (sym is)

pub returns-clause-value : goal.returns-clause-value
returns-clause-value c = some-fits c.find.result c.reads-reads.result.now (place_in c.args.table c.args.key.now) c.find.ensures c.items-kept.ensures.kept.values
