-- What was kept is all that does not stand at the place.
use Rattle.std.proofs.Common.{rules, ap, ◌∙◌, List}
use Rattle.std.proofs.lemmas.Fn.{filter_same}
use Rattle.records.specs.declared.stored.Stored.{Stored}
use Rattle.records.specs.Records.{held_at, place_at}
use Rattle.records.proofs.Holding.{held-taken}
use Rattle.records.proofs.tables.Tables.del.Goals as goal

pub returns-clause-records : goal.returns-clause-records
returns-clause-records c place =
    rw (← c.self.view_is)
    (ap (λ (stored : List Stored). held_at stored place)
    (filter_same _ _ _ (λ x b f' k. search rules) _ _ c.retain.ensures.filtered)
    ∙ held-taken _ (place_at c.args.table c.args.key.now) place)
