-- The record at the place is replaced, or stands behind the others.
use Rattle.std.proofs.Common.{refl, ◌≡◌, Some, None, ap, ◌∙◌, sym, List}
use Rattle.std.specs.Prelude.{position}
use Rattle.records.specs.declared.stored.Stored.{Stored}
use Rattle.records.specs.Records.{held_at, is_at, place_at}
use Rattle.records.proofs.Holding.{held-put-behind, held-put-over}
use Rattle.records.proofs.tables.Tables.put.Goals as goal

pub returns-in-Some-clause-records : goal.returns-in-Some-clause-records
returns-in-Some-clause-records c place =
    let found : position (is_at (place_at c.args.table c.args.key)) c.self.inside.stored.items ≡ Some c.in-Some.at =
    ap (λ (stored : List Stored). position (is_at (place_at c.args.table c.args.key)) stored) (sym c.as_slice.ensures.value)
    ∙ sym c.index_of.ensures ∙ c.in-Some.is in
    rw (← c.self.view_is)
    (held-put-over _ _ _ c.index_mut-stored.result.now (place_at c.args.table c.args.key) place found
    c.index_mut-stored.ensures.value refl)

pub returns-in-None-clause-records : goal.returns-in-None-clause-records
returns-in-None-clause-records c place =
    let nowhere : position (is_at (place_at c.args.table c.args.key)) c.self.inside.stored.items ≡ None =
    ap (λ (stored : List Stored). position (is_at (place_at c.args.table c.args.key)) stored) (sym c.as_slice.ensures.value)
    ∙ sym c.index_of.ensures ∙ c.in-None.is in
    rw (← c.self.view_is)
    (ap (λ (stored : List Stored). held_at stored place) c.push_reserved.ensures.items
    ∙ held-put-behind _ _ place nowhere)
