-- the fields so far, and those of what is left
use Rattle.std.proofs.Common.{◌≡◌, ◌++◌, ◌-◌}
use Rattle.std.specs.Prelude.{map}
use Rattle.sched_text.specs.Fields.{first_fields}
use Rattle.sched_text.proofs.fields.fields.Given as goal

abbrev pub invariant-loop : goal.invariant-loop
invariant-loop l =
    map (λ x. x.now) l.fields.items ++ first_fields (10 - l.counter) l.rest ≡ first_fields 10 l.line
