-- What every run that a client sent keeps.
use Rattle.std.specs.Prelude.{Bool, true, false}
use Rattle.sp_base.specs.declared.outcomes.Outcome.{Outcome}
use Rattle.sp_base.specs.declared.outcomes.Outcome.TheVariants.{Done, Trapped, Killed}

-- whether a run came to its end
abbrev pub is_done : Outcome → Bool
is_done (Done reply) = true
is_done (Trapped trap) = false
is_done Killed = false
