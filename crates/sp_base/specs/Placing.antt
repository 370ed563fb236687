-- When a call that goes on is pushed back to its client.
use Rattle.std.specs.Prelude.{ℕ, ◌&&◌, Bool, nat_le}
use Rattle.sp_base.specs.declared.calls.Policy.{Policy}
use Rattle.sp_base.specs.declared.limits.TheConstants.{MOST_PUSHED}

-- the call allows it, enough calls are live, it has spent enough units, and its reads weigh little
-- enough to be sent
abbrev pub is_pushed : Policy → ℕ → ℕ → ℕ → Bool → Bool
is_pushed policy load spent bytes push_ok =
    push_ok && nat_le policy.high load && nat_le policy.least spent && nat_le bytes MOST_PUSHED
