-- What an index by callers tells.
use Rattle.std.specs.Prelude.{ℕ, ◌==◌, ◌&&◌, Bool, Option}
use Rattle.std.specs.HashMap.{get}
use Rattle.sp_base.specs.declared.numbers.Caller.{Caller}
use Rattle.clients.specs.declared.callers.Callers.{Callers}

-- the numbers of a caller are what the index looks it up by
abbrev pub same_numbers : ℕ × ℕ → ℕ × ℕ → Bool
same_numbers a b = (a.0 == b.0) && (a.1 == b.1)

-- the number that the index has for a caller
abbrev pub number_of : Callers → Caller → Option ℕ
number_of callers caller = get same_numbers callers.numbers (caller.tenant.0, caller.number)
