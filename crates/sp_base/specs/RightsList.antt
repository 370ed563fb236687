-- Lists of rights: tables with their levels.
use Rattle.std.specs.Prelude.{◌≢◌, ℕ, ◌+◌, ◌≤◌, ◌^◌, ◌==◌, ◌&&◌, nat_lt, Bool, true, false, List, [], ◌∷◌, length, if◌then◌else◌}
use Rattle.sp_base.specs.declared.rights.Level.{Level}
use Rattle.sp_base.specs.declared.rights.Level.TheVariants.{Nothing, Read, Write}
use Rattle.sp_base.specs.declared.limits.TheConstants.{MOST_RIGHTS}
use Rattle.sp_base.specs.declared.numbers.TableId.{TableId}

-- each table is at least this number, and above the one before it, and no level is Nothing
abbrev pub RisesFrom : ℕ → List (TableId × Level) → Type 0
RisesFrom least [] = Unit {0}
RisesFrom least (right ∷ rest) =
    (least ≤ right.0.0) × (right.1 ≢ Nothing) × RisesFrom (right.0.0 + 1) rest

-- the tables strictly increase, there are at most 64, and no level is Nothing
pub record AreRights (list : List (TableId × Level)) : Type 0 where
  pub rising : RisesFrom 0 list
  pub few : length list ≤ MOST_RIGHTS

-- the level of a table: Nothing where no right names it
abbrev pub level_of : List (TableId × Level) → ℕ → Level
level_of [] table = Nothing
level_of (right ∷ rest) table = if right.0.0 == table then right.1 else level_of rest table

-- whether a level lets a table be read
abbrev pub allows_read : Level → Bool
allows_read Nothing = false
allows_read Read = true
allows_read Write = true

-- whether a level lets a table be written
abbrev pub allows_write : Level → Bool
allows_write Nothing = false
allows_write Read = false
allows_write Write = true

-- a table's number is below 2^32
abbrev pub is_table : ℕ → Bool
is_table number = nat_lt number (2 ^ 32)

-- whether these rights let a table be read, or written: a number of 2^32 or more is no table
abbrev pub can_read : List (TableId × Level) → ℕ → Bool
can_read rights table = allows_read (level_of rights table) && is_table table

abbrev pub can_write : List (TableId × Level) → ℕ → Bool
can_write rights table = allows_write (level_of rights table) && is_table table
