-- Places and tables.
use Rattle.std.specs.Prelude.{ℕ, ◌==◌, ◌&&◌, Bool, List, Option}
use Rattle.std.specs.Str.{bytes_eq}

-- a place: a table's number and a key
pub record Place : Type 0 where
  pub table : ℕ
  pub key : List ℕ

-- whether two places are one
abbrev pub same_place : Place → Place → Bool
same_place a b = (a.table == b.table) && bytes_eq a.key b.key

-- tables: the bytes at each place, and nothing at a place that is absent
abbrev pub Tables : Type 0
Tables = Place → Option (List ℕ)
