-- Lists of rights are read exactly.
use Rattle.std.proofs.Common.{◌≡◌, ◌≢◌, ℕ, zero, suc, ◌+◌, ◌-◌, ◌<◌, ◌≤◌, ◌^◌, List, [], ◌∷◌, ◌++◌, length, Ok, refl, sym, ap, subst, arith}
use Rattle.std.specs.List.{flat_map, AllByRecursion}
use Rattle.std.proofs.lemmas.List.Concat.{flat_map-cons}
use Rattle.sp_base.specs.RightsList.{RisesFrom, AreRights}
use Rattle.sp_base.specs.declared.numbers.TableId.{TableId}
use Rattle.sp_base.specs.declared.rights.Level.{Level}
use Rattle.sp_base.specs.declared.rights.Level.TheVariants as levels
use Rattle.wire.specs.Readers.{made}
use Rattle.wire.specs.Fields.{byte_in, level_of_number, right_in, tables_from, rights_at}
use Rattle.sp_base.specs.Spelling.{u32, IsU32, level_number, right, rights, FitRights}
use Rattle.wire.proofs.Formats.{IsBytes, IsBytes-behind, Reads, Format, bind_reads, made_reads, done_reads, as_value, as_format, format_of}
use Rattle.wire.proofs.Digits.{IsIn, byte_reads, u32_reads}

abbrev FitsRight : ℕ → ℕ → TableId × Level → Type 0
FitsRight least most r = IsIn least most r.0.0 × (r.1 ≢ levels.Nothing)

abbrev made_right : ℕ → ℕ → TableId × Level
made_right table level = (record { 0 = table }, level_of_number level)

abbrev right_format : (least most : ℕ) → least ≤ most → most < 2 ^ 32 → Format (TableId × Level)
right_format least most le lt = format_of (bind_reads (λ table. made (made_right table) (byte_in 1 2)) (u32_reads least most le lt)
    (λ table f. made_reads (made_right table) (byte_reads 1 2 (omega arith))))

level_to : (l : Level) → l ≢ levels.Nothing → (n : ℕ) × (level_of_number n ≡ l) × IsIn 1 2 n × (level_number l ≡ n)
level_to levels.Nothing f = absurd (f refl)
level_to levels.Read f = (1, refl, (omega arith, omega arith), refl)
level_to levels.Write f = (2, refl, (omega arith, omega arith), refl)

level_from : (n : ℕ) → IsIn 1 2 n → (level_of_number n ≢ levels.Nothing) × (level_number (level_of_number n) ≡ n)
level_from zero f = absurd (omega (arith, f.0))
level_from (suc zero) f = (λ e. cc, refl)
level_from (suc (suc zero)) f = (λ e. cc, refl)
level_from (suc (suc (suc n))) f = absurd (omega (arith, f.1))

pub right_reads : (least most : ℕ) → least ≤ most → most < 2 ^ 32 → Reads (right_in least most) (λ r. r) right (FitsRight least most)
unfolding right_in
right_reads least most le lt = as_format (right_format least most le lt) right (FitsRight least most)
    (λ r f. let n = level_to r.1 f.1 in
    ((r.0.0, n.0), ap (λ (l : Level). (r.0, l)) n.1, (f.0, n.2), ap (λ (m : ℕ). u32 r.0.0 ++ m ∷ []) (sym n.3)))
    (λ x f. let n = level_from x.1 f.1 in ((f.0, n.0), ap (λ (m : ℕ). u32 x.0 ++ m ∷ []) n.1))

-- n rights from the least table on
pub record Rise (n least : ℕ) (rs : List (TableId × Level)) : Type 0 where
  pub rising : RisesFrom least rs
  pub count : length rs ≡ n
  pub tables : AllByRecursion (λ r. IsU32 r.0.0) rs

-- a table leaves room for those that rise behind it
room : (table : ℕ) (rs : List (TableId × Level)) → table < 2 ^ 32 → RisesFrom (table + 1) rs → AllByRecursion (λ r. IsU32 r.0.0) rs →
    table + length rs < 2 ^ 32
room table [] lt rising tables = omega arith
room table (r ∷ rs) lt rising tables =
    let behind : r.0.0 + length rs < 2 ^ 32 = room r.0.0 rs tables.0 rising.2 tables.1 in
    omega (arith, rising.0)

tables_none : (least : ℕ) (rs : List (TableId × Level)) → Rise 0 least rs → (u : Unit {0}) × ([] ≡ rs) × Unit {0} × ([] ≡ flat_map right rs)
tables_none least [] f = (tt, refl, tt, refl)
tables_none least (r ∷ rs) f = absurd (omega (arith, f.count))

tables_more : (n least : ℕ) (rs : List (TableId × Level)) → Rise (suc n) least rs →
    (z : (TableId × Level) × List (TableId × Level)) × (z.0 ∷ z.1 ≡ rs)
    × (FitsRight least (4294967295 - n) z.0 × Rise n (z.0.0.0 + 1) z.1) × (right z.0 ++ flat_map right z.1 ≡ flat_map right rs)
tables_more n least [] f = absurd (omega (arith, f.count))
tables_more n least (r ∷ rs) f =
    let len : length rs ≡ n = omega (arith, f.count) in
    let behind = room r.0.0 rs f.tables.0 f.rising.2 f.tables.1 in
    ((r, rs), refl, (((f.rising.0, omega (arith, behind, len)), f.rising.1), record { rising = f.rising.2; count = len; tables = f.tables.1 }), sym (flat_map-cons right r rs))

pub tables_reads : (n least : ℕ) → least + n ≤ 2 ^ 32 → Reads (tables_from n least) (λ rs. rs) (λ rs. flat_map right rs) (Rise n least)
unfolding tables_from
tables_reads zero least le =
    as_value (λ rs. flat_map right rs) (Rise 0 least) (done_reads []) (tables_none least)
    (λ x f. (record { rising = tt; count = refl; tables = tt }, refl))
tables_reads (suc n) least le =
    as_value (λ rs. flat_map right rs) (Rise (suc n) least)
    (bind_reads (λ first. made (λ others. first ∷ others) (tables_from n (first.0.0 + 1)))
    (right_reads least (4294967295 - n) (omega arith) (omega arith))
    (λ r f. made_reads (λ others. r ∷ others) (tables_reads n (r.0.0 + 1) (omega (arith, f.0.1)))))
    (tables_more n least)
    (λ z f. (record { rising = (f.0.0.0, f.0.1, f.1.rising); count = ap suc f.1.count; tables = (omega (arith, f.0.0.1), f.1.tables) }, flat_map-cons right z.0 z.1))

abbrev rights_format : Format (List (TableId × Level))
rights_format = format_of (bind_reads (λ n. tables_from n 0) (byte_reads 0 64 (omega arith)) (λ n f. tables_reads n 0 (omega (arith, f.1))))

pub rights_reads : Reads rights_at (λ rs. rs) rights FitRights
unfolding rights_at
rights_reads = as_format rights_format rights FitRights
    (λ rs f. ((length rs, rs), refl, ((omega arith, f.rights.few), record { rising = f.rights.rising; count = refl; tables = f.tables }), refl))
    (λ x f. (record { rights = record { rising = f.1.rising; few = omega (arith, f.1.count, f.0.1) }; tables = f.1.tables }, ap (λ (n : ℕ). n ∷ flat_map right x.1) f.1.count))

-- what is read behind a count is a list of rights
pub rights_read : (bytes : List ℕ) (count : ℕ) (rest : List ℕ) (rs : List (TableId × Level)) (after : List ℕ) → IsBytes bytes →
    byte_in 0 64 bytes ≡ Ok (count, rest) → tables_from count 0 rest ≡ Ok (rs, after) → AreRights rs
rights_read bytes count rest rs after fits e d =
    let f = (byte_reads 0 64 (omega arith)).found bytes count rest fits e in
    let behind : IsBytes rest = IsBytes-behind (f.0 ∷ []) rest (subst IsBytes f.3 fits) in
    let few : count ≤ 64 = omega (arith, f.1, f.2.1) in
    let g = (tables_reads count 0 (omega arith)).found rest rs after behind d in
    let rise : Rise count 0 rs = subst (Rise count 0) (sym g.1) g.2 in
    record { rising = rise.rising; few = omega (arith, rise.count) }
