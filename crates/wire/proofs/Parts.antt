-- The fields of messages are read exactly, by their spelling.
use Rattle.std.proofs.Common.{◌≡◌, ℕ, zero, suc, ◌<◌, ◌≤◌, ◌^◌, ◌⊎◌, inl, inr, Bool, true, false, ◌==◌, List, [], ◌∷◌, ◌++◌, length, Option, Some, None, refl, sym, ap, subst, arith}
use Rattle.std.specs.Int.{w32, w64}
use Rattle.sp_base.specs.Limits.{IsKey, IsValue}
use Rattle.sp_base.specs.declared.outcomes.Outcome.{Outcome}
use Rattle.sp_base.specs.declared.outcomes.Outcome.TheVariants.{Done, Trapped, Killed}
use Rattle.sp_base.specs.declared.outcomes.Trap.{Trap}
use Rattle.sp_base.specs.declared.outcomes.Trap.TheVariants as traps
use Rattle.sp_base.specs.declared.reads.ReadItem.{ReadItem}
use Rattle.sp_base.specs.declared.writes.Change.{Change}
use Rattle.sp_base.specs.declared.writes.Change.TheVariants as changes
use Rattle.sp_base.specs.declared.writes.Write.{Write}
use Rattle.wire.specs.Readers.{bind, made}
use Rattle.wire.specs.Fields.{number_at, bytes_at, key_at, long_at, flag_at, opt_at, trap_of, done_at, outcome_at, change_of, change_at, write_at, read_at}
use Rattle.sp_base.specs.Spelling.{u16, u32, u64, IsU32, IsU64, key, long, flag, opt, FitsOpt, trap_number, outcome, FitsOutcome, change, FitsChange, write, FitsWrite, read, FitsRead}
use Rattle.wire.proofs.Formats.{Reads, Format, Shows, Makes, bind_reads, made_reads, done_reads, as_format, format_of}
use Rattle.wire.proofs.Choices.{arms, no_arms, tagged_reads}
use Rattle.wire.proofs.Digits.{IsIn, byte_reads, bytes_reads, number_reads, wide32, wide64, u16_reads}

pub u32_any : Reads (number_at w32) (λ n. n) u32 IsU32
unfolding u32
u32_any = number_reads w32 (2 ^ 32) wide32

pub u64_any : Reads (number_at w64) (λ n. n) u64 IsU64
unfolding u64
u64_any = number_reads w64 (2 ^ 64) wide64

-- ---- bytes behind their length

abbrev key_format : Format (List ℕ)
key_format = format_of (bind_reads bytes_at (byte_reads 1 64 (omega arith)) (λ n f. bytes_reads n))

pub key_reads : Reads key_at (λ bs. bs) key IsKey
unfolding key_at
key_reads = as_format key_format key IsKey
    (λ bs f. ((length bs, bs), refl, ((f.some, f.short), refl), refl))
    (λ x f. (record { some = omega (arith, f.1, f.0.0); short = omega (arith, f.1, f.0.1) }, ap (λ (n : ℕ). n ∷ x.1) f.1))

abbrev long_format : (least most : ℕ) → least ≤ most → most < 65536 → Format (List ℕ)
long_format least most le lt = format_of (bind_reads bytes_at (u16_reads least most le lt) (λ n f. bytes_reads n))

pub long_reads : (least most : ℕ) → least ≤ most → most < 65536 → Reads (long_at least most) (λ bs. bs) long (λ bs. IsIn least most (length bs))
unfolding long_at
long_reads least most le lt = as_format (long_format least most le lt) long (λ bs. IsIn least most (length bs))
    (λ bs f. ((length bs, bs), refl, (f, refl), refl))
    (λ x f. (subst (IsIn least most) (sym f.1) f.0, ap (λ (n : ℕ). u16 n ++ x.1) f.1))

-- bytes of at most so many
pub short_reads : (most : ℕ) → most < 65536 → Reads (long_at 0 most) (λ bs. bs) long (λ bs. length bs ≤ most)
short_reads most lt = as_format (format_of (long_reads 0 most (omega arith) lt)) long (λ bs. length bs ≤ most)
    (λ bs f. (bs, refl, (omega arith, f), refl)) (λ bs f. (f.1, refl))

pub value_reads : Reads (long_at 0 4096) (λ bs. bs) long IsValue
value_reads = short_reads 4096 (omega arith)

-- ---- choices

flag_to : (b : Bool) → Unit {0} → Shows (format_of (made_reads (λ n. n == 1) (byte_reads 0 1 (omega arith)))) flag b
flag_to true f = (1, refl, (omega arith, omega arith), refl)
flag_to false f = (0, refl, (omega arith, omega arith), refl)

flag_from : (n : ℕ) → IsIn 0 1 n → Makes (format_of (made_reads (λ n. n == 1) (byte_reads 0 1 (omega arith)))) flag (λ b. Unit {0}) n
flag_from zero f = (tt, refl)
flag_from (suc zero) f = (tt, refl)
flag_from (suc (suc n)) f = absurd (omega (arith, f.1))

pub flag_reads : Reads flag_at (λ b. b) flag (λ b. Unit {0})
unfolding flag_at
flag_reads = as_format (format_of (made_reads (λ n. n == 1) (byte_reads 0 1 (omega arith)))) flag (λ b. Unit {0}) flag_to flag_from

abbrev opt_format : Format (Option (List ℕ))
opt_format = format_of (tagged_reads (inl tt) tt
    (arms 0 (omega arith) (done_reads None)
    (arms 1 (omega arith) (made_reads (λ v. Some v) value_reads) (no_arms 2))))

opt_to : (o : Option (List ℕ)) → FitsOpt o → Shows opt_format opt o
opt_to None f = (inl tt, refl, tt, refl)
opt_to (Some v) f = (inr (inl v), refl, f, refl)

opt_from : (x : Unit {0} ⊎ (List ℕ ⊎ ⊥)) → opt_format.Fits x → Makes opt_format opt FitsOpt x
opt_from (inl u) f = (tt, refl)
opt_from (inr (inl v)) f = (f, refl)
opt_from (inr (inr x)) f = absurd x

pub opt_reads : Reads opt_at (λ o. o) opt FitsOpt
unfolding opt_at
opt_reads = as_format opt_format opt FitsOpt opt_to opt_from

trap_to : (t : Trap) → (n : ℕ) × (trap_of n ≡ t) × IsIn 1 5 n × (trap_number t ≡ n)
trap_to traps.Range = (1, refl, (omega arith, omega arith), refl)
trap_to traps.Divide = (2, refl, (omega arith, omega arith), refl)
trap_to traps.Size = (3, refl, (omega arith, omega arith), refl)
trap_to traps.Denied = (4, refl, (omega arith, omega arith), refl)
trap_to traps.Width = (5, refl, (omega arith, omega arith), refl)

trap_from : (n : ℕ) → IsIn 1 5 n → trap_number (trap_of n) ≡ n
trap_from zero f = absurd (omega (arith, f.0))
trap_from (suc zero) f = refl
trap_from (suc (suc zero)) f = refl
trap_from (suc (suc (suc zero))) f = refl
trap_from (suc (suc (suc (suc zero)))) f = refl
trap_from (suc (suc (suc (suc (suc zero))))) f = refl
trap_from (suc (suc (suc (suc (suc (suc n)))))) f = absurd (omega (arith, f.1))

abbrev done_format : Format Outcome
done_format = format_of (bind_reads (λ code. made (λ reply. Done (record { code = code; bytes = reply })) (long_at 0 4096)) u64_any
    (λ code f. made_reads (λ reply. Done (record { code = code; bytes = reply })) value_reads))

done_reader : Reads done_at done_format.make done_format.spell done_format.Fits
unfolding done_at
done_reader = done_format.reads

abbrev outcome_format : Format Outcome
outcome_format = format_of (tagged_reads (inr (inr (inl tt))) tt
    (arms 0 (omega arith) done_reader
    (arms 1 (omega arith) (made_reads (λ n. Trapped (trap_of n)) (byte_reads 1 5 (omega arith)))
    (arms 2 (omega arith) (done_reads Killed) (no_arms 3)))))

outcome_to : (o : Outcome) → FitsOutcome o → Shows outcome_format outcome o
outcome_to (Done reply) f = (inl (reply.code, reply.bytes), refl, f, refl)
outcome_to (Trapped trap) f =
    let t = trap_to trap in
    (inr (inl t.0), ap (λ (x : Trap). Trapped x) t.1, t.2, ap (λ (n : ℕ). 1 ∷ n ∷ []) (sym t.3))
outcome_to Killed f = (inr (inr (inl tt)), refl, tt, refl)

outcome_from : (x : (ℕ × List ℕ) ⊎ (ℕ ⊎ (Unit {0} ⊎ ⊥))) → outcome_format.Fits x → Makes outcome_format outcome FitsOutcome x
outcome_from (inl x) f = (f, refl)
outcome_from (inr (inl n)) f = (tt, ap (λ (m : ℕ). 1 ∷ m ∷ []) (trap_from n f))
outcome_from (inr (inr (inl u))) f = (tt, refl)
outcome_from (inr (inr (inr x))) f = absurd x

pub outcome_reads : Reads outcome_at (λ o. o) outcome FitsOutcome
unfolding outcome_at
outcome_reads = as_format outcome_format outcome FitsOutcome outcome_to outcome_from

-- ---- records

abbrev change_format : Format Change
change_format = format_of (made_reads change_of opt_reads)

change_to : (c : Change) → FitsChange c → Shows change_format change c
change_to changes.Del f = (None, refl, tt, refl)
change_to (changes.Put v) f = (Some v, refl, f, refl)

change_from : (o : Option (List ℕ)) → FitsOpt o → Makes change_format change FitsChange o
change_from None f = (tt, refl)
change_from (Some v) f = (f, refl)

pub change_reads : Reads change_at (λ c. c) change FitsChange
unfolding change_at
change_reads = as_format change_format change FitsChange change_to change_from

abbrev made_write : ℕ → List ℕ → Change → Write
made_write table place changed = record { table = record { 0 = table }; key = place; change = changed }

abbrev write_format : Format Write
write_format = format_of (bind_reads (λ table. bind key_at (λ place. made (made_write table place) change_at)) u32_any
    (λ table f. bind_reads (λ place. made (made_write table place) change_at) key_reads
    (λ place g. made_reads (made_write table place) change_reads)))

pub write_reads : Reads write_at (λ w. w) write FitsWrite
unfolding write_at
write_reads = as_format write_format write FitsWrite
    (λ w f. ((w.table.0, (w.key, w.change)), refl, (f.table, (f.key, f.change)), refl))
    (λ x f. (record { table = f.0; key = f.1.0; change = f.1.1 }, refl))

abbrev made_read : ℕ → List ℕ → ℕ → ℕ → Option (List ℕ) → ReadItem
made_read table place version at value = record { table = record { 0 = table }; key = place; version = version; read_at = at; value = value }

abbrev read_format : Format ReadItem
read_format = format_of (bind_reads (λ table. bind key_at (λ place. bind (number_at w64) (λ version. bind (number_at w64) (λ at. made (made_read table place version at) opt_at)))) u32_any
    (λ table f. bind_reads (λ place. bind (number_at w64) (λ version. bind (number_at w64) (λ at. made (made_read table place version at) opt_at))) key_reads
    (λ place g. bind_reads (λ version. bind (number_at w64) (λ at. made (made_read table place version at) opt_at)) u64_any
    (λ version h. bind_reads (λ at. made (made_read table place version at) opt_at) u64_any
    (λ at i. made_reads (made_read table place version at) opt_reads)))))

pub read_reads : Reads read_at (λ r. r) read FitsRead
unfolding read_at
read_reads = as_format read_format read FitsRead
    (λ r f. ((r.table.0, (r.key, (r.version, (r.read_at, r.value)))), refl, (f.table, (f.key, (f.version, (f.read_at, f.value)))), refl))
    (λ x f. (record { table = f.0; key = f.1.0; version = f.1.1.0; read_at = f.1.1.1.0; value = f.1.1.1.1 }, refl))
