-- A line that is written is read again.
use Rattle.std.proofs.Common.{◌≡◌, ◌≢◌, ℕ, ◌+◌, ◌/◌, ◌%◌, ◌^◌, ◌<◌, ◌≤◌, Bool, true, false, leb, List, [], ◌∷◌, ◌++◌, length, rules, Ok, refl, inl, inr, arith}
use Rattle.std.specs.Fmt.{decimal}
use Rattle.std.specs.List.{AllByRecursion, flat_map}
use Rattle.std.proofs.lemmas.Bool.{cases_lt, le-leb}
use Rattle.std.proofs.lemmas.Fmt.{decimal_by_steps}
use Rattle.sp_base.specs.Fields.{AreBytes, hex_digit, hex_pair, byte_field}
use Rattle.sp_base.specs.declared.rights.Level.{Level}
use Rattle.sp_base.specs.declared.rights.Level.TheVariants.{Nothing, Read, Write}
use Rattle.sched_text.specs.declared.event.Event.TheVariants as event
use Rattle.sched_text.specs.declared.line.Kind.TheVariants.{Play}
use Rattle.sched_text.specs.declared.line.Word.{Word}
use Rattle.sched_text.specs.declared.line.Word.TheVariants as word
use Rattle.sched_text.specs.declared.line.ScriptLine.{ScriptLine}
use Rattle.sched_text.specs.declared.line.ScriptLine.TheVariants.{Tenant, Table, Policy, Limit, Workers, Ext, Body}
use Rattle.sched_text.specs.Fields.{u32_max, u64_max, field, number_field, bytes_field, level_field, push_field}
use Rattle.sched_text.specs.Laws.{spaced, Lacks, AreFields, level_word, push_word, written, LinesReadBack}
use Rattle.sched_text.specs.Lines.{counted, word_field, tenant_line, table_line, policy_line, limit_line, workers_line, put_line, ext_line, begin_line, turn_line, steal_line, away_line, cut_line, line_of_word, line_of}
use Rattle.sched_text.proofs.Decimals.{number_again}
use Rattle.sched_text.proofs.Hexes.{hex_low, hex_high, bytes_are_pairs}
use Rattle.sched_text.proofs.Spaces.{fields_are_spaced}

-- ---- no field has a space

all_on : {A : Type 0} (P : A → Type 0) (xs ys : List A) → AllByRecursion P xs → AllByRecursion P ys → AllByRecursion P (xs ++ ys)
all_on P [] ys xs_all ys_all = ys_all
all_on P (x ∷ xs) ys xs_all ys_all = (xs_all.0, all_on P xs ys xs_all.1 ys_all)

one_lacks : (number : ℕ) → number < 10 → Lacks 32 ((48 + number) ∷ [])
one_lacks number small = (λ e. absurd (omega (arith, e)), tt)

more_lacks : (number : ℕ) (digits : List ℕ) → 10 ≤ number → Lacks 32 digits → Lacks 32 (digits ++ (48 + number % 10) ∷ [])
more_lacks number digits ten lacks = all_on (λ byte. byte ≢ 32) digits ((48 + number % 10) ∷ []) lacks (λ e. absurd (omega (arith, e)), tt)

pub decimal_lacks : (number : ℕ) → number < 2 ^ 64 → Lacks 32 (decimal number)
decimal_lacks number small = decimal_by_steps (λ _ digits. Lacks 32 digits) one_lacks more_lacks number small

hex_lacks : (value : ℕ) → hex_digit value ≢ 32
hex_lacks value e =
    elim (cases_lt value 10) [
      | inl lt ↦ let h = hex_low value lt in absurd (omega (arith, h, e))
      | inr le ↦ let h = hex_high value le in absurd (omega (arith, h, e))
    ]

pairs_lack : (bytes : List ℕ) → Lacks 32 (flat_map hex_pair bytes)
pairs_lack [] = tt
pairs_lack (byte ∷ bytes) = (hex_lacks (byte / 16), (hex_lacks (byte % 16), pairs_lack bytes))

pub bytes_lack : (bytes : List ℕ) → Lacks 32 (byte_field bytes)
bytes_lack bytes = (λ e. absurd cc, pairs_lack bytes)

-- ---- fields

pub number_back : (least most number : ℕ) → least ≤ number → number ≤ most → number < 2 ^ 64 → number_field least most (decimal number) ≡ Ok number
unfolding number_field
number_back least most number low high small =
    let again = number_again number small in
    let t : leb number most ≡ true = le-leb number most high in
    let u : leb least number ≡ true = le-leb least number low in
    rw (again, t, u) refl

pub bytes_back : (least most : ℕ) (bytes : List ℕ) → least ≤ length bytes → length bytes ≤ most → AreBytes bytes → bytes_field least most (byte_field bytes) ≡ Ok bytes
unfolding bytes_field
bytes_back least most bytes low high are =
    let again = (bytes_are_pairs (byte_field bytes) bytes).1 (are, refl) in
    let t : leb least (length bytes) ≡ true = le-leb least (length bytes) low in
    let u : leb (length bytes) most ≡ true = le-leb (length bytes) most high in
    rw (again, t, u) refl

-- ---- lines

line_read : (line : ScriptLine) (word : Word) → AreFields (written line) → word_field Play (field (written line) 0) ≡ Ok word → line_of_word word (written line) ≡ Ok line → line_of Play (spaced (written line)) ≡ Ok line
unfolding line_of
line_read line word are named says =
    let e = (fields_are_spaced (spaced (written line)) (written line) are).1 refl in
    rw (e, named) says

level_back : (level : Level) → level ≢ Nothing → level_field (level_word level) ≡ Ok level
unfolding level_field
level_back Nothing some = absurd (some refl)
level_back Read some = refl
level_back Write some = refl

level_lacks : (level : Level) → Lacks 32 (level_word level)
level_lacks Nothing = search rules
level_lacks Read = search rules
level_lacks Write = search rules

push_back : (push : Bool) → push_field (push_word push) ≡ Ok push
unfolding push_field
push_back true = refl
push_back false = refl

push_lacks : (push : Bool) → Lacks 32 (push_word push)
push_lacks true = search rules
push_lacks false = search rules

-- a number of 32 bits, its field and that field's bytes
pub record Back32 (number : ℕ) : Type 0 where
  pub back : number_field 0 u32_max (decimal number) ≡ Ok number
  pub lacks : Lacks 32 (decimal number)

back32 : (number : ℕ) → number < 2 ^ 32 → Back32 number
back32 number small = record {
  back = number_back 0 u32_max number (omega arith) (omega (arith, small)) (omega (arith, small));
  lacks = decimal_lacks number (omega (arith, small));
}

-- a number of a smaller range
pub record BackWithin (least most number : ℕ) : Type 0 where
  pub back : number_field least most (decimal number) ≡ Ok number
  pub lacks : Lacks 32 (decimal number)

within : (least most number : ℕ) → most < 2 ^ 64 → least ≤ number → number ≤ most → BackWithin least most number
within least most number small low high = record {
  back = number_back least most number low high (omega arith);
  lacks = decimal_lacks number (omega arith);
}

pub lines_read_back : LinesReadBack
unfolding word_field counted tenant_line table_line policy_line limit_line workers_line put_line ext_line begin_line turn_line steal_line away_line cut_line
lines_read_back (Tenant tenant key) fits wide =
    let t = back32 tenant.0 wide.0 in
    let k = within 0 u64_max key (omega arith) (omega arith) (omega (arith, wide.1)) in
    let one = t.back in let two = k.back in
    line_read (Tenant tenant key) word.Tenant
    (record { some = omega arith; few = omega arith; apart = (search rules, (t.lacks, (k.lacks, tt))) })
    refl (rw (one, two) refl)
lines_read_back (Table table tenant level) fits wide =
    let n = back32 table.0 wide.0 in
    let t = back32 tenant.0 wide.1 in
    let one = n.back in let two = t.back in let three = level_back level fits in
    line_read (Table table tenant level) word.Table
    (record { some = omega arith; few = omega arith; apart = (search rules, (n.lacks, (t.lacks, (level_lacks level, tt)))) })
    refl (rw (one, two, three) refl)
lines_read_back (Policy policy) fits wide =
    let h = back32 policy.high wide in
    let l = within 0 100000 policy.least (omega arith) (omega arith) fits in
    let one = h.back in let two = l.back in
    line_read (Policy policy) word.Policy
    (record { some = omega arith; few = omega arith; apart = (search rules, (h.lacks, (l.lacks, tt))) })
    refl (rw (one, two) refl)
lines_read_back (Limit limit) fits wide =
    let n = within 1 1048576 limit (omega arith) fits.low fits.high in
    let one = n.back in
    line_read (Limit limit) word.Limit
    (record { some = omega arith; few = omega arith; apart = (search rules, (n.lacks, tt)) })
    refl (rw one refl)
lines_read_back (Workers workers) fits wide =
    let n = within 1 64 workers (omega arith) fits.low fits.high in
    let one = n.back in
    line_read (Workers workers) word.Workers
    (record { some = omega arith; few = omega arith; apart = (search rules, (n.lacks, tt)) })
    refl (rw one refl)
lines_read_back (Ext tenant lines) fits wide =
    let t = back32 tenant.0 wide in
    let n = within 1 16384 lines (omega arith) fits.low fits.high in
    let one = t.back in let two = n.back in
    line_read (Ext tenant lines) word.Ext
    (record { some = omega arith; few = omega arith; apart = (search rules, (t.lacks, (n.lacks, tt))) })
    refl (rw (one, two) refl)
lines_read_back (Body (event.Put tenant table key value)) fits wide =
    let t = back32 tenant.0 wide.0 in
    let n = back32 table.0 wide.1 in
    let one = t.back in let two = n.back in
    let three = bytes_back 1 64 key fits.key_size.some fits.key_size.short wide.2 in
    let four = bytes_back 0 4096 value (omega arith) fits.value_size wide.3 in
    line_read (Body (event.Put tenant table key value)) word.Put
    (record { some = omega arith; few = omega arith; apart = (search rules, (t.lacks, (n.lacks, (bytes_lack key, (bytes_lack value, tt))))) })
    refl (rw (one, two, three, four) refl)
lines_read_back (Body (event.Ext tenant text)) fits wide = absurd wide
lines_read_back (Body (event.Begin worker tenant asked)) fits wide =
    let w = back32 worker wide.0 in
    let t = back32 tenant.0 wide.1 in
    let c = back32 asked.caller wide.2 in
    let n = within 1 u64_max asked.number.0 (omega arith) fits.number (omega (arith, wide.3)) in
    let e = back32 asked.ext.0 wide.4 in
    let b = within 1 100000 asked.budget (omega arith) fits.budget.low fits.budget.high in
    let one = w.back in let two = t.back in let three = c.back in let four = n.back in
    let five = e.back in let six = b.back in let seven = push_back asked.push_ok in
    let eight = bytes_back 0 1024 asked.args (omega arith) fits.args wide.5 in
    line_read (Body (event.Begin worker tenant asked)) word.Begin
    (record {
      some = omega arith;
      few = omega arith;
      apart = (search rules, (w.lacks, (t.lacks, (c.lacks, (n.lacks, (e.lacks, (b.lacks, (push_lacks asked.push_ok, (bytes_lack asked.args, tt)))))))));
    })
    refl (rw (one, two, three, four, five, six, seven, eight) refl)
lines_read_back (Body (event.Turn worker quantum)) fits wide =
    let w = back32 worker wide in
    let q = within 1 10000 quantum (omega arith) fits.low fits.high in
    let one = w.back in let two = q.back in
    line_read (Body (event.Turn worker quantum)) word.Turn
    (record { some = omega arith; few = omega arith; apart = (search rules, (w.lacks, (q.lacks, tt))) })
    refl (rw (one, two) refl)
lines_read_back (Body (event.Steal worker from)) fits wide =
    let w = back32 worker wide.0 in
    let v = back32 from wide.1 in
    let one = w.back in let two = v.back in
    line_read (Body (event.Steal worker from)) word.Steal
    (record { some = omega arith; few = omega arith; apart = (search rules, (w.lacks, (v.lacks, tt))) })
    refl (rw (one, two) refl)
lines_read_back (Body (event.Away tenant caller)) fits wide =
    let t = back32 tenant.0 wide.0 in
    let c = back32 caller wide.1 in
    let one = t.back in let two = c.back in
    line_read (Body (event.Away tenant caller)) word.Away
    (record { some = omega arith; few = omega arith; apart = (search rules, (t.lacks, (c.lacks, tt))) })
    refl (rw (one, two) refl)
lines_read_back (Body (event.Cut tenant caller)) fits wide =
    let t = back32 tenant.0 wide.0 in
    let c = back32 caller wide.1 in
    let one = t.back in let two = c.back in
    line_read (Body (event.Cut tenant caller)) word.Cut
    (record { some = omega arith; few = omega arith; apart = (search rules, (t.lacks, (c.lacks, tt))) })
    refl (rw (one, two) refl)
