-- A request whose fields are within their ranges is short enough for a frame.
use Rattle.std.specs.List.{AllByRecursion, flat_map}
use Rattle.std.proofs.Common.{◌≡◌, ◌≤◌, ◌+◌, ◌*◌, ℕ, Bool, true, false, List, [], ◌∷◌, ◌++◌, length, refl, arith, length-append}
use Rattle.sp_base.specs.Limits.{IsBody}
use Rattle.sp_base.specs.Spelling as spelling
use Rattle.sp_base.specs.Spelling.{FitsAsked, FitsChange, FitsOutcome, FitsWrite, u16, u32, u64}
use Rattle.sp_base.specs.declared.calls.Asked.{Asked}
use Rattle.sp_base.specs.declared.outcomes.Outcome.{Outcome}
use Rattle.sp_base.specs.declared.outcomes.Outcome.TheVariants.{Done, Trapped, Killed}
use Rattle.sp_base.specs.declared.writes.Change.{Change}
use Rattle.sp_base.specs.declared.writes.Change.TheVariants as changes
use Rattle.sp_base.specs.declared.writes.Write.{Write}
use Rattle.wire.specs.Requests.{FitsRequest, request}
use Rattle.wire.specs.declared.requests.Request.{Request}
use Rattle.wire.specs.declared.requests.Request.TheVariants.{Hello, Install, Batch, Fetch, Finish, Put, TextOf, Bye}

u16-front : (n : ℕ) (rest : List ℕ) → length (u16 n ++ rest) ≡ 2 + length rest
unfolding u16
u16-front n rest = length-append (u16 n) rest

u32-front : (n : ℕ) (rest : List ℕ) → length (u32 n ++ rest) ≡ 4 + length rest
unfolding u32
u32-front n rest = length-append (u32 n) rest

u64-front : (n : ℕ) (rest : List ℕ) → length (u64 n ++ rest) ≡ 8 + length rest
unfolding u64
u64-front n rest = length-append (u64 n) rest

length-u32 : (n : ℕ) → length (u32 n) ≡ 4
unfolding u32
length-u32 n = refl

length-u64 : (n : ℕ) → length (u64 n) ≡ 8
unfolding u64
length-u64 n = refl

outcome-short : (outcome : Outcome) → FitsOutcome outcome → length (spelling.outcome outcome) ≤ 4107
outcome-short (Done reply) fits =
    let short : length reply.bytes ≤ 4096 = fits.1 in
    omega (arith, u64-front reply.code (spelling.long reply.bytes), u16-front (length reply.bytes) reply.bytes, short)
outcome-short (Trapped trap) fits = omega arith
outcome-short Killed fits = omega arith

change-short : (change : Change) → FitsChange change → length (spelling.change change) ≤ 4099
change-short changes.Del fits = omega arith
change-short (changes.Put value) fits =
    let short : length value ≤ 4096 = fits in omega (arith, u16-front (length value) value, short)

write-short : (write : Write) → FitsWrite write → length (spelling.write write) ≤ 4168
write-short write fits =
    let key : length write.key ≤ 64 = fits.key.short in
    let change = change-short write.change fits.change in
    omega (
      arith,
      u32-front write.table.0 (spelling.key write.key ++ spelling.change write.change),
      length-append (spelling.key write.key) (spelling.change write.change),
      key,
      change,
    )

writes-short : (writes : List Write) → AllByRecursion FitsWrite writes
    → length (flat_map spelling.write writes) ≤ 4168 * length writes
writes-short [] fits = omega arith
writes-short (write ∷ writes) fits =
    let one = write-short write fits.0 in
    let rest = writes-short writes fits.1 in
    omega (arith, length-append (spelling.write write) (flat_map spelling.write writes), one, rest)

length-flag : (flag : Bool) → length (spelling.flag flag) ≡ 1
length-flag false = refl
length-flag true = refl

asked-short : (asked : Asked) → FitsAsked asked → length (spelling.asked asked) ≤ 1047
asked-short asked fits =
    let short : length asked.args ≤ 1024 = fits.args in
    let freely = spelling.flag asked.push_ok ++ spelling.long asked.args in
    omega (
      arith,
      u32-front asked.caller (u64 asked.number.0 ++ (u32 asked.ext.0 ++ (u32 asked.budget ++ freely))),
      u64-front asked.number.0 (u32 asked.ext.0 ++ (u32 asked.budget ++ freely)),
      u32-front asked.ext.0 (u32 asked.budget ++ freely),
      u32-front asked.budget freely,
      length-append (spelling.flag asked.push_ok) (spelling.long asked.args),
      length-flag asked.push_ok,
      u16-front (length asked.args) asked.args,
      short,
    )

calls-short : (calls : List Asked) → AllByRecursion FitsAsked calls
    → length (flat_map spelling.asked calls) ≤ 1047 * length calls
calls-short [] fits = omega arith
calls-short (asked ∷ calls) fits =
    let one = asked-short asked fits.0 in
    let rest = calls-short calls fits.1 in
    omega (arith, length-append (spelling.asked asked) (flat_map spelling.asked calls), one, rest)

pub request-short : (message : Request) → FitsRequest message → IsBody (request message)
request-short (Hello tenant secret) fits = omega (arith, u32-front tenant.0 (u64 secret), length-u64 secret)
request-short (Install text) fits =
    let short : length text ≤ 16384 = fits.short in omega (arith, u16-front (length text) text, short)
request-short (Batch calls) fits =
    let short = calls-short calls fits.each in
    let few : length calls ≤ 64 = fits.few in
    omega (arith, u16-front (length calls) (flat_map spelling.asked calls), short, few)
request-short (Fetch caller number table key) fits =
    let short : length key ≤ 64 = fits.1.1.1.short in
    omega (
      arith,
      u32-front caller (u64 number.0 ++ (u32 table.0 ++ spelling.key key)),
      u64-front number.0 (u32 table.0 ++ spelling.key key),
      u32-front table.0 (spelling.key key),
      short,
    )
request-short (Finish caller number outcome writes) fits =
    let outcome_short = outcome-short outcome fits.1.1.0 in
    let writes_short = writes-short writes fits.1.1.1.1 in
    let few : length writes ≤ 255 = fits.1.1.1.0 in
    omega (
      arith,
      u32-front caller (u64 number.0 ++ (spelling.outcome outcome ++ spelling.writes writes)),
      u64-front number.0 (spelling.outcome outcome ++ spelling.writes writes),
      length-append (spelling.outcome outcome) (spelling.writes writes),
      outcome_short,
      writes_short,
      few,
    )
request-short (Put table key value) fits =
    let key_short : length key ≤ 64 = fits.1.0.short in
    let short : length value ≤ 4096 = fits.1.1 in
    omega (
      arith,
      u32-front table.0 (spelling.key key ++ spelling.long value),
      length-append (spelling.key key) (spelling.long value),
      u16-front (length value) value,
      key_short,
      short,
    )
request-short (TextOf ext) fits = omega (arith, length-u32 ext.0)
request-short Bye fits = omega arith
