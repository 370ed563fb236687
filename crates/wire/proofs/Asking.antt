-- Requests are read exactly.
use Rattle.std.proofs.Common.{◌≡◌, ℕ, ◌-◌, inl, inr, List, ◌∷◌, ◌++◌, length, take, drop, Ok, Err, refl, sym, ap, ◌∙◌, arith}
use Rattle.std.specs.List.{flat_map}
use Rattle.std.proofs.lemmas.List.{take-append-drop}
use Rattle.sp_base.specs.declared.calls.Asked.{Asked}
use Rattle.sp_base.specs.Limits.{IsText}
use Rattle.wire.specs.declared.requests.Request.{Request}
use Rattle.wire.specs.declared.requests.Request.TheVariants.{Hello, Install, Batch, Fetch, Finish, Put, TextOf, Bye}
use Rattle.wire.specs.Readers.{repeated, all_of}
use Rattle.wire.specs.Fields.{long_at, asked_at, calls_at, write_at, writes_at}
use Rattle.wire.specs.Messages.{hello_at, fetch_at, finish_at, put_at, request_at}
use Rattle.sp_base.specs.Spelling.{u16, long, write, writes, FitWrites, asked, FitsAsked, asked_calls, FitCalls}
use Rattle.wire.specs.Requests.{request, FitsRequest, SpellsRequest, LongestRequest}
use Rattle.wire.proofs.Formats.{IsBytes, Reads, Format, Shows, Makes, bind_reads, made_reads, done_reads, repeated_reads, as_format, format_of}
use Rattle.wire.proofs.Choices.{arms, no_arms, tagged_reads}
use Rattle.wire.proofs.Digits.{byte_reads, u16_reads}
use Rattle.wire.proofs.Parts.{u32_any, u64_any, key_reads, long_reads, short_reads, value_reads, flag_reads, outcome_reads, write_reads}
use Rattle.wire.proofs.Ends.{all_found, all_again, all_begins, all_furthest, front_is, not_further}

-- ---- calls and writes

abbrev asked_format : Format Asked
asked_format = format_of (bind_reads _ u32_any (λ caller f. bind_reads _ u64_any (λ number g. bind_reads _ u32_any (λ ext h.
    bind_reads _ u32_any (λ budget i. bind_reads _ flag_reads (λ push j.
    made_reads (λ (args : List ℕ). record { caller = caller; number = record { 0 = number }; ext = record { 0 = ext }; budget = budget; push_ok = push; args = args }) (short_reads 1024 (omega arith))))))))

pub asked_reads : Reads asked_at (λ a. a) asked FitsAsked
unfolding asked_at
asked_reads = as_format asked_format asked FitsAsked
    (λ a f. ((a.caller, (a.number.0, (a.ext.0, (a.budget, (a.push_ok, a.args))))), refl, (f.caller, (f.number, (f.ext, (f.budget, (tt, f.args))))), refl))
    (λ x f. (record { caller = f.0; number = f.1.0; ext = f.1.1.0; budget = f.1.1.1.0; args = f.1.1.1.1.1 }, refl))

pub calls_reads : Reads calls_at (λ cs. cs) asked_calls FitCalls
unfolding calls_at
calls_reads = as_format (format_of (bind_reads (repeated asked_at) (u16_reads 1 64 (omega arith) (omega arith)) (λ n f. repeated_reads asked_reads n))) asked_calls FitCalls
    (λ cs f. ((length cs, cs), refl, ((f.some, f.few), (refl, f.each)), refl))
    (λ x f. (record { some = omega (arith, f.1.0, f.0.0); few = omega (arith, f.1.0, f.0.1); each = f.1.1 }, ap (λ (n : ℕ). u16 n ++ flat_map asked x.1) f.1.0))

pub writes_reads : Reads writes_at (λ ws. ws) writes FitWrites
unfolding writes_at
writes_reads = as_format (format_of (bind_reads (repeated write_at) (byte_reads 0 255 (omega arith)) (λ n f. repeated_reads write_reads n))) writes FitWrites
    (λ ws f. ((length ws, ws), refl, ((omega arith, f.0), (refl, f.1)), refl))
    (λ x f. ((omega (arith, f.1.0, f.0.1), f.1.1), ap (λ (n : ℕ). n ∷ flat_map write x.1) f.1.0))

-- ---- requests

abbrev hello_format : Format Request
hello_format = format_of (bind_reads _ u32_any (λ tenant f. made_reads (λ secret. Hello (record { 0 = tenant }) secret) u64_any))

hello_reads : Reads hello_at hello_format.make hello_format.spell hello_format.Fits
unfolding hello_at
hello_reads = hello_format.reads

pub text_reads : Reads (long_at 1 16384) (λ bs. bs) long IsText
text_reads = as_format (format_of (long_reads 1 16384 (omega arith) (omega arith))) long IsText
    (λ bs f. (bs, refl, (f.some, f.short), refl)) (λ bs f. (record { some = f.0; short = f.1 }, refl))

abbrev fetch_format : Format Request
fetch_format = format_of (bind_reads _ u32_any (λ caller f. bind_reads _ u64_any (λ number g. bind_reads _ u32_any (λ table h.
    made_reads (λ place. Fetch caller (record { 0 = number }) (record { 0 = table }) place) key_reads))))

fetch_reads : Reads fetch_at fetch_format.make fetch_format.spell fetch_format.Fits
unfolding fetch_at
fetch_reads = fetch_format.reads

abbrev finish_format : Format Request
finish_format = format_of (bind_reads _ u32_any (λ caller f. bind_reads _ u64_any (λ number g. bind_reads _ outcome_reads (λ ended h.
    made_reads (λ changed. Finish caller (record { 0 = number }) ended changed) writes_reads))))

finish_reads : Reads finish_at finish_format.make finish_format.spell finish_format.Fits
unfolding finish_at
finish_reads = finish_format.reads

abbrev put_format : Format Request
put_format = format_of (bind_reads _ u32_any (λ table f. bind_reads _ key_reads (λ place g.
    made_reads (λ value. Put (record { 0 = table }) place value) value_reads)))

put_reads : Reads put_at put_format.make put_format.spell put_format.Fits
unfolding put_at
put_reads = put_format.reads

abbrev request_format : Format Request
request_format = format_of (tagged_reads (inl (0, 0)) (omega arith, omega arith)
    (arms 1 (omega arith) hello_reads
    (arms 2 (omega arith) (made_reads (λ text. Install text) text_reads)
    (arms 3 (omega arith) (made_reads (λ calls. Batch calls) calls_reads)
    (arms 4 (omega arith) fetch_reads
    (arms 5 (omega arith) finish_reads
    (arms 6 (omega arith) put_reads
    (arms 7 (omega arith) (made_reads (λ ext. TextOf (record { 0 = ext })) u32_any)
    (arms 8 (omega arith) (done_reads Bye) (no_arms 9))))))))))

request_to : (m : Request) → FitsRequest m → Shows request_format request m
request_to (Hello tenant secret) f = (inl (tenant.0, secret), refl, f, refl)
request_to (Install text) f = (inr (inl text), refl, f, refl)
request_to (Batch calls) f = (inr (inr (inl calls)), refl, f, refl)
request_to (Fetch caller number table place) f = (inr (inr (inr (inl (caller, (number.0, (table.0, place)))))), refl, f, refl)
request_to (Finish caller number ended changed) f = (inr (inr (inr (inr (inl (caller, (number.0, (ended, changed))))))), refl, f, refl)
request_to (Put table place value) f = (inr (inr (inr (inr (inr (inl (table.0, (place, value))))))), refl, f, refl)
request_to (TextOf ext) f = (inr (inr (inr (inr (inr (inr (inl ext.0)))))), refl, f, refl)
request_to Bye f = (inr (inr (inr (inr (inr (inr (inr (inl tt))))))), refl, f, refl)

request_from : (x : request_format.Source) → request_format.Fits x → Makes request_format request FitsRequest x
request_from (inl x) f = (f, refl)
request_from (inr (inl x)) f = (f, refl)
request_from (inr (inr (inl x))) f = (f, refl)
request_from (inr (inr (inr (inl x)))) f = (f, refl)
request_from (inr (inr (inr (inr (inl x))))) f = (f, refl)
request_from (inr (inr (inr (inr (inr (inl x)))))) f = (f, refl)
request_from (inr (inr (inr (inr (inr (inr (inl x))))))) f = (f, refl)
request_from (inr (inr (inr (inr (inr (inr (inr (inl x)))))))) f = (f, refl)
request_from (inr (inr (inr (inr (inr (inr (inr (inr x)))))))) f = absurd x

pub request_reads : Reads request_at (λ m. m) request FitsRequest
unfolding request_at
request_reads = as_format request_format request FitsRequest request_to request_from

-- ---- whole bodies

pub request_found : (body : List ℕ) (m : Request) → IsBytes body → all_of request_at body ≡ Ok m → SpellsRequest body m
request_found body m fits e =
    let f = all_found request_reads body m fits e in
    record { fits = f.0; spelled = f.1 }

pub request_again : (body : List ℕ) (m : Request) → SpellsRequest body m → all_of request_at body ≡ Ok m
request_again body m s = ap (all_of request_at) s.spelled ∙ all_again request_reads m s.fits

pub request_longest : (body : List ℕ) (left : ℕ) → IsBytes body → all_of request_at body ≡ Err left → LongestRequest body (length body - left)
request_longest body left fits e =
    let b = all_begins request_reads body left fits e in
    let front : take (length body - left) body ≡ b.front = front_is body b.front b.back left b.parts b.last in
    record {
      within = omega arith;
      begins = record { message = b.value; fits = b.fits; more = b.more; spelled = b.spelled ∙ ap (λ (t : List ℕ). t ++ b.more) (sym front) };
      longest = λ k le begun. not_further body k left le
          (all_furthest request_reads body left fits e begun.message (take k body) (drop k body) begun.more begun.fits (sym (take-append-drop k body)) begun.spelled);
    }
