-- Numbers and runs of bytes are read exactly.
use Rattle.std.proofs.Common.{◌≡◌, ℕ, zero, suc, ◌+◌, ◌-◌, ◌*◌, ◌/◌, ◌%◌, ◌^◌, ◌<◌, ◌≤◌, ◌⊎◌, inl, inr, cond, ltb, List, [], ◌∷◌, ◌++◌, length, get_or, take, drop, Result, Ok, Err, refl, sym, ap, subst, ◌∙◌, arith}
use Rattle.std.specs.Prelude.{replicate}
use Rattle.std.specs.Int.{Width, w32, w64, byte_len, from_be_bytes, to_be_bytes}
use Rattle.std.proofs.lemmas.Bool.{cases_lt, le-ltb, lt-ltb}
use Rattle.std.proofs.lemmas.List.{take_at, drop_at, take-append-drop, length-append, length-take, get_or-take, get_or_past, length-replicate, append-nil}
use Rattle.std.proofs.lemmas.Nat.{be_bytes_2, be_bytes_4, be_bytes_8, from_be_bytes-to_be_bytes_4, from_be_bytes-to_be_bytes_8}
use Rattle.wire.specs.Readers.{made}
use Rattle.wire.specs.Fields.{byte_in, number_at, bytes_at, low_least, low_most, u16_in, u32_in}
use Rattle.sp_base.specs.Spelling.{u16, u32}
use Rattle.wire.proofs.Formats.{IsBytes, Begins, Reads, Format, Shows, Makes, ok_is, ok_err, bind_reads, made_reads, as_format, format_of}

-- ---- a byte

abbrev pub IsIn : ℕ → ℕ → ℕ → Type 0
IsIn least most n = (least ≤ n) × (n ≤ most)

err_is : {A : Type 0} (m n : ℕ) → (let r : Result A ℕ = Err m in r) ≡ Err n → m ≡ n
err_is m n e = cc

-- the tests of a byte
tested : (least most b : ℕ) (rest : List ℕ) →
    ((b < least) × (byte_in least most (b ∷ rest) ≡ Err (length rest + 1)))
    ⊎ (((most < b) × (byte_in least most (b ∷ rest) ≡ Err (length rest + 1)))
    ⊎ (IsIn least most b × (byte_in least most (b ∷ rest) ≡ Ok (b, rest))))
tested least most b rest =
    elim (cases_lt b least) [
      | inl lt ↦ inl (lt, rw (lt-ltb b least lt) refl)
      | inr ge ↦ elim (cases_lt most b) [
        | inl lt ↦ inr (inl (lt, rw (le-ltb b least ge, lt-ltb most b lt) refl))
        | inr le ↦ inr (inr ((ge, le), rw (le-ltb b least ge, le-ltb most b le) refl))
      ]
    ]

byte_found : (least most : ℕ) (bytes : List ℕ) (c : ℕ) (rest : List ℕ) → byte_in least most bytes ≡ Ok (c, rest) →
    (x : ℕ) × (c ≡ x) × IsIn least most x × (bytes ≡ x ∷ rest)
byte_found least most [] c rest e = absurd cc
byte_found least most (b ∷ bytes) c rest e =
    elim (tested least most b bytes) [
      | inl t ↦ ok_err (byte_in least most (b ∷ bytes)) (c, rest) (length bytes + 1) e t.1
      | inr u ↦ elim u [
        | inl t ↦ ok_err (byte_in least most (b ∷ bytes)) (c, rest) (length bytes + 1) e t.1
        | inr t ↦
            let same = ok_is (b, bytes) (c, rest) (sym t.1 ∙ e) in
            (b, sym (ap (λ q. q.0) same), t.0, ap (λ (r : List ℕ). b ∷ r) (ap (λ q. q.1) same))
      ]
    ]

byte_again : (least most n : ℕ) (rest : List ℕ) → IsIn least most n → byte_in least most (n ∷ rest) ≡ Ok (n, rest)
byte_again least most n rest f = rw (le-ltb n least f.0, le-ltb most n f.1) refl

byte_begins : (least most : ℕ) → least ≤ most → (bytes : List ℕ) (left : ℕ) → byte_in least most bytes ≡ Err left →
    Begins (λ n. n ∷ []) (IsIn least most) bytes left
byte_begins least most le [] left e =
    record { value = least; fits = (omega arith, le); front = []; back = []; more = least ∷ []; parts = refl; last = cc; spelled = refl }
byte_begins least most le (b ∷ bytes) left e =
    let last : length bytes + 1 ≡ left =
    elim (tested least most b bytes) [
      | inl t ↦ err_is _ _ (sym t.1 ∙ e)
      | inr u ↦ elim u [
        | inl t ↦ err_is _ _ (sym t.1 ∙ e)
        | inr t ↦ ok_err (byte_in least most (b ∷ bytes)) (b, bytes) left t.1 e
      ]
    ] in
    record { value = least; fits = (omega arith, le); front = []; back = b ∷ bytes; more = least ∷ []; parts = refl; last = omega (arith, last); spelled = refl }

byte_furthest : (least most : ℕ) (bytes : List ℕ) (left : ℕ) → byte_in least most bytes ≡ Err left →
    (n : ℕ) (front back more : List ℕ) → IsIn least most n → bytes ≡ front ++ back → n ∷ [] ≡ front ++ more → left ≤ length back
byte_furthest least most [] left e n front back more f parts spelled = let none : left ≡ 0 = cc in omega (arith, none)
byte_furthest least most (b ∷ bytes) left e n [] back more f parts spelled =
    let whole = ap (λ (t : List ℕ). length t) parts in
    elim (tested least most b bytes) [
      | inl t ↦ omega (arith, whole, err_is _ _ (sym t.1 ∙ e))
      | inr u ↦ elim u [
        | inl t ↦ omega (arith, whole, err_is _ _ (sym t.1 ∙ e))
        | inr t ↦ ok_err (byte_in least most (b ∷ bytes)) (b, bytes) left t.1 e
      ]
    ]
byte_furthest least most (b ∷ bytes) left e n (y ∷ front) back more f parts spelled =
    let first : b ≡ y = cc in
    let same : n ≡ y = cc in
    let fits : IsIn least most b = subst (IsIn least most) (same ∙ sym first) f in
    ok_err (byte_in least most (b ∷ bytes)) (b, bytes) left (byte_again least most b bytes fits) e

pub byte_reads : (least most : ℕ) → least ≤ most → Reads (byte_in least most) (λ n. n) (λ n. n ∷ []) (IsIn least most)
byte_reads least most le = record {
  some = (least, (omega arith, le));
  found = λ bytes c rest fits e. byte_found least most bytes c rest e;
  again = byte_again least most;
  begins = λ bytes left fits e. byte_begins least most le bytes left e;
  furthest = λ bytes left fits e. byte_furthest least most bytes left e;
}

-- ---- a number of any size

pub record IsWide (w : Width) (limit : ℕ) : Type 0 where
  pub some : 0 < limit
  pub len : (n : ℕ) → length (to_be_bytes w n) ≡ byte_len w
  pub back : (bytes : List ℕ) → length bytes ≡ byte_len w → IsBytes bytes → to_be_bytes w (from_be_bytes w bytes) ≡ bytes
  pub again : (n : ℕ) → n < limit → from_be_bytes w (to_be_bytes w n) ≡ n
  pub below : (bytes : List ℕ) → IsBytes bytes → from_be_bytes w bytes < limit

pub wide32 : IsWide w32 (2 ^ 32)
wide32 = record {
  some = omega arith;
  len = λ n. refl;
  back = λ bytes len fits. be_bytes_4 bytes _ len fits refl;
  again = λ n lt. from_be_bytes-to_be_bytes_4 n lt;
  below = λ bytes fits. omega (arith, fits 0, fits 1, fits 2, fits 3);
}

pub wide64 : IsWide w64 (2 ^ 64)
wide64 = record {
  some = omega arith;
  len = λ n. refl;
  back = λ bytes len fits. be_bytes_8 bytes _ len fits refl;
  again = λ n lt. from_be_bytes-to_be_bytes_8 n lt;
  below = λ bytes fits. omega (arith, fits 0, fits 1, fits 2, fits 3, fits 4, fits 5, fits 6, fits 7);
}

IsBytes-take : (n : ℕ) (bytes : List ℕ) → IsBytes bytes → IsBytes (take n bytes)
IsBytes-take n bytes h i =
    elim (cases_lt i n) [
      | inl lt ↦ rw (get_or-take n bytes i 0 lt) (h i)
      | inr le ↦ rw (get_or_past (take n bytes) i 0 (omega (arith, length-take n bytes))) (omega arith)
    ]

-- a reader that fails only where its bytes end early
abbrev early : {A : Type 0} → ℕ → Result A ℕ
early n = Err n

short_or : {A : Type 0} (bytes : List ℕ) (n : ℕ) (x : A) →
    ((length bytes < n) × (cond {A = Result A ℕ} (ltb (length bytes) n) (early 0) (Ok x) ≡ early 0))
    ⊎ ((n ≤ length bytes) × (cond {A = Result A ℕ} (ltb (length bytes) n) (early 0) (Ok x) ≡ Ok x))
short_or bytes n x =
    elim (cases_lt (length bytes) n) [
      | inl lt ↦ inl (lt, rw (lt-ltb (length bytes) n lt) refl)
      | inr le ↦ inr (le, rw (le-ltb (length bytes) n le) refl)
    ]

-- the bytes that are there begin each text that is longer and begins so
fill : (bytes : List ℕ) (n : ℕ) → length bytes < n → length (bytes ++ replicate (n - length bytes) 0) ≡ n
fill bytes n lt = omega (arith, length-append bytes (replicate (n - length bytes) 0), length-replicate {A = ℕ} (n - length bytes) 0)

zeros_bytes : (n i : ℕ) → get_or (replicate n 0) i 0 < 256
zeros_bytes zero i = omega arith
zeros_bytes (suc n) zero = omega arith
zeros_bytes (suc n) (suc i) = zeros_bytes n i

filled_bytes : (bytes : List ℕ) (n : ℕ) → IsBytes bytes → IsBytes (bytes ++ replicate n 0)
filled_bytes [] n fits i = zeros_bytes n i
filled_bytes (b ∷ bytes) n fits zero = fits 0
filled_bytes (b ∷ bytes) n fits (suc i) = filled_bytes bytes n (λ j. fits (suc j)) i

-- ---- so many bytes

pub bytes_reads : (n : ℕ) → Reads (bytes_at n) (λ bs. bs) (λ bs. bs) (λ bs. length bs ≡ n)
bytes_reads n = record {
  some = (replicate n 0, length-replicate {A = ℕ} n 0);
  found = λ bytes c rest fits e.
      elim (short_or {A = List ℕ × List ℕ} bytes n (take n bytes, drop n bytes)) [
        | inl t ↦ ok_err (bytes_at n bytes) (c, rest) 0 e t.1
        | inr t ↦
            let same = ok_is (take n bytes, drop n bytes) (c, rest) (sym t.1 ∙ e) in
            let front = ap (λ q. q.0) same in
            let behind = ap (λ q. q.1) same in
            (take n bytes, sym front, omega (arith, length-take n bytes, t.0), sym (take-append-drop n bytes) ∙ ap (λ (r : List ℕ). take n bytes ++ r) behind)
      ];
  again = λ bs rest f. rw (le-ltb (length (bs ++ rest)) n (omega (arith, length-append bs rest, f)), take_at bs rest n f, drop_at bs rest n f) refl;
  begins = λ bytes left fits e.
      elim (short_or {A = List ℕ × List ℕ} bytes n (take n bytes, drop n bytes)) [
        | inl t ↦ record {
          value = bytes ++ replicate (n - length bytes) 0;
          fits = fill bytes n t.0;
          front = bytes;
          back = [];
          more = replicate (n - length bytes) 0;
          parts = sym (append-nil bytes);
          last = err_is 0 left (sym t.1 ∙ e);
          spelled = refl;
        }
        | inr t ↦ ok_err (bytes_at n bytes) (take n bytes, drop n bytes) left t.1 e
      ];
  furthest = λ bytes left fits e bs front back more f parts spelled.
      elim (short_or {A = List ℕ × List ℕ} bytes n (take n bytes, drop n bytes)) [
        | inl t ↦ let none : 0 ≡ left = err_is 0 left (sym t.1 ∙ e) in omega (arith, none)
        | inr t ↦ ok_err (bytes_at n bytes) (take n bytes, drop n bytes) left t.1 e
      ];
}

pub number_reads : (w : Width) (limit : ℕ) → IsWide w limit → Reads (number_at w) (λ n. n) (λ n. to_be_bytes w n) (λ n. n < limit)
number_reads w limit wide = record {
  some = (0, wide.some);
  found = λ bytes c rest fits e.
      let k = byte_len w in
      elim (short_or {A = ℕ × List ℕ} bytes k (from_be_bytes w (take k bytes), drop k bytes)) [
        | inl t ↦ ok_err (number_at w bytes) (c, rest) 0 e t.1
        | inr t ↦
            let same = ok_is (from_be_bytes w (take k bytes), drop k bytes) (c, rest) (sym t.1 ∙ e) in
            let front = ap (λ q. q.0) same in
            let behind = ap (λ q. q.1) same in
            let few : length (take k bytes) ≡ k = omega (arith, length-take k bytes, t.0) in
            let these = IsBytes-take k bytes fits in (
              from_be_bytes w (take k bytes),
              sym front,
              wide.below (take k bytes) these,
              sym (take-append-drop k bytes) ∙ ap (λ (r : List ℕ). take k bytes ++ r) behind ∙ ap (λ (r : List ℕ). r ++ rest) (sym (wide.back (take k bytes) few these)),
            )
      ];
  again = λ n rest lt.
      let k = byte_len w in
      let len = wide.len n in
      rw (le-ltb (length (to_be_bytes w n ++ rest)) k (omega (arith, length-append (to_be_bytes w n) rest, len)), take_at (to_be_bytes w n) rest k len, drop_at (to_be_bytes w n) rest k len, wide.again n lt) refl;
  begins = λ bytes left fits e.
      let k = byte_len w in
      elim (short_or {A = ℕ × List ℕ} bytes k (from_be_bytes w (take k bytes), drop k bytes)) [
        | inl t ↦
            let more = replicate (k - length bytes) 0 in
            let whole = bytes ++ more in
            let these : IsBytes whole = filled_bytes bytes (k - length bytes) fits in
            record {
              value = from_be_bytes w whole;
              fits = wide.below whole these;
              front = bytes;
              back = [];
              more = more;
              parts = sym (append-nil bytes);
              last = err_is 0 left (sym t.1 ∙ e);
              spelled = wide.back whole (fill bytes k t.0) these;
            }
        | inr t ↦ ok_err (number_at w bytes) (from_be_bytes w (take k bytes), drop k bytes) left t.1 e
      ];
  furthest = λ bytes left fits e bs front back more f parts spelled.
      let k = byte_len w in
      elim (short_or {A = ℕ × List ℕ} bytes k (from_be_bytes w (take k bytes), drop k bytes)) [
        | inl t ↦ let none : 0 ≡ left = err_is 0 left (sym t.1 ∙ e) in omega (arith, none)
        | inr t ↦ ok_err (number_at w bytes) (from_be_bytes w (take k bytes), drop k bytes) left t.1 e
      ];
}

-- ---- numbers from least to most

-- ---- numbers from least to most

two_bytes : (h l : ℕ) → h < 256 → l < 256 → IsBytes (h ∷ l ∷ [])
two_bytes h l hb lb zero = hb
two_bytes h l hb lb (suc zero) = lb
two_bytes h l hb lb (suc (suc i)) = omega arith

u16_two : (h l : ℕ) → h < 256 → l < 256 → u16 (256 * h + l) ≡ h ∷ l ∷ []
unfolding u16
u16_two h l hb lb = be_bytes_2 (h ∷ l ∷ []) (256 * h + l) refl (two_bytes h l hb lb) (omega arith)

low_le : (base least most high : ℕ) → 1 ≤ base → least ≤ most → base * high ≤ most → least < base * high + base → low_least base least high ≤ low_most base most high
low_le base least most high pos le up down = omega arith

abbrev u16_format : (least most : ℕ) → least ≤ most → Format ℕ
u16_format least most le = format_of (bind_reads (λ high. made (λ low. 256 * high + low) (byte_in (low_least 256 least high) (low_most 256 most high)))
    (byte_reads (least / 256) (most / 256) (omega arith))
    (λ high f. made_reads (λ low. 256 * high + low) (byte_reads (low_least 256 least high) (low_most 256 most high) (low_le 256 least most high (omega arith) le (omega (arith, f.1)) (omega (arith, f.0))))))

u16_to : (least most : ℕ) (le : least ≤ most) → most < 65536 → (n : ℕ) → IsIn least most n → Shows (u16_format least most le) u16 n
u16_to least most le lt n f =
    let whole : 256 * (n / 256) + n % 256 ≡ n = omega arith in (
      (n / 256, n % 256),
      whole,
      ((omega (arith, f.0), omega (arith, f.1)), (omega (arith, f.0), omega (arith, f.1))),
      sym (u16_two (n / 256) (n % 256) (omega (arith, f.1)) (omega arith)) ∙ ap u16 whole,
    )

u16_from : (least most : ℕ) (le : least ≤ most) → most < 65536 → (x : ℕ × ℕ) →
    IsIn (least / 256) (most / 256) x.0 × IsIn (low_least 256 least x.0) (low_most 256 most x.0) x.1 → Makes (u16_format least most le) u16 (IsIn least most) x
u16_from least most le lt x f =
    ((omega (arith, f.1.0), omega (arith, f.1.1, f.0.1)), u16_two x.0 x.1 (omega (arith, f.0.1)) (omega (arith, f.1.1)))

pub u16_reads : (least most : ℕ) → least ≤ most → most < 65536 → Reads (u16_in least most) (λ n. n) u16 (IsIn least most)
unfolding u16_in
u16_reads least most le lt = as_format (u16_format least most le) u16 (IsIn least most) (u16_to least most le lt) (u16_from least most le lt)

four_bytes : (h l : ℕ) → IsBytes (u16 h ++ u16 l)
unfolding u16
four_bytes h l zero = omega arith
four_bytes h l (suc zero) = omega arith
four_bytes h l (suc (suc zero)) = omega arith
four_bytes h l (suc (suc (suc zero))) = omega arith
four_bytes h l (suc (suc (suc (suc i)))) = omega arith

u32_two : (h l : ℕ) → h < 65536 → l < 65536 → u32 (65536 * h + l) ≡ u16 h ++ u16 l
unfolding u16 u32
u32_two h l hb lb = be_bytes_4 (u16 h ++ u16 l) (65536 * h + l) refl (four_bytes h l) (omega arith)

abbrev u32_format : (least most : ℕ) → least ≤ most → most < 2 ^ 32 → Format ℕ
u32_format least most le lt = format_of (bind_reads (λ high. made (λ low. 65536 * high + low) (u16_in (low_least 65536 least high) (low_most 65536 most high)))
    (u16_reads (least / 65536) (most / 65536) (omega arith) (omega arith))
    (λ high f. made_reads (λ low. 65536 * high + low) (u16_reads (low_least 65536 least high) (low_most 65536 most high)
    (low_le 65536 least most high (omega arith) le (omega (arith, f.1)) (omega (arith, f.0))) (omega arith))))

u32_to : (least most : ℕ) (le : least ≤ most) (lt : most < 2 ^ 32) → (n : ℕ) → IsIn least most n → Shows (u32_format least most le lt) u32 n
u32_to least most le lt n f =
    let whole : 65536 * (n / 65536) + n % 65536 ≡ n = omega arith in (
      (n / 65536, n % 65536),
      whole,
      ((omega (arith, f.0), omega (arith, f.1)), (omega (arith, f.0), omega (arith, f.1))),
      sym (u32_two (n / 65536) (n % 65536) (omega (arith, f.1)) (omega arith)) ∙ ap u32 whole,
    )

u32_from : (least most : ℕ) (le : least ≤ most) (lt : most < 2 ^ 32) → (x : ℕ × ℕ) →
    IsIn (least / 65536) (most / 65536) x.0 × IsIn (low_least 65536 least x.0) (low_most 65536 most x.0) x.1 → Makes (u32_format least most le lt) u32 (IsIn least most) x
u32_from least most le lt x f =
    ((omega (arith, f.1.0), omega (arith, f.1.1, f.0.1)), u32_two x.0 x.1 (omega (arith, f.0.1)) (omega (arith, f.1.1)))

pub u32_reads : (least most : ℕ) → least ≤ most → most < 2 ^ 32 → Reads (u32_in least most) (λ n. n) u32 (IsIn least most)
unfolding u32_in
u32_reads least most le lt = as_format (u32_format least most le lt) u32 (IsIn least most) (u32_to least most le lt) (u32_from least most le lt)
