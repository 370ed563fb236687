-- The tokens of a text that spells a program are all that were scanned, and so the program is accepted.
use Rattle.std.proofs.Common.{◌≡◌, ℕ, ◌+◌, ◌⊎◌, inl, inr, Bool, true, false, List, [], ◌∷◌, ◌++◌, length, refl, sym, subst, ap, ◌∙◌, arith, length-append}
use Rattle.std.proofs.lemmas.Bool.Decides.{nat_tests}
use Rattle.std.specs.Prelude.{IsTrue, ◌&&◌, ◌||◌, ◌==◌, not}
use Rattle.ext_mean.specs.declared.token.Placed.{Placed}
use Rattle.ext_mean.specs.declared.tree.Program.{Program}
use Rattle.ext_mean.specs.Bounds.{AreBounded, IsTooLong, IsTooDeep}
use Rattle.ext_mean.specs.SyntaxFaults.{line_behind}
use Rattle.ext_mean.specs.Text.{SpellsAt}
use Rattle.ext_mean.specs.Tokens.{IsGap, empty, blank, comment, Tokens, all_pass, is_blank, is_text_byte, is_comment_byte, is_within, newline, tokens_of}
use Rattle.ext_mean.specs.Wording.{Slot, slot_tokens, program_slots}
use Rattle.ext_tokens.specs.declared.scan.End.{End}
use Rattle.ext_tokens.specs.declared.scan.End.TheVariants as end
use Rattle.ext_tokens.specs.declared.scan.Scanned.{Scanned}
use Rattle.ext_tokens.specs.Laws.{IsFront, PassesFault}
use Rattle.ext_tokens.specs.Scanning as scanning
use Rattle.ext_tokens.specs.Scanning.{IsEnd, IsScanned}
use Rattle.ext_tokens.proofs.Gaps.{gap-whole}
use Rattle.ext_tokens.proofs.Readings.{tokens-one, none-behind-gap}
use Rattle.ext_tokens.proofs.ReadingsAreOne.{ends-one}
use Rattle.ext_grammar.specs.Agreement.{Make}
use Rattle.ext_grammar.specs.Reading.{accepted, whole_answer}
use Rattle.ext_grammar.proofs.AgreementProved.{programs-are-accepted}
use Rattle.ext_parse.specs.Readers.{ending_of}

and-first : (a b : Bool) → (a && b) ≡ true → a ≡ true
and-first true b is = refl
and-first false b is = is

and-second : (a b : Bool) → (a && b) ≡ true → b ≡ true
and-second true b is = is
and-second false b is = absurd (let f : false ≡ true = is in cc)

and-of : (a b : Bool) → a ≡ true → b ≡ true → (a && b) ≡ true
and-of a b one two = subst (λ z. (z && b) ≡ true) (sym one) two

or-last : (tab line shown : Bool) → shown ≡ true → (tab || line || shown) ≡ true
or-last true line shown is = refl
or-last false true shown is = refl
or-last false false shown is = is

or-blank : (space tab line shown : Bool) → (space || tab || line) ≡ true → (space ≡ true → shown ≡ true) → (tab || line || shown) ≡ true
or-blank true tab line shown is of = or-last tab line shown (of refl)
or-blank false true line shown is of = refl
or-blank false false true shown is of = refl
or-blank false false false shown is of = absurd (let f : false ≡ true = is in cc)

within-space : (byte : ℕ) → (byte == 0x20) ≡ true → is_within 0x20 0x7e byte ≡ true
within-space byte is =
    let e : byte ≡ 0x20 = grind (arith, nat_tests, is) in
    subst (λ z. is_within 0x20 0x7e z ≡ true) (sym e) refl

blank-text : (byte : ℕ) → IsTrue (is_blank byte) → is_text_byte byte ≡ true
blank-text byte is =
    or-blank (byte == 0x20) (byte == 9) (byte == newline) (is_within 0x20 0x7e byte) is (λ space. within-space byte space)

-- all bytes of a gap are bytes of the language
all-append : (test : ℕ → Bool) (first second : List ℕ) → all_pass test (first ++ second) ≡ true → all_pass test second ≡ true
all-append test [] second is = is
all-append test (byte ∷ first) second is = all-append test first second (and-second (test byte) (all_pass test (first ++ second)) is)

all-join : (test : ℕ → Bool) (first second : List ℕ) → all_pass test first ≡ true → all_pass test second ≡ true → all_pass test (first ++ second) ≡ true
all-join test [] second one two = two
all-join test (byte ∷ first) second one two =
    and-of (test byte) (all_pass test (first ++ second)) (and-first (test byte) (all_pass test first) one) (all-join test first second (and-second (test byte) (all_pass test first) one) two)

comment-texts : (words : List ℕ) → all_pass is_comment_byte words ≡ true → all_pass is_text_byte words ≡ true
comment-texts [] is = refl
comment-texts (byte ∷ words) is =
    let here : is_comment_byte byte ≡ true = and-first (is_comment_byte byte) (all_pass is_comment_byte words) is in
    and-of (is_text_byte byte) (all_pass is_text_byte words) (and-first (is_text_byte byte) (not (byte == newline)) here) (comment-texts words (and-second (is_comment_byte byte) (all_pass is_comment_byte words) is))

gap-texts : {gap : List ℕ} → IsGap gap → all_pass is_text_byte gap ≡ true
gap-texts empty = refl
gap-texts (blank {byte = byte} {rest = rest} is more) = and-of (is_text_byte byte) (all_pass is_text_byte rest) (blank-text byte is) (gap-texts more)
gap-texts (comment {gap = gap} {rest = rest} words good e more) =
    let inner : all_pass is_text_byte (words ++ newline ∷ rest) ≡ true = all-join is_text_byte words (newline ∷ rest) (comment-texts words good) (gap-texts more) in
    subst (λ z. all_pass is_text_byte (0x23 ∷ z) ≡ true) (sym e) inner

-- so no comment of a gap is broken
unbroken : (rest more words gap : List ℕ) (byte : ℕ) → IsGap rest → rest ≡ gap ++ 0x23 ∷ (words ++ byte ∷ more) → is_text_byte byte ≡ false → ⊥
unbroken rest more words gap byte is same bad =
    let all : all_pass is_text_byte (gap ++ 0x23 ∷ (words ++ byte ∷ more)) ≡ true = subst (λ z. all_pass is_text_byte z ≡ true) same (gap-texts is) in
    let inner : all_pass is_text_byte (words ++ byte ∷ more) ≡ true = all-append is_text_byte gap (0x23 ∷ (words ++ byte ∷ more)) all in
    let last : (is_text_byte byte && all_pass is_text_byte more) ≡ true = all-append is_text_byte words (byte ∷ more) inner in
    let good : is_text_byte byte ≡ true = and-first (is_text_byte byte) (all_pass is_text_byte more) last in
    let no : false ≡ true = sym bad ∙ good in
    cc

-- one token more than those behind which only a gap is left
one-more : (text rest behind : List ℕ) (placed : List Placed) (next : Placed) → Tokens text 1 placed rest → IsGap rest → Tokens text 1 (placed ++ next ∷ []) behind → ⊥
one-more text rest behind placed next tokens gap longer =
    let size : length (placed ++ next ∷ []) ≡ length placed + 1 = length-append placed (next ∷ []) in
    let more = tokens-one text rest behind 1 placed (placed ++ next ∷ []) tokens longer (omega (arith, size)) in
    let none : more.0 ≡ [] = none-behind-gap rest behind (line_behind 1 placed) more.0 gap more.2 in
    let joined : length (placed ++ next ∷ []) ≡ length placed + length more.0 = ap length more.1 ∙ length-append placed more.0 in
    let nothing : length more.0 ≡ 0 = ap length none in
    omega (arith, size, joined, nothing)

ends-there : (text rest : List ℕ) (placed : List Placed) (last : End) → Tokens text 1 placed rest → IsGap rest → IsEnd text placed rest last → (ending_of last).complete ≡ true
ends-there text rest placed (end.Text line) tokens gap is = refl
ends-there text rest placed (end.Fault line which) tokens gap (scanning.no_token byte more before same is_gap none line-is) =
    absurd (gap-whole rest before (byte ∷ more) gap is_gap (record { byte = byte; more = more; whole = refl; no_blank = none.shown; no_comment = none.comment }) same)
ends-there text rest placed (end.Fault line which) tokens gap (scanning.bad_comment byte more words before same broken line-is) =
    absurd (unbroken rest more words before byte gap same broken.bad)
ends-there text rest placed (end.Fault line which) tokens gap (scanning.long next behind longer long line-is) =
    absurd (one-more text rest behind placed next tokens gap longer)
ends-there text rest placed (end.Fault line which) tokens gap (scanning.deep next behind longer short deep line-is) =
    absurd (one-more text rest behind placed next tokens gap longer)

-- the slot of a token
pub record Parted (slots : List Slot) (before : List Placed) (next : Placed) : Type 0 where
  pub front : List Slot
  pub there : Slot
  pub rest : List Slot
  pub whole : slots ≡ front ++ there ∷ rest
  pub same : slot_tokens front ≡ tokens_of before
  pub token : there.token ≡ next.token

parted : (slots : List Slot) (before : List Placed) (next : Placed) (after : List Placed) → slot_tokens slots ≡ tokens_of (before ++ next ∷ after) → Parted slots before next
parted [] [] next after e = absurd (let f : [] ≡ next.token ∷ tokens_of after = e in cc)
parted [] (first ∷ before) next after e = absurd (let f : [] ≡ first.token ∷ tokens_of (before ++ next ∷ after) = e in cc)
parted (slot ∷ slots) [] next after e =
    let token : slot.token ≡ next.token = let f : (slot.token ∷ slot_tokens slots) ≡ next.token ∷ tokens_of after = e in cc in
    record { front = []; there = slot; rest = slots; whole = refl; same = refl; token = token }
parted (slot ∷ slots) (first ∷ before) next after e =
    let f : (slot.token ∷ slot_tokens slots) ≡ first.token ∷ tokens_of (before ++ next ∷ after) = e in
    let token : slot.token ≡ first.token = cc in
    let tail : slot_tokens slots ≡ tokens_of (before ++ next ∷ after) = cc in
    let parts = parted slots before next after tail in
    let whole : slot ∷ slots ≡ (slot ∷ parts.front) ++ parts.there ∷ parts.rest = ap (λ z. slot ∷ z) parts.whole in
    let same : slot.token ∷ slot_tokens parts.front ≡ first.token ∷ tokens_of before = cc (token, parts.same) in
    record { front = slot ∷ parts.front; there = parts.there; rest = parts.rest; whole = whole; same = same; token = parts.token }

-- no token of a program within the bounds is too long, and no bracket too deep
bounded : (slots : List Slot) (before after : List Placed) (next : Placed) → AreBounded slots → slot_tokens slots ≡ tokens_of (before ++ next ∷ after) → IsTooLong next.token ⊎ IsTooDeep (tokens_of before) next.token → ⊥
bounded slots before after next bounds same (inl long) =
    let parts = parted slots before next after same in
    (bounds parts.front parts.there parts.rest parts.whole).short (subst IsTooLong (sym parts.token) long)
bounded slots before after next bounds same (inr deep) =
    let parts = parted slots before next after same in
    (bounds parts.front parts.there parts.rest parts.whole).shallow
    (subst (λ z. IsTooDeep (slot_tokens parts.front) z) (sym parts.token) (subst (λ z. IsTooDeep z next.token) (sym parts.same) deep))

pub append-one : (before : List Placed) (next : Placed) (after : List Placed) → (before ++ next ∷ []) ++ after ≡ before ++ next ∷ after
append-one [] next after = refl
append-one (first ∷ before) next after = ap (λ z. first ∷ z) (append-one before next after)

pub append-none : (items : List Placed) → items ++ [] ≡ items
append-none [] = refl
append-none (first ∷ items) = ap (λ z. first ∷ z) (append-none items)

-- all tokens of the program were scanned, and no others
all-scanned : (text : List ℕ) (scanned : Scanned) (tree : Program) (lines : List ℕ) (spelled : SpellsAt text tree lines) → IsScanned text scanned
    → IsFront spelled.reading.placed scanned.tokens.items ⊎ PassesFault text scanned.tokens.items spelled.reading.placed
    → (scanned.tokens.items ≡ spelled.reading.placed) × ((rest : List ℕ) × Tokens text 1 scanned.tokens.items rest × IsGap rest)
all-scanned text scanned tree lines spelled is (inl (more, e)) =
    let r = spelled.reading in
    let size : length scanned.tokens.items ≡ length r.placed + length more = ap length e ∙ length-append r.placed more in
    let beyond = tokens-one text r.last is.rest 1 r.placed scanned.tokens.items r.tokens is.tokens (omega (arith, size)) in
    let none : beyond.0 ≡ [] = none-behind-gap r.last is.rest (line_behind 1 r.placed) beyond.0 r.gap beyond.2 in
    let same : scanned.tokens.items ≡ r.placed = beyond.1 ∙ ap (λ z. r.placed ++ z) none ∙ append-none r.placed in
    (same, (r.last, subst (λ z. Tokens text 1 z r.last) (sym same) r.tokens, r.gap))
all-scanned text scanned tree lines spelled is (inr (next, behind, tokens, bad, (more, e))) =
    let r = spelled.reading in
    let whole : r.placed ≡ scanned.tokens.items ++ next ∷ more = e ∙ append-one scanned.tokens.items next more in
    absurd (bounded (program_slots r.whole) scanned.tokens.items more next r.bounds (r.sentence ∙ ap tokens_of whole) bad)

tokens-made : (placed others : List Placed) (tree : Program) (lines : List ℕ) → others ≡ placed → Make placed tree lines → Make others tree lines
tokens-made placed others tree lines same made = subst (λ z. Make z tree lines) (sym same) made

pub only : (text : List ℕ) (scanned : Scanned) (tree : Program) (lines : List ℕ) → IsScanned text scanned → SpellsAt text tree lines → whole_answer (ending_of scanned.end) scanned.tokens.items ≡ accepted tree lines
only text scanned tree lines is spelled =
    let r = spelled.reading in
    let all = all-scanned text scanned tree lines spelled is (ends-one text r.last scanned r.placed is r.tokens) in
    let made : Make r.placed tree lines = record { whole = r.whole; sentence = r.sentence; bounds = r.bounds; tree = spelled.tree; places = spelled.places } in
    let left = tokens-one text all.1.0 is.rest 1 scanned.tokens.items scanned.tokens.items all.1.1 is.tokens (omega arith) in
    let none : left.0 ≡ [] = none-behind-gap all.1.0 is.rest (line_behind 1 scanned.tokens.items) left.0 all.1.2 left.2 in
    let rest-is : all.1.0 ≡ is.rest = subst (λ z. Tokens all.1.0 (line_behind 1 scanned.tokens.items) z is.rest) none left.2 in
    let gap : IsGap is.rest = subst IsGap rest-is all.1.2 in
    programs-are-accepted scanned.tokens.items (ending_of scanned.end) tree lines
    (ends-there text is.rest scanned.tokens.items scanned.end is.tokens gap is.end)
    (tokens-made r.placed scanned.tokens.items tree lines all.0 made)
