-- A text has one fault at most, and a text that has one spells no program.
use Rattle.std.proofs.Common.{◌≡◌, ◌≤◌, ◌<◌, ℕ, ◌+◌, List, [], ◌∷◌, ◌++◌, length, refl, sym, subst, ap, ◌∙◌, arith, length-append, append-nil, inl, inr}
use Rattle.std.proofs.lemmas.Bool.{cases_lt}
use Rattle.ext_mean.specs.declared.codes.SyntaxCode.{SyntaxCode}
use Rattle.ext_mean.specs.declared.codes.SyntaxCode.TheVariants as code
use Rattle.ext_mean.specs.declared.token.Placed.{Placed}
use Rattle.ext_mean.specs.declared.token.Token.{Token}
use Rattle.ext_mean.specs.declared.tree.Program.{Program}
use Rattle.ext_mean.specs.Grammar.{Whole}
use Rattle.ext_mean.specs.SyntaxFaults.{SyntaxFault, large, empty, unended, no_token, bad_comment, bad_token, early, HasCode, long, deep, many, expected, IsSoundUpTo, line_behind}
use Rattle.ext_mean.specs.Text.{EndsLine, SpellsAt}
use Rattle.sp_base.specs.declared.limits.TheConstants.{MOST_TEXT}
use Rattle.ext_mean.specs.Tokens.{Tokens, IsGap, newline, newlines, tokens_of}
use Rattle.ext_mean.specs.Wording.{program_slots, program_tokens}
use Rattle.ext_tokens.specs.Laws.{HasNoFirst, IsFront}
use Rattle.ext_tokens.specs.Laws as laws
use Rattle.ext_tokens.proofs.Gaps.{IsShown}
use Rattle.ext_tokens.proofs.Readings.{tokens-one}
use Rattle.ext_tokens.proofs.ReadingsAreOne.{none-follows}
use Rattle.ext_tokens.proofs.Stuck.{IsStuck, empty-stuck, shown-stuck, broken-stuck, stuck-one}
use Rattle.ext_grammar.specs.Agreement.{Begin}
use Rattle.ext_grammar.proofs.Passed.{passed-have-no-code}
use Rattle.ext_parse.specs.Laws.{TextsHaveOneFault, FaultyTextsSpellNone}
use Rattle.ext_parse.proofs.OnlyProved.{append-none, append-one}

-- what is left of a text begins, behind a gap, with what neither a gap nor a token begins
record Stops (rest : List ℕ) (lines : ℕ) : Type 0 where
  pub gap : List ℕ
  pub byte : ℕ
  pub more : List ℕ
  pub whole : rest ≡ gap ++ byte ∷ more
  pub is_gap : IsGap gap
  pub stuck : IsStuck (byte ∷ more)
  pub lines_are : lines ≡ newlines gap

stops-once : (rest : List ℕ) (lines others : ℕ) → Stops rest lines → Stops rest others → lines ≡ others
stops-once rest lines others first second =
    let gaps = stuck-one (first.byte ∷ first.more) (second.byte ∷ second.more) first.is_gap second.is_gap first.stuck second.stuck (sym first.whole ∙ second.whole) in
    first.lines_are ∙ ap newlines gaps.0 ∙ sym second.lines_are

not-ended : (rest : List ℕ) (lines : ℕ) → Stops rest lines → IsGap rest → ⊥
not-ended rest lines stops is =
    let ended = stuck-one [] (stops.byte ∷ stops.more) is stops.is_gap empty-stuck stops.stuck (append-nil rest ∙ stops.whole) in
    let none : [] ≡ stops.byte ∷ stops.more = ended.1 in
    cc

-- a fault of a text of whole lines stands behind these tokens
data Behind (text : List ℕ) (placed : List Placed) (rest : List ℕ) : ℕ → SyntaxCode → Type 0 where
  stops : (lines : ℕ) → Stops rest lines → HasNoFirst rest → Behind text placed rest (line_behind 1 placed + lines) code.Token
  coded : {which : SyntaxCode} (next : Placed) (behind : List ℕ) → Tokens text 1 (placed ++ next ∷ []) behind → HasCode (tokens_of placed) next.token which
      → Behind text placed rest next.line which
  ends : IsGap rest → ((whole : Whole) → program_tokens whole ≡ tokens_of placed → ⊥) → Behind text placed rest (newlines text) code.Expected

record Inside (text : List ℕ) (line : ℕ) (which : SyntaxCode) : Type 0 where
  pub placed : List Placed
  pub rest : List ℕ
  pub tokens : Tokens text 1 placed rest
  pub begin : Begin placed
  pub fault : Behind text placed rest line which

-- what kind of fault it is
data Kind (text : List ℕ) : ℕ → SyntaxCode → Type 0 where
  too_large : MOST_TEXT < length text → Kind text 1 code.Long
  nothing : text ≡ [] → Kind text 1 code.Expected
  unclosed : length text ≤ MOST_TEXT → 0 < length text → (EndsLine text → ⊥) → Kind text (newlines text + 1) code.Expected
  inside : {line : ℕ} {which : SyntaxCode} → length text ≤ MOST_TEXT → EndsLine text → Inside text line which → Kind text line which

begin-of : (text : List ℕ) (placed : List Placed) (rest : List ℕ) → IsSoundUpTo text placed rest → Begin placed
begin-of text placed rest sound = record {
  whole = sound.whole;
  front = sound.front;
  more = sound.more;
  slots = sound.slots;
  same = sound.same;
  bounds = sound.bounds;
}

kind : (text : List ℕ) (line : ℕ) (which : SyntaxCode) → SyntaxFault text line which → Kind text line which
kind text line which (large is) = too_large is
kind text line which (empty is) = nothing is
kind text line which (unended size some open_end) = unclosed size some open_end
kind text line which (no_token byte rest placed gap size lined sound before shown) =
    let first : IsShown (byte ∷ rest) = record { byte = byte; more = rest; whole = refl; no_blank = shown.shown; no_comment = shown.comment } in
    let stop : Stops (gap ++ byte ∷ rest) (newlines gap) = record {
      gap = gap;
      byte = byte;
      more = rest;
      whole = refl;
      is_gap = before;
      stuck = shown-stuck (byte ∷ rest) first;
      lines_are = refl;
    } in
    inside size lined (record {
      placed = placed;
      rest = gap ++ byte ∷ rest;
      tokens = sound.tokens;
      begin = begin-of text placed (gap ++ byte ∷ rest) sound;
      fault = stops (newlines gap) stop (laws.no_token byte rest gap refl before shown);
    })
kind text line which (bad_comment byte rest words placed gap size lined sound broken) =
    let stop : Stops (gap ++ 0x23 ∷ (words ++ byte ∷ rest)) (newlines gap) = record {
      gap = gap;
      byte = 0x23;
      more = words ++ byte ∷ rest;
      whole = refl;
      is_gap = broken.before;
      stuck = broken-stuck words rest byte broken.good broken.bad;
      lines_are = refl;
    } in
    inside size lined (record {
      placed = placed;
      rest = gap ++ 0x23 ∷ (words ++ byte ∷ rest);
      tokens = sound.tokens;
      begin = begin-of text placed (gap ++ 0x23 ∷ (words ++ byte ∷ rest)) sound;
      fault = stops (newlines gap) stop (laws.bad_comment byte rest words gap refl broken);
    })
kind text line which (bad_token placed next rest behind size lined sound longer has) =
    inside size lined (record { placed = placed; rest = rest; tokens = sound.tokens; begin = begin-of text placed rest sound; fault = coded next behind longer has })
kind text line which (early placed rest size lined sound gap none) =
    inside size lined (record { placed = placed; rest = rest; tokens = sound.tokens; begin = begin-of text placed rest sound; fault = ends gap none })

-- where no token begins what is left, no reading is longer
not-past : (text rest rest' : List ℕ) (placed others : List Placed) → Tokens text 1 placed rest → HasNoFirst rest → Tokens text 1 others rest' → length placed < length others → ⊥
not-past text rest rest' placed others tokens none other longer =
    let (more, same) = none-follows text rest rest' 1 placed others tokens none other in
    omega (arith, longer, ap length same, length-append others more)

one-more : (placed : List Placed) (next : Placed) → length (placed ++ next ∷ []) ≡ length placed + 1
one-more placed next = length-append placed (next ∷ [])

-- a program that begins with more tokens has no fault there
not-longer : (text rest rest' : List ℕ) (placed others : List Placed) (line : ℕ) (which : SyntaxCode) → Behind text placed rest line which → Tokens text 1 placed rest
    → Tokens text 1 others rest' → Begin others → length placed < length others → ⊥
not-longer text rest rest' placed others line which (stops lines stop none) tokens other begin longer = not-past text rest rest' placed others tokens none other longer
not-longer text rest rest' placed others line which (ends gap none) tokens other begin longer = not-past text rest rest' placed others tokens (laws.only_gap gap) other longer
not-longer text rest rest' placed others line which (coded next behind whole has) tokens other begin longer =
    let (more, same, after) = tokens-one text behind rest' 1 (placed ++ next ∷ []) others whole other (omega (arith, longer, one-more placed next)) in
    passed-have-no-code placed next more _ (subst Begin (same ∙ append-one placed next more) begin) has

-- two readings with equally many tokens are one
same-by : (placed others more : List Placed) (rest rest' : List ℕ) (line : ℕ) → others ≡ placed ++ more → Tokens rest line more rest' → length placed ≡ length others
    → (placed ≡ others) × (rest ≡ rest')
same-by placed others [] rest rest' line same tokens sizes = (sym (same ∙ append-none placed), tokens)
same-by placed others (there ∷ more) rest rest' line same tokens sizes =
    let size : length others ≡ length placed + length (there ∷ more) = ap length same ∙ length-append placed (there ∷ more) in
    absurd (omega (arith, size, sizes))

same-reading : (text rest rest' : List ℕ) (placed others : List Placed) → Tokens text 1 placed rest → Tokens text 1 others rest' → length placed ≡ length others
    → (placed ≡ others) × (rest ≡ rest')
same-reading text rest rest' placed others tokens other sizes =
    let (more, same, after) = tokens-one text rest rest' 1 placed others tokens other (omega (arith, sizes)) in
    same-by placed others more rest rest' (line_behind 1 placed) same after sizes

-- one code applies to a token
code-one : (before : List Token) (next : Token) (which other : SyntaxCode) → HasCode before next which → HasCode before next other → which ≡ other
code-one before next which other (long a) (long b) = refl
code-one before next which other (long a) (deep s b) = absurd (s a)
code-one before next which other (long a) (many s d b) = absurd (s a)
code-one before next which other (long a) (expected s d m b) = absurd (s a)
code-one before next which other (deep s a) (long b) = absurd (s b)
code-one before next which other (deep s a) (deep t b) = refl
code-one before next which other (deep s a) (many t d b) = absurd (d a)
code-one before next which other (deep s a) (expected t d m b) = absurd (d a)
code-one before next which other (many s d a) (long b) = absurd (s b)
code-one before next which other (many s d a) (deep t b) = absurd (d b)
code-one before next which other (many s d a) (many t e b) = refl
code-one before next which other (many s d a) (expected t e m b) = absurd (m a)
code-one before next which other (expected s d m a) (long b) = absurd (s b)
code-one before next which other (expected s d m a) (deep t b) = absurd (d b)
code-one before next which other (expected s d m a) (many t e b) = absurd (m b)
code-one before next which other (expected s d m a) (expected t e n b) = refl

last-one : (placed : List Placed) (next there : Placed) (more : List Placed) → placed ++ there ∷ [] ≡ (placed ++ next ∷ []) ++ more → next ≡ there
last-one [] next there more same = cc
last-one (first ∷ placed) next there more same = last-one placed next there more (cc)

next-one : (text behind behind' : List ℕ) (placed : List Placed) (next there : Placed) → Tokens text 1 (placed ++ next ∷ []) behind → Tokens text 1 (placed ++ there ∷ []) behind' → next ≡ there
next-one text behind behind' placed next there tokens other =
    let (more, same, after) = tokens-one text behind behind' 1 (placed ++ next ∷ []) (placed ++ there ∷ []) tokens other (omega (arith, one-more placed next, one-more placed there)) in
    last-one placed next there more same

-- behind the same tokens there is one fault
behind-one : (text rest : List ℕ) (placed : List Placed) (line other : ℕ) (which another : SyntaxCode) → Tokens text 1 placed rest → Behind text placed rest line which → Behind text placed rest other another
    → (line ≡ other) × (which ≡ another)
behind-one text rest placed line other which another tokens (stops lines stop none) (stops lines' stop' none') =
    (ap (λ n. line_behind 1 placed + n) (stops-once rest lines lines' stop stop'), refl)
behind-one text rest placed line other which another tokens (stops lines stop none) (coded next behind whole has) =
    absurd (not-past text rest behind placed (placed ++ next ∷ []) tokens none whole (omega (arith, one-more placed next)))
behind-one text rest placed line other which another tokens (stops lines stop none) (ends gap early_end) = absurd (not-ended rest lines stop gap)
behind-one text rest placed line other which another tokens (coded next behind whole has) (stops lines stop none) =
    absurd (not-past text rest behind placed (placed ++ next ∷ []) tokens none whole (omega (arith, one-more placed next)))
behind-one text rest placed line other which another tokens (coded next behind whole has) (coded there behind' whole' has') =
    let same : next ≡ there = next-one text behind behind' placed next there whole whole' in
    let P : Placed → Type 0 = λ it. HasCode (tokens_of placed) it.token which in
    (ap (λ it. it.line) same, code-one (tokens_of placed) there.token _ _ (subst P same has) has')
behind-one text rest placed line other which another tokens (coded next behind whole has) (ends gap early_end) =
    absurd (not-past text rest behind placed (placed ++ next ∷ []) tokens (laws.only_gap gap) whole (omega (arith, one-more placed next)))
behind-one text rest placed line other which another tokens (ends gap early_end) (stops lines stop none) = absurd (not-ended rest lines stop gap)
behind-one text rest placed line other which another tokens (ends gap early_end) (coded next behind whole has) =
    absurd (not-past text rest behind placed (placed ++ next ∷ []) tokens (laws.only_gap gap) whole (omega (arith, one-more placed next)))
behind-one text rest placed line other which another tokens (ends gap early_end) (ends gap' early_end') = (refl, refl)

data Compared (m n : ℕ) : Type 0 where
  less : m < n → Compared m n
  equal : m ≡ n → Compared m n
  more : n < m → Compared m n

compared : (m n : ℕ) → Compared m n
compared m n =
    elim (cases_lt m n) [
      | inl below ↦ less below
      | inr above ↦ elim (cases_lt n m) [ inl below ↦ more below | inr over ↦ equal (omega arith) ]
    ]

inside-so : (text : List ℕ) (line other : ℕ) (which another : SyntaxCode) (first : Inside text line which) (second : Inside text other another)
    → Compared (length first.placed) (length second.placed) → (line ≡ other) × (which ≡ another)
inside-so text line other which another first second (less below) =
    absurd (not-longer text first.rest second.rest first.placed second.placed line which first.fault first.tokens second.tokens second.begin below)
inside-so text line other which another first second (more above) =
    absurd (not-longer text second.rest first.rest second.placed first.placed other another second.fault second.tokens first.tokens first.begin above)
inside-so text line other which another first second (equal sizes) =
    let (placed, rest) = same-reading text first.rest second.rest first.placed second.placed first.tokens second.tokens sizes in
    let P : List Placed → Type 0 = λ it. Behind text it second.rest other another in
    let Q : List ℕ → Type 0 = λ it. Behind text first.placed it other another in
    behind-one text first.rest first.placed line other which another first.tokens first.fault (subst Q (sym rest) (subst P (sym placed) second.fault))

no-line : (text : List ℕ) → EndsLine text → text ≡ [] → ⊥
no-line text (front, is) none =
    let size : length text ≡ length front + 1 = ap length is ∙ length-append front (newline ∷ []) in
    let zero_size : length text ≡ 0 = ap length none in
    omega (arith, size, zero_size)

kinds-one : (text : List ℕ) (line other : ℕ) (which another : SyntaxCode) → Kind text line which → Kind text other another → (line ≡ other) × (which ≡ another)
kinds-one text line other which another (too_large a) (too_large b) = (refl, refl)
kinds-one text line other which another (too_large a) (nothing b) = absurd (omega (arith, a, ap length b))
kinds-one text line other which another (too_large a) (unclosed size b c) = absurd (omega (arith, a, size))
kinds-one text line other which another (too_large a) (inside size b c) = absurd (omega (arith, a, size))
kinds-one text line other which another (nothing a) (too_large b) = absurd (omega (arith, b, ap length a))
kinds-one text line other which another (nothing a) (nothing b) = (refl, refl)
kinds-one text line other which another (nothing a) (unclosed size b c) = absurd (omega (arith, b, ap length a))
kinds-one text line other which another (nothing a) (inside size b c) = absurd (no-line text b a)
kinds-one text line other which another (unclosed size a c) (too_large b) = absurd (omega (arith, b, size))
kinds-one text line other which another (unclosed size a c) (nothing b) = absurd (omega (arith, a, ap length b))
kinds-one text line other which another (unclosed size a c) (unclosed size' b d) = (refl, refl)
kinds-one text line other which another (unclosed size a c) (inside size' b d) = absurd (c b)
kinds-one text line other which another (inside size a c) (too_large b) = absurd (omega (arith, b, size))
kinds-one text line other which another (inside size a c) (nothing b) = absurd (no-line text a b)
kinds-one text line other which another (inside size a c) (unclosed size' b d) = absurd (d a)
kinds-one text line other which another (inside size a c) (inside size' b d) =
    inside-so text line other which another c d (compared (length c.placed) (length d.placed))

pub one-fault : TextsHaveOneFault
one-fault text line other which another first second = kinds-one text line other which another (kind text line which first) (kind text other another second)

-- a text that spells a program
begin-all : (text : List ℕ) (program : Program) (lines : List ℕ) (spelled : SpellsAt text program lines) → Begin spelled.reading.placed
begin-all text program lines spelled = record {
  whole = spelled.reading.whole;
  front = program_slots spelled.reading.whole;
  more = [];
  slots = sym (append-nil (program_slots spelled.reading.whole));
  same = spelled.reading.sentence;
  bounds = spelled.reading.bounds;
}

spelled-behind : (text rest : List ℕ) (placed : List Placed) (line : ℕ) (which : SyntaxCode) (whole : Whole) → Behind text placed rest line which → Tokens text 1 placed rest
    → IsGap rest → program_tokens whole ≡ tokens_of placed → ⊥
spelled-behind text rest placed line which whole (stops lines stop none) tokens gap sentence = not-ended rest lines stop gap
spelled-behind text rest placed line which whole (coded next behind longer has) tokens gap sentence =
    not-past text rest behind placed (placed ++ next ∷ []) tokens (laws.only_gap gap) longer (omega (arith, one-more placed next))
spelled-behind text rest placed line which whole (ends is none) tokens gap sentence = none whole sentence

spelled-so : (text : List ℕ) (line : ℕ) (which : SyntaxCode) (program : Program) (lines : List ℕ) (fault : Inside text line which) (spelled : SpellsAt text program lines)
    → Compared (length fault.placed) (length spelled.reading.placed) → ⊥
spelled-so text line which program lines fault spelled (less below) =
    not-longer text fault.rest spelled.reading.last fault.placed spelled.reading.placed line which fault.fault fault.tokens spelled.reading.tokens (begin-all text program lines spelled) below
spelled-so text line which program lines fault spelled (more above) =
    not-past text spelled.reading.last fault.rest spelled.reading.placed fault.placed spelled.reading.tokens (laws.only_gap spelled.reading.gap) fault.tokens above
spelled-so text line which program lines fault spelled (equal sizes) =
    let (placed, rest) = same-reading text fault.rest spelled.reading.last fault.placed spelled.reading.placed fault.tokens spelled.reading.tokens sizes in
    spelled-behind text fault.rest fault.placed line which spelled.reading.whole fault.fault fault.tokens (subst IsGap (sym rest) spelled.reading.gap)
    (spelled.reading.sentence ∙ ap tokens_of (sym placed))

spells-none : (text : List ℕ) (line : ℕ) (which : SyntaxCode) (program : Program) (lines : List ℕ) → Kind text line which → SpellsAt text program lines → ⊥
spells-none text line which program lines (too_large a) spelled = omega (arith, a, spelled.reading.size)
spells-none text line which program lines (nothing a) spelled = no-line text spelled.reading.ends a
spells-none text line which program lines (unclosed size some open_end) spelled = open_end spelled.reading.ends
spells-none text line which program lines (inside size lined fault) spelled =
    spelled-so text line which program lines fault spelled (compared (length fault.placed) (length spelled.reading.placed))

pub faulty-spells-none : FaultyTextsSpellNone
faulty-spells-none text line which program lines fault spelled = spells-none text line which program lines (kind text line which fault) spelled
