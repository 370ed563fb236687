-- Which token begins a text, by the class of its first byte.
use Rattle.std.proofs.Common.{◌≡◌, ℕ, suc, ◌+◌, ◌≤◌, Bool, true, false, cond, List, [], ◌∷◌, ◌++◌, length, take, drop, Some, None, refl, sym, ap, ◌∙◌, subst, arith, append_assoc}
use Rattle.std.proofs.lemmas.Bool.{and_from, or_parts}
use Rattle.std.proofs.lemmas.List.Folds.{length-prefix_len}
use Rattle.std.proofs.lemmas.List.{take-append-drop}
use Rattle.std.proofs.Math.Seq.{take-append_seam, drop-append_seam}
use Rattle.std.specs.List.{prefix_len}
use Rattle.std.specs.Prelude.{◌==◌}
use Rattle.ext_mean.specs.declared.token.Token.{Token}
use Rattle.ext_mean.specs.declared.token.Token.TheVariants as token
use Rattle.ext_mean.specs.declared.token.Word.{Word}
use Rattle.ext_mean.specs.Tokens.{letters, has_name_form, is_name_byte, is_lower, is_digit, is_numeral, begins_word, IsName, IsInner, IsSpelling, StandsApart, BeginsWith, digits_from}
use Rattle.ext_tokens.specs.Words.{word_among}
use Rattle.ext_tokens.specs.Symbols.{symbol_of, double_symbol, single_symbol, NoDouble}
use Rattle.ext_tokens.specs.Strings.{BeginsByItem}
use Rattle.ext_tokens.specs.declared.lexeme.Class.{Class}
use Rattle.ext_tokens.specs.declared.lexeme.Class.TheVariants as kind
use Rattle.ext_tokens.specs.Lexemes.{class_of, byte_class, front_class, BeginsByNone}
use Rattle.ext_tokens.specs.declared.words.TheConstants.{WORDS}
use Rattle.ext_tokens.proofs.Fronts.{fronts-one, passing-within, passing-all, front-passes}
use Rattle.ext_tokens.proofs.Spellings.{word-known, lower-name, name-bytes, spelling-front, word-form, number-form, string-form, symbol-form, numeral-digits}
use Rattle.ext_tokens.proofs.Items.{inner-one, inner-unclosed}

-- the class of what spells a front of the text
front-longer : (front rest : List ℕ) (which : Class) → front_class front ≡ Some which → front_class (front ++ rest) ≡ Some which
front-longer [] rest which is = cc
front-longer (byte ∷ front) rest which is = is

class-same : (text : List ℕ) (which : Class) (bytes behind : List ℕ) (other : Token) → front_class text ≡ Some which
    → IsSpelling bytes other → text ≡ bytes ++ behind → class_of other ≡ which
class-same text which bytes behind other front spelled whole =
    let own : front_class text ≡ Some (class_of other) =
    ap front_class whole ∙ front-longer bytes behind (class_of other) (spelling-front other bytes spelled) in
    cc

-- nothing begins the empty text
front-filled : (bytes behind : List ℕ) (which : Class) → front_class bytes ≡ Some which → [] ≡ bytes ++ behind → ⊥
front-filled [] behind which front same = cc
front-filled (byte ∷ bytes) behind which front same = cc

pub empty-none : BeginsByNone []
empty-none bytes behind first begins = front-filled bytes behind (class_of first) (spelling-front first bytes begins.spelled) begins.whole

-- Words and names.

tests-lower : (quote lower digit : Bool) → cond quote kind.Str (cond lower kind.Word (cond digit kind.Number kind.Symbol)) ≡ kind.Word → lower ≡ true
tests-lower true lower digit class = absurd cc
tests-lower false true digit class = refl
tests-lower false false true class = absurd cc
tests-lower false false false class = absurd cc

class-lower : (byte : ℕ) → byte_class byte ≡ kind.Word → is_lower byte ≡ true
class-lower byte class = tests-lower (byte == 0x22) (is_lower byte) (is_digit byte) class

word-apart : (which : Token) (rest : List ℕ) → class_of which ≡ kind.Word → StandsApart which rest
word-apart (token.Word word) rest is = tt
word-apart (token.Name name) rest is = tt
word-apart (token.Number number) rest is = absurd cc
word-apart (token.Str items) rest is = tt
word-apart (token.Mark mark) rest is = tt
word-apart token.Not rest is = tt
word-apart (token.Binary operator) rest is = tt

pub word-begins : (text : List ℕ) (which : Token) → front_class text ≡ Some kind.Word → class_of which ≡ kind.Word
    → IsSpelling (take (prefix_len is_name_byte text) text) which
    → BeginsWith text (take (prefix_len is_name_byte text) text) which (drop (prefix_len is_name_byte text) text)
word-begins text which front is spelled = record {
  spelled = spelled;
  whole = sym (take-append-drop (prefix_len is_name_byte text) text);
  longest = λ longer more other spelled' whole'.
      let class = class-same text kind.Word longer more other front spelled' whole' in
      let form = word-form other longer class spelled' in
      let within = passing-within is_name_byte longer more (name-bytes longer form) in
      let size : length longer ≤ prefix_len is_name_byte text = rw whole' within in
      rw (length-prefix_len is_name_byte text) size;
  apart = word-apart which _ is;
}

-- the name bytes at the front have the form of a name
pub front-name : (text : List ℕ) → front_class text ≡ Some kind.Word → has_name_form (take (prefix_len is_name_byte text) text) ≡ true
front-name [] front = absurd cc
front-name (byte ∷ text) front =
    let lower : is_lower byte ≡ true = class-lower byte cc in
    let next : 1 + prefix_len is_name_byte text ≡ suc (prefix_len is_name_byte text) = omega arith in
    rw (lower-name byte lower, next) (and_from _ _ lower (front-passes is_name_byte text))

-- Numbers.

pub number-begins : (text : List ℕ) → front_class text ≡ Some kind.Number
    → is_numeral (take (prefix_len is_digit text) text) ≡ true → begins_word (drop (prefix_len is_digit text) text) ≡ false
    → BeginsWith text (take (prefix_len is_digit text) text)
    (token.Number (digits_from 0 (take (prefix_len is_digit text) text))) (drop (prefix_len is_digit text) text)
number-begins text front numeral apart = record {
  spelled = (numeral, refl);
  whole = sym (take-append-drop (prefix_len is_digit text) text);
  longest = λ longer more other spelled whole.
      let class = class-same text kind.Number longer more other front spelled whole in
      let form = number-form other longer class spelled in
      let within = passing-within is_digit longer more (numeral-digits longer form.0) in
      let size : length longer ≤ prefix_len is_digit text = rw whole within in
      rw (length-prefix_len is_digit text) size;
  apart = apart;
}

no-digit : (text : List ℕ) → begins_word text ≡ false → prefix_len is_digit text ≡ 0
no-digit [] apart = refl
no-digit (byte ∷ text) apart =
    let digit : is_digit byte ≡ false = (or_parts _ _ ((or_parts _ _ ((or_parts _ _ apart).0)).0)).1 in
    rw digit refl

-- a number at the front is all the digits there
pub number-none : (text : List ℕ) → front_class text ≡ Some kind.Number
    → (is_numeral (take (prefix_len is_digit text) text) ≡ true → begins_word (drop (prefix_len is_digit text) text) ≡ false → ⊥)
    → BeginsByNone text
number-none text front none bytes behind first begins =
    let class = class-same text kind.Number bytes behind first front begins.spelled begins.whole in
    let form = number-form first bytes class begins.spelled in
    let Apart : Token → Type 0 = λ which. StandsApart which behind in
    let apart : begins_word behind ≡ false = subst Apart form.1 begins.apart in
    let size : prefix_len is_digit text ≡ length bytes =
    ap (prefix_len is_digit) begins.whole ∙ passing-all is_digit bytes behind (numeral-digits bytes form.0) (no-digit behind apart) in
    let bytes-is : take (prefix_len is_digit text) text ≡ bytes = rw (size, begins.whole) (take-append_seam bytes behind) in
    let behind-is : drop (prefix_len is_digit text) text ≡ behind = rw (size, begins.whole) (drop-append_seam bytes behind) in
    none (ap is_numeral bytes-is ∙ form.0) (ap begins_word behind-is ∙ apart)

-- Byte strings.

close-string : (inner items longer more parsed behind : List ℕ) → IsInner inner items → longer ≡ 0x22 ∷ inner ++ 0x22 ∷ []
    → 0x22 ∷ (parsed ++ 0x22 ∷ behind) ≡ longer ++ more → parsed ++ 0x22 ∷ behind ≡ inner ++ 0x22 ∷ more
close-string inner items longer more parsed behind inside longer-is same =
    let e : 0x22 ∷ (parsed ++ 0x22 ∷ behind) ≡ 0x22 ∷ ((inner ++ 0x22 ∷ []) ++ more) = same ∙ ap (λ z. z ++ more) longer-is in
    let tails : parsed ++ 0x22 ∷ behind ≡ (inner ++ 0x22 ∷ []) ++ more = cc in
    tails ∙ append_assoc inner (0x22 ∷ []) more

pub string-begins : (text parsed items behind : List ℕ) → text ≡ 0x22 ∷ (parsed ++ 0x22 ∷ behind) → IsInner parsed items
    → BeginsWith text (0x22 ∷ parsed ++ 0x22 ∷ []) (token.Str items) behind
string-begins text parsed items behind text-is inside = record {
  spelled = (parsed, inside, refl);
  whole = text-is ∙ ap (λ z. 0x22 ∷ z) (sym (append_assoc parsed (0x22 ∷ []) behind));
  longest = λ longer more other spelled whole.
      let class = class-same text kind.Str longer more other (ap front_class text-is) spelled whole in
      let form = string-form other longer class spelled in
      let tails = close-string form.1 form.0 longer more parsed behind form.2 form.3 (sym text-is ∙ whole) in
      let same = inner-one parsed form.1 items form.0 behind more inside form.2 tails in
      let longer-is : longer ≡ 0x22 ∷ parsed ++ 0x22 ∷ [] = form.3 ∙ ap (λ z. 0x22 ∷ z ++ 0x22 ∷ []) (sym same.0) in
      omega (arith, ap length longer-is);
  apart = tt;
}

open-string : (inner rest longer more : List ℕ) → longer ≡ 0x22 ∷ inner ++ 0x22 ∷ []
    → 0x22 ∷ rest ≡ longer ++ more → rest ≡ inner ++ 0x22 ∷ more
open-string inner rest longer more longer-is same =
    let e : 0x22 ∷ rest ≡ 0x22 ∷ ((inner ++ 0x22 ∷ []) ++ more) = same ∙ ap (λ z. z ++ more) longer-is in
    let tails : rest ≡ (inner ++ 0x22 ∷ []) ++ more = cc in
    tails ∙ append_assoc inner (0x22 ∷ []) more

pub string-none : (text parsed items rest : List ℕ) → text ≡ 0x22 ∷ (parsed ++ rest) → IsInner parsed items
    → ((item : ℕ) (more : List ℕ) → BeginsByItem rest item more → ⊥) → ((more : List ℕ) → rest ≡ 0x22 ∷ more → ⊥)
    → BeginsByNone text
string-none text parsed items rest text-is inside unread unclosed bytes behind first begins =
    let class = class-same text kind.Str bytes behind first (ap front_class text-is) begins.spelled begins.whole in
    let form = string-form first bytes class begins.spelled in
    let tails = open-string form.1 (parsed ++ rest) bytes behind form.3 (sym text-is ∙ begins.whole) in
    inner-unclosed parsed form.1 items form.0 rest behind inside form.2 tails unread unclosed

-- Symbols.

symbol-apart : (which : Token) (rest : List ℕ) → class_of which ≡ kind.Symbol → StandsApart which rest
symbol-apart (token.Word word) rest is = tt
symbol-apart (token.Name name) rest is = tt
symbol-apart (token.Number number) rest is = absurd cc
symbol-apart (token.Str items) rest is = tt
symbol-apart (token.Mark mark) rest is = tt
symbol-apart token.Not rest is = tt
symbol-apart (token.Binary operator) rest is = tt

short-symbol : (bytes : List ℕ) (which : Token) → symbol_of bytes ≡ Some which → length bytes ≤ 2
short-symbol [] which is = omega arith
short-symbol (a ∷ []) which is = omega arith
short-symbol (a ∷ b ∷ []) which is = omega arith
short-symbol (a ∷ b ∷ c ∷ bytes) which is = absurd cc

pub double-begins : (first second : ℕ) (behind : List ℕ) (which : Token) → byte_class first ≡ kind.Symbol
    → IsSpelling (first ∷ second ∷ []) which
    → BeginsWith (first ∷ second ∷ behind) (first ∷ second ∷ []) which behind
double-begins first second behind which class spelled = record {
  spelled = spelled;
  whole = refl;
  longest = λ longer more other spelled' whole'.
      let class' = class-same (first ∷ second ∷ behind) kind.Symbol longer more other (ap Some class) spelled' whole' in
      short-symbol longer other (symbol-form other longer class' spelled');
  apart = symbol-apart which behind
      (class-same (first ∷ second ∷ behind) kind.Symbol (first ∷ second ∷ []) behind which (ap Some class) spelled refl);
}

single-longest : (first : ℕ) (rest longer more : List ℕ) (other : Token) → NoDouble first rest
    → symbol_of longer ≡ Some other → first ∷ rest ≡ longer ++ more → length longer ≤ 1
single-longest first rest [] more other none is whole = omega arith
single-longest first rest (a ∷ []) more other none is whole = omega arith
single-longest first rest (a ∷ b ∷ []) more other none is whole =
    let tail : rest ≡ b ∷ more = cc in
    let head : first ≡ a = cc in
    let empty : double_symbol first b ≡ None = none b more tail in
    let empty' : double_symbol a b ≡ None = ap (λ x. double_symbol x b) (sym head) ∙ empty in
    absurd cc
single-longest first rest (a ∷ b ∷ c ∷ longer) more other none is whole = absurd cc

pub single-begins : (first : ℕ) (rest : List ℕ) (which : Token) → byte_class first ≡ kind.Symbol → NoDouble first rest
    → IsSpelling (first ∷ []) which → BeginsWith (first ∷ rest) (first ∷ []) which rest
single-begins first rest which class none spelled = record {
  spelled = spelled;
  whole = refl;
  longest = λ longer more other spelled' whole'.
      let class' = class-same (first ∷ rest) kind.Symbol longer more other (ap Some class) spelled' whole' in
      single-longest first rest longer more other none (symbol-form other longer class' spelled') whole';
  apart = symbol-apart which rest (class-same (first ∷ rest) kind.Symbol (first ∷ []) rest which (ap Some class) spelled refl);
}

symbol-absent : (first : ℕ) (rest bytes more : List ℕ) (other : Token) → NoDouble first rest → single_symbol first ≡ None
    → symbol_of bytes ≡ Some other → first ∷ rest ≡ bytes ++ more → ⊥
symbol-absent first rest [] more other none alone is whole = cc
symbol-absent first rest (a ∷ []) more other none alone is whole =
    let head : first ≡ a = cc in
    let empty : single_symbol a ≡ None = ap single_symbol (sym head) ∙ alone in
    cc
symbol-absent first rest (a ∷ b ∷ []) more other none alone is whole =
    let tail : rest ≡ b ∷ more = cc in
    let head : first ≡ a = cc in
    let empty : double_symbol first b ≡ None = none b more tail in
    let empty' : double_symbol a b ≡ None = ap (λ x. double_symbol x b) (sym head) ∙ empty in
    cc
symbol-absent first rest (a ∷ b ∷ c ∷ bytes) more other none alone is whole = cc

pub symbol-none : (first : ℕ) (rest : List ℕ) → byte_class first ≡ kind.Symbol → NoDouble first rest → single_symbol first ≡ None
    → BeginsByNone (first ∷ rest)
symbol-none first rest class none alone bytes behind which begins =
    let class' = class-same (first ∷ rest) kind.Symbol bytes behind which (ap Some class) begins.spelled begins.whole in
    symbol-absent first rest bytes behind which none alone (symbol-form which bytes class' begins.spelled) begins.whole

-- One token begins a text.

word-letters : (bytes : List ℕ) (which : Word) (other : Token) → class_of other ≡ kind.Word → bytes ≡ letters which
    → IsSpelling bytes other → token.Word which ≡ other
word-letters bytes which (token.Word word) class is other =
    let known : word_among WORDS (letters which) ≡ Some which = (word-known which).1 in
    let known' : word_among WORDS (letters word) ≡ Some word = (word-known word).1 in
    let same : letters which ≡ letters word = sym is ∙ other in
    let found : Some which ≡ Some word = sym known ∙ ap (word_among WORDS) same ∙ known' in
    let words : which ≡ word = cc in
    ap token.Word words
word-letters bytes which (token.Name name) class is other = absurd (other.0.free which (sym other.1 ∙ is))
word-letters bytes which (token.Number number) class is other = absurd cc
word-letters bytes which (token.Str items) class is other = absurd cc
word-letters bytes which (token.Mark mark) class is other = absurd cc
word-letters bytes which token.Not class is other = absurd cc
word-letters bytes which (token.Binary operator) class is other = absurd cc

name-own : (bytes name : List ℕ) (other : Token) → class_of other ≡ kind.Word → IsName name → bytes ≡ name
    → IsSpelling bytes other → token.Name name ≡ other
name-own bytes name (token.Word word) class own is other = absurd (own.free word (sym is ∙ other))
name-own bytes name (token.Name name') class own is other = ap token.Name (sym is ∙ other.1)
name-own bytes name (token.Number number) class own is other = absurd cc
name-own bytes name (token.Str items) class own is other = absurd cc
name-own bytes name (token.Mark mark) class own is other = absurd cc
name-own bytes name token.Not class own is other = absurd cc
name-own bytes name (token.Binary operator) class own is other = absurd cc

string-own : (bytes inner items : List ℕ) (other : Token) → class_of other ≡ kind.Str → IsInner inner items
    → bytes ≡ 0x22 ∷ inner ++ 0x22 ∷ [] → IsSpelling bytes other → token.Str items ≡ other
string-own bytes inner items other class inside is spelled =
    let form = string-form other bytes class spelled in
    let whole : 0x22 ∷ (inner ++ 0x22 ∷ []) ≡ 0x22 ∷ (form.1 ++ 0x22 ∷ []) = sym is ∙ form.3 in
    let tails : inner ++ 0x22 ∷ [] ≡ form.1 ++ 0x22 ∷ [] = cc in
    let same = inner-one inner form.1 items form.0 [] [] inside form.2 tails in
    ap token.Str same.1 ∙ sym form.4

symbol-own : (bytes : List ℕ) (which other : Token) → class_of other ≡ kind.Symbol → symbol_of bytes ≡ Some which
    → IsSpelling bytes other → which ≡ other
symbol-own bytes which other class is spelled =
    let found : symbol_of bytes ≡ Some other = symbol-form other bytes class spelled in
    cc

class-one : (bytes : List ℕ) (a b : Token) → IsSpelling bytes a → IsSpelling bytes b → class_of b ≡ class_of a
class-one bytes a b one other =
    let first = spelling-front a bytes one in
    let second = spelling-front b bytes other in
    cc

pub spelling-one : (bytes : List ℕ) (a b : Token) → IsSpelling bytes a → IsSpelling bytes b → a ≡ b
spelling-one bytes (token.Word which) b one other =
    word-letters bytes which b (class-one bytes (token.Word which) b one other) one other
spelling-one bytes (token.Name name) b one other =
    name-own bytes name b (class-one bytes (token.Name name) b one other) one.0 one.1 other
spelling-one bytes (token.Number number) b one other =
    let form = number-form b bytes (class-one bytes (token.Number number) b one other) other in
    ap token.Number one.1 ∙ sym form.1
spelling-one bytes (token.Str items) b one other =
    string-own bytes one.0 items b (class-one bytes (token.Str items) b one other) one.1 one.2 other
spelling-one bytes (token.Mark mark) b one other =
    symbol-own bytes (token.Mark mark) b (class-one bytes (token.Mark mark) b one other)
    (symbol-form (token.Mark mark) bytes refl one) other
spelling-one bytes token.Not b one other =
    symbol-own bytes token.Not b (class-one bytes token.Not b one other) (symbol-form token.Not bytes refl one) other
spelling-one bytes (token.Binary operator) b one other =
    symbol-own bytes (token.Binary operator) b (class-one bytes (token.Binary operator) b one other)
    (symbol-form (token.Binary operator) bytes refl one) other

pub begins-one : (text x y behind rest : List ℕ) (a b : Token) → BeginsWith text x a behind → BeginsWith text y b rest
    → (x ≡ y) × (a ≡ b) × (behind ≡ rest)
begins-one text x y behind rest a b one other =
    let shorter : length x ≤ length y = other.longest x behind a one.spelled one.whole in
    let longer : length y ≤ length x = one.longest y rest b other.spelled other.whole in
    let size : length x ≡ length y = omega arith in
    let parts = fronts-one x y behind rest size (sym one.whole ∙ other.whole) in
    let P : List ℕ → Type 0 = λ bytes. IsSpelling bytes b in
    (parts.0, spelling-one x a b one.spelled (subst P (sym parts.0) other.spelled), parts.1)
