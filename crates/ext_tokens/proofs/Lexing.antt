-- What is read at the front of a text, class by class.
use Rattle.std.proofs.Common.{◌≡◌, ℕ, ◌+◌, ◌-◌, ◌*◌, ◌<◌, ◌≤◌, ◌^◌, true, false, List, [], ◌∷◌, ◌++◌, length, take, drop, Some, None, refl, sym, ap, ◌∙◌, subst, inl, inr, arith, append_assoc, length-append, suc, get_or, drop-cons}
use Rattle.std.proofs.lemmas.Bool.{cases_Bool}
use Rattle.std.proofs.lemmas.List.Folds.{length-prefix_len}
use Rattle.std.proofs.lemmas.Slice.Eq.{bytes_eq-Decides}
use Rattle.std.specs.List.{prefix_len}
use Rattle.std.specs.Str.{bytes_eq}
use Rattle.ext_mean.specs.declared.token.Word.{Word}
use Rattle.ext_mean.specs.declared.token.Token.{Token}
use Rattle.ext_mean.specs.declared.token.Token.TheVariants as token
use Rattle.ext_mean.specs.Tokens.{letters, is_name_byte, is_digit, is_numeral, begins_word, hex_digit, escaped, IsName, IsInner, IsSpelling, digits_from}
use Rattle.ext_mean.specs.Bounds.{IsTooLong}
use Rattle.ext_tokens.specs.declared.words.TheConstants.{WORDS}
use Rattle.ext_tokens.specs.declared.lexeme.Class.TheVariants as kind
use Rattle.ext_tokens.specs.declared.lexeme.Lexeme.TheVariants as lexeme
use Rattle.ext_tokens.specs.Words.{word_among}
use Rattle.ext_tokens.specs.Symbols.{NoDouble, IsDouble}
use Rattle.ext_tokens.specs.Strings.{IsItem, BeginsByItem, IsClosed}
use Rattle.ext_tokens.specs.Lexemes.{class_of, byte_class, front_class, BeginsBy, BeginsByNone, IsLexeme}
use Rattle.ext_tokens.proofs.Spellings.{word-known, spelling-front}
use Rattle.ext_tokens.proofs.Items.{inner-more}
use Rattle.ext_tokens.proofs.Slices.{three-of}
use Rattle.ext_tokens.proofs.Begins.{word-begins, front-name, number-begins, number-none, string-begins, string-none, double-begins, single-begins}

-- Words and names.

word-found : (words : List Word) (bytes : List ℕ) (which : Word) → word_among words bytes ≡ Some which → letters which ≡ bytes
word-found [] bytes which found = absurd cc
word-found (word ∷ words) bytes which found =
    elim (cases_Bool (bytes_eq (letters word) bytes)) [
      | inl same ↦ (let one : Some word ≡ Some which = (rw same at found) in
          let words : word ≡ which = cc in
          ap letters (sym words) ∙ (bytes_eq-Decides (letters word) bytes).0 same)
      | inr other ↦ word-found words bytes which (rw other at found)
    ]

pub word-lexeme : (text : List ℕ) (size : ℕ) (which : Word) → front_class text ≡ Some kind.Word → size ≡ prefix_len is_name_byte text
    → Some which ≡ word_among WORDS (take size text) → IsLexeme text (lexeme.Token (token.Word which) size)
word-lexeme text size which front size-is found =
    let spelled : take (prefix_len is_name_byte text) text ≡ letters which =
    ap (λ n. take n text) (sym size-is) ∙ sym (word-found WORDS (take size text) which (sym found)) in (
      (
        take (prefix_len is_name_byte text) text,
        drop (prefix_len is_name_byte text) text,
        word-begins text (token.Word which) front refl spelled,
        size-is ∙ sym (length-prefix_len is_name_byte text),
      ),
      λ long. long,
    )

own-name : (text : List ℕ) → front_class text ≡ Some kind.Word → word_among WORDS (take (prefix_len is_name_byte text) text) ≡ None
    → IsName (take (prefix_len is_name_byte text) text)
own-name text front missing = record {
  form = front-name text front;
  free = λ which is.
      let found : word_among WORDS (take (prefix_len is_name_byte text) text) ≡ Some which =
      ap (word_among WORDS) is ∙ (word-known which).1 in
      cc;
}

name-begins : (text : List ℕ) (size : ℕ) → front_class text ≡ Some kind.Word → size ≡ prefix_len is_name_byte text
    → None ≡ word_among WORDS (take size text) → BeginsBy text (token.Name (take size text)) size
name-begins text size front size-is missing =
    let P : ℕ → Type 0 = λ n. BeginsBy text (token.Name (take n text)) n in
    let missing' : word_among WORDS (take (prefix_len is_name_byte text) text) ≡ None =
    ap (λ n. word_among WORDS (take n text)) (sym size-is) ∙ sym missing in
    let name = take (prefix_len is_name_byte text) text in
    subst P (sym size-is) (
      name,
      drop (prefix_len is_name_byte text) text,
      word-begins text (token.Name name) front refl (own-name text front missing', refl),
      sym (length-prefix_len is_name_byte text),
    )

pub name-lexeme : (text : List ℕ) (size : ℕ) (name : List ℕ) → front_class text ≡ Some kind.Word → size ≡ prefix_len is_name_byte text
    → None ≡ word_among WORDS (take size text) → name ≡ take size text → size ≤ 32
    → IsLexeme text (lexeme.Token (token.Name name) size)
name-lexeme text size name front size-is missing name-is short =
    let P : List ℕ → Type 0 = λ bytes. IsLexeme text (lexeme.Token (token.Name bytes) size) in
    let width : length (take size text) ≡ size = ap (λ n. length (take n text)) size-is ∙ length-prefix_len is_name_byte text ∙ sym size-is in
    subst P (sym name-is) (name-begins text size front size-is missing, λ long. omega arith)

pub name-long : (text : List ℕ) (size : ℕ) → front_class text ≡ Some kind.Word → size ≡ prefix_len is_name_byte text
    → None ≡ word_among WORDS (take size text) → 32 < size → IsLexeme text lexeme.TooLong
name-long text size front size-is missing long =
    let width : length (take size text) ≡ size = ap (λ n. length (take n text)) size-is ∙ length-prefix_len is_name_byte text ∙ sym size-is in
    let over : 32 < length (take size text) = omega arith in
    (token.Name (take size text), size, name-begins text size front size-is missing, over)

-- Numbers.

number-by : (text : List ℕ) (size : ℕ) → front_class text ≡ Some kind.Number → size ≡ prefix_len is_digit text
    → is_numeral (take size text) ≡ true → begins_word (drop size text) ≡ false
    → BeginsBy text (token.Number (digits_from 0 (take size text))) size
number-by text size front size-is numeral apart =
    let P : ℕ → Type 0 = λ n. BeginsBy text (token.Number (digits_from 0 (take n text))) n in
    let numeral' : is_numeral (take (prefix_len is_digit text) text) ≡ true = ap (λ n. is_numeral (take n text)) (sym size-is) ∙ numeral in
    let apart' : begins_word (drop (prefix_len is_digit text) text) ≡ false = ap (λ n. begins_word (drop n text)) (sym size-is) ∙ apart in
    subst P (sym size-is) (
      take (prefix_len is_digit text) text,
      drop (prefix_len is_digit text) text,
      number-begins text front numeral' apart',
      sym (length-prefix_len is_digit text),
    )

pub number-lexeme : (text : List ℕ) (size value : ℕ) → front_class text ≡ Some kind.Number → size ≡ prefix_len is_digit text
    → is_numeral (take size text) ≡ true → begins_word (drop size text) ≡ false
    → value ≡ digits_from 0 (take size text) → value < 2 ^ 64 → IsLexeme text (lexeme.Token (token.Number value) size)
number-lexeme text size value front size-is numeral apart value-is short =
    let P : ℕ → Type 0 = λ n. BeginsBy text (token.Number n) size in
    (subst P (sym value-is) (number-by text size front size-is numeral apart), λ long. omega arith)

pub number-long : (text : List ℕ) (size : ℕ) → front_class text ≡ Some kind.Number → size ≡ prefix_len is_digit text
    → is_numeral (take size text) ≡ true → begins_word (drop size text) ≡ false
    → 2 ^ 64 ≤ digits_from 0 (take size text) → IsLexeme text lexeme.TooLong
number-long text size front size-is numeral apart long =
    (token.Number (digits_from 0 (take size text)), size, number-by text size front size-is numeral apart, long)

pub number-nothing : (text : List ℕ) (size : ℕ) → front_class text ≡ Some kind.Number → size ≡ prefix_len is_digit text
    → (is_numeral (take size text) ≡ true → begins_word (drop size text) ≡ false → ⊥) → BeginsByNone text
number-nothing text size front size-is none =
    number-none text front (λ numeral apart.
    none (ap (λ n. is_numeral (take n text)) size-is ∙ numeral) (ap (λ n. begins_word (drop n text)) size-is ∙ apart))

-- a number does not grow smaller by further digits
pub digits-grow : (before : ℕ) (digits : List ℕ) → before ≤ digits_from before digits
digits-grow before [] = omega arith
digits-grow before (digit ∷ digits) =
    let more : before * 10 + (digit - 0x30) ≤ digits_from (before * 10 + (digit - 0x30)) digits =
    digits-grow (before * 10 + (digit - 0x30)) digits in
    omega arith

pub digits-over : (value at limit : ℕ) (digits : List ℕ) → at < length digits → limit ≤ value * 10 + (get_or digits at 0 - 0x30)
    → digits_from value (drop at digits) ≡ digits_from 0 digits → limit ≤ digits_from 0 digits
digits-over value at limit digits below over same =
    let next : drop at digits ≡ get_or digits at 0 ∷ drop (suc at) digits = drop-cons digits at 0 below in
    let whole : digits_from (value * 10 + (get_or digits at 0 - 0x30)) (drop (suc at) digits) ≡ digits_from 0 digits =
    sym (ap (digits_from value) next) ∙ same in
    let grow = digits-grow (value * 10 + (get_or digits at 0 - 0x30)) (drop (suc at) digits) in
    omega arith

-- Byte strings.

pub item-some : (bytes : List ℕ) (item : ℕ) → IsItem bytes item → 0 < length bytes
item-some bytes item (inl (plain, e)) = omega (arith, ap length e)
item-some bytes item (inr (high, low, h, l, is, e)) = omega (arith, ap length e)

-- an item that is written by its digits, behind its `\`
pub escaped-begins : (bytes : List ℕ) (high low : ℕ) → 3 ≤ length bytes → get_or bytes 0 0 ≡ 0x78
    → high < 16 → low < 16 → get_or bytes 1 0 ≡ hex_digit high → get_or bytes 2 0 ≡ hex_digit low
    → BeginsByItem (0x5c ∷ bytes) (16 * high + low) (take (length bytes - 3) (drop 3 bytes))
escaped-begins bytes high low some mark h l upper lower =
    let rest = take (length bytes - 3) (drop 3 bytes) in
    let whole : bytes ≡ 0x78 ∷ hex_digit high ∷ hex_digit low ∷ rest =
    three-of bytes some ∙ ap (λ x. x ∷ get_or bytes 1 0 ∷ get_or bytes 2 0 ∷ rest) mark
    ∙ ap (λ x. 0x78 ∷ x ∷ get_or bytes 2 0 ∷ rest) upper ∙ ap (λ x. 0x78 ∷ hex_digit high ∷ x ∷ rest) lower in
    (escaped high low, inr (high, low, h, l, refl, refl), ap (λ x. 0x5c ∷ x) whole)

-- the front of a string that was read, and what is left of it
abbrev pub IsRead : List ℕ → List ℕ → List ℕ → Type 0
IsRead inner items rest = (parsed : List ℕ) × IsInner parsed items × (inner ≡ parsed ++ rest)

pub read-more : (inner items rest behind : List ℕ) (item : ℕ) → IsRead inner items rest → BeginsByItem rest item behind
    → IsRead inner (items ++ item ∷ []) behind
read-more inner items rest behind item (parsed, inside, e) (bytes, one, e') = (
  parsed ++ bytes,
  inner-more parsed items bytes item inside one,
  e ∙ ap (λ x. parsed ++ x) e' ∙ sym (append_assoc parsed bytes behind),
)

pub item-shorter : (rest behind : List ℕ) (item : ℕ) → BeginsByItem rest item behind → length behind < length rest
item-shorter rest behind item (bytes, one, e) =
    let some : 0 < length bytes = item-some bytes item one in
    omega (arith, ap length e, length-append bytes behind)

pub read-size : (inner items rest : List ℕ) → IsRead inner items rest → length rest ≤ length inner
read-size inner items rest (parsed, inside, e) = omega (arith, ap length e, length-append parsed rest)

pub string-lexeme : (inner items rest : List ℕ) (size : ℕ) → IsRead inner items rest → IsClosed rest
    → size + length rest ≡ length inner + 2 → IsLexeme (0x22 ∷ inner) (lexeme.Token (token.Str items) size)
string-lexeme inner items rest size (parsed, inside, e) (behind, closed) size-is =
    let whole : 0x22 ∷ inner ≡ 0x22 ∷ (parsed ++ 0x22 ∷ behind) =
    ap (λ x. 0x22 ∷ x) (e ∙ ap (λ x. parsed ++ x) closed) in
    let width : size ≡ length (0x22 ∷ parsed ++ 0x22 ∷ []) =
    omega (arith, ap length e, ap length closed, length-append parsed rest, length-append parsed (0x22 ∷ [])) in
    ((0x22 ∷ parsed ++ 0x22 ∷ [], behind, string-begins (0x22 ∷ inner) parsed items behind whole inside, width), λ long. long)

pub string-nothing : (inner items rest : List ℕ) → IsRead inner items rest
    → ((item : ℕ) (more : List ℕ) → BeginsByItem rest item more → ⊥) → (IsClosed rest → ⊥) → BeginsByNone (0x22 ∷ inner)
string-nothing inner items rest (parsed, inside, e) unread unclosed =
    string-none (0x22 ∷ inner) parsed items rest (ap (λ x. 0x22 ∷ x) e) inside unread (λ more is. unclosed (more, is))

-- Symbols.

symbol-short : (which : Token) → class_of which ≡ kind.Symbol → IsTooLong which → ⊥
symbol-short (token.Word word) is long = long
symbol-short (token.Name name) is long = cc
symbol-short (token.Number number) is long = cc
symbol-short (token.Str items) is long = long
symbol-short (token.Mark mark) is long = long
symbol-short token.Not is long = long
symbol-short (token.Binary operator) is long = long

symbol-class : (first : ℕ) (rest : List ℕ) (which : Token) → byte_class first ≡ kind.Symbol → IsSpelling (first ∷ rest) which → class_of which ≡ kind.Symbol
symbol-class first rest which class spelled =
    let own : Some (byte_class first) ≡ Some (class_of which) = spelling-front which (first ∷ rest) spelled in
    cc

pub symbol-two : (first : ℕ) (rest : List ℕ) (which : Token) → byte_class first ≡ kind.Symbol → IsDouble first rest which
    → IsLexeme (first ∷ rest) (lexeme.Token which 2)
symbol-two first rest which class (second, behind, is, spelled) =
    let P : List ℕ → Type 0 = λ more. BeginsBy (first ∷ more) which 2 in (
      subst P (sym is) (first ∷ second ∷ [], behind, double-begins first second behind which class spelled, refl),
      symbol-short which (symbol-class first (second ∷ []) which class spelled),
    )

pub symbol-one : (first : ℕ) (rest : List ℕ) (which : Token) → byte_class first ≡ kind.Symbol → NoDouble first rest
    → IsSpelling (first ∷ []) which → IsLexeme (first ∷ rest) (lexeme.Token which 1)
symbol-one first rest which class none spelled = (
  (first ∷ [], rest, single-begins first rest which class none spelled, refl),
  symbol-short which (symbol-class first [] which class spelled),
)
