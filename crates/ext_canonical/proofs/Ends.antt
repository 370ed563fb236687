-- A word, a name and a number are not directly followed by a byte of a name.
use Rattle.std.specs.List.{prefix_len}
use Rattle.std.specs.Str.{bytes_eq}
use Rattle.std.proofs.Common.{◌≡◌, ℕ, ◌+◌, ◌≤◌, ◌<◌, Bool, true, false, List, [], ◌∷◌, ◌++◌, Option, Some, None, ◌⊎◌, inl, inr, length, take, drop, refl, sym, ap, ◌∙◌, arith}
use Rattle.std.proofs.lemmas.Bool.{and_parts, or_parts, cases_Bool}
use Rattle.std.proofs.lemmas.List.{take-append-drop}
use Rattle.std.proofs.lemmas.List.Folds.{length-prefix_len}
use Rattle.std.proofs.lemmas.Slice.Eq.{bytes_eq-Decides}
use Rattle.ext_mean.specs.declared.token.Token.{Token}
use Rattle.ext_mean.specs.declared.token.Token.TheVariants as token
use Rattle.ext_mean.specs.declared.token.Word.{Word}
use Rattle.ext_mean.specs.declared.token.Word.TheVariants as word
use Rattle.ext_mean.specs.Canonical.{is_wordy}
use Rattle.ext_mean.specs.Tokens.{letters, has_name_form, is_name_byte, is_numeral, all_pass, begins_word, IsName, IsSpelling, BeginsWith}
use Rattle.ext_mean.proofs.TokenEnds.{numeral-named}
use Rattle.ext_tokens.specs.declared.lexeme.Class.TheVariants as kind
use Rattle.ext_tokens.specs.Lexemes.{class_of, front_class}
use Rattle.ext_tokens.specs.Words.{word_among}
use Rattle.ext_tokens.proofs.Begins.{front-name}
use Rattle.ext_tokens.proofs.Spellings.{word-known, word-form, name-bytes, name-front}

-- whether a byte of a name comes first
abbrev pub named : List ℕ → Bool
named [] = false
named (byte ∷ bytes) = is_name_byte byte

found-or-not : (found : Option Word) → ((which : Word) × (found ≡ Some which)) ⊎ (found ≡ None)
found-or-not None = inr refl
found-or-not (Some which) = inl (which, refl)

word-found : (words : List Word) (bytes : List ℕ) (which : Word) → word_among words bytes ≡ Some which → bytes ≡ letters which
word-found [] bytes which found = absurd cc
word-found (word ∷ words) bytes which found =
    elim (cases_Bool (bytes_eq (letters word) bytes)) [
      | inl same ↦ (let one : Some word ≡ Some which = (rw same at found) in
          let words : word ≡ which = cc in
          sym ((bytes_eq-Decides (letters word) bytes).0 same) ∙ ap letters words)
      | inr other ↦ word-found words bytes which (rw other at found)
    ]

-- all words
abbrev all_words : List Word
all_words =
    word.Fn ∷ word.Let ∷ word.If ∷ word.Else ∷ word.While ∷ word.Get ∷ word.Multiget ∷ word.Some ∷ word.None ∷ word.Set ∷ word.Set8 ∷ word.Copy ∷ word.Put ∷ word.Del ∷ word.Resp ∷ word.Return ∷ word.Int ∷ word.Bool ∷ word.Slice ∷ word.Buf ∷ word.Temp ∷ word.True ∷ word.False ∷ word.Args ∷ word.Len ∷ word.Byte ∷ word.U64 ∷ word.Sub ∷ word.View ∷ word.Alloc ∷ []

-- what has the form of a name is a word or a name
word-or-name : (words : List Word) → ((which : Word) → word_among words (letters which) ≡ Some which) → (bytes : List ℕ) → has_name_form bytes ≡ true
    → ((which : Word) × (bytes ≡ letters which)) ⊎ IsName bytes
word-or-name words known bytes form =
    elim (found-or-not (word_among words bytes)) [
      | inl (which, found) ↦ inl (which, word-found words bytes which found)
      | inr missing ↦ inr (record {
        form = form;
        free = λ which is.
            let found : None ≡ Some which = sym missing ∙ ap (word_among words) is ∙ known which in
            cc;
      })
    ]

-- the longest front of name bytes is a token, so it is no longer than the one that begins the text
front-within : (text bytes behind : List ℕ) (which : Token) → front_class text ≡ Some kind.Word → BeginsWith text bytes which behind
    → prefix_len is_name_byte text ≤ length bytes
front-within text bytes behind which front begins =
    let n : ℕ = prefix_len is_name_byte text in
    let size : length (take n text) ≡ n = length-prefix_len is_name_byte text in
    let within : (other : Token) → IsSpelling (take n text) other → length (take n text) ≤ length bytes =
    λ other spelled. begins.longest (take n text) (drop n text) other spelled (sym (take-append-drop n text)) in
    elim (word-or-name all_words (λ which_word. (word-known which_word).1) (take n text) (front-name text front)) [
      | inl (found, is) ↦ (let fits = within (token.Word found) is in omega (arith, fits, size))
      | inr own ↦ (let fits = within (token.Name (take n text)) (own, refl) in omega (arith, fits, size))
    ]

prefix-more : (front rest : List ℕ) → all_pass is_name_byte front ≡ true → prefix_len is_name_byte (front ++ rest) ≡ length front + prefix_len is_name_byte rest
prefix-more [] rest all = omega arith
prefix-more (byte ∷ front) rest all =
    let parts = and_parts (is_name_byte byte) (all_pass is_name_byte front) all in
    let more : prefix_len is_name_byte (front ++ rest) ≡ length front + prefix_len is_name_byte rest = prefix-more front rest parts.1 in
    rw (parts.0) (omega arith)

none-named : (rest : List ℕ) → prefix_len is_name_byte rest ≡ 0 → named rest ≡ false
none-named [] none = refl
none-named (byte ∷ rest) none =
    elim (cases_Bool (is_name_byte byte)) [
      | inl yes_name ↦ (let some : 1 + prefix_len is_name_byte rest ≡ 0 = (rw yes_name at none) in absurd (omega arith))
      | inr no_name ↦ no_name
    ]

class-longer : (front rest : List ℕ) → front_class front ≡ Some kind.Word → front_class (front ++ rest) ≡ Some kind.Word
class-longer [] rest is = absurd cc
class-longer (byte ∷ front) rest is = is

letters-end : (bytes behind : List ℕ) (which : Token) → class_of which ≡ kind.Word → BeginsWith (bytes ++ behind) bytes which behind → named behind ≡ false
letters-end bytes behind which class begins =
    let form = word-form which bytes class begins.spelled in
    let within = front-within (bytes ++ behind) bytes behind which (class-longer bytes behind (name-front bytes form)) begins in
    let size = prefix-more bytes behind (name-bytes bytes form) in
    none-named behind (omega (arith, within, size))

word-named : (rest : List ℕ) → begins_word rest ≡ false → named rest ≡ false
word-named [] none = refl
word-named (byte ∷ rest) none = (or_parts _ _ none).0

pub wordy-ends : (bytes behind : List ℕ) (which : Token) → is_wordy which ≡ true → BeginsWith (bytes ++ behind) bytes which behind → named behind ≡ false
wordy-ends bytes behind (token.Word word) wordy begins = letters-end bytes behind (token.Word word) refl begins
wordy-ends bytes behind (token.Name name) wordy begins = letters-end bytes behind (token.Name name) refl begins
wordy-ends bytes behind (token.Number number) wordy begins = word-named behind begins.apart
wordy-ends bytes behind (token.Str items) wordy begins = absurd cc
wordy-ends bytes behind (token.Mark mark) wordy begins = absurd cc
wordy-ends bytes behind token.Not wordy begins = absurd cc
wordy-ends bytes behind (token.Binary operator) wordy begins = absurd cc

-- and each begins with one
named-longer : (bytes rest : List ℕ) → named bytes ≡ true → named (bytes ++ rest) ≡ true
named-longer [] rest is = absurd cc
named-longer (byte ∷ bytes) rest is = is

all-named : (bytes : List ℕ) → all_pass is_name_byte bytes ≡ true → 0 < length bytes → named bytes ≡ true
all-named [] all some = absurd (omega arith)
all-named (byte ∷ bytes) all some = (and_parts (is_name_byte byte) (all_pass is_name_byte bytes) all).0

form-named : (bytes : List ℕ) → has_name_form bytes ≡ true → named bytes ≡ true
form-named [] form = absurd cc
form-named (byte ∷ bytes) form = all-named (byte ∷ bytes) (name-bytes (byte ∷ bytes) form) (omega arith)

numeral-begun : (bytes : List ℕ) → all_pass is_name_byte bytes ≡ true → (bytes ≡ [] → ⊥) → named bytes ≡ true
numeral-begun [] all some = absurd (some refl)
numeral-begun (byte ∷ bytes) all some = (and_parts (is_name_byte byte) (all_pass is_name_byte bytes) all).0

pub wordy-begins : (bytes rest : List ℕ) (which : Token) → is_wordy which ≡ true → IsSpelling bytes which → named (bytes ++ rest) ≡ true
wordy-begins bytes rest (token.Word word) wordy spelled = named-longer bytes rest (form-named bytes (word-form (token.Word word) bytes refl spelled))
wordy-begins bytes rest (token.Name name) wordy spelled = named-longer bytes rest (form-named bytes (word-form (token.Name name) bytes refl spelled))
wordy-begins bytes rest (token.Number number) wordy spelled =
    named-longer bytes rest (numeral-begun bytes (numeral-named bytes spelled.0) (λ none. let clash : true ≡ false = sym spelled.0 ∙ ap is_numeral none in cc))
wordy-begins bytes rest (token.Str items) wordy spelled = absurd cc
wordy-begins bytes rest (token.Mark mark) wordy spelled = absurd cc
wordy-begins bytes rest token.Not wordy spelled = absurd cc
wordy-begins bytes rest (token.Binary operator) wordy spelled = absurd cc
