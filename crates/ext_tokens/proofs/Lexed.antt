-- Every text has a token at its front, one that is too long, or none.
use Rattle.std.proofs.Common.{◌≡◌, ℕ, zero, suc, ◌+◌, ◌-◌, ◌*◌, ◌<◌, ◌≤◌, ◌^◌, ◌⊎◌, Bool, true, false, List, [], ◌∷◌, ◌++◌, length, take, drop, Option, Some, None, refl, sym, ap, ◌∙◌, subst, inl, inr, arith, length-append}
use Rattle.std.specs.Prelude.{◌==◌, ◌&&◌, nat_le, nat_lt, if◌then◌else◌}
use Rattle.std.proofs.lemmas.Bool.{and_parts, cases_Bool, eqb-true}
use Rattle.std.proofs.lemmas.Bool.Decides.{nat_tests}
use Rattle.std.proofs.lemmas.Option.{same_Some}
use Rattle.std.specs.List.{prefix_len}
use Rattle.ext_mean.specs.declared.expr.BinOp.TheVariants as op
use Rattle.ext_mean.specs.declared.token.Mark.TheVariants as mark
use Rattle.ext_mean.specs.declared.token.Token.{Token}
use Rattle.ext_mean.specs.declared.token.Token.TheVariants as token
use Rattle.ext_mean.specs.declared.token.Word.{Word}
use Rattle.ext_mean.specs.Tokens.{is_within, is_plain, is_lower, is_digit, is_name_byte, is_numeral, begins_word, digits_from, hex_digit, escaped, IsSpelling}
use Rattle.ext_tokens.specs.declared.words.TheConstants.{WORDS}
use Rattle.ext_tokens.specs.declared.lexeme.Class.TheVariants as kind
use Rattle.ext_tokens.specs.declared.lexeme.Lexeme.{Lexeme}
use Rattle.ext_tokens.specs.declared.lexeme.Lexeme.TheVariants as lexeme
use Rattle.ext_tokens.specs.Words.{word_among}
use Rattle.ext_tokens.specs.Symbols.{NoDouble, double_symbol, single_symbol, single_operator}
use Rattle.ext_tokens.specs.Strings.{IsItem, BeginsByItem}
use Rattle.ext_tokens.specs.Lexemes.{byte_class, front_class, IsLexeme}
use Rattle.ext_tokens.proofs.Begins.{symbol-none}
use Rattle.ext_tokens.proofs.Lexing.{word-lexeme, name-lexeme, name-long, number-lexeme, number-long, number-nothing, IsRead, item-some, item-shorter, read-more, read-size, string-lexeme, string-nothing, symbol-two, symbol-one}

-- what stands at the front of a text
pub record HasLexeme (text : List ℕ) : Type 0 where
  pub lexeme : Lexeme
  pub is : IsLexeme text lexeme

-- Byte strings.

-- a byte is a hexadecimal digit
record HasValue (byte : ℕ) : Type 0 where
  value : ℕ
  below : value < 16
  is : byte ≡ hex_digit value

decimal-value : (byte : ℕ) → is_within 0x30 0x39 byte ≡ true → HasValue byte
decimal-value byte within = record {
  value = byte - 0x30;
  below = grind (arith, nat_tests);
  is = grind (arith, nat_tests);
}

letter-value : (byte : ℕ) → is_within 0x61 0x66 byte ≡ true → HasValue byte
letter-value byte within = record {
  value = byte - 0x57;
  below = grind (arith, nat_tests);
  is = grind (arith, nat_tests);
}

no-value : (byte value : ℕ) → is_within 0x30 0x39 byte ≡ false → is_within 0x61 0x66 byte ≡ false → value < 16 → byte ≡ hex_digit value → ⊥
no-value byte value decimal letter below is = grind (arith, nat_tests)

value-cases : (byte : ℕ) → HasValue byte ⊎ (HasValue byte → ⊥)
value-cases byte =
    elim (cases_Bool (is_within 0x30 0x39 byte)) [
      | inl within ↦ inl (decimal-value byte within)
      | inr out ↦ elim (cases_Bool (is_within 0x61 0x66 byte)) [
        | inl within ↦ inl (letter-value byte within)
        | inr beyond ↦ inr (λ has. no-value byte has.value out beyond has.below has.is)
      ]
    ]

-- what stands behind the `\` of an item that is written by its digits
record IsEscape (text : List ℕ) : Type 0 where
  high : ℕ
  low : ℕ
  behind : List ℕ
  upper : high < 16
  lower : low < 16
  is : text ≡ 0x78 ∷ hex_digit high ∷ hex_digit low ∷ behind

-- the digits of an escape are those that stand there
escape-parts : (a b c : ℕ) (behind : List ℕ) → IsEscape (a ∷ b ∷ c ∷ behind) → (a ≡ 0x78) × HasValue b × HasValue c
escape-parts a b c behind has =
    let same : a ∷ b ∷ c ∷ behind ≡ 0x78 ∷ hex_digit has.high ∷ hex_digit has.low ∷ has.behind = has.is in
    let mark : a ≡ 0x78 = cc in
    let first : b ≡ hex_digit has.high = cc in
    let second : c ≡ hex_digit has.low = cc in
    (mark, record { value = has.high; below = has.upper; is = first }, record { value = has.low; below = has.lower; is = second })

escape-of : (a b c : ℕ) (behind : List ℕ) → a ≡ 0x78 → HasValue b → HasValue c → IsEscape (a ∷ b ∷ c ∷ behind)
escape-of a b c behind marked first second = record {
  high = first.value;
  low = second.value;
  behind = behind;
  upper = first.below;
  lower = second.below;
  is = ap (λ x. x ∷ b ∷ c ∷ behind) marked ∙ ap (λ x. 0x78 ∷ x ∷ c ∷ behind) first.is ∙ ap (λ x. 0x78 ∷ hex_digit first.value ∷ x ∷ behind) second.is;
}

escape-by : (a b c : ℕ) (behind : List ℕ) → (a ≡ 0x78) ⊎ (a ≡ 0x78 → ⊥) → HasValue b ⊎ (HasValue b → ⊥) → HasValue c ⊎ (HasValue c → ⊥)
    → IsEscape (a ∷ b ∷ c ∷ behind) ⊎ (IsEscape (a ∷ b ∷ c ∷ behind) → ⊥)
escape-by a b c behind (inl marked) (inl first) (inl second) = inl (escape-of a b c behind marked first second)
escape-by a b c behind (inl marked) (inl first) (inr no_second) = inr (λ has. no_second (escape-parts a b c behind has).2)
escape-by a b c behind (inl marked) (inr no_first) second = inr (λ has. no_first (escape-parts a b c behind has).1)
escape-by a b c behind (inr no_mark) first second = inr (λ has. no_mark (escape-parts a b c behind has).0)

is-or-not : (a b : ℕ) → (a ≡ b) ⊎ (a ≡ b → ⊥)
is-or-not a b =
    elim (cases_Bool (a == b)) [
      | inl same ↦ inl (eqb-true a b same)
      | inr other ↦ inr (λ same. grind (arith, nat_tests))
    ]

too-short : (text : List ℕ) → length text ≤ 2 → IsEscape text → ⊥
too-short text short has = omega (arith, ap length has.is)

escape-cases : (text : List ℕ) → IsEscape text ⊎ (IsEscape text → ⊥)
escape-cases [] = inr (too-short [] (omega arith))
escape-cases (a ∷ []) = inr (too-short (a ∷ []) (omega arith))
escape-cases (a ∷ b ∷ []) = inr (too-short (a ∷ b ∷ []) (omega arith))
escape-cases (a ∷ b ∷ c ∷ behind) = escape-by a b c behind (is-or-not a 0x78) (value-cases b) (value-cases c)

-- an item stands at the front
record HasItem (text : List ℕ) : Type 0 where
  item : ℕ
  behind : List ℕ
  is : BeginsByItem text item behind

-- an item at a byte that does not stand for itself is written by its digits
escaped-there : (byte : ℕ) (rest : List ℕ) (item : ℕ) (behind bytes : List ℕ) → is_plain byte ≡ false → IsItem bytes item
    → byte ∷ rest ≡ bytes ++ behind → (byte ≡ 0x5c) × IsEscape rest
escaped-there byte rest item behind bytes unplain (inl (plain, e)) whole =
    let front : byte ∷ rest ≡ item ∷ behind = whole ∙ ap (λ x. x ++ behind) e in
    let head : byte ≡ item = cc in
    let same : is_plain byte ≡ is_plain item = ap is_plain head in
    absurd cc
escaped-there byte rest item behind bytes unplain (inr (high, low, upper, lower, is, e)) whole =
    let front : byte ∷ rest ≡ 0x5c ∷ 0x78 ∷ hex_digit high ∷ hex_digit low ∷ behind = whole ∙ ap (λ x. x ++ behind) e in
    let head : byte ≡ 0x5c = cc in
    let tail : rest ≡ 0x78 ∷ hex_digit high ∷ hex_digit low ∷ behind = cc in
    (head, record { high = high; low = low; behind = behind; upper = upper; lower = lower; is = tail })

escaped-item : (byte : ℕ) (rest : List ℕ) → byte ≡ 0x5c → IsEscape rest → HasItem (byte ∷ rest)
escaped-item byte rest slash has = record {
  item = 16 * has.high + has.low;
  behind = has.behind;
  is = (
    escaped has.high has.low,
    inr (has.high, has.low, has.upper, has.lower, refl, refl),
    ap (λ x. x ∷ rest) slash ∙ ap (λ x. 0x5c ∷ x) has.is,
  );
}

unplain-by : (byte : ℕ) (rest : List ℕ) → is_plain byte ≡ false → (byte ≡ 0x5c) ⊎ (byte ≡ 0x5c → ⊥) → IsEscape rest ⊎ (IsEscape rest → ⊥)
    → HasItem (byte ∷ rest) ⊎ (HasItem (byte ∷ rest) → ⊥)
unplain-by byte rest unplain (inl slash) (inl has) = inl (escaped-item byte rest slash has)
unplain-by byte rest unplain (inl slash) (inr none) =
    inr (λ found. none (escaped-there byte rest found.item found.behind found.is.0 unplain found.is.1 found.is.2).1)
unplain-by byte rest unplain (inr no_slash) escape =
    inr (λ found. no_slash (escaped-there byte rest found.item found.behind found.is.0 unplain found.is.1 found.is.2).0)

item-cases : (text : List ℕ) → HasItem text ⊎ (HasItem text → ⊥)
item-cases [] = inr (λ found. let some = item-some found.is.0 found.item found.is.1 in omega (arith, some, ap length found.is.2, length-append found.is.0 found.behind))
item-cases (byte ∷ rest) =
    elim (cases_Bool (is_plain byte)) [
      | inl plain ↦ inl (record { item = byte; behind = rest; is = (byte ∷ [], inl (plain, refl), refl) })
      | inr unplain ↦ unplain-by byte rest unplain (is-or-not byte 0x5c) (escape-cases rest)
    ]

string-ends : (inner items rest : List ℕ) → IsRead inner items rest → (HasItem rest → ⊥) → HasLexeme (0x22 ∷ inner)
string-ends inner items [] read none =
    record { lexeme = lexeme.Nothing; is = string-nothing inner items [] read (λ item more is. none (record { item = item; behind = more; is = is })) (λ closed. let e : [] ≡ 0x22 ∷ closed.0 = closed.1 in cc) }
string-ends inner items (byte ∷ rest) read none =
    elim (is-or-not byte 0x22) [
      | inl quote ↦ record {
        lexeme = lexeme.Token (token.Str items) ((length inner - length (byte ∷ rest)) + 2);
        is = string-lexeme inner items (byte ∷ rest) ((length inner - length (byte ∷ rest)) + 2) read (rest, ap (λ x. x ∷ rest) quote)
            (omega (arith, read-size inner items (byte ∷ rest) read));
      }
      | inr other ↦ record {
        lexeme = lexeme.Nothing;
        is = string-nothing inner items (byte ∷ rest) read (λ item more is. none (record { item = item; behind = more; is = is }))
            (λ closed. let e : byte ∷ rest ≡ 0x22 ∷ closed.0 = closed.1 in other cc);
      }
    ]

string-from : (most : ℕ) (inner items rest : List ℕ) → length rest ≤ most → IsRead inner items rest → HasLexeme (0x22 ∷ inner)
string-from zero inner items rest few read =
    elim (item-cases rest) [
      | inl found ↦ absurd (omega (arith, few, item-shorter rest found.behind found.item found.is))
      | inr none ↦ string-ends inner items rest read none
    ]
string-from (suc most) inner items rest few read =
    elim (item-cases rest) [
      | inl found ↦ string-from most inner (items ++ found.item ∷ []) found.behind
          (omega (arith, few, item-shorter rest found.behind found.item found.is))
          (read-more inner items rest found.behind found.item read found.is)
      | inr none ↦ string-ends inner items rest read none
    ]

string-there : (inner : List ℕ) → HasLexeme (0x22 ∷ inner)
string-there inner = string-from (length inner) inner [] inner (omega arith) ([], refl, refl)

-- Words, names and numbers.

word-by : (text : List ℕ) (size : ℕ) → front_class text ≡ Some kind.Word → size ≡ prefix_len is_name_byte text
    → (found : Option Word) → found ≡ word_among WORDS (take size text) → HasLexeme text
word-by text size front size-is (Some which) found-is =
    record { lexeme = lexeme.Token (token.Word which) size; is = word-lexeme text size which front size-is found-is }
word-by text size front size-is None found-is =
    elim (cases_Bool (nat_le size 32)) [
      | inl short ↦ record {
        lexeme = lexeme.Token (token.Name (take size text)) size;
        is = name-lexeme text size (take size text) front size-is found-is refl (grind (arith, nat_tests));
      }
      | inr long ↦ record { lexeme = lexeme.TooLong; is = name-long text size front size-is found-is (grind (arith, nat_tests)) }
    ]

number-sound : (text : List ℕ) (size value : ℕ) → front_class text ≡ Some kind.Number → size ≡ prefix_len is_digit text
    → is_numeral (take size text) ≡ true → begins_word (drop size text) ≡ false → value ≡ digits_from 0 (take size text) → HasLexeme text
number-sound text size value front size-is numeral apart value-is =
    elim (cases_Bool (nat_lt value (2 ^ 64))) [
      | inl short ↦ record {
        lexeme = lexeme.Token (token.Number value) size;
        is = number-lexeme text size value front size-is numeral apart value-is (grind (arith, nat_tests));
      }
      | inr long ↦
          let over : 2 ^ 64 ≤ value = grind (arith, nat_tests) in
          record { lexeme = lexeme.TooLong; is = number-long text size front size-is numeral apart (subst (λ n. 2 ^ 64 ≤ n) value-is over) }
    ]

number-by : (text : List ℕ) (size : ℕ) → front_class text ≡ Some kind.Number → size ≡ prefix_len is_digit text
    → (numeral word : Bool) → is_numeral (take size text) ≡ numeral → begins_word (drop size text) ≡ word → HasLexeme text
number-by text size front size-is true false numeral apart = number-sound text size (digits_from 0 (take size text)) front size-is numeral apart refl
number-by text size front size-is false word numeral apart = record {
  lexeme = lexeme.Nothing;
  is = number-nothing text size front size-is (λ is other. let clash : true ≡ false = sym is ∙ numeral in cc);
}
number-by text size front size-is true true numeral apart = record {
  lexeme = lexeme.Nothing;
  is = number-nothing text size front size-is (λ is other. let clash : true ≡ false = sym apart ∙ other in cc);
}

-- Symbols.

-- the first of some choices that holds
picked : {A : Type 0} (P : A → Type 0) (test : Bool) (choice : A) (others : Option A) → (test ≡ true → P choice)
    → ((found : A) → others ≡ Some found → P found) → (found : A) → (if test then Some choice else others) ≡ Some found → P found
picked P true choice others one more found e = subst P (same_Some choice found e) (one refl)
picked P false choice others one more found e = more found e

none-picked : {A : Type 0} (P : A → Type 0) (found : A) → None ≡ Some found → P found
none-picked P found e = absurd (cc e)

two-bytes : (first second a b : ℕ) → ((first == a) && (second == b)) ≡ true → first ∷ second ∷ [] ≡ a ∷ b ∷ []
two-bytes first second a b both =
    let parts = and_parts (first == a) (second == b) both in
    ap (λ x. x ∷ second ∷ []) (eqb-true first a parts.0) ∙ ap (λ x. a ∷ x ∷ []) (eqb-true second b parts.1)

one-byte : (byte a : ℕ) → (byte == a) ≡ true → byte ∷ [] ≡ a ∷ []
one-byte byte a same = ap (λ x. x ∷ []) (eqb-true byte a same)

double-spelled : (first second : ℕ) (which : Token) → double_symbol first second ≡ Some which → IsSpelling (first ∷ second ∷ []) which
double-spelled first second =
    let P : Token → Type 0 = λ which. IsSpelling (first ∷ second ∷ []) which in
    picked P (first == 0x2d && second == 0x3e) (token.Mark mark.Arrow) _ (two-bytes first second 0x2d 0x3e)
    (picked P (first == 0x3d && second == 0x3e) (token.Mark mark.Arm) _ (two-bytes first second 0x3d 0x3e)
    (picked P (first == 0x7c && second == 0x7c) (token.Binary op.Or) _ (two-bytes first second 0x7c 0x7c)
    (picked P (first == 0x26 && second == 0x26) (token.Binary op.And) _ (two-bytes first second 0x26 0x26)
    (picked P (first == 0x3d && second == 0x3d) (token.Binary op.Equal) _ (two-bytes first second 0x3d 0x3d)
    (picked P (first == 0x21 && second == 0x3d) (token.Binary op.NotEqual) _ (two-bytes first second 0x21 0x3d)
    (picked P (first == 0x3c && second == 0x3d) (token.Binary op.LessEqual) _ (two-bytes first second 0x3c 0x3d)
    (picked P (first == 0x3e && second == 0x3d) (token.Binary op.GreaterEqual) _ (two-bytes first second 0x3e 0x3d)
    (none-picked P))))))))

operator-spelled : (byte : ℕ) (which : Token) → single_operator byte ≡ Some which → IsSpelling (byte ∷ []) which
operator-spelled byte =
    let P : Token → Type 0 = λ which. IsSpelling (byte ∷ []) which in
    picked P (byte == 0x21) token.Not _ (one-byte byte 0x21)
    (picked P (byte == 0x3c) (token.Binary op.Less) _ (one-byte byte 0x3c)
    (picked P (byte == 0x3e) (token.Binary op.Greater) _ (one-byte byte 0x3e)
    (picked P (byte == 0x2b) (token.Binary op.Add) _ (one-byte byte 0x2b)
    (picked P (byte == 0x2d) (token.Binary op.Subtract) _ (one-byte byte 0x2d)
    (picked P (byte == 0x2a) (token.Binary op.Multiply) _ (one-byte byte 0x2a)
    (picked P (byte == 0x2f) (token.Binary op.Divide) _ (one-byte byte 0x2f)
    (picked P (byte == 0x25) (token.Binary op.Remainder) _ (one-byte byte 0x25)
    (none-picked P))))))))

single-spelled : (byte : ℕ) (which : Token) → single_symbol byte ≡ Some which → IsSpelling (byte ∷ []) which
single-spelled byte =
    let P : Token → Type 0 = λ which. IsSpelling (byte ∷ []) which in
    picked P (byte == 0x28) (token.Mark mark.Open) _ (one-byte byte 0x28)
    (picked P (byte == 0x29) (token.Mark mark.Close) _ (one-byte byte 0x29)
    (picked P (byte == 0x7b) (token.Mark mark.OpenBlock) _ (one-byte byte 0x7b)
    (picked P (byte == 0x7d) (token.Mark mark.CloseBlock) _ (one-byte byte 0x7d)
    (picked P (byte == 0x2c) (token.Mark mark.Comma) _ (one-byte byte 0x2c)
    (picked P (byte == 0x3b) (token.Mark mark.Semicolon) _ (one-byte byte 0x3b)
    (picked P (byte == 0x3a) (token.Mark mark.Colon) _ (one-byte byte 0x3a)
    (picked P (byte == 0x3d) (token.Mark mark.Assign) _ (one-byte byte 0x3d)
    (operator-spelled byte))))))))

single-by : (first : ℕ) (rest : List ℕ) → byte_class first ≡ kind.Symbol → NoDouble first rest
    → (found : Option Token) → single_symbol first ≡ found → HasLexeme (first ∷ rest)
single-by first rest class none (Some which) found-is =
    record { lexeme = lexeme.Token which 1; is = symbol-one first rest which class none (single-spelled first which found-is) }
single-by first rest class none None found-is = record { lexeme = lexeme.Nothing; is = symbol-none first rest class none found-is }

double-by : (first second : ℕ) (behind : List ℕ) → byte_class first ≡ kind.Symbol
    → (found : Option Token) → double_symbol first second ≡ found → HasLexeme (first ∷ second ∷ behind)
double-by first second behind class (Some which) found-is = record {
  lexeme = lexeme.Token which 2;
  is = symbol-two first (second ∷ behind) which class (second, behind, refl, double-spelled first second which found-is);
}
double-by first second behind class None found-is =
    single-by first (second ∷ behind) class (λ other more e.
    let same : second ≡ other = (let whole : second ∷ behind ≡ other ∷ more = e in cc) in
    subst (λ n. double_symbol first n ≡ None) same found-is) (single_symbol first) refl

symbol-there : (first : ℕ) (rest : List ℕ) → byte_class first ≡ kind.Symbol → HasLexeme (first ∷ rest)
symbol-there first [] class =
    single-by first [] class (λ other more e. absurd (let whole : [] ≡ other ∷ more = e in cc)) (single_symbol first) refl
symbol-there first (second ∷ behind) class = double-by first second behind class (double_symbol first second) refl

-- By the class of the first byte.

lexeme-by : (byte : ℕ) (rest : List ℕ) (quote lower digit : Bool) → (byte == 0x22) ≡ quote → is_lower byte ≡ lower → is_digit byte ≡ digit → HasLexeme (byte ∷ rest)
lexeme-by byte rest true lower digit quoted is_low is_num =
    subst (λ first. HasLexeme (first ∷ rest)) (sym (eqb-true byte 0x22 quoted)) (string-there rest)
lexeme-by byte rest false true digit quoted is_low is_num =
    let front : front_class (byte ∷ rest) ≡ Some kind.Word = rw (quoted, is_low) refl in
    word-by (byte ∷ rest) (prefix_len is_name_byte (byte ∷ rest)) front refl
    (word_among WORDS (take (prefix_len is_name_byte (byte ∷ rest)) (byte ∷ rest))) refl
lexeme-by byte rest false false true quoted is_low is_num =
    let front : front_class (byte ∷ rest) ≡ Some kind.Number = rw (quoted, is_low, is_num) refl in
    let size = prefix_len is_digit (byte ∷ rest) in
    number-by (byte ∷ rest) size front refl (is_numeral (take size (byte ∷ rest))) (begins_word (drop size (byte ∷ rest))) refl refl
lexeme-by byte rest false false false quoted is_low is_num =
    let class : byte_class byte ≡ kind.Symbol = rw (quoted, is_low, is_num) refl in
    symbol-there byte rest class

-- what stands at the front of a text that is not empty
pub lexeme-there : (byte : ℕ) (rest : List ℕ) → HasLexeme (byte ∷ rest)
lexeme-there byte rest = lexeme-by byte rest (byte == 0x22) (is_lower byte) (is_digit byte) refl refl refl
