-- The bytes of canonical tokens are read as these tokens.
use Rattle.std.specs.Prelude.{◌==◌}
use Rattle.std.specs.List.{flat_map}
use Rattle.std.proofs.Common.{◌≡◌, ℕ, ◌+◌, Bool, true, false, ◌||◌, not, List, [], ◌∷◌, ◌++◌, None, refl, sym, ap, ◌∙◌, subst, arith, append_assoc, append-nil}
use Rattle.std.proofs.lemmas.Bool.{and_parts}
use Rattle.std.proofs.lemmas.Bool.Decides.{nat_tests}
use Rattle.ext_mean.specs.declared.expr.BinOp.{BinOp}
use Rattle.ext_mean.specs.declared.expr.BinOp.TheVariants as op
use Rattle.ext_mean.specs.declared.token.Mark.{Mark}
use Rattle.ext_mean.specs.declared.token.Mark.TheVariants as mark
use Rattle.ext_mean.specs.declared.token.Placed.{Placed}
use Rattle.ext_mean.specs.declared.token.Token.{Token}
use Rattle.ext_mean.specs.declared.token.Token.TheVariants as token
use Rattle.ext_mean.specs.Canonical.{shown_byte, token_bytes, is_wordy, written}
use Rattle.ext_mean.specs.Tokens.{mark_bytes, operator_bytes, is_name_byte, begins_word, newline, newlines, IsSpelling, StandsApart, BeginsWith, IsGap, blank, empty, Tokens, tokens_of}
use Rattle.ext_mean.proofs.PlainTexts.{on_line}
use Rattle.ext_mean.proofs.TokenEnds.{word-longest}
use Rattle.ext_tokens.specs.Symbols.{double_symbol, NoDouble}
use Rattle.ext_tokens.proofs.Begins.{string-begins, double-begins, single-begins}
use Rattle.ext_canonical.proofs.Ends.{named, wordy-begins}
use Rattle.ext_canonical.proofs.Shorter.{space}
use Rattle.ext_canonical.proofs.Spelled.{items-inner}
use Rattle.ext_canonical.proofs.Standing.{joins, starts, stands}

-- the first byte makes no longer symbol of `=`, `-`, `!`, `<` or `>`
abbrev IsQuiet : List ℕ → Type 0
IsQuiet text = (second : ℕ) (behind : List ℕ) → text ≡ second ∷ behind → ((second == 0x3d) ≡ false) × ((second == 0x3e) ≡ false)

quiet-is : (text : List ℕ) (first : ℕ) (rest : List ℕ) → text ≡ first ∷ rest → (first == 0x3d) ≡ false → (first == 0x3e) ≡ false → IsQuiet text
quiet-is text first rest is one two second behind whole =
    let same : first ∷ rest ≡ second ∷ behind = sym is ∙ whole in
    let head : first ≡ second = cc in
    (ap (λ b. b == 0x3d) (sym head) ∙ one, ap (λ b. b == 0x3e) (sym head) ∙ two)

name-quiet : (byte : ℕ) → is_name_byte byte ≡ true → ((byte == 0x3d) ≡ false) × ((byte == 0x3e) ≡ false)
name-quiet byte is = (grind (arith, nat_tests), grind (arith, nat_tests))

named-quiet : (text : List ℕ) → named text ≡ true → IsQuiet text
named-quiet [] is second behind whole = absurd cc
named-quiet (byte ∷ text) is second behind whole =
    let both = name-quiet byte is in quiet-is (byte ∷ text) byte text refl both.0 both.1 second behind whole

starts-quiet : (next : Token) (rest : List ℕ) → starts next ≡ true → IsSpelling (token_bytes next) next → IsQuiet (token_bytes next ++ rest)
starts-quiet (token.Word word) rest start spelled = named-quiet _ (wordy-begins _ rest (token.Word word) refl spelled)
starts-quiet (token.Name name) rest start spelled = named-quiet _ (wordy-begins _ rest (token.Name name) refl spelled)
starts-quiet (token.Number number) rest start spelled = named-quiet _ (wordy-begins (token_bytes (token.Number number)) rest (token.Number number) refl spelled)
starts-quiet (token.Str items) rest start spelled = quiet-is _ 0x22 _ refl refl refl
starts-quiet (token.Mark mark.Open) rest start spelled = quiet-is _ 0x28 _ refl refl refl
starts-quiet (token.Mark mark.Close) rest start spelled = absurd cc
starts-quiet (token.Mark mark.OpenBlock) rest start spelled = absurd cc
starts-quiet (token.Mark mark.CloseBlock) rest start spelled = absurd cc
starts-quiet (token.Mark mark.Comma) rest start spelled = absurd cc
starts-quiet (token.Mark mark.Semicolon) rest start spelled = absurd cc
starts-quiet (token.Mark mark.Colon) rest start spelled = absurd cc
starts-quiet (token.Mark mark.Assign) rest start spelled = absurd cc
starts-quiet (token.Mark mark.Arrow) rest start spelled = absurd cc
starts-quiet (token.Mark mark.Arm) rest start spelled = absurd cc
starts-quiet token.Not rest start spelled = quiet-is _ 0x21 _ refl refl refl
starts-quiet (token.Binary operator) rest start spelled = absurd cc

-- what is no word, name or number begins with no byte of one
mark-unworded : (which : Mark) (rest : List ℕ) → begins_word (mark_bytes which ++ rest) ≡ false
mark-unworded mark.Open rest = refl
mark-unworded mark.Close rest = refl
mark-unworded mark.OpenBlock rest = refl
mark-unworded mark.CloseBlock rest = refl
mark-unworded mark.Comma rest = refl
mark-unworded mark.Semicolon rest = refl
mark-unworded mark.Colon rest = refl
mark-unworded mark.Assign rest = refl
mark-unworded mark.Arrow rest = refl
mark-unworded mark.Arm rest = refl

operator-unworded : (which : BinOp) (rest : List ℕ) → begins_word (operator_bytes which ++ rest) ≡ false
operator-unworded op.Or rest = refl
operator-unworded op.And rest = refl
operator-unworded op.Equal rest = refl
operator-unworded op.NotEqual rest = refl
operator-unworded op.Less rest = refl
operator-unworded op.LessEqual rest = refl
operator-unworded op.Greater rest = refl
operator-unworded op.GreaterEqual rest = refl
operator-unworded op.Add rest = refl
operator-unworded op.Subtract rest = refl
operator-unworded op.Multiply rest = refl
operator-unworded op.Divide rest = refl
operator-unworded op.Remainder rest = refl

unworded : (next : Token) (rest : List ℕ) → is_wordy next ≡ false → begins_word (token_bytes next ++ rest) ≡ false
unworded (token.Word word) rest is = absurd cc
unworded (token.Name name) rest is = absurd cc
unworded (token.Number number) rest is = absurd cc
unworded (token.Str items) rest is = refl
unworded (token.Mark which) rest is = mark-unworded which rest
unworded token.Not rest is = refl
unworded (token.Binary which) rest is = operator-unworded which rest

-- the text of tokens, with its last newline
abbrev line_of : Bool → List Token → List ℕ
line_of before tokens = written before tokens ++ newline ∷ []

line-is : (before : Bool) (next : Token) (more : List Token)
    → line_of before (next ∷ more) ≡ space before (is_wordy next) ++ (token_bytes next ++ line_of (is_wordy next) more)
line-is before next more =
    append_assoc (space before (is_wordy next)) (token_bytes next ++ written (is_wordy next) more) (newline ∷ [])
    ∙ ap (λ them. space before (is_wordy next) ++ them) (append_assoc (token_bytes next) (written (is_wordy next) more) (newline ∷ []))

-- behind a word, a name or a number
apart-by : (wordy : Bool) (next : Token) (rest : List ℕ) → is_wordy next ≡ wordy → begins_word (space true wordy ++ (token_bytes next ++ rest)) ≡ false
apart-by true next rest is = refl
apart-by false next rest is = unworded next rest is

word-apart : (more : List Token) → begins_word (line_of true more) ≡ false
word-apart [] = refl
word-apart (next ∷ more) = ap begins_word (line-is true next more) ∙ apart-by (is_wordy next) next (line_of (is_wordy next) more) refl

-- each token has its canonical spelling
abbrev pub AreSpelled : List Token → Type 0
AreSpelled [] = Unit {0}
AreSpelled (next ∷ more) = IsSpelling (token_bytes next) next × AreSpelled more

or-true : (a : Bool) → (a || not true) ≡ true → a ≡ true
or-true true is = refl
or-true false is = absurd (let clash : false ≡ true = is in cc)

-- behind a token that asks for an operand
operand-quiet : (more : List Token) → AreSpelled more → stands true more ≡ true → IsQuiet (line_of false more)
operand-quiet [] spelled stand = quiet-is _ newline _ refl refl refl
operand-quiet (next ∷ more) spelled stand =
    let parts = and_parts (starts next || not true) (stands (joins next) more) stand in
    let Q : List ℕ → Type 0 = λ text. IsQuiet text in
    subst Q (sym (line-is false next more)) (starts-quiet next (line_of (is_wordy next) more) (or-true (starts next) parts.0) spelled.0)

-- a symbol of one byte
no-double : (first : ℕ) (rest : List ℕ) → ((second : ℕ) → double_symbol first second ≡ None) → NoDouble first rest
no-double first rest none second behind whole = none second

quiet-double : (first : ℕ) (rest : List ℕ) → ((second : ℕ) → (second == 0x3d) ≡ false → (second == 0x3e) ≡ false → double_symbol first second ≡ None)
    → IsQuiet rest → NoDouble first rest
quiet-double first rest none quiet second behind whole = let both = quiet second behind whole in none second both.0 both.1

mark-begins : (which : Mark) (behind : List ℕ) → (joins (token.Mark which) ≡ true → IsQuiet behind)
    → BeginsWith (mark_bytes which ++ behind) (mark_bytes which) (token.Mark which) behind
mark-begins mark.Open behind quiet = single-begins 0x28 behind (token.Mark mark.Open) refl (no-double 0x28 behind (λ second. refl)) refl
mark-begins mark.Close behind quiet = single-begins 0x29 behind (token.Mark mark.Close) refl (no-double 0x29 behind (λ second. refl)) refl
mark-begins mark.OpenBlock behind quiet = single-begins 0x7b behind (token.Mark mark.OpenBlock) refl (no-double 0x7b behind (λ second. refl)) refl
mark-begins mark.CloseBlock behind quiet = single-begins 0x7d behind (token.Mark mark.CloseBlock) refl (no-double 0x7d behind (λ second. refl)) refl
mark-begins mark.Comma behind quiet = single-begins 0x2c behind (token.Mark mark.Comma) refl (no-double 0x2c behind (λ second. refl)) refl
mark-begins mark.Semicolon behind quiet = single-begins 0x3b behind (token.Mark mark.Semicolon) refl (no-double 0x3b behind (λ second. refl)) refl
mark-begins mark.Colon behind quiet = single-begins 0x3a behind (token.Mark mark.Colon) refl (no-double 0x3a behind (λ second. refl)) refl
mark-begins mark.Assign behind quiet =
    single-begins 0x3d behind (token.Mark mark.Assign) refl (quiet-double 0x3d behind (λ second one two. rw (two, one) refl) (quiet refl)) refl
mark-begins mark.Arrow behind quiet = double-begins 0x2d 0x3e behind (token.Mark mark.Arrow) refl refl
mark-begins mark.Arm behind quiet = double-begins 0x3d 0x3e behind (token.Mark mark.Arm) refl refl

operator-begins : (which : BinOp) (behind : List ℕ) → IsQuiet behind
    → BeginsWith (operator_bytes which ++ behind) (operator_bytes which) (token.Binary which) behind
operator-begins op.Or behind quiet = double-begins 0x7c 0x7c behind (token.Binary op.Or) refl refl
operator-begins op.And behind quiet = double-begins 0x26 0x26 behind (token.Binary op.And) refl refl
operator-begins op.Equal behind quiet = double-begins 0x3d 0x3d behind (token.Binary op.Equal) refl refl
operator-begins op.NotEqual behind quiet = double-begins 0x21 0x3d behind (token.Binary op.NotEqual) refl refl
operator-begins op.Less behind quiet =
    single-begins 0x3c behind (token.Binary op.Less) refl (quiet-double 0x3c behind (λ second one two. rw one refl) quiet) refl
operator-begins op.LessEqual behind quiet = double-begins 0x3c 0x3d behind (token.Binary op.LessEqual) refl refl
operator-begins op.Greater behind quiet =
    single-begins 0x3e behind (token.Binary op.Greater) refl (quiet-double 0x3e behind (λ second one two. rw one refl) quiet) refl
operator-begins op.GreaterEqual behind quiet = double-begins 0x3e 0x3d behind (token.Binary op.GreaterEqual) refl refl
operator-begins op.Add behind quiet = single-begins 0x2b behind (token.Binary op.Add) refl (no-double 0x2b behind (λ second. refl)) refl
operator-begins op.Subtract behind quiet =
    single-begins 0x2d behind (token.Binary op.Subtract) refl (quiet-double 0x2d behind (λ second one two. rw two refl) quiet) refl
operator-begins op.Multiply behind quiet = single-begins 0x2a behind (token.Binary op.Multiply) refl (no-double 0x2a behind (λ second. refl)) refl
operator-begins op.Divide behind quiet = single-begins 0x2f behind (token.Binary op.Divide) refl (no-double 0x2f behind (λ second. refl)) refl
operator-begins op.Remainder behind quiet = single-begins 0x25 behind (token.Binary op.Remainder) refl (no-double 0x25 behind (λ second. refl)) refl

-- a word, a name or a number
wordy-whole : (which : Token) (bytes behind : List ℕ) → IsSpelling bytes which → named bytes ≡ true → begins_word behind ≡ false → StandsApart which behind
    → BeginsWith (bytes ++ behind) bytes which behind
wordy-whole which [] behind spelled begins ends apart = absurd cc
wordy-whole which (byte ∷ bytes) behind spelled begins ends apart = record {
  spelled = spelled;
  whole = refl;
  longest = word-longest byte bytes behind begins ends;
  apart = apart;
}

own-named : (which : Token) → is_wordy which ≡ true → IsSpelling (token_bytes which) which → named (token_bytes which) ≡ true
own-named which wordy spelled = ap named (sym (append-nil (token_bytes which))) ∙ wordy-begins (token_bytes which) [] which wordy spelled

token-begins : (which : Token) (more : List Token) → IsSpelling (token_bytes which) which → AreSpelled more → stands (joins which) more ≡ true
    → BeginsWith (token_bytes which ++ line_of (is_wordy which) more) (token_bytes which) which (line_of (is_wordy which) more)
token-begins (token.Word word) more spelled others stand =
    wordy-whole (token.Word word) (token_bytes (token.Word word)) (line_of true more) spelled (own-named (token.Word word) refl spelled) (word-apart more) tt
token-begins (token.Name name) more spelled others stand =
    wordy-whole (token.Name name) name (line_of true more) spelled (own-named (token.Name name) refl spelled) (word-apart more) tt
token-begins (token.Number number) more spelled others stand =
    wordy-whole (token.Number number) (token_bytes (token.Number number)) (line_of true more) spelled
    (own-named (token.Number number) refl spelled) (word-apart more) (word-apart more)
token-begins (token.Str items) more (inner, inside, is) others stand =
    string-begins (token_bytes (token.Str items) ++ line_of false more) (flat_map shown_byte items) items (line_of false more)
    (ap (λ them. 0x22 ∷ them) (append_assoc (flat_map shown_byte items) (0x22 ∷ []) (line_of false more)))
    (items-inner inner items inside)
token-begins (token.Mark which) more spelled others stand =
    mark-begins which (line_of false more) (λ asks. operand-quiet more others (ap (λ joined. stands joined more) (sym asks) ∙ stand))
token-begins token.Not more spelled others stand =
    single-begins 0x21 (line_of false more) token.Not refl
    (quiet-double 0x21 (line_of false more) (λ second one two. rw one refl) (operand-quiet more others stand)) refl
token-begins (token.Binary which) more spelled others stand = operator-begins which (line_of false more) (operand-quiet more others stand)

-- all on the first line
abbrev pub all_placed : List Token → List Placed
all_placed [] = []
all_placed (next ∷ more) = on_line next ∷ all_placed more

pub tokens-placed : (tokens : List Token) → tokens_of (all_placed tokens) ≡ tokens
tokens-placed [] = refl
tokens-placed (next ∷ more) = ap (λ them. next ∷ them) (tokens-placed more)

space-gap : (before next : Bool) → IsGap (space before next)
space-gap true true = blank refl empty
space-gap true false = empty
space-gap false true = empty
space-gap false false = empty

space-line : (before next : Bool) → 1 ≡ 1 + newlines (space before next)
space-line true true = refl
space-line true false = refl
space-line false true = refl
space-line false false = refl

pub written-tokens : (before joined : Bool) (tokens : List Token) → AreSpelled tokens → stands joined tokens ≡ true
    → Tokens (line_of before tokens) 1 (all_placed tokens) (newline ∷ [])
written-tokens before joined [] spelled stand = refl
written-tokens before joined (next ∷ more) spelled stand =
    let parts = and_parts (starts next || not joined) (stands (joins next) more) stand in (
      space before (is_wordy next),
      token_bytes next,
      line_of (is_wordy next) more,
      space-gap before (is_wordy next),
      line-is before next more,
      token-begins next more spelled.0 spelled.1 parts.1,
      space-line before (is_wordy next),
      written-tokens (is_wordy next) (joins next) more spelled.1 parts.1,
    )
