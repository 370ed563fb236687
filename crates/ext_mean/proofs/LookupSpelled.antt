-- The text of a look-up spells its tree.
use Rattle.std.specs.Prelude.{codes}
use Rattle.std.specs.Fmt.{decimal}
use Rattle.std.proofs.Common.{◌≡◌, ℕ, ◌+◌, ◌^◌, ◌<◌, ◌≤◌, Bool, true, false, List, [], ◌∷◌, ◌++◌, length, length-append, append_assoc, lit<, lit≤, refl, sym, ◌∙◌, subst, arith}
use Rattle.std.proofs.lemmas.Fmt.{length-decimal-le}
use Rattle.std.proofs.lemmas.Slice.Eq.{bytes_eq-Decides}
use Rattle.std.specs.Str.{bytes_eq}
use Rattle.ext_mean.specs.declared.statement.Kind.TheVariants as kind
use Rattle.ext_mean.specs.declared.token.Mark.TheVariants as mark
use Rattle.ext_mean.specs.declared.token.Placed.{Placed}
use Rattle.ext_mean.specs.declared.token.Token.TheVariants as token
use Rattle.ext_mean.specs.declared.token.Word.{Word}
use Rattle.ext_mean.specs.declared.token.Word.TheVariants as word
use Rattle.ext_mean.specs.Bounds.{AreBounded}
use Rattle.ext_mean.specs.Derived.{program_tree}
use Rattle.ext_mean.specs.Grammar.{Disjunction, disjunction, end_or, conjunction, end_and, only, sum, end_sum, product, end_product, plain, Primary, number, variable, args, Braces, open_end, returning, end_statements, statement, arms, no_parameters, function, end_functions, Whole, program}
use Rattle.ext_mean.specs.Grammar as grammar
use Rattle.ext_mean.specs.Lookup.{LookupIsSpelled, lookup_program, lookup_text}
use Rattle.ext_mean.specs.Text.{Reading, item_lines}
use Rattle.ext_mean.specs.Tokens.{letters, IsName, Tokens, blank, empty}
use Rattle.ext_mean.specs.Wording.{program_slots}
use Rattle.ext_mean.proofs.Bounding.{bounded-by}
use Rattle.ext_mean.proofs.PlainTexts.{Piece, piece, ArePlain, text_from, placed_by, on_line, plain-tokens, number-tokens}

abbrev simple : Primary → Disjunction
simple primary = disjunction (conjunction (only (sum (product (plain primary) end_product) end_sum)) end_and) end_or

-- the derivation
abbrev answering : Braces
answering = open_end (statement (grammar.resp (simple (variable (codes "s")))) end_statements)

abbrev body : ℕ → ℕ → Braces
body table code =
    returning (statement (grammar.get (simple (number table)) (simple args) (arms (codes "s") answering (open_end end_statements))) end_statements)
    (simple (number code))

abbrev whole : ℕ → ℕ → Whole
whole table code = program (function (codes "main") no_parameters kind.Int (body table code)) end_functions

-- the tokens, before, between and behind the two numbers
abbrev w : Bool → Word → Piece
w spaced word = piece spaced (token.Word word)

abbrev open_ : Piece
open_ = piece false (token.Mark mark.Open)

abbrev close : Piece
close = piece false (token.Mark mark.Close)

abbrev begin : Piece
begin = piece true (token.Mark mark.OpenBlock)

abbrev end : Piece
end = piece true (token.Mark mark.CloseBlock)

abbrev arm : Piece
arm = piece true (token.Mark mark.Arm)

abbrev semicolon : Piece
semicolon = piece false (token.Mark mark.Semicolon)

abbrev s : Bool → Piece
s spaced = piece spaced (token.Name (codes "s"))

abbrev front : List Piece
front =
    w false word.Fn ∷ piece true (token.Name (codes "main")) ∷ open_ ∷ close ∷ piece true (token.Mark mark.Arrow)
    ∷ w true word.Int ∷ begin ∷ w true word.Get ∷ open_ ∷ []

abbrev middle : List Piece
middle =
    piece false (token.Mark mark.Comma) ∷ w true word.Args ∷ open_ ∷ close ∷ close
    ∷ begin ∷ w true word.Some ∷ s true ∷ arm ∷ begin ∷ w true word.Resp ∷ open_ ∷ s false ∷ close ∷ semicolon ∷ end
    ∷ w true word.None ∷ arm ∷ begin ∷ end ∷ end ∷ w true word.Return ∷ []

abbrev last : List Piece
last = semicolon ∷ end ∷ []

abbrev last_placed : List Placed
last_placed = placed_by last []

abbrev code_placed : ℕ → List Placed
code_placed code = on_line (token.Number code) ∷ last_placed

abbrev middle_placed : ℕ → List Placed
middle_placed code = placed_by middle (code_placed code)

abbrev table_placed : ℕ → ℕ → List Placed
table_placed table code = on_line (token.Number table) ∷ middle_placed code

abbrev all_placed : ℕ → ℕ → List Placed
all_placed table code = placed_by front (table_placed table code)

abbrev newline : List ℕ
newline = 10 ∷ []

abbrev last_text : List ℕ
last_text = text_from last newline

abbrev code_text : ℕ → List ℕ
code_text code = 0x20 ∷ decimal code ++ last_text

abbrev middle_text : ℕ → List ℕ
middle_text code = text_from middle (0x20 ∷ (decimal code ++ last_text))

abbrev all_text : ℕ → ℕ → List ℕ
all_text table code = text_from front (decimal table ++ middle_text code)

-- the two names are no words
abbrev Apart : Word → Type 0
Apart which = (bytes_eq (codes "main") (letters which) ≡ false) × (bytes_eq (codes "s") (letters which) ≡ false)

apart : (which : Word) → Apart which
apart word.Fn = (refl, refl)
apart word.Let = (refl, refl)
apart word.If = (refl, refl)
apart word.Else = (refl, refl)
apart word.While = (refl, refl)
apart word.Get = (refl, refl)
apart word.Multiget = (refl, refl)
apart word.Some = (refl, refl)
apart word.None = (refl, refl)
apart word.Set = (refl, refl)
apart word.Set8 = (refl, refl)
apart word.Copy = (refl, refl)
apart word.Put = (refl, refl)
apart word.Del = (refl, refl)
apart word.Resp = (refl, refl)
apart word.Return = (refl, refl)
apart word.Int = (refl, refl)
apart word.Bool = (refl, refl)
apart word.Slice = (refl, refl)
apart word.Buf = (refl, refl)
apart word.Temp = (refl, refl)
apart word.True = (refl, refl)
apart word.False = (refl, refl)
apart word.Args = (refl, refl)
apart word.Len = (refl, refl)
apart word.Byte = (refl, refl)
apart word.U64 = (refl, refl)
apart word.Sub = (refl, refl)
apart word.View = (refl, refl)
apart word.Alloc = (refl, refl)

differ : (a b : List ℕ) → bytes_eq a b ≡ false → a ≡ b → ⊥
differ a b different same = let clash : true ≡ false = sym ((bytes_eq-Decides a b).1 same) ∙ different in cc

main-name : IsName (codes "main")
main-name = record { form = refl; free = λ which. differ (codes "main") (letters which) (apart which).0 }

s-name : IsName (codes "s")
s-name = record { form = refl; free = λ which. differ (codes "s") (letters which) (apart which).1 }

front-plain : ArePlain front
front-plain = (tt, (main-name, (tt, (tt, (tt, (tt, (tt, (tt, (tt, tt)))))))))

middle-plain : ArePlain middle
middle-plain = (
  tt,
  (
    tt,
    (
      tt,
      (
        tt,
        (
          tt,
          (
            tt,
            (
              tt,
              (
                s-name,
                (
                  tt,
                  (
                    tt,
                    (
                      tt,
                      (
                        tt,
                        (
                          s-name,
                          (
                            tt,
                            (
                              tt,
                              (
                                tt,
                                (tt, (tt, (tt, (tt, (tt, (tt, tt)))))),
                              ),
                            ),
                          ),
                        ),
                      ),
                    ),
                  ),
                ),
              ),
            ),
          ),
        ),
      ),
    ),
  ),
)

-- the tokens, from the last to the first
last-tokens : Tokens last_text 1 last_placed newline
last-tokens = plain-tokens last newline newline [] (tt, (tt, tt)) refl refl

code-tokens : (code : ℕ) → code < 2 ^ 64 → Tokens (code_text code) 1 (code_placed code) newline
code-tokens code fits = number-tokens true code last_text newline last_placed fits refl last-tokens

middle-tokens : (code : ℕ) → code < 2 ^ 64 → Tokens (middle_text code) 1 (middle_placed code) newline
middle-tokens code fits = plain-tokens middle (code_text code) newline (code_placed code) middle-plain refl (code-tokens code fits)

table-tokens : (table code : ℕ) → table < 2 ^ 64 → code < 2 ^ 64 → Tokens (decimal table ++ middle_text code) 1 (table_placed table code) newline
table-tokens table code first second = number-tokens false table (middle_text code) newline (middle_placed code) first refl (middle-tokens code second)

all-tokens : (table code : ℕ) → table < 2 ^ 64 → code < 2 ^ 64 → Tokens (all_text table code) 1 (all_placed table code) newline
all-tokens table code first second =
    plain-tokens front (decimal table ++ middle_text code) newline (table_placed table code) front-plain refl (table-tokens table code first second)

-- the text by its pieces
in-a-row : (a b c d e f : List ℕ) → a ++ b ++ c ++ d ++ e ++ f ≡ a ++ (b ++ (c ++ (d ++ (e ++ f))))
in-a-row a b c d e f = simp append_assoc

text-pieces : (table code : ℕ) → lookup_text table code ≡ all_text table code
text-pieces table code =
    in-a-row (codes "fn main() -> int { get(") (decimal table)
    (codes ", args()) { some s => { resp(s); } none => { } } return ") (decimal code) (codes "; }") newline

pieces-length : (a x b y c d : List ℕ) → length x ≤ 20 → length y ≤ 20 → length (a ++ x ++ b ++ y ++ c ++ d) ≤ length a + length b + length c + length d + 40
pieces-length a x b y c d few more = simp length-append (omega arith)

text-short : (table code : ℕ) → table < 2 ^ 64 → code < 2 ^ 64 → length (lookup_text table code) ≤ 16384
text-short table code table-fits code-fits =
    let first : length (decimal table) ≤ 20 = length-decimal-le 20 table (lit< tt) (omega (arith, table-fits)) table-fits in
    let second : length (decimal code) ≤ 20 = length-decimal-le 20 code (lit< tt) (omega (arith, code-fits)) code-fits in
    let most = pieces-length (codes "fn main() -> int { get(") (decimal table)
    (codes ", args()) { some s => { resp(s); } none => { } } return ") (decimal code) (codes "; }") newline first second in
    omega (arith, most)

slots-bounded : (table code : ℕ) → table < 2 ^ 64 → code < 2 ^ 64 → AreBounded (program_slots (whole table code))
slots-bounded table code table-fits code-fits =
    bounded-by (program_slots (whole table code)) (lit≤ tt, (table-fits, (lit≤ tt, (lit≤ tt, (code-fits, tt))))) refl

derived : (table code : ℕ) → lookup_program table code ≡ program_tree (whole table code)
unfolding lookup_program
derived table code = refl

reading-of : (table code : ℕ) → table < 2 ^ 64 → code < 2 ^ 64 → Reading (lookup_text table code)
reading-of table code table-fits code-fits = record {
  placed = all_placed table code;
  last = newline;
  whole = whole table code;
  size = text-short table code table-fits code-fits;
  ends = (
    codes "fn main() -> int { get(" ++ decimal table
        ++ codes ", args()) { some s => { resp(s); } none => { } } return " ++ decimal code ++ codes "; }",
    refl,
  );
  tokens = subst (λ text. Tokens text 1 (all_placed table code) newline) (sym (text-pieces table code)) (all-tokens table code table-fits code-fits);
  gap = blank refl empty;
  sentence = refl;
  bounds = slots-bounded table code table-fits code-fits;
}

pub lookup-spelled : LookupIsSpelled
unfolding reading-of
lookup-spelled table code table-fits code-fits =
    let reading = reading-of table code table-fits code-fits in (
      item_lines (program_slots (whole table code)) (all_placed table code),
      record { reading = reading; tree = derived table code; places = refl },
    )
