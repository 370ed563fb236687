-- What a reader of tokens answers that stands between two of them, by what is to come.
use Rattle.std.specs.Prelude.{ℕ, ◌&&◌, ◌||◌, Bool, false, List, [], ◌∷◌, ◌++◌, Option, Some, None, nat_le, if◌then◌else◌}
use Rattle.ext_mean.specs.declared.codes.SyntaxCode.{SyntaxCode}
use Rattle.ext_mean.specs.declared.codes.SyntaxCode.TheVariants as code
use Rattle.ext_mean.specs.declared.token.Placed.{Placed}
use Rattle.ext_mean.specs.declared.token.Token.{Token}
use Rattle.ext_mean.specs.declared.token.Token.TheVariants as token
use Rattle.ext_mean.specs.declared.token.Word.TheVariants as word
use Rattle.ext_mean.specs.declared.tree.Program.{Program}
use Rattle.ext_mean.specs.Bounds.{functions_with, locals_with}
use Rattle.ext_mean.specs.Text.{line_if_begins}
use Rattle.ext_mean.specs.Wording.{Standing, naming, is_operator}
use Rattle.ext_grammar.specs.Coming.{Coming, functions, none_word, arms_end, Move, on_token}

-- what a reader has counted: the functions, the locals of the last one, the operators of the item, and
-- the lines of the items
pub record Counted : Type 0 where
  pub functions : ℕ
  pub locals : ℕ
  pub operators : ℕ
  pub lines : List ℕ

-- what stands behind the last token: whether the text ends there, and the fault that it is if a token
-- is to come
pub record Ending : Type 0 where
  pub complete : Bool
  pub line : ℕ
  pub code : SyntaxCode

pub data Answer : Type 0 where
  accepted : Program → List ℕ → Answer
  faulty : ℕ → SyntaxCode → Answer

-- the operators of the item that is open: behind a block in an item, it goes on where it was
abbrev pub open_operators : Coming → ℕ → ℕ
open_operators (none_word operators looking name block around) before = operators
open_operators (arms_end operators statement around) before = operators
open_operators other before = before

-- one function too many, or the name of one local too many
abbrev pub is_full_of_functions : ℕ → Token → Bool
is_full_of_functions known (token.Word word.Fn) = nat_le 32 known
is_full_of_functions known other = false

abbrev pub is_full_of_locals : ℕ → Standing → Bool
is_full_of_locals known (naming operators) = nat_le 256 known
is_full_of_locals known other = false

-- a token behind those that were read: it is one of a program, or a fault
pub data Met : Type 0 where
  goes : Coming → Counted → Met
  stops : ℕ → SyntaxCode → Met

abbrev pub met_by : Counted → Placed → Option Move → Met
met_by counted placed None = stops placed.line code.Expected
met_by counted placed (Some move) =
    if is_full_of_functions counted.functions placed.token
    || is_full_of_locals counted.locals move.standing
    then stops placed.line code.Many
    else goes move.coming (record {
      functions = functions_with counted.functions placed.token;
      locals = locals_with counted.locals placed.token move.standing;
      operators = move.operators;
      lines = counted.lines ++ line_if_begins move.standing placed.line [];
    })

abbrev pub met : Coming → Counted → Placed → Met
met coming counted placed =
    let before = open_operators coming counted.operators in
    if is_operator placed.token && nat_le 64 before then stops placed.line code.Many
    else met_by counted placed (on_token coming before placed.token)

abbrev pub answered : Met → (Coming → Counted → Answer) → Answer
answered (goes coming counted) more = more coming counted
answered (stops line code) more = faulty line code

-- where no token is left, the text ends, and the functions before it are the program
abbrev pub at_end : Coming → Counted → Ending → Answer
at_end (functions (first ∷ more)) counted ending =
    if ending.complete then accepted (record { functions = first ∷ more }) counted.lines
    else faulty ending.line ending.code
at_end coming counted ending = faulty ending.line ending.code

-- the answer to these tokens
abbrev pub answer : Coming → Counted → Ending → List Placed → Answer
answer coming counted ending [] = at_end coming counted ending
answer coming counted ending (placed ∷ rest) =
    answered (met coming counted placed) (λ next then_counted. answer next then_counted ending rest)

-- the answer to all tokens of a text
abbrev pub whole_answer : Ending → List Placed → Answer
whole_answer ending placed =
    answer (functions []) (record { functions = 0; locals = 0; operators = 0; lines = [] }) ending placed
