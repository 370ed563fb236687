-- Functions, their parameters, and the end of a program.
use Rattle.std.proofs.Common.{◌≡◌, ◌∙◌, ap, refl, arith, ℕ, ◌+◌, ◌&&◌, ◌||◌, Bool, true, false, List, [], ◌∷◌, ◌++◌, Option, Some, None, nat_le, cond, length}
use Rattle.ext_mean.specs.declared.codes.SyntaxCode.TheVariants as code
use Rattle.ext_mean.specs.declared.token.Mark.TheVariants as mark
use Rattle.ext_mean.specs.declared.token.Placed.{Placed}
use Rattle.ext_mean.specs.declared.token.Token.{Token}
use Rattle.ext_mean.specs.declared.token.Token.TheVariants as token
use Rattle.ext_mean.specs.declared.token.Word.TheVariants as word
use Rattle.ext_mean.specs.declared.tree.Function.{Function}
use Rattle.ext_mean.specs.declared.tree.Param.{Param}
use Rattle.ext_mean.specs.Wording.{is_operator}
use Rattle.ext_grammar.specs.Coming.{fixed, functions, function_name, first_parameter, parameter, behind_parameter, result_kind, on_token, Move}
use Rattle.ext_grammar.specs.Reading.{Counted, Ending, accepted, faulty, goes, stops, met_by, at_end, answer, answered}
use Rattle.ext_parse.specs.Ends.{ends, ends_there, may_follow, program_of}
use Rattle.ext_parse.specs.Readers.{Stand, left, next, first_of, advanced, begun, with_function, refusal, refused, crowding}
use Rattle.ext_parse.proofs.Steps.{quiet, founding, too_many, alike-moves, started}

-- the first token of a function
pub function-some : (known : List Function) (there : Stand) → next there ≡ Some (token.Word word.Fn) → nat_le 32 there.counted.functions ≡ false → left (functions known) there ≡ left (function_name known) (advanced (begun (with_function there)))
function-some known there e few =
    founding (functions known) (function_name known) (token.Word word.Fn) there
    (λ line. ap (λ (many : Bool). cond (many || false) (stops line code.Many) (goes (function_name known) (started (record { functions = there.counted.functions + 1; locals = 0; operators = there.counted.operators; lines = there.counted.lines }) (line ∷ [])))) few) e

pub function-crowded : (known : List Function) (there : Stand) → next there ≡ Some (token.Word word.Fn) → nat_le 32 there.counted.functions ≡ true → left (functions known) there ≡ crowding there
function-crowded known there e many =
    too_many (functions known) (token.Word word.Fn) there
    (λ line. ap (λ (many : Bool). cond (many || false) (stops line code.Many) (goes (function_name known) (started (record { functions = there.counted.functions + 1; locals = 0; operators = there.counted.operators; lines = there.counted.lines }) (line ∷ [])))) many) e

no-function-moves : (known : List Function) (before : ℕ) (this : Token) → (this ≡ token.Word word.Fn → ⊥) → on_token (functions known) before this ≡ None
no-function-moves known before (token.Word word.Fn) other = absurd (other refl)
no-function-moves known before this other = refl

-- no function is known, or the text goes on
not-ended : (known : List Function) (counted : Counted) (ending : Ending) → may_follow ending.complete known ≡ true → at_end (functions known) counted ending ≡ faulty ending.line ending.code
not-ended [] counted ending none = refl
not-ended (first ∷ more) counted ending none = by_test ending.complete refl
  where
    by_test : (test : Bool) → ending.complete ≡ test → at_end (functions (first ∷ more)) counted ending ≡ faulty ending.line ending.code
    by_test true e = let follows : may_follow ending.complete (first ∷ more) ≡ false = ap (λ (b : Bool). may_follow b (first ∷ more)) e in cc
    by_test false e = ap (λ (b : Bool). cond b (accepted (program_of (first ∷ more)) counted.lines) (faulty ending.line ending.code)) e

no-function-first : (known : List Function) (counted : Counted) (ending : Ending) (there : Placed) (rest : List Placed) → on_token (functions known) counted.operators there.token ≡ None → answer (functions known) counted ending (there ∷ rest) ≡ refused counted ending (there ∷ rest)
no-function-first known counted ending there rest none =
    ap (λ (m : Option Move). answered (cond (is_operator there.token && nat_le 64 counted.operators) (stops there.line code.Many) (met_by counted there m)) (λ c k. answer c k ending rest)) none
    ∙ by_test (is_operator there.token && nat_le 64 counted.operators)
  where
    by_test : (test : Bool) → answered (cond test (stops there.line code.Many) (stops there.line code.Expected)) (λ c k. answer c k ending rest) ≡ cond test (faulty there.line code.Many) (faulty there.line code.Expected)
    by_test true = refl
    by_test false = refl

no-function-list : (known : List Function) (counted : Counted) (ending : Ending) (placed : List Placed) → (first_of placed ≡ Some (token.Word word.Fn) → ⊥) → may_follow (ends_there ending.complete placed) known ≡ true → answer (functions known) counted ending placed ≡ refused counted ending placed
no-function-list known counted ending [] other none = not-ended known counted ending none
no-function-list known counted ending (there ∷ rest) other none =
    no-function-first known counted ending there rest (no-function-moves known counted.operators there.token (λ is. other (ap (λ (t : Token). Some t) is)))

pub function-none : (known : List Function) (there : Stand) → (next there ≡ Some (token.Word word.Fn) → ⊥) → may_follow (ends there) known ≡ true → left (functions known) there ≡ refusal there
unfolding left next refusal ends
function-none known there other none = no-function-list known there.counted there.ending there.rest other none

pub ruleset functions_met = (function-some, function-crowded, function-none)

-- the end of a program
accepted-at : (known : List Function) (last : Function) (counted : Counted) (ending : Ending) → ending.complete ≡ true → at_end (functions (known ++ last ∷ [])) counted ending ≡ accepted (program_of (known ++ last ∷ [])) counted.lines
accepted-at [] last counted ending e =
    ap (λ (b : Bool). cond b (accepted (program_of (last ∷ [])) counted.lines) (faulty ending.line ending.code)) e
accepted-at (first ∷ more) last counted ending e =
    ap (λ (b : Bool). cond b (accepted (program_of (first ∷ (more ++ last ∷ []))) counted.lines) (faulty ending.line ending.code)) e

accepted-list : (known : List Function) (last : Function) (counted : Counted) (ending : Ending) (placed : List Placed) → ends_there ending.complete placed ≡ true → answer (functions (known ++ last ∷ [])) counted ending placed ≡ accepted (program_of (known ++ last ∷ [])) counted.lines
accepted-list known last counted ending [] e = accepted-at known last counted ending e
accepted-list known last counted ending (there ∷ rest) e = cc

pub program-ends : (known : List Function) (last : Function) (there : Stand) → ends there ≡ true → left (functions (known ++ last ∷ [])) there ≡ accepted (program_of (known ++ last ∷ [])) there.counted.lines
unfolding left ends
program-ends known last there e = accepted-list known last there.counted there.ending there.rest e

-- parameters
pub parameters-none : (known : List Function) (name : List ℕ) (there : Stand) → next there ≡ Some (token.Mark mark.Close) → left (first_parameter known name) there ≡ left (fixed mark.Arrow (result_kind known name [])) (advanced there)
parameters-none known name there e =
    quiet (first_parameter known name) (fixed mark.Arrow (result_kind known name [])) (token.Mark mark.Close) there (λ line. refl) e

first-moves : (known : List Function) (name : List ℕ) (before : ℕ) (this : Token) → (this ≡ token.Mark mark.Close → ⊥) → on_token (first_parameter known name) before this ≡ on_token (parameter known name []) before this
first-moves known name before (token.Mark mark.Close) other = absurd (other refl)
first-moves known name before this other = refl

pub parameters-some : (known : List Function) (name : List ℕ) (there : Stand) → (next there ≡ Some (token.Mark mark.Close) → ⊥) → left (first_parameter known name) there ≡ left (parameter known name []) there
parameters-some known name there other =
    alike-moves (first_parameter known name) (parameter known name []) there refl refl refl
    (λ this e. first-moves known name there.counted.operators this (λ is. other (e ∙ ap (λ (t : Token). Some t) is)))

pub parameters-end : (known : List Function) (name : List ℕ) (params : List Param) (there : Stand) → next there ≡ Some (token.Mark mark.Close) → left (behind_parameter known name params) there ≡ left (fixed mark.Arrow (result_kind known name params)) (advanced there)
parameters-end known name params there e =
    quiet (behind_parameter known name params) (fixed mark.Arrow (result_kind known name params)) (token.Mark mark.Close) there (λ line. refl) e

more-moves : (known : List Function) (name : List ℕ) (params : List Param) (before : ℕ) (this : Token) → (this ≡ token.Mark mark.Close → ⊥) → on_token (behind_parameter known name params) before this ≡ on_token (fixed mark.Comma (parameter known name params)) before this
more-moves known name params before (token.Mark mark.Close) other = absurd (other refl)
more-moves known name params before this other = refl

pub parameters-more : (known : List Function) (name : List ℕ) (params : List Param) (there : Stand) → (next there ≡ Some (token.Mark mark.Close) → ⊥) → left (behind_parameter known name params) there ≡ left (fixed mark.Comma (parameter known name params)) there
parameters-more known name params there other =
    alike-moves (behind_parameter known name params) (fixed mark.Comma (parameter known name params)) there refl refl refl
    (λ this e. more-moves known name params there.counted.operators this (λ is. other (e ∙ ap (λ (t : Token). Some t) is)))

pub ruleset parameters_met = (parameters-none, parameters-some, parameters-end, parameters-more)

pub follows-first : (ended : Bool) → may_follow ended [] ≡ true
follows-first true = refl
follows-first false = refl

pub ruleset program_met = (program-ends, follows-first)

pub ends-none : (complete : Bool) (placed : List Placed) → length placed ≡ 0 → ends_there complete placed ≡ complete
ends-none complete [] e = refl
ends-none complete (first ∷ rest) e = absurd (omega arith)

pub ends-some : (complete : Bool) (placed : List Placed) → (length placed ≡ 0 → ⊥) → ends_there complete placed ≡ false
ends-some complete [] e = absurd (e refl)
ends-some complete (first ∷ rest) e = refl

pub ruleset ends_met = (ends-none, ends-some)
