-- Where a mark is to come and no other token.
use Rattle.std.proofs.Common.{◌≡◌, refl, ap, ◌∙◌, ℕ, Bool, true, false, Option, Some, None, cond}
use Rattle.ext_mean.specs.declared.token.Mark.{Mark}
use Rattle.ext_mean.specs.declared.token.Mark.TheVariants as mark
use Rattle.ext_mean.specs.declared.token.Token.{Token}
use Rattle.ext_mean.specs.declared.token.Token.TheVariants as token
use Rattle.ext_grammar.specs.Coming.{Coming, fixed, is_mark, on_mark, Move}
use Rattle.ext_grammar.specs.Reading.{Counted, goes, met}
use Rattle.ext_parse.specs.Readers.{Stand, left, next, advanced, refusal}
use Rattle.ext_parse.proofs.Steps.{kept, quiet, refuses}

fixed-met : (of : Mark) (coming : Coming) (counted : Counted) (line : ℕ) → met (fixed of coming) counted (record { token = token.Mark of; line = line }) ≡ goes coming (kept counted)
fixed-met mark.Open coming counted line = refl
fixed-met mark.Close coming counted line = refl
fixed-met mark.OpenBlock coming counted line = refl
fixed-met mark.CloseBlock coming counted line = refl
fixed-met mark.Comma coming counted line = refl
fixed-met mark.Semicolon coming counted line = refl
fixed-met mark.Colon coming counted line = refl
fixed-met mark.Assign coming counted line = refl
fixed-met mark.Arrow coming counted line = refl
fixed-met mark.Arm coming counted line = refl

pub fixed-found : (of : Mark) (coming : Coming) (there : Stand) → next there ≡ Some (token.Mark of) → left (fixed of coming) there ≡ left coming (advanced there)
fixed-found of coming there e = quiet (fixed of coming) coming (token.Mark of) there (fixed-met of coming there.counted) e

pub mark-is : (of : Mark) (this : Token) → is_mark of this ≡ true → this ≡ token.Mark of
mark-is mark.Open (token.Mark mark.Open) e = refl
mark-is mark.Close (token.Mark mark.Close) e = refl
mark-is mark.OpenBlock (token.Mark mark.OpenBlock) e = refl
mark-is mark.CloseBlock (token.Mark mark.CloseBlock) e = refl
mark-is mark.Comma (token.Mark mark.Comma) e = refl
mark-is mark.Semicolon (token.Mark mark.Semicolon) e = refl
mark-is mark.Colon (token.Mark mark.Colon) e = refl
mark-is mark.Assign (token.Mark mark.Assign) e = refl
mark-is mark.Arrow (token.Mark mark.Arrow) e = refl
mark-is mark.Arm (token.Mark mark.Arm) e = refl
mark-is of this e = cc

-- a mark leads nowhere where it does not come
pub no-mark : (of : Mark) (this : Token) (move : Option Move) → (this ≡ token.Mark of → ⊥) → on_mark of this move ≡ None
no-mark of this move other = no_mark_by (is_mark of this) refl
  where
    no_mark_by : (test : Bool) → is_mark of this ≡ test → on_mark of this move ≡ None
    no_mark_by true e = absurd (other (mark-is of this e))
    no_mark_by false e = ap (λ (test : Bool). cond test move None) e

pub fixed-refused : (of : Mark) (coming : Coming) (there : Stand) → (next there ≡ Some (token.Mark of) → ⊥) → left (fixed of coming) there ≡ refusal there
fixed-refused of coming there other =
    refuses (fixed of coming) there refl refl (λ this e. no-mark of this _ (λ is. other (e ∙ ap (λ (t : Token). Some t) is)))

pub ruleset mark_steps = (fixed-found, fixed-refused)
