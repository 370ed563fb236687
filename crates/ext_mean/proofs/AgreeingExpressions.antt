-- Expressions agree in a world and in one that grew from it.
use Rattle.std.proofs.Common.{◌≡◌, ℕ, ◌/◌, Bool, true, false, List, Option, sym, subst, if◌then◌else◌}
use Rattle.sp_base.specs.declared.outcomes.Trap.TheVariants.{Range, Divide, Size, Denied}
use Rattle.sp_base.specs.Places.{Place}
use Rattle.ext_mean.specs.declared.expr.BinOp.{BinOp}
use Rattle.ext_mean.specs.declared.expr.BinOp.TheVariants as op
use Rattle.ext_mean.specs.declared.expr.Expr.{Expr}
use Rattle.ext_mean.specs.declared.expr.Expr.TheViews.{roll-Expr}
use Rattle.ext_mean.specs.declared.expr.Expr.TheOpen.{Expr-F}
use Rattle.ext_mean.specs.declared.expr.Expr.TheFolds.{ind-Expr, map-Expr}
use Rattle.ext_mean.specs.declared.run.Run.{Run}
use Rattle.ext_mean.specs.declared.state.Value.{Value}
use Rattle.ext_mean.specs.declared.state.Value.TheVariants as value
use Rattle.ext_mean.specs.MeaningValues.{number_of, bytes_of, buffer_of}
use Rattle.ext_mean.specs.MeaningExpressions as meaning
use Rattle.ext_mean.specs.MeaningExpressions.{evaluate, expression_form}
use Rattle.ext_mean.specs.Work.{World, Work, ◌>>=◌, give, charge, require}
use Rattle.ext_mean.proofs.Agreement.{Mark, uses-none, grown, Grows}
use Rattle.ext_mean.proofs.AgreeingWork as works
use Rattle.ext_mean.proofs.Equations.{evaluate-roll}

module _ (free : Run → Mark → Type 0) (small : World) (budget : ℕ) (known : Place → Option (Option (List ℕ))) (grows : Grows free small budget known) where
  abbrev large : World
  large = grown small budget known

  abbrev R : {A : Type 0} → Work A → Work A → Type 0
  R first second = works.R free small budget known grows first second

  given : {A : Type 0} (value : A) → R (give value) (give value)
  given value = works.given free small budget known grows value

  guarded : {B : Type 0} (test : Bool) (trap : _) (m m' : Work B) → R m m' → R (require test trap >>= (λ _. m)) (require test trap >>= (λ _. m'))
  guarded test trap m m' rest = works.guarded free small budget known grows test trap m m' (λ _. rest)

  next : {A B : Type 0} {m m' : Work A} {k k' : A → Work B} → R m m' → ((value : A) → R (k value) (k' value)) → R (m >>= k) (m' >>= k')
  next {m = m} {m' = m'} {k = k} {k' = k'} = works.next free small budget known grows {m = m} {m' = m'} {k = k} {k' = k'}

  charged : {B : Type 0} (units : ℕ) (m m' : Work B) → R m m' → R (charge small units >>= (λ _. m)) (charge large units >>= (λ _. m'))
  charged = works.charged free small budget known grows

  pub variable-agrees : (name : List ℕ) → R (meaning.variable name) (meaning.variable name)
  variable-agrees name state = works.same-step free small budget known grows state.used (meaning.variable name state) (uses-none large state.used)

  new_temp-agrees : (size : ℕ) → R (meaning.new_temp small size) (meaning.new_temp large size)
  new_temp-agrees size = guarded _ Size _ _ (charged (size / 16) _ _ (given _))

  new_buffer-agrees : (table : ℕ) (key : List ℕ) (size : ℕ) → R (meaning.new_buffer small table key size) (meaning.new_buffer large table key size)
  new_buffer-agrees table key size = guarded _ Size _ _ (guarded _ Denied _ _ (charged (size / 16) _ _ (given _)))

  operate-agrees : (operator : BinOp) (left right : Value) → R (meaning.operate operator left right) (meaning.operate operator left right)
  operate-agrees op.Or left right = given _
  operate-agrees op.And left right = given _
  operate-agrees op.Equal left right = given _
  operate-agrees op.NotEqual left right = given _
  operate-agrees op.Less left right = given _
  operate-agrees op.LessEqual left right = given _
  operate-agrees op.Greater left right = given _
  operate-agrees op.GreaterEqual left right = given _
  operate-agrees op.Add left right = given _
  operate-agrees op.Subtract left right = given _
  operate-agrees op.Multiply left right = given _
  operate-agrees op.Divide left right = guarded _ Divide _ _ (given _)
  operate-agrees op.Remainder left right = guarded _ Divide _ _ (given _)

  unless : (decided : Bool) (value : Value) (m m' : Work Value) → R m m' → R (if decided then give value else m) (if decided then give value else m')
  unless true value m m' rest = given value
  unless false value m m' rest = rest

  binary-agrees : (operator : BinOp) (left left' right right' : Work Value) → R left left' → R right right' → R (meaning.binary operator left right) (meaning.binary operator left' right')
  binary-agrees operator left left' right right' first second =
      next first (λ value. unless (meaning.decides operator value) _ _ _ (next second (λ other. operate-agrees operator value other)))

  abbrev Agreeing : Expr → Type 0
  Agreeing expression = R (evaluate small expression) (evaluate large expression)

  -- one form, whose operands agree
  form-agrees : (form : Expr-F ((e : Expr) × Agreeing e)) → R (expression_form small (map-Expr Expr (Work Value) (evaluate small) (map-Expr _ Expr (λ e. e.0) form))) (expression_form large (map-Expr Expr (Work Value) (evaluate large) (map-Expr _ Expr (λ e. e.0) form)))
  form-agrees (Expr-F.Number number) = given _
  form-agrees (Expr-F.Str bytes) = given _
  form-agrees (Expr-F.Truth truth) = given _
  form-agrees (Expr-F.Var name) = variable-agrees name
  form-agrees Expr-F.Args = given _
  form-agrees (Expr-F.Len bytes) = next bytes.1 (λ whole. given _)
  form-agrees (Expr-F.View name) = next (variable-agrees name) (λ buffer. given (value.Slice (buffer_of buffer)))
  form-agrees (Expr-F.Temp size) = next size.1 (λ count. new_temp-agrees (number_of count))
  form-agrees (Expr-F.Byte bytes place) = next bytes.1 (λ whole. next place.1 (λ at. guarded _ Range _ _ (given _)))
  form-agrees (Expr-F.Word bytes place) = next bytes.1 (λ whole. next place.1 (λ at. guarded _ Range _ _ (given _)))
  form-agrees (Expr-F.Sub bytes from count) = next bytes.1 (λ whole. next from.1 (λ first. next count.1 (λ many. guarded _ Range _ _ (given _))))
  form-agrees (Expr-F.Alloc table key size) = next table.1 (λ number. next key.1 (λ bytes. next size.1 (λ count. new_buffer-agrees (number_of number) (bytes_of bytes) (number_of count))))
  form-agrees (Expr-F.Not test) = next test.1 (λ truth. given _)
  form-agrees (Expr-F.Bin operator left right) = binary-agrees operator _ _ _ _ left.1 right.1

  along : {A : Type 0} {m n m' n' : Work A} → m ≡ n → m' ≡ n' → R n n' → R m m'
  along {m = m} {n = n} {m' = m'} {n' = n'} first second related =
      subst (λ z. R z m') (sym first) (subst (λ z. R n z) (sym second) related)

  pub evaluate-agrees : (expression : Expr) → R (evaluate small expression) (evaluate large expression)
  evaluate-agrees = ind-Expr Agreeing (λ x y is.
      subst (λ z. Agreeing (roll-Expr z)) is
      (let z = map-Expr _ Expr (λ e. e.0) y in
      along (evaluate-roll small z) (evaluate-roll large z) (form-agrees y)))
