-- Expressions keep to the rights and the limits.
use Rattle.std.specs.Prelude.{IsTrue, ◌&&◌, nat_le}
use Rattle.std.specs.List.{AllByRecursion}
use Rattle.std.specs.Str.{bytes_eq}
use Rattle.std.proofs.Common.{◌≡◌, ℕ, ◌/◌, ◌≤◌, Bool, true, false, List, [], ◌∷◌, length, replicate, sym, subst, arith, if◌then◌else◌}
use Rattle.std.proofs.lemmas.Bool.{leb-true}
use Rattle.std.proofs.lemmas.List.{length-replicate}
use Rattle.sp_base.specs.declared.numbers.TableId.{TableId}
use Rattle.sp_base.specs.declared.outcomes.Trap.TheVariants.{Range, Divide, Size, Denied}
use Rattle.sp_base.specs.declared.rights.Level.{Level}
use Rattle.sp_base.specs.RightsList.{can_write}
use Rattle.ext_mean.specs.declared.expr.BinOp.{BinOp}
use Rattle.ext_mean.specs.declared.expr.BinOp.TheVariants as op
use Rattle.ext_mean.specs.declared.expr.Expr.{Expr}
use Rattle.ext_mean.specs.declared.expr.Expr.TheViews.{roll-Expr}
use Rattle.ext_mean.specs.declared.expr.Expr.TheOpen.{Expr-F}
use Rattle.ext_mean.specs.declared.expr.Expr.TheFolds.{ind-Expr, map-Expr}
use Rattle.ext_mean.specs.declared.state.Local.{Local}
use Rattle.ext_mean.specs.declared.state.Value.{Value}
use Rattle.ext_mean.specs.declared.state.Value.TheVariants as value
use Rattle.ext_mean.specs.MeaningValues.{is_key, number_of, bytes_of, buffer_of, value_of}
use Rattle.ext_mean.specs.MeaningExpressions as meaning
use Rattle.ext_mean.specs.MeaningExpressions.{evaluate, expression_form}
use Rattle.ext_mean.specs.Work.{World, Work, ◌>>=◌, give, charge, require}
use Rattle.ext_mean.proofs.Equations.{evaluate-roll}
use Rattle.ext_mean.proofs.Keeping as keeping
use Rattle.ext_mean.proofs.Keeping.{Holds, LocalHolds, Keeps, StepKeeps, Any}
use Rattle.ext_mean.proofs.Pieces.{and-both}
use Rattle.ext_mean.proofs.WantsProved.{key-tested}

one-holds : (rights : List (TableId × Level)) (test : Bool) (first second : Value) → Holds rights first → Holds rights second → Holds rights (if test then first else second)
one-holds rights true first second one other = one
one-holds rights false first second one other = other

value-holds : (rights : List (TableId × Level)) (name : List ℕ) (locals : List Local) → AllByRecursion (LocalHolds rights) locals → Holds rights (value_of name locals)
value-holds rights name [] all = tt
value-holds rights name (first ∷ rest) all =
    one-holds rights (bytes_eq first.name name) first.value (value_of name rest) all.0 (value-holds rights name rest all.1)

module _ (world : World) where
  abbrev rights : List (TableId × Level)
  rights = world.view.rights

  -- work that hands on a value
  abbrev K : Work Value → Type 0
  K work = keeping.Kept rights (Holds rights) work

  given : (value : Value) → Holds rights value → K (give value)
  given value holds = keeping.given rights (Holds rights) value holds

  guarded : (test : Bool) (trap : _) (work : Work Value) → (IsTrue test → K work) → K (require test trap >>= (λ _. work))
  guarded = keeping.guarded rights {Q = Holds rights}

  charged : (units : ℕ) (work : Work Value) → K work → K (charge world units >>= (λ _. work))
  charged = keeping.charged rights {Q = Holds rights} world

  -- an operand, and what is made of its value
  next : {work : Work Value} {more : Value → Work Value} → K work → ((value : Value) → K (more value)) → K (work >>= more)
  next {work = work} {more = more} first rest =
      keeping.next rights (Holds rights) {Q = Holds rights} {work = work} {more = more} first (λ value holds. rest value)

  pub variable-kept : (name : List ℕ) → K (meaning.variable name)
  variable-kept name state keeps =
      record { fact = (keeps, value-holds rights name state.locals keeps.locals) }

  new_temp-kept : (size : ℕ) → K (meaning.new_temp world size)
  new_temp-kept size =
      let zeros : Work Value = give (value.Temp (replicate size 0)) in
      guarded (nat_le size 4096) Size (charge world (size / 16) >>= (λ _. zeros)) (λ _.
      charged (size / 16) zeros (given (value.Temp (replicate size 0)) tt))

  new_buffer-kept : (table : ℕ) (key : List ℕ) (size : ℕ) → K (meaning.new_buffer world table key size)
  new_buffer-kept table key size =
      let zeros : List ℕ = replicate size 0 in
      let buffer : Value = value.Buf (record { table = record { 0 = table }; key = key; bytes = zeros }) in
      let made : Work Value = charge world (size / 16) >>= (λ _. give buffer) in
      guarded (is_key key && nat_le size 4096) Size (require (can_write rights table) Denied >>= (λ _. made)) (λ sized.
      guarded (can_write rights table) Denied made (λ writable.
      charged (size / 16) (give buffer)
      (let tests = and-both (is_key key) (nat_le size 4096) sized in
      let many : length zeros ≡ size = length-replicate size 0 in
      let small : size ≤ 4096 = leb-true size 4096 tests.1 in
      given buffer (record { writable = writable; key = key-tested key tests.0; fits = omega (arith, many, small) }))))

  operate-kept : (operator : BinOp) (left right : Value) → K (meaning.operate operator left right)
  operate-kept op.Or left right = given _ tt
  operate-kept op.And left right = given _ tt
  operate-kept op.Equal left right = given _ tt
  operate-kept op.NotEqual left right = given _ tt
  operate-kept op.Less left right = given _ tt
  operate-kept op.LessEqual left right = given _ tt
  operate-kept op.Greater left right = given _ tt
  operate-kept op.GreaterEqual left right = given _ tt
  operate-kept op.Add left right = given _ tt
  operate-kept op.Subtract left right = given _ tt
  operate-kept op.Multiply left right = given _ tt
  operate-kept op.Divide left right = guarded _ Divide _ (λ _. given _ tt)
  operate-kept op.Remainder left right = guarded _ Divide _ (λ _. given _ tt)

  unless : (decided truth : Bool) (work : Work Value) → K work → K (if decided then give (value.Bool truth) else work)
  unless true truth work rest = given (value.Bool truth) tt
  unless false truth work rest = rest

  binary-kept : (operator : BinOp) (left right : Work Value) → K left → K right → K (meaning.binary operator left right)
  binary-kept operator left right first second =
      next first (λ value. unless (meaning.decides operator value) _ _ (next second (λ other. operate-kept operator value other)))

  abbrev Keeping : Expr → Type 0
  Keeping expression = K (evaluate world expression)

  -- one form, whose operands keep to the rights and the limits
  form-kept : (form : Expr-F ((e : Expr) × Keeping e)) → K (expression_form world (map-Expr Expr (Work Value) (evaluate world) (map-Expr _ Expr (λ e. e.0) form)))
  form-kept (Expr-F.Number number) = given (value.Int number) tt
  form-kept (Expr-F.Str bytes) = given (value.Slice bytes) tt
  form-kept (Expr-F.Truth truth) = given (value.Bool truth) tt
  form-kept (Expr-F.Var name) = variable-kept name
  form-kept Expr-F.Args = given _ tt
  form-kept (Expr-F.Len bytes) = next bytes.1 (λ whole. given _ tt)
  form-kept (Expr-F.View name) = next (variable-kept name) (λ buffer. given (value.Slice (buffer_of buffer)) tt)
  form-kept (Expr-F.Temp size) = next size.1 (λ count. new_temp-kept (number_of count))
  form-kept (Expr-F.Byte bytes place) = next bytes.1 (λ whole. next place.1 (λ at. guarded _ Range _ (λ _. given _ tt)))
  form-kept (Expr-F.Word bytes place) = next bytes.1 (λ whole. next place.1 (λ at. guarded _ Range _ (λ _. given _ tt)))
  form-kept (Expr-F.Sub bytes from count) = next bytes.1 (λ whole. next from.1 (λ first. next count.1 (λ many. guarded _ Range _ (λ _. given _ tt))))
  form-kept (Expr-F.Alloc table key size) = next table.1 (λ number. next key.1 (λ bytes. next size.1 (λ count. new_buffer-kept (number_of number) (bytes_of bytes) (number_of count))))
  form-kept (Expr-F.Not test) = next test.1 (λ truth. given _ tt)
  form-kept (Expr-F.Bin operator left right) = binary-kept operator _ _ left.1 right.1

  pub evaluate-kept : (expression : Expr) → K (evaluate world expression)
  evaluate-kept = ind-Expr Keeping (λ x y is.
      subst (λ z. Keeping (roll-Expr z)) is
      (let z = map-Expr _ Expr (λ e. e.0) y in
      subst (λ work. K work) (sym (evaluate-roll world z)) (form-kept y)))
