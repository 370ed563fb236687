-- What the last instructions of an expression make of its operands.
use Rattle.std.specs.Prelude.{◌/◌, ◌&&◌, ◌%◌, nat_lt}
use Rattle.std.proofs.Common.{◌≡◌, ℕ, ◌+◌, ◌≤◌, Bool, true, false, not, List, [], ◌∷◌, ◌++◌, length, replicate, refl, sym, ap, subst, arith, if◌then◌else◌, nat_le, slice_index}
use Rattle.std.proofs.lemmas.Bool.{leb-true, leb-false, le-leb, le-ltb, lt-ltb, lt-leb, ltb-true, ltb-false}
use Rattle.sp_base.specs.declared.outcomes.Trap.{Trap}
use Rattle.sp_base.specs.declared.outcomes.Trap.TheVariants.{Range, Divide, Size, Denied}
use Rattle.sp_base.specs.RightsList.{can_write}
use Rattle.ext_mean.specs.declared.expr.BinOp.{BinOp}
use Rattle.ext_mean.specs.declared.expr.BinOp.TheVariants as operator
use Rattle.ext_mean.specs.declared.run.Run.TheVariants.{Trapped, Spent}
use Rattle.ext_mean.specs.declared.state.State.{State}
use Rattle.ext_mean.specs.declared.state.Value.{Value}
use Rattle.ext_mean.specs.declared.state.Value.TheVariants as value
use Rattle.ext_mean.specs.declared.statement.Kind.{Kind}
use Rattle.ext_mean.specs.declared.statement.Kind.TheVariants as kind
use Rattle.ext_mean.specs.declared.tree.Param.{Param}
use Rattle.ext_mean.specs.MeaningValues.{number_of, truth_of, bytes_of, word_of, part_of, same_value, is_key}
use Rattle.ext_mean.specs.MeaningExpressions.{operate, byte_at, word_at, sub_at, new_temp, new_buffer}
use Rattle.ext_mean.specs.Work.{Next, Ends, Work, after, ◌>>=◌, give, charge, require}
use Rattle.gen_code.specs.declared.op.Op.{Op}
use Rattle.gen_code.specs.declared.op.Op.TheVariants as op
use Rattle.gen_code.specs.Codes.{equality, operator_ops}
use Rattle.gen_code.specs.Machine as machine
use Rattle.gen_code.specs.Machine.{Progress, perform}
use Rattle.gen_law.proofs.Following.{Machine, Follow, over, raised}
use Rattle.gen_law.proofs.Standing as standing
use Rattle.gen_law.proofs.Standing.{Here, InScope, Scoped, at, config, pushed}
use Rattle.gen_law.proofs.Operands as operands

pub not-not : (b : Bool) → not (not b) ≡ b
not-not true = refl
not-not false = refl

not-less-equal-cases : (left right : ℕ) (b : Bool) → nat_le left right ≡ b → not b ≡ nat_lt right left
not-less-equal-cases left right true is = sym (le-ltb right left (leb-true left right is))
not-less-equal-cases left right false is = sym (lt-ltb right left (leb-false left right is))

not-less-equal : (left right : ℕ) → not (nat_le left right) ≡ nat_lt right left
not-less-equal left right = not-less-equal-cases left right (nat_le left right) refl

not-less-cases : (left right : ℕ) (b : Bool) → nat_lt left right ≡ b → not b ≡ nat_le right left
not-less-cases left right true is = sym (lt-leb right left (ltb-true left right is))
not-less-cases left right false is = sym (le-leb right left (ltb-false left right is))

not-less : (left right : ℕ) → not (nat_lt left right) ≡ nat_le right left
not-less left right = not-less-cases left right (nat_lt left right) refl

module _ (m : Machine) (here : Here) where
  abbrev Makes : List Op → List Value → Work Value → Type 0
  Makes ops taken work = operands.Makes m here ops taken work

  -- one instruction, by what it does
  pub single : (instruction : Op) (taken : List Value) (work : Work Value)
      → ((scope : List Param) (pc stop : ℕ) (stack : List Value) (state : State) → pc + 1 ≡ stop → InScope scope state.locals → state.used ≤ m.world.budget
      → Follow m state.used 0 (perform m.code m.world instruction (config here pc (taken ++ stack) state)) (Scoped scope) (pushed here stop stack) (work state))
      → Makes (instruction ∷ []) taken work
  single instruction taken work does scope base stop stack state has ends scoped fits =
      standing.instructed m here state.used 0 1 base (taken ++ stack) state instruction (work state) has.0 (omega arith)
      (does scope base stop stack state ends scoped fits)

  -- one instruction that makes a value
  pub makes : (instruction : Op) (taken : List Value) (made : Value)
      → ((pc : ℕ) (stack : List Value) (state : State) → perform m.code m.world instruction (config here pc (taken ++ stack) state) ≡ at here (pc + 1) (made ∷ stack) state)
      → Makes (instruction ∷ []) taken (give made)
  makes instruction taken made same =
      single instruction taken (give made) (λ scope pc stop stack state ends scoped fits.
      subst (λ p. Follow m state.used 0 p (Scoped scope) (pushed here stop stack) (Next made state)) (sym (same pc stack state))
      (standing.valued m here scope (pc + 1) stop 0 stack made state ends scoped fits))

  -- a test, and then a value
  tests : (test : Bool) (trap : Trap) (made : Value) (scope : List Param) (pc stop : ℕ) (stack : List Value) (state : State)
      → pc + 1 ≡ stop → InScope scope state.locals → state.used ≤ m.world.budget
      → Follow m state.used 0 (machine.does (config here pc stack state) (require test trap >>= (λ _. give made)) machine.pushes) (Scoped scope) (pushed here stop stack)
      (after (require test trap state) (λ _. give made))
  tests true trap made scope pc stop stack state ends scoped fits = standing.valued m here scope (pc + 1) stop 0 stack made state ends scoped fits
  tests false trap made scope pc stop stack state ends scoped fits = over m (Trapped trap state.used) state.used 0 fits

  -- a charge, and then a value
  charges : (enough : Bool) (units : ℕ) (made : Value) (scope : List Param) (pc stop : ℕ) (stack : List Value) (state : State)
      → (enough ≡ true → state.used + units ≤ m.world.budget)
      → pc + 1 ≡ stop → InScope scope state.locals → state.used ≤ m.world.budget
      → Follow m state.used 0
      (machine.behind (config here pc stack state) machine.pushes (after (if enough then Next (tt {0}) (record (machine.state_of (config here pc stack state)) { used = state.used + units }) else Ends Spent) (λ _. give made)))
      (Scoped scope) (pushed here stop stack) (after (if enough then Next (tt {0}) (record state { used = state.used + units }) else Ends Spent) (λ _. give made))
  charges true units made scope pc stop stack state within ends scoped fits =
      let later : State = record state { used = state.used + units } in
      raised m state.used later.used 0 (at here (pc + 1) (made ∷ stack) later) (Next made later) (omega arith)
      (standing.valued m here scope (pc + 1) stop 0 stack made later ends scoped (within refl))
  charges false units made scope pc stop stack state within ends scoped fits = over m Spent state.used 0 fits

  charges-now : (units : ℕ) (made : Value) (scope : List Param) (pc stop : ℕ) (stack : List Value) (state : State)
      → pc + 1 ≡ stop → InScope scope state.locals → state.used ≤ m.world.budget
      → Follow m state.used 0 (machine.does (config here pc stack state) (charge m.world units >>= (λ _. give made)) machine.pushes) (Scoped scope) (pushed here stop stack)
      (after (charge m.world units state) (λ _. give made))
  charges-now units made scope pc stop stack state =
      charges (nat_le (state.used + units) m.world.budget) units made scope pc stop stack state (leb-true (state.used + units) m.world.budget)

  -- a test, and then a work
  tests-first : (test : Bool) (trap : Trap) (work : Work Value) (scope : List Param) (pc stop : ℕ) (stack : List Value) (state : State)
      → state.used ≤ m.world.budget
      → Follow m state.used 0 (machine.does (config here pc stack state) work machine.pushes) (Scoped scope) (pushed here stop stack) (work state)
      → Follow m state.used 0 (machine.does (config here pc stack state) (require test trap >>= (λ _. work)) machine.pushes) (Scoped scope) (pushed here stop stack) (after (require test trap state) (λ _. work))
  tests-first true trap work scope pc stop stack state fits follow = follow
  tests-first false trap work scope pc stop stack state fits follow = over m (Trapped trap state.used) state.used 0 fits

  pub byte-made : (bytes place : Value) → Makes (op.Byte ∷ []) (place ∷ bytes ∷ []) (byte_at (bytes_of bytes) (number_of place))
  byte-made bytes place = single op.Byte (place ∷ bytes ∷ []) _ (tests (nat_lt (number_of place) (length (bytes_of bytes))) Range (value.Int (slice_index (bytes_of bytes) (number_of place))))

  pub word-made : (bytes place : Value) → Makes (op.Word ∷ []) (place ∷ bytes ∷ []) (word_at (bytes_of bytes) (number_of place))
  word-made bytes place = single op.Word (place ∷ bytes ∷ []) _ (tests (nat_le (number_of place + 8) (length (bytes_of bytes))) Range (value.Int (word_of (part_of (bytes_of bytes) (number_of place) 8))))

  pub sub-made : (bytes from count : Value) → Makes (op.Sub ∷ []) (count ∷ from ∷ bytes ∷ []) (sub_at (bytes_of bytes) (number_of from) (number_of count))
  sub-made bytes from count = single op.Sub (count ∷ from ∷ bytes ∷ []) _ (tests (nat_le (number_of from + number_of count) (length (bytes_of bytes))) Range (value.Slice (part_of (bytes_of bytes) (number_of from) (number_of count))))

  pub temp-made : (size : Value) → Makes (op.Temp ∷ []) (size ∷ []) (new_temp m.world (number_of size))
  temp-made size = single op.Temp (size ∷ []) _ (λ scope pc stop stack state ends scoped fits.
      let count = number_of size in
      let made = value.Temp (replicate count 0) in
      tests-first (nat_le count 4096) Size (charge m.world (count / 16) >>= (λ _. give made)) scope pc stop stack state fits
      (charges-now (count / 16) made scope pc stop stack state ends scoped fits))

  pub alloc-made : (table key size : Value) → Makes (op.Alloc ∷ []) (size ∷ key ∷ table ∷ []) (new_buffer m.world (number_of table) (bytes_of key) (number_of size))
  alloc-made table key size = single op.Alloc (size ∷ key ∷ table ∷ []) _ (λ scope pc stop stack state ends scoped fits.
      let count = number_of size in
      let made = value.Buf (record { table = record { 0 = number_of table }; key = bytes_of key; bytes = replicate count 0 }) in
      let charging : Work Value = charge m.world (count / 16) >>= (λ _. give made) in
      tests-first (is_key (bytes_of key) && nat_le count 4096) Size (require (can_write m.world.view.rights (number_of table)) Denied >>= (λ _. charging)) scope pc stop stack state fits
      (tests-first (can_write m.world.view.rights (number_of table)) Denied charging scope pc stop stack state fits
      (charges-now (count / 16) made scope pc stop stack state ends scoped fits)))

  -- a truth that is turned over behind one instruction
  then-not : (instruction : Op) (taken : List Value) (first : Bool) (made : Value)
      → ((pc : ℕ) (stack : List Value) (state : State) → perform m.code m.world instruction (config here pc (taken ++ stack) state) ≡ at here (pc + 1) (value.Bool first ∷ stack) state)
      → value.Bool (not first) ≡ made
      → Makes (instruction ∷ op.Not ∷ []) taken (give made)
  then-not instruction taken first made same turn scope base stop stack state has ends scoped fits =
      standing.instructed m here state.used 1 2 base (taken ++ stack) state instruction (Next made state) has.0 (omega arith)
      (subst (λ p. Follow m state.used 1 p (Scoped scope) (pushed here stop stack) (Next made state)) (sym (same base stack state))
      (standing.instructed m here state.used 0 1 (base + 1) (value.Bool first ∷ stack) state op.Not (Next made state) has.1.0 (omega arith)
      (subst (λ v. Follow m state.used 0 (at here (base + 1 + 1) (value.Bool (not first) ∷ stack) state) (Scoped scope) (pushed here stop stack) (Next v state)) turn
      (standing.valued m here scope (base + 1 + 1) stop 0 stack (value.Bool (not first)) state (omega (arith, ends)) scoped fits))))

  -- the two sides of `&&` and `||` that are looked at
  pub truth-made : (taken : Value) → Makes (op.Not ∷ op.Not ∷ []) (taken ∷ []) (give (value.Bool (truth_of taken)))
  truth-made taken = then-not op.Not (taken ∷ []) (not (truth_of taken)) (value.Bool (truth_of taken)) (λ pc stack state. refl) (ap value.Bool (not-not (truth_of taken)))

  equal-made : (type : Kind) (left right : Value) → Makes (equality type ∷ []) (right ∷ left ∷ []) (operate operator.Equal left right)
  equal-made kind.Int left right = makes op.EqInt (right ∷ left ∷ []) _ (λ pc stack state. refl)
  equal-made kind.Bool left right = makes op.EqBool (right ∷ left ∷ []) _ (λ pc stack state. refl)
  equal-made kind.Slice left right = makes op.EqSlice (right ∷ left ∷ []) _ (λ pc stack state. refl)
  equal-made kind.Buf left right = makes op.EqSlice (right ∷ left ∷ []) _ (λ pc stack state. refl)
  equal-made kind.Temp left right = makes op.EqSlice (right ∷ left ∷ []) _ (λ pc stack state. refl)

  unequal-made : (type : Kind) (left right : Value) → Makes (equality type ∷ op.Not ∷ []) (right ∷ left ∷ []) (operate operator.NotEqual left right)
  unequal-made kind.Int left right = then-not op.EqInt (right ∷ left ∷ []) (same_value left right) _ (λ pc stack state. refl) refl
  unequal-made kind.Bool left right = then-not op.EqBool (right ∷ left ∷ []) (same_value left right) _ (λ pc stack state. refl) refl
  unequal-made kind.Slice left right = then-not op.EqSlice (right ∷ left ∷ []) (same_value left right) _ (λ pc stack state. refl) refl
  unequal-made kind.Buf left right = then-not op.EqSlice (right ∷ left ∷ []) (same_value left right) _ (λ pc stack state. refl) refl
  unequal-made kind.Temp left right = then-not op.EqSlice (right ∷ left ∷ []) (same_value left right) _ (λ pc stack state. refl) refl

  -- an operator that looks at both sides
  abbrev OperatorMade : BinOp → Kind → Value → Value → Type 0
  OperatorMade operator.Or type left right = Unit {0}
  OperatorMade operator.And type left right = Unit {0}
  OperatorMade other type left right = Makes (operator_ops other type) (right ∷ left ∷ []) (operate other left right)

  pub operator-made : (other : BinOp) (type : Kind) (left right : Value) → OperatorMade other type left right
  operator-made operator.Or type left right = tt
  operator-made operator.And type left right = tt
  operator-made operator.Equal type left right = equal-made type left right
  operator-made operator.NotEqual type left right = unequal-made type left right
  operator-made operator.Less type left right = makes op.Less (right ∷ left ∷ []) _ (λ pc stack state. refl)
  operator-made operator.LessEqual type left right = makes op.LessEq (right ∷ left ∷ []) _ (λ pc stack state. refl)
  operator-made operator.Greater type left right =
      then-not op.LessEq (right ∷ left ∷ []) (nat_le (number_of left) (number_of right)) _ (λ pc stack state. refl) (ap value.Bool (not-less-equal (number_of left) (number_of right)))
  operator-made operator.GreaterEqual type left right =
      then-not op.Less (right ∷ left ∷ []) (nat_lt (number_of left) (number_of right)) _ (λ pc stack state. refl) (ap value.Bool (not-less (number_of left) (number_of right)))
  operator-made operator.Add type left right = makes op.Add (right ∷ left ∷ []) _ (λ pc stack state. refl)
  operator-made operator.Subtract type left right = makes op.Minus (right ∷ left ∷ []) _ (λ pc stack state. refl)
  operator-made operator.Multiply type left right = makes op.Times (right ∷ left ∷ []) _ (λ pc stack state. refl)
  operator-made operator.Divide type left right =
      single op.Over (right ∷ left ∷ []) _ (tests (nat_lt 0 (number_of right)) Divide (value.Int (number_of left / number_of right)))
  operator-made operator.Remainder type left right =
      single op.Rest (right ∷ left ∷ []) _ (tests (nat_lt 0 (number_of right)) Divide (value.Int (number_of left % number_of right)))
