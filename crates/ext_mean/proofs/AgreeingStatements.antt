-- Statements and blocks agree in a world and in one that grew from it.
use Rattle.std.proofs.Common.{◌≡◌, ◌⊎◌, inl, inr, ℕ, zero, suc, ◌+◌, ◌*◌, ◌≤◌, ◌/◌, ◌%◌, Bool, true, false, List, [], ◌∷◌, map, take, drop, Option, Some, None, refl, sym, subst, arith, if◌then◌else◌, nat_le, length-drop}
use Rattle.std.specs.Prelude.{IsTrue, length, nat_lt, ◌&&◌, ◌||◌, ◌==◌, is_some}
use Rattle.std.proofs.Math.Nat.{div-mul-le_self}
use Rattle.sp_base.specs.declared.outcomes.Trap.{Trap}
use Rattle.sp_base.specs.declared.outcomes.Trap.TheVariants.{Range, Size, Denied, Width}
use Rattle.sp_base.specs.declared.writes.Write.{Write}
use Rattle.sp_base.specs.declared.writes.Change.TheVariants.{Del}
use Rattle.sp_base.specs.Places.{Place}
use Rattle.sp_base.specs.RightsList.{can_write}
use Rattle.ext_mean.specs.declared.expr.Expr.{Expr}
use Rattle.ext_mean.specs.declared.run.Run.{Run}
use Rattle.ext_mean.specs.declared.run.Run.TheVariants.{Trapped, Spent}
use Rattle.ext_mean.specs.declared.state.State.{State}
use Rattle.ext_mean.specs.declared.state.Value.{Value}
use Rattle.ext_mean.specs.declared.state.Value.TheVariants as value
use Rattle.ext_mean.specs.declared.statement.Statement.{Statement}
use Rattle.ext_mean.specs.declared.statement.Block.{Block}
use Rattle.ext_mean.specs.declared.statement.Statement.TheViews.{roll-Statement, roll-Block}
use Rattle.ext_mean.specs.declared.statement.Statement.TheOpen.{Statement-F, Block-F}
use Rattle.ext_mean.specs.declared.statement.Statement.TheFolds.{ind-Statement, ind-Block, map-Statement, map-Block}
use Rattle.ext_mean.specs.MeaningValues.{is_key, buffer_of, with_bytes, overwritten, number_of, bytes_of, truth_of, word_bytes, pieces, place_changed, pending}
use Rattle.ext_mean.specs.MeaningExpressions.{evaluate}
use Rattle.ext_mean.specs.MeaningStatements as meaning
use Rattle.ext_mean.specs.MeaningStatements.{Course, Calls, execute, run_block, statement_step, statement_form, block_step, behind, one_by_one}
use Rattle.ext_mean.specs.Work.{World, Step, Next, Ends, Work, after, ◌>>=◌, give, charge, require}
use Rattle.ext_mean.proofs.Agreement.{Mark, mark, Uses, Owes, Reaches, owes-later, owes-reaches, reaches-less, Owing, uses-none, grown, Grows, Agree, behind-later, behind-step, later}
use Rattle.ext_mean.proofs.AgreeingWork as works
use Rattle.ext_mean.proofs.AgreeingExpressions as expressions
use Rattle.ext_mean.proofs.Pieces.{is_key-take, width-tested}
use Rattle.ext_mean.proofs.Equations.{execute-roll, run_block-roll}

-- works that owe what they are to owe, one after another
owing-after : {A B : Type 0} (world : World) (before : ℕ) (step : Step A) (more : A → Work B) → Owes world before (mark step) → ((value : A) → Owing world (more value)) → Owes world before (mark (after step more))
owing-after world before (Next value state) more owes rest = owes-later world before state.used (mark (more value state)) owes (rest value state)
owing-after world before (Ends run) more owes rest = owes

module _ (free : Run → Mark → Type 0) (small : World) (budget : ℕ) (known : Place → Option (Option (List ℕ))) (grows : Grows free small budget known) where
  abbrev large : World
  large = grown small budget known

  abbrev R : {A : Type 0} → Work A → Work A → Type 0
  R first second = works.R free small budget known grows first second

  given : {A : Type 0} (value : A) → R (give value) (give value)
  given value = works.given free small budget known grows value

  same-step : {A : Type 0} (before : ℕ) (step : Step A) → Owes large before (mark step) → Agree free large before step step
  same-step = works.same-step free small budget known grows

  guarded : {B : Type 0} (test : Bool) (trap : Trap) (m m' : Work B) → (IsTrue test → R m m') → R (require test trap >>= (λ _. m)) (require test trap >>= (λ _. m'))
  guarded = works.guarded free small budget known grows

  next : {A B : Type 0} {m m' : Work A} {k k' : A → Work B} → R m m' → ((value : A) → R (k value) (k' value)) → R (m >>= k) (m' >>= k')
  next {m = m} {m' = m'} {k = k} {k' = k'} = works.next free small budget known grows {m = m} {m' = m'} {k = k} {k' = k'}

  charged : {B : Type 0} (units : ℕ) (m m' : Work B) → R m m' → R (charge small units >>= (λ _. m)) (charge large units >>= (λ _. m'))
  charged = works.charged free small budget known grows

  evaluated : (expression : Expr) → R (evaluate small expression) (evaluate large expression)
  evaluated = expressions.evaluate-agrees free small budget known grows

  behind-agrees : (rest rest' : Course) → R rest rest' → (returned : Option Value) → R (behind rest returned) (behind rest' returned)
  behind-agrees rest rest' related (Some value) = given (Some value)
  behind-agrees rest rest' related None = related

  list-agrees : {A : Type 0} (first second : A → Course) → ((a : A) → R (first a) (second a)) → (list : List A) → R (one_by_one (map first list)) (one_by_one (map second list))
  list-agrees first second each [] = given None
  list-agrees first second each (a ∷ list) = next (each a) (behind-agrees _ _ (list-agrees first second each list))

  -- changes of the state's other parts
  declare-agrees : (name : List ℕ) (value : Value) → R (meaning.declare name value) (meaning.declare name value)
  declare-agrees name value state = same-step state.used (meaning.declare name value state) (uses-none large state.used)

  assign-agrees : (name : List ℕ) (value : Value) → R (meaning.assign name value) (meaning.assign name value)
  assign-agrees name value state = same-step state.used (meaning.assign name value state) (uses-none large state.used)

  abbrev becoming : State → Unit {0} → Work (Unit {0})
  becoming new value state = Next value new

  checked : (test : Bool) (trap : Trap) (state new : State) → new.used ≡ state.used → Agree free large state.used (after (require test trap state) (becoming new)) (after (require test trap state) (becoming new))
  checked true trap state new e = same-step state.used (Next tt new) (subst (λ u. Uses large state.used u) (sym e) (uses-none large state.used))
  checked false trap state new e = same-step state.used (Ends (Trapped trap state.used)) (uses-none large state.used)

  write-agrees : (new : Write) → R (meaning.write new) (meaning.write new)
  write-agrees new state = checked (is_some (pending (place_changed new) state.writes) || nat_lt (length state.writes) 64) Size state _ refl

  resp-agrees : (bytes : List ℕ) → R (meaning.resp bytes) (meaning.resp bytes)
  resp-agrees bytes state = checked (nat_le (length state.reply + length bytes) 4096) Size state _ refl

  put-agrees : (buffer : Value) → R (meaning.put buffer) (meaning.put buffer)
  put-agrees (value.Int number) = given tt
  put-agrees (value.Bool truth) = given tt
  put-agrees (value.Slice bytes) = given tt
  put-agrees (value.Buf buffer) = write-agrees _
  put-agrees (value.Temp bytes) = given tt

  del-agrees : (table : ℕ) (key : List ℕ) → R (meaning.del small table key) (meaning.del large table key)
  del-agrees table key =
      let deletion : Write = record { table = record { 0 = table }; key = key; change = Del } in
      let checked-write : World → Work (Unit {0}) = λ world. require (can_write small.view.rights table) Denied >>= (λ _. meaning.write deletion) in
      guarded (is_key key) Size (checked-write small) (checked-write large) (λ _.
      guarded (can_write small.view.rights table) Denied (meaning.write deletion) (meaning.write deletion) (λ _. write-agrees deletion))

  overwrite-agrees : (name : List ℕ) (place : ℕ) (bytes : List ℕ) → R (meaning.overwrite name place bytes) (meaning.overwrite name place bytes)
  overwrite-agrees name place bytes =
      next (expressions.variable-agrees free small budget known grows name)
      (λ buffer.
      let old = buffer_of buffer in
      let work : Work (Unit {0}) = meaning.assign name (with_bytes buffer (overwritten old place bytes)) in
      guarded (nat_le (place + length bytes) (length old)) Range work work (λ _. assign-agrees name (with_bytes buffer (overwritten old place bytes))))

  byte-agrees : (name : List ℕ) (place byte : ℕ) → R (require (nat_lt byte 256) Range >>= (λ _. meaning.overwrite name place (byte ∷ []))) (require (nat_lt byte 256) Range >>= (λ _. meaning.overwrite name place (byte ∷ [])))
  byte-agrees name place byte =
      guarded (nat_lt byte 256) Range (meaning.overwrite name place (byte ∷ [])) (meaning.overwrite name place (byte ∷ []))
      (λ _. overwrite-agrees name place (byte ∷ []))

  scoped-agrees : (course course' : Course) → R course course' → R (meaning.scoped course) (meaning.scoped course')
  scoped-agrees course course' related state =
      behind-step free small budget known grows state.used (course state) (course' state) _ _ (related state)
      (λ returned later. same-step later.used (Next returned (record later { locals = take (length state.locals) later.locals })) (uses-none large later.used))

  arm-agrees : (name : List ℕ) (found-block found-block' none-block none-block' : Course) → R found-block found-block' → R none-block none-block' → (answer : Option (List ℕ)) → R (meaning.arm name found-block none-block answer) (meaning.arm name found-block' none-block' answer)
  arm-agrees name found-block found-block' none-block none-block' some none (Some bytes) = scoped-agrees _ _ (next (declare-agrees name (value.Slice bytes)) (λ _. some))
  arm-agrees name found-block found-block' none-block none-block' some none None = none

  get-agrees : (table : ℕ) (key : List ℕ) → R (meaning.get small table key) (meaning.get large table key)
  get-agrees table key = guarded (is_key key) Size _ _ (λ sized. works.read-agrees free small budget known grows table key sized)

  pieces-agree : (table : ℕ) (arms arms' : Option (List ℕ) → Course) → ((answer : Option (List ℕ)) → R (arms answer) (arms' answer)) → (count width : ℕ) (keys : List ℕ) → 1 ≤ width → width ≤ 64 → count * width ≤ length keys
      → R (one_by_one (map (λ key. meaning.read small table key >>= arms) (pieces count width keys))) (one_by_one (map (λ key. meaning.read large table key >>= arms') (pieces count width keys)))
  pieces-agree table arms arms' related zero width keys some short fits = given None
  pieces-agree table arms arms' related (suc count) width keys some short fits =
      let first : width ≤ length keys = omega arith in
      let rest : count * width ≤ length (drop width keys) = omega (arith, length-drop width keys) in
      next (next (works.read-agrees free small budget known grows table (take width keys) (is_key-take width keys some short first)) related)
      (behind-agrees _ _ (pieces-agree table arms arms' related count width (drop width keys) some short rest))

  multiget-agrees : (table : ℕ) (keys : List ℕ) (width : ℕ) (arms arms' : Option (List ℕ) → Course) → ((answer : Option (List ℕ)) → R (arms answer) (arms' answer)) → R (meaning.multiget small table keys width arms) (meaning.multiget large table keys width arms')
  multiget-agrees table keys width arms arms' related =
      guarded (nat_le 1 width && nat_le width 64 && (length keys % width == 0)) Width _ _ (λ test.
      let wide = width-tested width keys test in
      pieces-agree table arms arms' related (length keys / width) width keys wide.some wide.short (div-mul-le_self (length keys) width))

  branch-agrees : (one one' other other' : Course) → R one one' → R other other' → (test : Value) → R (meaning.branch one other test) (meaning.branch one' other' test)
  branch-agrees one one' other other' one-related other-related test = chosen (truth_of test)
    where
      chosen : (truth : Bool) → R (if truth then one else other) (if truth then one' else other')
      chosen true = one-related
      chosen false = other-related

  behind-owes : (rest : Course) → Owing large rest → (returned : Option Value) → Owing large (behind rest returned)
  behind-owes rest owes (Some value) state = uses-none large state.used
  behind-owes rest owes None state = owes state

  turn-owes : (truth : Bool) (body rest : Course) → Owing large body → Owing large rest → Owing large (if truth then (body >>= behind rest) else give None)
  turn-owes true body rest body-owes owes state = owing-after large state.used (body state) (behind rest) (body-owes state) (behind-owes rest owes)
  turn-owes false body rest body-owes owes state = uses-none large state.used

  -- a turn of a loop behind its unit, whose test, body and further turns owe what they are to owe
  turn-owing : (test : Work Value) (body rest : Course) → Owing large test → Owing large body → Owing large rest
      → Owing large (test >>= meaning.branch (body >>= behind rest) (give None))
  turn-owing test body rest test-owes body-owes rest-owes state =
      owing-after large state.used (test state) _ (test-owes state) (λ truth tested.
      turn-owes (truth_of truth) body rest body-owes rest-owes tested)

  -- the turns of a loop whose test and body owe what they are to owe
  turns-owe : (left : ℕ) (test : Work Value) (body : Course) → Owing large test → Owing large body → Owing large (meaning.turns large left test body)
  turns-owe zero test body test-owes body-owes state = tt
  turns-owe (suc left) test body test-owes body-owes state =
      owing-after large state.used (charge large 1 state) _ (works.charge-owes free small budget known grows 1 state)
      (λ _. turn-owing test body (meaning.turns large left test body) test-owes body-owes (turns-owe left test body test-owes body-owes))

  charge-reaches : {B : Type 0} (fits : Bool) (units : ℕ) (state : State) (more : Work B) → Owing large more
      → Reaches (state.used + units) (mark (after (if fits then Next (tt {0}) (record state { used = state.used + units }) else Ends Spent) (λ _. more)))
  charge-reaches true units state more owes =
      owes-reaches large (state.used + units) (mark (more (record state { used = state.used + units }))) (owes (record state { used = state.used + units }))
  charge-reaches false units state more owes = tt

  -- so many more turns than the first run's end it no earlier than its budget does
  abbrev Bounded : ℕ → ℕ → ℕ → Type 0
  Bounded left left' used =
      (left' ≡ left) ⊎ (((m : Mark) → Reaches (small.budget + 1) m → free Spent m) × (small.budget ≤ used + left))

  still-bounded : (left left' before used : ℕ) → before + 1 ≤ used → Bounded (suc left) (suc left') before → Bounded left left' used
  still-bounded left left' before used grown bounded =
      elim bounded [ inl e ↦ inl (omega arith) | inr f ↦ inr (f.0, omega (arith, f.1)) ]

  followed : (returned : Option Value) (state : State) (rest rest' : Course) → Agree free large state.used (rest state) (rest' state)
      → Agree free large state.used (behind rest returned state) (behind rest' returned state)
  followed (Some value) state rest rest' agree = same-step state.used (Next (Some value) state) (uses-none large state.used)
  followed None state rest rest' agree = agree

  -- a turn that is taken where its test is true, and what stands behind it from then on
  taken : (truth : Bool) (state : State) (body body' rest rest' : Course) → R body body'
      → ((later : State) → state.used ≤ later.used → Agree free large later.used (rest later) (rest' later))
      → Agree free large state.used ((if truth then (body >>= behind rest) else give None) state) ((if truth then (body' >>= behind rest') else give None) state)
  taken true state body body' rest rest' same-body agree =
      behind-later free small budget known grows state.used (body state) (body' state) (behind rest) (behind rest') (same-body state)
      (λ returned later fits. followed returned later rest rest' (agree later fits))
  taken false state body body' rest rest' same-body agree = same-step state.used (Next None state) (uses-none large state.used)

  -- a loop's further turns agree where they are bounded alike
  turns-agree : (left left' : ℕ) → left ≤ left' → (test test' : Work Value) (body body' : Course) → R test test' → R body body'
      → (state : State) → Bounded left left' state.used
      → Agree free large state.used (meaning.turns small left test body state) (meaning.turns large left' test' body' state)
  turns-agree zero zero fits test test' body body' same-test same-body state bounded = same-step state.used (Ends Spent) tt
  turns-agree zero (suc left') fits test test' body body' same-test same-body state bounded =
      let rest = meaning.turns large left' test' body' in
      let more = test' >>= meaning.branch (body' >>= behind rest) (give None) in
      let test-owes : Owing large test' = λ s. (same-test s).owes in
      let body-owes : Owing large body' = λ s. (same-body s).owes in
      let step = meaning.turns large (suc left') test' body' state in
      elim bounded [
        | inl e ↦ absurd (omega arith)
        | inr f ↦ record {
          same = inr (record {
            run = Spent;
            stopped = refl;
            allowed = f.0 (mark step) (reaches-less (small.budget + 1) (state.used + 1) (mark step) (omega (arith, f.1))
                (charge-reaches (nat_le (state.used + 1) budget) 1 state more (turn-owing test' body' rest test-owes body-owes (turns-owe left' test' body' test-owes body-owes))));
          });
          owes = turns-owe (suc left') test' body' test-owes body-owes state;
        }
      ]
  turns-agree (suc left) zero fits test test' body body' same-test same-body state bounded = absurd (omega arith)
  turns-agree (suc left) (suc left') fits test test' body body' same-test same-body state bounded =
      let less : left ≤ left' = omega arith in
      let paid : State = record state { used = state.used + 1 } in
      let rest : Course = meaning.turns small left test body in
      let rest' : Course = meaning.turns large left' test' body' in
      let test-owes : Owing large test' = λ s. (same-test s).owes in
      let body-owes : Owing large body' = λ s. (same-body s).owes in
      works.paying free small budget known grows 1 state
      (λ _. test >>= meaning.branch (body >>= behind rest) (give None)) (λ _. test' >>= meaning.branch (body' >>= behind rest') (give None))
      (owes-reaches large (state.used + 1) (mark ((test' >>= meaning.branch (body' >>= behind rest') (give None)) paid))
      (turn-owing test' body' rest' test-owes body-owes (turns-owe left' test' body' test-owes body-owes) paid))
      (λ bound. later free small budget known grows state.used (state.used + 1) _ _ (record { grows = omega arith; within = λ _. bound })
      (behind-later free small budget known grows paid.used (test paid) (test' paid) _ _ (same-test paid) (λ truth tested tested-later.
      taken (truth_of truth) tested body body' rest rest' same-body (λ s s-later.
      turns-agree left left' less test test' body body' same-test same-body s (still-bounded left left' state.used s.used (omega arith) bounded)))))

  -- a loop whose turns are bounded by the budget
  loops-agree : (test test' : Work Value) (body body' : Course) → R test test' → R body body'
      → R (meaning.turns small small.budget test body) (meaning.turns large budget test' body')
  loops-agree test test' body body' same-test same-body state =
      turns-agree small.budget budget grows.fits test test' body body' same-test same-body state
      (elim grows.spends [ inl e ↦ inl e | inr f ↦ inr (f, omega arith) ])

  goes-on-agrees : (work work' : Work (Unit {0})) → R work work' → R (meaning.goes_on work) (meaning.goes_on work')
  goes-on-agrees work work' related = next related (λ _. given None)

  module _ (calls calls' : Calls) (calls-agree : (name : List ℕ) (values : List Value) → R (calls name values) (calls' name values)) where
    abbrev StatementAgrees : Statement → Type 0
    StatementAgrees statement = R (execute small calls statement) (execute large calls' statement)

    abbrev BlockAgrees : Block → Type 0
    BlockAgrees block = R (run_block small calls block) (run_block large calls' block)

    abbrev Inner : Type 0
    Inner = Statement-F ((s : Statement) × StatementAgrees s) ((b : Block) × BlockAgrees b)

    abbrev plain : Inner → Statement-F Statement Block
    plain form = map-Statement _ _ Statement Block (λ e. e.0) (λ e. e.0) form

    form-agrees : (form : Inner) → R (statement_form small calls (map-Statement Statement Block Course Course (execute small calls) (run_block small calls) (plain form))) (statement_form large calls' (map-Statement Statement Block Course Course (execute large calls') (run_block large calls') (plain form)))
    form-agrees (Statement-F.Let name kind expression) = goes-on-agrees _ _ (next (evaluated expression) (declare-agrees name))
    form-agrees (Statement-F.LetCall name kind function args) = goes-on-agrees _ _ (next (works.in_order-agrees free small budget known grows (evaluate small) (evaluate large) evaluated args) (λ values. next (calls-agree function values) (declare-agrees name)))
    form-agrees (Statement-F.Assign name expression) = goes-on-agrees _ _ (next (evaluated expression) (assign-agrees name))
    form-agrees (Statement-F.If test one other) = next (evaluated test) (branch-agrees _ _ _ _ one.1 other.1)
    form-agrees (Statement-F.While test body) = loops-agree _ _ _ _ (evaluated test) body.1
    form-agrees (Statement-F.Get table key name one other) = next (evaluated table) (λ number. next (evaluated key) (λ bytes. next (get-agrees (number_of number) (bytes_of bytes)) (arm-agrees name _ _ _ _ one.1 other.1)))
    form-agrees (Statement-F.Multi table keys width name one other) = next (evaluated table) (λ number. next (evaluated keys) (λ bytes. next (evaluated width) (λ wide. multiget-agrees (number_of number) (bytes_of bytes) (number_of wide) _ _ (arm-agrees name _ _ _ _ one.1 other.1))))
    form-agrees (Statement-F.Set name place expression) = goes-on-agrees _ _ (next (evaluated place) (λ at. next (evaluated expression) (λ byte. byte-agrees name (number_of at) (number_of byte))))
    form-agrees (Statement-F.Set8 name place expression) = goes-on-agrees _ _ (next (evaluated place) (λ at. next (evaluated expression) (λ word. overwrite-agrees name (number_of at) (word_bytes (number_of word)))))
    form-agrees (Statement-F.Copy name place source) = goes-on-agrees _ _ (next (evaluated place) (λ at. next (evaluated source) (λ bytes. overwrite-agrees name (number_of at) (bytes_of bytes))))
    form-agrees (Statement-F.Put name) = goes-on-agrees _ _ (next (expressions.variable-agrees free small budget known grows name) put-agrees)
    form-agrees (Statement-F.Del table key) = goes-on-agrees _ _ (next (evaluated table) (λ number. next (evaluated key) (λ bytes. del-agrees (number_of number) (bytes_of bytes))))
    form-agrees (Statement-F.Resp expression) = goes-on-agrees _ _ (next (evaluated expression) (λ bytes. resp-agrees (bytes_of bytes)))
    form-agrees (Statement-F.Return expression) = next (evaluated expression) (λ result. given (Some result))

    along : {A : Type 0} {m n m' n' : Work A} → m ≡ n → m' ≡ n' → R n n' → R m m'
    along {m = m} {n = n} {m' = m'} {n' = n'} first second related =
        subst (λ z. R z m') (sym first) (subst (λ z. R n z) (sym second) related)

    statement-case : (x : Statement-F Statement Block) (y : Inner) → plain y ≡ x → StatementAgrees (roll-Statement x)
    statement-case x y is =
        subst (λ z. StatementAgrees (roll-Statement z)) is
        (along (execute-roll small calls (plain y)) (execute-roll large calls' (plain y)) (charged 1 _ _ (form-agrees y)))

    abbrev InnerBlock : Type 0
    InnerBlock = Block-F ((s : Statement) × StatementAgrees s) ((b : Block) × BlockAgrees b)

    abbrev plain-block : InnerBlock → Block-F Statement Block
    plain-block form = map-Block _ _ Statement Block (λ e. e.0) (λ e. e.0) form

    items-agree : (items : List ((s : Statement) × StatementAgrees s)) → R (one_by_one (map (execute small calls) (map (λ e. e.0) items))) (one_by_one (map (execute large calls') (map (λ e. e.0) items)))
    items-agree [] = given None
    items-agree (item ∷ items) = next item.1 (behind-agrees _ _ (items-agree items))

    block-case : (x : Block-F Statement Block) (y : InnerBlock) → plain-block y ≡ x → BlockAgrees (roll-Block x)
    block-case x y is =
        subst (λ z. BlockAgrees (roll-Block z)) is
        (along (run_block-roll small calls (plain-block y)) (run_block-roll large calls' (plain-block y)) (scoped-agrees _ _ (items-agree y.items)))

    pub execute-agrees : (statement : Statement) → StatementAgrees statement
    execute-agrees = ind-Statement StatementAgrees BlockAgrees statement-case block-case

    pub run_block-agrees : (block : Block) → BlockAgrees block
    run_block-agrees = ind-Block StatementAgrees BlockAgrees statement-case block-case
