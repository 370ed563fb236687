-- Statements and blocks keep to the rights and the limits.
use Rattle.std.specs.Prelude.{IsTrue, ◌&&◌, ◌||◌, ◌==◌, ◌%◌, nat_le, nat_lt, is_some}
use Rattle.std.specs.List.{AllByRecursion}
use Rattle.std.specs.Str.{bytes_eq}
use Rattle.std.proofs.Common.{◌≡◌, ℕ, zero, suc, ◌+◌, ◌≤◌, ◌/◌, Bool, true, false, List, [], ◌∷◌, ◌++◌, map, take, drop, length, Option, Some, None, refl, sym, subst, arith, if◌then◌else◌, length-append, length-drop}
use Rattle.std.proofs.lemmas.Bool.{leb-true}
use Rattle.std.proofs.lemmas.Bool.Decides.{nat_tests}
use Rattle.std.proofs.lemmas.List.{length-take-le}
use Rattle.sp_base.specs.declared.numbers.TableId.{TableId}
use Rattle.sp_base.specs.declared.outcomes.Trap.{Trap}
use Rattle.sp_base.specs.declared.outcomes.Trap.TheVariants.{Range, Size, Denied, Width}
use Rattle.sp_base.specs.declared.rights.Level.{Level}
use Rattle.sp_base.specs.declared.writes.Change.{Change}
use Rattle.sp_base.specs.declared.writes.Change.TheVariants.{Del}
use Rattle.sp_base.specs.declared.writes.Write.{Write}
use Rattle.sp_base.specs.Places.{Place, same_place}
use Rattle.sp_base.specs.RightsList.{can_read, can_write}
use Rattle.ext_mean.specs.declared.expr.Expr.{Expr}
use Rattle.ext_mean.specs.declared.state.Local.{Local}
use Rattle.ext_mean.specs.declared.state.State.{State}
use Rattle.ext_mean.specs.declared.state.Value.{Value}
use Rattle.ext_mean.specs.declared.state.Value.TheVariants as value
use Rattle.ext_mean.specs.declared.statement.Statement.{Statement}
use Rattle.ext_mean.specs.declared.statement.Block.{Block}
use Rattle.ext_mean.specs.declared.statement.Statement.TheViews.{roll-Statement, roll-Block}
use Rattle.ext_mean.specs.declared.statement.Statement.TheOpen.{Statement-F, Block-F}
use Rattle.ext_mean.specs.declared.statement.Statement.TheFolds.{ind-Block, map-Statement, map-Block}
use Rattle.ext_mean.specs.MeaningValues.{is_key, buffer_of, with_bytes, overwritten, number_of, bytes_of, truth_of, word_bytes, pieces, place_changed, pending, changed, assigned, declared, left_by}
use Rattle.ext_mean.specs.MeaningExpressions.{evaluate}
use Rattle.ext_mean.specs.MeaningStatements as meaning
use Rattle.ext_mean.specs.MeaningStatements.{Course, Calls, execute, run_block, statement_step, statement_form, block_step, behind, one_by_one}
use Rattle.ext_mean.specs.Work.{World, Next, Work, after, ◌>>=◌, give, look, charge, require}
use Rattle.ext_mean.proofs.Equations.{execute-roll, run_block-roll}
use Rattle.ext_mean.proofs.Keeping as keeping
use Rattle.ext_mean.proofs.Keeping.{IsAllowed, Holds, LocalHolds, Keeps, StepKeeps, Any}
use Rattle.ext_mean.proofs.KeepingExpressions as values
use Rattle.ext_mean.proofs.Places.{changed-distinct}
use Rattle.ext_mean.proofs.WantsProved.{key-tested}

-- lists, each item of which is within the rights and the limits
all-append : {A : Type 0} (P : A → Type 0) (xs ys : List A) → AllByRecursion P xs → AllByRecursion P ys → AllByRecursion P (xs ++ ys)
all-append P [] ys first second = second
all-append P (x ∷ xs) ys first second = (first.0, all-append P xs ys first.1 second)

all-take : {A : Type 0} (P : A → Type 0) (count : ℕ) (xs : List A) → AllByRecursion P xs → AllByRecursion P (take count xs)
all-take P zero xs all = tt
all-take P (suc count) [] all = tt
all-take P (suc count) (x ∷ xs) all = (all.0, all-take P count xs all.1)

all-one : {A : Type 0} (P : A → Type 0) (test : Bool) (xs ys : List A) → AllByRecursion P xs → AllByRecursion P ys → AllByRecursion P (if test then xs else ys)
all-one P true xs ys first second = first
all-one P false xs ys first second = second

assigned-holds : (rights : List (TableId × Level)) (name : List ℕ) (new : Value) (locals : List Local) → Holds rights new → AllByRecursion (LocalHolds rights) locals → AllByRecursion (LocalHolds rights) (assigned name new locals)
assigned-holds rights name new [] holds all = tt
assigned-holds rights name new (first ∷ rest) holds all =
    all-one (LocalHolds rights) (bytes_eq first.name name) (record first { value = new } ∷ rest) (first ∷ assigned name new rest)
    (holds, all.1) (all.0, assigned-holds rights name new rest holds all.1)

-- the changes after one more are allowed, and are no more than one more
changed-allowed : (rights : List (TableId × Level)) (new : Write) (writes : List Write) → IsAllowed rights new → AllByRecursion (IsAllowed rights) writes → AllByRecursion (IsAllowed rights) (changed new writes)
changed-allowed rights new [] allowed all = (allowed, tt)
changed-allowed rights new (write ∷ writes) allowed all =
    all-one (IsAllowed rights) (same_place (place_changed write) (place_changed new)) (new ∷ writes) (write ∷ changed new writes)
    (allowed, all.1) (all.0, changed-allowed rights new writes allowed all.1)

-- the length after one more: the same where something was pending at its place
abbrev grown : Bool → ℕ → ℕ
grown pending length = if pending then length else (length + 1)

grown-behind : (same : Bool) (change : Change) (later : Option Change) (new write : Write) (rest more : List Write)
    → length more ≡ grown (is_some later) (length rest)
    → length (if same then (new ∷ rest) else (write ∷ more)) ≡ grown (is_some (if same then Some change else later)) (length (write ∷ rest))
grown-behind true change later new write rest more e = omega arith
grown-behind false change None new write rest more e = omega (arith, e)
grown-behind false change (Some other) new write rest more e = omega (arith, e)

changed-length : (new : Write) (writes : List Write) → length (changed new writes) ≡ grown (is_some (pending (place_changed new) writes)) (length writes)
changed-length new [] = omega arith
changed-length new (write ∷ writes) =
    grown-behind (same_place (place_changed write) (place_changed new)) write.change (pending (place_changed new) writes) new write writes (changed new writes)
    (changed-length new writes)

-- where something is pending at its place or fewer than 64 are, there are at most 64 after it
room : (pending : Bool) (before count : ℕ) → count ≡ grown pending before → before ≤ 64 → IsTrue (pending || nat_lt before 64) → count ≤ 64
room true before count e few test = omega (arith, e, few)
room false before count e few test = grind (arith, nat_tests, e, few, test)

-- bytes written over others inside them leave their length
overwritten-length : (bytes : List ℕ) (place : ℕ) (written : List ℕ) → place + length written ≤ length bytes → length (overwritten bytes place written) ≡ length bytes
overwritten-length bytes place written fits =
    let front = length-take-le place bytes (omega (arith, fits)) in
    let inner = length-append (take place bytes) written in
    let whole = length-append (take place bytes ++ written) (drop (place + length written) bytes) in
    let rest = length-drop (place + length written) bytes in
    omega (arith, fits, front, inner, whole, rest)

-- the same buffer with as many bytes
with_bytes-holds : (rights : List (TableId × Level)) (buffer : Value) (bytes : List ℕ) → length bytes ≡ length (buffer_of buffer) → Holds rights buffer → Holds rights (with_bytes buffer bytes)
with_bytes-holds rights (value.Int number) bytes same holds = tt
with_bytes-holds rights (value.Bool truth) bytes same holds = tt
with_bytes-holds rights (value.Slice old) bytes same holds = tt
with_bytes-holds rights (value.Buf buffer) bytes same holds =
    let small : length buffer.bytes ≤ 4096 = holds.fits in
    record { writable = holds.writable; key = holds.key; fits = omega (arith, same, small) }
with_bytes-holds rights (value.Temp old) bytes same holds = tt

-- what a statement returned, where it did
abbrev pub Returns : List (TableId × Level) → Option Value → Type 0
Returns rights (Some value) = Holds rights value
Returns rights None = Unit {0}

module _ (world : World) where
  abbrev rights : List (TableId × Level)
  rights = world.view.rights

  abbrev pub Kept : {A : Type 0} → (A → Type 0) → Work A → Type 0
  Kept Q work = keeping.Kept rights Q work

  -- the work of a value, of a statement, and of a change
  abbrev Valued : Work Value → Type 0
  Valued work = Kept (Holds rights) work

  abbrev pub Coursed : Course → Type 0
  Coursed course = Kept (Returns rights) course

  abbrev Done : Work (Unit {0}) → Type 0
  Done work = Kept Any work

  none : Coursed (give None)
  none = keeping.given rights (Returns rights) None tt

  done : Done (give (tt {0}))
  done = keeping.given rights Any tt tt

  guarded : {B : Type 0} {Q : B → Type 0} (test : Bool) (trap : Trap) (work : Work B) → (IsTrue test → Kept Q work) → Kept Q (require test trap >>= (λ _. work))
  guarded {Q = Q} = keeping.guarded rights {Q = Q}

  charged : {B : Type 0} {Q : B → Type 0} (units : ℕ) (work : Work B) → Kept Q work → Kept Q (charge world units >>= (λ _. work))
  charged {Q = Q} = keeping.charged rights {Q = Q} world

  next : {A B : Type 0} (P : A → Type 0) {Q : B → Type 0} {work : Work A} {more : A → Work B} → Kept P work → ((value : A) → P value → Kept Q (more value)) → Kept Q (work >>= more)
  next P {Q = Q} {work = work} {more = more} = keeping.next rights P {Q = Q} {work = work} {more = more}

  -- an operand, and what is made of its value
  operand : {B : Type 0} {Q : B → Type 0} (expression : Expr) {more : Value → Work B} → ((value : Value) → Holds rights value → Kept Q (more value)) → Kept Q (evaluate world expression >>= more)
  operand {Q = Q} expression {more = more} rest =
      keeping.next rights (Holds rights) {Q = Q} {work = evaluate world expression} {more = more} (values.evaluate-kept world expression) rest

  behind-kept : (rest : Course) → Coursed rest → (returned : Option Value) → Returns rights returned → Coursed (behind rest returned)
  behind-kept rest kept (Some value) holds = keeping.given rights (Returns rights) (Some value) holds
  behind-kept rest kept None holds = kept

  list-kept : {A : Type 0} (course : A → Course) → ((a : A) → Coursed (course a)) → (list : List A) → Coursed (one_by_one (map course list))
  list-kept course each [] = none
  list-kept course each (a ∷ list) = next (Returns rights) (each a) (behind-kept _ (list-kept course each list))

  -- changes of the variables
  locals-kept : {A : Type 0} (Q : A → Type 0) (value : A) (state : State) (locals : List Local) → Keeps rights state → AllByRecursion (LocalHolds rights) locals → Q value → StepKeeps rights Q (Next value (record state { locals = locals }))
  locals-kept Q value state locals keeps all holds =
      let after : Keeps rights (record state { locals = locals }) =
      record { reply = keeps.reply; few = keeps.few; writes = keeps.writes; distinct = keeps.distinct; locals = all } in
      record { fact = (after, holds) }

  declare-kept : (name : List ℕ) (value : Value) → Holds rights value → Done (meaning.declare name value)
  declare-kept name value holds state keeps =
      locals-kept Any tt state (declared name value state.locals) keeps
      (all-append (LocalHolds rights) state.locals (record { name = name; value = value } ∷ []) keeps.locals (holds, tt)) tt

  assign-kept : (name : List ℕ) (value : Value) → Holds rights value → Done (meaning.assign name value)
  assign-kept name value holds state keeps =
      locals-kept Any tt state (assigned name value state.locals) keeps
      (assigned-holds rights name value state.locals holds keeps.locals) tt

  scoped-kept : (course : Course) → Coursed course → Coursed (meaning.scoped course)
  scoped-kept course kept state keeps =
      keeping.behind-kept rights (Returns rights) (Returns rights) (course state) _ (kept state keeps)
      (λ returned holds later keeps'.
      locals-kept (Returns rights) returned later (take (length state.locals) later.locals) keeps'
      (all-take (LocalHolds rights) (length state.locals) later.locals keeps'.locals) holds)

  -- reads
  found-kept : (place : Place) (change : Option Change) → Kept Any (meaning.found world place change)
  found-kept place (Some change) = keeping.given rights Any (left_by change) tt
  found-kept place None = keeping.known-kept rights (world.view.known place) place

  read-kept : (table : ℕ) (key : List ℕ) → Kept Any (meaning.read world table key)
  read-kept table key =
      let place : Place = record { table = table; key = key } in
      let finding : Work (Option (List ℕ)) = look >>= (λ state. meaning.found world place (pending place state.writes)) in
      guarded (can_read rights table) Denied (charge world 16 >>= (λ _. finding)) (λ _.
      charged 16 finding (λ state keeps. found-kept place (pending place state.writes) state keeps))

  arm-kept : (name : List ℕ) (found-block none-block : Course) → Coursed found-block → Coursed none-block → (answer : Option (List ℕ)) → Coursed (meaning.arm name found-block none-block answer)
  arm-kept name found-block none-block some other (Some bytes) =
      scoped-kept _ (next Any (declare-kept name (value.Slice bytes) tt) (λ _ _. some))
  arm-kept name found-block none-block some other None = other

  get-kept : (table : ℕ) (key : List ℕ) → Kept Any (meaning.get world table key)
  get-kept table key = guarded (is_key key) Size _ (λ _. read-kept table key)

  multiget-kept : (table : ℕ) (keys : List ℕ) (width : ℕ) (arms : Option (List ℕ) → Course) → ((answer : Option (List ℕ)) → Coursed (arms answer)) → Coursed (meaning.multiget world table keys width arms)
  multiget-kept table keys width arms kept =
      guarded (nat_le 1 width && nat_le width 64 && (length keys % width == 0)) Width _ (λ _.
      list-kept (λ key. meaning.read world table key >>= arms) (λ key. next Any (read-kept table key) (λ answer _. kept answer)) (pieces (length keys / width) width keys))

  branch-kept : (one other : Course) → Coursed one → Coursed other → (test : Value) → Coursed (meaning.branch one other test)
  branch-kept one other first second test = chosen (truth_of test)
    where
      chosen : (truth : Bool) → Coursed (if truth then one else other)
      chosen true = first
      chosen false = second

  turns-kept : (left : ℕ) (test : Work Value) (body : Course) → Valued test → Coursed body → Coursed (meaning.turns world left test body)
  turns-kept zero test body test-kept body-kept state keeps = keeping.spent rights (Returns rights)
  turns-kept (suc left) test body test-kept body-kept state keeps =
      charged 1 _ (next (Holds rights) test-kept (λ truth _.
      branch-kept _ _ (next (Returns rights) body-kept (behind-kept _ (turns-kept left test body test-kept body-kept))) none truth)) state keeps

  -- changes of records and of the reply
  write-cases : (test : Bool) (new : Write) (state : State) → Keeps rights state → IsAllowed rights new
      → (IsTrue test → length (changed new state.writes) ≤ 64)
      → StepKeeps rights Any (after (require test Size state) (λ _ later. Next (tt {0}) (record state { writes = changed new state.writes })))
  write-cases true new state keeps allowed few =
      let after : Keeps rights (record state { writes = changed new state.writes }) =
      record { reply = keeps.reply; few = few refl; writes = changed-allowed rights new state.writes allowed keeps.writes; distinct = changed-distinct new state.writes keeps.distinct; locals = keeps.locals } in
      record { fact = (after, tt) }
  write-cases false new state keeps allowed few = keeping.trapped rights Any Size state.used

  write-kept : (new : Write) → IsAllowed rights new → Done (meaning.write new)
  write-kept new allowed state keeps =
      write-cases (is_some (pending (place_changed new) state.writes) || nat_lt (length state.writes) 64) new state keeps allowed
      (room (is_some (pending (place_changed new) state.writes)) (length state.writes) (length (changed new state.writes)) (changed-length new state.writes) keeps.few)

  put-kept : (buffer : Value) → Holds rights buffer → Done (meaning.put buffer)
  put-kept (value.Int number) holds = done
  put-kept (value.Bool truth) holds = done
  put-kept (value.Slice bytes) holds = done
  put-kept (value.Buf buffer) holds = write-kept _ holds
  put-kept (value.Temp bytes) holds = done

  del-kept : (table : ℕ) (key : List ℕ) → Done (meaning.del world table key)
  del-kept table key =
      let deletion : Write = record { table = record { 0 = table }; key = key; change = Del } in
      guarded (is_key key) Size (require (can_write rights table) Denied >>= (λ _. meaning.write deletion)) (λ sized.
      guarded (can_write rights table) Denied (meaning.write deletion) (λ writable.
      write-kept deletion (record { writable = writable; key = key-tested key sized; fits = tt })))

  resp-cases : (test : Bool) (bytes : List ℕ) (state : State) → Keeps rights state
      → (IsTrue test → length state.reply + length bytes ≤ 4096)
      → StepKeeps rights Any (after (require test Size state) (λ _ later. Next (tt {0}) (record state { reply = state.reply ++ bytes })))
  resp-cases true bytes state keeps fits =
      let many = length-append state.reply bytes in
      let room = fits refl in
      let after : Keeps rights (record state { reply = state.reply ++ bytes }) =
      record { reply = omega (arith, many, room); few = keeps.few; writes = keeps.writes; distinct = keeps.distinct; locals = keeps.locals } in
      record { fact = (after, tt) }
  resp-cases false bytes state keeps fits = keeping.trapped rights Any Size state.used

  resp-kept : (bytes : List ℕ) → Done (meaning.resp bytes)
  resp-kept bytes state keeps =
      resp-cases (nat_le (length state.reply + length bytes) 4096) bytes state keeps (leb-true (length state.reply + length bytes) 4096)

  overwrite-kept : (name : List ℕ) (place : ℕ) (bytes : List ℕ) → Done (meaning.overwrite name place bytes)
  overwrite-kept name place bytes =
      next (Holds rights) (values.variable-kept world name) (λ buffer holds.
      let old = buffer_of buffer in
      let new = with_bytes buffer (overwritten old place bytes) in
      guarded (nat_le (place + length bytes) (length old)) Range (meaning.assign name new) (λ test.
      let inside = leb-true (place + length bytes) (length old) test in
      assign-kept name new (with_bytes-holds rights buffer (overwritten old place bytes) (overwritten-length old place bytes inside) holds)))

  byte-kept : (name : List ℕ) (place byte : ℕ) → Done (require (nat_lt byte 256) Range >>= (λ _. meaning.overwrite name place (byte ∷ [])))
  byte-kept name place byte =
      guarded (nat_lt byte 256) Range (meaning.overwrite name place (byte ∷ [])) (λ _. overwrite-kept name place (byte ∷ []))

  goes-on-kept : (work : Work (Unit {0})) → Done work → Coursed (meaning.goes_on work)
  goes-on-kept work kept = next Any kept (λ _ _. none)

  -- calls whose arguments are within the rights and the limits
  abbrev pub CallsKeep : Calls → Type 0
  CallsKeep calls = (name : List ℕ) (arguments : List Value) → AllByRecursion (Holds rights) arguments → Valued (calls name arguments)

  module _ (calls : Calls) (calls-kept : CallsKeep calls) where
    abbrev StatementKept : Statement → Type 0
    StatementKept statement = Coursed (execute world calls statement)

    abbrev BlockKept : Block → Type 0
    BlockKept block = Coursed (run_block world calls block)

    abbrev Inner : Type 0
    Inner = Statement-F ((s : Statement) × StatementKept s) ((b : Block) × BlockKept b)

    abbrev plain : Inner → Statement-F Statement Block
    plain form = map-Statement _ _ Statement Block (λ e. e.0) (λ e. e.0) form

    form-kept : (form : Inner) → Coursed (statement_form world calls (map-Statement Statement Block Course Course (execute world calls) (run_block world calls) (plain form)))
    form-kept (Statement-F.Let name kind expression) = goes-on-kept _ (operand expression (declare-kept name))
    form-kept (Statement-F.LetCall name kind function args) =
        goes-on-kept _ (next (AllByRecursion (Holds rights)) (keeping.in_order-kept rights (evaluate world) (values.evaluate-kept world) args) (λ arguments all.
        next (Holds rights) (calls-kept function arguments all) (declare-kept name)))
    form-kept (Statement-F.Assign name expression) = goes-on-kept _ (operand expression (assign-kept name))
    form-kept (Statement-F.If test one other) = operand test (λ truth _. branch-kept _ _ one.1 other.1 truth)
    form-kept (Statement-F.While test body) = turns-kept world.budget (evaluate world test) _ (values.evaluate-kept world test) body.1
    form-kept (Statement-F.Get table key name one other) =
        operand table (λ number _. operand key (λ bytes _. next Any (get-kept (number_of number) (bytes_of bytes)) (λ answer _. arm-kept name _ _ one.1 other.1 answer)))
    form-kept (Statement-F.Multi table keys width name one other) =
        operand table (λ number _. operand keys (λ bytes _. operand width (λ wide _. multiget-kept (number_of number) (bytes_of bytes) (number_of wide) _ (arm-kept name _ _ one.1 other.1))))
    form-kept (Statement-F.Set name place expression) =
        goes-on-kept _ (operand place (λ at _. operand expression (λ byte _. byte-kept name (number_of at) (number_of byte))))
    form-kept (Statement-F.Set8 name place expression) =
        goes-on-kept _ (operand place (λ at _. operand expression (λ word _. overwrite-kept name (number_of at) (word_bytes (number_of word)))))
    form-kept (Statement-F.Copy name place source) =
        goes-on-kept _ (operand place (λ at _. operand source (λ bytes _. overwrite-kept name (number_of at) (bytes_of bytes))))
    form-kept (Statement-F.Put name) = goes-on-kept _ (next (Holds rights) (values.variable-kept world name) put-kept)
    form-kept (Statement-F.Del table key) = goes-on-kept _ (operand table (λ number _. operand key (λ bytes _. del-kept (number_of number) (bytes_of bytes))))
    form-kept (Statement-F.Resp expression) = goes-on-kept _ (operand expression (λ bytes _. resp-kept (bytes_of bytes)))
    form-kept (Statement-F.Return expression) = operand expression (λ result holds. keeping.given rights (Returns rights) (Some result) holds)

    statement-case : (x : Statement-F Statement Block) (y : Inner) → plain y ≡ x → StatementKept (roll-Statement x)
    statement-case x y is =
        subst (λ z. StatementKept (roll-Statement z)) is
        (subst (λ course. Coursed course) (sym (execute-roll world calls (plain y))) (charged 1 _ (form-kept y)))

    abbrev InnerBlock : Type 0
    InnerBlock = Block-F ((s : Statement) × StatementKept s) ((b : Block) × BlockKept b)

    abbrev plain-block : InnerBlock → Block-F Statement Block
    plain-block form = map-Block _ _ Statement Block (λ e. e.0) (λ e. e.0) form

    items-kept : (items : List ((s : Statement) × StatementKept s)) → Coursed (one_by_one (map (execute world calls) (map (λ e. e.0) items)))
    items-kept [] = none
    items-kept (item ∷ items) = next (Returns rights) item.1 (behind-kept _ (items-kept items))

    block-case : (x : Block-F Statement Block) (y : InnerBlock) → plain-block y ≡ x → BlockKept (roll-Block x)
    block-case x y is =
        subst (λ z. BlockKept (roll-Block z)) is
        (subst (λ course. Coursed course) (sym (run_block-roll world calls (plain-block y))) (scoped-kept _ (items-kept y.items)))

    pub run_block-kept : (block : Block) → BlockKept block
    run_block-kept = ind-Block StatementKept BlockKept statement-case block-case
