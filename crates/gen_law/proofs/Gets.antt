-- The machine follows `get` and `multiget`.
use Rattle.std.proofs.Common.{◌≡◌, ℕ, ◌+◌, ◌≤◌, Bool, true, false, List, [], ◌∷◌, ◌++◌, length, Option, Some, None, refl, subst, arith, if◌then◌else◌, nat_le, length-append, append-nil}
use Rattle.std.proofs.lemmas.Bool.{leb-true}
use Rattle.sp_base.specs.declared.outcomes.Trap.TheVariants.{Size, Denied}
use Rattle.sp_base.specs.declared.writes.Change.{Change}
use Rattle.sp_base.specs.Places.{Place}
use Rattle.sp_base.specs.RightsList.{can_read}
use Rattle.ext_mean.specs.declared.run.Run.TheVariants.{Trapped, Spent, Wants}
use Rattle.ext_mean.specs.declared.state.State.{State}
use Rattle.ext_mean.specs.declared.state.Value.{Value}
use Rattle.ext_mean.specs.declared.state.Value.TheVariants as value
use Rattle.ext_mean.specs.declared.statement.Kind.TheVariants as kind
use Rattle.ext_mean.specs.declared.tree.Param.{Param}
use Rattle.ext_mean.specs.MeaningValues.{number_of, bytes_of, pending, left_by, is_key}
use Rattle.ext_mean.specs.MeaningStatements.{Course, arm, get, scoped, declare, found, read, forget}
use Rattle.ext_mean.specs.Typing.{arm_name}
use Rattle.ext_mean.specs.Work.{Step, Next, Ends, Work, after, ◌>>=◌, give, charge, require, known_or_wanted}
use Rattle.gen_code.specs.declared.op.Op.{Op}
use Rattle.gen_code.specs.declared.op.Op.TheVariants as op
use Rattle.gen_code.specs.Codes.{Coder, ◌▸◌, found_code, get_code}
use Rattle.gen_code.specs.Machine as machine
use Rattle.gen_code.specs.Machine.{Asker, ForGet, ForMulti, Config, Progress, Going, Over, Reading, once, op_at, perform}
use Rattle.gen_law.proofs.Following.{Machine, Follow, arrived, over, turned, refunded, bind, wider}
use Rattle.gen_law.proofs.Standing as standing
use Rattle.gen_law.proofs.Standing.{Here, InScope, at, config, HasAt, values}
use Rattle.gen_law.proofs.Slots.{locals-length}
use Rattle.gen_law.proofs.Operands as operands
use Rattle.gen_law.proofs.Courses as courses
use Rattle.gen_law.proofs.Courses.{onto, Leaves, Behind, reached}
use Rattle.gen_law.proofs.Blocks as blocks
use Rattle.gen_law.proofs.Acts as acts
use Rattle.gen_law.proofs.Branches as branches

module _ (m : Machine) (here : Here) where
  -- the machine has paid for a read
  abbrev pub asking : Place → Asker → ℕ → List Value → State → Config
  asking place asker pc stack state = record (config here pc stack state) { doing = Reading place asker }

  -- where the answer of a read leads
  abbrev pub answered : Place → Asker → ℕ → List Value → Option (List ℕ) → State → Progress
  answered place asker pc stack answer state = machine.answers asker answer (asking place asker pc stack state)

  abbrev Known : List Param → Option (List ℕ) → State → Type 0
  Known scope answer state = InScope scope state.locals

  known-follows : (known : Option (Option (List ℕ))) (place : Place) (asker : Asker) (scope : List Param) (pc : ℕ) (stack : List Value) (state : State) → state.used ≤ m.world.budget → InScope scope state.locals
      → Follow m state.used 0 (machine.does (asking place asker pc stack state) (known_or_wanted known place) (machine.answers asker)) (Known scope) (answered place asker pc stack) (known_or_wanted known place state)
  known-follows (Some answer) place asker scope pc stack state fits scoped = arrived m {P = Known scope} {K = answered place asker pc stack} answer state 0 fits scoped
  known-follows None place asker scope pc stack state fits scoped = over m (Wants (record { 0 = place.table }) place.key state.used) state.used 0 fits

  -- the record that was asked
  found-follows : (change : Option Change) (place : Place) (asker : Asker) (scope : List Param) (pc : ℕ) (stack : List Value) (state : State) → state.used ≤ m.world.budget → InScope scope state.locals
      → Follow m state.used 0 (machine.does (asking place asker pc stack state) (found m.world place change) (machine.answers asker)) (Known scope) (answered place asker pc stack) (found m.world place change state)
  found-follows (Some change) place asker scope pc stack state fits scoped = arrived m {P = Known scope} {K = answered place asker pc stack} (left_by change) state 0 fits scoped
  found-follows None place asker scope pc stack state fits scoped = known-follows (m.world.view.known place) place asker scope pc stack state fits scoped

  -- the state behind the units of a read
  abbrev paid : State → State
  paid state = record state { used = state.used + 16 }

  abbrev asks : Place → Asker → Unit {0} → Config → Progress
  asks place asker value later = Going (record later { doing = Reading place asker })

  pay-cases : {A : Type 0} {P : A → State → Type 0} {K : A → State → Progress} (enough : Bool) (place : Place) (asker : Asker) (scope : List Param) (slack pc : ℕ) (stack : List Value) (state : State) (more : Option (List ℕ) → Work A)
      → (enough ≡ true → state.used + 16 ≤ m.world.budget) → state.used ≤ m.world.budget → InScope scope state.locals → slack + 1 ≤ m.cost
      → ((answer : Option (List ℕ)) (later : State) → state.used ≤ later.used → later.used ≤ m.world.budget → InScope scope later.locals → Follow m later.used slack (answered place asker pc stack answer later) P K (more answer later))
      → Follow m state.used 0 (machine.behind (config here pc stack state) (asks place asker) (if enough then Next (tt {0}) (record (machine.state_of (config here pc stack state)) { used = state.used + 16 }) else Ends Spent)) P K
      (after (after (if enough then Next (tt {0}) (paid state) else Ends Spent) (λ _ later. found m.world place (pending place later.writes) later)) more)
  pay-cases true place asker scope slack pc stack state more enough fits scoped pays rest =
      let later = paid state in
      let within = enough refl in
      let there = asking place asker pc stack later in
      let finding : Step (Option (List ℕ)) = found m.world place (pending place state.writes) later in
      refunded m state.used later.used (slack + 1) 0 (Going there) (after finding more) (omega arith) (omega arith)
      (turned m later.used slack (slack + 1) (Going there) (machine.does there (found m.world place (pending place state.writes)) (machine.answers asker)) (after finding more) refl (omega arith)
      (bind m (Known scope) (answered place asker pc stack) later.used 0 slack slack (machine.does there (found m.world place (pending place state.writes)) (machine.answers asker)) finding more (omega arith)
      (found-follows (pending place state.writes) place asker scope pc stack later within scoped)
      (λ answer last grows within' scoped'. rest answer last (omega (arith, grows)) within' scoped')))
  pay-cases false place asker scope slack pc stack state more enough fits scoped pays rest = over m Spent state.used 0 fits

  read-cases : {A : Type 0} {P : A → State → Type 0} {K : A → State → Progress} (readable : Bool) (place : Place) (asker : Asker) (scope : List Param) (slack pc : ℕ) (stack : List Value) (state : State) (more : Option (List ℕ) → Work A)
      → state.used ≤ m.world.budget → InScope scope state.locals → slack + 1 ≤ m.cost
      → ((answer : Option (List ℕ)) (later : State) → state.used ≤ later.used → later.used ≤ m.world.budget → InScope scope later.locals → Follow m later.used slack (answered place asker pc stack answer later) P K (more answer later))
      → Follow m state.used 0 (machine.does (config here pc stack state) (require readable Denied >>= (λ _. charge m.world 16)) (asks place asker)) P K
      (after (after (require readable Denied state) (λ _. charge m.world 16 >>= (λ _ later. found m.world place (pending place later.writes) later))) more)
  read-cases true place asker scope slack pc stack state more fits scoped pays rest =
      pay-cases (nat_le (state.used + 16) m.world.budget) place asker scope slack pc stack state more (leb-true (state.used + 16) m.world.budget) fits scoped pays rest
  read-cases false place asker scope slack pc stack state more fits scoped pays rest = over m (Trapped Denied state.used) state.used 0 fits

  -- a read, whose units pay for the turns behind it
  pub read-then : {A : Type 0} {P : A → State → Type 0} {K : A → State → Progress} (place : Place) (asker : Asker) (scope : List Param) (slack pc : ℕ) (stack : List Value) (state : State) (more : Option (List ℕ) → Work A)
      → state.used ≤ m.world.budget → InScope scope state.locals → slack + 1 ≤ m.cost
      → ((answer : Option (List ℕ)) (later : State) → state.used ≤ later.used → later.used ≤ m.world.budget → InScope scope later.locals → Follow m later.used slack (answered place asker pc stack answer later) P K (more answer later))
      → Follow m state.used 0 (machine.reads m.world place asker (config here pc stack state)) P K (after (read m.world place.table place.key state) more)
  read-then place asker scope slack pc stack state more fits scoped pays rest =
      read-cases (can_read m.world.view.rights place.table) place asker scope slack pc stack state more fits scoped pays rest

  -- the arm of a record that is there
  pub arm-found : (name : List ℕ) (block : Coder) (one other : Course) (bytes : List ℕ) (scope : List Param) (base stop : ℕ) (stack : List Value) (state : State)
      → courses.Block m here block one → standing.Has m here base (found_code name block scope base) → base + length (found_code name block scope base) ≡ stop
      → length (found_code name block scope base) + 3 ≤ m.cost → InScope scope state.locals → state.used ≤ m.world.budget
      → Follow m state.used 3 (at here base (value.Slice bytes ∷ stack) state) (Leaves scope) (onto here stop stack) (arm name one other (Some bytes) state)
  arm-found name block one other bytes scope base stop stack state matches has ends cost names fits =
      let inner = scope ++ arm_name name in
      let ops = block inner (base + 1) in
      let last : List Op = op.Drop (length scope) ∷ [] in
      let parts = standing.split m here (base + 1) ops last has.1 in
      let many = length-append ops last in
      let depth = length state.locals in
      let ending : Option Value → Work (Option Value) = λ returned. forget depth >>= (λ _. give returned) in
      bind m (Behind inner) (reached here (base + 1) stack) state.used 1 2 3 (at here base (value.Slice bytes ∷ stack) state) (declare name (value.Slice bytes) state) (λ _ later. after (one later) ending) (omega arith)
      (acts.store-declares m here (record { name = name; kind = kind.Slice }) scope 1 base (base + 1) stack (value.Slice bytes) state has.0 refl fits names (omega arith))
      (λ _ later grows within names'.
      bind m (Leaves (inner ++ [])) (onto here (base + 1 + length ops) stack) later.used 1 1 2 (at here (base + 1) stack later) (one later) ending (omega arith)
      (matches inner (base + 1) (base + 1 + length ops) stack later parts.0 refl (omega (arith, many, cost)) names' within)
      (λ returned last' grows' within' leaves.
      blocks.block-returned m here (arm_name name) scope (base + 1 + length ops) stop depth stack returned last' parts.1 (omega (arith, many, ends)) (locals-length scope state.locals names) within'
      (subst (λ out. Leaves out returned last') (append-nil inner) leaves)))

  -- the arms of a `get`
  get-arms : (name : List ℕ) (block block' : Coder) (one other : Course) (answer : Option (List ℕ)) (place : Place) (scope : List Param) (base stop : ℕ) (stack : List Value) (state : State)
      → courses.Block m here block one → courses.Block m here block' other
      → standing.Has m here base (get_code name block block' scope base) → base + length (get_code name block block' scope base) ≡ stop
      → length (get_code name block block' scope base) + 3 ≤ m.cost → InScope scope state.locals → state.used ≤ m.world.budget
      → Follow m state.used 4 (answered place (ForGet (base + 1 + length (found_code name block scope (base + 1)) + 1)) base stack answer state) (Leaves scope) (onto here stop stack) (arm name one other answer state)
  get-arms name block block' one other (Some bytes) place scope base stop stack state matches matches' has ends cost names fits =
      let first = found_code name block scope (base + 1) in
      let next = base + 1 + length first + 1 in
      let second = block' scope next in
      let jump : List Op = op.Jump (next + length second) ∷ second in
      let parts = standing.split m here (base + 1) first jump has.1 in
      let many = length-append first jump in
      subst (λ n. Follow m state.used 4 (at here (base + 1) (value.Slice bytes ∷ stack) state) (Leaves scope) (onto here n stack) (arm name one other (Some bytes) state)) (omega (arith, many, ends))
      (branches.then-jump m here scope 3 state.used (base + 1 + length first) (next + length second) stack (at here (base + 1) (value.Slice bytes ∷ stack) state) (arm name one other (Some bytes) state) parts.1.0
      (arm-found name block one other bytes scope (base + 1) (base + 1 + length first) stack state matches parts.0 refl (omega (arith, many, cost)) names fits))
  get-arms name block block' one other None place scope base stop stack state matches matches' has ends cost names fits =
      let first = found_code name block scope (base + 1) in
      let next = base + 1 + length first + 1 in
      let second = block' scope next in
      let jump : List Op = op.Jump (next + length second) ∷ second in
      let parts = standing.split m here (base + 1) first jump has.1 in
      let many = length-append first jump in
      wider m state.used 1 4 (at here next stack state) (other state) (omega arith)
      (subst (λ out. Follow m state.used 1 (at here next stack state) (Leaves out) (onto here stop stack) (other state)) (append-nil scope)
      (matches' scope next stop stack state parts.1.1 (omega (arith, many, ends)) (omega (arith, many, cost)) names fits))

  -- the key of a `get`, and then its read
  get-cases : (sized : Bool) (name : List ℕ) (block block' : Coder) (one other : Course) (table key : Value) (scope : List Param) (base stop : ℕ) (stack : List Value) (state : State)
      → courses.Block m here block one → courses.Block m here block' other
      → standing.Has m here base (get_code name block block' scope base) → base + length (get_code name block block' scope base) ≡ stop
      → length (get_code name block block' scope base) + 3 ≤ m.cost → 5 ≤ m.cost → InScope scope state.locals → state.used ≤ m.world.budget
      → Follow m state.used 0
      (machine.does (config here base (key ∷ table ∷ stack) state) (require sized Size) (λ _ later. machine.reads m.world (record { table = number_of table; key = bytes_of key }) (ForGet (base + 1 + length (found_code name block scope (base + 1)) + 1)) (record later { stack = stack })))
      (Leaves scope) (onto here stop stack)
      (after (after (require sized Size state) (λ _. read m.world (number_of table) (bytes_of key))) (arm name one other))
  get-cases true name block block' one other table key scope base stop stack state matches matches' has ends cost pays names fits =
      let place : Place = record { table = number_of table; key = bytes_of key } in
      read-then place (ForGet (base + 1 + length (found_code name block scope (base + 1)) + 1)) scope 4 base stack state (arm name one other) fits names (omega (arith, pays))
      (λ answer later grows within names'. get-arms name block block' one other answer place scope base stop stack later matches matches' has ends cost names' within)
  get-cases false name block block' one other table key scope base stop stack state matches matches' has ends cost pays names fits =
      over m (Trapped Size state.used) state.used 0 fits

  -- `get`
  pub get-form : (name : List ℕ) (left right block block' : Coder) (work work' : Work Value) (one other : Course)
      → operands.Gives m here left work → operands.Gives m here right work' → courses.Block m here block one → courses.Block m here block' other
      → courses.Form m here (left ▸ (right ▸ get_code name block block')) []
      (work >>= (λ number. work' >>= (λ bytes. get m.world (number_of number) (bytes_of bytes) >>= arm name one other)))
  get-form name left right block block' work work' one other gives gives' matches matches' scope base stop stack state has ends room names fits =
      let first = left scope base in
      let next = right scope (base + length first) in
      let pc = base + length first + length next in
      let last = get_code name block block' scope pc in
      let parts = standing.split m here base first (next ++ last) has in
      let parts' = standing.split m here (base + length first) next last parts.1 in
      let many = length-append first (next ++ last) in
      let many' = length-append next last in
      let target = pc + 1 + length (found_code name block scope (pc + 1)) + 1 in
      branches.same-scope m here scope (length (first ++ (next ++ last)) + 3) (at here base stack state) state.used stop stack _
      (operands.operand m here left work (λ number. work' >>= (λ bytes. get m.world (number_of number) (bytes_of bytes) >>= arm name one other)) gives scope base (length next + 1) (length (first ++ (next ++ last)) + 3) stack state parts.0 names fits (omega (arith, many, many'))
      (λ number later grows names' within.
      operands.operand m here right work' (λ bytes. get m.world (number_of number) (bytes_of bytes) >>= arm name one other) gives' scope (base + length first) 1 (length next + 1) (number ∷ stack) later parts'.0 names' within (omega arith)
      (λ bytes later' grows' names'' within'.
      standing.instructed m here later'.used 0 1 pc (bytes ∷ number ∷ stack) later' (op.Get target) _ parts'.1.0 (omega arith)
      (get-cases (is_key (bytes_of bytes)) name block block' one other number bytes scope pc stop stack later' matches matches' parts'.1 (omega (arith, many, many', ends)) (omega (arith, many, many', room)) (omega (arith, many, many', room)) names'' within'))))
