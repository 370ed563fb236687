-- The machine follows statements with neither a block nor a call.
use Rattle.std.specs.Prelude.{◌||◌, nat_lt, is_some}
use Rattle.std.proofs.Common.{◌≡◌, ℕ, ◌+◌, ◌≤◌, Bool, true, false, List, [], ◌∷◌, ◌++◌, length, refl, sym, subst, arith, nat_le, slice_set, length-append, append-nil}
use Rattle.sp_base.specs.declared.outcomes.Trap.{Trap}
use Rattle.sp_base.specs.declared.outcomes.Trap.TheVariants.{Range, Size, Denied}
use Rattle.sp_base.specs.declared.writes.Change.TheVariants as change
use Rattle.sp_base.specs.declared.writes.Write.{Write}
use Rattle.sp_base.specs.RightsList.{can_write}
use Rattle.ext_mean.specs.declared.run.Run.TheVariants.{Trapped}
use Rattle.ext_mean.specs.declared.state.State.{State}
use Rattle.ext_mean.specs.declared.state.Value.{Value}
use Rattle.ext_mean.specs.declared.state.Value.TheVariants as value
use Rattle.ext_mean.specs.declared.tree.Param.{Param}
use Rattle.ext_mean.specs.MeaningValues.{number_of, bytes_of, buffer_of, with_bytes, overwritten, word_bytes, value_of, assigned, declared, is_key, pending, changed, place_changed}
use Rattle.ext_mean.specs.MeaningExpressions.{variable}
use Rattle.ext_mean.specs.MeaningStatements as meaning
use Rattle.ext_mean.specs.MeaningStatements.{Course, declare, assign, overwrite, put, del, resp}
use Rattle.ext_mean.specs.Work.{Next, Work, after, ◌>>=◌, require}
use Rattle.gen_code.specs.declared.op.Op.{Op}
use Rattle.gen_code.specs.declared.op.Op.TheVariants as op
use Rattle.gen_code.specs.Codes.{Coder, ◌▸◌, emit, on_slot, on_next, slot_of}
use Rattle.gen_code.specs.Machine as machine
use Rattle.gen_code.specs.Machine.{Progress, Going, op_at, perform, slot, stored}
use Rattle.gen_law.proofs.Following.{Machine, Follow, arrived, over}
use Rattle.gen_law.proofs.Standing as standing
use Rattle.gen_law.proofs.Standing.{Here, InScope, at, config, HasAt, values}
use Rattle.gen_law.proofs.Slots.{slot-value, slot-assigned, stored-assigned, assigned-in-scope, stored-declared, declared-in-scope}
use Rattle.gen_law.proofs.Operands as operands
use Rattle.gen_law.proofs.Courses as courses
use Rattle.gen_law.proofs.Courses.{Behind, reached}

module _ (m : Machine) (here : Here) where
  -- the machine has come behind work
  pub placed : (slack pc stop : ℕ) (stack slots : List Value) (scope : List Param) (later : State)
      → slots ≡ values later.locals → pc ≡ stop → later.used ≤ m.world.budget → InScope scope later.locals
      → Follow m later.used slack (Going (record (config here pc stack later) { slots = slots })) (Behind scope) (reached here stop stack) (Next tt later)
  placed slack pc stop stack slots scope later same ends fits scoped =
      subst (λ s. Follow m later.used slack (Going (record (config here pc stack later) { slots = s })) (Behind scope) (reached here stop stack) (Next tt later)) (sym same)
      (subst (λ n. Follow m later.used slack (at here pc stack later) (Behind scope) (reached here n stack) (Next tt later)) ends
      (arrived m {P = Behind scope} {K = reached here pc stack} tt later slack fits scoped))

  nothing-new : (scope : List Param) (later : State) → InScope scope later.locals → InScope (scope ++ []) later.locals
  nothing-new scope later scoped = subst (λ s. InScope s later.locals) (sym (append-nil scope)) scoped

  -- a value that waits becomes a variable
  pub store-declares : (param : Param) (scope : List Param) (slack pc stop : ℕ) (stack : List Value) (own : Value) (state : State)
      → op_at m.code here.function pc ≡ op.Store (length scope) → pc + 1 ≡ stop → state.used ≤ m.world.budget → InScope scope state.locals → 1 ≤ slack
      → Follow m state.used slack (at here pc (own ∷ stack) state) (Behind (scope ++ param ∷ [])) (reached here stop stack) (declare param.name own state)
  store-declares param scope slack pc stop stack own state is ends fits scoped some =
      let later : State = record state { locals = declared param.name own state.locals } in
      standing.instructed m here state.used 0 slack pc (own ∷ stack) state (op.Store (length scope)) (Next tt later) is (omega (arith, some))
      (placed 0 (pc + 1) stop stack (stored (length scope) own (values state.locals)) (scope ++ param ∷ []) later
      (stored-declared scope state.locals param.name own scoped) ends fits (declared-in-scope scope state.locals param own scoped))

  -- `let`
  pub let-works : (param : Param) (coder : Coder) (work : Work Value) → operands.Gives m here coder work → courses.Works m here (coder ▸ on_next op.Store) (param ∷ []) (work >>= declare param.name)
  let-works param coder work gives scope base stop stack state has ends scoped fits =
      let first = coder scope base in
      let store : List Op = op.Store (length scope) ∷ [] in
      let parts = standing.split m here base first store has in
      let many = length-append first store in
      operands.operand m here coder work (declare param.name) gives scope base 1 (length (first ++ store) + 3) stack state parts.0 scoped fits (omega (arith, many))
      (λ own later grows scoped' within. store-declares param scope 1 (base + length first) stop stack own later parts.1.0 (omega (arith, many, ends)) within scoped' (omega arith))

  -- `=`
  pub assign-works : (name : List ℕ) (coder : Coder) (work : Work Value) → operands.Gives m here coder work → courses.Works m here (coder ▸ on_slot op.Store name) [] (work >>= assign name)
  assign-works name coder work gives scope base stop stack state has ends scoped fits =
      let first = coder scope base in
      let store : List Op = op.Store (slot_of scope name) ∷ [] in
      let parts = standing.split m here base first store has in
      let many = length-append first store in
      operands.operand m here coder work (assign name) gives scope base 1 (length (first ++ store) + 3) stack state parts.0 scoped fits (omega (arith, many))
      (λ own later grows scoped' within.
      let last : State = record later { locals = assigned name own later.locals } in
      standing.instructed m here later.used 0 1 (base + length first) (own ∷ stack) later (op.Store (slot_of scope name)) (Next tt last) parts.1.0 (omega arith)
      (placed 0 (base + length first + 1) stop stack (stored (slot_of scope name) own (values later.locals)) (scope ++ []) last
      (stored-assigned scope later.locals name own scoped') (omega (arith, many, ends)) within
      (nothing-new scope last (assigned-in-scope scope later.locals name own scoped'))))

  -- bytes into a buffer, where they are within it
  overwrite-cases : (test : Bool) (new : Value) (name : List ℕ) (scope : List Param) (pc stop : ℕ) (one other : Value) (stack slots : List Value) (state : State)
      → slots ≡ values (assigned name new state.locals) → pc + 1 ≡ stop → state.used ≤ m.world.budget → InScope scope state.locals
      → Follow m state.used 0
      (machine.does (config here pc (one ∷ other ∷ stack) state) (require test Range) (λ _ later. machine.goes_to (later.pc + 1) (record later { slots = slots; stack = stack })))
      (Behind (scope ++ [])) (reached here stop stack) (after (require test Range state) (λ _. assign name new))
  overwrite-cases true new name scope pc stop one other stack slots state same ends fits scoped =
      let later : State = record state { locals = assigned name new state.locals } in
      placed 0 (pc + 1) stop stack slots (scope ++ []) later same ends fits (nothing-new scope later (assigned-in-scope scope state.locals name new scoped))
  overwrite-cases false new name scope pc stop one other stack slots state same ends fits scoped =
      over m (Trapped Range state.used) state.used 0 fits

  pub overwrite-follows : (name : List ℕ) (place : ℕ) (bytes : List ℕ) (scope : List Param) (pc stop : ℕ) (one other : Value) (stack : List Value) (state : State)
      → pc + 1 ≡ stop → state.used ≤ m.world.budget → InScope scope state.locals
      → Follow m state.used 0 (machine.overwrites (config here pc (one ∷ other ∷ stack) state) (slot_of scope name) place bytes)
      (Behind (scope ++ [])) (reached here stop stack) (overwrite name place bytes state)
  overwrite-follows name place bytes scope pc stop one other stack state ends fits scoped =
      let own = slot (values state.locals) (slot_of scope name) in
      let new : Value → Value = λ buffer. with_bytes buffer (overwritten (buffer_of buffer) place bytes) in
      subst (λ buffer. Follow m state.used 0 (machine.overwrites (config here pc (one ∷ other ∷ stack) state) (slot_of scope name) place bytes) (Behind (scope ++ [])) (reached here stop stack)
      (after (require (nat_le (place + length bytes) (length (buffer_of buffer))) Range state) (λ _. assign name (new buffer))))
      (slot-value scope state.locals name scoped)
      (overwrite-cases (nat_le (place + length bytes) (length (buffer_of own))) (new own) name scope pc stop one other stack
      (slice_set (values state.locals) (slot_of scope name) (new own)) state (slot-assigned scope state.locals name (new own) scoped) ends fits scoped)

  -- two operands, and what one instruction on the slot of a variable does with them
  two-then : (instruction : ℕ → Op) (name : List ℕ) (left right : Coder) (work work' : Work Value) (more : Value → Value → Work (Unit {0}))
      → operands.Gives m here left work → operands.Gives m here right work'
      → ((one other : Value) (scope : List Param) (pc stop : ℕ) (stack : List Value) (state : State) → pc + 1 ≡ stop → state.used ≤ m.world.budget → InScope scope state.locals
      → Follow m state.used 0 (perform m.code m.world (instruction (slot_of scope name)) (config here pc (other ∷ one ∷ stack) state)) (Behind (scope ++ [])) (reached here stop stack) (more one other state))
      → courses.Works m here (left ▸ (right ▸ on_slot instruction name)) [] (work >>= (λ one. work' >>= more one))
  two-then instruction name left right work work' more gives gives' follows scope base stop stack state has ends scoped fits =
      let first = left scope base in
      let next = right scope (base + length first) in
      let last : List Op = instruction (slot_of scope name) ∷ [] in
      let parts = standing.split m here base first (next ++ last) has in
      let parts' = standing.split m here (base + length first) next last parts.1 in
      let many = length-append first (next ++ last) in
      let many' = length-append next last in
      operands.operand m here left work (λ one. work' >>= more one) gives scope base (length next + 1) (length (first ++ (next ++ last)) + 3) stack state parts.0 scoped fits (omega (arith, many, many'))
      (λ one later grows scoped' within.
      operands.operand m here right work' (more one) gives' scope (base + length first) 1 (length next + 1) (one ∷ stack) later parts'.0 scoped' within (omega arith)
      (λ other later' grows' scoped'' within'.
      let pc = base + length first + length next in
      standing.instructed m here later'.used 0 1 pc (other ∷ one ∷ stack) later' (instruction (slot_of scope name)) (more one other later') parts'.1.0 (omega arith)
      (follows one other scope pc stop stack later' (omega (arith, many, many', ends)) within' scoped'')))

  byte-cases : (test : Bool) (name : List ℕ) (place : ℕ) (byte : ℕ) (scope : List Param) (pc stop : ℕ) (one other : Value) (stack : List Value) (state : State)
      → pc + 1 ≡ stop → state.used ≤ m.world.budget → InScope scope state.locals
      → Follow m state.used 0 (machine.does (config here pc (other ∷ one ∷ stack) state) (require test Range) (λ _ later. machine.overwrites later (slot_of scope name) place (byte ∷ [])))
      (Behind (scope ++ [])) (reached here stop stack) (after (require test Range state) (λ _. overwrite name place (byte ∷ [])))
  byte-cases true name place byte scope pc stop one other stack state ends fits scoped = overwrite-follows name place (byte ∷ []) scope pc stop other one stack state ends fits scoped
  byte-cases false name place byte scope pc stop one other stack state ends fits scoped = over m (Trapped Range state.used) state.used 0 fits

  -- `set`, `set8` and `copy`
  pub set-works : (name : List ℕ) (left right : Coder) (work work' : Work Value) → operands.Gives m here left work → operands.Gives m here right work'
      → courses.Works m here (left ▸ (right ▸ on_slot op.Set name)) [] (work >>= (λ at. work' >>= (λ byte. require (nat_lt (number_of byte) 256) Range >>= (λ _. overwrite name (number_of at) (number_of byte ∷ [])))))
  set-works name left right work work' gives gives' =
      two-then op.Set name left right work work' (λ at byte. require (nat_lt (number_of byte) 256) Range >>= (λ _. overwrite name (number_of at) (number_of byte ∷ []))) gives gives'
      (λ one other scope pc stop stack state. byte-cases (nat_lt (number_of other) 256) name (number_of one) (number_of other) scope pc stop one other stack state)

  pub set8-works : (name : List ℕ) (left right : Coder) (work work' : Work Value) → operands.Gives m here left work → operands.Gives m here right work'
      → courses.Works m here (left ▸ (right ▸ on_slot op.Set8 name)) [] (work >>= (λ at. work' >>= (λ word. overwrite name (number_of at) (word_bytes (number_of word)))))
  set8-works name left right work work' gives gives' =
      two-then op.Set8 name left right work work' (λ at word. overwrite name (number_of at) (word_bytes (number_of word))) gives gives'
      (λ one other scope pc stop stack state. overwrite-follows name (number_of one) (word_bytes (number_of other)) scope pc stop other one stack state)

  pub copy-works : (name : List ℕ) (left right : Coder) (work work' : Work Value) → operands.Gives m here left work → operands.Gives m here right work'
      → courses.Works m here (left ▸ (right ▸ on_slot op.Copy name)) [] (work >>= (λ at. work' >>= (λ bytes. overwrite name (number_of at) (bytes_of bytes))))
  copy-works name left right work work' gives gives' =
      two-then op.Copy name left right work work' (λ at bytes. overwrite name (number_of at) (bytes_of bytes)) gives gives'
      (λ one other scope pc stop stack state. overwrite-follows name (number_of one) (bytes_of other) scope pc stop other one stack state)

  -- a change of one record
  write-cases : (test : Bool) (writes : List Write) (scope : List Param) (pc stop : ℕ) (stack : List Value) (state : State)
      → pc + 1 ≡ stop → state.used ≤ m.world.budget → InScope scope state.locals
      → Follow m state.used 0 (machine.behind (config here pc stack state) (λ _ later. machine.goes_to (later.pc + 1) later)
      (after (require test Size (machine.state_of (config here pc stack state))) (λ _ _. Next (tt {0}) (record (machine.state_of (config here pc stack state)) { writes = writes }))))
      (Behind (scope ++ [])) (reached here stop stack) (after (require test Size state) (λ _ _. Next tt (record state { writes = writes })))
  write-cases true writes scope pc stop stack state ends fits scoped =
      let later : State = record state { writes = writes } in
      placed 0 (pc + 1) stop stack (values state.locals) (scope ++ []) later refl ends fits (nothing-new scope later scoped)
  write-cases false writes scope pc stop stack state ends fits scoped = over m (Trapped Size state.used) state.used 0 fits

  write-follows : (new : Write) (scope : List Param) (pc stop : ℕ) (stack : List Value) (state : State)
      → pc + 1 ≡ stop → state.used ≤ m.world.budget → InScope scope state.locals
      → Follow m state.used 0 (machine.does (config here pc stack state) (meaning.write new) (λ _ later. machine.goes_to (later.pc + 1) later)) (Behind (scope ++ [])) (reached here stop stack) (meaning.write new state)
  write-follows new scope pc stop stack state =
      write-cases (is_some (pending (place_changed new) state.writes) || nat_lt (length state.writes) 64) (changed new state.writes) scope pc stop stack state

  put-follows : (buffer : Value) (scope : List Param) (pc stop : ℕ) (stack : List Value) (state : State)
      → pc + 1 ≡ stop → state.used ≤ m.world.budget → InScope scope state.locals
      → Follow m state.used 0 (machine.does (config here pc stack state) (put buffer) (λ _ later. machine.goes_to (later.pc + 1) later)) (Behind (scope ++ [])) (reached here stop stack) (put buffer state)
  put-follows (value.Int number) scope pc stop stack state ends fits scoped = placed 0 (pc + 1) stop stack (values state.locals) (scope ++ []) state refl ends fits (nothing-new scope state scoped)
  put-follows (value.Bool truth) scope pc stop stack state ends fits scoped = placed 0 (pc + 1) stop stack (values state.locals) (scope ++ []) state refl ends fits (nothing-new scope state scoped)
  put-follows (value.Slice bytes) scope pc stop stack state ends fits scoped = placed 0 (pc + 1) stop stack (values state.locals) (scope ++ []) state refl ends fits (nothing-new scope state scoped)
  put-follows (value.Buf buffer) scope pc stop stack state ends fits scoped = write-follows _ scope pc stop stack state ends fits scoped
  put-follows (value.Temp bytes) scope pc stop stack state ends fits scoped = placed 0 (pc + 1) stop stack (values state.locals) (scope ++ []) state refl ends fits (nothing-new scope state scoped)

  -- `put`
  pub put-works : (name : List ℕ) → courses.Works m here (on_slot op.Put name) [] (variable name >>= put)
  put-works name scope base stop stack state has ends scoped fits =
      standing.instructed m here state.used 0 4 base stack state (op.Put (slot_of scope name)) (put (value_of name state.locals) state) has.0 (omega arith)
      (subst (λ own. Follow m state.used 0 (machine.does (config here base stack state) (put own) (λ _ later. machine.goes_to (later.pc + 1) later)) (Behind (scope ++ [])) (reached here stop stack) (put (value_of name state.locals) state))
      (sym (slot-value scope state.locals name scoped))
      (put-follows (value_of name state.locals) scope base stop stack state ends fits scoped))

  -- a test, and then a work that hands on no value
  tests-first : (test : Bool) (trap : Trap) (work : Work (Unit {0})) (scope : List Param) (pc stop : ℕ) (stack : List Value) (state : State)
      → state.used ≤ m.world.budget
      → Follow m state.used 0 (machine.does (config here pc stack state) work (λ _ later. machine.goes_to (later.pc + 1) later)) (Behind (scope ++ [])) (reached here stop stack) (work state)
      → Follow m state.used 0 (machine.does (config here pc stack state) (require test trap >>= (λ _. work)) (λ _ later. machine.goes_to (later.pc + 1) later)) (Behind (scope ++ [])) (reached here stop stack) (after (require test trap state) (λ _. work))
  tests-first true trap work scope pc stop stack state fits follow = follow
  tests-first false trap work scope pc stop stack state fits follow = over m (Trapped trap state.used) state.used 0 fits

  -- `del`
  del-follows : (table : ℕ) (key : List ℕ) (scope : List Param) (pc stop : ℕ) (stack : List Value) (state : State)
      → pc + 1 ≡ stop → state.used ≤ m.world.budget → InScope scope state.locals
      → Follow m state.used 0 (machine.does (config here pc stack state) (del m.world table key) (λ _ later. machine.goes_to (later.pc + 1) later)) (Behind (scope ++ [])) (reached here stop stack) (del m.world table key state)
  del-follows table key scope pc stop stack state ends fits scoped =
      let deletion : Write = record { table = record { 0 = table }; key = key; change = change.Del } in
      tests-first (is_key key) Size (require (can_write m.world.view.rights table) Denied >>= (λ _. meaning.write deletion)) scope pc stop stack state fits
      (tests-first (can_write m.world.view.rights table) Denied (meaning.write deletion) scope pc stop stack state fits
      (write-follows deletion scope pc stop stack state ends fits scoped))

  pub del-works : (left right : Coder) (work work' : Work Value) → operands.Gives m here left work → operands.Gives m here right work'
      → courses.Works m here (left ▸ (right ▸ emit (op.Del ∷ []))) [] (work >>= (λ number. work' >>= (λ bytes. del m.world (number_of number) (bytes_of bytes))))
  del-works left right work work' gives gives' scope base stop stack state has ends scoped fits =
      let first = left scope base in
      let next = right scope (base + length first) in
      let last : List Op = op.Del ∷ [] in
      let parts = standing.split m here base first (next ++ last) has in
      let parts' = standing.split m here (base + length first) next last parts.1 in
      let many = length-append first (next ++ last) in
      let many' = length-append next last in
      operands.operand m here left work (λ number. work' >>= (λ bytes. del m.world (number_of number) (bytes_of bytes))) gives scope base (length next + 1) (length (first ++ (next ++ last)) + 3) stack state parts.0 scoped fits (omega (arith, many, many'))
      (λ one later grows scoped' within.
      operands.operand m here right work' (λ bytes. del m.world (number_of one) (bytes_of bytes)) gives' scope (base + length first) 1 (length next + 1) (one ∷ stack) later parts'.0 scoped' within (omega arith)
      (λ other later' grows' scoped'' within'.
      let pc = base + length first + length next in
      standing.instructed m here later'.used 0 1 pc (other ∷ one ∷ stack) later' op.Del (del m.world (number_of one) (bytes_of other) later') parts'.1.0 (omega arith)
      (del-follows (number_of one) (bytes_of other) scope pc stop stack later' (omega (arith, many, many', ends)) within' scoped'')))

  -- `resp`
  resp-cases : (test : Bool) (reply : List ℕ) (scope : List Param) (pc stop : ℕ) (stack : List Value) (state : State)
      → pc + 1 ≡ stop → state.used ≤ m.world.budget → InScope scope state.locals
      → Follow m state.used 0 (machine.behind (config here pc stack state) (λ _ later. machine.goes_to (later.pc + 1) later)
      (after (require test Size (machine.state_of (config here pc stack state))) (λ _ _. Next (tt {0}) (record (machine.state_of (config here pc stack state)) { reply = reply }))))
      (Behind (scope ++ [])) (reached here stop stack) (after (require test Size state) (λ _ _. Next tt (record state { reply = reply })))
  resp-cases true reply scope pc stop stack state ends fits scoped =
      let later : State = record state { reply = reply } in
      placed 0 (pc + 1) stop stack (values state.locals) (scope ++ []) later refl ends fits (nothing-new scope later scoped)
  resp-cases false reply scope pc stop stack state ends fits scoped = over m (Trapped Size state.used) state.used 0 fits

  pub resp-works : (coder : Coder) (work : Work Value) → operands.Gives m here coder work → courses.Works m here (coder ▸ emit (op.Resp ∷ [])) [] (work >>= (λ bytes. resp (bytes_of bytes)))
  resp-works coder work gives scope base stop stack state has ends scoped fits =
      let first = coder scope base in
      let last : List Op = op.Resp ∷ [] in
      let parts = standing.split m here base first last has in
      let many = length-append first last in
      operands.operand m here coder work (λ bytes. resp (bytes_of bytes)) gives scope base 1 (length (first ++ last) + 3) stack state parts.0 scoped fits (omega (arith, many))
      (λ own later grows scoped' within.
      standing.instructed m here later.used 0 1 (base + length first) (own ∷ stack) later op.Resp (resp (bytes_of own) later) parts.1.0 (omega arith)
      (resp-cases (nat_le (length later.reply + length (bytes_of own)) 4096) (later.reply ++ bytes_of own) scope (base + length first) stop stack later (omega (arith, many, ends)) within scoped'))
