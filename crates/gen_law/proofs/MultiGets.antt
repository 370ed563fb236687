-- The machine follows `multiget`: a turn for each key.
use Rattle.std.specs.Prelude.{◌&&◌, ◌==◌, ◌%◌, ◌/◌}
use Rattle.std.proofs.Common.{◌≡◌, ℕ, zero, suc, ◌+◌, ◌*◌, ◌≤◌, Bool, true, false, List, [], ◌∷◌, ◌++◌, length, drop, map, Option, Some, None, refl, sym, ap, subst, arith, if◌then◌else◌, nat_le, length-append, suc-mul}
use Rattle.std.proofs.lemmas.Bool.{le-leb, lt-leb}
use Rattle.std.proofs.lemmas.Bool.Decides.{nat_tests}
use Rattle.std.proofs.lemmas.List.{drop-drop}
use Rattle.std.proofs.lemmas.Nat.{div-add-mod'}
use Rattle.sp_base.specs.declared.outcomes.Trap.TheVariants.{Width}
use Rattle.sp_base.specs.Places.{Place}
use Rattle.ext_mean.specs.declared.run.Run.TheVariants.{Trapped}
use Rattle.ext_mean.specs.declared.state.State.{State}
use Rattle.ext_mean.specs.declared.state.Value.{Value}
use Rattle.ext_mean.specs.declared.state.Value.TheVariants as value
use Rattle.ext_mean.specs.declared.tree.Param.{Param}
use Rattle.ext_mean.specs.MeaningValues.{nothing, number_of, bytes_of, pieces, part_of}
use Rattle.ext_mean.specs.MeaningStatements.{Course, behind, arm, multiget, one_by_one, read}
use Rattle.ext_mean.specs.Work.{Step, Next, Ends, Work, after, ◌>>=◌, require}
use Rattle.ext_mean.proofs.Pieces.{and-both, width-tested}
use Rattle.gen_code.specs.declared.op.Op.{Op}
use Rattle.gen_code.specs.declared.op.Op.TheVariants as op
use Rattle.gen_code.specs.Codes.{Coder, ◌▸◌, emit, found_code, multi_code}
use Rattle.gen_code.specs.Machine as machine
use Rattle.gen_code.specs.Machine.{ForMulti, Config, Progress, Going, Over, op_at, perform, stored}
use Rattle.gen_law.proofs.Following.{Machine, Follow, arrived, over, turned, bind, wider}
use Rattle.gen_law.proofs.Standing as standing
use Rattle.gen_law.proofs.Standing.{Here, InScope, at, config, values}
use Rattle.gen_law.proofs.Slots.{stored-dropped}
use Rattle.gen_law.proofs.Operands as operands
use Rattle.gen_law.proofs.Courses as courses
use Rattle.gen_law.proofs.Courses.{onto, Leaves}
use Rattle.gen_law.proofs.Blocks as blocks
use Rattle.gen_law.proofs.Branches as branches
use Rattle.gen_law.proofs.Gets as gets

-- whether a width is from 1 to 64 and divides the keys
abbrev pub is_width : ℕ → List ℕ → Bool
is_width width keys = nat_le 1 width && nat_le width 64 && (length keys % width == 0)

divides-tested : (width : ℕ) (keys : List ℕ) → is_width width keys ≡ true → length keys / width * width ≡ length keys
divides-tested width keys test =
    let outer = and-both (nat_le 1 width && nat_le width 64) (length keys % width == 0) test in
    let rest : length keys % width ≡ 0 = grind (arith, nat_tests, outer) in
    let whole = div-add-mod' (length keys) width in
    omega (arith, rest, whole)

-- where the instructions of a `multiget` stand
module _ (m : Machine) (here : Here) (name : List ℕ) (block block' : Coder) (one other : Course)
    (table keys wide : Value) (scope : List Param) (base stop : ℕ) (stack : List Value) where
  abbrev first : List Op
  first = found_code name block scope (base + 2)

  abbrev at_none : ℕ
  at_none = base + 2 + length first + 1

  abbrev second : List Op
  second = block' scope (at_none + 2)

  abbrev target : ℕ
  target = at_none + 2 + length second + 1

  -- the values that wait before a turn
  abbrev waiting : ℕ → List Value
  waiting place = value.Int place ∷ wide ∷ keys ∷ table ∷ stack

  -- what a turn does where the width is one
  abbrev goes : ℕ → State → Progress
  goes place state =
      if nat_le (length (bytes_of keys)) place
      then at here target stack state
      else machine.reads m.world (record { table = number_of table; key = part_of (bytes_of keys) place (number_of wide) }) ForMulti (config here base (waiting (place + number_of wide)) state)

  abbrev tries : Bool → ℕ → State → Progress
  tries test place state =
      machine.does (config here base (waiting place) state) (require test Width) (λ _ later.
      if nat_le (length (bytes_of keys)) place
      then machine.goes_to target (record later { stack = stack })
      else machine.reads m.world (record { table = number_of table; key = part_of (bytes_of keys) place (number_of wide) }) ForMulti (record later { stack = waiting (place + number_of wide) }))

  -- the arm of a turn, and the jump back
  abbrev Again : ℕ → Course → Type 0
  Again place rest =
      (later : State) → later.used ≤ m.world.budget → InScope scope later.locals
      → Follow m later.used 1 (at here base (waiting place) later) (Leaves scope) (onto here stop stack) (rest later)

  module _ (matches : courses.Block m here block one) (matches' : courses.Block m here block' other)
      (has : standing.Has m here base (multi_code name block block' scope base)) (ends : base + length (multi_code name block block' scope base) ≡ stop)
      (cost : length (multi_code name block block' scope base) + 4 ≤ m.cost) where
    abbrev ending : List Op
    ending = op.Jump base ∷ op.Store (length scope) ∷ op.Drop (length scope) ∷ (second ++ op.Jump base ∷ [])

    parts : standing.Has m here (base + 2) first × standing.Has m here (base + 2 + length first) ending
    parts =
        let there : standing.Has m here (base + 2) (first ++ ending) = subst (λ n. standing.Has m here n (first ++ ending)) (omega arith) has.1.1 in
        standing.split m here (base + 2) first ending there

    parts' : standing.Has m here (at_none + 2) second × standing.Has m here (at_none + 2 + length second) (op.Jump base ∷ [])
    parts' =
        let there : standing.Has m here (at_none + 2) (second ++ op.Jump base ∷ []) = subst (λ n. standing.Has m here n (second ++ op.Jump base ∷ [])) (omega arith) parts.1.1.1.1 in
        standing.split m here (at_none + 2) second (op.Jump base ∷ []) there

    many : length (multi_code name block block' scope base) ≡ 2 + (length first + (3 + (length second + 1)))
    many =
        let one = length-append first ending in
        let two = length-append second (op.Jump base ∷ []) in
        omega (arith, one, two)

    -- behind an arm the loop goes on, unless the arm returned
    again : (place : ℕ) (rest : Course) (slack slack' : ℕ) (from : Progress) (before : ℕ) (step : Step (Option Value)) → Again place rest → slack + 1 ≤ slack'
        → Follow m before slack from (Leaves scope) (onto here base (waiting place)) step
        → Follow m before slack' from (Leaves scope) (onto here stop stack) (after step (behind rest))
    again place rest slack slack' from before step more sum follow =
        bind m (Leaves scope) (onto here base (waiting place)) before slack 1 slack' from step (behind rest) sum follow
        (λ returned later grows within leaves. goes-on returned later within leaves)
      where
        goes-on : (returned : Option Value) (later : State) → later.used ≤ m.world.budget → Leaves scope returned later
            → Follow m later.used 1 (onto here base (waiting place) returned later) (Leaves scope) (onto here stop stack) (behind rest returned later)
        goes-on None later within leaves = more later within leaves
        goes-on (Some own) later within leaves = arrived m {P = Leaves scope} {K = onto here stop stack} (Some own) later 1 within tt

    -- the arms, behind the answer of a read
    arms : (answer : Option (List ℕ)) (asked : Place) (place : ℕ) (rest : Course) (state : State) → Again place rest → InScope scope state.locals → state.used ≤ m.world.budget
        → Follow m state.used 7 (gets.answered m here asked ForMulti base (waiting place) answer state) (Leaves scope) (onto here stop stack) (after (arm name one other answer state) (behind rest))
    arms (Some bytes) asked place rest state more names fits =
        again place rest 6 7 (gets.answered m here asked ForMulti base (waiting place) (Some bytes) state) state.used (arm name one other (Some bytes) state) more (omega arith)
        (standing.instructed m here state.used 5 6 (base + 1) (value.Bool true ∷ value.Slice bytes ∷ waiting place) state (op.JumpFalse at_none) (arm name one other (Some bytes) state) has.1.0 (omega arith)
        (wider m state.used 4 5 (at here (base + 1 + 1) (value.Slice bytes ∷ waiting place) state) (arm name one other (Some bytes) state) (omega arith)
        (subst (λ n. Follow m state.used 4 (at here n (value.Slice bytes ∷ waiting place) state) (Leaves scope) (onto here base (waiting place)) (arm name one other (Some bytes) state)) (omega arith)
        (branches.then-jump m here scope 3 state.used (base + 2 + length first) base (waiting place) (at here (base + 2) (value.Slice bytes ∷ waiting place) state) (arm name one other (Some bytes) state) parts.1.0
        (gets.arm-found m here name block one other bytes scope (base + 2) (base + 2 + length first) (waiting place) state matches parts.0 refl (omega (arith, many, cost)) names fits)))))
    arms None asked place rest state more names fits =
        let flags : List Value = value.Bool false ∷ nothing ∷ waiting place in
        again place rest 6 7 (gets.answered m here asked ForMulti base (waiting place) None state) state.used (other state) more (omega arith)
        (standing.instructed m here state.used 5 6 (base + 1) flags state (op.JumpFalse at_none) (other state) has.1.0 (omega arith)
        (dropped state names
        (wider m state.used 2 3 (at here (at_none + 2) (waiting place) state) (other state) (omega arith)
        (branches.block-then-jump m here block' other scope (at_none + 2) base (waiting place) state matches' parts'.0 parts'.1.0 (omega (arith, many, cost)) names fits))))
      where
        -- the value that stands for absent bytes is forgotten
        dropped : (state : State) → InScope scope state.locals
            → Follow m state.used 3 (at here (at_none + 2) (waiting place) state) (Leaves scope) (onto here base (waiting place)) (other state)
            → Follow m state.used 5 (at here at_none (nothing ∷ waiting place) state) (Leaves scope) (onto here base (waiting place)) (other state)
        dropped state names follow =
            let slots = stored (length scope) nothing (values state.locals) in
            let there : Config = record (config here (at_none + 1) (waiting place) state) { slots = slots } in
            standing.instructed m here state.used 4 5 at_none (nothing ∷ waiting place) state (op.Store (length scope)) (other state) parts.1.1.0 (omega arith)
            (turned m state.used 3 4 (Going there) (perform m.code m.world (op.Drop (length scope)) there) (other state)
            (ap (λ o. perform m.code m.world o there) parts.1.1.1.0) (omega arith)
            (subst (λ s. Follow m state.used 3 (machine.goes_to (at_none + 1 + 1) (record there { slots = s })) (Leaves scope) (onto here base (waiting place)) (other state)) (sym (stored-dropped scope state.locals nothing names))
            (subst (λ n. Follow m state.used 3 (at here n (waiting place) state) (Leaves scope) (onto here base (waiting place)) (other state)) (omega arith) follow)))

    -- what is left of a `multiget`
    abbrev left : ℕ → ℕ → Course
    left count place = one_by_one (map (λ key. read m.world (number_of table) key >>= arm name one other) (pieces count (number_of wide) (drop place (bytes_of keys))))

    cost-of-turn : 8 ≤ m.cost
    cost-of-turn = omega (arith, many, cost)

    -- the instruction that takes the next key, where the width is one
    next-turn : (count place : ℕ) (state : State) → is_width (number_of wide) (bytes_of keys) ≡ true
        → Follow m state.used 0 (goes place state) (Leaves scope) (onto here stop stack) (left count place state)
        → Follow m state.used 1 (at here base (waiting place) state) (Leaves scope) (onto here stop stack) (left count place state)
    next-turn count place state test follow =
        standing.instructed m here state.used 0 1 base (waiting place) state (op.Multi target) (left count place state) has.0 (omega arith)
        (subst (λ b. Follow m state.used 0 (tries b place state) (Leaves scope) (onto here stop stack) (left count place state)) (sym test) follow)

    turns-follow : (count place : ℕ) (state : State) → is_width (number_of wide) (bytes_of keys) ≡ true → 1 ≤ number_of wide → place + count * number_of wide ≡ length (bytes_of keys)
        → InScope scope state.locals → state.used ≤ m.world.budget
        → Follow m state.used 0 (goes place state) (Leaves scope) (onto here stop stack) (left count place state)
    turns-follow zero place state test some whole names fits =
        subst (λ b. Follow m state.used 0 (if b then at here target stack state else machine.reads m.world (record { table = number_of table; key = part_of (bytes_of keys) place (number_of wide) }) ForMulti (config here base (waiting (place + number_of wide)) state)) (Leaves scope) (onto here stop stack) (Next None state))
        (sym (le-leb (length (bytes_of keys)) place (omega (arith, whole))))
        (blocks.goes-on m here 0 target stop stack scope state (omega (arith, many, ends)) fits names)
    turns-follow (suc count) place state test some whole names fits =
        let width = number_of wide in
        let bytes = bytes_of keys in
        let later-place = place + width in
        let key = part_of bytes place width in
        let asked : Place = record { table = number_of table; key = key } in
        let product = suc-mul count width in
        let rest : Course = one_by_one (map (λ k. read m.world (number_of table) k >>= arm name one other) (pieces count width (drop width (drop place bytes)))) in
        let here-again : Again later-place rest = λ later within names'.
        subst (λ b. Follow m later.used 1 (at here base (waiting later-place) later) (Leaves scope) (onto here stop stack)
        (one_by_one (map (λ k. read m.world (number_of table) k >>= arm name one other) (pieces count width b)) later))
        (sym (drop-drop width place bytes))
        (next-turn count later-place later test
        (turns-follow count later-place later test some (omega (arith, whole, product)) names' within)) in
        subst (λ b. Follow m state.used 0 (if b then at here target stack state else machine.reads m.world asked ForMulti (config here base (waiting later-place) state)) (Leaves scope) (onto here stop stack) (left (suc count) place state))
        (sym (lt-leb (length bytes) place (omega (arith, whole, some, product))))
        (read-arms asked later-place rest state here-again names fits)
      where
        step-of : Place → Course → State → Step (Option Value)
        step-of asked rest state = after (after (read m.world asked.table asked.key state) (arm name one other)) (behind rest)

        joined : (asked : Place) (rest : Course) (step : Step (Option (List ℕ))) → after step (λ answer later. after (arm name one other answer later) (behind rest)) ≡ after (after step (arm name one other)) (behind rest)
        joined asked rest (Next answer later) = refl
        joined asked rest (Ends run) = refl

        read-arms : (asked : Place) (place : ℕ) (rest : Course) (state : State) → Again place rest → InScope scope state.locals → state.used ≤ m.world.budget
            → Follow m state.used 0 (machine.reads m.world asked ForMulti (config here base (waiting place) state)) (Leaves scope) (onto here stop stack) (after (after (read m.world asked.table asked.key state) (arm name one other)) (behind rest))
        read-arms asked place rest state more names fits =
            subst (λ step. Follow m state.used 0 (machine.reads m.world asked ForMulti (config here base (waiting place) state)) (Leaves scope) (onto here stop stack) step) (joined asked rest (read m.world asked.table asked.key state))
            (gets.read-then m here asked ForMulti scope 7 base (waiting place) state (λ answer later. after (arm name one other answer later) (behind rest)) fits names (omega (arith, cost-of-turn))
            (λ answer later grows within names'. arms answer asked place rest later more names' within))

    -- the first turn tests the width
    width-cases : (test : Bool) (state : State) → is_width (number_of wide) (bytes_of keys) ≡ test → InScope scope state.locals → state.used ≤ m.world.budget
        → Follow m state.used 0 (tries test 0 state) (Leaves scope) (onto here stop stack) (after (require test Width state) (λ _. left (length (bytes_of keys) / number_of wide) 0))
    width-cases true state test names fits =
        let width = width-tested (number_of wide) (bytes_of keys) test in
        turns-follow (length (bytes_of keys) / number_of wide) 0 state test width.some (let whole = divides-tested (number_of wide) (bytes_of keys) test in omega (arith, whole)) names fits
    width-cases false state test names fits = over m (Trapped Width state.used) state.used 0 fits

    pub multi-follows : (state : State) → InScope scope state.locals → state.used ≤ m.world.budget
        → Follow m state.used 1 (at here base (waiting 0) state) (Leaves scope) (onto here stop stack) (multiget m.world (number_of table) (bytes_of keys) (number_of wide) (arm name one other) state)
    multi-follows state names fits =
        standing.instructed m here state.used 0 1 base (waiting 0) state (op.Multi target) _ has.0 (omega arith)
        (width-cases (is_width (number_of wide) (bytes_of keys)) state refl names fits)

module _ (m : Machine) (here : Here) where
  -- `multiget`
  pub multi-form : (name : List ℕ) (left middle right block block' : Coder) (work work' work'' : Work Value) (one other : Course)
      → operands.Gives m here left work → operands.Gives m here middle work' → operands.Gives m here right work'' → courses.Block m here block one → courses.Block m here block' other
      → courses.Form m here (left ▸ (middle ▸ (right ▸ (emit (op.Num 0 ∷ []) ▸ multi_code name block block')))) []
      (work >>= (λ number. work' >>= (λ bytes. work'' >>= (λ wide. multiget m.world (number_of number) (bytes_of bytes) (number_of wide) (arm name one other)))))
  multi-form name left middle right block block' work work' work'' one other gives gives' gives'' matches matches' scope base stop stack state has ends room names fits =
      let first = left scope base in
      let next = middle scope (base + length first) in
      let last = right scope (base + length first + length next) in
      let pc = base + length first + length next + length last in
      let loop = multi_code name block block' scope (pc + 1) in
      let rest : List Op = op.Num 0 ∷ loop in
      let parts = standing.split m here base first (next ++ (last ++ rest)) has in
      let parts' = standing.split m here (base + length first) next (last ++ rest) parts.1 in
      let parts'' = standing.split m here (base + length first + length next) last rest parts'.1 in
      let many = length-append first (next ++ (last ++ rest)) in
      let many' = length-append next (last ++ rest) in
      let many'' = length-append last rest in
      let total = length (first ++ (next ++ (last ++ rest))) in
      branches.same-scope m here scope (total + 3) (at here base stack state) state.used stop stack _
      (operands.operand m here left work (λ number. work' >>= (λ bytes. work'' >>= (λ wide. multiget m.world (number_of number) (bytes_of bytes) (number_of wide) (arm name one other)))) gives scope base (length next + (length last + 2)) (total + 3) stack state parts.0 names fits (omega (arith, many, many', many''))
      (λ number later grows names' within.
      operands.operand m here middle work' (λ bytes. work'' >>= (λ wide. multiget m.world (number_of number) (bytes_of bytes) (number_of wide) (arm name one other))) gives' scope (base + length first) (length last + 2) (length next + (length last + 2)) (number ∷ stack) later parts'.0 names' within (omega arith)
      (λ bytes later' grows' names'' within'.
      operands.operand m here right work'' (λ wide. multiget m.world (number_of number) (bytes_of bytes) (number_of wide) (arm name one other)) gives'' scope (base + length first + length next) 2 (length last + 2) (bytes ∷ number ∷ stack) later' parts''.0 names'' within' (omega arith)
      (λ wide later'' grows'' names''' within''.
      standing.instructed m here later''.used 1 2 pc (wide ∷ bytes ∷ number ∷ stack) later'' (op.Num 0) _ parts''.1.0 (omega arith)
      (multi-follows m here name block block' one other number bytes wide scope (pc + 1) stop stack matches matches' parts''.1.1 (omega (arith, many, many', many'', ends)) (omega (arith, many, many', many'', room)) later'' names''' within'')))))
