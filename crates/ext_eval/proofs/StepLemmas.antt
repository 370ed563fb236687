-- One piece of work, and what is left behind it.
use Rattle.std.proofs.Common.{◌≡◌, ℕ, suc, ◌+◌, ◌*◌, ◌<◌, true, List, ◌∷◌, length, map, take, drop, get_or, Option, Some, None, Result, Err, refl, ap, sym, ◌∙◌, subst, arith, add-one, drop-cons}
use Rattle.ext_mean.specs.declared.run.Run.{Run}
use Rattle.ext_mean.specs.declared.state.State.{State}
use Rattle.ext_mean.specs.declared.state.Value.{Value}
use Rattle.ext_mean.specs.declared.statement.Statement.{Statement}
use Rattle.ext_mean.specs.declared.statement.Statement.TheFolds.{fold_out-Statement}
use Rattle.ext_mean.specs.Work.{World, Step, Next, Ends, Work, after, charge, give}
use Rattle.ext_mean.specs.MeaningValues.{pieces, truth_of}
use Rattle.ext_mean.specs.MeaningStatements.{Calls, Course, behind, block_step, execute, forget, one_by_one, run_block, scoped, statement_step, turns}
use Rattle.ext_eval.specs.declared.halt.Halt.{Halt}
use Rattle.ext_eval.specs.declared.halt.Halt.TheVariants.{Memory, Ended}
use Rattle.ext_eval.specs.Gives.{Gives}

-- where a step ends the run, so does the work that it is part of
pub ends-alike : {A B : Type 0} (halt : Halt) (one other : State) (step : Step A) (work : Step B)
    → Gives {A = A} (Err halt) one step → ((run : Run) → step ≡ Ends run → work ≡ Ends run) → Gives {A = B} (Err halt) other work
ends-alike Memory one other step work gives ends = tt
ends-alike (Ended run) one other step work gives ends = ends run gives

-- the same work has the same answer
pub gives-along : {A : Type 0} (result : Result A Halt) (state : State) (step work : Step A) → Gives result state step → work ≡ step → Gives result state work
gives-along result state step work gives e = subst (Gives result state) (sym e) gives

-- a statement whose unit does not fit the budget
pub unpaid : (world : World) (calls : Calls) (statement : Statement) (state : State) (run : Run) → charge world 1 state ≡ Ends run → execute world calls statement state ≡ Ends run
unfolding execute run_block
unpaid world calls statement state run e =
    ap (λ (course : Course). course state) (fold_out-Statement Course Course (statement_step world calls) block_step statement) ∙ rw e refl

-- the first of the items that are left
drop-item : {A : Type 0} (items : List A) (at : ℕ) (item : A) → at < length items → item ≡ get_or items at item → drop at items ≡ item ∷ drop (at + 1) items
drop-item items at item below is =
    let d : drop at items ≡ get_or items at item ∷ drop (at + 1) items = rw (add-one, drop-cons items at item) in
    d ∙ ap (λ first. first ∷ drop (at + 1) items) (sym is)

-- a statement, and those behind it
pub one-statement : (world : World) (calls : Calls) (items : List Statement) (at : ℕ) (item : Statement) (state : State)
    → at < length items → item ≡ get_or items at item
    → one_by_one (map (execute world calls) (drop at items)) state ≡ after (execute world calls item state) (behind (one_by_one (map (execute world calls) (drop (at + 1) items))))
one-statement world calls items at item state below is =
    ap (λ (z : List Statement). one_by_one (map (execute world calls) z) state) (drop-item items at item below is)

-- a statement that does not return leaves what is behind it
pub goes-behind : (step : Step (Option Value)) (rest : Course) (returned : Option Value) (state : State) → step ≡ Next returned state → returned ≡ None → after step (behind rest) ≡ rest state
goes-behind step rest returned state e none = rw (e, none) refl

pub returns-past : (step : Step (Option Value)) (rest : Course) (returned : Option Value) (value : Value) (state : State) → step ≡ Next returned state → returned ≡ Some value → after step (behind rest) ≡ Next (Some value) state
returns-past step rest returned value state e some = rw (e, some) refl

pub ends-with : {A B : Type 0} (step : Step A) (more : A → Work B) (run : Run) → step ≡ Ends run → after step more ≡ Ends run
ends-with step more run e = rw e refl

pub goes-on : {A B : Type 0} (step : Step A) (more : A → Work B) (value : A) (state : State) → step ≡ Next value state → after step more ≡ more value state
goes-on step more value state e = rw e refl

-- a turn whose test is true and whose body does not return
pub one-turn : (world : World) (left fewer : ℕ) (test : Work Value) (body : Course) (state paid tested other : State) (unit : Unit {0}) (truth : Value) (returned : Option Value)
    → left ≡ fewer + 1 → charge world 1 state ≡ Next unit paid → test paid ≡ Next truth tested → truth_of truth ≡ true → body tested ≡ Next returned other → returned ≡ None
    → turns world left test body state ≡ turns world fewer test body other
one-turn world left fewer test body state paid tested other unit truth returned more charged known true_test ran none =
    let e : left ≡ suc fewer = omega arith in
    ap (λ (n : ℕ). turns world n test body state) e ∙ rw (charged, known, true_test, ran, none) refl

-- one of the keys, and those behind it
pub one-piece : (f : List ℕ → Course) (left fewer width : ℕ) (keys key rest : List ℕ) (state : State)
    → left ≡ fewer + 1 → key ≡ take width keys → rest ≡ drop width keys
    → one_by_one (map f (pieces left width keys)) state ≡ after (f key state) (behind (one_by_one (map f (pieces fewer width rest))))
one-piece f left fewer width keys key rest state more key-is rest-is =
    let e : left ≡ suc fewer = omega arith in
    ap (λ (n : ℕ). one_by_one (map f (pieces n width keys)) state) e ∙ rw (key-is, rest-is) refl

pub fewer-keys : (left fewer width keys rest : ℕ) → left ≡ fewer + 1 → keys ≡ left * width → rest + width ≡ keys → rest ≡ fewer * width
fewer-keys left fewer width keys rest more all less =
    let e : (fewer + 1) * width ≡ fewer * width + width = grind arith in
    let f : left * width ≡ (fewer + 1) * width = ap (λ (n : ℕ). n * width) more in
    omega arith

-- a block that ends the run, and one that is left
pub scoped-ends : (course : Course) (state : State) (run : Run) → course state ≡ Ends run → scoped course state ≡ Ends run
scoped-ends course state run e = rw e refl

pub scoped-next : (course : Course) (state middle last : State) (returned : Option Value) (depth : ℕ)
    → course state ≡ Next returned middle → depth ≡ length state.locals → forget depth middle ≡ Next tt last → scoped course state ≡ Next returned last
scoped-next course state middle last returned depth e deep forgets =
    let f : forget (length state.locals) middle ≡ Next tt last = ap (λ (n : ℕ). forget n middle) (sym deep) ∙ forgets in
    rw e (ap (λ (z : Step (Unit {0})). after z (λ _. give returned)) f)
