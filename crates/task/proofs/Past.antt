-- Where a machine stands behind a limit, the program is spent with that limit: no instruction gives
-- units back.
use Rattle.std.proofs.Common.{◌≡◌, ◌≤◌, ◌<◌, ℕ, zero, suc, ◌+◌, ◌/◌, ◌%◌, ◌==◌, ◌&&◌, Bool, true, false, List, [], ◌∷◌, length, drop, replicate, Option, Some, None, ◌⊎◌, inl, inr, ◌++◌, ◌||◌, slice_set, slice_index, refl, sym, ap, ◌∙◌, subst, arith, nat_le, nat_lt, if◌then◌else◌}
use Rattle.std.specs.Prelude.{is_some}
use Rattle.sp_base.specs.declared.outcomes.Trap.{Trap}
use Rattle.sp_base.specs.declared.outcomes.Trap.TheVariants.{Divide, Range, Size, Denied, Width}
use Rattle.sp_base.specs.declared.writes.Change.{Change}
use Rattle.sp_base.specs.declared.writes.Change.TheVariants as change
use Rattle.sp_base.specs.declared.writes.Write.{Write}
use Rattle.sp_base.specs.Places.{Place}
use Rattle.sp_base.specs.RightsList.{can_read, can_write}
use Rattle.ext_mean.specs.declared.run.Run.{Run}
use Rattle.ext_mean.specs.declared.run.Run.TheVariants.{Done, Trapped, Spent, Wants}
use Rattle.ext_mean.specs.declared.state.State.{State}
use Rattle.ext_mean.specs.declared.state.Value.{Value}
use Rattle.ext_mean.specs.declared.state.Value.TheVariants as value
use Rattle.ext_mean.specs.declared.tree.Program.{Program}
use Rattle.ext_mean.specs.Laws.{IsWithin}
use Rattle.ext_mean.specs.Meaning.{mean}
use Rattle.ext_mean.specs.MeaningValues.{number_of, bytes_of, buffer_of, with_bytes, overwritten, word_bytes, word_of, is_key, part_of, pending, place_changed, changed, left_by}
use Rattle.ext_mean.specs.MeaningStatements.{found, put, write}
use Rattle.ext_mean.specs.Outcomes.{units_of}
use Rattle.ext_mean.specs.Views.{View}
use Rattle.ext_mean.specs.Work.{World, Step, Next, Ends, after, ◌>>=◌, give, become, charge, require, known_or_wanted}
use Rattle.ext_mean.proofs.LawsProved.{greater-budgets}
use Rattle.ext_mean.proofs.WantsProved.{stay-within}
use Rattle.gen_code.specs.declared.code.Code.{Code}
use Rattle.gen_code.specs.declared.op.Op.{Op}
use Rattle.gen_code.specs.declared.op.Op.TheVariants as op
use Rattle.gen_code.specs.Does.{Does}
use Rattle.gen_code.specs.Machine.{Config, Frame, Progress, Going, Over, Doing, Working, Reading, Asker, ForGet, ForMulti, begin, behind, does, state_of, last, second, third, fourth, below, goes_to, pushes, reads, answers, takes_next, overwrites, back, op_at, perform, goes_on, once, steps, most_turns, slot}
use Rattle.gen_vm.specs.Standing.{ComesTo, Knows}

-- so many units were used, by what goes on or by the run that is over; a spent run used its whole budget
abbrev Used : ℕ → Progress → Type 0
Used units (Going here) = units ≤ here.used
Used units (Over run) = units ≤ units_of units run

-- what stands behind a step that ends the run is over
abbrev Stops : {A : Type 0} → (Step A → Progress) → Type 0
Stops {A} behind_it = (run : Run) → behind_it (Ends run) ≡ Over run

module _ (units : ℕ) where
  over-used : (run : Run) (progress : Progress) → progress ≡ Over run → units ≤ units_of units run → Used units progress
  over-used run progress is used = subst (Used units) (sym is) used

  -- behind a test
  tested : (test : Bool) (trap : Trap) (state : State) (rest : Step (Unit {0}) → Progress) → Stops rest → units ≤ state.used
      → Used units (rest (Next tt state)) → Used units (rest (require test trap state))
  tested true trap state rest stops used more = more
  tested false trap state rest stops used more = over-used (Trapped trap state.used) (rest (Ends (Trapped trap state.used))) (stops (Trapped trap state.used)) used

  -- behind a charge
  paid : (fits : Bool) (state : State) (rest : Step (Unit {0}) → Progress) → Stops rest
      → Used units (rest (Next tt state)) → Used units (rest (if fits then Next tt state else Ends Spent))
  paid true state rest stops more = more
  paid false state rest stops more = over-used Spent (rest (Ends Spent)) (stops Spent) (omega arith)

  module _ (code : Code) (world : World) where
    -- the state behind a charge
    abbrev charged_by : ℕ → State → State
    charged_by price state = record state { used = state.used + price }

    charged : (price : ℕ) (state : State) (rest : Step (Unit {0}) → Progress) → Stops rest
        → Used units (rest (Next tt (charged_by price state))) → Used units (rest (charge world price state))
    charged price state rest stops more = paid (nat_le (state.used + price) world.budget) (charged_by price state) rest stops more

    reads-used : (place : Place) (asker : Asker) (here : Config) → units ≤ here.used → Used units (reads world place asker here)
    reads-used place asker here used =
        let next : Unit {0} → Config → Progress = λ _ later. Going (record later { doing = Reading place asker }) in
        tested (can_read world.view.rights place.table) Denied (state_of here)
        (λ (step : Step (Unit {0})). behind here next (after step (λ _. charge world 16))) (λ run. refl) used
        (charged 16 (state_of here) (behind here next) (λ run. refl) (omega arith))

    temp-used : (here : Config) → units ≤ here.used → Used units (perform code world op.Temp here)
    temp-used here used =
        let size = number_of (last here) in
        let base = record here { stack = drop 1 here.stack } in
        let made : Value = value.Temp (replicate size 0) in
        tested (nat_le size 4096) Size (state_of here)
        (λ (step : Step (Unit {0})). behind base pushes (after step (λ _. charge world (size / 16) >>= (λ _. give made)))) (λ run. refl) used
        (charged (size / 16) (state_of here) (λ (step : Step (Unit {0})). behind base pushes (after step (λ _. give made))) (λ run. refl) (omega arith))

    buffer-used : (here : Config) → units ≤ here.used → Used units (perform code world op.Alloc here)
    buffer-used here used =
        let table = number_of (third here) in
        let key = bytes_of (second here) in
        let size = number_of (last here) in
        let base = record here { stack = drop 3 here.stack } in
        let made : Value = value.Buf (record { table = record { 0 = table }; key = key; bytes = replicate size 0 }) in
        tested (is_key key && nat_le size 4096) Size (state_of here)
        (λ (step : Step (Unit {0})). behind base pushes (after step (λ _. require (can_write world.view.rights table) Denied >>= (λ _. charge world (size / 16) >>= (λ _. give made))))) (λ run. refl) used
        (tested (can_write world.view.rights table) Denied (state_of here)
        (λ (step : Step (Unit {0})). behind base pushes (after step (λ _. charge world (size / 16) >>= (λ _. give made)))) (λ run. refl) used
        (charged (size / 16) (state_of here) (λ (step : Step (Unit {0})). behind base pushes (after step (λ _. give made))) (λ run. refl) (omega arith)))

    -- a test, and then a value in place of the last ones
    value-used : (test : Bool) (trap : Trap) (made : Value) (here : Config) → units ≤ here.used
        → Used units (does here (require test trap >>= (λ _. give made)) pushes)
    value-used test trap made here used =
        tested test trap (state_of here) (λ (step : Step (Unit {0})). behind here pushes (after step (λ _. give made))) (λ run. refl) used used

    overwrites-used : (here : Config) (number place : ℕ) (bytes : List ℕ) → units ≤ here.used → Used units (overwrites here number place bytes)
    overwrites-used here number place bytes used =
        let buffer = slot here.slots number in
        let next : Unit {0} → Config → Progress = λ _ later. goes_to (later.pc + 1) (record later {
          slots = slice_set later.slots number (with_bytes buffer (overwritten (buffer_of buffer) place bytes));
          stack = drop 2 later.stack;
        }) in
        tested (nat_le (place + length bytes) (length (buffer_of buffer))) Range (state_of here) (behind here next) (λ run. refl) used used

    set-used : (number : ℕ) (here : Config) → units ≤ here.used → Used units (perform code world (op.Set number) here)
    set-used number here used =
        tested (nat_lt (number_of (last here)) 256) Range (state_of here)
        (behind here (λ _ later. overwrites later number (number_of (second later)) (number_of (last later) ∷ []))) (λ run. refl) used
        (overwrites-used here number (number_of (second here)) (number_of (last here) ∷ []) used)

    -- behind a work on the last values
    abbrev on : Config → Step (Unit {0}) → Progress
    on here = behind here (λ _ later. goes_to (later.pc + 1) later)

    write-used : (new : Write) (here : Config) → units ≤ here.used → Used units (on here (write new (state_of here)))
    write-used new here used =
        tested (is_some (pending (place_changed new) here.writes) || nat_lt (length here.writes) 64) Size (state_of here)
        (λ (step : Step (Unit {0})). on here (after step (λ _. become (record (state_of here) { writes = changed new here.writes })))) (λ run. refl) used used

    put-used : (buffer : Value) (here : Config) → units ≤ here.used → Used units (on here (put buffer (state_of here)))
    put-used (value.Buf buffer) here used =
        write-used (record { table = buffer.table; key = buffer.key; change = change.Put buffer.bytes }) here used
    put-used (value.Int number) here used = used
    put-used (value.Bool truth) here used = used
    put-used (value.Slice bytes) here used = used
    put-used (value.Temp bytes) here used = used

    delete-used : (here : Config) → units ≤ here.used → Used units (perform code world op.Del here)
    delete-used here used =
        let table = number_of (second here) in
        let key = bytes_of (last here) in
        let base = record here { stack = drop 2 here.stack } in
        let deleted = write (record { table = record { 0 = table }; key = key; change = change.Del }) in
        tested (is_key key) Size (state_of here)
        (λ (step : Step (Unit {0})). on base (after step (λ _. require (can_write world.view.rights table) Denied >>= (λ _. deleted)))) (λ run. refl) used
        (tested (can_write world.view.rights table) Denied (state_of here)
        (λ (step : Step (Unit {0})). on base (after step (λ _. deleted))) (λ run. refl) used
        (write-used (record { table = record { 0 = table }; key = key; change = change.Del }) base used))

    reply-used : (here : Config) → units ≤ here.used → Used units (perform code world op.Resp here)
    reply-used here used =
        let bytes = bytes_of (last here) in
        let base = record here { stack = drop 1 here.stack } in
        tested (nat_le (length here.reply + length bytes) 4096) Size (state_of here)
        (λ (step : Step (Unit {0})). on base (after step (λ _. become (record (state_of here) { reply = here.reply ++ bytes })))) (λ run. refl) used used

    charge-used : (price : ℕ) (here : Config) → units ≤ here.used → Used units (perform code world (op.Charge price) here)
    charge-used price here used =
        charged price (state_of here) (on (record here { stack = drop 0 here.stack })) (λ run. refl) (omega arith)

    get-used : (target : ℕ) (here : Config) → units ≤ here.used → Used units (perform code world (op.Get target) here)
    get-used target here used =
        let place : Place = record { table = number_of (second here); key = bytes_of (last here) } in
        tested (is_key (bytes_of (last here))) Size (state_of here)
        (behind here (λ _ later. reads world place (ForGet target) (record later { stack = drop 2 later.stack }))) (λ run. refl) used
        (reads-used place (ForGet target) (record here { stack = drop 2 here.stack }) used)

    choice : (test : Bool) (first second : Progress) → Used units first → Used units second → Used units (if test then first else second)
    choice true first second one other = one
    choice false first second one other = other

    many-used : (target : ℕ) (here : Config) → units ≤ here.used → Used units (takes_next world target here)
    many-used target here used =
        let table = number_of (fourth here) in
        let keys = bytes_of (third here) in
        let width = number_of (second here) in
        let place = number_of (last here) in
        let at : Place = record { table = table; key = part_of keys place width } in
        let rest : Config → Config = λ later. record later { stack = value.Int (place + width) ∷ below later.stack } in
        let left : Config → Progress = λ later. goes_to target (record later { stack = drop 4 later.stack }) in
        tested (nat_le 1 width && nat_le width 64 && (length keys % width == 0)) Width (state_of here)
        (behind here (λ _ later. if nat_le (length keys) place then left later else reads world at ForMulti (rest later))) (λ run. refl) used
        (choice (nat_le (length keys) place) (left here) (reads world at ForMulti (rest here)) used (reads-used at ForMulti (rest here) used))

    back-used : (frames : List Frame) (result : Value) (used : ℕ) (reply : List ℕ) (writes : List Write)
        → units ≤ used → Used units (back frames result used reply writes)
    back-used [] result used reply writes fits = fits
    back-used (frame ∷ frames) result used reply writes fits = fits

    perform-used : (instruction : Op) (here : Config) → units ≤ here.used → Used units (perform code world instruction here)
    perform-used op.Over here used =
        value-used (nat_lt 0 (number_of (last here))) Divide (value.Int (number_of (second here) / number_of (last here)))
        (record here { stack = drop 2 here.stack }) used
    perform-used op.Rest here used =
        value-used (nat_lt 0 (number_of (last here))) Divide (value.Int (number_of (second here) % number_of (last here)))
        (record here { stack = drop 2 here.stack }) used
    perform-used op.Byte here used =
        let bytes = bytes_of (second here) in
        let place = number_of (last here) in
        value-used (nat_lt place (length bytes)) Range (value.Int (slice_index bytes place)) (record here { stack = drop 2 here.stack }) used
    perform-used op.Word here used =
        let bytes = bytes_of (second here) in
        let place = number_of (last here) in
        value-used (nat_le (place + 8) (length bytes)) Range (value.Int (word_of (part_of bytes place 8))) (record here { stack = drop 2 here.stack }) used
    perform-used op.Sub here used =
        let bytes = bytes_of (third here) in
        let from = number_of (second here) in
        let count = number_of (last here) in
        value-used (nat_le (from + count) (length bytes)) Range (value.Slice (part_of bytes from count)) (record here { stack = drop 3 here.stack }) used
    perform-used op.Alloc here used = buffer-used here used
    perform-used op.Temp here used = temp-used here used
    perform-used (op.Set number) here used = set-used number here used
    perform-used (op.Set8 number) here used = overwrites-used here number (number_of (second here)) (word_bytes (number_of (last here))) used
    perform-used (op.Copy number) here used = overwrites-used here number (number_of (second here)) (bytes_of (last here)) used
    perform-used (op.Put number) here used = put-used (slot here.slots number) (record here { stack = drop 0 here.stack }) used
    perform-used op.Del here used = delete-used here used
    perform-used op.Resp here used = reply-used here used
    perform-used (op.Charge price) here used = charge-used price here used
    perform-used (op.Get target) here used = get-used target here used
    perform-used (op.Multi target) here used = many-used target here used
    perform-used op.Return here used = back-used here.frames (last here) here.used here.reply here.writes used
    perform-used _ here used = used

    answers-used : (asker : Asker) (answer : Option (List ℕ)) (here : Config) → units ≤ here.used → Used units (answers asker answer here)
    answers-used (ForGet target) (Some bytes) here used = used
    answers-used (ForGet target) None here used = used
    answers-used ForMulti (Some bytes) here used = used
    answers-used ForMulti None here used = used

    known-used : (answer : Option (Option (List ℕ))) (place : Place) (asker : Asker) (here : Config) → units ≤ here.used
        → Used units (does here (known_or_wanted answer place) (answers asker))
    known-used (Some answer) place asker here used = answers-used asker answer here used
    known-used None place asker here used = used

    found-used : (change : Option Change) (place : Place) (asker : Asker) (here : Config) → units ≤ here.used
        → Used units (does here (found world place change) (answers asker))
    found-used (Some change) place asker here used = answers-used asker (left_by change) here used
    found-used None place asker here used = known-used (world.view.known place) place asker here used

    turn-used : (doing : Doing) (here : Config) → units ≤ here.used → Used units (goes_on code world doing here)
    turn-used Working here used = perform-used (op_at code here.function here.pc) here used
    turn-used (Reading place asker) here used = found-used (pending place here.writes) place asker here used

    once-used : (progress : Progress) → Used units progress → Used units (once code world progress)
    once-used (Going here) used = turn-used here.doing here used
    once-used (Over run) used = used

    pub steps-used : (count : ℕ) (progress : Progress) → Used units progress → Used units (steps code world count progress)
    steps-used zero progress used = used
    steps-used (suc count) progress used = steps-used count (once code world progress) (once-used progress used)

module _ (code : Code) (world : World) where
  over-on : (count : ℕ) (progress : Progress) (run : Run) → steps code world count progress ≡ Over run → steps code world count (once code world progress) ≡ Over run
  over-on zero progress run over = ap (once code world) over
  over-on (suc count) progress run over = over-on count (once code world progress) run over

  -- what is over after some turns from the beginning is over after as many from a place on the way
  over-from : (way count : ℕ) (progress : Progress) (here : Config) (run : Run)
      → steps code world way progress ≡ Going here → steps code world count progress ≡ Over run → steps code world count (Going here) ≡ Over run
  over-from zero count progress here run at over = subst (λ (p : Progress). steps code world count p ≡ Over run) at over
  over-from (suc way) count progress here run at over = over-from way count (once code world progress) here run at (over-on count progress run over)

knows-itself : (view : View) → Knows view view
knows-itself view = record { rights = refl; known = λ place known is. is }

-- a run that is not spent with a limit used no more than the limit with any budget
short : (limit used : ℕ) (run : Run) → IsWithin limit run → limit < used → used ≤ units_of used run → run ≡ Spent
short limit used (Done reply writes units) within past enough = absurd (omega arith)
short limit used (Trapped trap units) within past enough = absurd (omega arith)
short limit used Spent within past enough = refl
short limit used (Wants table key units) within past enough = absurd (omega arith)

-- either the meaning with a limit is spent, or it is the same with more units
spent-or-same : (program : Program) (args : List ℕ) (limit greater : ℕ) (view : View) (run : Run) → limit ≤ greater
    → mean program args limit view ≡ run → (run ≡ Spent) ⊎ (mean program args greater view ≡ run)
spent-or-same program args limit greater view Spent more is = inl refl
spent-or-same program args limit greater view (Done reply writes used) more is =
    inr (greater-budgets program args limit greater view more (λ spent. let clash : Done reply writes used ≡ Spent = sym is ∙ spent in cc) ∙ is)
spent-or-same program args limit greater view (Trapped trap used) more is =
    inr (greater-budgets program args limit greater view more (λ spent. let clash : Trapped trap used ≡ Spent = sym is ∙ spent in cc) ∙ is)
spent-or-same program args limit greater view (Wants table key used) more is =
    inr (greater-budgets program args limit greater view more (λ spent. let clash : Wants table key used ≡ Spent = sym is ∙ spent in cc) ∙ is)

pub past-is-spent : (code : Code) (program : Program) (args : List ℕ) (view : View) (here : Config) (limit : ℕ)
    → Does code program → ComesTo code args view here → limit < here.used → mean program args limit view ≡ Spent
past-is-spent code program args view here limit means comes past =
    let used = here.used in
    let world : World = record { args = args; budget = used; view = view } in
    let way = comes used view (omega arith) (knows-itself view) in
    let whole = mean program args used view in
    let over = over-from code world way.0 (most_turns code used) (Going (begin code)) here whole way.1 (means.means args used view) in
    let enough : Used used (Over whole) = subst (Used used) over (steps-used used code world (most_turns code used) (Going here) (omega arith)) in
    elim (spent-or-same program args limit used view (mean program args limit view) (omega arith) refl) [
      | inl spent ↦ spent
      | inr same ↦
          short limit used (mean program args limit view) (stay-within program args limit view) past
          (subst (λ (run : Run). used ≤ units_of used run) same enough)
    ]
