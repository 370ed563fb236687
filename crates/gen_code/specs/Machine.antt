-- What code does: one instruction after another, on a stack of values, over any view. Charges, reads,
-- tests and writes are the works of the meaning itself.
use Rattle.std.specs.Prelude.{ℕ, zero, suc, ◌+◌, ◌-◌, ◌*◌, ◌%◌, ◌==◌, ◌&&◌, not, nat_le, nat_lt, Bool, true, false, List, [], ◌∷◌, ◌++◌, length, take, drop, reverse, slice_get, slice_set, Option, Some, None, unwrap_or, if◌then◌else◌}
use Rattle.sp_base.specs.declared.outcomes.Trap.TheVariants.{Range, Size, Denied, Width}
use Rattle.sp_base.specs.declared.writes.Write.{Write}
use Rattle.sp_base.specs.Places.{Place}
use Rattle.sp_base.specs.RightsList.{can_read}
use Rattle.ext_mean.specs.declared.expr.BinOp.TheVariants as operator
use Rattle.ext_mean.specs.declared.run.Run.{Run}
use Rattle.ext_mean.specs.declared.run.Run.TheVariants.{Done}
use Rattle.ext_mean.specs.declared.state.State.{State}
use Rattle.ext_mean.specs.declared.state.Value.{Value}
use Rattle.ext_mean.specs.declared.state.Value.TheVariants as value
use Rattle.ext_mean.specs.Work.{World, Step, Next, Ends, Work, ◌>>=◌, give, look, charge, require}
use Rattle.ext_mean.specs.MeaningValues.{nothing, number_of, truth_of, bytes_of, buffer_of, with_bytes, word_bytes, overwritten, part_of, pending, is_key}
use Rattle.ext_mean.specs.MeaningExpressions.{operate, byte_at, word_at, sub_at, new_temp, new_buffer}
use Rattle.ext_mean.specs.MeaningStatements.{found, put, del, resp}
use Rattle.gen_code.specs.declared.code.Code.{Code}
use Rattle.gen_code.specs.declared.code.CodeFn.{CodeFn}
use Rattle.gen_code.specs.declared.op.Op.{Op}
use Rattle.gen_code.specs.declared.op.Op.TheVariants as op

-- what a caller goes on with behind its call
pub record Frame : Type 0 where
  pub function : ℕ
  pub pc : ℕ
  pub slots : List Value
  pub stack : List Value

-- who reads: a `get`, which jumps where the record is absent, or a `multiget`
pub data Asker : Type 0 where
  ForGet : (target : ℕ) → Asker
  ForMulti : Asker

-- the next instruction is to be done, or the last one has paid for a read and asks for the record
pub data Doing : Type 0 where
  Working : Doing
  Reading : Place → Asker → Doing

-- Where a run stands: the instruction of a function, the variables in scope, the values that wait with
-- the last one first, the callers with the last one first, and what the run has so far.
pub record Config : Type 0 where
  pub function : ℕ
  pub pc : ℕ
  pub slots : List Value
  pub stack : List Value
  pub frames : List Frame
  pub doing : Doing
  pub used : ℕ
  pub reply : List ℕ
  pub writes : List Write

-- it goes on, or it is over
pub data Progress : Type 0 where
  Going : Config → Progress
  Over : Run → Progress

-- what a run has so far, as the works of the meaning see it
abbrev pub state_of : Config → State
state_of here = record { used = here.used; reply = here.reply; writes = here.writes; locals = [] }

-- behind a work of the meaning
abbrev pub behind : {A : Type 0} → Config → (A → Config → Progress) → Step A → Progress
behind here more (Next value state) =
    more value (record here { used = state.used; reply = state.reply; writes = state.writes })
behind here more (Ends run) = Over run

-- a work of the meaning is done, and then more
abbrev pub does : {A : Type 0} → Config → Work A → (A → Config → Progress) → Progress
does here work more = behind here more (work (state_of here))

-- the last value that waits, and those before it
abbrev pub top : List Value → Value
top [] = nothing
top (last ∷ stack) = last

abbrev pub below : List Value → List Value
below [] = []
below (last ∷ stack) = stack

-- the value of a slot
abbrev pub slot : List Value → ℕ → Value
slot slots number = unwrap_or (slice_get slots number) nothing

-- A value becomes that of a slot, or of a new one behind the others; farther behind there is none.
abbrev pub stored : ℕ → Value → List Value → List Value
stored number new slots =
    if number == length slots then slots ++ new ∷ [] else slice_set slots number new

-- to another instruction of the function
abbrev pub goes_to : ℕ → Config → Progress
goes_to target here = Going (record here { pc = target })

-- to the next instruction, with one more value
abbrev pub pushes : Value → Config → Progress
pushes value here = Going (record here { pc = here.pc + 1; stack = value ∷ here.stack })

-- a work gives a value in place of the last ones, of which this many are taken
abbrev pub replaces : Config → ℕ → Work Value → Progress
replaces here taken work = does (record here { stack = drop taken here.stack }) work pushes

-- a work is done on the last values, of which this many are taken
abbrev pub takes : Config → ℕ → Work (Unit {0}) → Progress
takes here taken work =
    does (record here { stack = drop taken here.stack }) work (λ _ later. goes_to (later.pc + 1) later)

-- the last values: the last one, the one before it, and so on
abbrev pub last : Config → Value
last here = top here.stack

abbrev pub second : Config → Value
second here = top (below here.stack)

abbrev pub third : Config → Value
third here = top (below (below here.stack))

abbrev pub fourth : Config → Value
fourth here = top (below (below (below here.stack)))

-- bytes written into the buffer of a slot, where they are within it
abbrev pub overwrites : Config → ℕ → ℕ → List ℕ → Progress
overwrites here number place bytes =
    let buffer = slot here.slots number in
    does here (require (nat_le (place + length bytes) (length (buffer_of buffer))) Range) (λ _ later.
    goes_to (later.pc + 1) (record later {
      slots = slice_set later.slots number (with_bytes buffer (overwritten (buffer_of buffer) place bytes));
      stack = drop 2 later.stack;
    }))

-- the read of a record: the table's level and 16 units, and then it is asked
abbrev pub reads : World → Place → Asker → Config → Progress
reads world place asker here =
    does here (require (can_read world.view.rights place.table) Denied >>= (λ _. charge world 16)) (λ _ later.
    Going (record later { doing = Reading place asker }))

-- the record that was asked is there or absent
abbrev pub answers : Asker → Option (List ℕ) → Config → Progress
answers (ForGet target) (Some bytes) here = pushes (value.Slice bytes) (record here { doing = Working })
answers (ForGet target) None here = goes_to target (record here { doing = Working })
answers ForMulti (Some bytes) here =
    goes_to (here.pc + 1) (record here { doing = Working; stack = value.Bool true ∷ value.Slice bytes ∷ here.stack })
answers ForMulti None here =
    goes_to (here.pc + 1) (record here { doing = Working; stack = value.Bool false ∷ nothing ∷ here.stack })

-- `multiget`: the table, all keys, their width and the place of the next key are the last four values
abbrev pub takes_next : World → ℕ → Config → Progress
takes_next world target here =
    let table = number_of (fourth here) in
    let keys = bytes_of (third here) in
    let width = number_of (second here) in
    let place = number_of (last here) in
    does here (require (nat_le 1 width && nat_le width 64 && (length keys % width == 0)) Width) (λ _ later.
    if nat_le (length keys) place
    then goes_to target (record later { stack = drop 4 later.stack })
    else reads world (record { table = table; key = part_of keys place width }) ForMulti
    (record later { stack = value.Int (place + width) ∷ below later.stack }))

-- the function with a number; where there is none it has no parameters and no instruction
abbrev pub nowhere : CodeFn
nowhere = record { params = 0; locals = 0; ops = [] }

abbrev pub function_at : Code → ℕ → CodeFn
function_at code number = unwrap_or (slice_get code.functions number) nowhere

-- an instruction; behind the last one the function returns
abbrev pub op_at : Code → ℕ → ℕ → Op
op_at code number pc = unwrap_or (slice_get (function_at code number).ops pc) op.Return

-- A called function begins with its arguments as the only variables; the caller's are kept. The last
-- value is the last argument.
abbrev pub calls : Code → ℕ → Config → Progress
calls code number here =
    let count = (function_at code number).params in
    Going (record here {
      function = number;
      pc = 0;
      slots = reverse (take count here.stack);
      stack = [];
      frames = record {
        function = here.function;
        pc = here.pc + 1;
        slots = here.slots;
        stack = drop count here.stack;
      } ∷ here.frames;
    })

-- back to the caller with a value; that of `main` is the reply's code
abbrev pub back : List Frame → Value → ℕ → List ℕ → List Write → Progress
back [] value used reply writes = Over (Done (record { code = number_of value; bytes = reply }) writes used)
back (frame ∷ frames) value used reply writes = Going (record {
  function = frame.function;
  pc = frame.pc;
  slots = frame.slots;
  stack = value ∷ frame.stack;
  frames = frames;
  doing = Working;
  used = used;
  reply = reply;
  writes = writes;
})

-- what one instruction does
abbrev pub perform : Code → World → Op → Config → Progress
perform code world (op.Num number) here = pushes (value.Int number) here
perform code world (op.Str bytes) here = pushes (value.Slice bytes) here
perform code world (op.Truth truth) here = pushes (value.Bool truth) here
perform code world op.Args here = pushes (value.Slice world.args) here
perform code world (op.Load number) here = pushes (slot here.slots number) here
perform code world (op.Store number) here = goes_to (here.pc + 1) (record here {
  slots = stored number (last here) here.slots;
  stack = below here.stack;
})
perform code world (op.Move number) here =
    pushes (slot here.slots number) (record here { slots = slice_set here.slots number nothing })
perform code world (op.Drop number) here =
    goes_to (here.pc + 1) (record here { slots = take number here.slots })
perform code world op.Add here = replaces here 2 (operate operator.Add (second here) (last here))
perform code world op.Less here = replaces here 2 (operate operator.Less (second here) (last here))
perform code world op.Minus here = replaces here 2 (operate operator.Subtract (second here) (last here))
perform code world op.Times here = replaces here 2 (operate operator.Multiply (second here) (last here))
perform code world op.Over here = replaces here 2 (operate operator.Divide (second here) (last here))
perform code world op.Rest here = replaces here 2 (operate operator.Remainder (second here) (last here))
perform code world op.LessEq here = replaces here 2 (operate operator.LessEqual (second here) (last here))
perform code world op.EqInt here = replaces here 2 (operate operator.Equal (second here) (last here))
perform code world op.EqBool here = replaces here 2 (operate operator.Equal (second here) (last here))
perform code world op.EqSlice here = replaces here 2 (operate operator.Equal (second here) (last here))
perform code world op.Not here = replaces here 1 (give (value.Bool (not (truth_of (last here)))))
perform code world (op.Jump target) here = goes_to target here
perform code world (op.JumpFalse target) here =
    goes_to (if truth_of (last here) then (here.pc + 1) else target) (record here { stack = below here.stack })
perform code world op.Len here = replaces here 1 (give (value.Int (length (bytes_of (last here)))))
perform code world op.Byte here = replaces here 2 (byte_at (bytes_of (second here)) (number_of (last here)))
perform code world op.Word here = replaces here 2 (word_at (bytes_of (second here)) (number_of (last here)))
perform code world op.Sub here =
    replaces here 3 (sub_at (bytes_of (third here)) (number_of (second here)) (number_of (last here)))
perform code world (op.View number) here = pushes (value.Slice (buffer_of (slot here.slots number))) here
perform code world op.Alloc here =
    replaces here 3 (new_buffer world (number_of (third here)) (bytes_of (second here)) (number_of (last here)))
perform code world op.Temp here = replaces here 1 (new_temp world (number_of (last here)))
perform code world (op.Set number) here =
    does here (require (nat_lt (number_of (last here)) 256) Range) (λ _ later.
    overwrites later number (number_of (second later)) (number_of (last later) ∷ []))
perform code world (op.Set8 number) here =
    overwrites here number (number_of (second here)) (word_bytes (number_of (last here)))
perform code world (op.Copy number) here = overwrites here number (number_of (second here)) (bytes_of (last here))
perform code world (op.Put number) here = takes here 0 (put (slot here.slots number))
perform code world op.Del here = takes here 2 (del world (number_of (second here)) (bytes_of (last here)))
perform code world op.Resp here = takes here 1 (resp (bytes_of (last here)))
perform code world (op.Charge units) here = takes here 0 (charge world units)
perform code world (op.Get target) here =
    does here (require (is_key (bytes_of (last here))) Size) (λ _ later.
    reads world (record { table = number_of (second here); key = bytes_of (last here) }) (ForGet target)
    (record later { stack = drop 2 later.stack }))
perform code world (op.Multi target) here = takes_next world target here
perform code world (op.Call number) here = calls code number here
perform code world op.Return here = back here.frames (last here) here.used here.reply here.writes

-- one turn of the machine: an instruction, or the record that was paid for, which is a pending change
-- or what the view knows, and which the run wants where the view does not know it
abbrev pub goes_on : Code → World → Doing → Config → Progress
goes_on code world Working here = perform code world (op_at code here.function here.pc) here
goes_on code world (Reading place asker) here =
    does here (found world place (pending place here.writes)) (answers asker)

-- one turn; what is over stays so
abbrev pub once : Code → World → Progress → Progress
once code world (Going here) = goes_on code world here.doing here
once code world (Over run) = Over run

-- so many turns
abbrev pub steps : Code → World → ℕ → Progress → Progress
steps code world zero progress = progress
steps code world (suc count) progress = steps code world count (once code world progress)

-- a run begins with the first instruction of the last function
abbrev pub begin : Code → Config
begin code = record {
  function = length code.functions - 1;
  pc = 0;
  slots = [];
  stack = [];
  frames = [];
  doing = Working;
  used = 0;
  reply = [];
  writes = [];
}

-- the number of all instructions
abbrev pub size_of : List CodeFn → ℕ
size_of [] = 0
size_of (function ∷ rest) = length function.ops + size_of rest

-- No run of a program's code makes more turns: between two charges there are no more than there are
-- instructions, and a few behind the last one.
abbrev pub most_turns : Code → ℕ → ℕ
most_turns code budget = (size_of code.functions + 3) * (budget + 1) + 3
