-- What the lines and fields of a text give: a value, or a code.
use Rattle.std.specs.Prelude.{◌≡◌, Bool, Result, Ok, Err, if◌then◌else◌}
use Rattle.sched_text.specs.declared.code.LineCode.{LineCode}
use Rattle.sched_text.specs.declared.line.LineFault.{LineFault}
use Rattle.sched_text.specs.declared.line.LineFault.TheVariants as faults

infixl 10 ◌>>=◌
abbrev pub ◌>>=◌ : {A B : Type 0} → Result A LineCode → (A → Result B LineCode) → Result B LineCode
(Ok x) >>= next = next x
(Err code) >>= next = Err code

-- the value if the test is passed, else the code
abbrev pub passed : {A : Type 0} → LineCode → Bool → A → Result A LineCode
passed code test x = if test then Ok x else Err code

-- what a function answered, seen by view, is what is given, unless memory ran out
abbrev pub Fails : {Y : Type 0} → LineFault → Result Y LineCode → Type 0
Fails faults.Memory given = Unit {0}
Fails (faults.Code code) given = given ≡ Err code

abbrev pub Gives : {X Y : Type 0} → (X → Y) → Result X LineFault → Result Y LineCode → Type 0
Gives view (Ok x) given = given ≡ Ok (view x)
Gives view (Err fault) given = Fails fault given
