-- What a refusal says.
use Rattle.std.specs.Prelude.{◌≡◌, ℕ, Option, Some}
use Rattle.ext_mean.specs.declared.check_codes.TypeCode.{TypeCode}
use Rattle.ext_types.specs.declared.refusal.TypeRefusal.{TypeRefusal}
use Rattle.ext_types.specs.declared.refusal.TypeRefusal.TheVariants.{Fault, Memory}

-- a refusal tells the first faulty item with its first code, or that there was no memory
abbrev pub Explains : TypeRefusal → Option (ℕ × TypeCode) → Type 0
Explains (Fault item code) fault = fault ≡ Some (item, code)
Explains Memory fault = Unit {0}
