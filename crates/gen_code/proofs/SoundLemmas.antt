-- One instruction after another, and one function after another.
use Rattle.std.proofs.Common.{◌≡◌, ℕ, ◌<◌, ◌≤◌, List, Some, None, length, get_or, refl, ap, sym, ◌∙◌, subst, arith}
use Rattle.std.specs.Prelude.{slice_get, unwrap_or}
use Rattle.std.proofs.lemmas.Option.{slice_get_read, slice_get_within}
use Rattle.gen_code.specs.declared.code.CodeFn.{CodeFn}
use Rattle.gen_code.specs.declared.op.Op.{Op}
use Rattle.gen_code.specs.Sound.{IsSoundFn, Lands, jump_of}

-- the jump of the instruction with a number may stand, if it is one
abbrev pub LandsAt : List Op → ℕ → Type 0
LandsAt ops pc =
    (target : ℕ) (instruction : Op)
    → slice_get ops pc ≡ Some instruction → jump_of instruction ≡ Some target → Lands ops pc target

-- the code of the function with a number is sound, if there is one
abbrev pub SoundAt : List CodeFn → ℕ → Type 0
SoundAt functions number =
    (function : CodeFn) → slice_get functions number ≡ Some function → IsSoundFn function.ops

same-some : {A : Type 0} (x y : A) → Some x ≡ Some y → x ≡ y
same-some x y e = ap (λ o. unwrap_or o x) e

-- the item with a number is the one that was read there
same-item : {A : Type 0} (items : List A) (at : ℕ) (item other : A) → at < length items → item ≡ get_or items at item → slice_get items at ≡ Some other → item ≡ other
same-item items at item other below is found =
    same-some item other (sym (slice_get_read items (length items) at item refl below is) ∙ found)

pub lands-jump : (ops : List Op) (pc : ℕ) (op : Op) (target : ℕ) → pc < length ops → op ≡ get_or ops pc op → Some target ≡ jump_of op → Lands ops pc target → LandsAt ops pc
lands-jump ops pc op target below is jumps lands other instruction found leads =
    let same : op ≡ instruction = same-item ops pc op instruction below is found in
    let to : target ≡ other = same-some target other (jumps ∙ ap jump_of same ∙ leads) in
    subst (λ t. Lands ops pc t) to lands

pub lands-none : (ops : List Op) (pc : ℕ) (op : Op) → pc < length ops → op ≡ get_or ops pc op → None ≡ jump_of op → LandsAt ops pc
lands-none ops pc op below is jumps other instruction found leads =
    let same : op ≡ instruction = same-item ops pc op instruction below is found in
    let no : None ≡ Some other = jumps ∙ ap jump_of same ∙ leads in
    cc

pub all-land : (ops : List Op) (count : ℕ) → length ops ≤ count → ((pc : ℕ) → pc < count → LandsAt ops pc) → IsSoundFn ops
all-land ops count reached lands pc target instruction found leads =
    let within : pc < length ops = slice_get_within ops pc instruction found in
    lands pc (omega arith) target instruction found leads

pub sound-item : (functions : List CodeFn) (at : ℕ) (function : CodeFn) → at < length functions → function ≡ get_or functions at function → IsSoundFn function.ops → SoundAt functions at
sound-item functions at function below is sound other found =
    subst (λ (f : CodeFn). IsSoundFn f.ops) (same-item functions at function other below is found) sound

-- code with a function that is not sound
pub not-sound : (functions : List CodeFn) (at : ℕ) (function : CodeFn) → at < length functions → function ≡ get_or functions at function
    → ((number : ℕ) → SoundAt functions number) → IsSoundFn function.ops
not-sound functions at function below is sound = sound at function (slice_get_read functions (length functions) at function refl below is)

pub all-sound : (functions : List CodeFn) (count : ℕ) → length functions ≤ count → ((number : ℕ) → number < count → SoundAt functions number) → (number : ℕ) → SoundAt functions number
all-sound functions count reached sound number function found =
    let within : number < length functions = slice_get_within functions number function found in
    sound number (omega arith) function found
