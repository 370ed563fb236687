-- The command that words name, by how its words are written.
use Rattle.std.specs.Prelude.{Bool, map, nat_le, option_and_then, option_map, unwrap_or, String, string_bytes, if◌then◌else◌}
use Rattle.std.proofs.Common.{◌≡◌, ◌≤◌, ◌<◌, ◌^◌, ◌↔◌, ℕ, true, false, List, [], ◌∷◌, Option, Some, None, codes, refl, sym, ap, ap₂, subst, ◌∙◌, arith}
use Rattle.std.specs.Fmt.{decimal}
use Rattle.std.specs.Str.{bytes_eq}
use Rattle.std.specs.declared.alloc.Global.{Global}
use Rattle.std.proofs.lemmas.Bool.{leb-true, le-leb}
use Rattle.std.proofs.lemmas.Slice.Eq.{bytes_eq-Decides}
use Rattle.sched_text.specs.Fields.{at_most, number_of, u64_max}
use Rattle.sched_text.proofs.Decimals.{number_again, numbers_are_decimal}
use Rattle.words.specs.declared.command.Command.{Command}
use Rattle.words.specs.declared.command.Command.TheVariants.{Check, Run, Drill}
use Rattle.words.specs.Grammar.{alone, command_of, drill_with}
use Rattle.words.specs.Words.{Names}

-- the texts are a command's words
record AreNumbers (count seed : ℕ) (texts : List (List ℕ)) : Type 0 where
  texts_are : texts ≡ codes "drill" ∷ decimal count ∷ decimal seed ∷ []
  few : count ≤ 10000
  small : seed < 2 ^ 64

abbrev Spell : Command → List (List ℕ) → Type 0
Spell Check texts = texts ≡ codes "check" ∷ []
Spell Run texts = texts ≡ codes "run" ∷ []
Spell (Drill count seed) texts = AreNumbers count seed texts

same-command : (command other : Command) → Some command ≡ Some other → command ≡ other
same-command command other is = ap (λ (o : Option Command). unwrap_or o command) is

-- a number within its bound
at-most-is : (most : ℕ) (spelled : Option ℕ) (number : ℕ) → at_most most spelled ≡ Some number → (spelled ≡ Some number) × (number ≤ most)
at-most-is most None number is = absurd cc
at-most-is most (Some value) number is = by (nat_le value most) refl is
  where
    by : (test : Bool) → nat_le value most ≡ test → (if test then Some value else None) ≡ Some number → (Some value ≡ Some number) × (number ≤ most)
    by true below is =
        let same : value ≡ number = ap (λ (o : Option ℕ). unwrap_or o value) is in
        (is, subst (λ (n : ℕ). n ≤ most) same (leb-true value most below))
    by false below is = absurd cc

at-most-again : (most number : ℕ) → number ≤ most → at_most most (Some number) ≡ Some number
at-most-again most number le = let test : nat_le number most ≡ true = le-leb number most le in rw test refl

drill-spelled : (count seed : List ℕ) (command : Command) → drill_with count seed ≡ Some command → Spell command (codes "drill" ∷ count ∷ seed ∷ [])
drill-spelled count seed command is = by (at_most 10000 (number_of count)) (at_most u64_max (number_of seed)) refl refl is
  where
    by : (calls number : Option ℕ) → at_most 10000 (number_of count) ≡ calls → at_most u64_max (number_of seed) ≡ number
        → option_and_then (λ calls. option_map (λ number. Drill calls number) number) calls ≡ Some command → Spell command (codes "drill" ∷ count ∷ seed ∷ [])
    by None number first second is = absurd cc
    by (Some calls) None first second is = absurd cc
    by (Some calls) (Some number) first second is =
        let one = at-most-is 10000 (number_of count) calls first in
        let two = at-most-is u64_max (number_of seed) number second in
        let few : calls < 2 ^ 64 = omega (arith, one.1) in
        let small : number < 2 ^ 64 = omega (arith, two.1) in
        subst (λ (command : Command). Spell command (codes "drill" ∷ count ∷ seed ∷ [])) (same-command (Drill calls number) command is)
        (record {
          texts_are = ap₂ (λ (x y : List ℕ). codes "drill" ∷ x ∷ y ∷ []) ((numbers_are_decimal count calls few).0 one.0) ((numbers_are_decimal seed number small).0 two.0);
          few = one.1;
          small = small;
        })

alone-spelled : (name : List ℕ) (command : Command) → alone name ≡ Some command → Spell command (name ∷ [])
alone-spelled name command is = by (bytes_eq name (codes "check")) (bytes_eq name (codes "run")) refl refl is
  where
    by : (check run : Bool) → bytes_eq name (codes "check") ≡ check → bytes_eq name (codes "run") ≡ run
        → (if check then Some Check else if run then Some Run else None) ≡ Some command → Spell command (name ∷ [])
    by true run first second is =
        subst (λ (command : Command). Spell command (name ∷ [])) (same-command Check command is)
        (ap (λ (text : List ℕ). text ∷ []) ((bytes_eq-Decides name (codes "check")).0 first))
    by false true first second is =
        subst (λ (command : Command). Spell command (name ∷ [])) (same-command Run command is)
        (ap (λ (text : List ℕ). text ∷ []) ((bytes_eq-Decides name (codes "run")).0 second))
    by false false first second is = absurd cc

three-spelled : (name count seed : List ℕ) (command : Command) (test : Bool) → bytes_eq name (codes "drill") ≡ test
    → (if test then drill_with count seed else None) ≡ Some command → Spell command (name ∷ count ∷ seed ∷ [])
three-spelled name count seed command true test is =
    subst (λ (text : List ℕ). Spell command (text ∷ count ∷ seed ∷ [])) (sym ((bytes_eq-Decides name (codes "drill")).0 test)) (drill-spelled count seed command is)
three-spelled name count seed command false test is = absurd cc

spelled : (texts : List (List ℕ)) (command : Command) → command_of texts ≡ Some command → Spell command texts
spelled [] command is = absurd cc
spelled (name ∷ []) command is = alone-spelled name command is
spelled (name ∷ count ∷ []) command is = absurd cc
spelled (name ∷ count ∷ seed ∷ []) command is = three-spelled name count seed command _ refl is
spelled (name ∷ count ∷ seed ∷ word ∷ more) command is = absurd cc

named : (texts : List (List ℕ)) (command : Command) → Spell command texts → command_of texts ≡ Some command
named texts Check is = rw is refl
named texts Run is = rw is refl
named texts (Drill count seed) is =
    let texts_are = is.texts_are in
    let calls : number_of (decimal count) ≡ Some count = number_again count (omega (arith, is.few)) in
    let number : number_of (decimal seed) ≡ Some seed = number_again seed is.small in
    let few = at-most-again 10000 count is.few in
    let small = at-most-again u64_max seed (omega (arith, is.small)) in
    rw texts_are (ap₂ (λ (x y : Option ℕ). option_and_then (λ calls. option_map (λ number. Drill calls number) (at_most u64_max y)) (at_most 10000 x)) calls number
    ∙ ap₂ (λ (x y : Option ℕ). option_and_then (λ calls. option_map (λ number. Drill calls number) y) x) few small)

pub names-its-words : (words : List (String Global)) (command : Command) → (command_of (map string_bytes words) ≡ Some command) ↔ Names command words
names-its-words words Check = (λ is. spelled (map string_bytes words) Check is, λ names. named (map string_bytes words) Check names)
names-its-words words Run = (λ is. spelled (map string_bytes words) Run is, λ names. named (map string_bytes words) Run names)
names-its-words words (Drill count seed) = (
  λ is. let spells = spelled (map string_bytes words) (Drill count seed) is in record { words_are = spells.texts_are; few = spells.few; small = spells.small },
  λ names. named (map string_bytes words) (Drill count seed) (record { texts_are = names.words_are; few = names.few; small = names.small }),
)
