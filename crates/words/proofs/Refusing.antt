-- A line with a word that is refused names no command.
use Rattle.std.specs.Prelude.{Bool, ◌||◌, option_and_then, option_map, if◌then◌else◌}
use Rattle.std.proofs.Common.{◌≡◌, ℕ, true, false, List, [], ◌∷◌, Option, Some, None, codes, refl, sym, ap, subst, arith}
use Rattle.std.specs.List.{list_any}
use Rattle.std.specs.Str.{bytes_eq}
use Rattle.std.proofs.lemmas.Slice.Eq.{bytes_eq-Decides}
use Rattle.sched_text.specs.Fields.{at_most, digit_value, number_of, u64_max}
use Rattle.words.specs.declared.command.Command.{Command}
use Rattle.words.specs.declared.command.Command.TheVariants.{Drill}
use Rattle.words.specs.Grammar.{begins_with_dash, command_of, drill_with, is_refused}

-- what holds of each word that begins with a dash and of `help` holds of each word that is refused
dashed : (P : List ℕ → Type 0) → ((more : List ℕ) → P (45 ∷ more)) → (word : List ℕ) → begins_with_dash word ≡ true → P word
dashed P all [] is = absurd cc
dashed P all (first ∷ more) is = let e : first ≡ 45 = grind arith in subst (λ (byte : ℕ). P (byte ∷ more)) (sym e) (all more)

refused : (P : List ℕ → Type 0) → ((more : List ℕ) → P (45 ∷ more)) → P (codes "help") → (word : List ℕ) → is_refused word ≡ true → P word
refused P all help word is = by (begins_with_dash word) (bytes_eq word (codes "help")) refl refl is
  where
    by : (dash other : Bool) → begins_with_dash word ≡ dash → bytes_eq word (codes "help") ≡ other → (dash || other) ≡ true → P word
    by true other dash same is = dashed P all word dash
    by false true dash same is = subst P (sym ((bytes_eq-Decides word (codes "help")).0 same)) help
    by false false dash same is = absurd cc

dash-no-number : (more : List ℕ) → number_of (45 ∷ more) ≡ None
unfolding digit_value
dash-no-number [] = refl
dash-no-number (byte ∷ more) = refl

help-no-number : number_of (codes "help") ≡ None
unfolding digit_value
help-no-number = refl

no-number : (word : List ℕ) → is_refused word ≡ true → number_of word ≡ None
no-number = refused (λ word. number_of word ≡ None) dash-no-number help-no-number

-- such a word is no name
no-name : (word : List ℕ) (rest : List (List ℕ)) → is_refused word ≡ true → command_of (word ∷ rest) ≡ None
no-name word rest is = refused (λ word. command_of (word ∷ rest) ≡ None) (of-dash rest) (of-help rest) word is
  where
    of-dash : (rest : List (List ℕ)) (more : List ℕ) → command_of ((45 ∷ more) ∷ rest) ≡ None
    of-dash [] more = refl
    of-dash (count ∷ []) more = refl
    of-dash (count ∷ seed ∷ []) more = refl
    of-dash (count ∷ seed ∷ word ∷ words) more = refl

    of-help : (rest : List (List ℕ)) → command_of (codes "help" ∷ rest) ≡ None
    of-help [] = refl
    of-help (count ∷ []) = refl
    of-help (count ∷ seed ∷ []) = refl
    of-help (count ∷ seed ∷ word ∷ words) = refl

if-none : (test : Bool) (found : Option Command) → found ≡ None → (if test then found else None) ≡ None
if-none true found is = is
if-none false found is = refl

no-seed : (calls : Option ℕ) (number : Option ℕ) → number ≡ None
    → option_and_then (λ count. option_map (λ seed. Drill count seed) (at_most u64_max number)) calls ≡ None
no-seed None number is = refl
no-seed (Some count) number is = rw is refl

no-numbers : (name count seed : List ℕ) → (is_refused count || (is_refused seed || false)) ≡ true → command_of (name ∷ count ∷ seed ∷ []) ≡ None
no-numbers name count seed is = if-none (bytes_eq name (codes "drill")) (drill_with count seed) (by (is_refused count) (is_refused seed) refl refl is)
  where
    by : (first second : Bool) → is_refused count ≡ first → is_refused seed ≡ second → (first || (second || false)) ≡ true → drill_with count seed ≡ None
    by true second one other is =
        ap (λ (number : Option ℕ). option_and_then (λ calls. option_map (λ seed. Drill calls seed) (at_most u64_max (number_of seed))) (at_most 10000 number))
        (no-number count one)
    by false true one other is = no-seed (at_most 10000 (number_of count)) (number_of seed) (no-number seed other)
    by false false one other is = absurd cc

pub refused-names-none : (words : List (List ℕ)) → list_any is_refused words ≡ true → command_of words ≡ None
refused-names-none [] is = absurd cc
refused-names-none (name ∷ rest) is = by (is_refused name) refl rest is
  where
    by : (test : Bool) → is_refused name ≡ test → (rest : List (List ℕ)) → (test || list_any is_refused rest) ≡ true → command_of (name ∷ rest) ≡ None
    by true first rest is = no-name name rest first
    by false first [] is = absurd cc
    by false first (count ∷ []) is = refl
    by false first (count ∷ seed ∷ []) is = no-numbers name count seed is
    by false first (count ∷ seed ∷ word ∷ more) is = refl
