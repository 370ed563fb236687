-- The bounds on the tokens of a text, by one walk over its slots.
use Rattle.std.specs.Prelude.{◌&&◌, nat_lt}
use Rattle.std.proofs.Common.{◌≡◌, inl, inr, ℕ, ◌^◌, ◌<◌, ◌≤◌, Bool, true, List, [], ◌∷◌, ◌++◌, length, refl, sym, ap, ◌∙◌, subst, arith, append_assoc, append-nil}
use Rattle.std.proofs.lemmas.Bool.{ltb-true}
use Rattle.ext_mean.specs.declared.token.Token.{Token}
use Rattle.ext_mean.specs.declared.token.Token.TheVariants as token
use Rattle.ext_mean.specs.Bounds.{IsTooLong, IsBounded, AreBounded, open_with, open_behind, functions_with, functions_behind, locals_with, locals_behind, operators_at}
use Rattle.ext_mean.specs.Wording.{Slot, slot_tokens}
use Rattle.ext_mean.proofs.Pieces.{and-both}

-- no name and no number is too long
abbrev pub ShortThen : Token → Type 0 → Type 0
ShortThen (token.Name name) rest = (length name ≤ 32) × rest
ShortThen (token.Number number) rest = (number < 2 ^ 64) × rest
ShortThen other rest = rest

abbrev pub AreShort : List Slot → Type 0
AreShort [] = Unit {0}
AreShort (first ∷ slots) = ShortThen first.token (AreShort slots)

short-first : (t : Token) (rest : Type 0) → ShortThen t rest → IsTooLong t → ⊥
short-first (token.Word word) rest short long = long
short-first (token.Name name) rest short long = omega (arith, short.0, long)
short-first (token.Number number) rest short long = omega (arith, short.0, long)
short-first (token.Str items) rest short long = long
short-first (token.Mark mark) rest short long = long
short-first token.Not rest short long = long
short-first (token.Binary operator) rest short long = long

short-rest : (t : Token) (rest : Type 0) → ShortThen t rest → rest
short-rest (token.Word word) rest short = short
short-rest (token.Name name) rest short = short.1
short-rest (token.Number number) rest short = short.1
short-rest (token.Str items) rest short = short
short-rest (token.Mark mark) rest short = short
short-rest token.Not rest short = short
short-rest (token.Binary operator) rest short = short

-- the counts before each slot are below their bounds
abbrev pub fits_at : ℕ → ℕ → ℕ → Slot → Bool
fits_at open_before functions locals first =
    nat_lt open_before 32 && (nat_lt functions 32 && (nat_lt locals 256 && nat_lt (operators_at first.standing) 64))

abbrev pub all_fit : ℕ → ℕ → ℕ → List Slot → Bool
all_fit open_before functions locals [] = true
all_fit open_before functions locals (first ∷ slots) =
    fits_at open_before functions locals first
    && all_fit (open_with open_before first.token) (functions_with functions first.token) (locals_with locals first.token first.standing) slots

-- the counts behind one more slot
open-more : (before : ℕ) (slots : List Slot) (last : Slot) → open_behind before (slot_tokens (slots ++ last ∷ [])) ≡ open_with (open_behind before (slot_tokens slots)) last.token
open-more before [] last = refl
open-more before (first ∷ slots) last = open-more (open_with before first.token) slots last

functions-more : (before : ℕ) (slots : List Slot) (last : Slot) → functions_behind before (slots ++ last ∷ []) ≡ functions_with (functions_behind before slots) last.token
functions-more before [] last = refl
functions-more before (first ∷ slots) last = functions-more (functions_with before first.token) slots last

locals-more : (before : ℕ) (slots : List Slot) (last : Slot) → locals_behind before (slots ++ last ∷ []) ≡ locals_with (locals_behind before slots) last.token last.standing
locals-more before [] last = refl
locals-more before (first ∷ slots) last = locals-more (locals_with before first.token first.standing) slots last

abbrev Fits : List Slot → List Slot → Type 0
Fits passed slots =
    all_fit (open_behind 0 (slot_tokens passed)) (functions_behind 0 passed) (locals_behind 0 passed) slots ≡ true

fits-first : (passed : List Slot) (first : Slot) (slots : List Slot) → Fits passed (first ∷ slots)
    → fits_at (open_behind 0 (slot_tokens passed)) (functions_behind 0 passed) (locals_behind 0 passed) first ≡ true
fits-first passed first slots fits = (and-both (fits_at (open_behind 0 (slot_tokens passed)) (functions_behind 0 passed) (locals_behind 0 passed) first) _ fits).0

fits-rest : (passed : List Slot) (first : Slot) (slots : List Slot) → Fits passed (first ∷ slots) → Fits (passed ++ first ∷ []) slots
fits-rest passed first slots fits =
    let rest = (and-both (fits_at (open_behind 0 (slot_tokens passed)) (functions_behind 0 passed) (locals_behind 0 passed) first) _ fits).1 in
    subst (λ n. all_fit n (functions_behind 0 (passed ++ first ∷ [])) (locals_behind 0 (passed ++ first ∷ [])) slots ≡ true) (sym (open-more 0 passed first))
    (subst (λ n. all_fit (open_with (open_behind 0 (slot_tokens passed)) first.token) n (locals_behind 0 (passed ++ first ∷ [])) slots ≡ true) (sym (functions-more 0 passed first))
    (subst (λ n. all_fit (open_with (open_behind 0 (slot_tokens passed)) first.token) (functions_with (functions_behind 0 passed) first.token) n slots ≡ true) (sym (locals-more 0 passed first)) rest))

bounded-first : (passed : List Slot) (first : Slot) (rest : Type 0) → ShortThen first.token rest
    → fits_at (open_behind 0 (slot_tokens passed)) (functions_behind 0 passed) (locals_behind 0 passed) first ≡ true → IsBounded passed first
bounded-first passed first rest short test =
    let brackets = and-both (nat_lt (open_behind 0 (slot_tokens passed)) 32) _ test in
    let functions = and-both (nat_lt (functions_behind 0 passed) 32) _ brackets.1 in
    let locals = and-both (nat_lt (locals_behind 0 passed) 256) (nat_lt (operators_at first.standing) 64) functions.1 in
    let few-brackets = ltb-true (open_behind 0 (slot_tokens passed)) 32 brackets.0 in
    let few-functions = ltb-true (functions_behind 0 passed) 32 functions.0 in
    let few-locals = ltb-true (locals_behind 0 passed) 256 locals.0 in
    let few-operators = ltb-true (operators_at first.standing) 64 locals.1 in
    record {
      short = short-first first.token rest short;
      shallow = λ deep. omega (arith, few-brackets, deep.1);
      few = λ many. elim many [
        | inl function ↦ omega (arith, few-functions, function.2)
        | inr others ↦ elim others [
          | inl local ↦ omega (arith, few-locals, local.2)
          | inr operator ↦ omega (arith, few-operators, operator.1)
        ]
      ];
    }

same-first : {A : Type 0} (x y : A) (xs ys : List A) → x ∷ xs ≡ y ∷ ys → (x ≡ y) × (xs ≡ ys)
same-first x y xs ys same = (cc, cc)

walked : (passed slots : List Slot) → AreShort slots → Fits passed slots
    → (before : List Slot) (there : Slot) (rest : List Slot) → slots ≡ before ++ there ∷ rest → IsBounded (passed ++ before) there
walked passed [] short fits [] there rest split = absurd (cc)
walked passed [] short fits (other ∷ before) there rest split = absurd (cc)
walked passed (first ∷ slots) short fits [] there rest split =
    let same = same-first first there slots rest split in
    let bounded = bounded-first passed first (AreShort slots) short (fits-first passed first slots fits) in
    subst (λ front. IsBounded front there) (sym (append-nil passed)) (subst (λ one. IsBounded passed one) same.0 bounded)
walked passed (first ∷ slots) short fits (other ∷ before) there rest split =
    let same = same-first first other slots (before ++ there ∷ rest) split in
    let later = walked (passed ++ first ∷ []) slots (short-rest first.token (AreShort slots) short) (fits-rest passed first slots fits) before there rest same.1 in
    let front : (passed ++ first ∷ []) ++ before ≡ passed ++ (other ∷ before) =
    append_assoc passed (first ∷ []) before ∙ ap (λ one. passed ++ (one ∷ before)) same.0 in
    subst (λ slots'. IsBounded slots' there) front later

pub bounded-by : (slots : List Slot) → AreShort slots → all_fit 0 0 0 slots ≡ true → AreBounded slots
bounded-by slots short fits before there rest split = walked [] slots short fits before there rest split
