-- One statement of a block and what is left of it, and statements with two blocks.
use Rattle.std.proofs.Common.{◌≡◌, ℕ, ◌+◌, ◌-◌, ◌<◌, ◌≤◌, Result, Ok, Err, OnOk, Bool, false, List, [], ◌∷◌, ◌++◌, length, map, drop, take, get_or, Option, refl, ap, sym, ◌∙◌, arith, add-one, drop-cons, length-append}
use Rattle.std.proofs.Math.Seq.{take-append_seam}
use Rattle.std.specs.Prelude.{◌||◌}
use Rattle.std.proofs.lemmas.Grind.{common_steps}
use Rattle.std.proofs.lemmas.List.{length-take, take-append-le}
use Rattle.ext_mean.specs.declared.check_codes.BorrowCode.{BorrowCode}
use Rattle.ext_mean.specs.declared.borrowing.Variable.{Variable}
use Rattle.ext_mean.specs.declared.borrowing.Origin.{Origin}
use Rattle.ext_mean.specs.declared.statement.Statement.{Statement}
use Rattle.ext_mean.specs.declared.statement.Block.{Block}
use Rattle.ext_mean.specs.Items.{last_is_return}
use Rattle.ext_mean.specs.OwnedItems.{Scene, newly_gone}
use Rattle.ext_mean.specs.Ownership.{Course, Passed, again, again_both, declares_more, either, extended, leaves, one_of, owned, owned_block, pass_in_order}
use Rattle.ext_mean.specs.declared.progress.Progress.{Progress}
use Rattle.ext_mean.specs.Progress.{after, behind, joined}
use Rattle.ext_mean.proofs.ProgressLemmas.{after-append, after-step, joined-after}
use Rattle.ext_borrow.proofs.OwnedEquations.{block-passes, last-returns}

-- the first of the items that are left
pub drop-item : {A : Type 0} (items : List A) (at : ℕ) (item : A) → at < length items → item ≡ get_or items at item → drop at items ≡ item ∷ drop (at + 1) items
drop-item items at item below is =
    let d : drop at items ≡ get_or items at item ∷ drop (at + 1) items = rw (add-one, drop-cons items at item) in
    d ∙ ap (λ first. first ∷ drop (at + 1) items) (sym is)

-- a statement was passed
module _ (loans : List (List Bool)) (items : List Statement) (at : ℕ) (item : Statement) (scene more : Scene) (gone since : List Bool)
    (below : at < length items) (item-is : item ≡ get_or items at item)
    (since-is : since ≡ ((owned loans item).passes scene gone).gone)
    (more-is : more ≡ declares_more scene (length gone) (owned loans item).declares) where
  rest : List Statement
  rest = drop (at + 1) items

  pub one-gone : (pass_in_order (map (owned loans) (drop (at + 1) items)) more since).gone ≡ (pass_in_order (map (owned loans) (drop at items)) scene gone).gone
  one-gone = let d = drop-item items at item below item-is in rw (d, since-is, more-is) refl

  pub one-codes : (was is : Progress BorrowCode) → is ≡ after was ((owned loans item).passes scene gone).codes
      → after is (pass_in_order (map (owned loans) (drop (at + 1) items)) more since).codes ≡ after was (pass_in_order (map (owned loans) (drop at items)) scene gone).codes
  one-codes was is goes =
      let d = drop-item items at item below item-is in
      let passed = (owned loans item).passes scene gone in
      rw (d, goes, since-is, more-is) (sym (after-append was passed.codes (pass_in_order (map (owned loans) (drop (at + 1) items)) (declares_more scene (length gone) (owned loans item).declares) passed.gone).codes))

nothing-more : (progress : Progress BorrowCode) → progress ≡ after progress []
nothing-more progress = let e : progress.item ≡ progress.item + 0 = omega arith in ap (λ (n : ℕ). record progress { item = n }) e

-- all statements of a block were passed
module _ (loans : List (List Bool)) (block : Block) (items : List Statement) (at : ℕ) (scene more : Scene) (gone since : List Bool)
    (items-are : items ≡ block.items) (none-left : length items ≤ at) where
  pub all-codes : (was is : Progress BorrowCode)
      → after is (pass_in_order (map (owned loans) (drop at items)) more since).codes ≡ after was (pass_in_order (map (owned loans) items) scene gone).codes
      → is ≡ after was (owned_block loans block scene gone).codes
  all-codes was is goes =
      let e : drop at items ≡ [] = grind (arith, common_steps) in
      let f : is ≡ after is (pass_in_order (map (owned loans) (drop at items)) more since).codes = rw e (nothing-more is) in
      f ∙ goes ∙ ap (λ (z : List Statement). after was (pass_in_order (map (owned loans) z) scene gone).codes) items-are ∙ ap (λ (z : Passed). after was z.codes) (sym (block-passes loans block scene gone))

  pub all-gone : (returns : Bool)
      → (pass_in_order (map (owned loans) (drop at items)) more since).gone ≡ (pass_in_order (map (owned loans) items) scene gone).gone
      → last_is_return returns (drop at items) ≡ last_is_return false items
      → leaves returns gone since ≡ (owned_block loans block scene gone).gone
  all-gone returns goes last =
      let e : drop at items ≡ [] = grind (arith, common_steps) in
      let f : since ≡ (pass_in_order (map (owned loans) block.items) scene gone).gone = rw (sym items-are) (rw e at goes) in
      let g : returns ≡ last_is_return false block.items = rw (sym items-are) (rw e at last) in
      rw (f, g, sym (last-returns loans false block.items)) (ap (λ (z : Passed). z.gone) (sym (block-passes loans block scene gone)))

-- the variables of outer blocks stay in front
pub outer-stays : (outer scope more : List Variable) → take (length outer) scope ≡ outer → take (length outer) (scope ++ more) ≡ outer
outer-stays outer scope more stays =
    let n : length outer ≤ length scope = omega (arith, length-take (length outer) scope, ap length stays) in
    take-append-le (length outer) scope more n ∙ stays

-- an item and its two blocks, of which one is run
module _ (own : Option BorrowCode) (first whole : Passed) (other : Course) (scene scene2 : Scene) (gone gone1 gone2 gone3 : List Bool) (p0 p1 p2 p3 : Progress BorrowCode)
    (whole-is : whole ≡ one_of own first (other scene (extended gone first.gone)))
    (p1-is : p1 ≡ after p0 (own ∷ [])) (p2-is : p2 ≡ after p1 first.codes) (gone1-is : gone1 ≡ first.gone)
    (scene2-is : scene2 ≡ scene) (gone2-is : gone2 ≡ extended gone gone1)
    (p3-is : p3 ≡ after p2 (other scene2 gone2).codes) (gone3-is : gone3 ≡ (other scene2 gone2).gone) where
  second-is : other scene2 gone2 ≡ other scene (extended gone first.gone)
  second-is = rw (scene2-is, gone2-is, gone1-is) refl

  pub branches-codes : p3 ≡ after p0 whole.codes
  branches-codes =
      let second = other scene (extended gone first.gone) in
      let a = after-step p0 own (first.codes ++ second.codes) in
      let b = after-append (after p0 (own ∷ [])) first.codes second.codes in
      rw whole-is (p3-is ∙ ap (λ (z : Passed). after p2 z.codes) second-is ∙ rw (p2-is, p1-is) (sym (a ∙ b)))

  pub branches-gone : either gone1 gone3 ≡ whole.gone
  branches-gone = rw (whole-is, gone1-is, gone3-is) (ap (λ (z : Passed). either first.gone z.gone) second-is)

-- an item and its block, which may run again
module _ (own : Bool → Option BorrowCode) (body whole : Passed) (gone gone1 : List Bool) (p0 q1 : Progress BorrowCode)
    (whole-is : whole ≡ again own gone body)
    (q1-is : q1 ≡ after (behind p0) body.codes) (gone1-is : gone1 ≡ body.gone) where
  pub turns-codes : joined (after p0 (own (newly_gone gone gone1) ∷ [])) q1 ≡ after p0 whole.codes
  turns-codes = rw (whole-is, gone1-is) (joined-after p0 (after p0 (own (newly_gone gone body.gone) ∷ [])) q1 (own (newly_gone gone body.gone)) body.codes refl q1-is)

  pub turns-gone : extended gone gone1 ≡ whole.gone
  turns-gone = rw (whole-is, gone1-is) refl

-- an item and its two blocks, which may run again
module _ (own : Bool → Option BorrowCode) (first whole : Passed) (other : Course) (scene scene2 : Scene) (gone gone1 gone2 gone3 : List Bool) (p0 q1 q2 : Progress BorrowCode)
    (whole-is : whole ≡ again_both own gone first (other scene (extended gone first.gone)))
    (q1-is : q1 ≡ after (behind p0) first.codes) (gone1-is : gone1 ≡ first.gone)
    (scene2-is : scene2 ≡ scene) (gone2-is : gone2 ≡ extended gone gone1)
    (q2-is : q2 ≡ after q1 (other scene2 gone2).codes) (gone3-is : gone3 ≡ (other scene2 gone2).gone) where
  other-is : other scene2 gone2 ≡ other scene (extended gone first.gone)
  other-is = rw (scene2-is, gone2-is, gone1-is) refl

  pub arms-codes : joined (after p0 (own (newly_gone gone gone1 || newly_gone gone gone3) ∷ [])) q2 ≡ after p0 whole.codes
  arms-codes =
      let second = other scene (extended gone first.gone) in
      let q : q2 ≡ after (behind p0) (first.codes ++ second.codes) = q2-is ∙ ap (λ (z : Passed). after q1 z.codes) other-is ∙ rw q1-is (sym (after-append (behind p0) first.codes second.codes)) in
      let g : gone3 ≡ second.gone = gone3-is ∙ ap (λ (z : Passed). z.gone) other-is in
      rw (whole-is, gone1-is, g) (joined-after p0 (after p0 (own (newly_gone gone first.gone || newly_gone gone second.gone) ∷ [])) q2 (own (newly_gone gone first.gone || newly_gone gone second.gone)) (first.codes ++ second.codes) refl q)

  pub arms-gone : extended gone gone3 ≡ whole.gone
  arms-gone = rw (whole-is, gone3-is) (ap (λ (z : Passed). extended gone z.gone) other-is)

-- the keys of a `multiget` are held no more
pub unheld : (held was is : List Origin) (origin : Origin) → was ≡ held ++ origin ∷ [] → is ≡ take (length was - 1) was → is ≡ held
unheld held was is origin was-is is-is =
    let n : length (held ++ origin ∷ []) - 1 ≡ length held = omega (arith, length-append held (origin ∷ [])) in
    is-is ∙ rw (was-is, n) (take-append_seam held (origin ∷ []))

-- a fact of an answer, from others
pub on-ok : {T E : Type 0} (r : Result T E) (P Q : Type 0) → (P → Q) → OnOk r P → OnOk r Q
on-ok (Ok x) P Q f p = f p
on-ok (Err e) P Q f p = p

pub on-ok-both : {T E : Type 0} (r : Result T E) (P Q R : Type 0) → (P → Q → R) → OnOk r P → OnOk r Q → OnOk r R
on-ok-both (Ok x) P Q R f p q = f p q
on-ok-both (Err e) P Q R f p q = p

pub on-ok-three : {T E : Type 0} (r : Result T E) (P Q R S : Type 0) → (P → Q → R → S) → OnOk r P → OnOk r Q → OnOk r R → OnOk r S
on-ok-three (Ok x) P Q R S f p q s = f p q s
on-ok-three (Err e) P Q R S f p q s = p

-- a scene is its two parts
pub scene-parts : (one other : Scene) → one.scope ≡ other.scope → one.held ≡ other.held → one ≡ other
scene-parts one other scope held =
    let of : List Variable → List Origin → Scene = λ variables origins. record { scope = variables; held = origins } in
    ap (λ (variables : List Variable). of variables one.held) scope ∙ ap (of other.scope) held
