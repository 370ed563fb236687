-- Lines of a text, one after the other.
use Rattle.std.proofs.Common.{◌≡◌, ℕ, zero, suc, ◌+◌, ◌-◌, ◌<◌, Bool, true, false, eqb, List, [], ◌∷◌, ◌++◌, length, take, drop, Option, Some, None, ◌⊎◌, inl, inr, refl, sym, ap, subst, ◌∙◌, append_assoc, arith}
use Rattle.std.specs.List.{concat}
use Rattle.std.specs.Option.{is_some}
use Rattle.std.proofs.Math.Nat.{sub-zero, sub_self}
use Rattle.std.proofs.Math.Numerals.{add-one}
use Rattle.std.proofs.Math.Seq.{take-append_seam, drop-append_seam}
use Rattle.std.proofs.lemmas.List.{append-nil, length-append}
use Rattle.std.proofs.lemmas.List.Folds.{concat-append}
use Rattle.std.proofs.lemmas.Bool.{eqb-true}
use Rattle.sched_text.specs.Fields.{cut, with_byte}
use Rattle.sched_text.specs.Texts.{lines_of, onto, is_ended, has_lines}
use Rattle.sched_text.specs.Firsts.{BeginsWith}
use Rattle.sched_text.specs.Ends.{IsEnd}

-- a text that is cut at a newline: its first line has it, and the others are those behind it
pub record CutAt (text front behind : List ℕ) : Type 0 where
  pub parts : text ≡ front ++ 10 ∷ behind
  pub lines : lines_of text ≡ (front ++ 10 ∷ []) ∷ lines_of behind
  pub again : cut 10 (front ++ 10 ∷ []) ≡ (front, Some [])

bool_cases : (b : Bool) → (b ≡ true) ⊎ (b ≡ false)
bool_cases true = inl refl
bool_cases false = inr refl

newline_first : (text : List ℕ) → CutAt (10 ∷ text) [] text
newline_first text = record { parts = refl; lines = refl; again = refl }

byte_before : (byte : ℕ) (text front behind : List ℕ) → eqb byte 10 ≡ false → CutAt text front behind → CutAt (byte ∷ text) (byte ∷ front) behind
byte_before byte text front behind other at = record {
  parts = ap (λ (t : List ℕ). byte ∷ t) at.parts;
  lines = rw (other, at.lines) refl;
  again = rw (other, at.again) refl;
}

pub cut_at : (text front behind : List ℕ) → cut 10 text ≡ (front, Some behind) → CutAt text front behind
cut_at [] front behind e = let f : None ≡ Some behind = ap (λ (p : List ℕ × Option (List ℕ)). p.1) e in absurd cc
cut_at (byte ∷ text) front behind e =
    elim (bool_cases (eqb byte 10)) [
      | inl newline ↦
          let f : ([], Some text) ≡ (front, Some behind) = rw newline at e in
          let front_is : [] ≡ front = ap (λ (p : List ℕ × Option (List ℕ)). p.0) f in
          let some_is : Some text ≡ Some behind = ap (λ (p : List ℕ × Option (List ℕ)). p.1) f in
          let behind_is : text ≡ behind = cc in
          let byte_is : 10 ≡ byte = sym (eqb-true byte 10 newline) in
          subst (λ (b : ℕ). CutAt (b ∷ text) front behind) byte_is
          (subst (λ (r : List ℕ). CutAt (10 ∷ text) r behind) front_is
          (subst (λ (r : List ℕ). CutAt (10 ∷ text) [] r) behind_is (newline_first text)))
      | inr other ↦
          let f : with_byte byte (cut 10 text) ≡ (front, Some behind) = rw other at e in
          let front_is : byte ∷ (cut 10 text).0 ≡ front = ap (λ (p : List ℕ × Option (List ℕ)). p.0) f in
          let some_is : (cut 10 text).1 ≡ Some behind = ap (λ (p : List ℕ × Option (List ℕ)). p.1) f in
          let whole : cut 10 text ≡ ((cut 10 text).0, Some behind) = ap (λ (o : Option (List ℕ)). ((cut 10 text).0, o)) some_is in
          subst (λ (r : List ℕ). CutAt (byte ∷ text) r behind) front_is (byte_before byte text (cut 10 text).0 behind other (cut_at text (cut 10 text).0 behind whole))
    ]

-- a text without a newline is one line, which lacks it
pub record Uncut (text front : List ℕ) : Type 0 where
  pub front_is : front ≡ text
  pub alone : 0 < length text → lines_of text ≡ text ∷ []

one_line : (byte : ℕ) (text : List ℕ) → (0 < length text → lines_of text ≡ text ∷ []) → onto byte (lines_of text) ≡ (byte ∷ text) ∷ []
one_line byte [] alone = refl
one_line byte (next ∷ text) alone = let e = alone (omega arith) in rw e refl

pub uncut : (text front : List ℕ) → cut 10 text ≡ (front, None) → Uncut text front
uncut [] front e = record { front_is = ap (λ (p : List ℕ × Option (List ℕ)). p.0) (sym e); alone = λ h. absurd (omega arith) }
uncut (byte ∷ text) front e =
    elim (bool_cases (eqb byte 10)) [
      | inl newline ↦
          let f : ([], Some text) ≡ (front, None) = rw newline at e in
          let some_is : Some text ≡ None = ap (λ (p : List ℕ × Option (List ℕ)). p.1) f in
          absurd cc
      | inr other ↦
          let f : with_byte byte (cut 10 text) ≡ (front, None) = rw other at e in
          let front_is : byte ∷ (cut 10 text).0 ≡ front = ap (λ (p : List ℕ × Option (List ℕ)). p.0) f in
          let none_is : (cut 10 text).1 ≡ None = ap (λ (p : List ℕ × Option (List ℕ)). p.1) f in
          let whole : cut 10 text ≡ ((cut 10 text).0, None) = ap (λ (o : Option (List ℕ)). ((cut 10 text).0, o)) none_is in
          let before = uncut text (cut 10 text).0 whole in
          record {
            front_is = sym front_is ∙ ap (λ (r : List ℕ). byte ∷ r) before.front_is;
            alone = λ h. rw other (one_line byte text before.alone);
          }
    ]

-- ---- the first line

pub first_cut : (text front behind : List ℕ) → cut 10 text ≡ (front, Some behind) → BeginsWith text front behind
first_cut text front behind e =
    let at = cut_at text front behind e in
    record { whole = front ++ 10 ∷ []; lines = at.lines; bared = ap (λ (p : List ℕ × Option (List ℕ)). p.0) at.again }

pub cut_shorter : (text front behind : List ℕ) → cut 10 text ≡ (front, Some behind) → length behind < length text
cut_shorter text front behind e =
    let at = cut_at text front behind e in
    rw at.parts (omega (arith, length-append front (10 ∷ behind)))

pub first_uncut : (text front : List ℕ) → 0 < length text → cut 10 text ≡ (front, None) → BeginsWith text front []
first_uncut text front some e =
    let at = uncut text front e in
    record { whole = text; lines = at.alone some; bared = ap (λ (p : List ℕ × Option (List ℕ)). p.0) e }

-- ---- the end of the first lines

-- the lines passed over, and how many are still to come
pub record Passed (count done : ℕ) (text rest : List ℕ) : Type 0 where
  pub left : has_lines count (lines_of text) ≡ has_lines (count - done) (lines_of rest)
  pub parts : text ≡ concat (take done (lines_of text)) ++ rest
  pub behind : lines_of rest ≡ drop done (lines_of text)

pub passed_none : (count : ℕ) (text : List ℕ) → Passed count 0 text text
passed_none count text = record { left = rw sub-zero refl; parts = refl; behind = refl }

one_less : (done count : ℕ) → done < count → count - done ≡ suc (count - (done + 1))
one_less done count h = omega arith

is_there : (front behind : List ℕ) (count : ℕ) (text : List ℕ) → CutAt text front behind → has_lines (suc count) (lines_of text) ≡ has_lines count (lines_of behind)
is_there front behind count text at = let t : is_ended (front ++ 10 ∷ []) ≡ true = ap (λ (p : List ℕ × Option (List ℕ)). is_some p.1) at.again in rw (at.lines, t) refl

take_next : {A : Type 0} (list : List A) (done : ℕ) (x : A) (more : List A) → drop done list ≡ x ∷ more → (take (suc done) list ≡ take done list ++ x ∷ []) × (drop (suc done) list ≡ more)
take_next [] zero x more e = absurd cc
take_next [] (suc done) x more e = absurd cc
take_next (a ∷ list) zero x more e = (cc, cc)
take_next {A = A} (a ∷ list) (suc done) x more e = let next = take_next list done x more e in (ap (λ (r : List A). a ∷ r) next.0, next.1)

joined : (before front behind : List ℕ) → (before ++ ((front ++ 10 ∷ []) ++ [])) ++ behind ≡ before ++ (front ++ 10 ∷ behind)
joined before front behind = simp (append_assoc, append-nil)

pub passed_one : (count done : ℕ) (text rest front behind : List ℕ) → done < count → cut 10 rest ≡ (front, Some behind) → Passed count done text rest → Passed count (done + 1) text behind
passed_one count done text rest front behind lt e so_far =
    let at = cut_at rest front behind e in
    let next = take_next (lines_of text) done (front ++ 10 ∷ []) (lines_of behind) (sym so_far.behind ∙ at.lines) in
    let taken : take (done + 1) (lines_of text) ≡ take done (lines_of text) ++ (front ++ 10 ∷ []) ∷ [] = rw add-one next.0 in
    let both : concat (take (done + 1) (lines_of text)) ++ behind ≡ concat (take done (lines_of text)) ++ (front ++ 10 ∷ behind) =
    rw (taken, concat-append (take done (lines_of text)) ((front ++ 10 ∷ []) ∷ [])) (joined (concat (take done (lines_of text))) front behind) in
    record {
      left = so_far.left ∙ rw (one_less done count lt) (is_there front behind (count - (done + 1)) rest at);
      parts = so_far.parts ∙ ap (λ (r : List ℕ). concat (take done (lines_of text)) ++ r) at.parts ∙ sym both;
      behind = rw add-one (sym next.1);
    }

no_line : (rest front : List ℕ) (count : ℕ) → cut 10 rest ≡ (front, None) → has_lines (suc count) (lines_of rest) ≡ false
no_line [] front count e = refl
no_line (byte ∷ rest) front count e =
    let at = (uncut (byte ∷ rest) front e).alone (omega arith) in
    let t : is_ended (byte ∷ rest) ≡ false = ap (λ (p : List ℕ × Option (List ℕ)). is_some p.1) e in
    rw (at, t) refl

pub passed_out : (count done : ℕ) (text rest front : List ℕ) → done < count → cut 10 rest ≡ (front, None) → Passed count done text rest → has_lines count (lines_of text) ≡ false
passed_out count done text rest front lt e so_far =
    so_far.left ∙ rw (one_less done count lt) (no_line rest front (count - (done + 1)) e)

pub passed_all : (count : ℕ) (text rest : List ℕ) → Passed count count text rest → IsEnd count text (length text - length rest)
passed_all count text rest all =
    let front = concat (take count (lines_of text)) in
    let len : length text - length rest ≡ length front = omega (arith, ap length all.parts, length-append front rest) in
    record {
      are = all.left ∙ rw sub_self refl;
      within = omega arith;
      front = rw len (ap (λ (t : List ℕ). take (length front) t) all.parts ∙ take-append_seam front rest);
      behind = rw len (ap (λ (t : List ℕ). lines_of (drop (length front) t)) all.parts ∙ ap lines_of (drop-append_seam front rest) ∙ all.behind);
    }
