-- The canonical text of a program spells it, and is not longer than any text that does.
use Rattle.std.proofs.Common.{◌≡◌, ℕ, ◌≤◌, true, false, List, [], ◌∷◌, ◌++◌, inl, inr, length, length-append, refl, sym, ap, ◌∙◌, subst, arith, append_assoc, append-nil}
use Rattle.ext_mean.specs.declared.token.Placed.{Placed}
use Rattle.ext_mean.specs.declared.token.Token.{Token}
use Rattle.ext_mean.specs.declared.tree.Program.{Program}
use Rattle.ext_mean.specs.Bounds.{AreBounded, open_with}
use Rattle.ext_mean.specs.Canonical.{canonical, program_shown, written}
use Rattle.ext_mean.specs.Derived.{program_tree}
use Rattle.ext_mean.specs.Text.{EndsLine, Reading, Spells, item_lines}
use Rattle.ext_mean.specs.Tokens.{IsSpelling, Tokens, newline, newlines, tokens_of, blank, empty}
use Rattle.ext_mean.specs.Wording.{Slot, slot_tokens, program_slots}
use Rattle.ext_grammar.proofs.BareTokens.{whole_tokens, whole-are}
use Rattle.ext_tokens.specs.Lexemes.{class_of}
use Rattle.ext_tokens.specs.Next.{IsLined}
use Rattle.ext_tokens.proofs.Spellings.{newlines-append, spelling-front, spelling-line}
use Rattle.ext_canonical.specs.Laws.{CanonicalIsShort, CanonicalIsSpelled}
use Rattle.ext_canonical.proofs.Bounded.{left-bounded}
use Rattle.ext_canonical.proofs.LeanStatements.{LeanWhole, whole-lean}
use Rattle.ext_canonical.proofs.Pruned.{Pruned}
use Rattle.ext_canonical.proofs.Shorter.{AreShort, AreSome, front-filled, left-shorter, text-longer, tokens-some}
use Rattle.ext_canonical.proofs.Spelled.{token-spelled}
use Rattle.ext_canonical.proofs.Standing.{stands, whole-stands}
use Rattle.ext_canonical.proofs.Written.{AreSpelled, all_placed, tokens-placed, written-tokens}

-- The last newline of a text stands behind its last token.

none-behind : (front rest : List ℕ) → front ++ rest ≡ [] → rest ≡ []
none-behind [] rest same = same
none-behind (byte ∷ front) rest same = absurd cc

lined-behind : (front rest start : List ℕ) → front ++ rest ≡ start ++ newline ∷ [] → IsLined rest
lined-behind [] rest start same = inr (start, same)
lined-behind (byte ∷ front) rest [] same =
    let none : front ++ rest ≡ [] = cc in inl (none-behind front rest none)
lined-behind (byte ∷ front) rest (other ∷ start) same = lined-behind front rest start cc

behind-lined : (front rest : List ℕ) → IsLined (front ++ rest) → IsLined rest
behind-lined front rest (inl none) = inl (none-behind front rest none)
behind-lined front rest (inr (start, ends)) = lined-behind front rest start ends

unlined : (bytes : List ℕ) (which : Token) → IsSpelling bytes which → IsLined bytes → ⊥
unlined bytes which spelled (inl none) =
    let some = front-filled bytes (class_of which) (spelling-front which bytes spelled) in
    omega (arith, some, ap length none)
unlined bytes which spelled (inr (start, ends)) =
    let lines = spelling-line which bytes spelled in
    omega (arith, lines, ap newlines ends, newlines-append start (newline ∷ []))

all-read : (text : List ℕ) (line : ℕ) (placed : List Placed) → Tokens text line placed [] → IsLined text → text ≡ []
all-read text line [] is lined = is
all-read text line (placed ∷ more) (gap, bytes, behind, is_gap, whole, begins, line-is, is) lined =
    let L : List ℕ → Type 0 = λ them. IsLined them in
    let after : IsLined (bytes ++ behind) = behind-lined gap (bytes ++ behind) (subst L whole lined) in
    let none = all-read behind placed.line more is (behind-lined bytes behind after) in
    let last : IsLined bytes = subst L (ap (λ them. bytes ++ them) none ∙ append-nil bytes) after in
    absurd (unlined bytes placed.token begins.spelled last)

not-empty : (text : List ℕ) → EndsLine text → text ≡ [] → ⊥
not-empty text (start, ends) none = omega (arith, ap length none, ap length ends, length-append start (newline ∷ []))

rest-some : (text last : List ℕ) (placed : List Placed) → Tokens text 1 placed last → EndsLine text → 1 ≤ length last
rest-some text [] placed is ends = absurd (not-empty text ends (all-read text 1 placed is (inr ends)))
rest-some text (byte ∷ last) placed is ends = omega arith

-- The tokens of a text are short, and spelled.

slots-short : (front slots : List Slot) → AreBounded (front ++ slots) → AreShort (slot_tokens slots)
slots-short front [] bounds = tt
slots-short front (next ∷ slots) bounds =
    let B : List Slot → Type 0 = λ them. AreBounded them in (
      (bounds front next slots refl).short,
      slots-short (front ++ next ∷ []) slots (subst B (sym (append_assoc front (next ∷ []) slots)) bounds),
    )

tokens-spelled : (text rest : List ℕ) (line : ℕ) (placed : List Placed) → Tokens text line placed rest → AreShort (tokens_of placed) → AreSpelled (tokens_of placed)
tokens-spelled text rest line [] is short = tt
tokens-spelled text rest line (placed ∷ more) (gap, bytes, behind, is_gap, whole, begins, line-is, is) short =
    (token-spelled placed.token bytes begins.spelled short.0, tokens-spelled behind rest placed.line more is short.1)

left-spelled : (few many : ℕ) (left whole : List Slot) → Pruned few many left whole → AreSpelled (slot_tokens whole) → AreSpelled (slot_tokens left)
left-spelled few many left [] none spelled = let S : List Slot → Type 0 = λ them. AreSpelled (slot_tokens them) in subst S (sym none) tt
left-spelled few many left (next ∷ whole) (inl (more, is, fits, pruned)) spelled =
    let S : List Slot → Type 0 = λ them. AreSpelled (slot_tokens them) in
    subst S (sym is) (
      spelled.0,
      left-spelled (open_with few next.token) (open_with many next.token) more whole pruned spelled.1,
    )
left-spelled few many left (next ∷ whole) (inr (drop, pruned)) spelled =
    left-spelled few (open_with many next.token) left whole pruned spelled.1

-- What a reading of a text gives for the canonical text of its tree.
record Rounded (text : List ℕ) (reading : Reading text) : Type 0 where
  it : LeanWhole reading.whole
  pruned : Pruned 0 0 (program_slots it.new) (program_slots reading.whole)
  tokens : slot_tokens (program_slots it.new) ≡ program_shown (program_tree reading.whole)
  short : AreShort (tokens_of reading.placed)

rounded : (text : List ℕ) (reading : Reading text) → Rounded text reading
rounded text reading =
    let it = whole-lean reading.whole in
    let all = it.lean.before 0 0 [] [] (omega arith) refl in
    let L : List Slot → Type 0 = λ them. Pruned 0 0 them (program_slots reading.whole ++ []) in
    let W : List Slot → Type 0 = λ them. Pruned 0 0 (program_slots it.new) them in
    let S : List Token → Type 0 = λ them. AreShort them in
    record {
      it = it;
      pruned = subst W (append-nil (program_slots reading.whole)) (subst L (append-nil (program_slots it.new)) all);
      tokens = whole-are it.new ∙ it.tokens;
      short = subst S reading.sentence (slots-short [] (program_slots reading.whole) reading.bounds);
    }

canonical-short : (text : List ℕ) (reading : Reading text) → length (canonical (program_tree reading.whole)) ≤ length text
canonical-short text reading =
    let round = rounded text reading in
    let A : List Token → Type 0 = λ them. AreSome them in
    let some = tokens-some text reading.last 1 reading.placed reading.tokens round.short in
    let less = left-shorter 0 0 (program_slots round.it.new) (program_slots reading.whole) false false round.pruned (subst A (sym reading.sentence) some) in
    let left : length (written false (slot_tokens (program_slots round.it.new))) ≡ length (written false (program_shown (program_tree reading.whole))) =
    ap (λ them. length (written false them)) round.tokens in
    let whole : length (written false (slot_tokens (program_slots reading.whole))) ≡ length (written false (tokens_of reading.placed)) =
    ap (λ them. length (written false them)) reading.sentence in
    let fits = text-longer text reading.last 1 reading.placed false reading.tokens round.short (λ wordy. absurd cc) in
    let last = rest-some text reading.last reading.placed reading.tokens reading.ends in
    omega (arith, less, left, whole, fits, last, length-append (written false (program_shown (program_tree reading.whole))) (newline ∷ []))

pub canonical-is-short : CanonicalIsShort
canonical-is-short text program (lines, spelled) =
    let fits = canonical-short text spelled.reading in
    let same = ap (λ them. length (canonical them)) spelled.tree in
    omega (arith, fits, same)

canonical-reading : (text : List ℕ) (reading : Reading text) → Spells (canonical (program_tree reading.whole)) (program_tree reading.whole)
canonical-reading text reading =
    let round = rounded text reading in
    let tree : Program = program_tree reading.whole in
    let tokens : List Token = program_shown tree in
    let S : List Token → Type 0 = λ them. AreSpelled them in
    let spelled = tokens-spelled text reading.last 1 reading.placed reading.tokens round.short in
    let own = left-spelled 0 0 (program_slots round.it.new) (program_slots reading.whole) round.pruned (subst S (sym reading.sentence) spelled) in
    let own' : AreSpelled tokens = subst S round.tokens own in
    let stand : stands false tokens ≡ true =
    ap (stands false) (sym (append-nil (whole_tokens round.it.new) ∙ round.it.tokens)) ∙ whole-stands round.it.new in
    let fits = canonical-short text reading in
    let room = reading.size in
    let again : Reading (canonical tree) = record {
      placed = all_placed tokens;
      last = newline ∷ [];
      whole = round.it.new;
      size = omega (arith, fits, room);
      ends = (written false tokens, refl);
      tokens = written-tokens false false tokens own' stand;
      gap = blank refl empty;
      sentence = round.tokens ∙ sym (tokens-placed tokens);
      bounds = left-bounded (program_slots round.it.new) (program_slots reading.whole) round.pruned reading.bounds;
    } in (
      item_lines (program_slots round.it.new) (all_placed tokens),
      record { reading = again; tree = sym round.it.tree; places = refl },
    )

pub canonical-is-spelled : CanonicalIsSpelled
canonical-is-spelled text program (lines, spelled) =
    let P : Program → Type 0 = λ them. Spells (canonical them) them in
    subst P (sym spelled.tree) (canonical-reading text spelled.reading)
