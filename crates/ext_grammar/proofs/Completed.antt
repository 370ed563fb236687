-- What was read begins a program of the grammar, whatever may follow.
use Rattle.std.proofs.Common.{◌≡◌, List, [], ◌++◌, sym, ◌∙◌, ap, subst}
use Rattle.ext_mean.specs.declared.token.Placed.{Placed}
use Rattle.ext_mean.specs.declared.token.Token.{Token}
use Rattle.ext_mean.specs.Derived.{program_tree}
use Rattle.ext_mean.specs.Grammar.{Whole}
use Rattle.ext_mean.specs.Tokens.{tokens_of}
use Rattle.ext_mean.specs.Wording.{Slot, slot_tokens, program_slots}
use Rattle.ext_grammar.specs.Agreement.{Begin}
use Rattle.ext_grammar.specs.Coming.{Coming, functions}
use Rattle.ext_grammar.specs.Reading.{Counted}
use Rattle.ext_grammar.proofs.Walks.{Walk}
use Rattle.ext_grammar.proofs.LedPrograms.{program-leads}
use Rattle.ext_grammar.proofs.BareTokens.{whole-are}
use Rattle.ext_grammar.proofs.Continuing.{Continues}
use Rattle.ext_grammar.proofs.Completions.{some}
use Rattle.ext_grammar.proofs.Reached.{Reached, split-slots, reached-tokens, reached-back, reached-decides, reached-bounded}

-- a program of the grammar that goes on with these tokens behind those that were read
pub record Completed (coming : Coming) (counted : Counted) (slots : List Slot)
    (tokens : List Token) : Type 0 where
  pub whole : Whole
  pub more : List Slot
  pub split : program_slots whole ≡ slots ++ more
  pub same : slot_tokens more ≡ tokens
  pub walk : Walk more coming counted.operators (program_tree whole)

-- a program that has the tokens that were read in front
pub fitting : {placed : List Placed} {coming : Coming} {counted : Counted} {slots : List Slot} →
    Reached placed coming counted slots → (whole : Whole) (front more : List Slot) →
    program_slots whole ≡ front ++ more → slot_tokens front ≡ tokens_of placed →
    (front ≡ slots) × Walk more coming counted.operators (program_tree whole)
fitting reached whole front more split same =
    let P : List Slot → Type 0 = λ it. Walk it (functions []) 0 (program_tree whole) in
    reached-decides reached front more (program_tree whole) same
    (subst P split (program-leads whole))

pub completed : {placed : List Placed} {coming : Coming} {counted : Counted} {slots : List Slot} →
    Reached placed coming counted slots → (tokens : List Token) → Continues coming tokens →
    Completed coming counted slots tokens
completed {placed} {coming} {counted} {slots} reached tokens continues =
    let (whole, all) = reached-back reached tokens continues in
    let (front, more, one, two, three) = split-slots (program_slots whole) (tokens_of placed) tokens
    (whole-are whole ∙ sym all) in
    let (four, walk) = fitting reached whole front more one two in
    record {
      whole =
          whole;
      more = more;
      split = one ∙ ap (λ it. it ++ more) four;
      same = three;
      walk = walk;
    }

pub begun : {placed : List Placed} {coming : Coming} {counted : Counted} {slots : List Slot} →
    Reached placed coming counted slots → Begin placed
begun {placed} {coming} {counted} {slots} reached =
    let (tokens, continues) = some coming in
    let found = completed reached tokens continues in
    record {
      whole = found.whole;
      front = slots;
      more = found.more;
      slots = found.split;
      same = reached-tokens reached;
      bounds = reached-bounded reached;
    }
