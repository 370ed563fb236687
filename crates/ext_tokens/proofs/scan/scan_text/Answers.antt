-- One token more is read, or the end is reached.
use Rattle.std.proofs.Common.{ℕ, List, drop, subst, sym, arith}
use Rattle.std.proofs.lemmas.Bool.{both_ways}
use Rattle.ext_mean.specs.declared.token.Placed.{Placed}
use Rattle.ext_mean.specs.Bounds.{open_with}
use Rattle.ext_tokens.specs.declared.next.Next.{Next}
use Rattle.ext_tokens.specs.Next.{IsNext}
use Rattle.ext_tokens.proofs.Progress.{IsSoFar, so-far-more, so-far-deep, so-far-end, so-far-size, so-far-begun, so-far-lines}
use Rattle.ext_tokens.proofs.scan.scan_text.Goals as goal

pub next_token-requires-clause-size : goal.next_token-requires-clause-size
next_token-requires-clause-size c =
    omega (arith, c.requires.size, so-far-size c.args.text.now c.tokens.rest.now c.tokens.tokens.items c.tokens.line c.tokens.brackets c.tokens.invariant)

pub next_token-requires-clause-begun : goal.next_token-requires-clause-begun
next_token-requires-clause-begun c =
    so-far-begun c.args.text.now c.tokens.rest.now c.tokens.tokens.items c.tokens.line c.tokens.brackets c.tokens.invariant

pub next_token-requires-clause-lines : goal.next_token-requires-clause-lines
next_token-requires-clause-lines c =
    omega (arith, c.requires.size, so-far-lines c.args.text.now c.tokens.rest.now c.tokens.tokens.items c.tokens.line c.tokens.brackets c.tokens.invariant)

pub returns-in-End : goal.returns-in-End
returns-in-End c =
    let P : Next → Type 0 = λ next. IsNext c.tokens.rest.now c.tokens.line next in
    let is = subst P c.in-End.is c.in_ok-next.ensures in
    record {
      rest = c.tokens.rest.now;
      tokens = c.tokens.invariant.tokens;
      sound = c.tokens.invariant.sound;
      end = so-far-end c.args.text.now c.tokens.rest.now c.tokens.tokens.items c.tokens.line c.tokens.brackets c.in-End.end
          c.tokens.invariant c.requires.lines is;
    }

pub returns-then-is_too_deep : goal.returns-then-is_too_deep
returns-then-is_too_deep c =
    let P : Next → Type 0 = λ next. IsNext c.tokens.rest.now c.tokens.line next in
    let is = subst P c.in-Token.is c.in_ok-next.ensures in
    record {
      rest = c.tokens.rest.now;
      tokens = c.tokens.invariant.tokens;
      sound = c.tokens.invariant.sound;
      end = so-far-deep c.args.text.now c.tokens.rest.now c.tokens.tokens.items c.tokens.line c.tokens.brackets c.in-Token.size c.in-Token.placed
          c.tokens.invariant is (c.is_too_deep.ensures.0 c.if-is_too_deep.true);
    }

pub tokens-preserved : goal.tokens-preserved
tokens-preserved c =
    let P : Next → Type 0 = λ next. IsNext c.tokens.rest.now c.tokens.line next in
    let is = subst P c.in-Token.is c.in_ok-next.ensures in
    let more = so-far-more c.args.text.now c.tokens.rest.now c.tokens.tokens.items c.tokens.line c.tokens.brackets c.in-Token.size c.in-Token.placed
    c.tokens.invariant is (λ deep. both_ways c.is_too_deep.result c.if-is_too_deep.false (c.is_too_deep.ensures.1 deep)) in
    let A : List Placed → Type 0 = λ items.
    IsSoFar c.args.text.now items (drop c.in-Token.size c.tokens.rest.now) c.in-Token.placed.line (open_with c.tokens.brackets c.in-Token.placed.token) in
    let B : List ℕ → Type 0 = λ rest.
    IsSoFar c.args.text.now c.push.new.self.items rest c.in-Token.placed.line (open_with c.tokens.brackets c.in-Token.placed.token) in
    let D : ℕ → Type 0 = λ brackets.
    IsSoFar c.args.text.now c.push.new.self.items c.split_at.result.1.now c.in-Token.placed.line brackets in
    subst D (sym c.open_with-brackets.ensures)
    (subst B (sym c.split_at.ensures.back) (subst A (sym c.in_ok-push-in-Token.ensures.items) more))
