-- One item more is read, or the string ends where none is left.
use Rattle.std.proofs.Common.{◌≡◌, ◌+◌, ◌-◌, length, arith, subst, sym, List, ◌∷◌, ℕ}
use Rattle.std.proofs.lemmas.Bool.{both_ways}
use Rattle.ext_mean.specs.declared.token.Token.TheVariants as token
use Rattle.ext_tokens.specs.declared.lexeme.Lexeme.TheVariants as lexeme
use Rattle.ext_tokens.specs.Lexemes.{IsLexeme}
use Rattle.ext_tokens.proofs.Lexing.{IsRead, read-more, read-size, string-lexeme, string-nothing}
use Rattle.ext_tokens.proofs.strings.string.Goals as goal

pub loop-item-preserved : goal.loop-item-preserved
loop-item-preserved c =
    let P : List ℕ → Type 0 = λ items. IsRead c.args.inner.now items c.in-Some.behind.now in
    subst P (sym c.in_ok-push.ensures.items)
    (read-more c.args.inner.now c.loop-item.items.items c.loop-item.rest.now c.in-Some.behind.now c.in-Some.item
    c.loop-item.invariant c.in-Some.ensures)

pub returns-then-not-is_closed : goal.returns-then-not-is_closed
returns-then-not-is_closed c =
    string-nothing c.args.inner.now c.loop-item.items.items c.loop-item.rest.now c.loop-item.invariant c.in_default.ensures
    (λ closed. both_ways c.is_closed.result c.if-not-is_closed.true (c.is_closed.ensures.1 closed))

pub returns : goal.returns
returns c =
    let size : (length c.args.inner.now - length c.loop-item.rest.now) + 2 + length c.loop-item.rest.now ≡ length c.args.inner.now + 2 =
    omega (arith, read-size c.args.inner.now c.loop-item.items.items c.loop-item.rest.now c.loop-item.invariant) in
    let P : List ℕ → Type 0 = λ items.
    IsLexeme (0x22 ∷ c.args.inner.now) (lexeme.Token (token.Str items) ((length c.args.inner.now - length c.loop-item.rest.now) + 2)) in
    subst P (sym c.from_vec.ensures)
    (string-lexeme c.args.inner.now c.loop-item.items.items c.loop-item.rest.now
    ((length c.args.inner.now - length c.loop-item.rest.now) + 2) c.loop-item.invariant
    (c.is_closed.ensures.0 c.if-not-is_closed.false) size)
