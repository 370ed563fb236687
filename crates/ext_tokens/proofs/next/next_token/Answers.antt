-- What comes next, behind the gap at the front.
use Rattle.std.proofs.Common.{◌≡◌, take, length, subst, sym, ◌∙◌, arith, length-take}
use Rattle.std.proofs.lemmas.Bool.{eqb-true, eqb-false}
use Rattle.ext_tokens.specs.Lexemes.{IsLexeme}
use Rattle.ext_tokens.specs.declared.lexeme.Lexeme.{Lexeme}
use Rattle.ext_tokens.proofs.Skipped.{skipped, newlines-split, end-next, comment-next, nothing-next, long-next, token-next}
use Rattle.ext_tokens.proofs.next.next_token.Goals as goal

pub overflow_add-line : goal.overflow_add-line
overflow_add-line c = omega (arith, c.requires.lines, c.skip_gap-gap.ensures.lines, newlines-split c.args.bytes.now c.skip_gap-gap.result.size)

pub returns-then-is_empty : goal.returns-then-is_empty
returns-then-is_empty c =
    let gap = c.skip_gap-gap.result in
    let front = take gap.size c.args.bytes.now in
    let rest = c.split_at.result.1.now in
    let skip = skipped c.args.bytes.now rest gap.size gap.in_comment gap.lines
    c.skip_gap-gap.ensures.passed c.skip_gap-gap.ensures.stops c.skip_gap-gap.ensures.lines c.split_at.ensures.back in
    let none = eqb-true (length rest) 0 (sym c.is_empty.ensures ∙ c.if-is_empty.true) in
    end-next c.args.bytes.now front rest gap.in_comment gap.lines c.args.line skip none c.requires.begun

pub returns-then-gap : goal.returns-then-gap
returns-then-gap c =
    let gap = c.skip_gap-gap.result in
    let front = take gap.size c.args.bytes.now in
    let rest = c.split_at.result.1.now in
    let skip = skipped c.args.bytes.now rest gap.size gap.in_comment gap.lines
    c.skip_gap-gap.ensures.passed c.skip_gap-gap.ensures.stops c.skip_gap-gap.ensures.lines c.split_at.ensures.back in
    let some = eqb-false (length rest) 0 (sym c.is_empty.ensures ∙ c.if-is_empty.false) in
    comment-next c.args.bytes.now front rest gap.in_comment gap.lines c.args.line skip c.if-gap.true some

pub returns-in-Token : goal.returns-in-Token
returns-in-Token c =
    let gap = c.skip_gap-gap.result in
    let front = take gap.size c.args.bytes.now in
    let rest = c.split_at.result.1.now in
    let skip = skipped c.args.bytes.now rest gap.size gap.in_comment gap.lines
    c.skip_gap-gap.ensures.passed c.skip_gap-gap.ensures.stops c.skip_gap-gap.ensures.lines c.split_at.ensures.back in
    let P : Lexeme → Type 0 = λ lexeme. IsLexeme rest lexeme in
    let read = subst P c.in-Token.is c.in_ok-lexeme.ensures in
    let size : length front ≡ gap.size = omega (arith, length-take gap.size c.args.bytes.now, c.skip_gap-gap.ensures.size) in
    token-next c.args.bytes.now front rest gap.in_comment gap.lines c.args.line gap.size c.in-Token.size c.in-Token.token
    skip c.if-gap.false size read.0 read.1

pub returns-in-TooLong : goal.returns-in-TooLong
returns-in-TooLong c =
    let gap = c.skip_gap-gap.result in
    let front = take gap.size c.args.bytes.now in
    let rest = c.split_at.result.1.now in
    let skip = skipped c.args.bytes.now rest gap.size gap.in_comment gap.lines
    c.skip_gap-gap.ensures.passed c.skip_gap-gap.ensures.stops c.skip_gap-gap.ensures.lines c.split_at.ensures.back in
    let P : Lexeme → Type 0 = λ lexeme. IsLexeme rest lexeme in
    let read = subst P c.in-TooLong.is c.in_ok-lexeme.ensures in
    long-next c.args.bytes.now front rest gap.in_comment gap.lines c.args.line read.1 read.0 skip c.if-gap.false read.2 read.3

pub returns-in-Nothing : goal.returns-in-Nothing
returns-in-Nothing c =
    let gap = c.skip_gap-gap.result in
    let front = take gap.size c.args.bytes.now in
    let rest = c.split_at.result.1.now in
    let skip = skipped c.args.bytes.now rest gap.size gap.in_comment gap.lines
    c.skip_gap-gap.ensures.passed c.skip_gap-gap.ensures.stops c.skip_gap-gap.ensures.lines c.split_at.ensures.back in
    let some = eqb-false (length rest) 0 (sym c.is_empty.ensures ∙ c.if-is_empty.false) in
    let P : Lexeme → Type 0 = λ lexeme. IsLexeme rest lexeme in
    let read = subst P c.in-Nothing.is c.in_ok-lexeme.ensures in
    nothing-next c.args.bytes.now front rest gap.in_comment gap.lines c.args.line skip c.if-gap.false some read
