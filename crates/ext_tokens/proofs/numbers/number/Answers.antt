-- The number is all the digits at the front.
use Rattle.std.proofs.Common.{ap, ◌∙◌, sym, arith}
use Rattle.std.proofs.lemmas.Bool.{both_ways}
use Rattle.std.proofs.lemmas.List.Sums.{prefix_len-le-length}
use Rattle.ext_mean.specs.Tokens as spelling
use Rattle.ext_tokens.proofs.Fronts.{front-passes}
use Rattle.ext_tokens.proofs.Lexing.{number-lexeme, number-long, number-nothing}
use Rattle.ext_tokens.proofs.numbers.number.Goals as goal

pub split_at-requires : goal.split_at-requires
split_at-requires c = omega (arith, c.digits_length-size.ensures, prefix_len-le-length spelling.is_digit c.args.bytes.now)

pub is_number-requires : goal.is_number-requires
is_number-requires c = rw (c.split_at.ensures.front, c.digits_length-size.ensures) (front-passes spelling.is_digit c.args.bytes.now)

pub returns-then-not-is_number : goal.returns-then-not-is_number
returns-then-not-is_number c =
    number-nothing c.args.bytes.now c.digits_length-size.result c.requires c.digits_length-size.ensures
    (λ numeral apart. both_ways c.is_number.result c.if-not-is_number.true
    (c.is_number.ensures.1 (ap spelling.is_numeral c.split_at.ensures.front ∙ numeral, ap spelling.begins_word c.split_at.ensures.back ∙ apart)))

pub returns-in-Some : goal.returns-in-Some
returns-in-Some c =
    let sound = c.is_number.ensures.0 c.if-not-is_number.false in
    number-lexeme c.args.bytes.now c.digits_length-size.result c.in-Some.value c.requires c.digits_length-size.ensures
    (ap spelling.is_numeral (sym c.split_at.ensures.front) ∙ sound.0) (ap spelling.begins_word (sym c.split_at.ensures.back) ∙ sound.1)
    (c.in-Some.ensures ∙ ap (spelling.digits_from 0) c.split_at.ensures.front) (omega arith)

pub returns-in-None : goal.returns-in-None
returns-in-None c =
    let sound = c.is_number.ensures.0 c.if-not-is_number.false in
    number-long c.args.bytes.now c.digits_length-size.result c.requires c.digits_length-size.ensures
    (ap spelling.is_numeral (sym c.split_at.ensures.front) ∙ sound.0) (ap spelling.begins_word (sym c.split_at.ensures.back) ∙ sound.1)
    (rw (sym c.split_at.ensures.front) c.in-None.ensures)
