-- The word or the name is all the name bytes at the front.
use Rattle.std.proofs.Common.{ap, ◌∙◌, arith}
use Rattle.std.proofs.lemmas.List.Sums.{prefix_len-le-length}
use Rattle.ext_mean.specs.Tokens.{is_name_byte}
use Rattle.ext_tokens.specs.declared.words.TheConstants.{WORDS}
use Rattle.ext_tokens.specs.Words.{word_among}
use Rattle.ext_tokens.proofs.Lexing.{word-lexeme, name-long, name-lexeme}
use Rattle.ext_tokens.proofs.lexeme.word_or_name.Goals as goal

pub split_at-requires : goal.split_at-requires
split_at-requires c = omega (arith, c.name_length-size.ensures, prefix_len-le-length is_name_byte c.args.bytes.now)

pub returns-in-Some : goal.returns-in-Some
returns-in-Some c =
    word-lexeme c.args.bytes.now c.name_length-size.result c.in-Some.word c.requires c.name_length-size.ensures
    (c.in-Some.ensures ∙ ap (word_among WORDS) c.split_at.ensures.front)

pub returns-in-None : goal.returns-in-None
returns-in-None c =
    name-long c.args.bytes.now c.name_length-size.result c.requires c.name_length-size.ensures
    (c.in-None.ensures ∙ ap (word_among WORDS) c.split_at.ensures.front) (omega arith)

pub returns-in_ok-name-in-None-2 : goal.returns-in_ok-name-in-None-2
returns-in_ok-name-in-None-2 c =
    name-lexeme c.args.bytes.now c.name_length-size.result c.in_ok-name-in-None-2.name c.requires c.name_length-size.ensures
    (c.in-None-2.ensures ∙ ap (word_among WORDS) c.split_at.ensures.front)
    (c.in_ok-name-in-None-2.ensures ∙ c.split_at.ensures.front) (omega arith)
