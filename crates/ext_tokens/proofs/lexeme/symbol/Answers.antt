-- The longest symbol at the front.
use Rattle.std.proofs.Common.{sym}
use Rattle.ext_tokens.proofs.Begins.{symbol-none}
use Rattle.ext_tokens.proofs.Lexing.{symbol-two, symbol-one}
use Rattle.ext_tokens.proofs.lexeme.symbol.Goals as goal

pub returns-in-Some : goal.returns-in-Some
returns-in-Some c = symbol-two c.args.first c.args.rest.now c.in-Some.token c.requires c.in-Some.ensures

pub returns-in-Some-single_symbol : goal.returns-in-Some-single_symbol
returns-in-Some-single_symbol c =
    symbol-one c.args.first c.args.rest.now c.in-Some-single_symbol.token c.requires c.in-None.ensures c.in-Some-single_symbol.ensures.spelled

pub returns-in-None-single_symbol : goal.returns-in-None-single_symbol
returns-in-None-single_symbol c =
    symbol-none c.args.first c.args.rest.now c.requires c.in-None.ensures (sym c.in-None-single_symbol.ensures.value)
