-- The two digits tell the item.
use Rattle.std.proofs.Common.{◌≡◌, get_or, arith}
use Rattle.ext_tokens.proofs.Lexing.{escaped-begins}
use Rattle.ext_tokens.proofs.strings.escaped_item.Goals as goal

pub returns-in-Some-Some : goal.returns-in-Some-Some
returns-in-Some-Some c =
    let mark : get_or c.args.bytes.now 0 0 ≡ 0x78 = omega arith in
    escaped-begins c.args.bytes.now c.in-Some-Some.high c.in-Some-Some.low c.in-120.len_at_least mark
    c.in-Some-Some.ensures.0 c.in-Some-Some.ensures'.0 c.in-Some-Some.ensures.1 c.in-Some-Some.ensures'.1
