use Rattle.std.proofs.Common.{◌∙◌, arith}
use Rattle.wire.specs.Requests.{request}
use Rattle.wire.proofs.Framed.{framed, length_zeros, starts}
use Rattle.wire.proofs.encode.encode_request.Goals as goal

pub set_length-requires-clause-some : goal.set_length-requires-clause-some
set_length-requires-clause-some c =
    let is = starts c.new-out.result.items c.put_u32.new.out.items c.put_request.new.out.items (request c.args.message.now) c.new-out.ensures.items c.in_ok-put_u32.ensures c.in_ok-put_request.ensures in
    omega (arith, length_zeros c.put_request.new.out.items (request c.args.message.now) is)

pub set_length-requires-clause-short : goal.set_length-requires-clause-short
set_length-requires-clause-short c =
    let is = starts c.new-out.result.items c.put_u32.new.out.items c.put_request.new.out.items (request c.args.message.now) c.new-out.ensures.items c.in_ok-put_u32.ensures c.in_ok-put_request.ensures in
    omega (arith, length_zeros c.put_request.new.out.items (request c.args.message.now) is, c.requires.short)

pub returns : goal.returns
returns c =
    let is = starts c.new-out.result.items c.put_u32.new.out.items c.put_request.new.out.items (request c.args.message.now) c.new-out.ensures.items c.in_ok-put_u32.ensures c.in_ok-put_request.ensures in
    c.from_vec.ensures ∙ c.set_length.ensures ∙ framed c.put_request.new.out.items (request c.args.message.now) is
