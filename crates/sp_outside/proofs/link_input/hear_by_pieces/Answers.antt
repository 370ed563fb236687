-- One byte too many came, or no memory for what came.
use Rattle.std.proofs.Common.{◌≡◌, ℕ, ◌+◌, ◌≤◌, ◌++◌, arith, length, take, length-append, length-take}
use Rattle.sp_outside.proofs.HearingSteps.{heard_up_to}
use Rattle.sp_outside.proofs.ReadingSteps.{read_more, read_up_to, read_longer}
use Rattle.sp_outside.proofs.link_input.hear_by_pieces.Goals as goal

pub returns-then-n-room-clause-told : goal.returns-then-n-room-clause-told
returns-then-n-room-clause-told g c =
    let size : length (c.pieces.bytes.items ++ take c.in-Bytes.n c.take.new.into) ≡ c.args.most + 1 =
    omega (arith, c.in-Bytes.ensures.within, c.pieces.bytes.ok.0, length-append {A = ℕ}, length-take {A = ℕ}) in
    read_longer _ _ _ _ size (read_more _ _ _ _ _ _ c.pieces.invariant.read c.in-Bytes.ensures.told)

pub returns-then-is_err-clause-told : goal.returns-then-is_err-clause-told
returns-then-is_err-clause-told g c =
    let few : length (c.pieces.bytes.items ++ take c.in-Bytes.n c.take.new.into) ≤ c.args.most + 1 =
    omega (arith, c.in-Bytes.ensures.within, c.pieces.bytes.ok.0, length-append {A = ℕ}, length-take {A = ℕ}) in
    read_up_to _ _ _ _ few (read_more _ _ _ _ _ _ c.pieces.invariant.read c.in-Bytes.ensures.told)

pub returns-then-n-room-clause-heard : goal.returns-then-n-room-clause-heard
returns-then-n-room-clause-heard g c =
    let few : length (c.pieces.bytes.items ++ take c.in-Bytes.n c.take.new.into) ≤ c.args.most + 1 =
    omega (arith, c.in-Bytes.ensures.within, c.pieces.bytes.ok.0, length-append {A = ℕ}, length-take {A = ℕ}) in
    heard_up_to _ _ _ _ _ _ few c.pieces.invariant.heard c.in-Bytes.ensures.heard

pub returns-then-is_err-clause-heard : goal.returns-then-is_err-clause-heard
returns-then-is_err-clause-heard g c =
    let few : length (c.pieces.bytes.items ++ take c.in-Bytes.n c.take.new.into) ≤ c.args.most + 1 =
    omega (arith, c.in-Bytes.ensures.within, c.pieces.bytes.ok.0, length-append {A = ℕ}, length-take {A = ℕ}) in
    heard_up_to _ _ _ _ _ _ few c.pieces.invariant.heard c.in-Bytes.ensures.heard
