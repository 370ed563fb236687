-- Behind a length that is too long no body comes.
use Rattle.std.specs.Prelude.{Err}
use Rattle.std.proofs.Common.{ℕ, List, ◌++◌, ap, sym, subst, ◌∙◌, append-nil}
use Rattle.framing.specs.Framing as streams
use Rattle.framing.specs.declared.framer.FrameFault.{FrameFault}
use Rattle.drive.proofs.driving.bodies_in.Goals as goal

pub returns-in-Err-TooLong : goal.returns-in-Err-TooLong
returns-in-Err-TooLong c = λ fed given stands.
    subst (λ (list : List (List ℕ)). streams.Stands c.feed.new.self (fed ++ c.args.piece.now) list)
    (sym (ap (λ (rest : List (List ℕ)). given ++ rest) c.new.ensures.items ∙ append-nil given))
    (c.in-Err-TooLong.ensures.refused _ fed given (ap (λ (f : FrameFault). Err f) c.in-Err-TooLong.field-0-is) stands)
