-- The piece is cut into bodies, these are answered, and the piece ends.
use Rattle.std.proofs.Common.{ℕ, List, sym, subst}
use Rattle.drive.specs.declared.driving.Driven.{Driven}
use Rattle.drive.specs.Hearing.{EndsPiece, Hears}
use Rattle.drive.proofs.Pieces.{other-driven, piece-driven, piece-ready}
use Rattle.drive.proofs.driving.drive.Goals as goal

pub returns-clause-driven : goal.returns-clause-driven
returns-clause-driven c = λ journal stands.
    let driven : Driven = record { said = c.from_vec.result; stopped = c.in_ok-stopped.stopped } in
    piece-driven c.args.session.now c.answer_all.new.session c.end_piece.new.session c.args.book.now c.answer_all.new.book c.args.piece.now
    c.args.framer.now c.bodies_in.new.framer journal c.in_ok-bodies.bodies.items c.answer_all.new.said.items c.in_ok-ended.ended driven
    c.in_ok-bodies.ensures
    (subst (λ (said : List ℕ). Hears c.args.session.now c.answer_all.new.session c.args.book.now c.answer_all.new.book journal c.in_ok-bodies.bodies.items said
    c.answer_all.new.said.items c.in_ok-ended.ended) c.new-said.ensures.items (c.in_ok-ended.ensures.heard journal stands))
    (subst (λ (said : List ℕ). EndsPiece c.answer_all.new.session c.end_piece.new.session c.bodies_in.new.framer.broken c.in_ok-ended.ended
    c.answer_all.new.said.items c.in_ok-stopped.stopped said) (sym c.from_vec.ensures) c.in_ok-stopped.ensures.ends)

pub returns-clause-ready : goal.returns-clause-ready
returns-clause-ready c =
    piece-ready c.answer_all.new.session c.end_piece.new.session c.answer_all.new.book c.bodies_in.new.framer.broken c.in_ok-ended.ended
    c.answer_all.new.said.items c.in_ok-stopped.stopped c.end_piece.new.said.items c.in_ok-stopped.ensures.ends c.in_ok-ended.ensures.ready

pub returns-in_err-ended-clause-others : goal.returns-in_err-ended-clause-others
returns-in_err-ended-clause-others c = λ other may.
    other-driven other c.args.book.now c.answer_all.new.book c.journal-journal.result.now.entries c.journal-journal.ensures
    (c.answer_all.ensures.stands c.journal-journal.result.now.entries c.journal-journal.ensures) c.answer_all.ensures.fixed may

pub returns-in_err-stopped-clause-others : goal.returns-in_err-stopped-clause-others
returns-in_err-stopped-clause-others c = λ other may.
    other-driven other c.args.book.now c.answer_all.new.book c.journal-journal.result.now.entries c.journal-journal.ensures
    (c.answer_all.ensures.stands c.journal-journal.result.now.entries c.journal-journal.ensures) c.answer_all.ensures.fixed may

pub returns-clause-others : goal.returns-clause-others
returns-clause-others c = λ other may.
    other-driven other c.args.book.now c.answer_all.new.book c.journal-journal.result.now.entries c.journal-journal.ensures
    (c.answer_all.ensures.stands c.journal-journal.result.now.entries c.journal-journal.ensures) c.answer_all.ensures.fixed may
