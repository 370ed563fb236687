-- One body more is answered, or ends the session.
use Rattle.std.specs.Prelude.{true, false}
use Rattle.std.specs.Vec.Iter.{into_iter_items}
use Rattle.std.proofs.Common.{◌≡◌, ℕ, List, [], ◌∷◌, ◌++◌, ◌∙◌, ap, refl, sym, subst, append_assoc, rules}
use Rattle.drive.specs.declared.driving.Reply.{Reply}
use Rattle.drive.specs.Hearing.{Replies, is_last}
use Rattle.drive.proofs.Answering.{hears-end, hears-nothing, hears-reply, ready-on}
use Rattle.drive.proofs.Asking.{fixed-then, stands-then}
use Rattle.drive.proofs.driving.answer_all.Goals as goal

pub loop-body-init : goal.loop-body-init
loop-body-init c = record {
  whole = search rules;
  ready = c.requires.ready;
  fixed = record { grants = refl; limit = refl; audit = refl };
  conf = refl;
  heard = λ journal stands. hears-nothing c.args.session.now c.args.book.now journal c.args.said.now.items stands;
}

pub reply_to-requires-clause-stands : goal.reply_to-requires-clause-stands
reply_to-requires-clause-stands c =
    let heard = c.loop-body.invariant.heard c.requires.stands.0 c.requires.stands.1 in
    (c.requires.stands.0 ++ heard.later, heard.stands)

pub loop-body-preserved : goal.loop-body-preserved
loop-body-preserved c =
    let body : List ℕ = c.in-Some.body in
    let behind : List (List ℕ) = into_iter_items c.next.new.self in
    let steps : into_iter_items c.loop-body.body-iterator ≡ body ∷ behind = c.in-Some.ensures.steps.0 in
    let given : Reply = c.in_ok-reply.reply in
    let last : is_last given ≡ false = sym c.in_ok-last.ensures.0 ∙ c.if-last.false in
    record {
      whole = append_assoc c.loop-body.yielded (body ∷ []) behind
          ∙ ap (λ (rest : List (List ℕ)). c.loop-body.yielded ++ rest) (sym steps) ∙ c.loop-body.invariant.whole;
      ready = ready-on c.reply_to.new.session c.reply_to.new.book given c.in_ok-reply.ensures.ready last;
      fixed = fixed-then c.args.book.now c.loop-body.book c.reply_to.new.book c.loop-body.invariant.fixed c.reply_to.ensures.fixed;
      conf = c.reply_to.ensures.conf ∙ c.loop-body.invariant.conf;
      heard = λ journal stands.
          hears-reply c.args.session.now c.loop-body.session c.reply_to.new.session c.args.book.now c.loop-body.book c.reply_to.new.book
          journal c.loop-body.yielded body given c.args.said.now.items c.loop-body.said.items c.say_reply.new.said.items
          c.loop-body.invariant.conf c.loop-body.invariant.fixed (c.loop-body.invariant.heard journal stands)
          (λ j others. subst (λ (b : List ℕ). Replies c.loop-body.session c.reply_to.new.session c.loop-body.book c.reply_to.new.book j b given)
          c.bytes.ensures (c.in_ok-reply.ensures.replied j others))
          c.in_ok-reply.ensures.ready last c.in_ok-last.ensures.1;
    }

pub returns-then-last-clause-heard : goal.returns-then-last-clause-heard
returns-then-last-clause-heard c =
    let body : List ℕ = c.in-Some.body in
    let behind : List (List ℕ) = into_iter_items c.next.new.self in
    let steps : into_iter_items c.loop-body.body-iterator ≡ body ∷ behind = c.in-Some.ensures.steps.0 in
    let given : Reply = c.in_ok-reply.reply in
    let last : is_last given ≡ true = sym c.in_ok-last.ensures.0 ∙ c.if-last.true in
    let whole : c.args.bodies.items ≡ c.loop-body.yielded ++ body ∷ behind =
    sym c.loop-body.invariant.whole ∙ ap (λ (rest : List (List ℕ)). c.loop-body.yielded ++ rest) steps in
    λ journal stands.
    hears-end c.args.session.now c.loop-body.session c.reply_to.new.session c.args.book.now c.loop-body.book c.reply_to.new.book
    journal c.loop-body.yielded behind c.args.bodies.items body given c.args.said.now.items c.loop-body.said.items c.say_reply.new.said.items
    c.loop-body.invariant.conf c.loop-body.invariant.fixed whole (c.loop-body.invariant.heard journal stands)
    (λ j others. subst (λ (b : List ℕ). Replies c.loop-body.session c.reply_to.new.session c.loop-body.book c.reply_to.new.book j b given)
    c.bytes.ensures (c.in_ok-reply.ensures.replied j others))
    last c.in_ok-last.ensures.1

pub returns-then-last-clause-stands : goal.returns-then-last-clause-stands
returns-then-last-clause-stands c = λ journal stands.
    let heard = c.loop-body.invariant.heard journal stands in
    stands-then c.reply_to.new.book journal heard.later (c.reply_to.ensures.stands (journal ++ heard.later) heard.stands)
