use Rattle.std.proofs.Common.{◌≡◌, ◌+◌, ◌^◌, ◌<◌, List, [], ◌∷◌, ◌++◌, length, rules, arith, sym, ap, ◌∙◌, subst, ⊎_elim, Some}
use Rattle.atomic_table.specs.Table.{rest}
use Rattle.hub.specs.Steps.{after_look}
use Rattle.hub.specs.declared.sight.Role.TheVariants.{Looked}
use Rattle.hub.proofs.Turns.{looks}
use Rattle.hub.proofs.Handing.{appends}
use Rattle.hub.proofs.line.put_back.Goals as goal

pub load-length-requires : goal.load-length-requires
load-length-requires g c = (search rules, search rules, looks g.B.Keeps.stands_for g.B.Keeps.fixed _ _ _ _)

pub fetch_add-requires : goal.fetch_add-requires
fetch_add-requires g c =
    let stands = g.B.Keeps.stands_for in let value = c.args.value in let seen = c.args.seat.now.me.0.seen in
    let out = c.requires.out in let looked = c.load-length.ensures.2 in let now = c.exchange-emptied.ensures.3 in
    let same : looked.0 ≡ seen = looked.6 out.0 out.1 in
    let role : c.exchange-emptied.new.seat.me.0.role ≡ Looked out.0 = ap (λ m. m.0.role) now ∙ (ap (λ m. m.0.role) looked.1 ∙ ap after_look out.1) in
    let hand : c.exchange-emptied.new.seat.me.1 ≡ (0, Some value) ∷ [] = ap (λ m. m.1) now ∙ ap (λ h. (0, Some value) ∷ rest h) (ap (λ m. m.1) looked.1 ∙ out.2) in
    let saw : c.exchange-emptied.new.seat.me.0.seen ≡ seen = ap (λ m. m.0.seen) now ∙ (ap (λ m. m.0.seen) looked.1 ∙ same) in (
      search rules,
      search rules,
      ⊎_elim
          (λ (a : stands value seen × (length seen + 1 < 2 ^ 64)).
          let b = a.1 in let n : c.length.result ≡ length seen = c.length.ensures seen a.0 (omega arith) in
          let m : c.load-length.result ≡ length seen = looked.3 ∙ ap length same in let more = c.if-is_longer.true in absurd (omega arith))
          (λ (a : (entry : g.row.B-Entry.Denot) × stands value (seen ++ entry ∷ []) × (length seen + 2 < 2 ^ 64)).
          let room : length c.exchange-emptied.new.seat.me.0.seen + 2 < 2 ^ 64 = subst (λ (l : List g.row.B-Entry.Denot). length l + 2 < 2 ^ 64) (sym saw) a.2 in
          appends stands g.B.Keeps.fixed _ _ _ _ out.0 value a.0 role hand (subst (λ (l : List g.row.B-Entry.Denot). stands value (l ++ a.0 ∷ [])) (sym saw) a.1) room)
          c.requires.value,
    )
