use Rattle.std.proofs.Common.{◌≡◌, ◌+◌, ◌^◌, ◌<◌, List, length, rules, arith, refl, sym, ap, ◌∙◌, subst, Some}
use Rattle.hub.specs.declared.sight.Role.TheVariants.{Fresh}
use Rattle.hub.proofs.Seats.{opens}
use Rattle.hub.proofs.Turns.{looks}
use Rattle.hub.proofs.hub.Hub.found.Goals as goal

pub new-requires : goal.new-requires
new-requires g c = let h = c.requires in let long : c.length-length.result ≡ length h.0 = c.length-length.ensures h.0 h.1 (omega arith) in
    opens g.B.Keeps.stands_for g.B.Keeps.fixed _ c.args.value h.0 _ _ h.1 h.2 c.of.ensures refl long (search rules)

pub load-requires : goal.load-requires
load-requires g c = (search rules, search rules, looks g.B.Keeps.stands_for g.B.Keeps.fixed _ _ _ _)

pub returns-in-Ok-clause-ok : goal.returns-in-Ok-clause-ok
returns-in-Ok-clause-ok g c =
    let made = c.in-Ok.ensures.ok in let looked = c.load.ensures.2 in
    let key = made.5 in
    let fresh : c.in-Ok.seat.me.0.role ≡ Fresh = ap (λ m. m.0.role) made.4 in
    let knows : c.in-Ok.seat.me.0.origin ≡ Some c.in-Ok.table.shared.key = ap (λ m. m.0.origin) made.4 ∙ ap (λ o. Some o) (sym key) in
    let found = looked.7 fresh c.in-Ok.table.shared.key knows in
    let value : c.in-Ok.table.shared.key.value.value ≡ c.args.value = ap (λ o. o.value.value) key ∙ c.of.ensures in
    let seen : c.load.new.seat.me.0.seen ≡ looked.0 = ap (λ m. m.0.seen) looked.1 in record {
      of = (search rules, ap (λ m. m.0.origin) looked.1 ∙ knows);
      founder_is = value;
      stands_for = subst (λ (t : g.row.B.Denot × List g.row.B-Entry.Denot). g.B.Keeps.stands_for t.0 t.1) (λ i. (value i, sym seen i)) found.0;
      short = subst (λ (l : List g.row.B-Entry.Denot). length l + 1 < 2 ^ 64) (sym seen) looked.4;
      length_is = ap length seen ∙ found.1;
      is_new = search rules;
    }
