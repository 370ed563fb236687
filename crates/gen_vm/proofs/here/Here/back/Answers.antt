use Rattle.std.proofs.Common.{◌≡◌, List, [], reverse, ap, sym, subst, arith}
use Rattle.std.proofs.lemmas.List.{append-nil}
use Rattle.std.specs.Prelude.{vec_len}
use Rattle.ext_mean.specs.declared.run.Run.{Run}
use Rattle.gen_code.specs.Machine.{Frame, back, last}
use Rattle.gen_vm.specs.Places.{here_of}
use Rattle.gen_vm.specs.Turns.{Stops}
use Rattle.gen_vm.proofs.here.Here.back.Goals as goal

pub returns-in-None-clause-turn : goal.returns-in-None-clause-turn
returns-in-None-clause-turn c =
    let old = c.args.self.now in
    let none : vec_len old.frames ≡ 0 = c.in-None.ensures.cases.0 in
    let some : List Frame = [] in
    let empty : old.frames.items ≡ some = grind (arith, append-nil) in
    subst (λ (r : Run). Stops r (here_of old) (here_of c.finish.new.self) (back (reverse old.frames.items) (last (here_of old)) old.used old.reply.items old.writes.items)) (sym c.finish.ensures.run)
    (record {
      over = ap (λ (frames : List Frame). back (reverse frames) (last (here_of old)) old.used old.reply.items old.writes.items) empty;
      units = sym c.finish.ensures.used;
      stays = tt;
    })
