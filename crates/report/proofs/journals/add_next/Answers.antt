-- The counts before and behind the entry.
use Rattle.std.specs.Prelude.{Result, Ok, Err, OnOk}
use Rattle.std.proofs.Common.{arith}
use Rattle.report.proofs.Counting.{length-texts_of, counts-installed, counts-kept}
use Rattle.report.proofs.journals.add_next.Goals as goal
use Rattle.report.proofs.journals.add_next.Goals.{in-Install+in_ok-ext-in-Install, in_default}

pub count_one-requires : goal.count_one-requires
count_one-requires c =
    let counted = c.requires.counted c.in-Install.tenant in
    let few = length-texts_of c.args.before.now c.in-Install.tenant in
    omega (arith, counted, few, c.requires.few)

on-ok : {A E : Type 0} (r : Result A E) (P : Type 0) → P → OnOk r P
on-ok (Ok x) P p = p
on-ok (Err x) P p = tt

pub returns-clause-counted : goal.returns-clause-counted
returns-clause-counted c = on-ok c.add_entry.result _ (elim c.match-entry.branch [
  | in-Install+in_ok-ext-in-Install w ↦
      let counts = counts-installed c.args.installed.now w.count_one.new.installed c.args.before.now w.in-Install.tenant
      w.in-Install.text c.requires.counted w.in_ok-ext-in-Install.ensures.counted in
      rw (w.installed-is, w.in-Install.is) counts
  | in_default w ↦
      let counts = counts-kept c.args.installed.now c.args.before.now c.args.entry.now w.in_default.not-Install c.requires.counted in
      rw w.installed-is counts
])
