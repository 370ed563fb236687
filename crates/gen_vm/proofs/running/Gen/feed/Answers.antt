use Rattle.std.proofs.Common.{List, sym, subst}
use Rattle.sp_base.specs.declared.reads.ReadItem.{ReadItem}
use Rattle.ext_mean.specs.Views.{part}
use Rattle.gen_vm.specs.Places.{here_of}
use Rattle.gen_vm.specs.Running.{Running, read_as}
use Rattle.gen_vm.specs.Standing.{ComesTo, Stands}
use Rattle.gen_vm.proofs.StandingLemmas.{comes-fed}
use Rattle.gen_vm.proofs.running.Gen.feed.Goals as goal

pub returns-in-Waiting-clause-stands : goal.returns-in-Waiting-clause-stands
returns-in-Waiting-clause-stands c = λ code stands.
    let here = here_of c.self.inside.here in
    let read : ReadItem = read_as c.in-Waiting.table c.in-Waiting.key c.args.value in
    let before = subst (λ (r : Running). Stands code r) (sym c.self.view_is) stands in
    let comes = comes-fed code c.self.inside.args c.self.inside.fed.items read c.self.inside.rights here before.comes in
    record {
      of_program = before.of_program;
      comes = subst (λ (fed : List ReadItem). ComesTo code c.self.inside.args (part fed c.self.inside.rights) here) (sym c.push_reserved.ensures.items) comes;
      within = before.within;
    }
