use Rattle.std.proofs.Common.{◌≤◌, subst, sym}
use Rattle.gen_vm.specs.declared.halt.Halt.TheVariants.{Memory, Ended}
use Rattle.gen_vm.specs.Answers.{GoesTo, IsAnswer}
use Rattle.ext_mean.specs.Meaning.{mean}
use Rattle.ext_mean.specs.Views.{part}
use Rattle.gen_vm.specs.Places.{here_of}
use Rattle.gen_vm.specs.Running.{Running}
use Rattle.gen_vm.specs.Standing.{Stands}
use Rattle.gen_vm.proofs.ResumeLemmas.{ended-answers, ended-goes, ended-stands, halts-with, memory-goes, memory-stands, over-with}
use Rattle.gen_vm.proofs.running.Gen.resume.Goals as goal

pub run-halt-requires : goal.run-halt-requires
run-halt-requires c =
    let code = c.args.code.now in
    let limit = c.args.limit in
    let base : Running = record {
      args = c.self.inside.args;
      budget = c.self.inside.budget;
      rights = c.self.inside.rights;
      fed = c.self.inside.fed.items;
      here = here_of c.self.inside.here;
      phase = c.self.inside.phase;
    } in
    let stands : Stands code base = subst (λ (r : Running). Stands code r) (sym c.self.view_is) c.requires.stands in
    let fits : base.here.used ≤ limit = subst (λ (r : Running). r.here.used ≤ limit) (sym c.self.view_is) c.requires.used in
    over-with code base limit c.bytes.result.now c.as_slice.result.now c.bytes.ensures c.as_slice.ensures.value stands fits

pub returns-in-Memory-clause-stands : goal.returns-in-Memory-clause-stands
returns-in-Memory-clause-stands c =
    let code = c.args.code.now in
    let limit = c.args.limit in
    let base : Running = record {
      args = c.self.inside.args;
      budget = c.self.inside.budget;
      rights = c.self.inside.rights;
      fed = c.self.inside.fed.items;
      here = here_of c.self.inside.here;
      phase = c.self.inside.phase;
    } in
    let stands : Stands code base = subst (λ (r : Running). Stands code r) (sym c.self.view_is) c.requires.stands in
    let fits : base.here.used ≤ limit = subst (λ (r : Running). r.here.used ≤ limit) (sym c.self.view_is) c.requires.used in
    let room : limit ≤ base.budget = subst (λ (r : Running). limit ≤ r.budget) (sym c.self.view_is) c.requires.budget in
    let stop = here_of c.run-halt.new.here in
    let halts = halts-with code base limit c.bytes.result.now c.as_slice.result.now Memory stop c.bytes.ensures c.as_slice.ensures.value c.in-Memory.ensures.halts in
    λ unended. memory-stands code base limit stands fits room stop halts

pub returns-in-Memory-clause-goes : goal.returns-in-Memory-clause-goes
returns-in-Memory-clause-goes c =
    let code = c.args.code.now in
    let limit = c.args.limit in
    let base : Running = record {
      args = c.self.inside.args;
      budget = c.self.inside.budget;
      rights = c.self.inside.rights;
      fed = c.self.inside.fed.items;
      here = here_of c.self.inside.here;
      phase = c.self.inside.phase;
    } in
    let stands : Stands code base = subst (λ (r : Running). Stands code r) (sym c.self.view_is) c.requires.stands in
    let fits : base.here.used ≤ limit = subst (λ (r : Running). r.here.used ≤ limit) (sym c.self.view_is) c.requires.used in
    let room : limit ≤ base.budget = subst (λ (r : Running). limit ≤ r.budget) (sym c.self.view_is) c.requires.budget in
    let stop = here_of c.run-halt.new.here in
    let halts = halts-with code base limit c.bytes.result.now c.as_slice.result.now Memory stop c.bytes.ensures c.as_slice.ensures.value c.in-Memory.ensures.halts in
    λ unended. subst (λ (r : Running). GoesTo code limit r stop) c.self.view_is (memory-goes code base limit stands fits room stop halts)

pub returns-in-Ended-clause-answer : goal.returns-in-Ended-clause-answer
returns-in-Ended-clause-answer c =
    let code = c.args.code.now in
    let limit = c.args.limit in
    let base : Running = record {
      args = c.self.inside.args;
      budget = c.self.inside.budget;
      rights = c.self.inside.rights;
      fed = c.self.inside.fed.items;
      here = here_of c.self.inside.here;
      phase = c.self.inside.phase;
    } in
    let stands : Stands code base = subst (λ (r : Running). Stands code r) (sym c.self.view_is) c.requires.stands in
    let fits : base.here.used ≤ limit = subst (λ (r : Running). r.here.used ≤ limit) (sym c.self.view_is) c.requires.used in
    let room : limit ≤ base.budget = subst (λ (r : Running). limit ≤ r.budget) (sym c.self.view_is) c.requires.budget in
    let stop = here_of c.run-halt.new.here in
    let halts = halts-with code base limit c.bytes.result.now c.as_slice.result.now (Ended c.in-Ended.run') stop c.bytes.ensures c.as_slice.ensures.value c.in-Ended.ensures.halts in
    λ program does. subst (λ (r : Running). IsAnswer c.pause.result c.pause.new.self (mean program r.args limit (part r.fed r.rights))) c.self.view_is
    (ended-answers code base limit stands fits room c.in-Ended.run' c.pause.result stop c.pause.new.self halts c.pause.ensures program does)

pub returns-in-Ended-clause-stands : goal.returns-in-Ended-clause-stands
returns-in-Ended-clause-stands c =
    let code = c.args.code.now in
    let limit = c.args.limit in
    let base : Running = record {
      args = c.self.inside.args;
      budget = c.self.inside.budget;
      rights = c.self.inside.rights;
      fed = c.self.inside.fed.items;
      here = here_of c.self.inside.here;
      phase = c.self.inside.phase;
    } in
    let stands : Stands code base = subst (λ (r : Running). Stands code r) (sym c.self.view_is) c.requires.stands in
    let fits : base.here.used ≤ limit = subst (λ (r : Running). r.here.used ≤ limit) (sym c.self.view_is) c.requires.used in
    let room : limit ≤ base.budget = subst (λ (r : Running). limit ≤ r.budget) (sym c.self.view_is) c.requires.budget in
    let stop = here_of c.run-halt.new.here in
    let halts = halts-with code base limit c.bytes.result.now c.as_slice.result.now (Ended c.in-Ended.run') stop c.bytes.ensures c.as_slice.ensures.value c.in-Ended.ensures.halts in
    λ unended. ended-stands code base limit stands fits room c.in-Ended.run' c.pause.result stop c.pause.new.self halts c.pause.ensures unended

pub returns-in-Ended-clause-goes : goal.returns-in-Ended-clause-goes
returns-in-Ended-clause-goes c =
    let code = c.args.code.now in
    let limit = c.args.limit in
    let base : Running = record {
      args = c.self.inside.args;
      budget = c.self.inside.budget;
      rights = c.self.inside.rights;
      fed = c.self.inside.fed.items;
      here = here_of c.self.inside.here;
      phase = c.self.inside.phase;
    } in
    let stands : Stands code base = subst (λ (r : Running). Stands code r) (sym c.self.view_is) c.requires.stands in
    let fits : base.here.used ≤ limit = subst (λ (r : Running). r.here.used ≤ limit) (sym c.self.view_is) c.requires.used in
    let room : limit ≤ base.budget = subst (λ (r : Running). limit ≤ r.budget) (sym c.self.view_is) c.requires.budget in
    let stop = here_of c.run-halt.new.here in
    let halts = halts-with code base limit c.bytes.result.now c.as_slice.result.now (Ended c.in-Ended.run') stop c.bytes.ensures c.as_slice.ensures.value c.in-Ended.ensures.halts in
    λ unended. subst (λ (r : Running). GoesTo code limit r c.pause.new.self.here) c.self.view_is
    (ended-goes code base limit stands fits room c.in-Ended.run' c.pause.result stop c.pause.new.self halts c.pause.ensures unended)
