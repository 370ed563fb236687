-- A turn, by its answer.
use Rattle.std.proofs.Common.{◌≡◌, ◌≢◌, sym, ◌∙◌}
use Rattle.task.specs.declared.phase.Phase.TheVariants as phase
use Rattle.task.specs.declared.turned.Turned.TheVariants as told
use Rattle.drive.proofs.Passing.{falls-read, falls-turn, memory-passes, passes-along, ran-passes, ran-turned}
use Rattle.drive.proofs.Telling.{ran-ready, waiting-on, wants-waits}
use Rattle.drive.specs.Turns as turning
use Rattle.drive.proofs.Rounds.{end-turn, read-turn}
use Rattle.drive.proofs.running.turn.Goals as goal

pub returns-in-Ran-clause-passes : goal.returns-in-Ran-clause-passes
returns-in-Ran-clause-passes c =
    let some : c.turn.result ≢ told.Memory = λ memory. (let clash : told.Ran ≡ told.Memory = sym c.in-Ran.is ∙ memory in cc) in
    let ready : c.turn.new.self.phase ≡ phase.Ready = ran-ready c.turn.new.self.phase (sym c.in-Ran.is ∙ c.turn.ensures.told some) in
    λ policy journal stands. ran-passes policy c.args.book.now journal c.args.task c.turn.new.self c.args.quantum stands (c.turn.ensures.turn some) ready (c.requires.ran journal stands)

pub returns-in-Wants-clause-passes : goal.returns-in-Wants-clause-passes
returns-in-Wants-clause-passes c =
    let some : c.turn.result ≢ told.Memory = λ memory. (let clash : told.Wants c.in-Wants.table c.in-Wants.key ≡ told.Memory = sym c.in-Wants.is ∙ memory in cc) in
    λ policy journal stands. passes-along policy c.args.book.now c.args.book.now journal c.args.task c.turn.new.self c.args.quantum c.read.result
    (c.turn.ensures.turn some) (c.read.ensures.passes policy journal stands)

pub returns-in-Wants-clause-falls : goal.returns-in-Wants-clause-falls
returns-in-Wants-clause-falls c =
    let some : c.turn.result ≢ told.Memory = λ memory. (let clash : told.Wants c.in-Wants.table c.in-Wants.key ≡ told.Memory = sym c.in-Wants.is ∙ memory in cc) in
    let waits : c.turn.new.self.phase ≡ phase.Waiting c.in-Wants.table c.in-Wants.key =
    wants-waits c.turn.new.self.phase c.in-Wants.table c.in-Wants.key (sym c.in-Wants.is ∙ c.turn.ensures.told some) in
    falls-read c.args.task c.turn.new.self c.read.result
    (falls-turn c.args.task c.turn.new.self c.args.quantum c.spent-kept.ensures.kept c.requires.ready c.requires.some (c.turn.ensures.turn some)
    (waiting-on c.turn.new.self.phase c.in-Wants.table c.in-Wants.key waits)) c.read.ensures.spent

pub returns-in-Ended-clause-passes : goal.returns-in-Ended-clause-passes
returns-in-Ended-clause-passes c =
    let some : c.turn.result ≢ told.Memory = λ memory. (let clash : told.Ended ≡ told.Memory = sym c.in-Ended.is ∙ memory in cc) in
    λ policy journal stands. passes-along policy c.args.book.now c.end.new.book journal c.args.task c.turn.new.self c.args.quantum c.end.result
    (c.turn.ensures.turn some) (c.end.ensures.passes policy journal stands)

pub returns-in-Memory-clause-passes : goal.returns-in-Memory-clause-passes
returns-in-Memory-clause-passes c = λ policy journal stands. memory-passes policy c.args.book.now journal c.args.task stands

pub read-requires-clause-ran : goal.read-requires-clause-ran
read-requires-clause-ran c =
    let some : c.turn.result ≢ told.Memory = λ memory. (let clash : told.Wants c.in-Wants.table c.in-Wants.key ≡ told.Memory = sym c.in-Wants.is ∙ memory in cc) in
    λ journal stands. ran-turned c.args.book.now.grants journal c.args.task c.turn.new.self c.args.quantum (c.turn.ensures.turn some) (c.requires.ran journal stands)

pub end-requires-clause-ran : goal.end-requires-clause-ran
end-requires-clause-ran c =
    let some : c.turn.result ≢ told.Memory = λ memory. (let clash : told.Ended ≡ told.Memory = sym c.in-Ended.is ∙ memory in cc) in
    λ journal stands. ran-turned c.args.book.now.grants journal c.args.task c.turn.new.self c.args.quantum (c.turn.ensures.turn some) (c.requires.ran journal stands)

pub returns-in-Ran-clause-turns : goal.returns-in-Ran-clause-turns
returns-in-Ran-clause-turns c =
    let some : c.turn.result ≢ told.Memory = λ memory. (let clash : told.Ran ≡ told.Memory = sym c.in-Ran.is ∙ memory in cc) in
    let ready : c.turn.new.self.phase ≡ phase.Ready = ran-ready c.turn.new.self.phase (sym c.in-Ran.is ∙ c.turn.ensures.told some) in
    λ journal stands. turning.has_run (c.turn.ensures.turn some) ready

pub returns-in-Wants-clause-turns : goal.returns-in-Wants-clause-turns
returns-in-Wants-clause-turns c =
    let some : c.turn.result ≢ told.Memory = λ memory. (let clash : told.Wants c.in-Wants.table c.in-Wants.key ≡ told.Memory = sym c.in-Wants.is ∙ memory in cc) in
    let waits : c.turn.new.self.phase ≡ phase.Waiting c.in-Wants.table c.in-Wants.key =
    wants-waits c.turn.new.self.phase c.in-Wants.table c.in-Wants.key (sym c.in-Wants.is ∙ c.turn.ensures.told some) in
    λ journal stands.
    read-turn c.args.quantum journal c.args.task c.turn.new.self c.in-Wants.table c.in-Wants.key c.read.result (c.turn.ensures.turn some) waits
    (c.read.ensures.given journal stands)

pub returns-in-Ended-clause-turns : goal.returns-in-Ended-clause-turns
returns-in-Ended-clause-turns c = λ journal stands. end-turn c.args.quantum journal c.args.task c.end.result c.end.ensures.ends c.end.ensures.here
