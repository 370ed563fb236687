-- The turn of the first call, by its answer.
use Rattle.std.proofs.Common.{◌≡◌, ◌≢◌, ap, sym, subst, ◌∙◌}
use Rattle.sp_base.specs.declared.reads.ReadItem.{ReadItem}
use Rattle.book.specs.Verdict.{item_at}
use Rattle.report.specs.declared.line.Said.TheVariants as said
use Rattle.task.specs.declared.phase.Phase.{Phase}
use Rattle.task.specs.declared.phase.Phase.TheVariants as phase
use Rattle.task.specs.declared.turned.Turned.TheVariants as told
use Rattle.task.specs.Tasks.{GoesOn as On}
use Rattle.task.specs.Turning.{Live, given}
use Rattle.sim.specs.declared.sim.Sim.{Sim}
use Rattle.sim.proofs.Turning.{end-falls, end-tells, goes-falls, goes-tells, if-ok-map, may-be-pushed, on-ok-map, ran-each, ran-ready, reads-tell, ready-of, spends-more, turned-call, wants-waits}
use Rattle.sim.proofs.sim.Sim.turn.Goals as goal

pub end-requires-clause-ran : goal.end-requires-clause-ran
end-requires-clause-ran c =
    let some : c.turn.result ≢ told.Memory = λ memory. (let clash : told.Ended ≡ told.Memory = sym c.in-Ended.is ∙ memory in cc) in
    ran-each c.args.self.now c.requires.stands c.take.new.self c.args.worker c.args.quantum c.in-Some.task c.turn.new.self
    c.in-Some.ensures (c.turn.ensures.turn some)

pub go_on-requires-clause-may : goal.go_on-requires-clause-may
go_on-requires-clause-may c =
    let some : c.turn.result ≢ told.Memory = λ memory. (let clash : told.Ran ≡ told.Memory = sym c.in-Ran.is ∙ memory in cc) in
    may-be-pushed c.args.self.now c.requires.stands c.take.new.self c.args.worker c.args.quantum c.in-Some.task c.turn.new.self
    c.requires.worker c.in-Some.ensures (c.turn.ensures.turn some)

pub read-requires-clause-ran : goal.read-requires-clause-ran
read-requires-clause-ran c =
    let some : c.turn.result ≢ told.Memory = λ memory. (let clash : told.Wants c.in-Wants.table c.in-Wants.key ≡ told.Memory = sym c.in-Wants.is ∙ memory in cc) in
    ran-each c.args.self.now c.requires.stands c.take.new.self c.args.worker c.args.quantum c.in-Some.task c.turn.new.self
    c.in-Some.ensures (c.turn.ensures.turn some)

pub read-requires-clause-may : goal.read-requires-clause-may
read-requires-clause-may c =
    let some : c.turn.result ≢ told.Memory = λ memory. (let clash : told.Wants c.in-Wants.table c.in-Wants.key ≡ told.Memory = sym c.in-Wants.is ∙ memory in cc) in
    may-be-pushed c.args.self.now c.requires.stands c.take.new.self c.args.worker c.args.quantum c.in-Some.task c.turn.new.self
    c.requires.worker c.in-Some.ensures (c.turn.ensures.turn some)

pub returns-in-Ran-clause-told : goal.returns-in-Ran-clause-told
returns-in-Ran-clause-told c =
    let some : c.turn.result ≢ told.Memory = λ memory. (let clash : told.Ran ≡ told.Memory = sym c.in-Ran.is ∙ memory in cc) in
    let ready : c.turn.new.self.phase ≡ phase.Ready = ran-ready c.turn.new.self.phase (sym c.in-Ran.is ∙ c.turn.ensures.told some) in
    if-ok-map c.go_on.result _ _ (λ line goes. goes-tells c.args.self.now c.go_on.new.self c.take.new.self c.args.worker c.args.quantum c.load-load.result
    c.in-Some.task c.turn.new.self line c.requires.worker c.load-load.ensures c.in-Some.ensures (c.turn.ensures.turn some) ready goes) c.go_on.ensures

pub returns-in-Ran-clause-falls : goal.returns-in-Ran-clause-falls
returns-in-Ran-clause-falls c =
    let some : c.turn.result ≢ told.Memory = λ memory. (let clash : told.Ran ≡ told.Memory = sym c.in-Ran.is ∙ memory in cc) in
    let is = c.turn.ensures.turn some in
    let ready : c.turn.new.self.phase ≡ phase.Ready = ran-ready c.turn.new.self.phase (sym c.in-Ran.is ∙ c.turn.ensures.told some) in
    let more = spends-more c.in-Some.task c.turn.new.self c.args.quantum c.spent-kept.ensures.kept
    (ready-of c.args.self.now c.requires.stands c.take.new.self c.args.worker c.in-Some.task c.in-Some.ensures) c.requires.quantum is
    (subst (λ (p : Phase). On p) (sym ready) tt) in
    on-ok-map c.go_on.result _ _ (λ line goes. λ queue. goes-falls c.args.self.now c.go_on.new.self c.take.new.self c.args.worker c.load-load.result
    c.in-Some.task c.turn.new.self (said.On c.turn.new.self.spent) line c.requires.worker c.in-Some.ensures
    (ap (λ (l : Live). l.call) is ∙ turned-call c.in-Some.task c.args.quantum) more.more more.within goes) c.go_on.ensures

pub returns-in-Wants-clause-told : goal.returns-in-Wants-clause-told
returns-in-Wants-clause-told c =
    let some : c.turn.result ≢ told.Memory = λ memory. (let clash : told.Wants c.in-Wants.table c.in-Wants.key ≡ told.Memory = sym c.in-Wants.is ∙ memory in cc) in
    let waits : c.turn.new.self.phase ≡ phase.Waiting c.in-Wants.table c.in-Wants.key =
    wants-waits c.turn.new.self.phase c.in-Wants.table c.in-Wants.key (sym c.in-Wants.is ∙ c.turn.ensures.told some) in
    if-ok-map c.read.result _ _ (λ line reads. reads-tell c.args.self.now c.read.new.self c.take.new.self c.args.worker c.args.quantum c.load-load.result
    c.in-Some.task c.turn.new.self c.in-Wants.table c.in-Wants.key line c.requires.worker c.load-load.ensures c.in-Some.ensures (c.turn.ensures.turn some) waits reads) c.read.ensures

pub returns-in-Wants-clause-falls : goal.returns-in-Wants-clause-falls
returns-in-Wants-clause-falls c =
    let some : c.turn.result ≢ told.Memory = λ memory. (let clash : told.Wants c.in-Wants.table c.in-Wants.key ≡ told.Memory = sym c.in-Wants.is ∙ memory in cc) in
    let is = c.turn.ensures.turn some in
    let waits : c.turn.new.self.phase ≡ phase.Waiting c.in-Wants.table c.in-Wants.key =
    wants-waits c.turn.new.self.phase c.in-Wants.table c.in-Wants.key (sym c.in-Wants.is ∙ c.turn.ensures.told some) in
    let more = spends-more c.in-Some.task c.turn.new.self c.args.quantum c.spent-kept.ensures.kept
    (ready-of c.args.self.now c.requires.stands c.take.new.self c.args.worker c.in-Some.task c.in-Some.ensures) c.requires.quantum is
    (subst (λ (p : Phase). On p) (sym waits) tt) in
    let item : ReadItem = item_at c.requires.stands.state.journal c.in-Wants.table c.in-Wants.key in
    on-ok-map c.read.result _ _ (λ line reads. λ queue. goes-falls c.args.self.now c.read.new.self c.take.new.self c.args.worker c.load-load.result
    c.in-Some.task (given c.turn.new.self item) (said.Read c.in-Wants.table c.in-Wants.key item.version) line c.requires.worker c.in-Some.ensures
    (ap (λ (l : Live). l.call) is ∙ turned-call c.in-Some.task c.args.quantum) more.more more.within
    (reads c.requires.stands.state.journal c.requires.stands.at.book)) c.read.ensures

pub returns-in-Ended-clause-told : goal.returns-in-Ended-clause-told
returns-in-Ended-clause-told c =
    let some : c.turn.result ≢ told.Memory = λ memory. (let clash : told.Ended ≡ told.Memory = sym c.in-Ended.is ∙ memory in cc) in
    if-ok-map c.end.result _ _ (λ line ends. end-tells c.args.self.now c.end.new.self c.take.new.self c.args.worker c.args.quantum
    c.in-Some.task c.turn.new.self line c.requires.worker c.in-Some.ensures (c.turn.ensures.turn some) ends) c.end.ensures

pub returns-in-Ended-clause-falls : goal.returns-in-Ended-clause-falls
returns-in-Ended-clause-falls c =
    on-ok-map c.end.result _ _ (λ line ends. λ queue. end-falls c.args.self.now c.end.new.self c.take.new.self c.args.worker
    c.in-Some.task c.requires.worker c.in-Some.ensures c.spent-kept.ensures.kept.within ends.is.queues ends.is.pushed) c.end.ensures
