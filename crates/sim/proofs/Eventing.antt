-- The events but for turns, by what they do to book, queues and index.
use Rattle.std.specs.Prelude.{slice_get, if◌then◌else◌}
use Rattle.std.specs.List.{AllZip}
use Rattle.std.proofs.Common.{◌≡◌, ◌≢◌, ◌<◌, ◌⊎◌, ℕ, zero, suc, List, [], ◌∷◌, ◌++◌, length, Option, Some, None, inl, inr, refl, ap, sym, ◌∙◌, subst, arith}
use Rattle.sp_base.specs.declared.calls.Call.{Call}
use Rattle.sp_base.specs.declared.numbers.CallNo.{CallNo}
use Rattle.sp_base.specs.declared.numbers.Caller.{Caller}
use Rattle.sp_base.specs.declared.numbers.TableId.{TableId}
use Rattle.sp_base.specs.declared.numbers.TenantId.{TenantId}
use Rattle.sp_base.specs.declared.rights.Level.{Level}
use Rattle.ext_mean.specs.declared.refusal.Refusal.{Refusal}
use Rattle.ext_check.specs.Checking.{IsAccepted, IsRefused}
use Rattle.records.specs.GrantsList.{GrantsList}
use Rattle.journal.specs.declared.entry.Entry.{Entry}
use Rattle.journal.specs.declared.entry.Entry.TheVariants as entry
use Rattle.journal.specs.Folds.{same_caller, texts_of}
use Rattle.journal.specs.Granted.{granted}
use Rattle.journal.specs.Legal.{Names}
use Rattle.book.specs.declared.answers.Install.{Install}
use Rattle.book.specs.declared.answers.Install.TheVariants as install
use Rattle.book.specs.declared.answers.Put.{Put}
use Rattle.book.specs.declared.answers.Put.TheVariants as put
use Rattle.book.specs.Standing.{BookValue, KeepsFixed, RanOn, StandsFor}
use Rattle.book.specs.Verdict.{after_install, after_put, install_answer, put_answer}
use Rattle.report.specs.declared.line.Line.{Line}
use Rattle.report.specs.declared.line.Line.TheVariants as line
use Rattle.report.specs.declared.line.Said.TheVariants as said
use Rattle.sched_text.specs.declared.event.Event.TheVariants as event
use Rattle.task.specs.declared.ext_fault.ExtFault.{ExtFault}
use Rattle.task.specs.Extensions.{Explains, ExtValue, IsExtension}
use Rattle.task.specs.Turning.{Live, begun}
use Rattle.clients.specs.declared.callers.Callers.{Callers}
use Rattle.clients.specs.Numbering.{number_of}
use Rattle.sim.specs.declared.sim.Sim.{Sim}
use Rattle.sim.specs.Counting.{Indexes}
use Rattle.sim.specs.Play.{Accepted, Refused, Told, after_installed, begin_event, begin_told, install_said, install_told, of_call, put_event, put_said, put_told, steal_event, steal_first}
use Rattle.sim.specs.Queueing.{Takes, with_back}
use Rattle.sim.specs.Standing.{AreInstalled, FaultTold, IsLive, Played, StandsAt, Tells, workers_of}
use Rattle.sim.specs.State.{SimState, all_calls, exts_of, queue_of, queued, with_journal, with_queue}
use Rattle.sim.proofs.Growing.{extension-at, installed-more, one-extension, zip-length}
use Rattle.sim.proofs.Indexing.{index-none, index-some, indexed-begun}
use Rattle.sim.proofs.Totals.{all-back, all-taken}
use Rattle.sim.proofs.Moving.{back-stands, installed-still, live-still, shifted, small-of, taken-of}
use Rattle.sim.proofs.Turning.{tells-by}

-- ---- Putting

put-grows : (given : Put) (journal : List Entry) (last : Entry)
    → (after_put given journal last ≡ journal ++ last ∷ []) ⊎ (after_put given journal last ≡ journal)
put-grows (put.Done n) journal last = inl refl
put-grows put.Denied journal last = inr refl
put-grows (put.Full at) journal last = inr refl
put-grows put.Memory journal last = inr refl

put-is : (state : SimState) (grants : GrantsList) (limit : ℕ) (tenant : TenantId) (table : TableId) (last : Entry) (given : Put)
    → grants ≡ state.grants → limit ≡ state.limit → given ≢ put.Memory
    → (given ≡ put.Memory) ⊎ (given ≡ put_answer grants limit state.journal tenant table last)
    → given ≡ put_answer state.grants state.limit state.journal tenant table last
put-is state grants limit tenant table last given g l some (inl memory) = absurd (some memory)
put-is state grants limit tenant table last given g l some (inr is) =
    is ∙ ap (λ (list : GrantsList). put_answer list limit state.journal tenant table last) g
    ∙ ap (λ (n : ℕ). put_answer state.grants n state.journal tenant table last) l

pub put-tells : (old new : Sim) (tenant : TenantId) (table : TableId) (key value : List ℕ) (given : Put) (line : Line)
    → given ≢ put.Memory → line ≡ put_said given
    → ((journal : List Entry) → StandsFor old.book journal
    → (given ≡ put.Memory) ⊎ (given ≡ put_answer old.book.grants old.book.limit journal tenant table (entry.Put tenant table key value)))
    → ((journal : List Entry) → StandsFor old.book journal → StandsFor new.book (after_put given journal (entry.Put tenant table key value)))
    → KeepsFixed old.book new.book → new.policy ≡ old.policy → new.queues ≡ old.queues → new.pushed ≡ old.pushed → new.next ≡ old.next → new.callers ≡ old.callers
    → Tells old new (λ state. put_event state tenant table key value) line
put-tells old new tenant table key value given line some told answers stands fixed policy queues pushed next callers =
    tells-by old new (λ state. put_event state tenant table key value) line (λ (state : SimState) (at : StandsAt old state).
    let last : Entry = entry.Put tenant table key value in
    let is = put-is state old.book.grants old.book.limit tenant table last given at.grants at.limit some (answers state.journal at.book) in
    let grows = put-grows given state.journal last in
    let left : StandsAt new (with_journal state (after_put given state.journal last)) = record {
      book = stands state.journal at.book;
      grants = fixed.grants ∙ at.grants;
      policy = policy ∙ at.policy;
      limit = fixed.limit ∙ at.limit;
      audit = fixed.audit ∙ at.audit;
      queues = queues ∙ at.queues;
      pushed = pushed ∙ at.pushed;
      next = next ∙ at.next;
      indexed = subst (λ (c : Callers). Indexes c (all_calls state)) (sym callers) at.indexed;
      installed = installed-still state.journal (after_put given state.journal last) last state.installed (λ other. refl) grows at.installed;
      live = live-still state.grants state.journal (after_put given state.journal last) last (all_calls state) grows at.live;
    } in
    (told ∙ ap put_said is, subst (λ (p : Put). StandsAt new (put_told state last p).1) is left))

-- ---- Stealing

pub steal-none : (sim : Sim) (state : SimState) (worker other : ℕ) → StandsAt sim state → queue_of sim.queues other ≡ []
    → steal_event state worker other ≡ (line.Idle, state)
steal-none sim state worker other at none =
    ap (steal_first state worker other) (sym (ap (λ (queues : List (List Live)). queue_of queues other) at.queues) ∙ none)

pub steal-tells : (old new : Sim) (between : List (List Live)) (worker other : ℕ) (live : Live) (line : Line)
    → worker < workers_of old → other < workers_of old → Takes old.queues between other live
    → line ≡ of_call live.call said.Moved → new ≡ record old { queues = with_back between worker live }
    → Tells old new (λ state. steal_event state worker other) line
steal-tells old new between worker other live line fits small takes told left =
    tells-by old new (λ state. steal_event state worker other) line (λ (state : SimState) (at : StandsAt old state).
    let own = taken-of old state between other live at takes in
    let event : steal_event state worker other ≡ (of_call live.call said.Moved, queued (with_queue state other own.rest) worker live) =
    ap (steal_first state worker other) own.first in
    let lives = (all-taken (IsLive state.grants state.journal) (all_calls state) (state.pushed ∷ between) (suc other) live
    (shifted state.pushed state.queues between other live own) at.live).0 in
    let stands = back-stands old state between other worker live live at own small fits refl lives in (
      told ∙ ap (λ (t : Told). t.0) (sym event),
      subst (λ (s : Sim). StandsAt s (steal_event state worker other).1) (sym left)
          (subst (λ (t : Told). StandsAt (record old { queues = with_back between worker live }) t.1) (sym event) stands),
    ))

-- ---- Installing

install-is : (state : SimState) (limit : ℕ) (tenant : TenantId) (last : Entry) (given : Install)
    → limit ≡ state.limit → given ≢ install.Memory
    → (given ≡ install.Memory) ⊎ (given ≡ install_answer limit state.journal tenant last)
    → given ≡ install_answer state.limit state.journal tenant last
install-is state limit tenant last given l some (inl memory) = absurd (some memory)
install-is state limit tenant last given l some (inr is) =
    is ∙ ap (λ (n : ℕ). install_answer n state.journal tenant last) l

after-install-installed : (given : Install) (journal : List Entry) (installed : List (TenantId × ExtValue)) (tenant : TenantId) (ext : ExtValue)
    → AreInstalled journal installed → IsExtension ext.text ext
    → AreInstalled (after_install given journal (entry.Install tenant ext.text)) (after_installed given installed tenant ext)
after-install-installed (install.Installed n number) journal installed tenant ext are is = installed-more journal installed tenant ext.text ext are is
after-install-installed (install.Full at) journal installed tenant ext are is = are
after-install-installed install.Memory journal installed tenant ext are is = are

install-grows : (given : Install) (journal : List Entry) (last : Entry)
    → (after_install given journal last ≡ journal ++ last ∷ []) ⊎ (after_install given journal last ≡ journal)
install-grows (install.Installed n number) journal last = inl refl
install-grows (install.Full at) journal last = inr refl
install-grows install.Memory journal last = inr refl

pub install-played : (old new : Sim) (tenant : TenantId) (text : List ℕ) (ext : ExtValue) (given : Install) (line : Line)
    → IsExtension text ext → given ≢ install.Memory → line ≡ install_said given
    → ((journal : List Entry) → StandsFor old.book journal
    → (given ≡ install.Memory) ⊎ (given ≡ install_answer old.book.limit journal tenant (entry.Install tenant ext.text)))
    → ((journal : List Entry) → StandsFor old.book journal → StandsFor new.book (after_install given journal (entry.Install tenant ext.text)))
    → KeepsFixed old.book new.book → new.policy ≡ old.policy → new.queues ≡ old.queues → new.pushed ≡ old.pushed → new.next ≡ old.next → new.callers ≡ old.callers
    → Played old new (event.Ext tenant text) line
install-played old new tenant text ext given line is some told answers stands fixed policy queues pushed next callers =
    let mine : ExtValue = record { text = text; program = ext.program } in
    let same : ext ≡ mine = ap (λ (t : List ℕ). let e : ExtValue = record { text = t; program = ext.program } in e) is.text_is in
    let own : IsExtension ext.text ext = record { text_is = refl; accepted = subst (λ (t : List ℕ). IsAccepted t ext.program) (sym is.text_is) is.accepted } in
    record {
      judgement = Accepted ext.program;
      judged = is.accepted;
      tells = tells-by old new (λ state. install_told state tenant mine (install_answer state.limit state.journal tenant (entry.Install tenant text))) line (λ (state : SimState) (at : StandsAt old state).
          let last : Entry = entry.Install tenant ext.text in
          let answer = install-is state old.book.limit tenant last given at.limit some (answers state.journal at.book) in
          let after : List Entry = after_install given state.journal last in
          let left : StandsAt new (install_told state tenant ext given).1 = record {
            book = stands state.journal at.book;
            grants = fixed.grants ∙ at.grants;
            policy = policy ∙ at.policy;
            limit = fixed.limit ∙ at.limit;
            audit = fixed.audit ∙ at.audit;
            queues = queues ∙ at.queues;
            pushed = pushed ∙ at.pushed;
            next = next ∙ at.next;
            indexed = subst (λ (c : Callers). Indexes c (all_calls state)) (sym callers) at.indexed;
            installed = after-install-installed given state.journal state.installed tenant ext at.installed own;
            live = live-still state.grants state.journal after last (all_calls state) (install-grows given state.journal last) at.live;
          } in
          let rule : install_told state tenant ext given ≡ install_told state tenant mine (install_answer state.limit state.journal tenant (entry.Install tenant text)) =
          ap (install_told state tenant ext) answer
          ∙ ap (λ (e : ExtValue). install_told state tenant e (install_answer state.limit state.journal tenant (entry.Install tenant e.text))) same in
          (told ∙ ap (λ (t : Told). t.0) rule, subst (λ (t : Told). StandsAt new t.1) rule left));
    }

refused-played : (sim : Sim) (tenant : TenantId) (text : List ℕ) (at : ℕ) (code : Refusal) → IsRefused text at code
    → Played sim sim (event.Ext tenant text) (line.Rejected at code)
refused-played sim tenant text at code refused = record {
  judgement = Refused at code;
  judged = refused;
  tells = record { told = λ state stands. refl; left = λ state stands. stands };
}

pub rejected-played : (sim : Sim) (tenant : TenantId) (text : List ℕ) (given : ExtFault) (told : Line) → FaultTold given told → Explains text given
    → Played sim sim (event.Ext tenant text) told
rejected-played sim tenant text given told is explains =
    subst (λ (l : Line). Played sim sim (event.Ext tenant text) l) (sym is.line_is)
    (refused-played sim tenant text is.at is.code (subst (Explains text) is.is explains))

-- ---- Beginning

pub busy-tells : (sim : Sim) (worker : ℕ) (call : Call) (number : ℕ) (line : Line)
    → number_of sim.callers call.caller ≡ Some number
    → line ≡ of_call call (said.Busy (record { 0 = number })) → Tells sim sim (λ state. begin_event state worker call) line
busy-tells sim worker call number line busy told =
    tells-by sim sim (λ state. begin_event state worker call) line (λ (state : SimState) (at : StandsAt sim state).
    let found = index-some sim.callers (all_calls state) call.caller number at.indexed busy in
    let busy_with : CallNo = record { 0 = number } in
    let same : busy_with ≡ found.live.call.number = ap (λ (m : ℕ). let made : CallNo = record { 0 = m } in made) (sym found.number) in
    let event : begin_event state worker call ≡ (of_call call (said.Busy found.live.call.number), state) =
    ap (λ (l : Option Live). begin_told state worker call l (slice_get (exts_of state.installed call.caller.tenant) call.ext.0)) found.is in (
      told ∙ ap (λ (m : CallNo). of_call call (said.Busy m)) same ∙ ap (λ (t : Told). t.0) (sym event),
      subst (λ (t : Told). StandsAt sim t.1) (sym event) at,
    ))

zip-none : (texts : List (List ℕ)) (exts : List ExtValue) (at : ℕ) → AllZip IsExtension texts exts → slice_get texts at ≡ None → slice_get exts at ≡ None
zip-none [] [] at all none = refl
zip-none [] (ext ∷ exts) at all none = absurd all
zip-none (text ∷ texts) [] at all none = absurd all
zip-none (text ∷ texts) (ext ∷ exts) zero all none = absurd cc
zip-none (text ∷ texts) (ext ∷ exts) (suc at) all none = zip-none texts exts at all.1 none

pub missing-tells : (sim : Sim) (worker : ℕ) (call : Call) (count : ℕ) (line : Line)
    → number_of sim.callers call.caller ≡ None
    → ((journal : List Entry) → StandsFor sim.book journal → slice_get (texts_of journal call.caller.tenant) call.ext.0 ≡ None)
    → ((journal : List Entry) → StandsFor sim.book journal → count ≡ length (texts_of journal call.caller.tenant))
    → line ≡ of_call call (said.NoExtension count) → Tells sim sim (λ state. begin_event state worker call) line
missing-tells sim worker call count line free missing counts told =
    tells-by sim sim (λ state. begin_event state worker call) line (λ (state : SimState) (at : StandsAt sim state).
    let none = index-none sim.callers (all_calls state) call.caller at.indexed free in
    let exts : List ExtValue = exts_of state.installed call.caller.tenant in
    let texts : List (List ℕ) = texts_of state.journal call.caller.tenant in
    let gone : slice_get exts call.ext.0 ≡ None = zip-none texts exts call.ext.0 (at.installed call.caller.tenant) (missing state.journal at.book) in
    let many : count ≡ length exts = counts state.journal at.book ∙ zip-length IsExtension texts exts (at.installed call.caller.tenant) in
    let event : begin_event state worker call ≡ (of_call call (said.NoExtension (length exts)), state) =
    ap (λ (l : Option Live). begin_told state worker call l (slice_get exts call.ext.0)) none
    ∙ ap (begin_told state worker call None) gone in (
      told ∙ ap (λ (n : ℕ). of_call call (said.NoExtension n)) many ∙ ap (λ (t : Told). t.0) (sym event),
      subst (λ (t : Told). StandsAt sim t.1) (sym event) at,
    ))

pub begun-tells : (old new : Sim) (worker : ℕ) (call : Call) (ext : ExtValue) (rights : List (TableId × Level)) (line : Line)
    → worker < workers_of old
    → number_of old.callers call.caller ≡ None
    → ((journal : List Entry) → StandsFor old.book journal → slice_get (texts_of journal call.caller.tenant) call.ext.0 ≡ Some ext.text)
    → IsAccepted ext.text ext.program
    → ((journal : List Entry) → StandsFor old.book journal → rights ≡ granted old.book.grants journal call.caller.tenant)
    → ((caller : Caller) → number_of new.callers caller ≡ (if same_caller call.caller caller then Some call.number.0 else number_of old.callers caller))
    → new.book ≡ old.book → new.policy ≡ old.policy → new.pushed ≡ old.pushed → new.next ≡ old.next → new.queues ≡ with_back old.queues worker (begun call ext rights)
    → line ≡ of_call call said.Queued → Tells old new (λ state. begin_event state worker call) line
begun-tells old new worker call ext rights line small free found accepted own added book policy pushed next queues told =
    tells-by old new (λ state. begin_event state worker call) line (λ (state : SimState) (at : StandsAt old state).
    let none = index-none old.callers (all_calls state) call.caller at.indexed free in
    let exts : List ExtValue = exts_of state.installed call.caller.tenant in
    let texts : List (List ℕ) = texts_of state.journal call.caller.tenant in
    let has = extension-at texts exts call.ext.0 ext.text (at.installed call.caller.tenant) (found state.journal at.book) in
    let mine : IsExtension ext.text ext = record { text_is = refl; accepted = accepted } in
    let same : has.ext ≡ ext = one-extension ext.text has.ext ext has.is mine in
    let list : List (TableId × Level) = granted state.grants state.journal call.caller.tenant in
    let given : rights ≡ list = own state.journal at.book ∙ ap (λ (g : GrantsList). granted g state.journal call.caller.tenant) at.grants in
    let live : Live = begun call ext list in
    let event : begin_event state worker call ≡ (of_call call said.Queued, queued state worker live) =
    ap (λ (l : Option Live). begin_told state worker call l (slice_get exts call.ext.0)) none
    ∙ ap (begin_told state worker call None) (has.found ∙ ap Some same) in
    let named : Names state.journal call ext.program = record { text = ext.text; found = found state.journal at.book; spelled = accepted.spelled } in
    let ran : RanOn state.grants state.journal call ext.program list [] = record { held = tt; named = named; own = refl } in
    let lives : IsLive state.grants state.journal live = record { ready = refl; ran = ran } in
    let here = small-of old state worker at small in
    let behind : suc worker < length (all_calls state) = omega (arith, here) in
    let left : StandsAt new (queued state worker live) = record {
      book = subst (λ (b : BookValue). StandsFor b state.journal) (sym book) at.book;
      grants = ap (λ (b : BookValue). b.grants) book ∙ at.grants;
      policy = policy ∙ at.policy;
      limit = ap (λ (b : BookValue). b.limit) book ∙ at.limit;
      audit = ap (λ (b : BookValue). b.audit) book ∙ at.audit;
      queues = queues ∙ ap (λ (r : List (TableId × Level)). with_back old.queues worker (begun call ext r)) given
          ∙ ap (λ (qs : List (List Live)). with_back qs worker live) at.queues;
      pushed = pushed ∙ at.pushed;
      next = next ∙ at.next;
      indexed = indexed-begun old.callers new.callers (all_calls state) (suc worker) live behind at.indexed free added;
      installed = at.installed;
      live = all-back (IsLive state.grants state.journal) (all_calls state) (suc worker) live at.live lives;
    } in
    (told ∙ ap (λ (t : Told). t.0) (sym event), subst (λ (t : Told). StandsAt new t.1) (sym event) left))

pub not-some : {A : Type 0} (found : Option A) → ((a : A) → found ≡ Some a → ⊥) → found ≡ None
not-some None apart = refl
not-some (Some a) apart = absurd (apart a refl)
