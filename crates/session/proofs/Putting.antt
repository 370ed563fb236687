-- A put, and an installation, as the book answers them.
use Rattle.std.specs.Prelude.{max, Bool, true, false, slice_get, if◌then◌else◌}
use Rattle.std.proofs.Common.{◌≡◌, ◌+◌, ◌⊎◌, ℕ, List, [], ◌∷◌, ◌++◌, length, Some, refl, sym, subst, ap, ◌∙◌, inl, inr, arith, length-append}
use Rattle.sp_base.specs.declared.numbers.ExtNo.{ExtNo}
use Rattle.sp_base.specs.declared.numbers.TableId.{TableId}
use Rattle.sp_base.specs.declared.numbers.TenantId.{TenantId}
use Rattle.sp_base.specs.RightsList.{can_write}
use Rattle.ext_mean.specs.declared.tree.Program.{Program}
use Rattle.ext_check.specs.Checking.{IsAccepted}
use Rattle.journal.specs.declared.entry.Entry.{Entry}
use Rattle.journal.specs.declared.entry.Entry.TheVariants as entry
use Rattle.journal.specs.Folds.{texts_of}
use Rattle.journal.specs.Granted.{granted}
use Rattle.journal.proofs.Versions.{slice_get-append_seam}
use Rattle.book.specs.declared.answers.Install.{Install}
use Rattle.book.specs.declared.answers.Install.TheVariants as install
use Rattle.book.specs.declared.answers.Put.{Put}
use Rattle.book.specs.declared.answers.Put.TheVariants as put
use Rattle.book.specs.Standing.{BookValue, KeepsFixed, StandsFor}
use Rattle.book.specs.Verdict.{after_install, after_put, install_answer, is_full, put_answer}
use Rattle.wire.specs.declared.answers.Answer.TheVariants as answer
use Rattle.wire.specs.declared.requests.Request.TheVariants as request
use Rattle.session.specs.declared.plan.Plan.TheVariants as plan
use Rattle.session.specs.declared.session.Session.{Session}
use Rattle.session.specs.Seeing.{install_seen, put_seen}
use Rattle.session.specs.Standing.{Explains, Fits, IsOpen, Planned, Stands, tenant_of, terms_over}
use Rattle.session.specs.States.{after_answer, seen_in_install, seen_in_put}
use Rattle.session.specs.Steps as steps
use Rattle.session.specs.Steps.{InstallStands, PutStands, install_told, put_told}
use Rattle.session.proofs.Planning.{at-now, now-in, seen-by, sends, stands-after, stands-nil, stands-still}

-- ---- Puts

put-done-is : (can full : Bool) (n now : ℕ)
    → put.Done n ≡ (if can then (if full then put.Full now else put.Done now) else put.Denied) → n ≡ now
put-done-is true true n now told = absurd (cc)
put-done-is true false n now told = (cc)
put-done-is false full n now told = absurd (cc)

put-full-is : (can full : Bool) (at now : ℕ)
    → put.Full at ≡ (if can then (if full then put.Full now else put.Done now) else put.Denied) → at ≡ now
put-full-is true true at now told = (cc)
put-full-is true false at now told = absurd (cc)
put-full-is false full at now told = absurd (cc)

-- the put is explained by the journal behind it
put-explained : (old new : Session) (book : BookValue) (journal later : List Entry) (tenant : TenantId) (table : TableId) (key value : List ℕ) (given : Put)
    → Fits old journal book.grants → tenant_of old.admitted ≡ Some tenant
    → given ≡ put_answer book.grants book.limit journal tenant table (entry.Put tenant table key value)
    → PutStands (journal ++ later) (entry.Put tenant table key value) given → new.admitted ≡ old.admitted → new.parked ≡ old.parked
    → new.seen ≡ seen_in_put old.seen (put_told given)
    → Explains (terms_over old book) (journal ++ later) (Stands old) new (request.Put table key value) (answer.PutDone (put_told given))
put-explained old new book journal later tenant table key value given fits tenanted told there own parked shown = λ state stands. record {
  next = after_answer state (answer.PutDone (put_told given)) state.kept;
  step = steps.puts_one tenant table key value given (stands.tenant ∙ tenanted) (record {
    moment = length journal;
    shown = at-now journal later state.seen (seen-by old state journal book.grants stands fits);
    told = now-in (λ (before : List Entry). given ≡ put_answer book.grants book.limit before tenant table (entry.Put tenant table key value)) journal later told;
    stands = there;
  });
  stands = stands-after old new state (answer.PutDone (put_told given)) stands own parked shown;
}

own-of : (old new : Session) (seen : ℕ) → new ≡ record old { seen = seen } → new.admitted ≡ old.admitted
own-of old new seen is = ap (λ (s : Session). s.admitted) is

parked-of : (old new : Session) (seen : ℕ) → new ≡ record old { seen = seen } → new.parked ≡ old.parked
parked-of old new seen is = ap (λ (s : Session). s.parked) is

pub told-by : {A : Type 0} (given memory answered : A) → (given ≡ memory → ⊥) → (given ≡ memory) ⊎ (given ≡ answered) → given ≡ answered
told-by given memory answered some (inl is) = absurd (some is)
told-by given memory answered some (inr is) = is

-- a put is answered as the book does
pub put-planned : (old new : Session) (before after : BookValue) (journal : List Entry) (tenant : TenantId) (table : TableId) (key value : List ℕ) (given : Put) (now : ℕ)
    → IsOpen old → Fits old journal before.grants → tenant_of old.admitted ≡ Some tenant → KeepsFixed before after
    → (given ≡ put.Memory) ⊎ (given ≡ put_answer before.grants before.limit journal tenant table (entry.Put tenant table key value))
    → StandsFor after (after_put given journal (entry.Put tenant table key value))
    → now ≡ length (after_put given journal (entry.Put tenant table key value)) → new ≡ record old { seen = put_seen old.seen now given }
    → Planned old new before after journal (request.Put table key value) (plan.Send (answer.PutDone (put_told given)))
put-planned old new before after journal tenant table key value (put.Done n) now ready fits tenanted fixed is stands counted new_is =
    let own_put : Entry = entry.Put tenant table key value in
    let told = told-by (put.Done n) put.Memory (put_answer before.grants before.limit journal tenant table own_put) (λ memory. cc) is in
    let number : n ≡ length journal = put-done-is (can_write (granted before.grants journal tenant) table.0) (is_full before.limit journal own_put) n (length journal) told in
    let longer : length (journal ++ own_put ∷ []) ≡ length journal + 1 = length-append journal (own_put ∷ []) in
    let seen : new.seen ≡ max old.seen (n + 1) = ap (λ (s : Session). s.seen) new_is ∙ ap (max old.seen) (counted ∙ longer ∙ ap (λ (m : ℕ). m + 1) (sym number)) in
    sends old new before after journal (own_put ∷ []) (request.Put table key value) (answer.PutDone (put_told (put.Done n)))
    stands fixed (number, refl) fits (own-of old new _ new_is) (parked-of old new _ new_is) (ap (λ (s : Session). s.conf) new_is)
    (omega (arith, seen, number, longer, fits.seen)) (ap (λ (s : Session). s.phase) new_is ∙ ready) (ap (λ (s : Session). s.phase) new_is ∙ ready) tt
    (put-explained old new before journal (own_put ∷ []) tenant table key value (put.Done n) fits tenanted told
    (subst (λ (m : ℕ). slice_get (journal ++ own_put ∷ []) m ≡ Some own_put) (sym number) (slice_get-append_seam journal own_put []))
    (own-of old new _ new_is) (parked-of old new _ new_is) seen)
put-planned old new before after journal tenant table key value put.Denied now ready fits tenanted fixed is stands counted new_is =
    let told = told-by put.Denied put.Memory (put_answer before.grants before.limit journal tenant table (entry.Put tenant table key value)) (λ memory. cc) is in
    let seen : new.seen ≡ old.seen = ap (λ (s : Session). s.seen) new_is in
    sends old new before after journal [] (request.Put table key value) (answer.PutDone (put_told put.Denied))
    (stands-nil after journal stands) fixed refl fits (own-of old new _ new_is) (parked-of old new _ new_is) (ap (λ (s : Session). s.conf) new_is)
    (omega (arith, seen, fits.seen, length-append journal [])) (ap (λ (s : Session). s.phase) new_is ∙ ready) (ap (λ (s : Session). s.phase) new_is ∙ ready) tt
    (put-explained old new before journal [] tenant table key value put.Denied fits tenanted told tt (own-of old new _ new_is) (parked-of old new _ new_is) seen)
put-planned old new before after journal tenant table key value (put.Full at) now ready fits tenanted fixed is stands counted new_is =
    let own_put : Entry = entry.Put tenant table key value in
    let told = told-by (put.Full at) put.Memory (put_answer before.grants before.limit journal tenant table own_put) (λ memory. cc) is in
    let number : at ≡ length journal = put-full-is (can_write (granted before.grants journal tenant) table.0) (is_full before.limit journal own_put) at (length journal) told in
    let seen : new.seen ≡ max old.seen at = ap (λ (s : Session). s.seen) new_is ∙ ap (max old.seen) (counted ∙ sym number) in
    sends old new before after journal [] (request.Put table key value) (answer.PutDone (put_told (put.Full at)))
    (stands-nil after journal stands) fixed refl fits (own-of old new _ new_is) (parked-of old new _ new_is) (ap (λ (s : Session). s.conf) new_is)
    (omega (arith, seen, number, fits.seen, length-append journal [])) (ap (λ (s : Session). s.phase) new_is ∙ ready) (ap (λ (s : Session). s.phase) new_is ∙ ready) tt
    (put-explained old new before journal [] tenant table key value (put.Full at) fits tenanted told tt (own-of old new _ new_is) (parked-of old new _ new_is) seen)
put-planned old new before after journal tenant table key value put.Memory now ready fits tenanted fixed is stands counted new_is =
    let seen : new.seen ≡ old.seen = ap (λ (s : Session). s.seen) new_is in
    sends old new before after journal [] (request.Put table key value) (answer.PutDone (put_told put.Memory))
    (stands-nil after journal stands) fixed refl fits (own-of old new _ new_is) (parked-of old new _ new_is) (ap (λ (s : Session). s.conf) new_is)
    (omega (arith, seen, fits.seen, length-append journal [])) (ap (λ (s : Session). s.phase) new_is ∙ ready) (ap (λ (s : Session). s.phase) new_is ∙ ready) tt
    (λ state was. record {
      next = state;
      step = steps.puts_nothing tenant table key value (was.tenant ∙ tenanted);
      stands = stands-still old new state was (own-of old new _ new_is) (parked-of old new _ new_is) seen;
    })

-- ---- Installations

install-done-is : (full : Bool) (n now : ℕ) (ext next : ExtNo)
    → install.Installed n ext ≡ (if full then install.Full now else install.Installed now next) → n ≡ now
install-done-is true n now ext next told = absurd (cc)
install-done-is false n now ext next told = (cc)

install-full-is : (full : Bool) (at now : ℕ) (next : ExtNo)
    → install.Full at ≡ (if full then install.Full now else install.Installed now next) → at ≡ now
install-full-is true at now next told = (cc)
install-full-is false at now next told = absurd (cc)

install-explained : (old new : Session) (book : BookValue) (journal later : List Entry) (tenant : TenantId) (text : List ℕ) (program : Program) (given : Install)
    → Fits old journal book.grants → tenant_of old.admitted ≡ Some tenant → IsAccepted text program
    → given ≡ install_answer book.limit journal tenant (entry.Install tenant text)
    → InstallStands (journal ++ later) (entry.Install tenant text) given → new.admitted ≡ old.admitted → new.parked ≡ old.parked
    → new.seen ≡ seen_in_install old.seen (install_told given)
    → Explains (terms_over old book) (journal ++ later) (Stands old) new (request.Install text) (answer.Installed (install_told given))
install-explained old new book journal later tenant text program given fits tenanted accepted told there own parked shown = λ state stands. record {
  next = after_answer state (answer.Installed (install_told given)) state.kept;
  step = steps.installs tenant text given (stands.tenant ∙ tenanted) (record {
    program = program;
    accepted = accepted;
    moment = length journal;
    shown = at-now journal later state.seen (seen-by old state journal book.grants stands fits);
    told = now-in (λ (before : List Entry). given ≡ install_answer book.limit before tenant (entry.Install tenant text)) journal later told;
    stands = there;
  });
  stands = stands-after old new state (answer.Installed (install_told given)) stands own parked shown;
}

-- an accepted text is installed as the book does
pub install-planned : (old new : Session) (before after : BookValue) (journal : List Entry) (tenant : TenantId) (text : List ℕ) (program : Program) (given : Install) (now : ℕ)
    → IsOpen old → Fits old journal before.grants → tenant_of old.admitted ≡ Some tenant → KeepsFixed before after → IsAccepted text program
    → (given ≡ install.Memory) ⊎ (given ≡ install_answer before.limit journal tenant (entry.Install tenant text))
    → StandsFor after (after_install given journal (entry.Install tenant text))
    → now ≡ length (after_install given journal (entry.Install tenant text)) → new ≡ record old { seen = install_seen old.seen now given }
    → Planned old new before after journal (request.Install text) (plan.Send (answer.Installed (install_told given)))
install-planned old new before after journal tenant text program (install.Installed n ext) now ready fits tenanted fixed accepted is stands counted new_is =
    let own_entry : Entry = entry.Install tenant text in
    let told = told-by (install.Installed n ext) install.Memory (install_answer before.limit journal tenant own_entry) (λ memory. cc) is in
    let number : n ≡ length journal = install-done-is (is_full before.limit journal own_entry) n (length journal) ext (record { 0 = length (texts_of journal tenant) }) told in
    let longer : length (journal ++ own_entry ∷ []) ≡ length journal + 1 = length-append journal (own_entry ∷ []) in
    let seen : new.seen ≡ max old.seen (n + 1) = ap (λ (s : Session). s.seen) new_is ∙ ap (max old.seen) (counted ∙ longer ∙ ap (λ (m : ℕ). m + 1) (sym number)) in
    sends old new before after journal (own_entry ∷ []) (request.Install text) (answer.Installed (install_told (install.Installed n ext)))
    stands fixed (number, refl) fits (own-of old new _ new_is) (parked-of old new _ new_is) (ap (λ (s : Session). s.conf) new_is)
    (omega (arith, seen, number, longer, fits.seen)) (ap (λ (s : Session). s.phase) new_is ∙ ready) (ap (λ (s : Session). s.phase) new_is ∙ ready) tt
    (install-explained old new before journal (own_entry ∷ []) tenant text program (install.Installed n ext) fits tenanted accepted told
    (subst (λ (m : ℕ). slice_get (journal ++ own_entry ∷ []) m ≡ Some own_entry) (sym number) (slice_get-append_seam journal own_entry []))
    (own-of old new _ new_is) (parked-of old new _ new_is) seen)
install-planned old new before after journal tenant text program (install.Full at) now ready fits tenanted fixed accepted is stands counted new_is =
    let own_entry : Entry = entry.Install tenant text in
    let told = told-by (install.Full at) install.Memory (install_answer before.limit journal tenant own_entry) (λ memory. cc) is in
    let number : at ≡ length journal = install-full-is (is_full before.limit journal own_entry) at (length journal) (record { 0 = length (texts_of journal tenant) }) told in
    let seen : new.seen ≡ max old.seen at = ap (λ (s : Session). s.seen) new_is ∙ ap (max old.seen) (counted ∙ sym number) in
    sends old new before after journal [] (request.Install text) (answer.Installed (install_told (install.Full at)))
    (stands-nil after journal stands) fixed refl fits (own-of old new _ new_is) (parked-of old new _ new_is) (ap (λ (s : Session). s.conf) new_is)
    (omega (arith, seen, number, fits.seen, length-append journal [])) (ap (λ (s : Session). s.phase) new_is ∙ ready) (ap (λ (s : Session). s.phase) new_is ∙ ready) tt
    (install-explained old new before journal [] tenant text program (install.Full at) fits tenanted accepted told tt (own-of old new _ new_is) (parked-of old new _ new_is) seen)
install-planned old new before after journal tenant text program install.Memory now ready fits tenanted fixed accepted is stands counted new_is =
    let seen : new.seen ≡ old.seen = ap (λ (s : Session). s.seen) new_is in
    sends old new before after journal [] (request.Install text) (answer.Installed (install_told install.Memory))
    (stands-nil after journal stands) fixed refl fits (own-of old new _ new_is) (parked-of old new _ new_is) (ap (λ (s : Session). s.conf) new_is)
    (omega (arith, seen, fits.seen, length-append journal [])) (ap (λ (s : Session). s.phase) new_is ∙ ready) (ap (λ (s : Session). s.phase) new_is ∙ ready) tt
    (λ state was. record {
      next = state;
      step = steps.installs_nothing tenant text (was.tenant ∙ tenanted);
      stands = stands-still old new state was (own-of old new _ new_is) (parked-of old new _ new_is) seen;
    })
