-- What stays of live calls and of installed programs as the journal grows.
use Rattle.std.specs.Prelude.{◌==◌, slice_get, if◌then◌else◌}
use Rattle.std.specs.List.{AllByRecursion, AllZip}
use Rattle.std.proofs.Common.{◌≡◌, ◌≤◌, ℕ, zero, suc, Bool, true, false, List, [], ◌∷◌, ◌++◌, length, take, Some, None, refl, ap, sym, ◌∙◌, subst, append-nil, arith}
use Rattle.std.proofs.lemmas.Grind.{common_steps}
use Rattle.std.proofs.lemmas.List.{take-append-le}
use Rattle.sp_base.specs.declared.calls.Call.{Call}
use Rattle.sp_base.specs.declared.numbers.TenantId.{TenantId}
use Rattle.sp_base.specs.declared.reads.ReadItem.{ReadItem}
use Rattle.ext_mean.specs.declared.tree.Program.{Program}
use Rattle.ext_mean.specs.Views.{place_of}
use Rattle.ext_parse.proofs.OneProgram.{one-program}
use Rattle.journal.specs.declared.entry.Entry.{Entry}
use Rattle.journal.specs.declared.entry.Entry.TheVariants as entry
use Rattle.journal.specs.Folds.{tables_of, texts_of, version_of}
use Rattle.records.specs.GrantsList.{GrantsList}
use Rattle.journal.specs.Legal.{Names}
use Rattle.journal.specs.Reads.{IsHeld}
use Rattle.book.specs.Standing.{RanOn}
use Rattle.task.specs.Extensions.{ExtValue, IsExtension}
use Rattle.task.specs.Turning.{Live}
use Rattle.sim.specs.Counting.{AllLive}
use Rattle.sim.specs.Standing.{AreInstalled, IsLive}
use Rattle.sim.specs.State.{exts_of}
use Rattle.sim.proofs.Totals.{all-live-map}

-- ---- Texts and programs of a tenant

texts-one-by : (same : Bool) (text : List ℕ) (before behind last : List (List ℕ)) → behind ≡ before ++ last
    → (if same then text ∷ behind else behind) ≡ (if same then text ∷ before else before) ++ last
texts-one-by true text before behind last is = ap (λ (texts : List (List ℕ)). text ∷ texts) is
texts-one-by false text before behind last is = is

-- the texts of a journal with one more entry
texts-one : (journal : List Entry) (last : Entry) (tenant : TenantId)
    → texts_of (journal ++ last ∷ []) tenant ≡ texts_of journal tenant ++ texts_of (last ∷ []) tenant
texts-one [] last tenant = refl
texts-one (entry.Invoke call outcome writes reads home ∷ journal) last tenant = texts-one journal last tenant
texts-one (entry.Put putter table key value ∷ journal) last tenant = texts-one journal last tenant
texts-one (entry.Install installer text ∷ journal) last tenant =
    texts-one-by (installer.0 == tenant.0) text (texts_of journal tenant) (texts_of (journal ++ last ∷ []) tenant)
    (texts_of (last ∷ []) tenant) (texts-one journal last tenant)

exts-one-by : (same : Bool) (ext : ExtValue) (before behind last : List ExtValue) → behind ≡ before ++ last
    → (if same then ext ∷ behind else behind) ≡ (if same then ext ∷ before else before) ++ last
exts-one-by true ext before behind last is = ap (λ (exts : List ExtValue). ext ∷ exts) is
exts-one-by false ext before behind last is = is

exts-one : (installed : List (TenantId × ExtValue)) (last : TenantId × ExtValue) (tenant : TenantId)
    → exts_of (installed ++ last ∷ []) tenant ≡ exts_of installed tenant ++ exts_of (last ∷ []) tenant
exts-one [] last tenant = refl
exts-one (one ∷ installed) last tenant =
    exts-one-by (one.0.0 == tenant.0) one.1 (exts_of installed tenant) (exts_of (installed ++ last ∷ []) tenant)
    (exts_of (last ∷ []) tenant) (exts-one installed last tenant)

zip-joined : {A B : Type 0} (Holds : A → B → Type 0) (xs more : List A) (ys last : List B)
    → AllZip Holds xs ys → AllZip Holds more last → AllZip Holds (xs ++ more) (ys ++ last)
zip-joined Holds [] more [] last all tail = tail
zip-joined Holds [] more (y ∷ ys) last all tail = absurd all
zip-joined Holds (x ∷ xs) more [] last all tail = absurd all
zip-joined Holds (x ∷ xs) more (y ∷ ys) last all tail = (all.0, zip-joined Holds xs more ys last all.1 tail)

one-installed : (same : Bool) (text : List ℕ) (ext : ExtValue) → IsExtension text ext
    → AllZip IsExtension (if same then text ∷ [] else []) (if same then ext ∷ [] else [])
one-installed true text ext is = (is, tt)
one-installed false text ext is = tt

-- one more extension is installed
pub installed-more : (journal : List Entry) (installed : List (TenantId × ExtValue)) (tenant : TenantId) (text : List ℕ) (ext : ExtValue)
    → AreInstalled journal installed → IsExtension text ext
    → AreInstalled (journal ++ entry.Install tenant text ∷ []) (installed ++ (tenant, ext) ∷ [])
installed-more journal installed tenant text ext are is other =
    rw (texts-one journal (entry.Install tenant text) other, exts-one installed (tenant, ext) other)
    (zip-joined IsExtension (texts_of journal other) (texts_of (entry.Install tenant text ∷ []) other)
    (exts_of installed other) (exts_of ((tenant, ext) ∷ []) other) (are other)
    (one-installed (tenant.0 == other.0) text ext is))

-- an entry that installs nothing
abbrev pub InstallsNothing : Entry → Type 0
InstallsNothing last = (tenant : TenantId) → texts_of (last ∷ []) tenant ≡ []

pub installed-grown : (journal : List Entry) (last : Entry) (installed : List (TenantId × ExtValue)) → InstallsNothing last
    → AreInstalled journal installed → AreInstalled (journal ++ last ∷ []) installed
installed-grown journal last installed nothing are tenant =
    let same : texts_of (journal ++ last ∷ []) tenant ≡ texts_of journal tenant =
    texts-one journal last tenant ∙ ap (λ (more : List (List ℕ)). texts_of journal tenant ++ more) (nothing tenant)
    ∙ append-nil (texts_of journal tenant) in
    subst (λ (texts : List (List ℕ)). AllZip IsExtension texts (exts_of installed tenant)) (sym same) (are tenant)

-- ---- Live calls

kept-at : {A : Type 0} (xs ys : List A) (i : ℕ) (x : A) → slice_get xs i ≡ Some x → slice_get (xs ++ ys) i ≡ Some x
kept-at [] ys i x is = absurd cc
kept-at (y ∷ xs) ys zero x is = is
kept-at (y ∷ xs) ys (suc i) x is = kept-at xs ys i x is

names-grown : (journal : List Entry) (last : Entry) (call : Call) (program : Program) → Names journal call program
    → Names (journal ++ last ∷ []) call program
names-grown journal last call program names = record {
  text = names.text;
  found = ap (λ (texts : List (List ℕ)). slice_get texts call.ext.0) (texts-one journal last call.caller.tenant)
      ∙ kept-at (texts_of journal call.caller.tenant) (texts_of (last ∷ []) call.caller.tenant) call.ext.0 names.text names.found;
  spelled = names.spelled;
}

held-grown : (journal : List Entry) (last : Entry) (read : ReadItem) → IsHeld journal read → IsHeld (journal ++ last ∷ []) read
held-grown journal last read held =
    let same : take read.read_at (journal ++ last ∷ []) ≡ take read.read_at journal = take-append-le read.read_at journal (last ∷ []) held.by_then in
    record {
      by_then = grind (arith, common_steps, held.by_then);
      version = held.version ∙ ap (λ (before : List Entry). version_of before (place_of read)) (sym same);
      value = held.value ∙ ap (λ (before : List Entry). tables_of before (place_of read)) (sym same);
    }

all-held-grown : (journal : List Entry) (last : Entry) (reads : List ReadItem) → AllByRecursion (IsHeld journal) reads
    → AllByRecursion (IsHeld (journal ++ last ∷ [])) reads
all-held-grown journal last [] held = tt
all-held-grown journal last (read ∷ reads) held = (held-grown journal last read held.0, all-held-grown journal last reads held.1)

live-grown : (grants : GrantsList) (journal : List Entry) (last : Entry) (live : Live) → IsLive grants journal live
    → IsLive grants (journal ++ last ∷ []) live
live-grown grants journal last live is =
    let ran : RanOn grants (journal ++ last ∷ []) live.call live.ext.program live.rights live.reads = record {
      held = all-held-grown journal last live.reads is.ran.held;
      named = names-grown journal last live.call live.ext.program is.ran.named;
      own = is.ran.own;
    } in
    record { ready = is.ready; ran = ran }

pub all-live-grown : (grants : GrantsList) (journal : List Entry) (last : Entry) (queues : List (List Live))
    → AllLive (IsLive grants journal) queues → AllLive (IsLive grants (journal ++ last ∷ [])) queues
all-live-grown grants journal last queues all =
    all-live-map (IsLive grants journal) (IsLive grants (journal ++ last ∷ [])) (live-grown grants journal last) queues all

-- ---- Looking an extension up

pub zip-length : {A B : Type 0} (Holds : A → B → Type 0) (xs : List A) (ys : List B) → AllZip Holds xs ys → length xs ≡ length ys
zip-length Holds [] [] all = refl
zip-length Holds [] (y ∷ ys) all = absurd all
zip-length Holds (x ∷ xs) [] all = absurd all
zip-length Holds (x ∷ xs) (y ∷ ys) all = ap suc (zip-length Holds xs ys all.1)

-- the extension of the text at a place
pub record HasExtension (exts : List ExtValue) (at : ℕ) (text : List ℕ) : Type 0 where
  pub ext : ExtValue
  pub found : slice_get exts at ≡ Some ext
  pub is : IsExtension text ext

pub extension-at : (texts : List (List ℕ)) (exts : List ExtValue) (at : ℕ) (text : List ℕ) → AllZip IsExtension texts exts
    → slice_get texts at ≡ Some text → HasExtension exts at text
extension-at [] exts at text all found = absurd cc
extension-at (first ∷ texts) [] at text all found = absurd all
extension-at (first ∷ texts) (ext ∷ exts) zero text all found =
    let same : first ≡ text = cc in
    record { ext = ext; found = refl; is = subst (λ (t : List ℕ). IsExtension t ext) same all.0 }
extension-at (first ∷ texts) (ext ∷ exts) (suc at) text all found =
    let behind = extension-at texts exts at text all.1 found in
    record { ext = behind.ext; found = behind.found; is = behind.is }

-- a text has one extension
pub one-extension : (text : List ℕ) (ext other : ExtValue) → IsExtension text ext → IsExtension text other → ext ≡ other
one-extension text ext other one another =
    let programs : ext.program ≡ other.program =
    (one-program text ext.program other.program one.accepted.spelled.0 another.accepted.spelled.0
    one.accepted.spelled.1 another.accepted.spelled.1).0 in
    ap (λ (t : List ℕ). let e : ExtValue = record { text = t; program = ext.program } in e) (one.text_is ∙ sym another.text_is)
    ∙ ap (λ (p : Program). let e : ExtValue = record { text = other.text; program = p } in e) programs

pub none-past : {A : Type 0} (xs : List A) (at : ℕ) → length xs ≤ at → slice_get xs at ≡ None
none-past [] at past = refl
none-past (x ∷ xs) zero past = absurd (omega arith)
none-past (x ∷ xs) (suc at) past = none-past xs at (omega arith)
