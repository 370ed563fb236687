-- Answers are read exactly.
use Rattle.std.proofs.Common.{◌≡◌, ℕ, ◌-◌, inl, inr, List, ◌++◌, length, take, drop, Ok, Err, refl, sym, ap, ◌∙◌, arith}
use Rattle.std.proofs.lemmas.List.{take-append-drop}
use Rattle.wire.specs.declared.answers.Answer.{Answer}
use Rattle.wire.specs.declared.answers.Answer.TheVariants.{Welcome, Installed, Answers, Fetched, Finished, PutDone, Text, Fault}
use Rattle.wire.specs.declared.answers.FetchAnswer.{FetchAnswer}
use Rattle.wire.specs.declared.answers.FetchAnswer.TheVariants as fetched
use Rattle.wire.specs.declared.answers.InstallAnswer.{InstallAnswer}
use Rattle.wire.specs.declared.answers.InstallAnswer.TheVariants as installed
use Rattle.wire.specs.declared.answers.PutAnswer.{PutAnswer}
use Rattle.wire.specs.declared.answers.PutAnswer.TheVariants as puts
use Rattle.wire.specs.declared.answers.TextAnswer.{TextAnswer}
use Rattle.wire.specs.declared.answers.TextAnswer.TheVariants as texts
use Rattle.wire.specs.Readers.{all_of}
use Rattle.wire.specs.Fields.{read_at}
use Rattle.wire.specs.Messages.{installed_at, rejected_at, install_answer_at, found_at, fetch_answer_at, put_answer_at, absent_at, text_answer_at, welcome_at, answer_at}
use Rattle.wire.specs.Answers.{install_answer, FitsInstallAnswer, fetch_answer, FitsFetchAnswer, put_answer, FitsPutAnswer, text_answer, FitsTextAnswer, answer, FitsAnswer, SpellsAnswer, LongestAnswer}
use Rattle.wire.proofs.Formats.{IsBytes, Reads, Format, Shows, Makes, bind_reads, made_reads, done_reads, as_format, format_of}
use Rattle.wire.proofs.Choices.{arms, no_arms, tagged_reads}
use Rattle.wire.proofs.Parts.{u32_any, u64_any, opt_reads}
use Rattle.wire.proofs.Tables.{rights_reads}
use Rattle.wire.proofs.Asking.{text_reads}
use Rattle.wire.proofs.Answering.{code_reads, items_reads, parked_item_reads}
use Rattle.wire.proofs.Ends.{all_found, all_again, all_begins, all_furthest, front_is, not_further}

-- ---- answers of one request

abbrev installed_format : Format InstallAnswer
installed_format = format_of (bind_reads _ u64_any (λ n f. made_reads (λ ext. installed.Done n (record { 0 = ext })) u32_any))

installed_reads : Reads installed_at installed_format.make installed_format.spell installed_format.Fits
unfolding installed_at
installed_reads = installed_format.reads

abbrev rejected_format : Format InstallAnswer
rejected_format = format_of (bind_reads _ u32_any (λ line f. made_reads (λ code. installed.Rejected line code) (code_reads 1 16 (omega arith))))

rejected_reads : Reads rejected_at rejected_format.make rejected_format.spell rejected_format.Fits
unfolding rejected_at
rejected_reads = rejected_format.reads

abbrev install_format : Format InstallAnswer
install_format = format_of (tagged_reads (inr (inr (inr (inl tt)))) tt
    (arms 0 (omega arith) installed_reads
    (arms 1 (omega arith) rejected_reads
    (arms 2 (omega arith) (made_reads (λ at. installed.Full at) u64_any)
    (arms 3 (omega arith) (done_reads installed.Memory) (no_arms 4))))))

install_to : (m : InstallAnswer) → FitsInstallAnswer m → Shows install_format install_answer m
install_to (installed.Done n ext) f = (inl (n, ext.0), refl, f, refl)
install_to (installed.Rejected line code) f = (inr (inl (line, code)), refl, f, refl)
install_to (installed.Full at) f = (inr (inr (inl at)), refl, f, refl)
install_to installed.Memory f = (inr (inr (inr (inl tt))), refl, tt, refl)

install_from : (x : install_format.Source) → install_format.Fits x → Makes install_format install_answer FitsInstallAnswer x
install_from (inl x) f = (f, refl)
install_from (inr (inl x)) f = (f, refl)
install_from (inr (inr (inl x))) f = (f, refl)
install_from (inr (inr (inr (inl x)))) f = (f, refl)
install_from (inr (inr (inr (inr x)))) f = absurd x

install_answer_reads : Reads install_answer_at (λ m. m) install_answer FitsInstallAnswer
unfolding install_answer_at
install_answer_reads = as_format install_format install_answer FitsInstallAnswer install_to install_from

abbrev found_format : Format FetchAnswer
found_format = format_of (bind_reads _ u64_any (λ version f. bind_reads _ u64_any (λ read_at g. made_reads (λ value. fetched.Found version read_at value) opt_reads)))

found_reads : Reads found_at found_format.make found_format.spell found_format.Fits
unfolding found_at
found_reads = found_format.reads

abbrev fetch_format : Format FetchAnswer
fetch_format = format_of (tagged_reads (inr (inl tt)) tt
    (arms 0 (omega arith) found_reads
    (arms 1 (omega arith) (done_reads fetched.Denied)
    (arms 2 (omega arith) (done_reads fetched.NotParked)
    (arms 3 (omega arith) (done_reads fetched.Memory)
    (arms 4 (omega arith) (done_reads fetched.Many) (no_arms 5)))))))

fetch_to : (m : FetchAnswer) → FitsFetchAnswer m → Shows fetch_format fetch_answer m
fetch_to (fetched.Found version read_at value) f = (inl (version, (read_at, value)), refl, f, refl)
fetch_to fetched.Denied f = (inr (inl tt), refl, tt, refl)
fetch_to fetched.NotParked f = (inr (inr (inl tt)), refl, tt, refl)
fetch_to fetched.Memory f = (inr (inr (inr (inl tt))), refl, tt, refl)
fetch_to fetched.Many f = (inr (inr (inr (inr (inl tt)))), refl, tt, refl)

fetch_from : (x : fetch_format.Source) → fetch_format.Fits x → Makes fetch_format fetch_answer FitsFetchAnswer x
fetch_from (inl x) f = (f, refl)
fetch_from (inr (inl x)) f = (f, refl)
fetch_from (inr (inr (inl x))) f = (f, refl)
fetch_from (inr (inr (inr (inl x)))) f = (f, refl)
fetch_from (inr (inr (inr (inr (inl x))))) f = (f, refl)
fetch_from (inr (inr (inr (inr (inr x))))) f = absurd x

fetch_answer_reads : Reads fetch_answer_at (λ m. m) fetch_answer FitsFetchAnswer
unfolding fetch_answer_at
fetch_answer_reads = as_format fetch_format fetch_answer FitsFetchAnswer fetch_to fetch_from

abbrev put_format : Format PutAnswer
put_format = format_of (tagged_reads (inr (inl tt)) tt
    (arms 0 (omega arith) (made_reads (λ n. puts.Done n) u64_any)
    (arms 1 (omega arith) (done_reads puts.Denied)
    (arms 2 (omega arith) (made_reads (λ at. puts.Full at) u64_any)
    (arms 3 (omega arith) (done_reads puts.Memory) (no_arms 4))))))

put_to : (m : PutAnswer) → FitsPutAnswer m → Shows put_format put_answer m
put_to (puts.Done n) f = (inl n, refl, f, refl)
put_to puts.Denied f = (inr (inl tt), refl, tt, refl)
put_to (puts.Full at) f = (inr (inr (inl at)), refl, f, refl)
put_to puts.Memory f = (inr (inr (inr (inl tt))), refl, tt, refl)

put_from : (x : put_format.Source) → put_format.Fits x → Makes put_format put_answer FitsPutAnswer x
put_from (inl x) f = (f, refl)
put_from (inr (inl x)) f = (f, refl)
put_from (inr (inr (inl x))) f = (f, refl)
put_from (inr (inr (inr (inl x)))) f = (f, refl)
put_from (inr (inr (inr (inr x)))) f = absurd x

put_answer_reads : Reads put_answer_at (λ m. m) put_answer FitsPutAnswer
unfolding put_answer_at
put_answer_reads = as_format put_format put_answer FitsPutAnswer put_to put_from

abbrev absent_format : Format TextAnswer
absent_format = format_of (bind_reads _ u32_any (λ count f. made_reads (λ at. texts.NoExtension count at) u64_any))

absent_reads : Reads absent_at absent_format.make absent_format.spell absent_format.Fits
unfolding absent_at
absent_reads = absent_format.reads

abbrev text_format : Format TextAnswer
text_format = format_of (tagged_reads (inr (inr (inl tt))) tt
    (arms 0 (omega arith) (made_reads (λ text. texts.Text text) text_reads)
    (arms 1 (omega arith) absent_reads
    (arms 3 (omega arith) (done_reads texts.Memory) (no_arms 4)))))

text_to : (m : TextAnswer) → FitsTextAnswer m → Shows text_format text_answer m
text_to (texts.Text text) f = (inl text, refl, f, refl)
text_to (texts.NoExtension count at) f = (inr (inl (count, at)), refl, f, refl)
text_to texts.Memory f = (inr (inr (inl tt)), refl, tt, refl)

text_from : (x : text_format.Source) → text_format.Fits x → Makes text_format text_answer FitsTextAnswer x
text_from (inl x) f = (f, refl)
text_from (inr (inl x)) f = (f, refl)
text_from (inr (inr (inl x))) f = (f, refl)
text_from (inr (inr (inr x))) f = absurd x

text_answer_reads : Reads text_answer_at (λ m. m) text_answer FitsTextAnswer
unfolding text_answer_at
text_answer_reads = as_format text_format text_answer FitsTextAnswer text_to text_from

-- ---- answers

abbrev welcome_format : Format Answer
welcome_format = format_of (bind_reads _ rights_reads (λ granted f. made_reads (λ at. Welcome granted at) u64_any))

welcome_reads : Reads welcome_at welcome_format.make welcome_format.spell welcome_format.Fits
unfolding welcome_at
welcome_reads = welcome_format.reads

abbrev answer_format : Format Answer
answer_format = format_of (tagged_reads (inl welcome_reads.some.0) welcome_reads.some.1
    (arms 65 (omega arith) welcome_reads
    (arms 66 (omega arith) (made_reads (λ given. Installed given) install_answer_reads)
    (arms 67 (omega arith) (made_reads (λ items. Answers items) items_reads)
    (arms 68 (omega arith) (made_reads (λ given. Fetched given) fetch_answer_reads)
    (arms 69 (omega arith) (made_reads (λ ended. Finished ended) parked_item_reads)
    (arms 70 (omega arith) (made_reads (λ given. PutDone given) put_answer_reads)
    (arms 71 (omega arith) (made_reads (λ given. Text given) text_answer_reads)
    (arms 72 (omega arith) (made_reads (λ code. Fault code) (code_reads 1 5 (omega arith))) (no_arms 73))))))))))

answer_to : (m : Answer) → FitsAnswer m → Shows answer_format answer m
answer_to (Welcome granted at) f = (inl (granted, at), refl, f, refl)
answer_to (Installed given) f = (inr (inl given), refl, f, refl)
answer_to (Answers items) f = (inr (inr (inl items)), refl, f, refl)
answer_to (Fetched given) f = (inr (inr (inr (inl given))), refl, f, refl)
answer_to (Finished ended) f = (inr (inr (inr (inr (inl ended)))), refl, f, refl)
answer_to (PutDone given) f = (inr (inr (inr (inr (inr (inl given))))), refl, f, refl)
answer_to (Text given) f = (inr (inr (inr (inr (inr (inr (inl given)))))), refl, f, refl)
answer_to (Fault code) f = (inr (inr (inr (inr (inr (inr (inr (inl code))))))), refl, f, refl)

answer_from : (x : answer_format.Source) → answer_format.Fits x → Makes answer_format answer FitsAnswer x
answer_from (inl x) f = (f, refl)
answer_from (inr (inl x)) f = (f, refl)
answer_from (inr (inr (inl x))) f = (f, refl)
answer_from (inr (inr (inr (inl x)))) f = (f, refl)
answer_from (inr (inr (inr (inr (inl x))))) f = (f, refl)
answer_from (inr (inr (inr (inr (inr (inl x)))))) f = (f, refl)
answer_from (inr (inr (inr (inr (inr (inr (inl x))))))) f = (f, refl)
answer_from (inr (inr (inr (inr (inr (inr (inr (inl x)))))))) f = (f, refl)
answer_from (inr (inr (inr (inr (inr (inr (inr (inr x)))))))) f = absurd x

pub answer_reads : Reads answer_at (λ m. m) answer FitsAnswer
unfolding answer_at
answer_reads = as_format answer_format answer FitsAnswer answer_to answer_from

-- ---- whole bodies

pub answer_found : (body : List ℕ) (m : Answer) → IsBytes body → all_of answer_at body ≡ Ok m → SpellsAnswer body m
answer_found body m fits e =
    let f = all_found answer_reads body m fits e in
    record { fits = f.0; spelled = f.1 }

pub answer_again : (body : List ℕ) (m : Answer) → SpellsAnswer body m → all_of answer_at body ≡ Ok m
answer_again body m s = ap (all_of answer_at) s.spelled ∙ all_again answer_reads m s.fits

pub answer_longest : (body : List ℕ) (left : ℕ) → IsBytes body → all_of answer_at body ≡ Err left → LongestAnswer body (length body - left)
answer_longest body left fits e =
    let b = all_begins answer_reads body left fits e in
    let front : take (length body - left) body ≡ b.front = front_is body b.front b.back left b.parts b.last in
    record {
      within = omega arith;
      begins = record { message = b.value; fits = b.fits; more = b.more; spelled = b.spelled ∙ ap (λ (t : List ℕ). t ++ b.more) (sym front) };
      longest = λ k le begun. not_further body k left le
          (all_furthest answer_reads body left fits e begun.message (take k body) (drop k body) begun.more begun.fits (sym (take-append-drop k body)) begun.spelled);
    }
