-- What a run leaves, by what is to be written and what was.
use Rattle.std.specs.Prelude.{IfSome}
use Rattle.std.proofs.lemmas.Bool.{lt-ltb}
use Rattle.std.proofs.lemmas.Fmt.{decimal_digit}
use Rattle.std.proofs.Common.{◌≡◌, ◌<◌, ◌⊎◌, ℕ, List, [], ◌∷◌, ◌++◌, ap, codes, Option, Some, None, Err, length, sym, refl, subst, inl, inr, arith}
use Rattle.sp_outside.specs.Reading.{IsLongerInput, IsWholeInput}
use Rattle.report.specs.Lines.{line_of}
use Rattle.sched_text.specs.declared.code.LineCode.TheVariants as code
use Rattle.sched_text.specs.declared.line.Kind.TheVariants as kind
use Rattle.sched_text.specs.Judged.{judged}
use Rattle.splinter.specs.declared.status.Status.{Status}
use Rattle.splinter.specs.declared.status.Status.TheVariants as status
use Rattle.splinter.specs.Ending.{WritesText}
use Rattle.splinter.specs.Running.{IsRefused, IsRunVerdict, JudgesScript, Runs, bad_line}

-- a verdict that was written, of an input of which nothing is left
ran : (result stands : Status) (input text held : List ℕ) (left after : Option (List ℕ)) → left ≡ Some [] → IsRunVerdict input stands text
    → WritesText result stands held text after → Runs result input held left after
ran result status.Ok input text held left after ended is (inl h) =
    subst (λ (s : Status). Runs s input held left after) (sym h.status_is)
    (record { text = text; played = is; ended = ended; written = h.written })
ran result status.Ok input text held left after ended is (inr h) =
    subst (λ (s : Status). Runs s input held left after) (sym h.status_is)
    (record { text = text; text_is = inl is; prefix = h.prefix })
ran result status.Script input text held left after ended is (inl h) =
    subst (λ (s : Status). Runs s input held left after) (sym h.status_is)
    (record { text = text; refused = is; written = h.written })
ran result status.Script input text held left after ended is (inr h) =
    subst (λ (s : Status). Runs s input held left after) (sym h.status_is)
    (record { text = text; text_is = inr is; prefix = h.prefix })
ran result status.Usage input text held left after ended is written = absurd is
ran result status.Refused input text held left after ended is written = absurd is
ran result status.ReadFault input text held left after ended is written = absurd is
ran result status.WriteFault input text held left after ended is written = absurd is
ran result status.Memory input text held left after ended is written = absurd is

-- the same where source and sink may not tell their content
pub told-ran : (before left held after : Option (List ℕ)) (bytes text : List ℕ) (result stands : Status) → IfSome before (λ input. IsWholeInput bytes input left)
    → IsRunVerdict bytes stands text → IfSome held (λ there. WritesText result stands there text after)
    → IfSome before (λ input. IfSome held (λ there. Runs result input there left after))
told-ran None left held after bytes text result stands whole is written = tt
told-ran (Some input) left None after bytes text result stands whole is written = tt
told-ran (Some input) left (Some there) after bytes text result stands whole is written =
    ran result stands input text there left after whole.nothing (subst (λ (b : List ℕ). IsRunVerdict b stands text) whole.whole is) written

-- the status tells what the verdict is
verdict-judged : (result stands : Status) (input text : List ℕ) → IsRunVerdict input stands text
    → (result ≡ stands) ⊎ (result ≡ status.WriteFault) → JudgesScript result input
verdict-judged result status.Ok input text is (inl e) = subst (λ (s : Status). JudgesScript s input) (sym e) (text, is)
verdict-judged result status.Script input text is (inl e) = subst (λ (s : Status). JudgesScript s input) (sym e) (text, is)
verdict-judged result status.Usage input text is (inl e) = absurd is
verdict-judged result status.Refused input text is (inl e) = absurd is
verdict-judged result status.ReadFault input text is (inl e) = absurd is
verdict-judged result status.WriteFault input text is (inl e) = absurd is
verdict-judged result status.Memory input text is (inl e) = absurd is
verdict-judged result stands input text is (inr e) = subst (λ (s : Status). JudgesScript s input) (sym e) tt

pub told-judged : (before left : Option (List ℕ)) (bytes text : List ℕ) (result stands : Status) → IfSome before (λ input. IsWholeInput bytes input left)
    → IsRunVerdict bytes stands text → (result ≡ stands) ⊎ (result ≡ status.WriteFault) → IfSome before (λ input. JudgesScript result input)
told-judged None left bytes text result stands whole is ends = tt
told-judged (Some input) left bytes text result stands whole is ends =
    verdict-judged result stands input text (subst (λ (b : List ℕ). IsRunVerdict b stands text) whole.whole is) ends

-- ---- an input that is too long

abbrev pub long_line : List ℕ
long_line = codes "script 0 Long" ++ 10 ∷ []

-- the line of the bad line with these digits
abbrev bad_line_of : List ℕ → List ℕ
bad_line_of digits = line_of (codes "script") (digits ∷ codes "Long" ∷ [])

long-line : long_line ≡ bad_line 0 code.Long
long-line = ap (λ (digits : List ℕ). bad_line_of digits) (sym (decimal_digit 0 (omega arith)))

long-judged : (input : List ℕ) → 4194304 < length input → judged kind.Play input ≡ Err (0, code.Long)
unfolding judged
long-judged input more = let test = lt-ltb 4194304 (length input) more in rw test refl

too-long : (input : List ℕ) → 4194304 < length input → IsRefused input long_line
too-long input more = record { line = 0; code = code.Long; bad = long-judged input more; text_is = long-line }

pub told-too-long : (before left held after : Option (List ℕ)) (result : Status) → IfSome before (λ input. IsLongerInput 4194304 input left)
    → IfSome held (λ there. WritesText result status.Script there long_line after)
    → IfSome before (λ input. IfSome held (λ there. Runs result input there left after))
told-too-long None left held after result longer written = tt
told-too-long (Some input) left None after result longer written = tt
told-too-long (Some input) left (Some there) after result longer (inl h) =
    subst (λ (s : Status). Runs s input there left after) (sym h.status_is)
    (record { text = long_line; refused = too-long input longer.more; written = h.written })
told-too-long (Some input) left (Some there) after result longer (inr h) =
    subst (λ (s : Status). Runs s input there left after) (sym h.status_is)
    (record { text = long_line; text_is = inr (too-long input longer.more); prefix = h.prefix })

pub longer-judged : (before left : Option (List ℕ)) (result : Status) → IfSome before (λ input. IsLongerInput 4194304 input left)
    → (result ≡ status.Script) ⊎ (result ≡ status.WriteFault) → IfSome before (λ input. JudgesScript result input)
longer-judged None left result longer ends = tt
longer-judged (Some input) left result longer (inl e) =
    subst (λ (s : Status). JudgesScript s input) (sym e) (long_line, too-long input longer.more)
longer-judged (Some input) left result longer (inr e) = subst (λ (s : Status). JudgesScript s input) (sym e) tt
