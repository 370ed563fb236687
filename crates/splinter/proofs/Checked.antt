-- What a check leaves, by what is to be written and what was.
use Rattle.std.specs.Prelude.{IfSome}
use Rattle.std.proofs.lemmas.Fmt.{decimal_digit}
use Rattle.std.proofs.Common.{◌≡◌, ◌<◌, ℕ, List, [], ◌∷◌, ◌++◌, ap, codes, Option, Some, None, length, sym, subst, inl, inr, arith}
use Rattle.sp_outside.specs.Reading.{IsLongerInput, IsWholeInput}
use Rattle.ext_mean.specs.declared.codes.SyntaxCode.TheVariants as code
use Rattle.ext_mean.specs.declared.refusal.Refusal.TheVariants as refusal
use Rattle.ext_mean.specs.SyntaxFaults.{large}
use Rattle.ext_check.specs.Checking.{by_syntax}
use Rattle.ext_check.proofs.OneRefusal.{one-refusal}
use Rattle.splinter.specs.declared.status.Status.{Status}
use Rattle.splinter.specs.declared.status.Status.TheVariants as status
use Rattle.splinter.specs.Checks.{Checks, IsRefusal, IsVerdict, refused_line}
use Rattle.splinter.specs.Ending.{WritesText}

-- a verdict that was written, of an input of which nothing is left
checked : (result stands : Status) (input text held : List ℕ) (left after : Option (List ℕ)) → left ≡ Some [] → IsVerdict input stands text
    → WritesText result stands held text after → Checks result input held left after
checked result status.Ok input text held left after ended is (inl h) =
    subst (λ (s : Status). Checks s input held left after) (sym h.status_is)
    (record { text = text; accepts = is; ended = ended; written = h.written })
checked result status.Ok input text held left after ended is (inr h) =
    subst (λ (s : Status). Checks s input held left after) (sym h.status_is)
    (record { text = text; text_is = inl is; prefix = h.prefix })
checked result status.Refused input text held left after ended is (inl h) =
    subst (λ (s : Status). Checks s input held left after) (sym h.status_is)
    (record { text = text; refuses = is; written = h.written })
checked result status.Refused input text held left after ended is (inr h) =
    subst (λ (s : Status). Checks s input held left after) (sym h.status_is)
    (record { text = text; text_is = inr is; prefix = h.prefix })
checked result status.Usage input text held left after ended is written = absurd is
checked result status.Script input text held left after ended is written = absurd is
checked result status.ReadFault input text held left after ended is written = absurd is
checked result status.WriteFault input text held left after ended is written = absurd is
checked result status.Memory input text held left after ended is written = absurd is

-- the same where source and sink may not tell their content
pub told-checked : (before left held after : Option (List ℕ)) (bytes text : List ℕ) (result stands : Status) → IfSome before (λ input. IsWholeInput bytes input left)
    → IsVerdict bytes stands text → IfSome held (λ there. WritesText result stands there text after)
    → IfSome before (λ input. IfSome held (λ there. Checks result input there left after))
told-checked None left held after bytes text result stands whole is written = tt
told-checked (Some input) left None after bytes text result stands whole is written = tt
told-checked (Some input) left (Some there) after bytes text result stands whole is written =
    checked result stands input text there left after whole.nothing (subst (λ (b : List ℕ). IsVerdict b stands text) whole.whole is) written

-- the line of an input that is too long
abbrev pub long_line : List ℕ
long_line = codes "line 1 Long" ++ 10 ∷ []

long-line : long_line ≡ refused_line 1 (refusal.Syntax code.Long)
long-line = ap (λ digits. codes "line " ++ (digits ++ 32 ∷ (codes "Long" ++ 10 ∷ []))) (sym (decimal_digit 1 (omega arith)))

-- an input that is too long is refused at its first line
pub too-long : (input : List ℕ) → 16384 < length input → IsRefusal input long_line
too-long input more = record {
  line = 1;
  which = refusal.Syntax code.Long;
  refused = by_syntax (large more);
  one = λ other another refused. one-refusal input other 1 another (refusal.Syntax code.Long) refused (by_syntax (large more));
  none = λ program accepted. absurd (omega (arith, more, accepted.spelled.1.reading.size));
  text_is = long-line;
}

pub told-too-long : (before left held after : Option (List ℕ)) (result : Status) → IfSome before (λ input. IsLongerInput 16384 input left)
    → IfSome held (λ there. WritesText result status.Refused there long_line after)
    → IfSome before (λ input. IfSome held (λ there. Checks result input there left after))
told-too-long None left held after result longer written = tt
told-too-long (Some input) left None after result longer written = tt
told-too-long (Some input) left (Some there) after result longer (inl h) =
    subst (λ (s : Status). Checks s input there left after) (sym h.status_is)
    (record { text = long_line; refuses = too-long input longer.more; written = h.written })
told-too-long (Some input) left (Some there) after result longer (inr h) =
    subst (λ (s : Status). Checks s input there left after) (sym h.status_is)
    (record { text = long_line; text_is = inr (too-long input longer.more); prefix = h.prefix })
