-- What a call of an adapter does to a stream of the standard library whose bytes are known.
use Rattle.std.specs.Prelude.{ℕ, Option, List, [], take}
use Rattle.std.specs.Io.KnownBytes.{Consumes, Appends, Keeps, IsAtEnd}
use Rattle.sp_outside.specs.declared.sink.Wrote.{Wrote}
use Rattle.sp_outside.specs.declared.sink.Wrote.TheVariants as wrote
use Rattle.sp_outside.specs.declared.source.Took.{Took}
use Rattle.sp_outside.specs.declared.source.Took.TheVariants as took

-- the bytes that came are the reader's next, and the end is the reader's
abbrev pub ReadsOn : Took → Option (List ℕ) → Option (List ℕ) → List ℕ → Type 0
ReadsOn (took.Bytes n) before after into = Consumes before after (take n into)
ReadsOn took.End before after into = Consumes before after [] × IsAtEnd after
ReadsOn took.Failed before after into = Keeps before after

-- the bytes that were taken went to the writer
abbrev pub WritesOn : Wrote → Option (List ℕ) → Option (List ℕ) → List ℕ → Type 0
WritesOn (wrote.Bytes n) before after piece = Appends before after (take n piece)
WritesOn wrote.Failed before after piece = Keeps before after
