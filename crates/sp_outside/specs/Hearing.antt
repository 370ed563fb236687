-- What a link has heard and said, by the answer of a call, and what a link is when it is handed out.
use Rattle.std.specs.Prelude.{◌≡◌, ℕ, ◌+◌, ◌<◌, ◌≤◌, Option, Some, None, IfSome, List, [], ◌++◌, length, take}
use Rattle.sp_outside.specs.declared.input.Input.{Input}
use Rattle.sp_outside.specs.declared.input.Input.TheVariants as input
use Rattle.sp_outside.specs.declared.output.Written.{Written}
use Rattle.sp_outside.specs.declared.output.Written.TheVariants as written
use Rattle.sp_outside.specs.declared.sink.Wrote.{Wrote}
use Rattle.sp_outside.specs.declared.sink.Wrote.TheVariants as wrote
use Rattle.sp_outside.specs.declared.source.Took.{Took}
use Rattle.sp_outside.specs.declared.source.Took.TheVariants as took

-- bytes that are told, with more behind them; what is not told stays so
abbrev pub with_more : Option (List ℕ) → List ℕ → Option (List ℕ)
with_more None more = None
with_more (Some bytes) more = Some (bytes ++ more)

-- what was heard once a call took bytes into the front of `into`
abbrev pub heard_after : Took → List ℕ → Option (List ℕ) → Option (List ℕ)
heard_after (took.Bytes n) into heard = with_more heard (take n into)
heard_after took.End into heard = heard
heard_after took.Failed into heard = heard

-- what was said once a call put bytes from the front of a piece
abbrev pub said_after : Wrote → List ℕ → Option (List ℕ) → Option (List ℕ)
said_after (wrote.Bytes n) piece said = with_more said (take n piece)
said_after wrote.Failed piece said = said

-- no more than so many bytes were heard behind those before
pub record HeardUpTo (most : ℕ) (heard after : Option (List ℕ)) : Type 0 where
  pub more : List ℕ
  pub few : length more ≤ most
  pub behind : after ≡ with_more heard more

-- what was heard while a link was read to its end
abbrev pub HearsAll : Input → ℕ → Option (List ℕ) → Option (List ℕ) → Type 0
HearsAll (input.Whole bytes) most heard after = after ≡ with_more heard bytes.items
HearsAll input.Longer most heard after = HeardUpTo (most + 1) heard after
HearsAll input.Failed most heard after = HeardUpTo most heard after
HearsAll input.Memory most heard after = HeardUpTo (most + 1) heard after

-- a prefix of a piece was said, and not all of it
pub record SaidPrefix (piece : List ℕ) (said after : Option (List ℕ)) : Type 0 where
  pub taken : ℕ
  pub short : taken < length piece
  pub prefix : after ≡ with_more said (take taken piece)

-- what was said while a whole piece was put to a link
abbrev pub SaysAll : Written → List ℕ → Option (List ℕ) → Option (List ℕ) → Type 0
SaysAll written.Whole piece said after = after ≡ with_more said piece
SaysAll written.Failed piece said after = SaidPrefix piece said after

-- a link that never failed, and, where it tells them, nothing was heard and nothing said
pub record IsFresh (faults : ℕ) (heard said : Option (List ℕ)) : Type 0 where
  pub no_fault : faults ≡ 0
  pub none_heard : IfSome heard (λ bytes. bytes ≡ [])
  pub none_said : IfSome said (λ bytes. bytes ≡ [])

-- of a link in memory, by how many bytes came, what it holds and its faults: none, nothing and none
pub record IsUnused (at : ℕ) (held : List ℕ) (faults : ℕ) : Type 0 where
  pub none_heard : at ≡ 0
  pub none_said : held ≡ []
  pub no_fault : faults ≡ 0
