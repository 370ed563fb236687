-- What a framer keeps, and how it stands to the bytes that it was fed.
use Rattle.std.specs.Prelude.{◌≡◌, ℕ, List, [], ◌∷◌, ◌++◌, Option, None, MatchOption}
use Rattle.std.specs.List.{All}
use Rattle.sp_base.specs.Limits.{IsBody}
use Rattle.sp_base.specs.Spelling.{frame}
use Rattle.framing.specs.Frames.{stream_of, IsTooLong, IsUnfinished}

-- a framer: the bytes of an unfinished frame, and the length that was too long, once one came
pub record Framing : Type 0 where
  pub pending : List ℕ
  pub broken : Option ℕ

-- what a framer keeps of the bytes behind the last whole frame
abbrev pub Keeps : Framing → List ℕ → Type 0
Keeps framing rest = MatchOption framing.broken
    ((framing.pending ≡ rest) × IsUnfinished rest)
    (λ n. (framing.pending ≡ []) × IsTooLong n rest)

-- the framer was fed these bytes and gave these bodies: they are the bytes' frames, each once and in
-- order, up to a rest that is no whole frame or that begins with a length too long
pub record Stands (framing : Framing) (fed : List ℕ) (bodies : List (List ℕ)) : Type 0 where
  pub rest : List ℕ
  pub whole : fed ≡ stream_of bodies ++ rest
  pub each : All IsBody bodies
  pub kept : Keeps framing rest

-- the length n is too long and stands where the framer's next frame begins, or did so before
abbrev pub MeetsTooLong : Framing → List ℕ → ℕ → Type 0
MeetsTooLong framing piece n = MatchOption framing.broken
    (IsTooLong n (framing.pending ++ piece))
    (λ m. n ≡ m)

-- what was fed determines the bodies given and what the framer keeps, whatever the pieces were
abbrev pub OneReading : Type 0
OneReading = (one other : Framing) (fed : List ℕ) (bodies others : List (List ℕ)) →
    Stands one fed bodies → Stands other fed others → (bodies ≡ others) × (one ≡ other)

-- a body that is framed and fed between two frames is what comes out, and nothing of it is kept
abbrev pub FramedIsGiven : Type 0
FramedIsGiven = (before after : Framing) (fed body : List ℕ) (bodies more : List (List ℕ)) →
    IsBody body → before ≡ record { pending = []; broken = None } → Stands before fed bodies →
    Stands after (fed ++ frame body) (bodies ++ more) → (more ≡ body ∷ []) × (after ≡ before)
