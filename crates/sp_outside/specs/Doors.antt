-- What a call of a door or a dial gives and counts, by its answer.
use Rattle.std.specs.Prelude.{◌≡◌, ◌⊎◌, ℕ, ◌+◌, ◌-◌, ◌≤◌, Bool, true, Option, Some, None, List, [], ◌∷◌, ◌++◌}
use Rattle.sp_outside.specs.declared.door.Bound.{Bound}
use Rattle.sp_outside.specs.declared.door.Bound.TheVariants as bind
use Rattle.sp_outside.specs.declared.door.Accepted.{Accepted}
use Rattle.sp_outside.specs.declared.door.Accepted.TheVariants as accept
use Rattle.sp_outside.specs.declared.dial.Dialled.{Dialled}
use Rattle.sp_outside.specs.declared.dial.Dialled.TheVariants as dial
use Rattle.sp_outside.specs.Faults.{one_fault_more}

-- a door is bound once a `bind` has answered Yes
abbrev pub bound_after : Bound → Bool → Bool
bound_after bind.Yes before = true
bound_after bind.Failed before = before
bound_after bind.Memory before = before

-- the most links that a door gives are the sessions of the last `bind` that answered Yes
abbrev pub most_after : Bound → ℕ → ℕ → ℕ
most_after bind.Yes sessions before = sessions
most_after bind.Failed sessions before = before
most_after bind.Memory sessions before = before

-- a failing `bind` counts one fault, and no other answer counts any
abbrev pub faults_after_bind : Bound → ℕ → ℕ
faults_after_bind bind.Yes faults = faults
faults_after_bind bind.Failed faults = one_fault_more faults
faults_after_bind bind.Memory faults = faults

-- as many links were given as the door gives at most, or its list is told and has none left
abbrev pub HasNoMore : ℕ → ℕ → Option ℕ → Type 0
HasNoMore most given coming = (most ≤ given) ⊎ (coming ≡ Some 0)

module _ {L : Type 0} where
  -- a fact about the link that an `accept` gave
  abbrev pub IfAccepted : Accepted L → (L → Type 0) → Type 0
  IfAccepted (accept.Link link) P = P link
  IfAccepted accept.Closed P = Unit {0}
  IfAccepted accept.Failed P = Unit {0}

  -- an accepted link is one more that was given
  abbrev pub given_after : Accepted L → ℕ → ℕ
  given_after (accept.Link link) given = given + 1
  given_after accept.Closed given = given
  given_after accept.Failed given = given

  -- an accepted link is one fewer that is coming, where that is told
  abbrev pub coming_after : Accepted L → Option ℕ → Option ℕ
  coming_after answer None = None
  coming_after (accept.Link link) (Some n) = Some (n - 1)
  coming_after accept.Closed (Some n) = Some n
  coming_after accept.Failed (Some n) = Some n

  -- an accepted link is the first of the links that were coming, and no other answer takes one
  abbrev pub AcceptsNext : Accepted L → List L → List L → Type 0
  AcceptsNext (accept.Link link) before after = before ≡ link ∷ after
  AcceptsNext accept.Closed before after = after ≡ before
  AcceptsNext accept.Failed before after = after ≡ before

  -- a link that is done is the last of those that are, where they are told
  abbrev pub ended_after : Option (List L) → L → Option (List L)
  ended_after None link = None
  ended_after (Some links) link = Some (links ++ link ∷ [])

  -- a failing `accept` counts one fault, and no other answer counts any
  abbrev pub faults_after_accept : Accepted L → ℕ → ℕ
  faults_after_accept (accept.Link link) faults = faults
  faults_after_accept accept.Closed faults = faults
  faults_after_accept accept.Failed faults = one_fault_more faults

  -- a fact about the link that a `dial` gave
  abbrev pub IfDialled : Dialled L → (L → Type 0) → Type 0
  IfDialled (dial.Link link) P = P link
  IfDialled dial.Failed P = Unit {0}

  -- a dialled link is the first of the links that were coming, and no other answer takes one
  abbrev pub DialsNext : Dialled L → List L → List L → Type 0
  DialsNext (dial.Link link) before after = before ≡ link ∷ after
  DialsNext dial.Failed before after = after ≡ before

  -- a failing `dial` counts one fault, and no other answer counts any
  abbrev pub faults_after_dial : Dialled L → ℕ → ℕ
  faults_after_dial (dial.Link link) faults = faults
  faults_after_dial dial.Failed faults = one_fault_more faults
