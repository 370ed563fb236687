use Rattle.std.proofs.Common.{All}
use Rattle.sp_outside.specs.Hearing.{IsUnused}
use Rattle.outside_tests.proofs.forms.unused_links.Given as goal

-- each link so far is unused
abbrev pub invariant-loop-place : goal.invariant-loop-place
invariant-loop-place l = All (λ link. IsUnused link.at link.held.items link.faults) l.links.items
