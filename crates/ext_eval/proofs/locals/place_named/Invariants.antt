-- what the variables still to come answer is the answer for all
use Rattle.std.proofs.Common.{◌≡◌, drop}
use Rattle.std.specs.Str.{bytes_eq}
use Rattle.ext_eval.specs.Finding.{first_from}
use Rattle.ext_eval.proofs.locals.place_named.Given as goal

abbrev pub invariant-loop-at : goal.invariant-loop-at
invariant-loop-at l =
    first_from (λ local. bytes_eq local.name l.name) l.at (drop l.at l.locals)
    ≡ first_from (λ local. bytes_eq local.name l.name) 0 l.fn.locals
