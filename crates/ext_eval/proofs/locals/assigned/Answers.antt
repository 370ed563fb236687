use Rattle.std.proofs.Common.{◌≡◌, Some, None, ap, sym, ◌∙◌}
use Rattle.std.specs.Str.{bytes_eq}
use Rattle.ext_eval.specs.Finding.{first_from}
use Rattle.ext_eval.proofs.FindingLemmas.{assigned-found, assigned-absent}
use Rattle.ext_eval.proofs.locals.assigned.Goals as goal

pub returns-in_ok-name-in-Some : goal.returns-in_ok-name-in-Some
returns-in_ok-name-in-Some c =
    let locals = c.args.locals.now in
    let name = c.args.name.now in
    let there : first_from (λ local. bytes_eq local.name name) 0 locals ≡ Some c.in-Some.at =
    ap (first_from (λ local. bytes_eq local.name name) 0) (sym c.as_slice.ensures) ∙ sym c.place_named-found.ensures ∙ c.in-Some.is in
    let e = assigned-found name c.args.value c.in-Some.at locals there in
    let same = c.in_ok-name-in-Some.ensures in
    let set = c.set.ensures in
    cc

pub returns-in-None : goal.returns-in-None
returns-in-None c =
    let locals = c.args.locals.now in
    let name = c.args.name.now in
    let absent : first_from (λ local. bytes_eq local.name name) 0 locals ≡ None =
    ap (first_from (λ local. bytes_eq local.name name) 0) (sym c.as_slice.ensures) ∙ sym c.place_named-found.ensures ∙ c.in-None.is in
    sym (assigned-absent name c.args.value locals absent)
