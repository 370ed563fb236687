-- The commands, one added after another.
use Rattle.std.proofs.Common.{◌≡◌, ◌∙◌, ap, ap₂, codes, rules, true}
use Rattle.std.proofs.lemmas.Result.{IfOk-weaker}
use Rattle.clap.specs.Simple.{App, Shape, app_of, app_of_fields, new_app, new_shape, on_top, with_rule, with_subcommand}
use Rattle.clap.specs.Walk.{rule_of}
use Rattle.words.specs.Parser.{bare_app, drill_app, required_rule}
use Rattle.words.proofs.parser.parser.Goals as goal

abbrev no_name : Shape → Shape
no_name s = record s { no_binary_name = true }

abbrev no_flag : Shape → Shape
no_flag s = record s { disable_help_flag = true }

abbrev no_help : Shape → Shape
no_help s = record s { disable_help_subcommand = true }

abbrev wants_command : Shape → Shape
wants_command s = record s { subcommand_required = true }

abbrev top_of : App → Shape
top_of a = a.top

pub returns : goal.returns
returns c =
    let count_is : rule_of c.required.result ≡ required_rule (codes "count") = search rules in
    let seed_is : rule_of c.required-2.result ≡ required_rule (codes "seed") = search rules in
    let drill_is : app_of c.in_ok-drill.drill ≡ drill_app = c.in_ok-drill.ensures.shape (search rules)
    ∙ ap₂ with_rule (c.in_ok-arg.ensures.shape (search rules) ∙ ap₂ with_rule c.new.ensures.app count_is) seed_is in
    let named : app_of c.no_binary_name.result ≡ on_top no_name (new_app (codes "splinter")) =
    ap app_of_fields c.no_binary_name.ensures ∙ ap (on_top no_name) c.new-4.ensures.app in
    let flagged : app_of c.disable_help_flag.result ≡ on_top no_flag (on_top no_name (new_app (codes "splinter"))) =
    ap app_of_fields c.disable_help_flag.ensures ∙ ap (on_top no_flag) named in
    let helped : app_of c.disable_help_subcommand.result ≡ on_top no_help (on_top no_flag (on_top no_name (new_app (codes "splinter")))) =
    ap app_of_fields c.disable_help_subcommand.ensures ∙ ap (on_top no_help) flagged in
    let bare : app_of c.subcommand_required-splinter.result ≡ bare_app =
    ap app_of_fields c.subcommand_required-splinter.ensures ∙ ap (on_top wants_command) helped in
    let checks : app_of c.in_ok-subcommand.field-0 ≡ with_subcommand bare_app (new_shape (codes "check")) =
    c.in_ok-subcommand.ensures.shape (search rules) ∙ ap₂ with_subcommand bare (ap top_of c.new-check.ensures.app) in
    let runs : app_of c.in_ok-subcommand-2.field-0 ≡ with_subcommand (with_subcommand bare_app (new_shape (codes "check"))) (new_shape (codes "run")) =
    c.in_ok-subcommand-2.ensures.shape (search rules) ∙ ap₂ with_subcommand checks (ap top_of c.new-run.ensures.app) in
    IfOk-weaker c.subcommand-3.result _ _ (λ parser added. added.shape (search rules) ∙ ap₂ with_subcommand runs (ap top_of drill_is)) c.subcommand-3.ensures
