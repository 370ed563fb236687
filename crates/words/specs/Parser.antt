-- What `clap` is told of the commands and their arguments.
use Rattle.std.specs.Prelude.{true, codes}
use Rattle.clap.specs.Walk.{Rule, Text}
use Rattle.clap.specs.Simple.{App, Shape, new_app, new_rule, new_shape, with_rule, with_subcommand}

-- an argument that must be given
abbrev pub required_rule : Text → Rule
required_rule id = record (new_rule id) { required = true }

abbrev pub drill_app : App
drill_app = with_rule (with_rule (new_app (codes "drill")) (required_rule (codes "count"))) (required_rule (codes "seed"))

-- the program, which has no help of its own
abbrev pub bare_shape : Shape
bare_shape = record (new_shape (codes "splinter")) {
  no_binary_name = true;
  disable_help_flag = true;
  disable_help_subcommand = true;
  subcommand_required = true;
}

abbrev pub bare_app : App
bare_app = record (new_app (codes "splinter")) { top = bare_shape }

-- the program with its three commands
abbrev pub splinter_app : App
splinter_app =
    with_subcommand (with_subcommand (with_subcommand bare_app (new_shape (codes "check"))) (new_shape (codes "run")))
    drill_app.top
