-- Where slices come from: variables by their declarations, and what an expression may borrow from.
use Rattle.std.specs.Prelude.{ℕ, Bool, false, ◌||◌, List, [], ◌∷◌, Option, Some, None, slice_get, unwrap_or, if◌then◌else◌}
use Rattle.std.specs.Str.{bytes_eq}
use Rattle.ext_mean.specs.declared.borrowing.Variable.{Variable}
use Rattle.ext_mean.specs.declared.borrowing.Origin.{Origin}
use Rattle.ext_mean.specs.declared.borrowing.Origin.TheVariants as origin
use Rattle.ext_mean.specs.declared.statement.Kind.TheVariants as kind
use Rattle.ext_mean.specs.declared.expr.Expr.{Expr}
use Rattle.ext_mean.specs.declared.expr.Expr.TheOpen.{Expr-F}
use Rattle.ext_mean.specs.declared.expr.Expr.TheViews.{out-Expr}
use Rattle.ext_mean.specs.declared.expr.Expr.TheFolds.{fold-Expr}
use Rattle.ext_mean.specs.Types.{is_buffer, same_kind}

-- the variable of this name that is in scope
abbrev pub variable_named : List ℕ → List Variable → Option Variable
variable_named name [] = None
variable_named name (first ∷ rest) = if bytes_eq first.name name then Some first else variable_named name rest

-- a slice variable as the origin of a value
abbrev pub slice_origin : Option Variable → Origin
slice_origin (Some variable) =
    if same_kind kind.Slice variable.kind then origin.Slice variable.number else origin.Nothing
slice_origin None = origin.Nothing

-- the view of a variable as the origin of a value
abbrev pub view_origin : Option Variable → Origin
view_origin (Some variable) = origin.View variable.number
view_origin None = origin.Nothing

-- a value comes from a view or a slice variable, as itself or at the first place of `sub`
abbrev pub origin_form : List Variable → Expr-F Origin → Origin
origin_form scope (Expr-F.Var name) = slice_origin (variable_named name scope)
origin_form scope (Expr-F.View name) = view_origin (variable_named name scope)
origin_form scope (Expr-F.Sub bytes from count) = bytes
origin_form scope _ = origin.Nothing

unfoldable pub origin_of : List Variable → Expr → Origin
origin_of scope = fold-Expr Origin (origin_form scope)

-- the number of a buffer that is the whole expression, which is then moved
abbrev pub buffer_number : Option Variable → Option ℕ
buffer_number (Some variable) = if is_buffer variable.kind then Some variable.number else None
buffer_number None = None

abbrev pub moved_form : {A : Type 0} → List Variable → Expr-F A → Option ℕ
moved_form scope (Expr-F.Var name) = buffer_number (variable_named name scope)
moved_form scope _ = None

abbrev pub moved_by : List Variable → Expr → Option ℕ
moved_by scope expression = moved_form scope (out-Expr expression)

-- whether a variable is among those that are marked, by numbers
abbrev pub is_marked : List Bool → ℕ → Bool
is_marked marks number = unwrap_or (slice_get marks number) false

-- whether a variable is one of the marked ones
abbrev pub any_marked : List Bool → Option Variable → Bool
any_marked marks (Some variable) = is_marked marks variable.number
any_marked marks None = false

-- whether an expression has the view of a marked variable anywhere
abbrev pub views_form : List Variable → List Bool → Expr-F Bool → Bool
views_form scope marks (Expr-F.View name) = any_marked marks (variable_named name scope)
views_form scope marks (Expr-F.Len bytes) = bytes
views_form scope marks (Expr-F.Temp size) = size
views_form scope marks (Expr-F.Byte bytes place) = bytes || place
views_form scope marks (Expr-F.Word bytes place) = bytes || place
views_form scope marks (Expr-F.Sub bytes from count) = bytes || from || count
views_form scope marks (Expr-F.Alloc table key size) = table || key || size
views_form scope marks (Expr-F.Not test) = test
views_form scope marks (Expr-F.Bin operator left right) = left || right
views_form scope marks _ = false

unfoldable pub views : List Variable → List Bool → Expr → Bool
views scope marks = fold-Expr Bool (views_form scope marks)
