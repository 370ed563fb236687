-- Types of expressions. An expression has a type, or the code for which it has none.
use Rattle.std.specs.Prelude.{ℕ, Bool, true, false, nat_le, List, [], ◌∷◌, Option, Some, None, Result, Ok, Err, if◌then◌else◌}
use Rattle.std.specs.Str.{bytes_eq}
use Rattle.ext_mean.specs.declared.check_codes.TypeCode.{TypeCode}
use Rattle.ext_mean.specs.declared.check_codes.TypeCode.TheVariants as code
use Rattle.ext_mean.specs.declared.statement.Kind.{Kind}
use Rattle.ext_mean.specs.declared.statement.Kind.TheVariants as kind
use Rattle.ext_mean.specs.declared.expr.BinOp.{BinOp}
use Rattle.ext_mean.specs.declared.expr.BinOp.TheVariants as op
use Rattle.ext_mean.specs.declared.expr.Expr.{Expr}
use Rattle.ext_mean.specs.declared.expr.Expr.TheOpen.{Expr-F}
use Rattle.ext_mean.specs.declared.expr.Expr.TheFolds.{fold-Expr}
use Rattle.ext_mean.specs.declared.tree.Param.{Param}

-- the place of a code in their order
abbrev pub rank : TypeCode → ℕ
rank code.NoName = 0
rank code.Order = 1
rank code.Twice = 2
rank code.Count = 3
rank code.Kind = 4
rank code.NoReturn = 5
rank code.Main = 6

-- the one of two codes that goes before the other
abbrev pub earlier : Option TypeCode → Option TypeCode → Option TypeCode
earlier None second = second
earlier (Some first) None = Some first
earlier (Some first) (Some second) = if nat_le (rank first) (rank second) then Some first else Some second

-- whether two types are the same
abbrev pub same_kind : Kind → Kind → Bool
same_kind kind.Int kind.Int = true
same_kind kind.Bool kind.Bool = true
same_kind kind.Slice kind.Slice = true
same_kind kind.Buf kind.Buf = true
same_kind kind.Temp kind.Temp = true
same_kind _ _ = false

-- `buf` and `temp` are the types of buffers
abbrev pub is_buffer : Kind → Bool
is_buffer kind.Buf = true
is_buffer kind.Temp = true
is_buffer _ = false

-- the type of a variable that is in scope: variables stand there with their types
abbrev pub kind_of : List Param → List ℕ → Option Kind
kind_of [] name = None
kind_of (first ∷ rest) name = if bytes_eq first.name name then Some first.kind else kind_of rest name

-- what a test that fails gives an item
abbrev pub unless : Bool → TypeCode → Option TypeCode
unless true code = None
unless false code = Some code

-- why an expression has no type
abbrev pub untyped : Result Kind TypeCode → Option TypeCode
untyped (Ok kind) = None
untyped (Err code) = Some code

-- a place asks for an expression of a type
abbrev pub asks : Kind → Result Kind TypeCode → Option TypeCode
asks wanted (Ok kind) = unless (same_kind wanted kind) code.Kind
asks wanted (Err code) = Some code

-- an expression has this type unless its operands have a code
abbrev pub gives : Kind → Option TypeCode → Result Kind TypeCode
gives kind None = Ok kind
gives kind (Some code) = Err code

-- a variable has its own type
abbrev pub variable_type : Option Kind → Result Kind TypeCode
variable_type (Some kind) = Ok kind
variable_type None = Err code.NoName

-- a place asks for a variable of type buf or temp
abbrev pub asks_buffer : Option Kind → Option TypeCode
asks_buffer (Some kind) = unless (is_buffer kind) code.Kind
asks_buffer None = Some code.NoName

-- `==` and `!=` take two ints, two bools or two slices
abbrev pub asks_equal : Result Kind TypeCode → Result Kind TypeCode → Option TypeCode
asks_equal (Ok kind.Int) right = asks kind.Int right
asks_equal (Ok kind.Bool) right = asks kind.Bool right
asks_equal (Ok kind.Slice) right = asks kind.Slice right
asks_equal left right = earlier (asks kind.Int left) (untyped right)

-- two operands of one type
abbrev pub asks_both : Kind → Result Kind TypeCode → Result Kind TypeCode → Option TypeCode
asks_both wanted left right = earlier (asks wanted left) (asks wanted right)

-- an operator, with the types of its operands
abbrev pub operator_type : BinOp → Result Kind TypeCode → Result Kind TypeCode → Result Kind TypeCode
operator_type op.Or left right = gives kind.Bool (asks_both kind.Bool left right)
operator_type op.And left right = gives kind.Bool (asks_both kind.Bool left right)
operator_type op.Equal left right = gives kind.Bool (asks_equal left right)
operator_type op.NotEqual left right = gives kind.Bool (asks_equal left right)
operator_type op.Less left right = gives kind.Bool (asks_both kind.Int left right)
operator_type op.LessEqual left right = gives kind.Bool (asks_both kind.Int left right)
operator_type op.Greater left right = gives kind.Bool (asks_both kind.Int left right)
operator_type op.GreaterEqual left right = gives kind.Bool (asks_both kind.Int left right)
operator_type op.Add left right = gives kind.Int (asks_both kind.Int left right)
operator_type op.Subtract left right = gives kind.Int (asks_both kind.Int left right)
operator_type op.Multiply left right = gives kind.Int (asks_both kind.Int left right)
operator_type op.Divide left right = gives kind.Int (asks_both kind.Int left right)
operator_type op.Remainder left right = gives kind.Int (asks_both kind.Int left right)

-- one form, with the type of each operand in its place
abbrev pub type_form : List Param → Expr-F (Result Kind TypeCode) → Result Kind TypeCode
type_form scope (Expr-F.Number number) = Ok kind.Int
type_form scope (Expr-F.Str bytes) = Ok kind.Slice
type_form scope (Expr-F.Truth truth) = Ok kind.Bool
type_form scope (Expr-F.Var name) = variable_type (kind_of scope name)
type_form scope Expr-F.Args = Ok kind.Slice
type_form scope (Expr-F.Len bytes) = gives kind.Int (asks kind.Slice bytes)
type_form scope (Expr-F.View name) = gives kind.Slice (asks_buffer (kind_of scope name))
type_form scope (Expr-F.Temp size) = gives kind.Temp (asks kind.Int size)
type_form scope (Expr-F.Byte bytes place) =
    gives kind.Int (earlier (asks kind.Slice bytes) (asks kind.Int place))
type_form scope (Expr-F.Word bytes place) =
    gives kind.Int (earlier (asks kind.Slice bytes) (asks kind.Int place))
type_form scope (Expr-F.Sub bytes from count) =
    gives kind.Slice (earlier (asks kind.Slice bytes) (asks_both kind.Int from count))
type_form scope (Expr-F.Alloc table key size) =
    gives kind.Buf (earlier (asks kind.Slice key) (asks_both kind.Int table size))
type_form scope (Expr-F.Not test) = gives kind.Bool (asks kind.Bool test)
type_form scope (Expr-F.Bin operator left right) = operator_type operator left right

-- the type of an expression, with these variables in scope
unfoldable pub type_of : List Param → Expr → Result Kind TypeCode
type_of scope = fold-Expr (Result Kind TypeCode) (type_form scope)
