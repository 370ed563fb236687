-- Types of items: the code of a statement's own item, for the variables in scope.
use Rattle.std.specs.Prelude.{ℕ, List, [], ◌∷◌, Option, Some, None, is_none, Result, if◌then◌else◌}
use Rattle.std.specs.Str.{bytes_eq}
use Rattle.ext_mean.specs.declared.check_codes.TypeCode.{TypeCode}
use Rattle.ext_mean.specs.declared.check_codes.TypeCode.TheVariants as code
use Rattle.ext_mean.specs.declared.statement.Kind.{Kind}
use Rattle.ext_mean.specs.declared.statement.Kind.TheVariants as kind
use Rattle.ext_mean.specs.declared.expr.Expr.{Expr}
use Rattle.ext_mean.specs.declared.statement.Statement.TheOpen.{Statement-F}
use Rattle.ext_mean.specs.declared.tree.Param.{Param}
use Rattle.ext_mean.specs.declared.tree.Function.{Function}
use Rattle.ext_mean.specs.Types.{earlier, same_kind, kind_of, unless, untyped, asks, asks_buffer, type_of}

-- where an item stands: the program's functions, those declared before its own, and the result that
-- its function has
pub record Setting : Type 0 where
  pub functions : List Function
  pub before : List Function
  pub result : Kind

-- the first function of this name
abbrev pub function_named : List ℕ → List Function → Option Function
function_named name [] = None
function_named name (first ∷ rest) = if bytes_eq first.name name then Some first else function_named name rest

-- a name that is declared may not be in scope
abbrev pub new_name : List Param → List ℕ → Option TypeCode
new_name scope name = unless (is_none (kind_of scope name)) code.Twice

-- arguments against parameters: as many, each of its parameter's type
abbrev pub arguments_code : List Param → List Param → List Expr → Option TypeCode
arguments_code scope [] [] = None
arguments_code scope (param ∷ params) [] = Some code.Count
arguments_code scope [] (arg ∷ args) =
    earlier (earlier (untyped (type_of scope arg)) (Some code.Count)) (arguments_code scope [] args)
arguments_code scope (param ∷ params) (arg ∷ args) =
    earlier (asks param.kind (type_of scope arg)) (arguments_code scope params args)

-- a called function that is not declared before, and is declared at all or not
abbrev pub uncalled : Option Function → TypeCode
uncalled (Some function) = code.Order
uncalled None = code.NoName

-- a call that gives a variable of a type: the function of this name before the caller, if there is one
abbrev pub call_code : Setting → List Param → List ℕ → Kind → Option Function → List Expr → Option TypeCode
call_code setting scope name wanted (Some function) args =
    earlier (arguments_code scope function.params args) (unless (same_kind wanted function.result) code.Kind)
call_code setting scope name wanted None args =
    earlier (arguments_code scope [] args) (Some (uncalled (function_named name setting.functions)))

-- a variable that is assigned, with the type of its new value
abbrev pub assigned_code : Option Kind → Result Kind TypeCode → Option TypeCode
assigned_code (Some kind) value = asks kind value
assigned_code None value = Some code.NoName

-- `put` takes a variable of type buf
abbrev pub put_code : Option Kind → Option TypeCode
put_code (Some own) = unless (same_kind kind.Buf own) code.Kind
put_code None = Some code.NoName

-- the code of a statement's own item
abbrev pub statement_code : {A B : Type 0} → Setting → List Param → Statement-F A B → Option TypeCode
statement_code setting scope (Statement-F.Let name kind value) =
    earlier (new_name scope name) (asks kind (type_of scope value))
statement_code setting scope (Statement-F.LetCall name kind function args) =
    earlier (new_name scope name)
    (call_code setting scope function kind (function_named function setting.before) args)
statement_code setting scope (Statement-F.Assign name value) =
    assigned_code (kind_of scope name) (type_of scope value)
statement_code setting scope (Statement-F.If test true_block false_block) =
    asks kind.Bool (type_of scope test)
statement_code setting scope (Statement-F.While test body) = asks kind.Bool (type_of scope test)
statement_code setting scope (Statement-F.Get table key some found_block none_block) =
    earlier (new_name scope some)
    (earlier (asks kind.Int (type_of scope table)) (asks kind.Slice (type_of scope key)))
statement_code setting scope (Statement-F.Multi table keys width some found_block none_block) =
    earlier (new_name scope some)
    (earlier (asks kind.Int (type_of scope table))
    (earlier (asks kind.Slice (type_of scope keys)) (asks kind.Int (type_of scope width))))
statement_code setting scope (Statement-F.Set name place value) =
    earlier (asks_buffer (kind_of scope name))
    (earlier (asks kind.Int (type_of scope place)) (asks kind.Int (type_of scope value)))
statement_code setting scope (Statement-F.Set8 name place value) =
    earlier (asks_buffer (kind_of scope name))
    (earlier (asks kind.Int (type_of scope place)) (asks kind.Int (type_of scope value)))
statement_code setting scope (Statement-F.Copy name place source) =
    earlier (asks_buffer (kind_of scope name))
    (earlier (asks kind.Int (type_of scope place)) (asks kind.Slice (type_of scope source)))
statement_code setting scope (Statement-F.Put name) = put_code (kind_of scope name)
statement_code setting scope (Statement-F.Del table key) =
    earlier (asks kind.Int (type_of scope table)) (asks kind.Slice (type_of scope key))
statement_code setting scope (Statement-F.Resp value) = asks kind.Slice (type_of scope value)
statement_code setting scope (Statement-F.Return value) = asks setting.result (type_of scope value)
