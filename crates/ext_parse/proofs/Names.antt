-- Where a name or a kind is to come.
use Rattle.std.proofs.Common.{◌≡◌, ◌∙◌, ap, refl, sym, ℕ, Bool, true, false, List, [], ◌∷◌, ◌++◌, Option, Some, None, nat_le, cond}
use Rattle.ext_mean.specs.declared.codes.SyntaxCode.TheVariants as code
use Rattle.ext_mean.specs.declared.expr.Expr.TheVariants as expr
use Rattle.ext_mean.specs.declared.statement.Kind.{Kind}
use Rattle.ext_mean.specs.declared.statement.Kind.TheVariants as kind
use Rattle.ext_mean.specs.declared.statement.Statement.TheVariants as does
use Rattle.ext_mean.specs.declared.token.Mark.TheVariants as mark
use Rattle.ext_mean.specs.declared.token.Token.{Token}
use Rattle.ext_mean.specs.declared.token.Token.TheVariants as token
use Rattle.ext_mean.specs.declared.token.Word.TheVariants as word
use Rattle.ext_mean.specs.declared.tree.Function.{Function}
use Rattle.ext_mean.specs.declared.tree.Param.{Param}
use Rattle.ext_mean.specs.Grammar.{Writing}
use Rattle.ext_mean.specs.Wording.{kind_word}
use Rattle.ext_grammar.specs.Coming.{AroundExpr, AroundStatement, Looking, behind, expression, fixed, view_name, written_name, write_place, put_name, semicolon, function_name, first_parameter, let_name, let_kind, value, some_name, some_block, braces, parameter, parameter_kind, behind_parameter, result_kind, function_body, Move, stays, names, on_some, name_of, kind_of}
use Rattle.ext_grammar.specs.Reading.{Counted, goes, stops, met}
use Rattle.ext_parse.specs.Readers.{Stand, left, next, advanced, with_local, refusal, crowding, name_at, kind_at, param_of}
use Rattle.ext_parse.proofs.Steps.{quiet, naming_one, refuses, too_many, kept, with_name}

-- the token of a name
pub name-token : (this : Option Token) (name : List ℕ) → name_at this ≡ Some name → this ≡ Some (token.Name name)
name-token None name e = cc
name-token (Some (token.Name found)) name e = cc
name-token (Some this) name e = cc

unnamed : (move : List ℕ → Option Move) (this : Token) → name_of this ≡ None → on_some (name_of this) move ≡ None
unnamed move this e = ap (λ (name : Option (List ℕ)). on_some name move) e

pub view-named : (around : AroundExpr) (name : List ℕ) (there : Stand) → name_at (next there) ≡ Some name → left (view_name around) there ≡ left (fixed mark.Close (behind (expr.View name) around)) (advanced there)
view-named around name there e =
    quiet (view_name around) (fixed mark.Close (behind (expr.View name) around)) (token.Name name) there (λ line. refl) (name-token (next there) name e)

pub view-unnamed : (around : AroundExpr) (there : Stand) → name_at (next there) ≡ None → left (view_name around) there ≡ refusal there
view-unnamed around there e =
    refuses (view_name around) there refl refl (λ this is. unnamed (λ name. stays there.counted.operators (fixed mark.Close (behind (expr.View name) around))) this (sym (ap name_at is) ∙ e))

pub written-named : (writing : Writing) (around : AroundStatement) (name : List ℕ) (there : Stand) → name_at (next there) ≡ Some name → left (written_name writing around) there ≡ left (fixed mark.Comma (expression (write_place writing name around))) (advanced there)
written-named writing around name there e =
    quiet (written_name writing around) (fixed mark.Comma (expression (write_place writing name around))) (token.Name name) there (λ line. refl) (name-token (next there) name e)

pub written-unnamed : (writing : Writing) (around : AroundStatement) (there : Stand) → name_at (next there) ≡ None → left (written_name writing around) there ≡ refusal there
written-unnamed writing around there e =
    refuses (written_name writing around) there refl refl (λ this is. unnamed (λ name. stays there.counted.operators (fixed mark.Comma (expression (write_place writing name around)))) this (sym (ap name_at is) ∙ e))

pub put-named : (around : AroundStatement) (name : List ℕ) (there : Stand) → name_at (next there) ≡ Some name → left (put_name around) there ≡ left (fixed mark.Close (semicolon (does.Put name) around)) (advanced there)
put-named around name there e =
    quiet (put_name around) (fixed mark.Close (semicolon (does.Put name) around)) (token.Name name) there (λ line. refl) (name-token (next there) name e)

pub put-unnamed : (around : AroundStatement) (there : Stand) → name_at (next there) ≡ None → left (put_name around) there ≡ refusal there
put-unnamed around there e =
    refuses (put_name around) there refl refl (λ this is. unnamed (λ name. stays there.counted.operators (fixed mark.Close (semicolon (does.Put name) around))) this (sym (ap name_at is) ∙ e))

pub function-named : (known : List Function) (name : List ℕ) (there : Stand) → name_at (next there) ≡ Some name → left (function_name known) there ≡ left (fixed mark.Open (first_parameter known name)) (advanced there)
function-named known name there e =
    quiet (function_name known) (fixed mark.Open (first_parameter known name)) (token.Name name) there (λ line. refl) (name-token (next there) name e)

pub function-unnamed : (known : List Function) (there : Stand) → name_at (next there) ≡ None → left (function_name known) there ≡ refusal there
function-unnamed known there e =
    refuses (function_name known) there refl refl (λ this is. unnamed (λ name. stays there.counted.operators (fixed mark.Open (first_parameter known name))) this (sym (ap name_at is) ∙ e))

-- a name that is no local
pub ruleset names_met = (view-named, view-unnamed, written-named, written-unnamed, put-named, put-unnamed, function-named, function-unnamed)

pub let-local : (around : AroundStatement) (name : List ℕ) (there : Stand) → name_at (next there) ≡ Some name → nat_le 256 there.counted.locals ≡ false → left (let_name around) there ≡ left (fixed mark.Colon (let_kind name around)) (advanced (with_local there))
let-local around name there e few =
    naming_one (let_name around) (fixed mark.Colon (let_kind name around)) (token.Name name) there
    (λ line. ap (λ (many : Bool). cond many (stops line code.Many) (goes (fixed mark.Colon (let_kind name around)) (with_name there.counted))) few)
    (name-token (next there) name e)

pub let-crowded : (around : AroundStatement) (name : List ℕ) (there : Stand) → name_at (next there) ≡ Some name → nat_le 256 there.counted.locals ≡ true → left (let_name around) there ≡ crowding there
let-crowded around name there e many =
    too_many (let_name around) (token.Name name) there
    (λ line. ap (λ (many : Bool). cond many (stops line code.Many) (goes (fixed mark.Colon (let_kind name around)) (with_name there.counted))) many)
    (name-token (next there) name e)

pub let-no_local : (around : AroundStatement) (there : Stand) → name_at (next there) ≡ None → left (let_name around) there ≡ refusal there
let-no_local around there e =
    refuses (let_name around) there refl refl (λ this is. unnamed (λ name. names there.counted.operators (fixed mark.Colon (let_kind name around))) this (sym (ap name_at is) ∙ e))

pub some-local : (looking : Looking) (around : AroundStatement) (name : List ℕ) (there : Stand) → name_at (next there) ≡ Some name → nat_le 256 there.counted.locals ≡ false → left (some_name looking around) there ≡ left (fixed mark.Arm (braces (some_block looking name there.counted.operators around))) (advanced (with_local there))
some-local looking around name there e few =
    naming_one (some_name looking around) (fixed mark.Arm (braces (some_block looking name there.counted.operators around))) (token.Name name) there
    (λ line. ap (λ (many : Bool). cond many (stops line code.Many) (goes (fixed mark.Arm (braces (some_block looking name there.counted.operators around))) (with_name there.counted))) few)
    (name-token (next there) name e)

pub some-crowded : (looking : Looking) (around : AroundStatement) (name : List ℕ) (there : Stand) → name_at (next there) ≡ Some name → nat_le 256 there.counted.locals ≡ true → left (some_name looking around) there ≡ crowding there
some-crowded looking around name there e many =
    too_many (some_name looking around) (token.Name name) there
    (λ line. ap (λ (many : Bool). cond many (stops line code.Many) (goes (fixed mark.Arm (braces (some_block looking name there.counted.operators around))) (with_name there.counted))) many)
    (name-token (next there) name e)

pub some-no_local : (looking : Looking) (around : AroundStatement) (there : Stand) → name_at (next there) ≡ None → left (some_name looking around) there ≡ refusal there
some-no_local looking around there e =
    refuses (some_name looking around) there refl refl (λ this is. unnamed (λ name. names there.counted.operators (fixed mark.Arm (braces (some_block looking name there.counted.operators around)))) this (sym (ap name_at is) ∙ e))

pub parameter-local : (known : List Function) (of : List ℕ) (params : List Param) (name : List ℕ) (there : Stand) → name_at (next there) ≡ Some name → nat_le 256 there.counted.locals ≡ false → left (parameter known of params) there ≡ left (fixed mark.Colon (parameter_kind known of params name)) (advanced (with_local there))
parameter-local known of params name there e few =
    naming_one (parameter known of params) (fixed mark.Colon (parameter_kind known of params name)) (token.Name name) there
    (λ line. ap (λ (many : Bool). cond many (stops line code.Many) (goes (fixed mark.Colon (parameter_kind known of params name)) (with_name there.counted))) few)
    (name-token (next there) name e)

pub parameter-crowded : (known : List Function) (of : List ℕ) (params : List Param) (name : List ℕ) (there : Stand) → name_at (next there) ≡ Some name → nat_le 256 there.counted.locals ≡ true → left (parameter known of params) there ≡ crowding there
parameter-crowded known of params name there e many =
    too_many (parameter known of params) (token.Name name) there
    (λ line. ap (λ (many : Bool). cond many (stops line code.Many) (goes (fixed mark.Colon (parameter_kind known of params name)) (with_name there.counted))) many)
    (name-token (next there) name e)

pub parameter-no_local : (known : List Function) (of : List ℕ) (params : List Param) (there : Stand) → name_at (next there) ≡ None → left (parameter known of params) there ≡ refusal there
parameter-no_local known of params there e =
    refuses (parameter known of params) there refl refl (λ this is. unnamed (λ name. names there.counted.operators (fixed mark.Colon (parameter_kind known of params name))) this (sym (ap name_at is) ∙ e))

-- the name of a local
pub ruleset locals_met = (let-local, let-crowded, let-no_local, some-local, some-crowded, some-no_local, parameter-local, parameter-crowded, parameter-no_local)

-- the token of a kind
kind-token : (this : Option Token) (of : Kind) → kind_at this ≡ Some of → this ≡ Some (token.Word (kind_word of))
kind-token None of e = cc
kind-token (Some (token.Word word.Int)) of e = ap (λ (k : Kind). Some (token.Word (kind_word k))) (let k : kind.Int ≡ of = cc in k)
kind-token (Some (token.Word word.Bool)) of e = ap (λ (k : Kind). Some (token.Word (kind_word k))) (let k : kind.Bool ≡ of = cc in k)
kind-token (Some (token.Word word.Slice)) of e = ap (λ (k : Kind). Some (token.Word (kind_word k))) (let k : kind.Slice ≡ of = cc in k)
kind-token (Some (token.Word word.Buf)) of e = ap (λ (k : Kind). Some (token.Word (kind_word k))) (let k : kind.Buf ≡ of = cc in k)
kind-token (Some (token.Word word.Temp)) of e = ap (λ (k : Kind). Some (token.Word (kind_word k))) (let k : kind.Temp ≡ of = cc in k)
kind-token (Some this) of e = cc

unkind : (move : Kind → Option Move) (this : Token) → kind_of this ≡ None → on_some (kind_of this) move ≡ None
unkind move this e = ap (λ (of : Option Kind). on_some of move) e

pub let-kind-known : (name : List ℕ) (around : AroundStatement) (of : Kind) (there : Stand) → kind_at (next there) ≡ Some of → left (let_kind name around) there ≡ left (fixed mark.Assign (value name of around)) (advanced there)
let-kind-known name around of there e =
    quiet (let_kind name around) (fixed mark.Assign (value name of around)) (token.Word (kind_word of)) there (let-kind-met name around of there.counted) (kind-token (next there) of e)
  where
    let-kind-met : (name : List ℕ) (around : AroundStatement) (of : Kind) (counted : Counted) (line : ℕ) → met (let_kind name around) counted (record { token = token.Word (kind_word of); line = line }) ≡ goes (fixed mark.Assign (value name of around)) (kept counted)
    let-kind-met name around kind.Int counted line = refl
    let-kind-met name around kind.Bool counted line = refl
    let-kind-met name around kind.Slice counted line = refl
    let-kind-met name around kind.Buf counted line = refl
    let-kind-met name around kind.Temp counted line = refl

pub let-kind-unknown : (name : List ℕ) (around : AroundStatement) (there : Stand) → kind_at (next there) ≡ None → left (let_kind name around) there ≡ refusal there
let-kind-unknown name around there e =
    refuses (let_kind name around) there refl refl (λ this is. unkind (λ of. stays there.counted.operators (fixed mark.Assign (value name of around))) this (sym (ap kind_at is) ∙ e))

pub parameter-kind-known : (known : List Function) (name : List ℕ) (params : List Param) (param : List ℕ) (of : Kind) (there : Stand) → kind_at (next there) ≡ Some of → left (parameter_kind known name params param) there ≡ left (behind_parameter known name (params ++ param_of param of ∷ [])) (advanced there)
parameter-kind-known known name params param of there e =
    quiet (parameter_kind known name params param) (behind_parameter known name (params ++ param_of param of ∷ [])) (token.Word (kind_word of)) there (parameter-kind-met known name params param of there.counted) (kind-token (next there) of e)
  where
    parameter-kind-met : (known : List Function) (name : List ℕ) (params : List Param) (param : List ℕ) (of : Kind) (counted : Counted) (line : ℕ) → met (parameter_kind known name params param) counted (record { token = token.Word (kind_word of); line = line }) ≡ goes (behind_parameter known name (params ++ param_of param of ∷ [])) (kept counted)
    parameter-kind-met known name params param kind.Int counted line = refl
    parameter-kind-met known name params param kind.Bool counted line = refl
    parameter-kind-met known name params param kind.Slice counted line = refl
    parameter-kind-met known name params param kind.Buf counted line = refl
    parameter-kind-met known name params param kind.Temp counted line = refl

pub parameter-kind-unknown : (known : List Function) (name : List ℕ) (params : List Param) (param : List ℕ) (there : Stand) → kind_at (next there) ≡ None → left (parameter_kind known name params param) there ≡ refusal there
parameter-kind-unknown known name params param there e =
    refuses (parameter_kind known name params param) there refl refl (λ this is. unkind (λ of. stays there.counted.operators (behind_parameter known name (params ++ param_of param of ∷ []))) this (sym (ap kind_at is) ∙ e))

pub result-kind-known : (known : List Function) (name : List ℕ) (params : List Param) (of : Kind) (there : Stand) → kind_at (next there) ≡ Some of → left (result_kind known name params) there ≡ left (braces (function_body known name params of)) (advanced there)
result-kind-known known name params of there e =
    quiet (result_kind known name params) (braces (function_body known name params of)) (token.Word (kind_word of)) there (result-kind-met known name params of there.counted) (kind-token (next there) of e)
  where
    result-kind-met : (known : List Function) (name : List ℕ) (params : List Param) (of : Kind) (counted : Counted) (line : ℕ) → met (result_kind known name params) counted (record { token = token.Word (kind_word of); line = line }) ≡ goes (braces (function_body known name params of)) (kept counted)
    result-kind-met known name params kind.Int counted line = refl
    result-kind-met known name params kind.Bool counted line = refl
    result-kind-met known name params kind.Slice counted line = refl
    result-kind-met known name params kind.Buf counted line = refl
    result-kind-met known name params kind.Temp counted line = refl

pub result-kind-unknown : (known : List Function) (name : List ℕ) (params : List Param) (there : Stand) → kind_at (next there) ≡ None → left (result_kind known name params) there ≡ refusal there
result-kind-unknown known name params there e =
    refuses (result_kind known name params) there refl refl (λ this is. unkind (λ of. stays there.counted.operators (braces (function_body known name params of))) this (sym (ap kind_at is) ∙ e))

-- a kind
pub ruleset kinds_met = (let-kind-known, let-kind-unknown, parameter-kind-known, parameter-kind-unknown, result-kind-known, result-kind-unknown)
