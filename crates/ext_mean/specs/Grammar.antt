-- The grammar of extensions. Each type below is a symbol of the grammar and each constructor one
-- of its productions, so that a value is a derivation, with its parentheses. What stands between
-- braces in a production, any number of times, is a symbol of its own, named with `More`.
use Rattle.std.specs.Prelude.{ℕ, Bool, List}
use Rattle.ext_mean.specs.declared.statement.Kind.{Kind}

-- a comparison, a sum's sign and a product's sign, as the productions group them
pub data Comparing : Type 0 where
  equal not_equal less less_equal greater greater_equal : Comparing

pub data Adding : Type 0 where
  plus minus : Adding

pub data Multiplying : Type 0 where
  times over remainder : Multiplying

mutual
  -- expr = and { "||" and }
  pub data Disjunction : Type 0 where
    disjunction : Conjunction → MoreOr → Disjunction

  pub data MoreOr : Type 0 where
    end_or : MoreOr
    or : Conjunction → MoreOr → MoreOr

  -- and = cmp { "&&" cmp }
  pub data Conjunction : Type 0 where
    conjunction : Comparison → MoreAnd → Conjunction

  pub data MoreAnd : Type 0 where
    end_and : MoreAnd
    and : Comparison → MoreAnd → MoreAnd

  -- cmp = sum [ ( "==" | "!=" | "<" | "<=" | ">" | ">=" ) sum ]
  pub data Comparison : Type 0 where
    only : Sum → Comparison
    compared : Sum → Comparing → Sum → Comparison

  -- sum = prod { ( "+" | "-" ) prod }
  pub data Sum : Type 0 where
    sum : Product → MoreSum → Sum

  pub data MoreSum : Type 0 where
    end_sum : MoreSum
    add : Adding → Product → MoreSum → MoreSum

  -- prod = unary { ( "*" | "/" | "%" ) unary }
  pub data Product : Type 0 where
    product : Unary → MoreProduct → Product

  pub data MoreProduct : Type 0 where
    end_product : MoreProduct
    multiply : Multiplying → Unary → MoreProduct → MoreProduct

  -- unary = [ "!" ] prim
  pub data Unary : Type 0 where
    plain : Primary → Unary
    negated : Primary → Unary

  -- prim = number | string | "true" | "false" | name | "(" expr ")"
  --      | "args" "(" ")" | "len" "(" expr ")" | "view" "(" name ")" | "temp" "(" expr ")"
  --      | ( "byte" | "u64" ) "(" expr "," expr ")"
  --      | ( "sub" | "alloc" ) "(" expr "," expr "," expr ")"
  pub data Primary : Type 0 where
    number : ℕ → Primary
    string : List ℕ → Primary
    truth : Bool → Primary
    variable : List ℕ → Primary
    parentheses : Disjunction → Primary
    args : Primary
    len : Disjunction → Primary
    view : List ℕ → Primary
    temp : Disjunction → Primary
    byte : Disjunction → Disjunction → Primary
    u64 : Disjunction → Disjunction → Primary
    sub : Disjunction → Disjunction → Disjunction → Primary
    alloc : Disjunction → Disjunction → Disjunction → Primary

-- [ expr { "," expr } ]
pub data MoreArguments : Type 0 where
  end_arguments : MoreArguments
  argument : Disjunction → MoreArguments → MoreArguments

pub data Arguments : Type 0 where
  no_arguments : Arguments
  arguments : Disjunction → MoreArguments → Arguments

-- ( "set" | "set8" | "copy" )
pub data Writing : Type 0 where
  set set8 copy : Writing

mutual
  -- block = "{" { statement } [ "return" expr ";" ] "}"
  pub data Braces : Type 0 where
    open_end : MoreStatements → Braces
    returning : MoreStatements → Disjunction → Braces

  pub data MoreStatements : Type 0 where
    end_statements : MoreStatements
    statement : Sentence → MoreStatements → MoreStatements

  -- statement = "let" name ":" type "=" ( expr | call ) ";"
  --           | name "=" expr ";"
  --           | "if" expr block [ "else" block ]
  --           | "while" expr block
  --           | "get" "(" expr "," expr ")" arms
  --           | "multiget" "(" expr "," expr "," expr ")" arms
  --           | ( "set" | "set8" | "copy" ) "(" name "," expr "," expr ")" ";"
  --           | "put" "(" name ")" ";"
  --           | "del" "(" expr "," expr ")" ";"
  --           | "resp" "(" expr ")" ";"
  -- call = name "(" [ expr { "," expr } ] ")"
  pub data Sentence : Type 0 where
    let_value : List ℕ → Kind → Disjunction → Sentence
    let_call : List ℕ → Kind → List ℕ → Arguments → Sentence
    assign : List ℕ → Disjunction → Sentence
    if : Disjunction → Braces → Sentence
    if_else : Disjunction → Braces → Braces → Sentence
    while : Disjunction → Braces → Sentence
    get : Disjunction → Disjunction → Arms → Sentence
    multiget : Disjunction → Disjunction → Disjunction → Arms → Sentence
    write : Writing → List ℕ → Disjunction → Disjunction → Sentence
    put : List ℕ → Sentence
    del : Disjunction → Disjunction → Sentence
    resp : Disjunction → Sentence

  -- arms = "{" "some" name "=>" block "none" "=>" block "}"
  pub data Arms : Type 0 where
    arms : List ℕ → Braces → Braces → Arms

-- [ param { "," param } ], where param = name ":" type
pub data MoreParameters : Type 0 where
  end_parameters : MoreParameters
  parameter : List ℕ → Kind → MoreParameters → MoreParameters

pub data Parameters : Type 0 where
  no_parameters : Parameters
  parameters : List ℕ → Kind → MoreParameters → Parameters

-- function = "fn" name "(" [ param { "," param } ] ")" "->" type block
pub data Definition : Type 0 where
  function : List ℕ → Parameters → Kind → Braces → Definition

-- program = function { function }
pub data MoreFunctions : Type 0 where
  end_functions : MoreFunctions
  define : Definition → MoreFunctions → MoreFunctions

pub data Whole : Type 0 where
  program : Definition → MoreFunctions → Whole
