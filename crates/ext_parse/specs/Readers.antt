-- A reader of the grammar between two tokens: where it stands, what the answer to the tokens left is,
-- and how a call that reads on agrees with it.
use Rattle.std.specs.Prelude.{◌≡◌, ℕ, ◌+◌, ◌&&◌, true, false, List, [], ◌∷◌, ◌++◌, Option, Some, None, Result, Ok, Err, nat_le, length, if◌then◌else◌}
use Rattle.ext_mean.specs.declared.codes.SyntaxCode.TheVariants as code
use Rattle.ext_mean.specs.declared.statement.Kind.{Kind}
use Rattle.ext_mean.specs.declared.token.Placed.{Placed}
use Rattle.ext_mean.specs.declared.token.Token.{Token}
use Rattle.ext_mean.specs.declared.tree.Param.{Param}
use Rattle.ext_mean.specs.Wording.{is_operator}
use Rattle.ext_tokens.specs.declared.scan.End.{End}
use Rattle.ext_tokens.specs.declared.scan.End.TheVariants as end
use Rattle.ext_grammar.specs.Coming.{Coming, name_of, kind_of}
use Rattle.ext_grammar.specs.Reading.{Counted, Ending, Answer, faulty, answer}
use Rattle.ext_parse.specs.declared.fault.ParseFault.{ParseFault}
use Rattle.ext_parse.specs.declared.fault.ParseFault.TheVariants as fault
use Rattle.ext_parse.specs.declared.reader.Reader.{Reader}

-- what was counted of the tokens before a place, what stands behind the last token, and the tokens that
-- are left
pub record Stand : Type 0 where
  pub counted : Counted
  pub ending : Ending
  pub rest : List Placed

-- behind the last token: the end of a text of so many lines, or a place that is faulty by itself
abbrev pub ending_of : End → Ending
ending_of (end.Text line) = record { complete = true; line = line; code = code.Expected }
ending_of (end.Fault line which) = record { complete = false; line = line; code = which }

unfoldable pub stand : Reader → Stand
stand reader = record {
  counted = record {
    functions = reader.functions;
    locals = reader.locals;
    operators = reader.operators;
    lines = reader.lines.items;
  };
  ending = ending_of reader.end;
  rest = reader.rest.now;
}

-- the answer to the tokens that are left, by what is to come
unfoldable pub left : Coming → Stand → Answer
left coming there = answer coming there.counted there.ending there.rest

abbrev pub first_of : List Placed → Option Token
first_of [] = None
first_of (first ∷ rest) = Some first.token

abbrev pub behind_first : List Placed → List Placed
behind_first [] = []
behind_first (first ∷ rest) = rest

abbrev pub first_line : List Placed → List ℕ
first_line [] = []
first_line (first ∷ rest) = first.line ∷ []

-- the next token
unfoldable pub next : Stand → Option Token
next there = first_of there.rest

-- behind the next token, where it changes no count
unfoldable pub advanced : Stand → Stand
advanced there = record { counted = there.counted; ending = there.ending; rest = behind_first there.rest }

-- in an item that has so many operators, or in none with 0
unfoldable pub going_on : ℕ → Stand → Stand
going_on operators there = record {
  counted = record {
    functions = there.counted.functions;
    locals = there.counted.locals;
    operators = operators;
    lines = there.counted.lines;
  };
  ending = there.ending;
  rest = there.rest;
}

-- with one operator more
unfoldable pub with_operator : Stand → Stand
with_operator there = record {
  counted = record {
    functions = there.counted.functions;
    locals = there.counted.locals;
    operators = there.counted.operators + 1;
    lines = there.counted.lines;
  };
  ending = there.ending;
  rest = there.rest;
}

-- with one local more
unfoldable pub with_local : Stand → Stand
with_local there = record {
  counted = record {
    functions = there.counted.functions;
    locals = there.counted.locals + 1;
    operators = there.counted.operators;
    lines = there.counted.lines;
  };
  ending = there.ending;
  rest = there.rest;
}

-- in an item that begins at the next token
unfoldable pub begun : Stand → Stand
begun there = record {
  counted = record {
    functions = there.counted.functions;
    locals = there.counted.locals;
    operators = 0;
    lines = there.counted.lines ++ first_line there.rest;
  };
  ending = there.ending;
  rest = there.rest;
}

-- in a function that begins at the next token
unfoldable pub with_function : Stand → Stand
with_function there = record {
  counted = record {
    functions = there.counted.functions + 1;
    locals = 0;
    operators = there.counted.operators;
    lines = there.counted.lines;
  };
  ending = there.ending;
  rest = there.rest;
}

-- the fault of a place whose next token no program has there
abbrev pub refused : Counted → Ending → List Placed → Answer
refused counted ending [] = faulty ending.line ending.code
refused counted ending (first ∷ rest) =
    if is_operator first.token && nat_le 64 counted.operators then faulty first.line code.Many
    else faulty first.line code.Expected

unfoldable pub refusal : Stand → Answer
refusal there = refused there.counted there.ending there.rest

-- the answer that is a fault of the text; where memory ran out, nothing is said of the text's answer
unfoldable pub answer_for : ParseFault → Answer → Answer
answer_for (fault.Syntax line which) total = faulty line which
answer_for fault.Memory total = total

-- A call that reads on agrees with the answer to all: what it gives leads to the same answer, and its
-- fault is the answer.
abbrev pub Reads : {A : Type 0} → Result A ParseFault → (A → Answer) → Answer → Type 0
Reads (Ok value) continue total = total ≡ continue value
Reads (Err fault) continue total = total ≡ answer_for fault total

-- how many tokens are left
unfoldable pub remaining : Stand → ℕ
remaining there = length there.rest

-- the fault of a place whose next token is one too many
abbrev pub crowded : Counted → Ending → List Placed → Answer
crowded counted ending [] = refused counted ending []
crowded counted ending (first ∷ rest) = faulty first.line code.Many

unfoldable pub crowding : Stand → Answer
crowding there = crowded there.counted there.ending there.rest

-- the name, the kind, or the word that comes next
abbrev pub name_at : Option Token → Option (List ℕ)
name_at (Some this) = name_of this
name_at None = None

abbrev pub kind_at : Option Token → Option Kind
kind_at (Some this) = kind_of this
kind_at None = None

-- a parameter of that name and kind
abbrev pub param_of : List ℕ → Kind → Param
param_of name kind = record { name = name; kind = kind }
