-- The one spelling of each request, and which requests have one.
use Rattle.std.specs.Prelude.{◌≡◌, ℕ, ◌≤◌, List, [], ◌∷◌, ◌++◌, length, take}
use Rattle.sp_base.specs.Limits.{IsKey, IsValue, IsText}
use Rattle.wire.specs.declared.requests.Request.{Request}
use Rattle.wire.specs.declared.requests.Request.TheVariants.{Hello, Install, Batch, Fetch, Finish, Put, TextOf, Bye}
use Rattle.sp_base.specs.Spelling.{u32, u64, IsU32, IsU64, key, long, outcome, FitsOutcome, writes, FitWrites, asked_calls, FitCalls}

abbrev pub request_kind : Request → ℕ
request_kind (Hello tenant secret) = 1
request_kind (Install text) = 2
request_kind (Batch calls) = 3
request_kind (Fetch caller number table place) = 4
request_kind (Finish caller number ended changed) = 5
request_kind (Put table place value) = 6
request_kind (TextOf ext) = 7
request_kind Bye = 8

abbrev pub request_fields : Request → List ℕ
request_fields (Hello tenant secret) = u32 tenant.0 ++ u64 secret
request_fields (Install text) = long text
request_fields (Batch calls) = asked_calls calls
request_fields (Fetch caller number table place) = u32 caller ++ (u64 number.0 ++ (u32 table.0 ++ key place))
request_fields (Finish caller number ended changed) =
    u32 caller ++ (u64 number.0 ++ (outcome ended ++ writes changed))
request_fields (Put table place value) = u32 table.0 ++ (key place ++ long value)
request_fields (TextOf ext) = u32 ext.0
request_fields Bye = []

-- a request: a byte of kind, and the fields
abbrev pub request : Request → List ℕ
request message = request_kind message ∷ request_fields message

-- each field is within its range
abbrev pub FitsRequest : Request → Type 0
FitsRequest (Hello tenant secret) = IsU32 tenant.0 × IsU64 secret
FitsRequest (Install text) = IsText text
FitsRequest (Batch calls) = FitCalls calls
FitsRequest (Fetch caller number table place) = IsU32 caller × (IsU64 number.0 × (IsU32 table.0 × IsKey place))
FitsRequest (Finish caller number ended changed) = IsU32 caller × (IsU64 number.0 × (FitsOutcome ended × FitWrites changed))
FitsRequest (Put table place value) = IsU32 table.0 × (IsKey place × IsValue value)
FitsRequest (TextOf ext) = IsU32 ext.0
FitsRequest Bye = Unit {0}

-- the body is a request's spelling
pub record SpellsRequest (body : List ℕ) (message : Request) : Type 0 where
  pub fits : FitsRequest message
  pub spelled : body ≡ request message

-- some request's spelling begins so
pub record BeginsRequest (front : List ℕ) : Type 0 where
  pub message : Request
  pub fits : FitsRequest message
  pub more : List ℕ
  pub spelled : request message ≡ front ++ more

-- the first `at` bytes of the body begin a request, and no more of them do
pub record LongestRequest (body : List ℕ) (at : ℕ) : Type 0 where
  pub within : at ≤ length body
  pub begins : BeginsRequest (take at body)
  pub longest : (k : ℕ) → k ≤ length body → BeginsRequest (take k body) → k ≤ at
