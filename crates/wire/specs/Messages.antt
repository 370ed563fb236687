-- Reading messages.
use Rattle.std.specs.Prelude.{ℕ, List}
use Rattle.std.specs.Int.{w32, w64}
use Rattle.wire.specs.declared.answers.Answer.{Answer}
use Rattle.wire.specs.declared.answers.Answer.TheVariants as answers
use Rattle.wire.specs.declared.answers.FetchAnswer.{FetchAnswer}
use Rattle.wire.specs.declared.answers.FetchAnswer.TheVariants as fetched
use Rattle.wire.specs.declared.answers.InstallAnswer.{InstallAnswer}
use Rattle.wire.specs.declared.answers.InstallAnswer.TheVariants as installed
use Rattle.wire.specs.declared.answers.PutAnswer.{PutAnswer}
use Rattle.wire.specs.declared.answers.PutAnswer.TheVariants as puts
use Rattle.wire.specs.declared.answers.TextAnswer.{TextAnswer}
use Rattle.wire.specs.declared.answers.TextAnswer.TheVariants as texts
use Rattle.wire.specs.declared.items.Item.{Item}
use Rattle.wire.specs.declared.items.Item.TheVariants.{Committed, Stale, Conflict, Pushed, Full, Busy, Repeated, NoExtension, BadBudget, Memory, Foreign, Shape, Lied, NotParked}
use Rattle.wire.specs.declared.requests.Request.{Request}
use Rattle.wire.specs.declared.requests.Request.TheVariants.{Hello, Install, Batch, Fetch, Finish, Put, TextOf, Bye}
use Rattle.wire.specs.Readers.{Reader, bind, made, done, tagged, arm, no_arm, repeated}
use Rattle.wire.specs.Fields.{byte_in, number_at, u16_in, key_at, long_at, opt_at, outcome_at, writes_at, reads_at, calls_at, rights_at}

abbrev pub u32_at : Reader ℕ
u32_at = number_at w32

abbrev pub u64_at : Reader ℕ
u64_at = number_at w64

-- ---- requests

unfoldable pub hello_at : Reader Request
hello_at bytes = bind u32_at (λ tenant. made (λ secret. Hello (record { 0 = tenant }) secret) u64_at) bytes

unfoldable pub fetch_at : Reader Request
fetch_at bytes =
    bind u32_at (λ caller. bind u64_at (λ number. bind u32_at (λ table.
    made (λ place. Fetch caller (record { 0 = number }) (record { 0 = table }) place) key_at))) bytes

unfoldable pub finish_at : Reader Request
finish_at bytes =
    bind u32_at (λ caller. bind u64_at (λ number. bind outcome_at (λ ended.
    made (λ changed. Finish caller (record { 0 = number }) ended changed) writes_at))) bytes

unfoldable pub put_at : Reader Request
put_at bytes =
    bind u32_at (λ table. bind key_at (λ place. made (λ value. Put (record { 0 = table }) place value) (long_at 0 4096))) bytes

unfoldable pub request_at : Reader Request
request_at bytes = tagged
    (arm 1 hello_at (arm 2 (made Install (long_at 1 16384)) (arm 3 (made Batch calls_at) (arm 4 fetch_at (arm 5 finish_at
    (arm 6 put_at (arm 7 (made (λ ext. TextOf (record { 0 = ext })) u32_at) (arm 8 (done Bye) no_arm)))))))) bytes

-- ---- items

unfoldable pub committed_at : Reader Item
committed_at bytes = bind u64_at (λ n. made (λ ended. Committed n ended) outcome_at) bytes

unfoldable pub stale_at : Reader Item
stale_at bytes = bind u64_at (λ last. made (λ at. Stale last at) u64_at) bytes

unfoldable pub conflict_at : Reader Item
conflict_at bytes =
    bind u32_at (λ table. bind key_at (λ place. bind u64_at (λ read. bind u64_at (λ read_at. bind u64_at (λ now.
    made (λ now_at. Conflict (record { 0 = table }) place read read_at now now_at) u64_at))))) bytes

unfoldable pub pushed_at : Reader Item
pushed_at bytes = bind u32_at (λ load. bind u32_at (λ spent. made (λ seen. Pushed load spent seen) reads_at)) bytes

unfoldable pub no_extension_at : Reader Item
no_extension_at bytes = bind u32_at (λ count. made (λ at. NoExtension count at) u64_at) bytes

-- an item of a batch
unfoldable pub batch_item_at : Reader Item
batch_item_at bytes = tagged
    (arm 0 committed_at (arm 1 stale_at (arm 2 conflict_at (arm 3 pushed_at (arm 4 (made Full u64_at)
    (arm 5 (made (λ number. Busy (record { 0 = number })) u64_at) (arm 6 (done Repeated) (arm 7 no_extension_at
    (arm 8 (done BadBudget) (arm 9 (done Memory) no_arm)))))))))) bytes

-- an item of a parked call
unfoldable pub parked_item_at : Reader Item
parked_item_at bytes = tagged
    (arm 0 committed_at (arm 1 stale_at (arm 2 conflict_at (arm 4 (made Full u64_at) (arm 9 (done Memory)
    (arm 10 (made (λ table. Foreign (record { 0 = table })) u32_at) (arm 11 (made Shape (byte_in 1 3))
    (arm 12 (done Lied) (arm 13 (done NotParked) no_arm))))))))) bytes

unfoldable pub items_at : Reader (List Item)
items_at bytes = bind (u16_in 1 64) (repeated batch_item_at) bytes

-- ---- answers

unfoldable pub installed_at : Reader InstallAnswer
installed_at bytes = bind u64_at (λ n. made (λ ext. installed.Done n (record { 0 = ext })) u32_at) bytes

unfoldable pub rejected_at : Reader InstallAnswer
rejected_at bytes = bind u32_at (λ line. made (λ code. installed.Rejected line code) (byte_in 1 16)) bytes

unfoldable pub install_answer_at : Reader InstallAnswer
install_answer_at bytes = tagged
    (arm 0 installed_at (arm 1 rejected_at (arm 2 (made installed.Full u64_at) (arm 3 (done installed.Memory) no_arm)))) bytes

unfoldable pub found_at : Reader FetchAnswer
found_at bytes = bind u64_at (λ version. bind u64_at (λ read_at. made (λ value. fetched.Found version read_at value) opt_at)) bytes

unfoldable pub fetch_answer_at : Reader FetchAnswer
fetch_answer_at bytes = tagged
    (arm 0 found_at (arm 1 (done fetched.Denied) (arm 2 (done fetched.NotParked) (arm 3 (done fetched.Memory)
    (arm 4 (done fetched.Many) no_arm))))) bytes

unfoldable pub put_answer_at : Reader PutAnswer
put_answer_at bytes = tagged
    (arm 0 (made puts.Done u64_at) (arm 1 (done puts.Denied) (arm 2 (made puts.Full u64_at) (arm 3 (done puts.Memory) no_arm)))) bytes

unfoldable pub absent_at : Reader TextAnswer
absent_at bytes = bind u32_at (λ count. made (λ at. texts.NoExtension count at) u64_at) bytes

unfoldable pub text_answer_at : Reader TextAnswer
text_answer_at bytes = tagged
    (arm 0 (made texts.Text (long_at 1 16384)) (arm 1 absent_at (arm 3 (done texts.Memory) no_arm))) bytes

unfoldable pub welcome_at : Reader Answer
welcome_at bytes = bind rights_at (λ granted. made (λ at. answers.Welcome granted at) u64_at) bytes

unfoldable pub answer_at : Reader Answer
answer_at bytes = tagged
    (arm 65 welcome_at (arm 66 (made answers.Installed install_answer_at) (arm 67 (made answers.Answers items_at)
    (arm 68 (made answers.Fetched fetch_answer_at) (arm 69 (made answers.Finished parked_item_at)
    (arm 70 (made answers.PutDone put_answer_at) (arm 71 (made answers.Text text_answer_at)
    (arm 72 (made answers.Fault (byte_in 1 5)) no_arm)))))))) bytes
