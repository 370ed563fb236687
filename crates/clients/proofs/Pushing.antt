-- The push of a call is an answer in turn to its client, which then runs it.
use Rattle.std.specs.Prelude.{◌||◌, ◌&&◌, map, nat_le, not, if◌then◌else◌}
use Rattle.std.specs.List.{AllByRecursion, IsDistinct, list_any, zip}
use Rattle.std.proofs.Common.{◌≡◌, ◌≤◌, ℕ, Bool, true, false, List, [], ◌∷◌, Some, None, refl, ap, sym, ◌∙◌, subst, eq-eqb}
use Rattle.std.proofs.lemmas.Bool.{le-leb}
use Rattle.sp_base.specs.Places.{Place, same_place}
use Rattle.sp_base.specs.declared.calls.Call.{Call}
use Rattle.sp_base.specs.declared.numbers.TableId.{TableId}
use Rattle.sp_base.specs.declared.reads.ReadItem.{ReadItem}
use Rattle.sp_base.specs.declared.rights.Level.{Level}
use Rattle.ext_mean.specs.declared.tree.Program.{Program}
use Rattle.ext_mean.specs.Views.{place_of}
use Rattle.parked.specs.Taking.{stands_twice}
use Rattle.rw_set.specs.ReadLists.{IsReadList}
use Rattle.task.specs.Extensions.{ExtValue}
use Rattle.task.specs.Parking.{ParkedCall, parked_of}
use Rattle.task.specs.Tasks.{IsTask}
use Rattle.task.specs.Turning.{Live}
use Rattle.wire.specs.declared.answers.Answer.{Answer}
use Rattle.wire.specs.declared.answers.Answer.TheVariants.{Answers}
use Rattle.wire.specs.declared.items.Item.{Item}
use Rattle.wire.specs.declared.items.Item.TheVariants as item
use Rattle.client_core.specs.Hearing.{Leads, answers_heard}
use Rattle.client_core.specs.Talking.{CoreValue, Known, are_in_turn, carries, fault, may_carry}
use Rattle.clients.specs.Client.{RunsBehind, allowed, asking, at_client}
use Rattle.clients.specs.Pushed.{IsCarried, pushed_of}
use Rattle.clients.proofs.Carrying.{carried-of}

both : (one other : Bool) → one ≡ true → other ≡ true → (one && other) ≡ true
both true other first second = second
both false other first second = absurd (cc)

neither : (one other : Bool) → one ≡ false → other ≡ false → (one || other) ≡ false
neither true other first second = absurd (cc)
neither false other first second = second

none-any : {A : Type 0} (test : A → Bool) (xs : List A) → AllByRecursion (λ x. test x ≡ false) xs → list_any test xs ≡ false
none-any test [] none = refl
none-any test (x ∷ xs) none = neither (test x) (list_any test xs) none.0 (none-any test xs none.1)

-- distinct places stand once
pub distinct-once : (places : List Place) → IsDistinct same_place places → stands_twice places ≡ false
unfolding IsDistinct
distinct-once [] distinct = refl
distinct-once (place ∷ places) distinct =
    neither (list_any (same_place place) places) (stands_twice places) (none-any (same_place place) places distinct.0) (distinct-once places distinct.1)

may-be-carried : (call : Call) (reads : List ReadItem) → 1 ≤ call.budget → call.budget ≤ 100000
    → IsDistinct same_place (map place_of reads) → may_carry (allowed call) reads ≡ true
may-be-carried call reads some most distinct =
    both (true && nat_le 1 call.budget && nat_le call.budget 100000) (not (stands_twice (map place_of reads)))
    (both (true && nat_le 1 call.budget) (nat_le call.budget 100000) (both true (nat_le 1 call.budget) refl (le-leb 1 call.budget some)) (le-leb call.budget 100000 most))
    (ap not (distinct-once (map place_of reads) distinct))

known-first : (program : Program) (same : Bool) → same ≡ true → (if same then Some program else None) ≡ Some program
known-first program true same = refl
known-first program false same = absurd (cc)

-- Behind the answer that its one call was pushed, a client runs it.
pub pushed-runs : (call : Call) (ext : ExtValue) (rights : List (TableId × Level)) (reads : List ReadItem) (spent : ℕ)
    → 1 ≤ call.budget → call.budget ≤ 100000 → IsDistinct same_place (map place_of reads)
    → RunsBehind (asking (allowed call) ext.program rights) (Answers (item.Pushed 0 spent reads ∷ []))
    (record { call = call; ext = ext; rights = rights; reads = reads })
pushed-runs call ext rights reads spent some most distinct =
    let known : Known = record { rights = rights; programs = (call.ext, ext.program) ∷ [] } in
    let calls : List Call = allowed call ∷ [] in
    let items : List Item = item.Pushed 0 spent reads ∷ [] in
    let in-turn : are_in_turn calls items ≡ true =
    both (may_carry (allowed call) reads) true (may-be-carried call reads some most distinct) refl in
    record {
      carried = record { answered = []; call = allowed call; reads = reads; later = [] };
      carries = record { call = refl; reads = refl; rights = refl; knows = known-first ext.program _ (eq-eqb call.ext.0 call.ext.0 refl) };
      runs = λ next after hears.
          let leads : Leads known (answers_heard known calls (Answers items)) (next, after.stage) after.known = hears.heard in
          (leads.says ∙ ap (λ (b : Bool). if b then carries known [] (zip calls items) else fault) in-turn, leads.knows);
    }

-- What a client has of a live call that is pushed to it is what it shall have.
pub pushed-as-kept : (live : Live) (parked : ParkedCall) (call : Call) (program : Program) (client : CoreValue) (rights : List (TableId × Level))
    → parked ≡ parked_of live → client ≡ asking call program rights → rights ≡ live.rights → at_client parked client ≡ pushed_of live
pushed-as-kept live parked call program client rights kept is own =
    ap (λ (p : ParkedCall). at_client p client) kept ∙ ap (λ (c : CoreValue). at_client (parked_of live) c) is
    ∙ ap (λ (list : List (TableId × Level)). record (pushed_of live) { rights = list }) own

pub pushed-carried : (live : Live) (parked : ParkedCall) (call : Call) (program : Program) (client : CoreValue) (rights : List (TableId × Level))
    → IsTask live → parked ≡ parked_of live → client ≡ asking call program rights → rights ≡ live.rights → IsCarried (at_client parked client)
pushed-carried live parked call program client rights task kept is own =
    subst IsCarried (sym (pushed-as-kept live parked call program client rights kept is own)) (carried-of live task)

-- and it runs the call
pub push-heard : (live : Live) (parked : ParkedCall) (call : Call) (client : CoreValue) (rights : List (TableId × Level)) (spent : ℕ) (answer : Answer)
    → IsTask live → parked ≡ parked_of live → call ≡ allowed parked.call → client ≡ asking call parked.ext.program rights
    → IsReadList parked.reads → answer ≡ Answers (item.Pushed 0 spent parked.reads ∷ [])
    → RunsBehind client answer (at_client parked client)
push-heard live parked call client rights spent answer task kept asked is reads told =
    let some = subst (λ (p : ParkedCall). 1 ≤ p.call.budget) (sym kept) task.some_budget in
    let most = subst (λ (p : ParkedCall). p.call.budget ≤ 100000) (sym kept) task.budget in
    let runs = pushed-runs parked.call parked.ext rights parked.reads spent some most reads.distinct in
    let same : client ≡ asking (allowed parked.call) parked.ext.program rights = is ∙ ap (λ (c : Call). asking c parked.ext.program rights) asked in
    subst (λ (a : Answer). RunsBehind client a (at_client parked client)) (sym told)
    (subst (λ (c : CoreValue). RunsBehind c (Answers (item.Pushed 0 spent parked.reads ∷ [])) (at_client parked c)) (sym same) runs)
