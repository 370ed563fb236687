-- One call more of the batch.
use Rattle.std.specs.Vec.Iter.{into_iter_items}
use Rattle.std.specs.List.{AllByRecursion}
use Rattle.std.proofs.Common.{◌≡◌, ℕ, List, [], ◌∷◌, ◌++◌, length, sym, subst, ap, ◌∙◌, append_assoc, arith, length-append}
use Rattle.sp_base.specs.declared.calls.Asked.{Asked}
use Rattle.sp_base.specs.Limits.{IsArguments}
use Rattle.wire.specs.declared.items.Item.{Item}
use Rattle.session.specs.declared.plan.Begun.{Begun}
use Rattle.session.specs.Starting.{AllStart, item_so_far}
use Rattle.session.proofs.Starting.{callers-more, starts-more}
use Rattle.session.proofs.batch.start_all.Goals as goal

pub loop-asked-preserved : goal.loop-asked-preserved
loop-asked-preserved c =
    let asked : Asked = c.in-Some.asked in
    let behind : List Asked = into_iter_items c.next.new.self in
    let steps : into_iter_items c.loop-asked.asked-iterator ≡ asked ∷ behind = c.in-Some.ensures.steps.0 in
    let args = subst (λ (calls : List Asked). AllByRecursion (λ call. IsArguments call.args) calls) steps c.loop-asked.invariant.args in
    let calls : List Asked = c.loop-asked.yielded ++ asked ∷ [] in
    record {
      whole = append_assoc c.loop-asked.yielded (asked ∷ []) behind
          ∙ ap (λ (rest : List Asked). c.loop-asked.yielded ++ rest) (sym steps) ∙ c.loop-asked.invariant.whole;
      args = args.1;
      callers = c.in_ok-push.ensures.items ∙ ap (λ (list : List ℕ). list ++ asked.caller ∷ []) c.loop-asked.invariant.callers
          ∙ sym (callers-more c.loop-asked.yielded asked);
      many = omega (
        arith,
        ap length c.in_ok-add.ensures.items,
        length-append c.loop-asked.started.items.items (item_so_far c.begin_one-start.result ∷ []),
        length-append c.loop-asked.yielded (asked ∷ []),
        c.loop-asked.invariant.many,
      );
      started = λ journal stands fits.
          subst (λ (items : List Item). AllStart c.args.session.now c.args.book.now journal c.args.tenant calls items c.add.new.self.begun.items) (sym c.in_ok-add.ensures.items)
          (subst (λ (begun : List Begun). AllStart c.args.session.now c.args.book.now journal c.args.tenant calls
          (c.loop-asked.started.items.items ++ item_so_far c.begin_one-start.result ∷ []) begun) (sym c.in_ok-add.ensures.begun)
          (starts-more c.args.session.now c.args.book.now journal c.args.tenant c.loop-asked.yielded c.loop-asked.started.items.items c.loop-asked.started.begun.items
          asked c.begin_one-start.result c.requires.admitted c.loop-asked.invariant.many
          (c.begin_one-start.ensures journal stands fits c.loop-asked.yielded (c.as_slice.ensures.value ∙ c.loop-asked.invariant.callers))
          (c.loop-asked.invariant.started journal stands fits)));
    }
