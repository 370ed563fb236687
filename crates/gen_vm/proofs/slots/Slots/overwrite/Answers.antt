use Rattle.std.proofs.Common.{◌≡◌, ◌<◌, length, get_or, arith}
use Rattle.gen_vm.proofs.StackLemmas.{set-set, slot-read}
use Rattle.gen_vm.proofs.slots.Slots.overwrite.Goals as goal

pub returns : goal.returns
returns c =
    let items = c.self.inside.items.items in
    let old = c.replace-value.result in
    let within : c.args.number < length items = omega arith in
    let same : items ≡ c.args.self.now = c.self.view_is in
    let first = c.index_mut.ensures.value in
    let moved = c.replace-value.ensures.value in
    let read : old ≡ get_or items c.args.number old = cc in
    let is = slot-read items c.args.number old within read in
    let again = set-set items c.args.number c.replace-value.new.dest c.written.result in
    let new = c.written.ensures in
    cc
