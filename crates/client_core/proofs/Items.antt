-- An item that is no push has no reads.
use Rattle.std.proofs.Common.{◌≡◌, ℕ, List, None, refl}
use Rattle.sp_base.specs.declared.reads.ReadItem.{ReadItem}
use Rattle.wire.specs.declared.items.Item.{Item}
use Rattle.wire.specs.declared.items.Item.TheVariants as item
use Rattle.client_core.specs.Talking.{pushed_reads}

pub not-pushed : (one : Item) → ((load spent : ℕ) (reads : List ReadItem) → one ≡ item.Pushed load spent reads → ⊥) → pushed_reads one ≡ None
not-pushed (item.Committed n ended) other = refl
not-pushed (item.Stale last at) other = refl
not-pushed (item.Conflict table key read read_at now now_at) other = refl
not-pushed (item.Pushed load spent reads) other = absurd (other load spent reads refl)
not-pushed (item.Full at) other = refl
not-pushed (item.Busy number) other = refl
not-pushed item.Repeated other = refl
not-pushed (item.NoExtension count at) other = refl
not-pushed item.BadBudget other = refl
not-pushed item.Memory other = refl
not-pushed (item.Foreign table) other = refl
not-pushed (item.Shape code) other = refl
not-pushed item.Lied other = refl
not-pushed item.NotParked other = refl
