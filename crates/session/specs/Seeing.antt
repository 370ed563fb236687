-- What is seen of a journal of some length, and items whose entries are counted by a number of eight bytes.
use Rattle.std.specs.Prelude.{◌<◌, ◌+◌, ◌^◌, ℕ, max, List}
use Rattle.std.specs.List.{AllByRecursion}
use Rattle.book.specs.declared.answers.Install.{Install}
use Rattle.book.specs.declared.answers.Install.TheVariants as install
use Rattle.book.specs.declared.answers.Put.{Put}
use Rattle.book.specs.declared.answers.Put.TheVariants as put
use Rattle.wire.specs.declared.items.Item.{Item}
use Rattle.wire.specs.declared.items.Item.TheVariants as item

-- the number behind the entry that is shown is one
abbrev pub IsCounted : Item → Type 0
IsCounted (item.Committed n outcome) = n + 1 < 2 ^ 64
IsCounted _ = Unit {0}

abbrev pub AllCounted : List Item → Type 0
AllCounted items = AllByRecursion IsCounted items

-- a put that was made or has no room shows the journal's length
abbrev pub put_seen : ℕ → ℕ → Put → ℕ
put_seen seen length (put.Done n) = max seen length
put_seen seen length put.Denied = seen
put_seen seen length (put.Full at) = max seen length
put_seen seen length put.Memory = seen

-- and so does an installation
abbrev pub install_seen : ℕ → ℕ → Install → ℕ
install_seen seen length (install.Installed n ext) = max seen length
install_seen seen length (install.Full at) = max seen length
install_seen seen length install.Memory = seen
