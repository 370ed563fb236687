-- The size of an installation is that of its text.
use Rattle.std.proofs.Common.{List, ℕ, ap, ◌∙◌}
use Rattle.journal.specs.declared.entry.Entry.TheVariants.{Install}
use Rattle.journal.specs.Sizes.{size_of_entry}
use Rattle.journal.proofs.size.entry_size.Goals as goal

pub returns-in-Install-clause-size : goal.returns-in-Install-clause-size
returns-in-Install-clause-size c =
    rw c.in-Install.is (c.install_size.ensures.size c.in-Install.tenant
    ∙ ap (λ (text : List ℕ). size_of_entry (Install c.in-Install.tenant text)) c.bytes-in-Install.ensures)
