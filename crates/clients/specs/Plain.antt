-- What the plain body of a pushed call asks for.
use Rattle.ext_mean.specs.declared.run.Run.{Run}
use Rattle.ext_mean.specs.Outcomes.{EndsWith}
use Rattle.clients.specs.declared.plain.Asks.{Asks}
use Rattle.clients.specs.declared.plain.Asks.TheVariants.{Fetch, Finish}
use Rattle.clients.specs.Pushed.{WantsAt}

-- what a client asks for, by what the program means
abbrev pub IsAskedBy : Run → Asks → Type 0
IsAskedBy run (Fetch table key) = WantsAt run table key
IsAskedBy run (Finish outcome writes) = EndsWith run outcome writes
