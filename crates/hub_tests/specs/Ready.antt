-- When a pass may go to another thread.
use Rattle.std.specs.Prelude.{◌≡◌, false}
use Rattle.hub.specs.Passes.{HubView, PassView, IsPassOf}

-- a pass of this hub that has nothing out and is not inside
abbrev pub IsReady : {B E : Type 0} → HubView B → PassView B E → Type 0
IsReady hub pass = IsPassOf hub pass × (pass.out ≡ false) × (pass.inside ≡ false)
