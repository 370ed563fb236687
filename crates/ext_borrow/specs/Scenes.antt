-- Where an item stands.
use Rattle.ext_mean.specs.OwnedItems as items
use Rattle.ext_borrow.specs.declared.scene.Scene.{Scene}

abbrev pub seen : Scene → items.Scene
seen scene = record { scope = scene.scope.items; held = scene.held.items }
