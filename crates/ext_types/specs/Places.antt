-- Where an item stands.
use Rattle.ext_mean.specs.TypesOfItems.{Setting}
use Rattle.ext_types.specs.declared.place.Place.{Place}

abbrev pub setting : Place → Setting
setting place = record {
  functions = place.functions.now;
  before = place.before.now;
  result = place.result;
}
