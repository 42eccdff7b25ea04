-- How many items an array has.
use Rattle.std.proofs.Common.{◌≡◌, List, [], ◌∷◌, length, arith}
use Rattle.toml.specs.declared.value.Value.{Value}
use Rattle.toml.specs.View.{items_view}
use Rattle.sds_config.specs.Sections.{count}

pub count_items : (values : List Value) → count (items_view values) ≡ length values
count_items [] = omega arith
count_items (value ∷ values) = omega (arith, count_items values)
