-- The fields of a key among those of a row.
use Rattle.std.specs.Prelude.{ℕ, List, [], map, Option, None, Some}
use Rattle.sds_value.specs.declared.row.Field.{Field}
use Rattle.sds_trade.specs.rules.Sides.{field_at}

-- the fields at these places, and none where there are no fields
abbrev pub key_fields_at : List ℕ → Option (List Field) → List Field
key_fields_at places None = []
key_fields_at places (Some fields) = map (field_at fields) places
