-- Laws of rows that no transform is for: they are written and loaded as they are.
use Rattle.std.specs.Prelude.{◌≡◌, [], ◌∷◌}
use Rattle.sds_value.specs.declared.row.DocRow.{DocRow}
use Rattle.sds_types.specs.declared.config.Config.{Config}
use Rattle.sds_types.specs.declared.row.Change.{Change}
use Rattle.sds_types.specs.declared.transform.Point.TheVariants.{Extract, Load}
use Rattle.sds_types.specs.declared.way.Way.{Way}
use Rattle.sds_trade.specs.rules.Sides.{doc_of_change}
use Rattle.sds_trade.specs.rules.Transforms.{transforms_for, extracted_rows, shaped_rows}

abbrev pub PlainChangesAreExtracted : Type 0
PlainChangesAreExtracted = (config : Config) (way : Way) (change : Change)
    → transforms_for config way Extract (doc_of_change config.tables change).table ≡ []
    → extracted_rows config way change ≡ doc_of_change config.tables change ∷ []

abbrev pub PlainRowsAreShaped : Type 0
PlainRowsAreShaped = (config : Config) (way : Way) (doc : DocRow)
    → transforms_for config way Load doc.table ≡ []
    → shaped_rows config way doc ≡ record { row = doc; adds = [] } ∷ []
