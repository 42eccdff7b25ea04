-- The rows that transforms make, without the columns that are added to.
use Rattle.std.specs.Prelude.{List, [], ◌∷◌}
use Rattle.std.specs.List.{flat_map}
use Rattle.sds_value.specs.declared.row.DocRow.{DocRow}
use Rattle.sds_types.specs.declared.transform.TransformDef.{TransformDef}
use Rattle.sds_types.specs.declared.way.Way.{Way}
use Rattle.sds_trade.specs.rules.MadeRows.{made_rows}

-- the rows that a row becomes by one transform after another
abbrev pub rows_by : Way → DocRow → List TransformDef → List DocRow
rows_by way doc transforms =
    flat_map (λ (transform : TransformDef). made_rows way transform doc doc.event) transforms
