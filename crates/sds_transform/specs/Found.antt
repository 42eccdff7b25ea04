-- A field that is looked up.
use Rattle.std.specs.Prelude.{Option, None, Some}
use Rattle.sds_value.specs.declared.row.Field.{Field}
use Rattle.sds_value.specs.declared.row.Field.TheVariants.{Null}

-- the field that is found, and null where none is
abbrev pub or_null : Option Field → Field
or_null None = Null
or_null (Some field) = field
