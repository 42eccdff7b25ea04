-- A value that is looked up.
use Rattle.std.specs.Prelude.{Option, None, Some}
use Rattle.sds_value.specs.declared.kind.Value.{Value}
use Rattle.sds_value.specs.declared.kind.Value.TheVariants.{Null}

-- the value that is found, and null where none is
abbrev pub or_null : Option Value → Value
or_null None = Null
or_null (Some value) = value
