-- How many rows a batch may have to be loaded.
use Rattle.std.specs.Prelude.{◌^◌, Bool, nat_lt, length}
use Rattle.sds_types.specs.declared.document.BatchDoc.{BatchDoc}

abbrev pub has_few_rows : BatchDoc → Bool
has_few_rows document = nat_lt (length document.rows) (2 ^ 32)
