-- Records as a keeper tells them, and the parts whose values fit their tables.
use Rattle.std.specs.Prelude.{List, map}
use Rattle.sds_outside.specs.Records as outside
use Rattle.sds_types.specs.declared.config.Config.{Config}
use Rattle.sds_types.specs.declared.row.Change.{Change}
use Rattle.sds_history.specs.history.Records.{Record}
use Rattle.sds_records.specs.Parts.{FitsSide}

-- a record as a pair of its key and its body
abbrev pub kept_pair : Record → outside.Record
kept_pair kept = (kept.key, kept.body)

abbrev pub pairs : List Record → List outside.Record
pairs records = map kept_pair records

-- the sides of a change are rows of its table
abbrev pub FitsSides : Config → Change → Type 0
FitsSides config change = FitsSide config.tables change.table change.new
    × FitsSide config.tables change.table change.old
