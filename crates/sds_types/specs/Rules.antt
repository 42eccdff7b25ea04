-- The numbers and names of the rules on rows.
use Rattle.std.specs.Prelude.{ℕ, List, codes}
use Rattle.sds_types.specs.declared.rule.Rule.{Rule}
use Rattle.sds_types.specs.declared.rule.Rule.TheVariants.{UnknownTable, UnknownColumn, MissingKey, BadValue, TooLong, NullNotAllowed, DuplicateKey, RowMissing, MissingParent, HasChildren, TableFull, ManualConflict, OldMissing, SumOutOfRange, CaptureFull, UnknownChannel}

abbrev pub number_of : Rule → ℕ
number_of UnknownTable = 1
number_of UnknownColumn = 2
number_of MissingKey = 3
number_of BadValue = 4
number_of TooLong = 5
number_of NullNotAllowed = 6
number_of DuplicateKey = 7
number_of RowMissing = 8
number_of MissingParent = 9
number_of HasChildren = 10
number_of TableFull = 11
number_of ManualConflict = 12
number_of OldMissing = 13
number_of SumOutOfRange = 14
number_of CaptureFull = 15
number_of UnknownChannel = 16

abbrev pub name_of : Rule → List ℕ
name_of UnknownTable = codes "UnknownTable"
name_of UnknownColumn = codes "UnknownColumn"
name_of MissingKey = codes "MissingKey"
name_of BadValue = codes "BadValue"
name_of TooLong = codes "TooLong"
name_of NullNotAllowed = codes "NullNotAllowed"
name_of DuplicateKey = codes "DuplicateKey"
name_of RowMissing = codes "RowMissing"
name_of MissingParent = codes "MissingParent"
name_of HasChildren = codes "HasChildren"
name_of TableFull = codes "TableFull"
name_of ManualConflict = codes "ManualConflict"
name_of OldMissing = codes "OldMissing"
name_of SumOutOfRange = codes "SumOutOfRange"
name_of CaptureFull = codes "CaptureFull"
name_of UnknownChannel = codes "UnknownChannel"
