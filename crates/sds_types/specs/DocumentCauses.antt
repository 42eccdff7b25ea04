-- The numbers and names of the causes for which a document isn't read on.
use Rattle.std.specs.Prelude.{ℕ, List, codes}
use Rattle.sds_types.specs.declared.document.DocumentCause.{DocumentCause}
use Rattle.sds_types.specs.declared.document.DocumentCause.TheVariants.{BadLine, UnknownDirective, RefusedDirective, OutOfPlace, BadFields, CommitMismatch, Unfinished, WrongNode, TooLong}

abbrev pub number_of : DocumentCause → ℕ
number_of BadLine = 1
number_of UnknownDirective = 2
number_of RefusedDirective = 3
number_of OutOfPlace = 4
number_of BadFields = 5
number_of CommitMismatch = 6
number_of Unfinished = 7
number_of WrongNode = 8
number_of TooLong = 9

abbrev pub name_of : DocumentCause → List ℕ
name_of BadLine = codes "BadLine"
name_of UnknownDirective = codes "UnknownDirective"
name_of RefusedDirective = codes "RefusedDirective"
name_of OutOfPlace = codes "OutOfPlace"
name_of BadFields = codes "BadFields"
name_of CommitMismatch = codes "CommitMismatch"
name_of Unfinished = codes "Unfinished"
name_of WrongNode = codes "WrongNode"
name_of TooLong = codes "TooLong"
