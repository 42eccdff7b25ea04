-- The numbers, names and paths of the refusals of a configuration.
use Rattle.std.specs.Prelude.{ℕ, List, codes, Option, Some, None}
use Rattle.sds_types.specs.declared.config_refusal.ConfigRefusal.{ConfigRefusal}
use Rattle.sds_types.specs.declared.config_refusal.ConfigRefusal.TheVariants.{NotToml, MissingEntry, WrongType, UnknownName, Duplicate, NoLink, BadExpression, BadSetting, TooMany, NoMemory}

-- out of memory is no statement about the file
abbrev pub number_of : ConfigRefusal → ℕ
number_of (NotToml line column) = 1
number_of (MissingEntry path) = 2
number_of (WrongType path) = 3
number_of (UnknownName path) = 4
number_of (Duplicate path) = 5
number_of (NoLink path) = 6
number_of (BadExpression router place) = 7
number_of (BadSetting path) = 8
number_of (TooMany path) = 9
number_of NoMemory = 0

abbrev pub name_of : ConfigRefusal → List ℕ
name_of (NotToml line column) = codes "NotToml"
name_of (MissingEntry path) = codes "MissingEntry"
name_of (WrongType path) = codes "WrongType"
name_of (UnknownName path) = codes "UnknownName"
name_of (Duplicate path) = codes "Duplicate"
name_of (NoLink path) = codes "NoLink"
name_of (BadExpression router place) = codes "BadExpression"
name_of (BadSetting path) = codes "BadSetting"
name_of (TooMany path) = codes "TooMany"
name_of NoMemory = codes "NoMemory"

-- the text that a refusal names
abbrev pub path_of : ConfigRefusal → Option (List ℕ)
path_of (NotToml line column) = None
path_of (MissingEntry path) = Some path
path_of (WrongType path) = Some path
path_of (UnknownName path) = Some path
path_of (Duplicate path) = Some path
path_of (NoLink path) = Some path
path_of (BadExpression router place) = Some router
path_of (BadSetting path) = Some path
path_of (TooMany path) = Some path
path_of NoMemory = None
