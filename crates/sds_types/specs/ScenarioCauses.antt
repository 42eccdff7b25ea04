-- The numbers and names of the causes for which a scenario isn't played on.
use Rattle.std.specs.Prelude.{ℕ, List, codes}
use Rattle.sds_types.specs.declared.scenario.ScenarioCause.{ScenarioCause}
use Rattle.sds_types.specs.declared.scenario.ScenarioCause.TheVariants.{BadForm, UnknownName, Twice, Unfinished, TooLong, NotSupported}

abbrev pub number_of : ScenarioCause → ℕ
number_of BadForm = 1
number_of UnknownName = 2
number_of Twice = 3
number_of Unfinished = 4
number_of TooLong = 5
number_of NotSupported = 6

abbrev pub name_of : ScenarioCause → List ℕ
name_of BadForm = codes "BadForm"
name_of UnknownName = codes "UnknownName"
name_of Twice = codes "Twice"
name_of Unfinished = codes "Unfinished"
name_of TooLong = codes "TooLong"
name_of NotSupported = codes "NotSupported"
