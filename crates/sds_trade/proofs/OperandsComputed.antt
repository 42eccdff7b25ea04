-- The worked cases of Operands, each computed from the definitions.
use Rattle.std.proofs.Common.{refl}
use Rattle.std.specs.Fmt.{digits}
use Rattle.std.specs.Str.{chars}
use lib.Utf8.{encode}
use Rattle.sds_trade.specs.worked.Operands.{WordsAreTold, DefaultNamesAll, LookupsLookRight, ChoicesByNode}

pub words_are_told : WordsAreTold
unfolding encode digits chars
words_are_told = (refl, refl, refl, refl, refl)

pub default_names_all : DefaultNamesAll
unfolding encode digits chars
default_names_all = refl

pub lookups_look_right : LookupsLookRight
unfolding encode digits chars
lookups_look_right = (refl, refl, refl, refl, refl)

pub choices_by_node : ChoicesByNode
unfolding encode digits chars
choices_by_node = (refl, refl)
