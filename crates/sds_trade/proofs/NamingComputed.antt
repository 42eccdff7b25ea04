-- The worked cases of Naming, each computed from the definitions.
use Rattle.std.proofs.Common.{refl}
use Rattle.std.specs.Fmt.{digits}
use Rattle.std.specs.Str.{chars}
use lib.Utf8.{encode}
use Rattle.sds_trade.specs.worked.Naming.{MovesToNew, MovesFromOld, DeleteLooksBack, InsertHasNoOld, WordsAreApart, LookupDecides, ChoiceDecides}

pub moves_to_new : MovesToNew
unfolding encode digits chars
moves_to_new = refl

pub moves_from_old : MovesFromOld
unfolding encode digits chars
moves_from_old = refl

pub delete_looks_back : DeleteLooksBack
unfolding encode digits chars
delete_looks_back = (refl, refl)

pub insert_has_no_old : InsertHasNoOld
unfolding encode digits chars
insert_has_no_old = (refl, refl, refl)

pub words_are_apart : WordsAreApart
unfolding encode digits chars
words_are_apart = (refl, refl, refl, refl, refl)

pub lookup_decides : LookupDecides
unfolding encode digits chars
lookup_decides = (refl, refl)

pub choice_decides : ChoiceDecides
unfolding encode digits chars
choice_decides = (refl, refl)
