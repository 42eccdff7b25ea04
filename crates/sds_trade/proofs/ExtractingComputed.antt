-- The worked cases of Extracting, each computed from the definitions.
use Rattle.std.proofs.Common.{refl}
use Rattle.std.specs.Fmt.{digits}
use Rattle.std.specs.Str.{chars}
use lib.Utf8.{encode}
use Rattle.sds_trade.specs.worked.Extracting.{ChangesAreWritten, TransformsAreMeant, OthersAreNot, DeletesAreNotAdded}

pub changes_are_written : ChangesAreWritten
unfolding encode digits chars
changes_are_written = (refl, refl, refl)

pub transforms_are_meant : TransformsAreMeant
unfolding encode digits chars
transforms_are_meant = (refl, refl, refl, refl)

pub others_are_not : OthersAreNot
unfolding encode digits chars
others_are_not = refl

pub deletes_are_not_added : DeletesAreNotAdded
unfolding encode digits chars
deletes_are_not_added = refl
