-- The worked cases of Faults, each computed from the definitions.
use Rattle.std.proofs.Common.{refl}
use Rattle.std.specs.Fmt.{digits}
use Rattle.std.specs.Str.{chars}
use lib.Utf8.{encode}
use Rattle.sds_examples.specs.Faults.{FaultsLoseNothing}

pub faults_lose_nothing : FaultsLoseNothing
unfolding encode digits chars
faults_lose_nothing = record { prints = refl; stands = refl }
