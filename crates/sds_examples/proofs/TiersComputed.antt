-- The worked cases of Tiers, each computed from the definitions.
use Rattle.std.proofs.Common.{refl}
use Rattle.std.specs.Fmt.{digits}
use Rattle.std.specs.Str.{chars}
use lib.Utf8.{encode}
use Rattle.sds_examples.specs.Tiers.{NothingComesBack, PingBackComesBack}

pub nothing_comes_back : NothingComesBack
unfolding encode digits chars
nothing_comes_back = record { prints = refl; stands = refl }

pub ping_back_comes_back : PingBackComesBack
unfolding encode digits chars
ping_back_comes_back = record { prints = refl; stands = refl }
