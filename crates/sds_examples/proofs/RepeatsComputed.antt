-- The worked cases of Repeats, each computed from the definitions.
use Rattle.std.proofs.Common.{refl}
use Rattle.std.specs.Fmt.{digits}
use Rattle.std.specs.Str.{chars}
use lib.Utf8.{encode}
use Rattle.sds_examples.specs.Repeats.{RepeatsLoadOnce}

pub repeats_load_once : RepeatsLoadOnce
unfolding encode digits chars
repeats_load_once = record { prints = refl; stands = refl }
