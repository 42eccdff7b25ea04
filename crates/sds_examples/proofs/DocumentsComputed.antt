-- The worked cases of Documents, each computed from the definitions.
use Rattle.std.proofs.Common.{refl}
use Rattle.std.specs.Fmt.{digits}
use Rattle.std.specs.Str.{chars}
use lib.Utf8.{encode}
use Rattle.sds_examples.specs.Documents.{DocumentIsWritten}

pub document_is_written : DocumentIsWritten
unfolding encode digits chars
document_is_written = refl
