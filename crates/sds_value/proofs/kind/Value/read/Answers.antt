use Rattle.std.specs.Str.{chars}
use Rattle.sds_value.proofs.Lasting.{stamp_printable}
use Rattle.sds_value.proofs.kind.Value.read.Goals as goal

pub returns-in-Timestamp-clause-printable : goal.returns-in-Timestamp-clause-printable
returns-in-Timestamp-clause-printable c = stamp_printable c.args.kind (chars c.args.text.now) c.read_stamp.result c.in-Timestamp.is c.read_stamp.ensures
