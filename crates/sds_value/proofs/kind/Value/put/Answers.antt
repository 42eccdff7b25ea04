use Rattle.std.proofs.Common.{◌≡◌, true}
use Rattle.sds_value.specs.Stamps.{is_stamp}
use Rattle.sds_value.proofs.Days.{day_cast}
use Rattle.sds_value.proofs.kind.Value.put.Goals as goal

pub print_stamp-requires : goal.print_stamp-requires
print_stamp-requires c =
    let is : is_stamp c.in-Timestamp-Stamp.day c.in-Timestamp-Stamp.nano ≡ true = rw (c.in-Timestamp-Stamp.is-0, c.in-Timestamp-Stamp.is-1) at c.requires in
    rw (day_cast c.in-Timestamp-Stamp.day c.in-Timestamp-Stamp.nano is) is
