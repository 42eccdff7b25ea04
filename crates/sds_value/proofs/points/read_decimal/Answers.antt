use Rattle.std.proofs.Common.{◌∙◌}
use Rattle.sds_value.proofs.Decimals.{decimal_same}
use Rattle.sds_value.proofs.points.read_decimal.Goals as goal

pub returns : goal.returns
returns c = c.read_units.ensures ∙ (rw c.as_bytes.ensures.value (decimal_same c.args.scale c.args.text.now c.utf8.text))
