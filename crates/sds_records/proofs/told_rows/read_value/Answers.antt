use Rattle.sds_records.proofs.Values.{read_fits}
use Rattle.sds_records.proofs.told_rows.read_value.Goals as goal

pub returns-in-Ok-clause-fits : goal.returns-in-Ok-clause-fits
returns-in-Ok-clause-fits c = read_fits c.args.kind c.args.text.now c.in-Ok.value c.read_value_fits.ensures c.utf8.text c.in-Ok.ensures.value
