use Rattle.sds_records.proofs.Filled.{reads}
use Rattle.sds_records.proofs.tests_rows.read_text.Goals as goal

pub returns-in-Ok : goal.returns-in-Ok
returns-in-Ok c = reads c.args.kind c.as_str-text.result.now c.in-Ok.value c.read_value_fits.ensures
    c.as_str-text.utf8 c.in-Ok.ensures.value
