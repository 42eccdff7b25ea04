use Rattle.sds_value.proofs.Bytes.{plain_none}
use Rattle.sds_value.proofs.coded.decode.Goals as goal

pub returns-in-Plain : goal.returns-in-Plain
returns-in-Plain c = rw c.in-Plain.is (plain_none c.args.text.now)
