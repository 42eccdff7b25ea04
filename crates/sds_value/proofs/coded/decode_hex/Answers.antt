use Rattle.sds_value.proofs.Bytes.{hex_ok, hex_failed}
use Rattle.sds_value.proofs.coded.decode_hex.Goals as goal

pub returns-in-Ok : goal.returns-in-Ok
returns-in-Ok c = hex_ok _ _ c.in-Ok.ensures.ok

pub returns-in_default : goal.returns-in_default
returns-in_default c = hex_failed _ _ c.in-Err.ensures.err c.in_default.not-OutOfMemory
