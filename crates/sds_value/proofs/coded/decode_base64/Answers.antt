use Rattle.sds_value.proofs.Bytes.{base64_ok, base64_failed}
use Rattle.sds_value.proofs.coded.decode_base64.Goals as goal

pub returns-in-Ok : goal.returns-in-Ok
returns-in-Ok c = rw (← c.as_bytes.ensures.value) (base64_ok _ _ c.in-Ok.ensures.ok c.in-Ok.ensures.bytes)

pub returns-in-Err-DecodeError : goal.returns-in-Err-DecodeError
returns-in-Err-DecodeError c = rw (← c.as_bytes.ensures.value) (base64_failed _ _ _ c.in-Err-DecodeError.ensures.err c.in-Err-DecodeError.field-0-is)
