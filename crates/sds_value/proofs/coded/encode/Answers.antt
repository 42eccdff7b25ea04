use Rattle.std.proofs.Common.{◌∙◌, sym}
use Rattle.sds_value.proofs.Bytes.{base64_text, hex_text, plain_text}
use Rattle.sds_value.proofs.coded.encode.Goals as goal

pub returns-in_ok-encode-in-Base64 : goal.returns-in_ok-encode-in-Base64
returns-in_ok-encode-in-Base64 c = rw c.in-Base64.is (c.in_ok-encode-in-Base64.ensures.text ∙ sym (base64_text c.args.bytes.now))

pub returns-in_ok-encode-in-Hex : goal.returns-in_ok-encode-in-Hex
returns-in_ok-encode-in-Hex c = rw c.in-Hex.is (c.in_ok-encode-in-Hex.ensures ∙ sym (hex_text c.args.bytes.now))

pub returns-in-Plain : goal.returns-in-Plain
returns-in-Plain c = rw c.in-Plain.is (c.new.ensures.bytes ∙ sym (plain_text c.args.bytes.now))
