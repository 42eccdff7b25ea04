-- Bytes as text: in base64 with padding by RFC 4648, as hexadecimal digits, or not at all.
use Rattle.std.specs.Prelude.{ℕ, Bool, nat_lt, if◌then◌else◌, List, [], Option, None, Some}
use Rattle.std.specs.List.{list_all}
use Rattle.std.specs.Result.{result_ok}
use Rattle.base64.specs.GeneralPurpose.{encode_of, decoded_of}
use Rattle.base64.specs.Engines.{standard}
use Rattle.hex.specs.Hex.{encode_lower, decode_of}
use Rattle.sds_value.specs.declared.kind.Binary.{Binary}
use Rattle.sds_value.specs.declared.kind.Binary.TheVariants.{Base64, Hex, Plain}

-- each is below 256
abbrev pub are_bytes : List ℕ → Bool
are_bytes bytes = list_all (λ b. nat_lt b 256) bytes

-- what is decoded, where it is bytes
abbrev pub in_bytes : Option (List ℕ) → Option (List ℕ)
in_bytes None = None
in_bytes (Some bytes) = if are_bytes bytes then Some bytes else None

-- the bytes that a text stands for, and none where it stands for none
unfoldable pub coded_bytes : Binary → List ℕ → Option (List ℕ)
coded_bytes Base64 text = in_bytes (decoded_of standard text)
coded_bytes Hex text = in_bytes (result_ok (decode_of text))
coded_bytes Plain text = None

-- the printed text of bytes: base64 with padding, or lower-case hexadecimal digits
unfoldable pub coded_text : Binary → List ℕ → List ℕ
coded_text Base64 bytes = encode_of standard bytes
coded_text Hex bytes = encode_lower bytes
coded_text Plain bytes = []
