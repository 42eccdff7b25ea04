use Rattle.std.proofs.Common.{◌∙◌, ap, sym}
use Rattle.std.proofs.lemmas.Str.{encodes-chars}
use Rattle.std.specs.Str.{bytes_eq, encode_utf8_all}
use Rattle.sds_registry.proofs.finding.has_bytes.Goals as goal

pub returns : goal.returns
returns c = c.eq.ensures ∙ (ap (λ name. bytes_eq name c.args.text.now) c.as_str.ensures.bytes
    ∙ ap (bytes_eq (encode_utf8_all c.args.name.now)) (sym (encodes-chars _ c.utf8.text)))
