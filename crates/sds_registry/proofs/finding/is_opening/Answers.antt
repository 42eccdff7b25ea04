use Rattle.std.proofs.Common.{sym}
use Rattle.std.proofs.lemmas.Str.{encodes-chars}
use Rattle.sds_registry.proofs.Keys.{same_pair}
use Rattle.sds_registry.proofs.finding.is_opening.Goals as goal

pub returns : goal.returns
returns c = same_pair c.args.opening.now.group c.args.opening.now.external c.args.group.now c.args.external.now
    c.as_str.result.now c.as_str-2.result.now c.pair_order.result c.is_eq.result c.as_str.ensures.bytes c.as_str-2.ensures.bytes
    (sym (encodes-chars _ c.utf8.group)) (sym (encodes-chars _ c.utf8.external)) c.pair_order.ensures c.is_eq.ensures
