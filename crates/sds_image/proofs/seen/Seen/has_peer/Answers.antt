use Rattle.std.proofs.Common.{ap, ◌∙◌}
use Rattle.std.specs.List.{list_any}
use Rattle.std.specs.Str.{bytes_eq, encode_utf8_all}
use Rattle.sds_image.proofs.SeenParts.{peer_any}
use Rattle.sds_image.proofs.seen.Seen.has_peer.Goals as goal

pub returns : goal.returns
returns c = λ state seen. c.has_id.ensures
    ∙ (ap (list_any (λ kept. bytes_eq (encode_utf8_all kept.now.peer.id) (encode_utf8_all c.args.id.now))) c.deref.ensures.value
    ∙ peer_any (λ kept. kept.now) c.args.self.now.peers.items state c.args.id.now seen.peers)
