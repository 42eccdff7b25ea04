-- The peers that a node has, ascending by id.
use Rattle.std.specs.Prelude.{ℕ, List, [], ◌∷◌, Option}
use Rattle.std.specs.Str.{encode_utf8_all}
use Rattle.sds_types.specs.declared.peer.KeptPeer.{KeptPeer}
use Rattle.sds_history.specs.history.Acts.{Act}
use Rattle.sds_history.specs.history.Acts.Act.{Joined}
use Rattle.sds_history.specs.history.Orders.{with_item, item_at}

abbrev pub peer_key : KeptPeer → List ℕ
peer_key kept = encode_utf8_all kept.peer.id

abbrev pub peers_by : Act → List KeptPeer → List KeptPeer
peers_by (Joined kept) peers = with_item peer_key kept peers
peers_by act peers = peers

-- the peers at first, and those that were kept since
abbrev pub peers_after : List KeptPeer → List Act → List KeptPeer
peers_after peers [] = peers
peers_after peers (act ∷ older) = peers_by act (peers_after peers older)

-- the peer of an id
abbrev pub kept_peer : List KeptPeer → List ℕ → Option KeptPeer
kept_peer peers id = item_at peer_key (encode_utf8_all id) peers
