-- What a node answers to a call where memory isn't wanting, and the acts that the call makes.
-- Each answer goes by the node's state alone; its refusals come in the order in which they stand here.
use Rattle.std.specs.Prelude.{ℕ, ◌+◌, ◌^◌, Bool, ◌&&◌, ◌||◌, ◌==◌, not, nat_lt, nat_le, if◌then◌else◌, List, [], ◌∷◌, length, map, filter, Option, None, Some, Result, Ok, Err}
use Rattle.std.specs.List.{list_any, flat_map}
use Rattle.std.specs.Str.{bytes_eq}
use Rattle.sds_types.specs.declared.config.Config.{Config}
use Rattle.sds_value.specs.declared.row.DocRow.{DocRow}
use Rattle.sds_types.specs.declared.ack.Ack.{Ack}
use Rattle.sds_types.specs.declared.ack.AckRefusal.{AckRefusal}
use Rattle.sds_types.specs.declared.ack.AckRefusal.TheVariants as ack_refusal
use Rattle.sds_types.specs.declared.load_answer.LoadAnswer.{LoadAnswer}
use Rattle.sds_types.specs.declared.load_answer.LoadAnswer.TheVariants as load_answer
use Rattle.sds_types.specs.declared.node_fault.NodeFault.{NodeFault}
use Rattle.sds_types.specs.declared.node_fault.NodeFault.TheVariants.{Counters}
use Rattle.sds_types.specs.declared.load_answer.PeerRefusal.{PeerRefusal}
use Rattle.sds_types.specs.declared.load_answer.PeerRefusal.TheVariants as peer_refusal
use Rattle.sds_types.specs.declared.write_answer.WriteRefusal.{WriteRefusal}
use Rattle.sds_types.specs.declared.write_answer.WriteRefusal.TheVariants as write_refusal
use Rattle.sds_types.specs.declared.write_answer.Written.{Written}
use Rattle.sds_types.specs.declared.write_answer.Written.TheVariants.{Done, Again}
use Rattle.sds_types.specs.declared.batch.OutBatch.{OutBatch}
use Rattle.sds_types.specs.declared.peer.KeptPeer.{KeptPeer}
use Rattle.sds_types.specs.declared.counts.WriterLast.{WriterLast}
use Rattle.sds_types.specs.declared.row.Change.{Change}
use Rattle.sds_types.specs.declared.tx_row.TxRow.{TxRow}
use Rattle.sds_types.specs.declared.rule.Rule.{Rule}
use Rattle.sds_first_spec.specs.Acks.{changed_by}
use Rattle.sds_first_spec.specs.Acts.{Act, State}
use Rattle.sds_first_spec.specs.Acts.Act.{Wrote, Routed, Loaded, Acked}
use Rattle.sds_first_spec.specs.Batches.{Piece, pieces_of}
use Rattle.sds_first_spec.specs.Capture.{steps_of, first_broken}
use Rattle.sds_first_spec.specs.Changes.{changes_from}
use Rattle.sds_first_spec.specs.Kept.{writer_in, highest_in}
use Rattle.sds_first_spec.specs.Lanes.{offered_in, channels_of}
use Rattle.sds_first_spec.specs.Outcome.{load_steps, read_rows}

-- whether a counter may go on by so many
abbrev pub may_add : ℕ → ℕ → Bool
may_add counter more = nat_le (counter + more) (2 ^ 62)

-- whether an act may be made that is a transaction of its own with so many changes
abbrev pub may_count : State → ℕ → Bool
may_count s changes = may_add s.counts.acts 1 && (may_add s.counts.last_tx 1 && may_add s.counts.last_change changes)

-- whether a peer has this name
abbrev pub is_peer : List ℕ → State → Bool
is_peer name s = list_any (λ (kept : KeptPeer). bytes_eq kept.peer.id name) s.peers

-- WRITE. The changes that a write would add.
abbrev pub write_changes : Config → State → List TxRow → List Change
write_changes config s rows = changes_from config s.me.group None (s.counts.last_change + 1) (s.counts.last_tx + 1) (steps_of config rows)

-- once the number is the next one: by the first row that breaks a rule, then by the counters
abbrev pub written_by : Option (ℕ × Rule) → State → ℕ → Result Written WriteRefusal
written_by (Some row) s count = Err (write_refusal.Broken row.0 row.1)
written_by None s count = if may_count s count then Ok (Done (s.counts.last_change + 1) count) else Err (write_refusal.Fault Counters)

-- by the number of the writer's last write
abbrev pub by_number : ℕ → ℕ → Result Written WriteRefusal → Result Written WriteRefusal
by_number last number next =
    if number == 0 || nat_lt number last then Err (write_refusal.OldNumber last) else
    if nat_lt (last + 1) number then Err (write_refusal.GapNumber last) else next

abbrev pub by_writer : Option WriterLast → ℕ → Result Written WriteRefusal → Result Written WriteRefusal
by_writer None number next = by_number 0 number next
by_writer (Some last) number next =
    if number == last.number && not (number == 0) then Ok (Again last.first last.count) else by_number last.number number next

abbrev pub write_answer : Config → State → List ℕ → ℕ → List TxRow → Result Written WriteRefusal
write_answer config s writer number rows =
    if nat_lt 10000 (length rows) then Err write_refusal.TooManyRows else
    by_writer (writer_in writer s.writers) number (written_by (first_broken 1 config s.tables rows) s (length (write_changes config s rows)))

-- a write makes an act exactly where it is done
abbrev pub write_acts : Result Written WriteRefusal → List ℕ → ℕ → List TxRow → List Act
write_acts (Ok (Done first count)) writer number rows = Wrote writer number rows ∷ []
write_acts (Ok (Again first count)) writer number rows = []
write_acts (Err refusal) writer number rows = []

-- ROUTE. The changes that wait for a routing run, and the pieces that it would make of them.
abbrev pub unrouted : State → List Change
unrouted s = filter (λ (c : Change). nat_lt s.counts.routed c.id) s.changes

abbrev pub route_pieces : Config → State → List Piece
route_pieces config s = pieces_of config s.me s.peers s.tables (unrouted s)

abbrev pub route_by : List Change → State → ℕ → Result ℕ NodeFault
route_by [] s batches = Ok 0
route_by (change ∷ changes) s batches = if may_add s.counts.acts 1 && may_add s.counts.last_batch batches then Ok batches else Err Counters

abbrev pub route_answer : Config → State → Result ℕ NodeFault
route_answer config s = route_by (unrouted s) s (length (route_pieces config s))

-- a routing run makes an act exactly where an unrouted change stands
abbrev pub route_acts : Result ℕ NodeFault → State → List Act
route_acts (Err fault) s = []
route_acts (Ok batches) s = if nat_lt 0 (length (unrouted s)) then Routed ∷ [] else []

-- LOAD. By the peer, then by the lane's highest batch, then by the counters. A call asks that the channel is one of the configuration
-- and that each row is a whole insert, so no row breaks a rule; refusals for their sake, and batches held behind one in error, come later.
abbrev pub load_answer_of : Config → State → List ℕ → ℕ → ℕ → List DocRow → Result LoadAnswer PeerRefusal
load_answer_of config s from channel batch rows =
    if not (is_peer from s) then Err peer_refusal.UnknownNode else
    if nat_le batch (highest_in from channel s.lanes) then Ok load_answer.Again else
    if may_count s (length (changes_from config s.me.group (Some from) (s.counts.last_change + 1) (s.counts.last_tx + 1) (load_steps config s.tables (read_rows config 1 rows))))
    then Ok (load_answer.Loaded (s.counts.acts + 1)) else Err (peer_refusal.Fault Counters)

-- a load makes an act exactly where it answers that the batch is loaded now
abbrev pub load_acts : Result LoadAnswer PeerRefusal → Config → List ℕ → ℕ → ℕ → List DocRow → List Act
load_acts (Ok (load_answer.Loaded place)) config from channel batch rows = Loaded from channel batch (read_rows config 1 rows) ∷ []
load_acts answer config from channel batch rows = []

-- ACKS. Whether a batch of this number goes to this peer.
abbrev pub is_batch_to : List ℕ → List OutBatch → ℕ → Bool
is_batch_to peer batches id = list_any (λ (b : OutBatch). b.id == id && bytes_eq b.peer peer) batches

-- the first number among these acks that is no batch to this peer
abbrev pub unknown_batch : List ℕ → List OutBatch → List Ack → Option ℕ
unknown_batch peer batches [] = None
unknown_batch peer batches (ack ∷ acks) = if is_batch_to peer batches ack.batch then unknown_batch peer batches acks else Some ack.batch

abbrev pub acks_by : Option ℕ → State → ℕ → Result ℕ AckRefusal
acks_by (Some id) s changed = Err (ack_refusal.UnknownBatch id)
acks_by None s changed = if changed == 0 || may_add s.counts.acts 1 then Ok changed else Err (ack_refusal.Fault Counters)

abbrev pub acks_answer : State → List ℕ → List Ack → Result ℕ AckRefusal
acks_answer s from acks =
    if not (is_peer from s) then Err ack_refusal.UnknownNode else acks_by (unknown_batch from s.batches acks) s (changed_by acks s.batches)

-- acks make an act exactly where they change what is known of a batch
abbrev pub acks_acts : Result ℕ AckRefusal → List ℕ → List Ack → List Act
acks_acts (Err refusal) from acks = []
acks_acts (Ok changed) from acks = if changed == 0 then [] else Acked from acks ∷ []

-- OFFER. By the peer; then the numbers of the batches that the next message to it takes, from the channels named or from all. It makes no act.
abbrev pub offer_answer : Config → State → List ℕ → List ℕ → Result (List ℕ) PeerRefusal
offer_answer config s to channels =
    if not (is_peer to s) then Err peer_refusal.UnknownNode else
    Ok (flat_map (λ (channel : ℕ). map (λ (b : OutBatch). b.id) (offered_in config s to channel)) (channels_of config channels))
