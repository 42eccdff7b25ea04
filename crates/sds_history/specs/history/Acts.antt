-- What one commit of a node does, what a node has, and its history.
use Rattle.std.specs.Prelude.{ℕ, List}
use Rattle.sds_value.specs.declared.row.Peer.{Peer}
use Rattle.sds_types.specs.declared.ack.Ack.{Ack}
use Rattle.sds_types.specs.declared.batch.OutBatch.{OutBatch}
use Rattle.sds_types.specs.declared.counts.Counts.{Counts}
use Rattle.sds_types.specs.declared.counts.WriterLast.{WriterLast}
use Rattle.sds_types.specs.declared.lane.LaneError.{LaneError}
use Rattle.sds_types.specs.declared.lane.LaneIn.{LaneIn}
use Rattle.sds_types.specs.declared.peer.KeptPeer.{KeptPeer}
use Rattle.sds_types.specs.declared.prepared.Prepared.{Prepared}
use Rattle.sds_types.specs.declared.registration.Opening.{Opening}
use Rattle.sds_types.specs.declared.row.Change.{Change}
use Rattle.sds_types.specs.declared.row.TableRow.{TableRow}
use Rattle.sds_types.specs.declared.tx_row.TxRow.{TxRow}

-- what one commit did: registration was opened for a group and an external id; a peer was kept, a
-- child where it registered here; the registration of a peer was closed; a writer's numbered write
-- was made; a routing run was made; a batch was loaded or ignored; a batch of a lane broke a rule;
-- acks of a peer changed a batch
pub data Act : Type 0 where
  Opened : (group : List ℕ) → (external : List ℕ) → (token : List ℕ) → Act
  Joined : KeptPeer → Act
  Confirmed : (peer : List ℕ) → Act
  Wrote : (writer : List ℕ) → (number : ℕ) → (rows : List TxRow) → Act
  Routed : Act
  Loaded : (channel : ℕ) → Prepared → Act
  Erred : (from : List ℕ) → (channel : ℕ) → LaneError → Act
  Acked : (from : List ℕ) → (acks : List Ack) → Act

-- what a node has. Peers, openings, writers and lanes ascend by the bytes of their records' keys,
-- rows by table and key, changes and batches by number
pub record State : Type 0 where
  pub me : Peer
  pub counts : Counts
  pub peers : List KeptPeer
  pub openings : List Opening
  pub writers : List WriterLast
  pub tables : List TableRow
  pub changes : List Change
  pub batches : List OutBatch
  pub lanes : List LaneIn

-- what a node began with, and its acts since, the newest first
pub record History : Type 0 where
  pub opening : State
  pub acts : List Act
