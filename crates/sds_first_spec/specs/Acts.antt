-- What one commit of a node does, what a node has, and its history.
use Rattle.std.specs.Prelude.{ℕ, List}
use Rattle.sds_value.specs.declared.row.Peer.{Peer}
use Rattle.sds_types.specs.declared.ack.Ack.{Ack}
use Rattle.sds_types.specs.declared.lane.LaneIn.{LaneIn}
use Rattle.sds_types.specs.declared.batch.OutBatch.{OutBatch}
use Rattle.sds_types.specs.declared.counts.Counts.{Counts}
use Rattle.sds_types.specs.declared.peer.KeptPeer.{KeptPeer}
use Rattle.sds_types.specs.declared.counts.WriterLast.{WriterLast}
use Rattle.sds_types.specs.declared.row.Change.{Change}
use Rattle.sds_first_spec.specs.declared.row.LoadRow.{LoadRow}
use Rattle.sds_types.specs.declared.row.TableRow.{TableRow}
use Rattle.sds_types.specs.declared.tx_row.TxRow.{TxRow}

-- what one commit did: a writer's numbered write, a routing run, a batch loaded from a peer, and acks from a peer that changed something
pub data Act : Type 0 where
  Wrote : (writer : List ℕ) → (number : ℕ) → (rows : List TxRow) → Act
  Routed : Act
  Loaded : (from : List ℕ) → (channel : ℕ) → (batch : ℕ) → (rows : List LoadRow) → Act
  Acked : (from : List ℕ) → (acks : List Ack) → Act

-- what a node has; its peers stand in the order of their ids, its changes and batches in that of their numbers
pub record State : Type 0 where
  pub me : Peer
  pub counts : Counts
  pub peers : List KeptPeer
  pub writers : List WriterLast
  pub tables : List TableRow
  pub changes : List Change
  pub batches : List OutBatch
  pub lanes : List LaneIn

-- what a node began with, and its acts since, the newest first
pub record History : Type 0 where
  pub opening : State
  pub acts : List Act
