-- What a node's history leaves, each part said by itself.
-- A history is what the node began with, and a list of acts, the newest first.
use Rattle.std.specs.Prelude.{ℕ, ◌+◌, false, nat_lt, List, [], ◌∷◌, ◌++◌, length, filter, None, Some}
use Rattle.sds_types.specs.declared.config.Config.{Config}
use Rattle.sds_types.specs.declared.lane.LaneIn.{LaneIn}
use Rattle.sds_types.specs.declared.batch.OutBatch.{OutBatch}
use Rattle.sds_types.specs.declared.counts.Counts.{Counts}
use Rattle.sds_types.specs.declared.counts.WriterLast.{WriterLast}
use Rattle.sds_types.specs.declared.row.Change.{Change}
use Rattle.sds_types.specs.declared.row.TableRow.{TableRow}
use Rattle.sds_first_spec.specs.Acts.{Act, State, History}
use Rattle.sds_first_spec.specs.Acts.Act.{Wrote, Routed, Loaded, Acked}
use Rattle.sds_first_spec.specs.Acks.{acknowledged}
use Rattle.sds_first_spec.specs.Batches.{Piece, pieces_of, batches_from}
use Rattle.sds_first_spec.specs.Capture.{steps_of, after_all}
use Rattle.sds_first_spec.specs.Changes.{changes_from}
use Rattle.sds_first_spec.specs.Kept.{with_writer, with_lane}
use Rattle.sds_first_spec.specs.Outcome.{load_steps}

-- the tables: the rows of each write and of each batch loaded, in order
abbrev pub tables_of : Config → State → List Act → List TableRow
tables_of config opening [] = opening.tables
tables_of config opening (Wrote writer number rows ∷ acts) = after_all config (tables_of config opening acts) (steps_of config rows)
tables_of config opening (Routed ∷ acts) = tables_of config opening acts
tables_of config opening (Loaded from channel batch rows ∷ acts) =
    after_all config (tables_of config opening acts) (load_steps config (tables_of config opening acts) rows)
tables_of config opening (Acked from acks ∷ acts) = tables_of config opening acts

-- the last transaction: each write and each batch loaded is one
abbrev pub last_tx_of : State → List Act → ℕ
last_tx_of opening [] = opening.counts.last_tx
last_tx_of opening (Wrote writer number rows ∷ acts) = last_tx_of opening acts + 1
last_tx_of opening (Routed ∷ acts) = last_tx_of opening acts
last_tx_of opening (Loaded from channel batch rows ∷ acts) = last_tx_of opening acts + 1
last_tx_of opening (Acked from acks ∷ acts) = last_tx_of opening acts

-- the changes captured since the opening, with consecutive numbers
abbrev pub captured_of : Config → State → List Act → List Change
captured_of config opening [] = []
captured_of config opening (Wrote writer number rows ∷ acts) =
    captured_of config opening acts
    ++ changes_from config opening.me.group None (opening.counts.last_change + length (captured_of config opening acts) + 1) (last_tx_of opening acts + 1) (steps_of config rows)
captured_of config opening (Routed ∷ acts) = captured_of config opening acts
captured_of config opening (Loaded from channel batch rows ∷ acts) =
    captured_of config opening acts
    ++ changes_from config opening.me.group (Some from) (opening.counts.last_change + length (captured_of config opening acts) + 1) (last_tx_of opening acts + 1)
    (load_steps config (tables_of config opening acts) rows)
captured_of config opening (Acked from acks ∷ acts) = captured_of config opening acts

abbrev pub changes_of : Config → State → List Act → List Change
changes_of config opening acts = opening.changes ++ captured_of config opening acts

abbrev pub last_change_of : Config → State → List Act → ℕ
last_change_of config opening acts = opening.counts.last_change + length (captured_of config opening acts)

-- the last change at the last routing run
abbrev pub routed_of : Config → State → List Act → ℕ
routed_of config opening [] = opening.counts.routed
routed_of config opening (Wrote writer number rows ∷ acts) = routed_of config opening acts
routed_of config opening (Routed ∷ acts) = last_change_of config opening acts
routed_of config opening (Loaded from channel batch rows ∷ acts) = routed_of config opening acts
routed_of config opening (Acked from acks ∷ acts) = routed_of config opening acts

-- the changes since the last routing run
abbrev pub unrouted_of : Config → State → List Act → List Change
unrouted_of config opening acts = filter (λ (c : Change). nat_lt (routed_of config opening acts) c.id) (changes_of config opening acts)

-- the pieces into which a routing run at this point cuts its changes, by the tables and peers at this point
abbrev pub next_pieces : Config → State → List Act → List Piece
next_pieces config opening acts = pieces_of config opening.me opening.peers (tables_of config opening acts) (unrouted_of config opening acts)

abbrev pub last_batch_of : Config → State → List Act → ℕ
last_batch_of config opening [] = opening.counts.last_batch
last_batch_of config opening (Wrote writer number rows ∷ acts) = last_batch_of config opening acts
last_batch_of config opening (Routed ∷ acts) = last_batch_of config opening acts + length (next_pieces config opening acts)
last_batch_of config opening (Loaded from channel batch rows ∷ acts) = last_batch_of config opening acts
last_batch_of config opening (Acked from acks ∷ acts) = last_batch_of config opening acts

-- the batches of each routing run, and what acks said of them since
abbrev pub batches_of : Config → State → List Act → List OutBatch
batches_of config opening [] = opening.batches
batches_of config opening (Wrote writer number rows ∷ acts) = batches_of config opening acts
batches_of config opening (Routed ∷ acts) =
    batches_of config opening acts ++ batches_from (last_batch_of config opening acts + 1) (next_pieces config opening acts)
batches_of config opening (Loaded from channel batch rows ∷ acts) = batches_of config opening acts
batches_of config opening (Acked from acks ∷ acts) = acknowledged acks (batches_of config opening acts)

-- each writer's last write: its number, its first change and how many it has
abbrev pub writers_of : Config → State → List Act → List WriterLast
writers_of config opening [] = opening.writers
writers_of config opening (Wrote writer number rows ∷ acts) =
    let first = last_change_of config opening acts + 1 in
    with_writer (record {
      writer = writer;
      number = number;
      first = first;
      count = length (changes_from config opening.me.group None first (last_tx_of opening acts + 1) (steps_of config rows));
    }) (writers_of config opening acts)
writers_of config opening (Routed ∷ acts) = writers_of config opening acts
writers_of config opening (Loaded from channel batch rows ∷ acts) = writers_of config opening acts
writers_of config opening (Acked from acks ∷ acts) = writers_of config opening acts

-- each lane's highest batch loaded
abbrev pub lanes_of : State → List Act → List LaneIn
lanes_of opening [] = opening.lanes
lanes_of opening (Wrote writer number rows ∷ acts) = lanes_of opening acts
lanes_of opening (Routed ∷ acts) = lanes_of opening acts
lanes_of opening (Loaded from channel batch rows ∷ acts) =
    with_lane (record { peer = from; channel = channel; highest = batch; ignored = Some false; error = None }) (lanes_of opening acts)
lanes_of opening (Acked from acks ∷ acts) = lanes_of opening acts

abbrev pub counts_of : Config → State → List Act → Counts
counts_of config opening acts = record {
  acts = opening.counts.acts + length acts;
  last_change = last_change_of config opening acts;
  last_batch = last_batch_of config opening acts;
  last_tx = last_tx_of opening acts;
  routed = routed_of config opening acts;
}

abbrev pub state_of : Config → History → State
state_of config h = record {
  me = h.opening.me;
  counts = counts_of config h.opening h.acts;
  peers = h.opening.peers;
  writers = writers_of config h.opening h.acts;
  tables = tables_of config h.opening h.acts;
  changes = changes_of config h.opening h.acts;
  batches = batches_of config h.opening h.acts;
  lanes = lanes_of h.opening h.acts;
}
