-- What calls make of a node, one after another.
use Rattle.std.specs.Prelude.{ℕ, List, [], ◌∷◌, ◌++◌}
use Rattle.sds_value.specs.declared.row.DocRow.{DocRow}
use Rattle.sds_value.specs.declared.row.Peer.{Peer}
use Rattle.sds_types.specs.declared.config.Config.{Config}
use Rattle.sds_types.specs.declared.ack.Ack.{Ack}
use Rattle.sds_types.specs.declared.peer.KeptPeer.{KeptPeer}
use Rattle.sds_types.specs.declared.tx_row.TxRow.{TxRow}
use Rattle.sds_first_spec.specs.Acts.{Act, State, History}
use Rattle.sds_first_spec.specs.Calls.{write_answer, write_acts, route_answer, route_acts, load_answer_of, load_acts, acks_answer, acks_acts}
use Rattle.sds_first_spec.specs.History.{state_of}
use Rattle.sds_first_spec.specs.InStep.{WritersInOrder}
use Rattle.sds_first_spec.specs.One.{begun}

-- a call that may make an act
pub data Call : Type 0 where
  Write : (writer : List ℕ) → (number : ℕ) → (rows : List TxRow) → Call
  Route : Call
  Load : (from : List ℕ) → (channel : ℕ) → (batch : ℕ) → (rows : List DocRow) → Call
  TakeAcks : (from : List ℕ) → (acks : List Ack) → Call

-- the acts that a call makes by the answer to it
abbrev pub acts_by : Config → State → Call → List Act
acts_by config s (Write writer number rows) = write_acts (write_answer config s writer number rows) writer number rows
acts_by config s Route = route_acts (route_answer config s) s
acts_by config s (Load from channel batch rows) = load_acts (load_answer_of config s from channel batch rows) config from channel batch rows
acts_by config s (TakeAcks from acks) = acks_acts (acks_answer s from acks) from acks

-- the history that a call leaves
abbrev pub called : Config → History → Call → History
called config h call = record h { acts = acts_by config (state_of config h) call ++ h.acts }

-- the history after calls, the first of them first
abbrev pub history_after : Config → History → List Call → History
history_after config h [] = h
history_after config h (call ∷ calls) = history_after config (called config h call) calls

-- a node with these peers, before its first act
abbrev pub begins : Peer → List KeptPeer → History
begins me peers = record { opening = begun me peers; acts = [] }

-- each writer's writes have the numbers 1, 2, 3 and so on, whatever calls are made
abbrev pub WritersStayInOrder : Type 0
WritersStayInOrder = (config : Config) (me : Peer) (peers : List KeptPeer) (calls : List Call) → WritersInOrder (history_after config (begins me peers) calls)
