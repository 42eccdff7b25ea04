-- Whatever is asked of a node: its calls, and the history that they make.
use Rattle.std.specs.Prelude.{ℕ, List, [], ◌∷◌, Option, None, Some}
use Rattle.sds_value.specs.declared.row.Peer.{Peer}
use Rattle.sds_types.specs.declared.ack.Ack.{Ack}
use Rattle.sds_types.specs.declared.config.Config.{Config}
use Rattle.sds_types.specs.declared.prepared.Prepared.{Prepared}
use Rattle.sds_types.specs.declared.tx_row.TxRow.{TxRow}
use Rattle.sds_history.specs.history.Acks.{acks_act}
use Rattle.sds_history.specs.history.Acts.{Act, History, State}
use Rattle.sds_history.specs.history.Joins.{join_act}
use Rattle.sds_history.specs.history.Loads.{load_act}
use Rattle.sds_history.specs.history.Registrations.{confirm_act, open_act, register_act}
use Rattle.sds_history.specs.history.Routes.{route_act}
use Rattle.sds_history.specs.history.States.{new_state, state_of}
use Rattle.sds_history.specs.history.Writes.{write_act}
use Rattle.sds_history.specs.world.Calling.{with_act}

-- a call that may make an act
pub data Call : Type 0 where
  Write : (writer : List ℕ) → (number : ℕ) → (rows : List TxRow) → Call
  Route : Call
  Load : (from : List ℕ) → Prepared → Call
  TakeAcks : (from : List ℕ) → (acks : List Ack) → Call
  Open : (group : List ℕ) → (external : List ℕ) → (noise : List ℕ) → Call
  Register : Peer → Call
  Join : Peer → (token : List ℕ) → Call
  Confirm : (peer : List ℕ) → Call

-- the act that a call makes, if it makes one
abbrev pub act_of : Config → State → Call → Option Act
act_of config state (Write writer number rows) = write_act config state writer number rows
act_of config state Route = route_act config state
act_of config state (Load from batch) = load_act config state from batch
act_of config state (TakeAcks from acks) = acks_act config state from acks
act_of config state (Open group external noise) = open_act config state group external noise
act_of config state (Register asks) = register_act config state asks
act_of config state (Join other token) = join_act config state other token
act_of config state (Confirm peer) = confirm_act config state peer

abbrev pub with_made : History → Option Act → History
with_made history None = history
with_made history (Some act) = with_act history act

-- the history after a call, and after calls, the newest first. A call whose commit fails before it
-- stands makes nothing, as if it hadn't come
abbrev pub called : Config → History → Call → History
called config history call = with_made history (act_of config (state_of config history) call)

abbrev pub called_all : Config → History → List Call → History
called_all config history [] = history
called_all config history (call ∷ older) = called config (called_all config history older) call

-- a node that begins
abbrev pub begun : Peer → History
begun me = record { opening = new_state me; acts = [] }
