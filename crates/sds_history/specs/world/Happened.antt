-- What an event makes of a world, and what it tells.
use Rattle.std.specs.Prelude.{ℕ, List, [], ◌∷◌, Result}
use Rattle.sds_types.specs.declared.ack.Ack.{Ack}
use Rattle.sds_types.specs.declared.ack.AckRefusal.{AckRefusal}
use Rattle.sds_types.specs.declared.node_fault.NodeFault.{NodeFault}
use Rattle.sds_types.specs.declared.registration.RegRefusal.{RegRefusal}
use Rattle.sds_types.specs.declared.sync.SyncRefusal.{SyncRefusal}
use Rattle.sds_types.specs.declared.write_answer.WriteRefusal.{WriteRefusal}
use Rattle.sds_types.specs.declared.write_answer.Written.{Written}
use Rattle.sds_history.specs.world.Worlds.{World}

-- the answer of each event beside what it was about. A message is told by its number and how many
-- batches it has, a delivery by its reply's number and acks
pub data Told : Type 0 where
  Opening : (at : List ℕ) → (group : List ℕ) → (external : List ℕ)
      → Result (Unit {0}) RegRefusal → Told
  Registering : (asks : List ℕ) → (at : List ℕ) → Result (Unit {0}) RegRefusal → Told
  Writing : (node : List ℕ) → (writer : List ℕ) → (number : ℕ) → Result Written WriteRefusal
      → Told
  Routing : (node : List ℕ) → Result ℕ NodeFault → Told
  Sending : (from : List ℕ) → (to : List ℕ) → Result (ℕ × ℕ) SyncRefusal → Told
  Delivering : (message : ℕ) → Result (ℕ × List Ack) SyncRefusal → Told
  Answering : (reply : ℕ) → Result ℕ AckRefusal → Told
  NoPush : (from : List ℕ) → (to : List ℕ) → Told
  NoPull : (to : List ℕ) → (from : List ℕ) → Told
  Bytes : (message : ℕ) → Told
  Tables : (node : List ℕ) → Told
  Batches : (node : List ℕ) → Told
  Crashed : (node : List ℕ) → Told

pub record Happened : Type 0 where
  pub world : World
  pub told : List Told

-- something was told
abbrev pub tells : World → Told → Happened
tells world told = record { world = world; told = told ∷ [] }

-- nothing was told
abbrev pub quiet : World → Happened
quiet world = record { world = world; told = [] }
