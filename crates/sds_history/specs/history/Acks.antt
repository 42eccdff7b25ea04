-- What a node answers to acks of a peer, and the act that it makes.
use Rattle.std.specs.Prelude.{ℕ, Bool, true, false, ◌&&◌, ◌==◌, not, nat_lt, if◌then◌else◌, List, length, Option, None, Some, Result, Ok, Err, is_some}
use Rattle.std.specs.List.{filter, find, list_any, zip}
use Rattle.std.specs.Str.{bytes_eq}
use Rattle.sds_types.specs.declared.ack.Ack.{Ack}
use Rattle.sds_types.specs.declared.ack.AckRefusal.{AckRefusal}
use Rattle.sds_types.specs.declared.ack.AckRefusal.TheVariants.{UnknownNode, UnknownBatch, Fault}
use Rattle.sds_types.specs.declared.batch.OutBatch.{OutBatch}
use Rattle.sds_types.specs.declared.batch.Standing.{Standing}
use Rattle.sds_types.specs.declared.batch.Standing.TheVariants as standing
use Rattle.sds_types.specs.declared.config.Config.{Config}
use Rattle.sds_history.specs.history.Acts.{Act, State}
use Rattle.sds_history.specs.history.Acts.Act.{Acked}
use Rattle.sds_history.specs.history.Counters.{act_if, answer_within, within}
use Rattle.sds_history.specs.history.Peers.{kept_peer}
use Rattle.sds_history.specs.history.States.{state_after}

-- an ack names a batch of this node to the peer
abbrev pub names_batch : State → List ℕ → Ack → Bool
names_batch state from ack =
    list_any (λ (batch : OutBatch). batch.id == ack.batch && bytes_eq batch.peer from)
    state.batches

-- the first ack that names none
abbrev pub unknown_ack : State → List ℕ → List Ack → Option Ack
unknown_ack state from acks = find (λ (ack : Ack). not (names_batch state from ack)) acks

abbrev pub same_standing : Standing → Standing → Bool
same_standing standing.New standing.New = true
same_standing standing.Acked standing.Acked = true
same_standing (standing.Erred row rule) (standing.Erred other because) =
    row == other && rule == because
same_standing a b = false

-- how many batches have another status, row or rule after an act
abbrev pub changed_by : Config → State → Act → ℕ
changed_by config state act = length (filter
    (λ (at : OutBatch × OutBatch). not (same_standing at.0.standing at.1.standing))
    (zip state.batches (state_after config state act).batches))

abbrev pub known_answer : Config → State → List ℕ → List Ack → Option Ack → Result ℕ AckRefusal
known_answer config state from acks None = Ok (changed_by config state (Acked from acks))
known_answer config state from acks (Some ack) = Err (UnknownBatch ack.batch)

-- the answer but for the counters
abbrev pub own_acks_answer : Config → State → List ℕ → List Ack → Result ℕ AckRefusal
own_acks_answer config state from acks =
    if is_some (kept_peer state.peers from)
    then known_answer config state from acks (unknown_ack state from acks) else Err UnknownNode

abbrev pub acks_by : Act → Result ℕ AckRefusal → Option Act
acks_by act (Ok count) = act_if (nat_lt 0 count) act
acks_by act (Err refusal) = None

-- the act that a taking of acks is about to make
abbrev pub next_acks : Config → State → List ℕ → List Ack → Option Act
next_acks config state from acks =
    acks_by (Acked from acks) (own_acks_answer config state from acks)

-- ACKS: no peer; a batch that isn't one to the peer; a counter; and else how many batches change
abbrev pub acks_answer : Config → State → List ℕ → List Ack → Result ℕ AckRefusal
acks_answer config state from acks = answer_within Fault config state
    (next_acks config state from acks) (own_acks_answer config state from acks)

abbrev pub acks_act : Config → State → List ℕ → List Ack → Option Act
acks_act config state from acks = within config state (next_acks config state from acks)
