-- A sound state: what every state is that a node's acts leave, and what its records are judged by.
use Rattle.std.specs.Prelude.{ℕ, ◌≤◌, ◌+◌, ◌-◌, Bool, true, false, not, ◌&&◌, ◌||◌, ◌==◌, nat_le, nat_lt, IsTrue, List, length, Option, None, Some, is_some}
use Rattle.std.specs.List.{All, AllPairs, list_all, list_any, range_with_len}
use Rattle.std.specs.Option.{option_map_or}
use Rattle.sds_value.specs.Names.{is_name_text}
use Rattle.sds_types.specs.Limits.{most_peers}
use Rattle.sds_types.specs.declared.batch.OutBatch.{OutBatch}
use Rattle.sds_types.specs.declared.config.Config.{Config}
use Rattle.sds_types.specs.declared.counts.Counts.{Counts}
use Rattle.sds_types.specs.declared.counts.WriterLast.{WriterLast}
use Rattle.sds_types.specs.declared.lane.LaneError.{LaneError}
use Rattle.sds_types.specs.declared.lane.LaneIn.{LaneIn}
use Rattle.sds_types.specs.declared.registration.Opening.{Opening}
use Rattle.sds_types.specs.declared.registration.Stage.{Stage}
use Rattle.sds_types.specs.declared.registration.Stage.TheVariants.{Waiting, Given, Closed}
use Rattle.sds_types.specs.declared.row.Change.{Change}
use Rattle.sds_trade.specs.rules.Tables.{AreTables}
use Rattle.sds_history.specs.history.Acts.{State}
use Rattle.sds_history.specs.history.Lanes.{lane_key}
use Rattle.sds_history.specs.history.Openings.{opening_key, went_to}
use Rattle.sds_history.specs.history.Peers.{peer_key, kept_peer}
use Rattle.sds_history.specs.history.SoundParts.{AreCounts, AscendBy, AscendByNumber, IsChange, is_batch, is_kept_peer, is_lane_of, is_opening, is_peer}
use Rattle.sds_history.specs.history.Standings.{is_acked, same_lane}
use Rattle.sds_history.specs.history.Writers.{writer_key}

-- a change of a number is kept
abbrev pub is_kept : State → ℕ → Bool
is_kept state number =
    list_any (λ (change : Change). change.id == number) state.changes

-- a number is at least 1 and at most its counter
abbrev pub is_counted : ℕ → ℕ → Bool
is_counted last number = nat_le 1 number && nat_le number last

abbrev pub is_counted_change : Counts → Change → Bool
is_counted_change counts change =
    is_counted counts.last_change change.id && is_counted counts.last_tx change.tx

-- the node of a batch, a lane or an opening is a peer
abbrev pub is_peer_of : State → List ℕ → Bool
is_peer_of state id = is_some (kept_peer state.peers id)

abbrev pub stage_stands : State → Stage → Bool
stage_stands state Waiting = true
stage_stands state (Given node) = is_peer_of state node
stage_stands state (Closed node) = is_peer_of state node

-- two openings went to two nodes
abbrev pub node_given : Stage → Option (List ℕ)
node_given Waiting = None
node_given (Given node) = Some node
node_given (Closed node) = Some node

abbrev pub are_apart : Opening → Opening → Bool
are_apart a b =
    not (option_map_or (λ (node : List ℕ). went_to node b.stage) (node_given a.stage) false)

abbrev pub is_counted_batch : State → OutBatch → Bool
is_counted_batch state batch = is_counted state.counts.last_batch batch.id
    && (is_peer_of state batch.peer && list_all (is_kept state) batch.changes)

-- no batch of a lane is acknowledged after one that isn't
abbrev pub acks_ascend : OutBatch → OutBatch → Bool
acks_ascend a b = not (same_lane a b) || (is_acked a.standing || not (is_acked b.standing))

-- a writer's number and its changes are counted
abbrev pub is_counted_writer : Counts → WriterLast → Bool
is_counted_writer counts last = is_name_text last.writer
    && (nat_le last.number counts.acts && nat_le (last.first + last.count) (counts.last_change + 1))

-- a lane's error is of a batch after its highest
abbrev pub error_is_later : LaneIn → Bool
error_is_later lane =
    option_map_or (λ (error : LaneError). nat_lt lane.highest error.batch) lane.error true

abbrev pub is_sound_lane : Config → State → LaneIn → Bool
is_sound_lane config state lane =
    is_lane_of config lane && (is_peer_of state lane.peer && error_is_later lane)

-- the numbers above the routed mark, up to the last change
abbrev pub unrouted_numbers : Counts → List ℕ
unrouted_numbers counts = range_with_len (counts.routed + 1) (counts.last_change - counts.routed)

-- the lists of a state ascend
pub record ListsAscend (config : Config) (state : State) : Type 0 where
  pub peers : AscendBy peer_key state.peers
  pub openings : AscendBy opening_key state.openings
  pub writers : AscendBy writer_key state.writers
  pub changes : AscendByNumber (λ (change : Change). change.id) state.changes
  pub batches : AscendByNumber (λ (batch : OutBatch). batch.id) state.batches
  pub lanes : AscendBy (lane_key config) state.lanes

pub record IsSoundState (config : Config) (state : State) : Type 0 where
  pub me : IsTrue (is_peer config state.me)
  pub counts : AreCounts state.counts
  pub lists : ListsAscend config state
  pub peers : IsTrue (list_all (is_kept_peer config) state.peers)
  pub few : length state.peers ≤ most_peers
  pub openings : IsTrue (list_all (is_opening config) state.openings)
  pub stages : All (λ (o : Opening). IsTrue (stage_stands state o.stage)) state.openings
  pub apart : AllPairs (λ (a b : Opening). IsTrue (are_apart a b)) state.openings
  pub writers : IsTrue (list_all (is_counted_writer state.counts) state.writers)
  pub tables : AreTables config.tables state.tables
  pub changes : All (IsChange config) state.changes
  pub counted : IsTrue (list_all (is_counted_change state.counts) state.changes)
  pub unrouted : IsTrue (list_all (is_kept state) (unrouted_numbers state.counts))
  pub batches : IsTrue (list_all (is_batch config) state.batches)
  pub sent : IsTrue (list_all (is_counted_batch state) state.batches)
  pub acks : AllPairs (λ (a b : OutBatch). IsTrue (acks_ascend a b)) state.batches
  pub lanes : IsTrue (list_all (is_sound_lane config state) state.lanes)
