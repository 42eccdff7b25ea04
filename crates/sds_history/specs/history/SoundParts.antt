-- Each part of a sound state by itself: it fits the configuration, and its items ascend.
use Rattle.std.specs.Prelude.{ℕ, ◌≡◌, ◌≤◌, ◌<◌, Bool, true, false, ◌&&◌, ◌==◌, nat_le, nat_lt, IsTrue, List, [], ◌∷◌, length, is_some, IfSome}
use Rattle.std.specs.List.{AllPairs, list_all, list_any}
use Rattle.std.specs.Option.{option_map_or}
use Rattle.sds_value.specs.Names.{is_name_text}
use Rattle.sds_value.specs.declared.row.Event.{Event}
use Rattle.sds_value.specs.declared.row.Event.TheVariants.{Insert, Update, Delete}
use Rattle.sds_value.specs.declared.row.Peer.{Peer}
use Rattle.sds_types.specs.Limits.{most_count}
use Rattle.sds_types.specs.declared.batch.OutBatch.{OutBatch}
use Rattle.sds_types.specs.declared.batch.Standing.{Standing}
use Rattle.sds_types.specs.declared.batch.Standing.TheVariants as standing
use Rattle.sds_types.specs.declared.config.Config.{Config}
use Rattle.sds_types.specs.declared.counts.Counts.{Counts}
use Rattle.sds_types.specs.declared.lane.LaneError.{LaneError}
use Rattle.sds_types.specs.declared.lane.LaneIn.{LaneIn}
use Rattle.sds_types.specs.declared.peer.KeptPeer.{KeptPeer}
use Rattle.sds_types.specs.declared.registration.Opening.{Opening}
use Rattle.sds_types.specs.declared.row.Change.{Change}
use Rattle.sds_trade.specs.rules.Places.{columns_at, is_among}
use Rattle.sds_trade.specs.rules.Tables.{IsRowOf}
use Rattle.sds_history.specs.history.Orders.{is_before}

-- items that ascend by a key in bytes
abbrev pub AscendBy : {A : Type 0} → (A → List ℕ) → List A → Type 0
AscendBy key items = AllPairs (λ a b. IsTrue (is_before (key a) (key b))) items

abbrev pub AscendByNumber : {A : Type 0} → (A → ℕ) → List A → Type 0
AscendByNumber number items = AllPairs (λ a b. number a < number b) items

-- a token: 32 hexadecimal digits in lower case
abbrev pub is_token_digit : ℕ → Bool
is_token_digit c = list_any (λ (range : ℕ × ℕ). nat_le range.0 c && nat_le c range.1)
    ((48, 57) ∷ ((97, 102) ∷ []))

abbrev pub is_token : List ℕ → Bool
is_token text = length text == 32 && list_all is_token_digit text

-- a node: its id, its group, which the configuration has, and its external id are names
abbrev pub is_peer : Config → Peer → Bool
is_peer config peer = is_name_text peer.id
    && (is_among config.groups peer.group && is_name_text peer.external)

abbrev pub is_kept_peer : Config → KeptPeer → Bool
is_kept_peer config kept = is_peer config kept.peer && is_token kept.token

abbrev pub is_opening : Config → Opening → Bool
is_opening config opening = is_among config.groups opening.group
    && (is_name_text opening.external && is_token opening.token)

-- a side of a change stands exactly where its event has it, and is a row of its table
abbrev pub has_new : Event → Bool
has_new Insert = true
has_new Update = true
has_new Delete = false

abbrev pub has_old : Event → Bool
has_old Insert = false
has_old Update = true
has_old Delete = true

pub record IsChange (config : Config) (change : Change) : Type 0 where
  pub table : change.table < length config.tables
  pub channel : change.channel < length config.channels
  pub new : is_some change.new ≡ has_new change.event
  pub old : is_some change.old ≡ has_old change.event
  pub new_row : IfSome change.new (IsRowOf (columns_at config.tables change.table))
  pub old_row : IfSome change.old (IsRowOf (columns_at config.tables change.table))
  pub source : IsTrue (option_map_or is_name_text change.source true)

-- the rule of an error is one of the rules
abbrev pub most_rule : ℕ
most_rule = 16

abbrev pub is_standing : Standing → Bool
is_standing (standing.Erred row rule) = nat_le 1 rule && nat_le rule most_rule
is_standing other = true

abbrev pub is_batch : Config → OutBatch → Bool
is_batch config batch = nat_lt batch.channel (length config.channels) && is_standing batch.standing

-- where a lane has a batch in error, its number is at most the end of the counters
abbrev pub error_is_within : LaneIn → Bool
error_is_within lane =
    option_map_or (λ (error : LaneError). nat_le error.batch most_count) lane.error true

-- the channel of a lane is in the configuration, and both its numbers are at most that end
abbrev pub is_lane_of : Config → LaneIn → Bool
is_lane_of config lane = nat_lt lane.channel (length config.channels)
    && (nat_le lane.highest most_count && error_is_within lane)

-- no counter is past its end, and all are 0 where no act was made
abbrev pub zero_if : Counts → Bool
zero_if counts = counts.last_change == 0
    && (counts.last_batch == 0 && (counts.last_tx == 0 && counts.routed == 0))

pub record AreCounts (counts : Counts) : Type 0 where
  pub acts : counts.acts ≤ most_count
  pub last_change : counts.last_change ≤ most_count
  pub last_batch : counts.last_batch ≤ most_count
  pub last_tx : counts.last_tx ≤ most_count
  pub routed : counts.routed ≤ counts.last_change
  pub none : counts.acts ≡ 0 → IsTrue (zero_if counts)
