-- The parts of a sound state are such that their records tell them.
use Rattle.std.proofs.Common.{◌≡◌, ℕ, ◌+◌, ◌<◌, ◌≤◌, ◌^◌, ◌==◌, ◌&&◌, ◌||◌, Bool, true, false, cond, List, [], ◌∷◌, length, Option, None, Some, refl, sym, subst, arith, true≢false, nat_le, nat_lt}
use Rattle.std.specs.Prelude.{IfSome, IsTrue, is_some}
use Rattle.std.specs.List.{AllByRecursion, list_all, list_any}
use Rattle.std.specs.Option.{option_map_or}
use Rattle.std.specs.Str.{bytes_eq, encode_utf8_all}
use Rattle.std.proofs.lemmas.Bool.{eqb-true}
use Rattle.std.proofs.lemmas.Bool.Decides.{nat_tests}
use Rattle.std.proofs.lemmas.List.Elements.{recursion_from_All}
use Rattle.std.proofs.lemmas.Str.{encodes_same}
use Rattle.sds_value.specs.Names.{is_name_text}
use Rattle.sds_value.proofs.Characters.{left_true, right_true}
use Rattle.sds_types.specs.Limits.{most_count}
use Rattle.sds_types.specs.declared.batch.OutBatch.{OutBatch}
use Rattle.sds_types.specs.declared.batch.Standing.{Standing}
use Rattle.sds_types.specs.declared.batch.Standing.TheVariants as standing
use Rattle.sds_types.specs.declared.config.Config.{Config}
use Rattle.sds_types.specs.declared.counts.WriterLast.{WriterLast}
use Rattle.sds_types.specs.declared.lane.LaneIn.{LaneIn}
use Rattle.sds_types.specs.declared.peer.KeptPeer.{KeptPeer}
use Rattle.sds_types.specs.declared.registration.Opening.{Opening}
use Rattle.sds_types.specs.declared.registration.Stage.{Stage}
use Rattle.sds_types.specs.declared.registration.Stage.TheVariants.{Waiting, Given, Closed}
use Rattle.sds_types.specs.declared.row.Change.{Change}
use Rattle.sds_types.specs.declared.row.Row.{Row}
use Rattle.sds_value.specs.declared.table.ColumnDef.{ColumnDef}
use Rattle.sds_trade.specs.rules.Places.{columns_at}
use Rattle.sds_trade.specs.rules.Sound.{IsSound}
use Rattle.sds_trade.specs.rules.Tables.{IsRowOf}
use Rattle.sds_history.specs.history.Acts.{State}
use Rattle.sds_history.specs.history.Peers.{kept_peer, peer_key}
use Rattle.sds_history.specs.history.SoundParts.{IsChange, error_is_within, is_batch, is_kept_peer, is_lane_of, is_opening, is_standing, most_rule}
use Rattle.sds_history.specs.history.SoundStates.{IsSoundState, error_is_later, is_counted, is_counted_batch, is_counted_change, is_counted_writer, is_kept, is_peer_of, is_sound_lane, stage_stands}
use Rattle.sds_imagelaws.specs.Apart.{ErrorHasBits, ErrorsHaveBits, StandingHasBits}
use Rattle.sds_imagelaws.proofs.ChangeRecords.{ChangeFits, SideFits, SourceFits}
use Rattle.sds_imagelaws.proofs.Fields.{Small, name_good}
use Rattle.sds_imagelaws.proofs.Images.{held_row}
use Rattle.sds_imagelaws.proofs.LaneRecords.{BatchFits, LaneFits, StandingFits}
use Rattle.sds_imagelaws.proofs.Lists.{each_both, each_listed}
use Rattle.sds_imagelaws.proofs.NodeRecords.{OpeningFits, PeerFits, StageFits, WriterFits, opening_fits, peer_fits}
use Rattle.sds_imagelaws.proofs.PartSteps.{counted_small}
use Rattle.sds_imagelaws.proofs.RowKeys.{AllSuit}
use Rattle.sds_imagelaws.proofs.Tests.{equal}

some_by : {A : Type 0} (P Q : A → Type 0) (x : Option A) → ((y : A) → P y → Q y) → IfSome x P → IfSome x Q
some_by P Q None by is = tt
some_by P Q (Some y) by is = by y is

less_is : (a b : ℕ) → nat_lt a b ≡ true → a < b
less_is a b is = grind (arith, nat_tests)

pub small_by : (n most : ℕ) → most ≤ 2 ^ 62 → nat_le n most ≡ true → Small n
small_by n most few is = let low : n ≤ most = grind (arith, nat_tests) in omega (arith, low, few)

module _ (config : Config) (sound : IsSound config) (state : State) (are : IsSoundState config state) where
  -- PEERS
  pub peers_fit : AllByRecursion PeerFits state.peers
  peers_fit = each_listed (is_kept_peer config) PeerFits state.peers (peer_fits config sound) are.peers

  known_by : (node : List ℕ) (peers : List KeptPeer) → AllByRecursion PeerFits peers → is_some (kept_peer peers node) ≡ true → is_name_text node ≡ true
  known_by node [] fit is = absurd (true≢false (sym is))
  known_by node (x ∷ xs) fit is = on (bytes_eq (peer_key x) (encode_utf8_all node)) refl is (known_by node xs fit.1)
    where
      on : (b : Bool) → bytes_eq (peer_key x) (encode_utf8_all node) ≡ b → is_some (cond b (Some x) (kept_peer xs node)) ≡ true
          → (is_some (kept_peer xs node) ≡ true → is_name_text node ≡ true) → is_name_text node ≡ true
      on true same found rest = subst (λ t. is_name_text t ≡ true)
          (encodes_same x.peer.id node (equal (peer_key x) (encode_utf8_all node) same)) fit.0.names.id
      on false other found rest = rest found

  pub peer_known : (node : List ℕ) → is_peer_of state node ≡ true → is_name_text node ≡ true
  peer_known node is = known_by node state.peers peers_fit is

  -- OPENINGS
  stage_fits : (stage : Stage) → stage_stands state stage ≡ true → StageFits stage
  stage_fits Waiting is = tt
  stage_fits (Given node) is = name_good node (peer_known node is)
  stage_fits (Closed node) is = name_good node (peer_known node is)

  pub openings_fit : AllByRecursion OpeningFits state.openings
  openings_fit =
      each_both (λ (o : Opening). is_opening config o ≡ true) (λ (o : Opening). IsTrue (stage_stands state o.stage)) OpeningFits state.openings
      (λ o is stands. opening_fits config sound o is (stage_fits o.stage stands))
      (each_listed (is_opening config) (λ (o : Opening). is_opening config o ≡ true) state.openings (λ o is. is) are.openings)
      (recursion_from_All (λ (o : Opening). IsTrue (stage_stands state o.stage)) state.openings are.stages)

  -- WRITERS
  pub writer_fits : (last : WriterLast) → is_counted_writer state.counts last ≡ true → WriterFits last
  writer_fits last is =
      let rest = right_true (is_name_text last.writer) (nat_le last.number state.counts.acts && nat_le (last.first + last.count) (state.counts.last_change + 1)) is in
      let number = left_true (nat_le last.number state.counts.acts) (nat_le (last.first + last.count) (state.counts.last_change + 1)) rest in
      let sum = right_true (nat_le last.number state.counts.acts) (nat_le (last.first + last.count) (state.counts.last_change + 1)) rest in
      record {
        number = small_by last.number state.counts.acts are.counts.acts number;
        first = first_small last.first last.count state.counts.last_change are.counts.last_change sum;
        count = count_small last.first last.count state.counts.last_change are.counts.last_change sum;
      }
    where
      first_small : (m n most : ℕ) → most ≤ 2 ^ 62 → nat_le (m + n) (most + 1) ≡ true → Small m
      first_small m n most few is = let low : m + n ≤ most + 1 = grind (arith, nat_tests) in omega (arith, low, few)

      count_small : (m n most : ℕ) → most ≤ 2 ^ 62 → nat_le (m + n) (most + 1) ≡ true → Small n
      count_small m n most few is = let low : m + n ≤ most + 1 = grind (arith, nat_tests) in omega (arith, low, few)

  pub writers_fit : AllByRecursion WriterFits state.writers
  writers_fit = each_listed (is_counted_writer state.counts) WriterFits state.writers writer_fits are.writers

  -- CHANGES
  side_fits : (columns : List ColumnDef) (side : Option Row) → IfSome side (IsRowOf columns) → SideFits columns side
  side_fits columns side is = some_by (IsRowOf columns) (λ (row : Row). AllSuit columns row.0) side (λ row held. held_row columns row held) is

  source_fits : (source : Option (List ℕ)) → option_map_or is_name_text source true ≡ true → SourceFits source
  source_fits None is = tt
  source_fits (Some node) is = name_good node is

  change_fits : (change : Change) → IsChange config change → is_counted_change state.counts change ≡ true → ChangeFits config change
  change_fits change is counted = record {
    id = counted_small state.counts.last_change change.id are.counts.last_change
        (left_true (is_counted state.counts.last_change change.id) (is_counted state.counts.last_tx change.tx) counted);
    tx = counted_small state.counts.last_tx change.tx are.counts.last_tx
        (right_true (is_counted state.counts.last_change change.id) (is_counted state.counts.last_tx change.tx) counted);
    table = is.table;
    channel = is.channel;
    new = is.new;
    old = is.old;
    new_row = side_fits (columns_at config.tables change.table) change.new is.new_row;
    old_row = side_fits (columns_at config.tables change.table) change.old is.old_row;
    source = source_fits change.source is.source;
  }

  pub changes_fit : AllByRecursion (ChangeFits config) state.changes
  changes_fit =
      each_both (IsChange config) (λ (c : Change). is_counted_change state.counts c ≡ true) (ChangeFits config) state.changes change_fits
      (recursion_from_All (IsChange config) state.changes are.changes)
      (each_listed (is_counted_change state.counts) (λ (c : Change). is_counted_change state.counts c ≡ true) state.changes (λ c is. is) are.counted)

  -- BATCHES
  kept_by : (number : ℕ) (changes : List Change) → AllByRecursion (ChangeFits config) changes → list_any (λ (change : Change). change.id == number) changes ≡ true
      → Small number
  kept_by number [] fit is = absurd (true≢false (sym is))
  kept_by number (c ∷ cs) fit is = on (c.id == number) refl is (kept_by number cs fit.1)
    where
      on : (b : Bool) → (c.id == number) ≡ b → (b || list_any (λ (change : Change). change.id == number) cs) ≡ true
          → (list_any (λ (change : Change). change.id == number) cs ≡ true → Small number) → Small number
      on true same found rest = subst Small (eqb-true c.id number same) fit.0.id
      on false other found rest = rest found

  pub kept_small : (number : ℕ) → is_kept state number ≡ true → Small number
  kept_small number is = kept_by number state.changes changes_fit is

  standing_fits : (s : Standing) → is_standing s ≡ true → StandingHasBits s → StandingFits s
  standing_fits standing.New is bits = tt
  standing_fits standing.Acked is bits = tt
  standing_fits (standing.Erred row rule) is bits = (bits, rule_small rule (right_true (nat_le 1 rule) (nat_le rule most_rule) is))
    where
      rule_small : (n : ℕ) → nat_le n 16 ≡ true → Small n
      rule_small n is = let low : n ≤ 16 = grind (arith, nat_tests) in omega (arith, low)

  record BatchIs (batch : OutBatch) : Type 0 where
    fits : is_batch config batch ≡ true
    counted : is_counted_batch state batch ≡ true

  batch_fits : (batch : OutBatch) → BatchIs batch → StandingHasBits batch.standing → BatchFits config batch
  batch_fits batch is bits =
      let rest = right_true (is_counted state.counts.last_batch batch.id) (is_peer_of state batch.peer && list_all (is_kept state) batch.changes) is.counted in
      record {
        id = counted_small state.counts.last_batch batch.id are.counts.last_batch
            (left_true (is_counted state.counts.last_batch batch.id) (is_peer_of state batch.peer && list_all (is_kept state) batch.changes) is.counted);
        peer = peer_known batch.peer (left_true (is_peer_of state batch.peer) (list_all (is_kept state) batch.changes) rest);
        channel = less_is batch.channel (length config.channels) (left_true (nat_lt batch.channel (length config.channels)) (is_standing batch.standing) is.fits);
        standing = standing_fits batch.standing (right_true (nat_lt batch.channel (length config.channels)) (is_standing batch.standing) is.fits) bits;
        changes = each_listed (is_kept state) Small batch.changes kept_small (right_true (is_peer_of state batch.peer) (list_all (is_kept state) batch.changes) rest);
      }

  pub batches_fit : ErrorsHaveBits state → AllByRecursion (BatchFits config) state.batches
  batches_fit bits =
      each_both BatchIs (λ (b : OutBatch). StandingHasBits b.standing) (BatchFits config) state.batches batch_fits
      (each_both (λ (b : OutBatch). is_batch config b ≡ true) (λ (b : OutBatch). is_counted_batch state b ≡ true) BatchIs state.batches
      (λ b is counted. record { fits = is; counted = counted })
      (each_listed (is_batch config) (λ (b : OutBatch). is_batch config b ≡ true) state.batches (λ b is. is) are.batches)
      (each_listed (is_counted_batch state) (λ (b : OutBatch). is_counted_batch state b ≡ true) state.batches (λ b is. is) are.sent))
      (recursion_from_All (λ (b : OutBatch). StandingHasBits b.standing) state.batches bits.batches)

  -- LANES
  lane_fits : (lane : LaneIn) → is_sound_lane config state lane ≡ true → IfSome lane.error ErrorHasBits → LaneFits config lane
  lane_fits lane is bits =
      let own = left_true (is_lane_of config lane) (is_peer_of state lane.peer && error_is_later lane) is in
      let rest = right_true (is_lane_of config lane) (is_peer_of state lane.peer && error_is_later lane) is in
      record {
        peer = peer_known lane.peer (left_true (is_peer_of state lane.peer) (error_is_later lane) rest);
        channel = less_is lane.channel (length config.channels) (left_true (nat_lt lane.channel (length config.channels)) (nat_le lane.highest most_count && error_is_within lane) own);
        highest = small_count lane.highest (left_true (nat_le lane.highest most_count) (error_is_within lane)
            (right_true (nat_lt lane.channel (length config.channels)) (nat_le lane.highest most_count && error_is_within lane) own));
        error = bits;
      }
    where
      small_count : (n : ℕ) → nat_le n (2 ^ 62) ≡ true → Small n
      small_count n is = let low : n ≤ 2 ^ 62 = grind (arith, nat_tests) in omega (arith, low)

  pub lanes_fit : ErrorsHaveBits state → AllByRecursion (LaneFits config) state.lanes
  lanes_fit bits =
      each_both (λ (l : LaneIn). is_sound_lane config state l ≡ true) (λ (l : LaneIn). IfSome l.error ErrorHasBits) (LaneFits config) state.lanes lane_fits
      (each_listed (is_sound_lane config state) (λ (l : LaneIn). is_sound_lane config state l ≡ true) state.lanes (λ l is. is) are.lanes)
      (recursion_from_All (λ (l : LaneIn). IfSome l.error ErrorHasBits) state.lanes bits.lanes)
