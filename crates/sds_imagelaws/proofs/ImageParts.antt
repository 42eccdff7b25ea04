-- The parts of a state in the order of their records' keys: they tell the state, and none of them disagrees.
use Rattle.std.proofs.Common.{◌≡◌, ℕ, ◌+◌, ◌<◌, ◌≤◌, ◌^◌, ◌==◌, ◌&&◌, Bool, true, false, not, cond, List, [], ◌∷◌, ◌++◌, length, map, Option, None, Some, refl, sym, ap, subst, ◌∙◌, arith, All, AllPairs, Less, get_or, true≢false}
use Rattle.std.specs.Prelude.{IsTrue, codes, nat_le, nat_lt, option_map, slice_get, unwrap_or}
use Rattle.std.specs.List.{AllByRecursion, filter_map, list_all}
use Rattle.std.proofs.lemmas.Bool.{eqb-true}
use Rattle.std.proofs.lemmas.Bool.Decides.{nat_tests}
use Rattle.std.proofs.lemmas.List.Elements.{All-append, All-cons, All-nil, recursion_from_All}
use Rattle.std.proofs.lemmas.List.Kept.{AllPairs-cons}
use Rattle.std.proofs.lemmas.List.Sums.{AllPass-from_list_all}
use Rattle.sds_value.specs.Names.{is_name_text}
use Rattle.sds_value.specs.declared.row.Peer as node
use Rattle.sds_types.specs.Limits.{most_channels, most_count, most_peers, most_rows, most_tables}
use Rattle.sds_types.specs.declared.batch.OutBatch.{OutBatch}
use Rattle.sds_types.specs.declared.config.Config.{Config}
use Rattle.sds_types.specs.declared.counts.Counts as counted
use Rattle.sds_types.specs.declared.counts.WriterLast.{WriterLast}
use Rattle.sds_types.specs.declared.lane.LaneIn.{LaneIn}
use Rattle.sds_types.specs.declared.peer.KeptPeer.{KeptPeer}
use Rattle.sds_types.specs.declared.registration.Opening as opened
use Rattle.sds_types.specs.declared.registration.Stage.{Stage}
use Rattle.sds_types.specs.declared.registration.Stage.TheVariants.{Waiting, Given, Closed}
use Rattle.sds_types.specs.declared.row.Change as changed
use Rattle.sds_types.specs.declared.row.TableRow.{TableRow}
use Rattle.sds_trade.specs.rules.Places.{columns_at}
use Rattle.sds_trade.specs.rules.Sound.{IsSound}
use Rattle.sds_trade.specs.rules.StepRules.{has_null}
use Rattle.sds_trade.specs.rules.Tables.{IsRowOf, finds_parents, row_order}
use Rattle.sds_history.specs.history.Acts.{State}
use Rattle.sds_history.specs.history.Counters.{is_past}
use Rattle.sds_history.specs.history.Image.{image_of, key_of_record}
use Rattle.sds_history.specs.history.Lanes.{lane_key}
use Rattle.sds_history.specs.history.Openings.{opening_key}
use Rattle.sds_history.specs.history.Orders.{is_before}
use Rattle.sds_history.specs.history.Peers.{peer_key}
use Rattle.sds_history.specs.history.Records.{Record, id_text}
use Rattle.sds_history.specs.history.RowRecords.{row_record}
use Rattle.sds_history.specs.history.SoundParts.{AreCounts, AscendBy, IsChange, error_is_within, is_batch, is_kept_peer, is_lane_of, is_opening}
use Rattle.sds_history.specs.history.SoundStates.{IsSoundState, acks_ascend, are_apart, error_is_later, is_counted, is_counted_batch, is_counted_change, is_counted_writer, is_kept, is_peer_of, is_sound_lane, stage_stands, unrouted_numbers}
use Rattle.sds_history.specs.history.States.{zero_counts}
use Rattle.sds_history.specs.history.Writers.{writer_key}
use Rattle.sds_records.specs.Told.{AreWide, is_change, names_node, names_source, record_of_told, sides_stand}
use Rattle.sds_records.specs.declared.told.Told.{Told}
use Rattle.sds_records.specs.declared.told.Told.TheVariants.{Me, Counts, Peer, Opening, Writer, Row, Change, Batch, Lane}
use Rattle.sds_nodelaws.proofs.KeyedLists.{pairs_nil}
use Rattle.sds_nodelaws.proofs.Lists.{and_both, and_left, and_right, is_lt_test, map_all}
use Rattle.sds_image.specs.Reading.{AreTold, IsTold, batch_of_part, change_of_part, counts_disagree, counts_of_part, first_told, lane_of_part, me_of_part, opening_of_part, peer_of_part, row_of_part, side_has_null, sorted_rows, state_with, writer_of_part}
use Rattle.sds_imagelaws.specs.Reading.{AreHeld, ImagesAreTold, TellsState}
use Rattle.sds_imagelaws.proofs.Agreement.{Agrees}
use Rattle.sds_imagelaws.proofs.AskedImages.{row_fits, side_fits}
use Rattle.sds_imagelaws.proofs.ChangeRecords.{same_row}
use Rattle.sds_imagelaws.proofs.Gathered.{sorted_fit, sorted_part, told_image}
use Rattle.sds_imagelaws.proofs.Images.{tables_fit}
use Rattle.sds_imagelaws.proofs.KeyOrders.{before_after, id_before}
use Rattle.sds_imagelaws.proofs.NodeRecords.{no_acts}
use Rattle.sds_imagelaws.proofs.PartSteps.{counted_small}
use Rattle.sds_imagelaws.proofs.RowKeys.{RowFits, columns_suit}
use Rattle.sds_imagelaws.proofs.SameItems.{same_items}
use Rattle.sds_imagelaws.proofs.SoundFits.{peer_known}
use Rattle.sds_imagelaws.proofs.StatesApart.{row_once, rows_distinct}
use Rattle.sds_imagelaws.proofs.Walks.{Walk, each_alone, each_and, each_few, each_paired, neither, none_before, none_passes, not_true, other_then, own_then, walk_kind}
use Rattle.sds_imagelaws.proofs.AgreeingStates.{pairs_with, sorted_ascend}
use Rattle.sds_imagelaws.proofs.PartOrders.{Before, From, from_kind, from_none, key_sorted, key_sorted_all, key_sorted_few, key_sorted_part, key_sorted_up, map_pairs, row_key_of}
use Rattle.sds_imagelaws.proofs.Sides.{no_null, side_no_null, sides_so}

module _ (config : Config) (sound : IsSound config) (state : State) (are : IsSoundState config state) (held : AreHeld state) where
  count_list_by : Bool → List counted.Counts
  count_list_by b = cond b [] (state.counts ∷ [])

  abbrev count_list : List counted.Counts
  count_list = cond (state.counts.acts == 0) [] (state.counts ∷ [])

  abbrev from_writers : List Told
  from_writers = map Writer state.writers ++ []

  abbrev from_rows : List Told
  from_rows = map Row (key_sorted config state.tables) ++ from_writers

  abbrev from_openings : List Told
  from_openings = map Opening state.openings ++ from_rows

  abbrev from_peers : List Told
  from_peers = map Peer state.peers ++ from_openings

  abbrev from_me : List Told
  from_me = map Me (state.me ∷ []) ++ from_peers

  abbrev from_lanes : List Told
  from_lanes = map Lane state.lanes ++ from_me

  abbrev from_changes : List Told
  from_changes = map Change state.changes ++ from_lanes

  abbrev from_counts : List Told
  from_counts = map Counts count_list ++ from_changes

  abbrev all_parts : List Told
  all_parts = map Batch state.batches ++ from_counts

  -- WHAT THE PARTS TELL, kind by kind
  told_batch : filter_map batch_of_part all_parts ≡ state.batches
  told_batch =
      own_then batch_of_part Batch (λ x. refl) state.batches from_counts
      (other_then batch_of_part Counts (λ x. refl) count_list from_changes []
      (other_then batch_of_part Change (λ x. refl) state.changes from_lanes []
      (other_then batch_of_part Lane (λ x. refl) state.lanes from_me []
      (other_then batch_of_part Me (λ x. refl) (state.me ∷ []) from_peers []
      (other_then batch_of_part Peer (λ x. refl) state.peers from_openings []
      (other_then batch_of_part Opening (λ x. refl) state.openings from_rows []
      (other_then batch_of_part Row (λ x. refl) (key_sorted config state.tables) from_writers []
      (other_then batch_of_part Writer (λ x. refl) state.writers [] [] refl))))))))

  told_counts : filter_map counts_of_part all_parts ≡ count_list
  told_counts =
      other_then counts_of_part Batch (λ x. refl) state.batches from_counts count_list
      (own_then counts_of_part Counts (λ x. refl) count_list from_changes
      (other_then counts_of_part Change (λ x. refl) state.changes from_lanes []
      (other_then counts_of_part Lane (λ x. refl) state.lanes from_me []
      (other_then counts_of_part Me (λ x. refl) (state.me ∷ []) from_peers []
      (other_then counts_of_part Peer (λ x. refl) state.peers from_openings []
      (other_then counts_of_part Opening (λ x. refl) state.openings from_rows []
      (other_then counts_of_part Row (λ x. refl) (key_sorted config state.tables) from_writers []
      (other_then counts_of_part Writer (λ x. refl) state.writers [] [] refl))))))))

  told_change : filter_map change_of_part all_parts ≡ state.changes
  told_change =
      other_then change_of_part Batch (λ x. refl) state.batches from_counts state.changes
      (other_then change_of_part Counts (λ x. refl) count_list from_changes state.changes
      (own_then change_of_part Change (λ x. refl) state.changes from_lanes
      (other_then change_of_part Lane (λ x. refl) state.lanes from_me []
      (other_then change_of_part Me (λ x. refl) (state.me ∷ []) from_peers []
      (other_then change_of_part Peer (λ x. refl) state.peers from_openings []
      (other_then change_of_part Opening (λ x. refl) state.openings from_rows []
      (other_then change_of_part Row (λ x. refl) (key_sorted config state.tables) from_writers []
      (other_then change_of_part Writer (λ x. refl) state.writers [] [] refl))))))))

  told_lane : filter_map lane_of_part all_parts ≡ state.lanes
  told_lane =
      other_then lane_of_part Batch (λ x. refl) state.batches from_counts state.lanes
      (other_then lane_of_part Counts (λ x. refl) count_list from_changes state.lanes
      (other_then lane_of_part Change (λ x. refl) state.changes from_lanes state.lanes
      (own_then lane_of_part Lane (λ x. refl) state.lanes from_me
      (other_then lane_of_part Me (λ x. refl) (state.me ∷ []) from_peers []
      (other_then lane_of_part Peer (λ x. refl) state.peers from_openings []
      (other_then lane_of_part Opening (λ x. refl) state.openings from_rows []
      (other_then lane_of_part Row (λ x. refl) (key_sorted config state.tables) from_writers []
      (other_then lane_of_part Writer (λ x. refl) state.writers [] [] refl))))))))

  told_me : filter_map me_of_part all_parts ≡ state.me ∷ []
  told_me =
      other_then me_of_part Batch (λ x. refl) state.batches from_counts (state.me ∷ [])
      (other_then me_of_part Counts (λ x. refl) count_list from_changes (state.me ∷ [])
      (other_then me_of_part Change (λ x. refl) state.changes from_lanes (state.me ∷ [])
      (other_then me_of_part Lane (λ x. refl) state.lanes from_me (state.me ∷ [])
      (own_then me_of_part Me (λ x. refl) (state.me ∷ []) from_peers
      (other_then me_of_part Peer (λ x. refl) state.peers from_openings []
      (other_then me_of_part Opening (λ x. refl) state.openings from_rows []
      (other_then me_of_part Row (λ x. refl) (key_sorted config state.tables) from_writers []
      (other_then me_of_part Writer (λ x. refl) state.writers [] [] refl))))))))

  told_peer : filter_map peer_of_part all_parts ≡ state.peers
  told_peer =
      other_then peer_of_part Batch (λ x. refl) state.batches from_counts state.peers
      (other_then peer_of_part Counts (λ x. refl) count_list from_changes state.peers
      (other_then peer_of_part Change (λ x. refl) state.changes from_lanes state.peers
      (other_then peer_of_part Lane (λ x. refl) state.lanes from_me state.peers
      (other_then peer_of_part Me (λ x. refl) (state.me ∷ []) from_peers state.peers
      (own_then peer_of_part Peer (λ x. refl) state.peers from_openings
      (other_then peer_of_part Opening (λ x. refl) state.openings from_rows []
      (other_then peer_of_part Row (λ x. refl) (key_sorted config state.tables) from_writers []
      (other_then peer_of_part Writer (λ x. refl) state.writers [] [] refl))))))))

  told_opening : filter_map opening_of_part all_parts ≡ state.openings
  told_opening =
      other_then opening_of_part Batch (λ x. refl) state.batches from_counts state.openings
      (other_then opening_of_part Counts (λ x. refl) count_list from_changes state.openings
      (other_then opening_of_part Change (λ x. refl) state.changes from_lanes state.openings
      (other_then opening_of_part Lane (λ x. refl) state.lanes from_me state.openings
      (other_then opening_of_part Me (λ x. refl) (state.me ∷ []) from_peers state.openings
      (other_then opening_of_part Peer (λ x. refl) state.peers from_openings state.openings
      (own_then opening_of_part Opening (λ x. refl) state.openings from_rows
      (other_then opening_of_part Row (λ x. refl) (key_sorted config state.tables) from_writers []
      (other_then opening_of_part Writer (λ x. refl) state.writers [] [] refl))))))))

  told_row : filter_map row_of_part all_parts ≡ key_sorted config state.tables
  told_row =
      other_then row_of_part Batch (λ x. refl) state.batches from_counts (key_sorted config state.tables)
      (other_then row_of_part Counts (λ x. refl) count_list from_changes (key_sorted config state.tables)
      (other_then row_of_part Change (λ x. refl) state.changes from_lanes (key_sorted config state.tables)
      (other_then row_of_part Lane (λ x. refl) state.lanes from_me (key_sorted config state.tables)
      (other_then row_of_part Me (λ x. refl) (state.me ∷ []) from_peers (key_sorted config state.tables)
      (other_then row_of_part Peer (λ x. refl) state.peers from_openings (key_sorted config state.tables)
      (other_then row_of_part Opening (λ x. refl) state.openings from_rows (key_sorted config state.tables)
      (own_then row_of_part Row (λ x. refl) (key_sorted config state.tables) from_writers
      (other_then row_of_part Writer (λ x. refl) state.writers [] [] refl))))))))

  told_writer : filter_map writer_of_part all_parts ≡ state.writers
  told_writer =
      other_then writer_of_part Batch (λ x. refl) state.batches from_counts state.writers
      (other_then writer_of_part Counts (λ x. refl) count_list from_changes state.writers
      (other_then writer_of_part Change (λ x. refl) state.changes from_lanes state.writers
      (other_then writer_of_part Lane (λ x. refl) state.lanes from_me state.writers
      (other_then writer_of_part Me (λ x. refl) (state.me ∷ []) from_peers state.writers
      (other_then writer_of_part Peer (λ x. refl) state.peers from_openings state.writers
      (other_then writer_of_part Opening (λ x. refl) state.openings from_rows state.writers
      (other_then writer_of_part Row (λ x. refl) (key_sorted config state.tables) from_writers state.writers
      (own_then writer_of_part Writer (λ x. refl) state.writers [] refl))))))))

  counts_by : (b : Bool) → (state.counts.acts == 0) ≡ b → unwrap_or (slice_get (cond b [] (state.counts ∷ [])) 0) zero_counts ≡ state.counts
  counts_by true is = no_acts zero_counts state.counts zero_are are.counts refl (eqb-true state.counts.acts 0 is)
    where
      zero_are : AreCounts zero_counts
      zero_are = record {
        acts = omega arith;
        last_change = omega arith;
        last_batch = omega arith;
        last_tx = omega arith;
        routed = omega arith;
        none = λ zero. refl;
      }
  counts_by false is = refl

  counts_is : unwrap_or (first_told counts_of_part all_parts) zero_counts ≡ state.counts
  counts_is = ap (λ xs. unwrap_or (slice_get xs 0) zero_counts) told_counts ∙ counts_by (state.counts.acts == 0) refl

  me_is : first_told me_of_part all_parts ≡ Some state.me
  me_is = ap (λ xs. slice_get xs 0) told_me

  row_fit : AllByRecursion (RowFits config) state.tables
  row_fit = tables_fit config state.tables are.tables

  key_row_fit : AllByRecursion (RowFits config) (key_sorted config state.tables)
  key_row_fit =
      recursion_from_All (RowFits config) (key_sorted config state.tables)
      (key_sorted_all config (RowFits config) state.tables
      (λ k d within. record {
        known = are.tables.known k d within;
        suits = columns_suit (columns_at config.tables (get_or state.tables k d).table) (get_or state.tables k d).row.0
            (row_fits (columns_at config.tables (get_or state.tables k d).table) (get_or state.tables k d).row (are.tables.held k d within));
      }))

  rows_back : sorted_rows config.tables (key_sorted config state.tables) ≡ state.tables
  rows_back =
      let again = sorted_rows config.tables (key_sorted config state.tables) in
      let fit_again = sorted_fit config sound (key_sorted config state.tables) key_row_fit in
      let up_again = sorted_ascend config.tables (key_sorted config state.tables) in
      same_items (row_record config) (RowFits config) (λ (x y : TableRow). row_order config.tables x y ≡ Less) (same_row config sound) (row_once config)
      again state.tables fit_again row_fit up_again are.tables.ascend (rows_distinct config sound again fit_again up_again)
      (rows_distinct config sound state.tables row_fit are.tables.ascend)
      (λ key. sorted_part config sound key (key_sorted config state.tables) key_row_fit ∙ key_sorted_part config key state.tables)

  tables_is : sorted_rows config.tables (filter_map row_of_part all_parts) ≡ state.tables
  tables_is = ap (sorted_rows config.tables) told_row ∙ rows_back

  state_is : state_with config all_parts state.me ≡ state
  state_is = λ i. record {
    me = state.me;
    counts = counts_is i;
    peers = told_peer i;
    openings = told_opening i;
    writers = told_writer i;
    tables = tables_is i;
    changes = told_change i;
    batches = told_batch i;
    lanes = told_lane i;
  }

  -- EACH PART is told
  small_count : (n most : ℕ) → n ≤ most → most ≤ most_count → n < 2 ^ 64
  small_count n most low few = omega (arith, low, few)

  counts_held : AreWide state.counts
  counts_held = (
    small_count state.counts.acts most_count are.counts.acts (omega arith),
    (
      small_count state.counts.last_change most_count are.counts.last_change (omega arith),
      (
        small_count state.counts.last_batch most_count are.counts.last_batch (omega arith),
        (
          small_count state.counts.last_tx most_count are.counts.last_tx (omega arith),
          small_count state.counts.routed state.counts.last_change are.counts.routed are.counts.last_change,
        ),
      ),
    ),
  )

  count_told : (b : Bool) → All (λ (c : counted.Counts). IsTold config (Counts c)) (cond b [] (state.counts ∷ []))
  count_told true = All-nil (λ (c : counted.Counts). IsTold config (Counts c))
  count_told false = All-cons (λ (c : counted.Counts). IsTold config (Counts c)) state.counts [] (record { form = refl; values = tt; held = counts_held })
      (All-nil (λ (c : counted.Counts). IsTold config (Counts c)))

  few_places : (n few most : ℕ) → n < few → few ≤ most → most ≤ 2 ^ 31 → n < 2 ^ 32
  few_places n few most less low small = omega (arith, less, low, small)

  narrow_table : (table : ℕ) → table < length config.tables → table < 2 ^ 32
  narrow_table table less = few_places table (length config.tables) most_tables less sound.tables.few (omega arith)

  narrow_channel : (channel : ℕ) → channel < length config.channels → channel < 2 ^ 32
  narrow_channel channel less = few_places channel (length config.channels) most_channels less sound.channels.few (omega arith)

  named_node : (stage : Stage) → stage_stands state stage ≡ true → names_node stage ≡ true
  named_node Waiting is = refl
  named_node (Given node) is = peer_known config sound state are node is
  named_node (Closed node) is = peer_known config sound state are node is

  -- each item passes what all of its list pass
  passes : {A : Type 0} (p : A → Bool) (xs : List A) → list_all p xs ≡ true → All (λ x. p x ≡ true) xs
  passes p xs is = AllPass-from_list_all p xs is

  batch_counted : (batch : OutBatch) → is_counted_batch state batch ≡ true → is_name_text batch.peer ≡ true
  batch_counted batch is =
      peer_known config sound state are batch.peer
      (and_left (is_peer_of state batch.peer) (list_all (is_kept state) batch.changes)
      (and_right (is_counted state.counts.last_batch batch.id) (is_peer_of state batch.peer && list_all (is_kept state) batch.changes) is))

  batch_told : All (λ (b : OutBatch). IsTold config (Batch b)) state.batches
  batch_told k d within =
      let batch : OutBatch = get_or state.batches k d in
      record {
        form = and_both (is_batch config batch) (is_name_text batch.peer) (passes (is_batch config) state.batches are.batches k d within)
            (batch_counted batch (passes (is_counted_batch state) state.batches are.sent k d within));
        values = tt;
        held = held.batches k d within;
      }

  counted_id : (change : changed.Change) → is_counted_change state.counts change ≡ true → change.id < 2 ^ 64
  counted_id change is =
      counted_small state.counts.last_change change.id are.counts.last_change
      (and_left (is_counted state.counts.last_change change.id) (is_counted state.counts.last_tx change.tx) is)

  counted_tx : (change : changed.Change) → is_counted_change state.counts change ≡ true → change.tx < 2 ^ 64
  counted_tx change is =
      counted_small state.counts.last_tx change.tx are.counts.last_tx
      (and_right (is_counted state.counts.last_change change.id) (is_counted state.counts.last_tx change.tx) is)

  change_formed : (change : changed.Change) → IsChange config change → is_change config change ≡ true
  change_formed change is =
      and_both (nat_lt change.table (length config.tables)) _ (is_lt_test change.table (length config.tables) is.table)
      (and_both (nat_lt change.channel (length config.channels)) _ (is_lt_test change.channel (length config.channels) is.channel)
      (and_both (sides_stand change.event change.new change.old) (names_source change.source)
      (sides_so change.event change.new change.old is.new is.old) is.source))

  change_told : All (λ (c : changed.Change). IsTold config (Change c)) state.changes
  change_told k d within =
      let change : changed.Change = get_or state.changes k d in
      let is : IsChange config change = are.changes k d within in
      let counted_so : is_counted_change state.counts change ≡ true = passes (is_counted_change state.counts) state.changes are.counted k d within in
      record {
        form = change_formed change is;
        values = (side_fits (columns_at config.tables change.table) change.new is.new_row, side_fits (columns_at config.tables change.table) change.old is.old_row);
        held = (
          counted_id change counted_so,
          (
            counted_tx change counted_so,
            (narrow_table change.table is.table, narrow_channel change.channel is.channel),
          ),
        );
      }

  lane_formed : (lane : LaneIn) → is_sound_lane config state lane ≡ true → (nat_lt lane.channel (length config.channels) && is_name_text lane.peer) ≡ true
  lane_formed lane is =
      let own = and_left (is_lane_of config lane) (is_peer_of state lane.peer && error_is_later lane) is in
      let rest = and_right (is_lane_of config lane) (is_peer_of state lane.peer && error_is_later lane) is in
      and_both (nat_lt lane.channel (length config.channels)) (is_name_text lane.peer)
      (and_left (nat_lt lane.channel (length config.channels)) (nat_le lane.highest most_count && error_is_within lane) own)
      (peer_known config sound state are lane.peer (and_left (is_peer_of state lane.peer) (error_is_later lane) rest))

  lane_told : All (λ (l : LaneIn). IsTold config (Lane l)) state.lanes
  lane_told k d within = record {
    form = lane_formed (get_or state.lanes k d) (passes (is_sound_lane config state) state.lanes are.lanes k d within);
    values = tt;
    held = held.lanes k d within;
  }

  me_told : All (λ (m : node.Peer). IsTold config (Me m)) (state.me ∷ [])
  me_told = All-cons (λ (m : node.Peer). IsTold config (Me m)) state.me [] (record { form = are.me; values = tt; held = tt })
      (All-nil (λ (m : node.Peer). IsTold config (Me m)))

  peer_told : All (λ (p : KeptPeer). IsTold config (Peer p)) state.peers
  peer_told k d within = record { form = passes (is_kept_peer config) state.peers are.peers k d within; values = tt; held = tt }

  opening_told : All (λ (o : opened.Opening). IsTold config (Opening o)) state.openings
  opening_told k d within =
      let opening : opened.Opening = get_or state.openings k d in
      record {
        form = and_both (is_opening config opening) (names_node opening.stage) (passes (is_opening config) state.openings are.openings k d within)
            (named_node opening.stage (are.stages k d within));
        values = tt;
        held = tt;
      }

  row_told : All (λ (r : TableRow). IsTold config (Row r)) (key_sorted config state.tables)
  row_told =
      key_sorted_all config (λ (r : TableRow). IsTold config (Row r)) state.tables
      (λ k d within.
      let at : TableRow = get_or state.tables k d in
      record {
        form = is_lt_test at.table (length config.tables) (are.tables.known k d within);
        values = row_fits (columns_at config.tables at.table) at.row (are.tables.held k d within);
        held = narrow_table at.table (are.tables.known k d within);
      })

  writer_told : All (λ (w : WriterLast). IsTold config (Writer w)) state.writers
  writer_told k d within =
      let last : WriterLast = get_or state.writers k d in
      record {
        form = and_left (is_name_text last.writer) (nat_le last.number state.counts.acts && nat_le (last.first + last.count) (state.counts.last_change + 1))
            (passes (is_counted_writer state.counts) state.writers are.writers k d within);
        values = tt;
        held = held.writers k d within;
      }

  and_told : {A : Type 0} (part : A → Told) (xs : List A) (later : List Told) → All (λ x. IsTold config (part x)) xs → All (IsTold config) later
      → All (IsTold config) (map part xs ++ later)
  and_told part xs later each rest = All-append (IsTold config) (map part xs) later (map_all (IsTold config) part xs each) rest

  each_told : All (IsTold config) all_parts
  each_told =
      and_told Batch state.batches from_counts batch_told
      (and_told Counts count_list from_changes (count_told (state.counts.acts == 0))
      (and_told Change state.changes from_lanes change_told
      (and_told Lane state.lanes from_me lane_told
      (and_told Me (state.me ∷ []) from_peers me_told
      (and_told Peer state.peers from_openings peer_told
      (and_told Opening state.openings from_rows opening_told
      (and_told Row (key_sorted config state.tables) from_writers row_told
      (and_told Writer state.writers [] writer_told (All-nil (IsTold config))))))))))

  -- THEIR KEYS ascend
  abbrev Any : {A : Type 0} → A → A → Type 0
  Any x y = Unit {0}

  one_pair : {A : Type 0} (R : A → A → Type 0) (x : A) → AllPairs R (x ∷ [])
  one_pair R x = AllPairs-cons R x [] (All-nil (R x)) (pairs_nil R)

  count_pairs : (R : counted.Counts → counted.Counts → Type 0) (b : Bool) → AllPairs R (cond b [] (state.counts ∷ []))
  count_pairs R true = pairs_nil R
  count_pairs R false = one_pair R state.counts

  up : From config 98 all_parts
  up =
      from_kind config 98 99 Batch (λ (a b : OutBatch). (a.id < b.id) × ((a.id < 2 ^ 64) × (b.id < 2 ^ 64))) state.batches from_counts (omega arith) (λ x. refl)
      (λ x y is. before_after (codes "b/") (id_text x.id) (id_text y.id) ∙ id_before x.id y.id is.1.0 is.1.1 is.0)
      (pairs_with (λ (b : OutBatch). b.id < 2 ^ 64) (λ (a b : OutBatch). a.id < b.id) state.batches (λ k d within. (held.batches k d within).0) are.lists.batches)
      (from_kind config 99 100 Counts (λ a b. ⊥) count_list from_changes (omega arith) (λ x. refl) (λ x y is. absurd is) (count_pairs (λ a b. ⊥) (state.counts.acts == 0))
      (from_kind config 100 105 Change (λ (a b : changed.Change). (a.id < b.id) × ((a.id < 2 ^ 64) × (b.id < 2 ^ 64))) state.changes from_lanes (omega arith) (λ x. refl)
      (λ x y is. before_after (codes "d/") (id_text x.id) (id_text y.id) ∙ id_before x.id y.id is.1.0 is.1.1 is.0)
      (pairs_with (λ (c : changed.Change). c.id < 2 ^ 64) (λ (a b : changed.Change). a.id < b.id) state.changes
      (λ k d within. counted_id (get_or state.changes k d) (passes (is_counted_change state.counts) state.changes are.counted k d within)) are.lists.changes)
      (from_kind config 105 109 Lane (λ a b. IsTrue (is_before (lane_key config a) (lane_key config b))) state.lanes from_me (omega arith) (λ x. refl)
      (λ x y is. before_after (codes "i/") (lane_key config x) (lane_key config y) ∙ is) are.lists.lanes
      (from_kind config 109 110 Me (λ a b. ⊥) (state.me ∷ []) from_peers (omega arith) (λ x. refl) (λ x y is. absurd is) (one_pair (λ a b. ⊥) state.me)
      (from_kind config 110 111 Peer (λ a b. IsTrue (is_before (peer_key a) (peer_key b))) state.peers from_openings (omega arith) (λ x. refl)
      (λ x y is. before_after (codes "n/") (peer_key x) (peer_key y) ∙ is) are.lists.peers
      (from_kind config 111 116 Opening (λ a b. IsTrue (is_before (opening_key a) (opening_key b))) state.openings from_rows (omega arith) (λ x. refl)
      (λ x y is. before_after (codes "o/") (opening_key x) (opening_key y) ∙ is) are.lists.openings
      (from_kind config 116 119 Row (λ a b. IsTrue (is_before (row_key_of config a) (row_key_of config b))) (key_sorted config state.tables) from_writers (omega arith)
      (λ x. refl) (λ x y is. is) (key_sorted_up config state.tables)
      (from_kind config 119 120 Writer (λ a b. IsTrue (is_before (writer_key a) (writer_key b))) state.writers [] (omega arith) (λ x. refl)
      (λ x y is. before_after (codes "w/") (writer_key x) (writer_key y) ∙ is) are.lists.writers (from_none config 120)))))))))

  records_up : AscendBy key_of_record (map (record_of_told config) all_parts)
  records_up = map_pairs (Before config) (λ (a b : Record). IsTrue (is_before a.key b.key)) (record_of_told config) (λ x y is. is) all_parts up.up

  -- THE IMAGE is their records
  abbrev is_zero : counted.Counts → Bool
  is_zero counts = counts.acts == 0

  stand_by : (b : Bool) (counts : counted.Counts) → (state.counts.acts == 0) ≡ b → slice_get (cond b [] (state.counts ∷ [])) 0 ≡ Some counts
      → (counts.acts == 0) ≡ false
  stand_by true counts is told = absurd (true≢false (ap (λ o. elim o [ None ↦ true | Some y ↦ false ]) told))
  stand_by false counts is told = ap (λ o. elim o [ None ↦ false | Some c ↦ is_zero c ]) (sym told) ∙ is

  counts_stand : (counts : counted.Counts) → first_told counts_of_part all_parts ≡ Some counts → (counts.acts == 0) ≡ false
  counts_stand counts is = stand_by (state.counts.acts == 0) counts refl (sym (ap (λ xs. slice_get xs 0) told_counts) ∙ is)

  image_is : image_of config state ≡ map (record_of_told config) all_parts
  image_is =
      sym (ap (image_of config) state_is)
      ∙ told_image config sound all_parts (subst (AllByRecursion (RowFits config)) (sym told_row) key_row_fit) counts_stand state.me me_is
      (map (record_of_told config) all_parts) refl records_up

  are_told : AreTold config (image_of config state) all_parts
  are_told = record {
    each = each_told;
    records_are = sym image_is;
    ascend = subst (AscendBy key_of_record) (sym image_is) records_up;
  }

  -- NONE DISAGREES
  counts_agree : (b : Bool) → (state.counts.acts == 0) ≡ b → All (λ (c : counted.Counts). counts_disagree state c ≡ false) (cond b [] (state.counts ∷ []))
  counts_agree true is = All-nil (λ (c : counted.Counts). counts_disagree state c ≡ false)
  counts_agree false is = All-cons (λ (c : counted.Counts). counts_disagree state c ≡ false) state.counts []
      (neither (state.counts.acts == 0) _ is (neither (is_past state.counts) _ within
      (neither (nat_lt state.counts.last_change state.counts.routed) _ (not_under state.counts.last_change state.counts.routed are.counts.routed)
      (not_true (list_all (is_kept state) (unrouted_numbers state.counts)) are.unrouted))))
      (All-nil (λ (c : counted.Counts). counts_disagree state c ≡ false))
    where
      not_under : (most n : ℕ) → n ≤ most → nat_lt most n ≡ false
      not_under most n low = grind (arith, nat_tests)

      within : is_past state.counts ≡ false
      within = neither (nat_lt most_count state.counts.acts) _ (not_under most_count state.counts.acts are.counts.acts)
          (neither (nat_lt most_count state.counts.last_change) _ (not_under most_count state.counts.last_change are.counts.last_change)
          (neither (nat_lt most_count state.counts.last_batch) (nat_lt most_count state.counts.last_tx)
          (not_under most_count state.counts.last_batch are.counts.last_batch) (not_under most_count state.counts.last_tx are.counts.last_tx)))

  abbrev change_agrees : changed.Change → Type 0
  change_agrees c = (is_counted_change state.counts c ≡ true) × (IsChange config c)

  abbrev row_stands : TableRow → Type 0
  row_stands r = IsRowOf (columns_at config.tables r.table) r.row × (finds_parents config.tables state.tables r.table r.row ≡ true)

  rows_stand : All row_stands (key_sorted config state.tables)
  rows_stand = key_sorted_all config row_stands state.tables (λ k d within. (are.tables.held k d within, are.tables.references k d within))

  at_most : (a b c : ℕ) → a ≤ b → b ≤ c → 0 + a ≤ c
  at_most a b c low high = omega (arith, low, high)

  abbrev b0 : List Told
  b0 = [] ++ map Batch state.batches

  abbrev b1 : List Told
  b1 = b0 ++ map Counts count_list

  abbrev b2 : List Told
  b2 = b1 ++ map Change state.changes

  abbrev b3 : List Told
  b3 = b2 ++ map Lane state.lanes

  abbrev b4 : List Told
  b4 = b3 ++ map Me (state.me ∷ [])

  abbrev b5 : List Told
  b5 = b4 ++ map Peer state.peers

  abbrev b6 : List Told
  b6 = b5 ++ map Opening state.openings

  abbrev b7 : List Told
  b7 = b6 ++ map Row (key_sorted config state.tables)

  peers_none : filter_map peer_of_part b4 ≡ []
  peers_none =
      none_before peer_of_part Me (λ x. refl) b3 (state.me ∷ [])
      (none_before peer_of_part Lane (λ x. refl) b2 state.lanes
      (none_before peer_of_part Change (λ x. refl) b1 state.changes
      (none_before peer_of_part Counts (λ x. refl) b0 count_list
      (none_before peer_of_part Batch (λ x. refl) [] state.batches refl))))

  openings_none : filter_map opening_of_part b5 ≡ []
  openings_none =
      none_before opening_of_part Peer (λ x. refl) b4 state.peers
      (none_before opening_of_part Me (λ x. refl) b3 (state.me ∷ [])
      (none_before opening_of_part Lane (λ x. refl) b2 state.lanes
      (none_before opening_of_part Change (λ x. refl) b1 state.changes
      (none_before opening_of_part Counts (λ x. refl) b0 count_list
      (none_before opening_of_part Batch (λ x. refl) [] state.batches refl)))))

  rows_none : filter_map row_of_part b6 ≡ []
  rows_none =
      none_before row_of_part Opening (λ x. refl) b5 state.openings
      (none_before row_of_part Peer (λ x. refl) b4 state.peers
      (none_before row_of_part Me (λ x. refl) b3 (state.me ∷ [])
      (none_before row_of_part Lane (λ x. refl) b2 state.lanes
      (none_before row_of_part Change (λ x. refl) b1 state.changes
      (none_before row_of_part Counts (λ x. refl) b0 count_list
      (none_before row_of_part Batch (λ x. refl) [] state.batches refl))))))

  -- items of a kind whose agreement goes by no other part
  alone : {A : Type 0} (f : Told → Option A) (part : A → Told) (P : A → Type 0) → ((x : A) → f (part x) ≡ Some x)
      → ((before : List Told) (x : A) → P x → Agrees config state before (part x)) → (xs : List A) (before later : List Told) → All P xs
      → Walk config state (before ++ map part xs) later → Walk config state before (map part xs ++ later)
  alone f part P found by xs before later each rest =
      walk_kind config state f part (λ done x. P x) found by (filter_map f before) xs before later refl (each_alone P (filter_map f before) xs each) rest

  walk_writers : Walk config state b7 from_writers
  walk_writers =
      alone writer_of_part Writer (λ (w : WriterLast). is_counted_writer state.counts w ≡ true) (λ x. refl)
      (λ before x is. not_true (is_counted_writer state.counts x) is) state.writers b7 [] (passes (is_counted_writer state.counts) state.writers are.writers) refl

  walk_rows : Walk config state b6 from_rows
  walk_rows =
      walk_kind config state row_of_part Row (λ (done : List TableRow) r. (nat_le most_rows (length done) ≡ false) × row_stands r) (λ x. refl)
      (λ before x is. neither (has_null (columns_at config.tables x.table) x.row) _ (no_null (columns_at config.tables x.table) x.row is.1.0)
      (neither (not (finds_parents config.tables state.tables x.table x.row)) (nat_le most_rows (length (filter_map row_of_part before)))
      (not_true (finds_parents config.tables state.tables x.table x.row) is.1.1) is.0))
      [] (key_sorted config state.tables) b6 from_writers rows_none
      (each_and (λ (done : List TableRow) r. nat_le most_rows (length done) ≡ false) (λ done r. row_stands r) [] (key_sorted config state.tables)
      (each_few most_rows [] (key_sorted config state.tables)
      (at_most (length (key_sorted config state.tables)) (length state.tables) most_rows (key_sorted_few config state.tables) are.tables.few))
      (each_alone row_stands [] (key_sorted config state.tables) rows_stand)) walk_writers

  walk_openings : Walk config state b5 from_openings
  walk_openings =
      walk_kind config state opening_of_part Opening
      (λ (done : List opened.Opening) o. All (λ e. IsTrue (are_apart e o)) done × IsTrue (stage_stands state o.stage)) (λ x. refl)
      (λ before x is. neither (not (stage_stands state x.stage)) _ (not_true (stage_stands state x.stage) is.1)
      (none_passes (λ (e : opened.Opening). not (are_apart e x)) (filter_map opening_of_part before)
      (λ k d within. not_true (are_apart (get_or (filter_map opening_of_part before) k d) x) (is.0 k d within))))
      [] state.openings b5 from_rows openings_none
      (each_and (λ (done : List opened.Opening) o. All (λ e. IsTrue (are_apart e o)) done) (λ done o. IsTrue (stage_stands state o.stage)) [] state.openings
      (each_paired (λ (a b : opened.Opening). IsTrue (are_apart a b)) [] state.openings are.apart)
      (each_alone (λ (o : opened.Opening). IsTrue (stage_stands state o.stage)) [] state.openings are.stages)) walk_rows

  walk_peers : Walk config state b4 from_peers
  walk_peers =
      walk_kind config state peer_of_part Peer (λ (done : List KeptPeer) p. nat_le most_peers (length done) ≡ false) (λ x. refl)
      (λ before x is. is) [] state.peers b4 from_openings peers_none
      (each_few most_peers [] state.peers (at_most (length state.peers) (length state.peers) most_peers (omega arith) are.few)) walk_openings

  walk_me : Walk config state b3 from_me
  walk_me =
      alone me_of_part Me (λ (m : node.Peer). Unit {0}) (λ x. refl) (λ before x is. refl) (state.me ∷ []) b3 from_peers (λ k d within. tt) walk_peers

  walk_lanes : Walk config state b2 from_lanes
  walk_lanes =
      alone lane_of_part Lane (λ (l : LaneIn). is_sound_lane config state l ≡ true) (λ x. refl) (λ before x is. not_true (is_sound_lane config state x) is)
      state.lanes b2 from_me (passes (is_sound_lane config state) state.lanes are.lanes) walk_me

  walk_changes : Walk config state b1 from_changes
  walk_changes =
      alone change_of_part Change change_agrees (λ x. refl)
      (λ before x is. neither (not (is_counted_change state.counts x)) _ (not_true (is_counted_change state.counts x) is.0)
      (neither (side_has_null config x.table x.new) (side_has_null config x.table x.old) (side_no_null config x.table x.new is.1.new_row)
      (side_no_null config x.table x.old is.1.old_row)))
      state.changes b1 from_lanes (λ k d within. (passes (is_counted_change state.counts) state.changes are.counted k d within, are.changes k d within)) walk_lanes

  walk_counts : Walk config state b0 from_counts
  walk_counts =
      alone counts_of_part Counts (λ (c : counted.Counts). counts_disagree state c ≡ false) (λ x. refl) (λ before x is. is) count_list b0 from_changes
      (counts_agree (state.counts.acts == 0) refl) walk_changes

  walk_all : Walk config state [] all_parts
  walk_all =
      walk_kind config state batch_of_part Batch
      (λ (done : List OutBatch) b. All (λ e. IsTrue (acks_ascend e b)) done × (is_counted_batch state b ≡ true)) (λ x. refl)
      (λ before x is. neither (not (is_counted_batch state x)) _ (not_true (is_counted_batch state x) is.1)
      (none_passes (λ (e : OutBatch). not (acks_ascend e x)) (filter_map batch_of_part before)
      (λ k d within. not_true (acks_ascend (get_or (filter_map batch_of_part before) k d) x) (is.0 k d within))))
      [] state.batches [] from_counts refl
      (each_and (λ (done : List OutBatch) b. All (λ e. IsTrue (acks_ascend e b)) done) (λ done b. is_counted_batch state b ≡ true) [] state.batches
      (each_paired (λ (a b : OutBatch). IsTrue (acks_ascend a b)) [] state.batches are.acks)
      (each_alone (λ (b : OutBatch). is_counted_batch state b ≡ true) [] state.batches (passes (is_counted_batch state) state.batches are.sent))) walk_counts

  tells : TellsState config state
  tells = record {
    parts = all_parts;
    told = are_told;
    state_is = ap (option_map (state_with config all_parts)) me_is ∙ ap Some state_is;
    agree = walk_all;
  }

pub images_are_told : ImagesAreTold
images_are_told config state sound are held = tells config sound state are held
