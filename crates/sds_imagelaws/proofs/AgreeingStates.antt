-- Told parts that agree tell a sound state, whose image is the records that tell them.
use Rattle.std.proofs.Common.{◌≡◌, ℕ, ◌+◌, ◌<◌, ◌≤◌, ◌==◌, ◌&&◌, ◌||◌, Bool, true, false, not, List, [], ◌∷◌, length, map, Option, None, Some, refl, sym, ap, subst, ◌∙◌, arith, All, AllPairs, get_or, true≢false}
use Rattle.std.specs.Prelude.{IsTrue, codes, nat_le, nat_lt, option_map, unwrap_or}
use Rattle.std.specs.List.{AllByRecursion, filter_map, list_all}
use Rattle.std.proofs.lemmas.List.{length-append}
use Rattle.std.proofs.lemmas.List.Elements.{All-nil, recursion_from_All}
use Rattle.std.proofs.lemmas.List.Kept.{AllPairs-cons}
use Rattle.std.proofs.lemmas.List.Sums.{list_all-from_AllPass}
use Rattle.std.proofs.lemmas.Option.{same_Some}
use Rattle.sds_value.specs.Names.{is_name_text}
use Rattle.sds_value.specs.declared.row.Peer as node
use Rattle.sds_value.specs.declared.table.TableDef.{TableDef}
use Rattle.sds_types.specs.Limits.{most_count, most_peers, most_rows}
use Rattle.sds_types.specs.declared.batch.OutBatch.{OutBatch}
use Rattle.sds_types.specs.declared.config.Config.{Config}
use Rattle.sds_types.specs.declared.counts.Counts as counted
use Rattle.sds_types.specs.declared.counts.WriterLast.{WriterLast}
use Rattle.sds_types.specs.declared.lane.LaneIn.{LaneIn}
use Rattle.sds_types.specs.declared.peer.KeptPeer.{KeptPeer}
use Rattle.sds_types.specs.declared.registration.Opening as opened
use Rattle.sds_types.specs.declared.row.Change as changed
use Rattle.sds_types.specs.declared.row.TableRow.{TableRow}
use Rattle.sds_trade.proofs.Lists.{all_head, all_tail, pairs_head, pairs_tail}
use Rattle.sds_trade.proofs.ReferenceLaws.{not_false}
use Rattle.sds_trade.proofs.TableLaws.{with_row_ascends}
use Rattle.sds_trade.specs.rules.Fitting.{FitsRow}
use Rattle.sds_trade.specs.rules.Places.{columns_at}
use Rattle.sds_trade.specs.rules.Sound.{IsSound}
use Rattle.sds_trade.specs.rules.StepRules.{has_null}
use Rattle.sds_trade.specs.rules.Tables.{AreTables, Ascend, IsRowOf, finds_parents}
use Rattle.sds_history.specs.history.Acts.{State}
use Rattle.sds_history.specs.history.Counters.{is_past}
use Rattle.sds_history.specs.history.Image.{image_of, key_of_record}
use Rattle.sds_history.specs.history.Lanes.{lane_key}
use Rattle.sds_history.specs.history.Openings.{opening_key}
use Rattle.sds_history.specs.history.Orders.{is_before}
use Rattle.sds_history.specs.history.Peers.{peer_key}
use Rattle.sds_history.specs.history.Records.{Record, id_text}
use Rattle.sds_history.specs.history.SoundParts.{AreCounts, AscendBy, IsChange, is_batch, is_kept_peer, is_opening, is_peer}
use Rattle.sds_history.specs.history.SoundStates.{IsSoundState, ListsAscend, acks_ascend, are_apart, is_counted_batch, is_counted_change, is_counted_writer, is_kept, is_sound_lane, stage_stands, unrouted_numbers}
use Rattle.sds_history.specs.history.States.{zero_counts}
use Rattle.sds_history.specs.history.Writers.{writer_key}
use Rattle.sds_records.specs.Told.{IsHeldBatch, IsHeldLane, IsHeldWriter, names_node, names_source, record_of_told, sides_stand}
use Rattle.sds_records.specs.declared.told.Told.{Told}
use Rattle.sds_records.specs.declared.told.Told.TheVariants.{Change}
use Rattle.sds_nodelaws.proofs.CallActs.{first_false}
use Rattle.sds_nodelaws.proofs.Held.{mapped}
use Rattle.sds_nodelaws.proofs.KeyedLists.{pairs_nil}
use Rattle.sds_nodelaws.proofs.Lists.{and_left, and_right, from_lt, from_not_le, from_not_lt, second_false, slice_all, unmap_all}
use Rattle.sds_nodelaws.proofs.TableRuns.{all_with, each_fails, new_held, with_row_length}
use Rattle.sds_image.specs.Reading.{AreTold, IsTold, counts_disagree, counts_of_part, first_disagreement, first_told, me_of_part, row_of_part, side_has_null, sorted_rows, state_told, state_with}
use Rattle.sds_imagelaws.specs.Reading.{AgreeingRecordsAreImages, AreHeld}
use Rattle.sds_imagelaws.proofs.Agreement.{Agrees, agreeing_hold, one_more_all, one_more_pair}
use Rattle.sds_imagelaws.proofs.Gathered.{told_image}
use Rattle.sds_imagelaws.proofs.KeyOrders.{before_after, id_order}
use Rattle.sds_imagelaws.proofs.PartKinds.{Kind, batch_kind, change_kind, counts_kind, lane_kind, me_kind, opening_kind, peer_kind, row_kind, told_all, told_pairs, writer_kind}
use Rattle.sds_imagelaws.proofs.RowKeys.{RowFits, columns_suit}
use Rattle.sds_imagelaws.proofs.Sides.{new_stands, old_stands, side_held}
use Rattle.sds_imagelaws.proofs.Tests.{no_value}

-- PAIRS of told parts
unmap_pairs : {A B : Type 0} (R : B → B → Type 0) (f : A → B) (xs : List A) → AllPairs R (map f xs) → AllPairs (λ a b. R (f a) (f b)) xs
unmap_pairs R f [] up = pairs_nil (λ a b. R (f a) (f b))
unmap_pairs R f (x ∷ xs) up =
    AllPairs-cons (λ a b. R (f a) (f b)) x xs (unmap_all (R (f x)) f xs (pairs_head R (f x) (map f xs) up))
    (unmap_pairs R f xs (pairs_tail R (f x) (map f xs) up))

pub pairs_with : {A : Type 0} (P : A → Type 0) (R : A → A → Type 0) (xs : List A) → All P xs → AllPairs R xs → AllPairs (λ a b. R a b × (P a × P b)) xs
pairs_with P R [] are up = pairs_nil (λ a b. R a b × (P a × P b))
pairs_with P R (x ∷ xs) are up =
    AllPairs-cons (λ a b. R a b × (P a × P b)) x xs
    (λ k d within. (pairs_head R x xs up k d within, (all_head P x xs are, all_tail P x xs are k d within)))
    (pairs_with P R xs (all_tail P x xs are) (pairs_tail R x xs up))

-- ROWS in the order of tables
module _ (defs : List TableDef) where
  sorted_all : (P : TableRow → Type 0) (rows : List TableRow) → All P rows → All P (sorted_rows defs rows)
  sorted_all P [] are = are
  sorted_all P (row ∷ rows) are = all_with P defs (sorted_rows defs rows) row (sorted_all P rows (all_tail P row rows are)) (all_head P row rows are)

  sorted_few : (rows : List TableRow) → length (sorted_rows defs rows) ≤ length rows
  sorted_few [] = omega arith
  sorted_few (row ∷ rows) =
      let rest = sorted_few rows in
      let more = with_row_length defs (sorted_rows defs rows) row in
      omega (arith, rest, more)

  pub sorted_ascend : (rows : List TableRow) → Ascend defs (sorted_rows defs rows)
  sorted_ascend [] = λ i j d less within. absurd (omega (arith, within))
  sorted_ascend (row ∷ rows) = with_row_ascends defs (sorted_rows defs rows) row (sorted_ascend rows)

few_more : (m n most : ℕ) → n ≡ m + 1 → m < most → n ≤ most
few_more m n most is less = omega (arith, is, less)

module _ (config : Config) (sound : IsSound config) (records : List Record) (parts : List Told) (told : AreTold config records parts)
    (me : node.Peer) (me_is : first_told me_of_part parts ≡ Some me)
    (none : first_disagreement config (state_with config parts me) parts ≡ None) where
  abbrev state : State
  state = state_with config parts me

  abbrev Stands : Told → Told → Type 0
  Stands a b = (is_before (record_of_told config a).key (record_of_told config b).key ≡ true) × (IsTold config a × IsTold config b)

  up : AllPairs Stands parts
  up =
      pairs_with (IsTold config) (λ a b. is_before (record_of_told config a).key (record_of_told config b).key ≡ true) parts told.each
      (unmap_pairs (λ (a b : Record). is_before a.key b.key ≡ true) (record_of_told config) parts
      (subst (AscendBy key_of_record) (sym told.records_are) told.ascend))

  lists : ListsAscend config state
  lists = record {
    peers = told_pairs config KeptPeer (peer_kind config) Stands (λ a b. IsTrue (is_before (peer_key a) (peer_key b)))
        (λ x y is. sym (before_after (codes "n/") (peer_key x) (peer_key y)) ∙ is.0) parts up;
    openings = told_pairs config opened.Opening (opening_kind config) Stands (λ a b. IsTrue (is_before (opening_key a) (opening_key b)))
        (λ x y is. sym (before_after (codes "o/") (opening_key x) (opening_key y)) ∙ is.0) parts up;
    writers = told_pairs config WriterLast (writer_kind config) Stands (λ a b. IsTrue (is_before (writer_key a) (writer_key b)))
        (λ x y is. sym (before_after (codes "w/") (writer_key x) (writer_key y)) ∙ is.0) parts up;
    changes = told_pairs config changed.Change (change_kind config) Stands (λ (a b : changed.Change). a.id < b.id)
        (λ x y is. id_order x.id y.id is.1.0.held.0 is.1.1.held.0 (sym (before_after (codes "d/") (id_text x.id) (id_text y.id)) ∙ is.0)) parts up;
    batches = told_pairs config OutBatch (batch_kind config) Stands (λ (a b : OutBatch). a.id < b.id)
        (λ x y is. id_order x.id y.id is.1.0.held.0 is.1.1.held.0 (sym (before_after (codes "b/") (id_text x.id) (id_text y.id)) ∙ is.0)) parts up;
    lanes = told_pairs config LaneIn (lane_kind config) Stands (λ a b. IsTrue (is_before (lane_key config a) (lane_key config b)))
        (λ x y is. sym (before_after (codes "i/") (lane_key config x) (lane_key config y)) ∙ is.0) parts up;
  }

  -- each of a kind, as it is told
  of_told : (A : Type 0) (kind : Kind config A) (Q : A → Type 0) → ((x : A) → IsTold config (kind.part x) → Q x) → All Q (filter_map kind.of_part parts)
  of_told A kind Q by = told_all config A kind (IsTold config) Q by parts told.each

  -- each of a kind, as it agrees
  of_agreeing : (A : Type 0) (kind : Kind config A) (Q : A → Type 0) → ((before : List Told) (x : A) → Agrees config state before (kind.part x) → Q x)
      → All Q (filter_map kind.of_part parts)
  of_agreeing A kind Q by =
      agreeing_hold config state A kind (All Q) (λ before x agrees are. one_more_all Q (filter_map kind.of_part before) x are (by before x agrees))
      [] parts (All-nil Q) none

  -- each of a kind with those before it
  pairs_agreeing : (A : Type 0) (kind : Kind config A) (R : A → A → Type 0)
      → ((before : List Told) (x : A) → Agrees config state before (kind.part x) → All (λ y. R y x) (filter_map kind.of_part before))
      → AllPairs R (filter_map kind.of_part parts)
  pairs_agreeing A kind R by =
      agreeing_hold config state A kind (AllPairs R) (λ before x agrees are. one_more_pair R (filter_map kind.of_part before) x are (by before x agrees))
      [] parts (pairs_nil R) none

  few_agreeing : (A : Type 0) (kind : Kind config A) (most : ℕ)
      → ((before : List Told) (x : A) → Agrees config state before (kind.part x) → nat_le most (length (filter_map kind.of_part before)) ≡ false)
      → length (filter_map kind.of_part parts) ≤ most
  few_agreeing A kind most by =
      agreeing_hold config state A kind (λ xs. length xs ≤ most)
      (λ before x agrees are. few_more (length (filter_map kind.of_part before)) _ most (length-append (filter_map kind.of_part before) (x ∷ []))
      (from_not_le most (length (filter_map kind.of_part before)) (by before x agrees))) [] parts (omega arith) none

  -- THE COUNTERS
  abbrev CountsAgree : counted.Counts → Type 0
  CountsAgree counts = counts_disagree state counts ≡ false

  counts_agree : (counts : counted.Counts) → first_told counts_of_part parts ≡ Some counts → CountsAgree counts
  counts_agree counts is =
      slice_all CountsAgree (filter_map counts_of_part parts) 0 counts
      (of_agreeing counted.Counts (counts_kind config) CountsAgree (λ before x agrees. agrees)) is

  abbrev past_rest : counted.Counts → Bool
  past_rest counts = is_past counts || (nat_lt counts.last_change counts.routed || not (list_all (is_kept state) (unrouted_numbers counts)))

  counts_stand : (counts : counted.Counts) → first_told counts_of_part parts ≡ Some counts → (counts.acts == 0) ≡ false
  counts_stand counts is = first_false (counts.acts == 0) (past_rest counts) (counts_agree counts is)

  agreeing_counts : (counts : counted.Counts) → CountsAgree counts → AreCounts counts
  agreeing_counts counts agree =
      let rest = second_false (counts.acts == 0) (past_rest counts) agree in
      let marks = second_false (is_past counts) (nat_lt counts.last_change counts.routed || not (list_all (is_kept state) (unrouted_numbers counts))) rest in
      let within = first_false (is_past counts) (nat_lt counts.last_change counts.routed || not (list_all (is_kept state) (unrouted_numbers counts))) rest in
      let changes = second_false (nat_lt most_count counts.acts)
      (nat_lt most_count counts.last_change || (nat_lt most_count counts.last_batch || nat_lt most_count counts.last_tx)) within in
      let batches = second_false (nat_lt most_count counts.last_change) (nat_lt most_count counts.last_batch || nat_lt most_count counts.last_tx) changes in
      record {
        acts = from_not_lt most_count counts.acts (first_false (nat_lt most_count counts.acts)
            (nat_lt most_count counts.last_change || (nat_lt most_count counts.last_batch || nat_lt most_count counts.last_tx)) within);
        last_change = from_not_lt most_count counts.last_change
            (first_false (nat_lt most_count counts.last_change) (nat_lt most_count counts.last_batch || nat_lt most_count counts.last_tx) changes);
        last_batch = from_not_lt most_count counts.last_batch (first_false (nat_lt most_count counts.last_batch) (nat_lt most_count counts.last_tx) batches);
        last_tx = from_not_lt most_count counts.last_tx (second_false (nat_lt most_count counts.last_batch) (nat_lt most_count counts.last_tx) batches);
        routed = from_not_lt counts.last_change counts.routed
            (first_false (nat_lt counts.last_change counts.routed) (not (list_all (is_kept state) (unrouted_numbers counts))) marks);
        none = λ zero. absurd (true≢false (sym (ap (λ n. n == 0) zero) ∙ first_false (counts.acts == 0) (past_rest counts) agree));
      }

  zero_fit : AreCounts zero_counts
  zero_fit = record {
    acts = omega arith;
    last_change = omega arith;
    last_batch = omega arith;
    last_tx = omega arith;
    routed = omega arith;
    none = λ zero. refl;
  }

  agreeing_unrouted : (counts : counted.Counts) → CountsAgree counts → list_all (is_kept state) (unrouted_numbers counts) ≡ true
  agreeing_unrouted counts agree =
      let rest = second_false (counts.acts == 0) (past_rest counts) agree in
      let marks = second_false (is_past counts) (nat_lt counts.last_change counts.routed || not (list_all (is_kept state) (unrouted_numbers counts))) rest in
      not_false (list_all (is_kept state) (unrouted_numbers counts))
      (second_false (nat_lt counts.last_change counts.routed) (not (list_all (is_kept state) (unrouted_numbers counts))) marks)

  counts_fit : (o : Option counted.Counts) → first_told counts_of_part parts ≡ o → AreCounts (unwrap_or o zero_counts)
  counts_fit None is = zero_fit
  counts_fit (Some counts) is = agreeing_counts counts (counts_agree counts is)

  unrouted_kept : (o : Option counted.Counts) → first_told counts_of_part parts ≡ o
      → list_all (is_kept state) (unrouted_numbers (unwrap_or o zero_counts)) ≡ true
  unrouted_kept None is = refl
  unrouted_kept (Some counts) is = agreeing_unrouted counts (counts_agree counts is)

  -- THE TABLES
  rows : List TableRow
  rows = filter_map row_of_part parts

  abbrev row_rest : List Told → TableRow → Bool
  row_rest before row = not (finds_parents config.tables state.tables row.table row.row) || nat_le most_rows (length (filter_map row_of_part before))

  rows_held : All (λ (row : TableRow). IsRowOf (columns_at config.tables row.table) row.row) (filter_map row_of_part parts)
  rows_held k d within =
      let at : TableRow = get_or (filter_map row_of_part parts) k d in
      new_held config.tables at.table at.row
      (of_told TableRow (row_kind config) (λ (r : TableRow). FitsRow config.tables r.table r.row) (λ x is. is.values) k d within)
      (of_agreeing TableRow (row_kind config) (λ (r : TableRow). has_null (columns_at config.tables r.table) r.row ≡ false)
      (λ before x agrees. first_false (has_null (columns_at config.tables x.table) x.row) (row_rest before x) agrees) k d within)

  rows_refer : All (λ (r : TableRow). IsTrue (finds_parents config.tables state.tables r.table r.row)) (filter_map row_of_part parts)
  rows_refer = of_agreeing TableRow (row_kind config) (λ (r : TableRow). IsTrue (finds_parents config.tables state.tables r.table r.row))
      (λ before x agrees. not_false (finds_parents config.tables state.tables x.table x.row)
      (first_false (not (finds_parents config.tables state.tables x.table x.row)) (nat_le most_rows (length (filter_map row_of_part before)))
      (second_false (has_null (columns_at config.tables x.table) x.row) (row_rest before x) agrees)))

  rows_few : length (filter_map row_of_part parts) ≤ most_rows
  rows_few = few_agreeing TableRow (row_kind config) most_rows
      (λ before x agrees. second_false (not (finds_parents config.tables state.tables x.table x.row)) (nat_le most_rows (length (filter_map row_of_part before)))
      (second_false (has_null (columns_at config.tables x.table) x.row) (row_rest before x) agrees))

  rows_known : All (λ (r : TableRow). r.table < length config.tables) (filter_map row_of_part parts)
  rows_known = of_told TableRow (row_kind config) (λ (r : TableRow). r.table < length config.tables) (λ x is. from_lt x.table (length config.tables) is.form)

  at_most : (a b c : ℕ) → a ≤ b → b ≤ c → a ≤ c
  at_most a b c low high = omega (arith, low, high)

  tables : AreTables config.tables (sorted_rows config.tables (filter_map row_of_part parts))
  tables = record {
    few = at_most (length (sorted_rows config.tables (filter_map row_of_part parts))) (length (filter_map row_of_part parts)) most_rows
        (sorted_few config.tables (filter_map row_of_part parts)) rows_few;
    known = sorted_all config.tables (λ (r : TableRow). r.table < length config.tables) (filter_map row_of_part parts) rows_known;
    held = sorted_all config.tables (λ (r : TableRow). IsRowOf (columns_at config.tables r.table) r.row) (filter_map row_of_part parts) rows_held;
    ascend = sorted_ascend config.tables (filter_map row_of_part parts);
    references = sorted_all config.tables (λ (r : TableRow). IsTrue (finds_parents config.tables state.tables r.table r.row)) (filter_map row_of_part parts)
        rows_refer;
  }

  rows_fit : AllByRecursion (RowFits config) (filter_map row_of_part parts)
  rows_fit = recursion_from_All (RowFits config) (filter_map row_of_part parts)
      (of_told TableRow (row_kind config) (RowFits config) (λ x is. record {
        known = from_lt x.table (length config.tables) is.form;
        suits = columns_suit (columns_at config.tables x.table) x.row.0 is.values;
      }))

  -- THE CHANGES
  abbrev sides_null : changed.Change → Bool
  sides_null change = side_has_null config change.table change.new || side_has_null config change.table change.old

  change_is : (change : changed.Change) → IsTold config (Change change) → sides_null change ≡ false → IsChange config change
  change_is change is none =
      let rest = and_right (nat_lt change.table (length config.tables))
      (nat_lt change.channel (length config.channels) && (sides_stand change.event change.new change.old && names_source change.source)) is.form in
      let sides = and_right (nat_lt change.channel (length config.channels)) (sides_stand change.event change.new change.old && names_source change.source) rest in
      let stand = and_left (sides_stand change.event change.new change.old) (names_source change.source) sides in
      record {
        table = from_lt change.table (length config.tables) (and_left (nat_lt change.table (length config.tables))
            (nat_lt change.channel (length config.channels) && (sides_stand change.event change.new change.old && names_source change.source)) is.form);
        channel = from_lt change.channel (length config.channels)
            (and_left (nat_lt change.channel (length config.channels)) (sides_stand change.event change.new change.old && names_source change.source) rest);
        new = new_stands change.event change.new change.old stand;
        old = old_stands change.event change.new change.old stand;
        new_row = side_held config change.table change.new is.values.0
            (first_false (side_has_null config change.table change.new) (side_has_null config change.table change.old) none);
        old_row = side_held config change.table change.old is.values.1
            (second_false (side_has_null config change.table change.new) (side_has_null config change.table change.old) none);
        source = and_right (sides_stand change.event change.new change.old) (names_source change.source) sides;
      }

  changes_are : All (IsChange config) state.changes
  changes_are k d within =
      change_is (get_or state.changes k d)
      (of_told changed.Change (change_kind config) (λ (c : changed.Change). IsTold config (Change c)) (λ x is. is) k d within)
      (of_agreeing changed.Change (change_kind config) (λ (c : changed.Change). sides_null c ≡ false)
      (λ before x agrees. second_false (not (is_counted_change state.counts x)) (sides_null x) agrees) k d within)

  -- all of a kind pass a test
  pass : {A : Type 0} (p : A → Bool) (xs : List A) → All (λ x. p x ≡ true) xs → list_all p xs ≡ true
  pass p xs are = list_all-from_AllPass p xs are

  sound_state : IsSoundState config state
  sound_state = record {
    me = slice_all (λ (m : node.Peer). is_peer config m ≡ true) (filter_map me_of_part parts) 0 me
        (of_told node.Peer (me_kind config) (λ (m : node.Peer). is_peer config m ≡ true) (λ x is. is.form)) me_is;
    counts = counts_fit (first_told counts_of_part parts) refl;
    lists = lists;
    peers = pass (is_kept_peer config) state.peers (of_told KeptPeer (peer_kind config) (λ (k : KeptPeer). is_kept_peer config k ≡ true) (λ x is. is.form));
    few = few_agreeing KeptPeer (peer_kind config) most_peers (λ before x agrees. agrees);
    openings = pass (is_opening config) state.openings
        (of_told opened.Opening (opening_kind config) (λ (o : opened.Opening). is_opening config o ≡ true)
        (λ x is. and_left (is_opening config x) (names_node x.stage) is.form));
    stages = of_agreeing opened.Opening (opening_kind config) (λ (o : opened.Opening). IsTrue (stage_stands state o.stage))
        (λ before x agrees. not_false (stage_stands state x.stage) (first_false (not (stage_stands state x.stage)) _ agrees));
    apart = pairs_agreeing opened.Opening (opening_kind config) (λ (a b : opened.Opening). IsTrue (are_apart a b))
        (λ before x agrees. mapped (λ (e : opened.Opening). not (are_apart e x) ≡ false) (λ (e : opened.Opening). IsTrue (are_apart e x)) _
        (λ e is. not_false (are_apart e x) is)
        (each_fails (λ (e : opened.Opening). not (are_apart e x)) _ (second_false (not (stage_stands state x.stage)) _ agrees)));
    writers = pass (is_counted_writer state.counts) state.writers
        (of_agreeing WriterLast (writer_kind config) (λ (w : WriterLast). is_counted_writer state.counts w ≡ true)
        (λ before x agrees. not_false (is_counted_writer state.counts x) agrees));
    tables = tables;
    changes = changes_are;
    counted = pass (is_counted_change state.counts) state.changes
        (of_agreeing changed.Change (change_kind config) (λ (c : changed.Change). is_counted_change state.counts c ≡ true)
        (λ before x agrees. not_false (is_counted_change state.counts x) (first_false (not (is_counted_change state.counts x)) (sides_null x) agrees)));
    unrouted = unrouted_kept (first_told counts_of_part parts) refl;
    batches = pass (is_batch config) state.batches
        (of_told OutBatch (batch_kind config) (λ (b : OutBatch). is_batch config b ≡ true) (λ x is. and_left (is_batch config x) (is_name_text x.peer) is.form));
    sent = pass (is_counted_batch state) state.batches
        (of_agreeing OutBatch (batch_kind config) (λ (b : OutBatch). is_counted_batch state b ≡ true)
        (λ before x agrees. not_false (is_counted_batch state x) (first_false (not (is_counted_batch state x)) _ agrees)));
    acks = pairs_agreeing OutBatch (batch_kind config) (λ (a b : OutBatch). IsTrue (acks_ascend a b))
        (λ before x agrees. mapped (λ (e : OutBatch). not (acks_ascend e x) ≡ false) (λ (e : OutBatch). IsTrue (acks_ascend e x)) _
        (λ e is. not_false (acks_ascend e x) is)
        (each_fails (λ (e : OutBatch). not (acks_ascend e x)) _ (second_false (not (is_counted_batch state x)) _ agrees)));
    lanes = pass (is_sound_lane config state) state.lanes
        (of_agreeing LaneIn (lane_kind config) (λ (l : LaneIn). is_sound_lane config state l ≡ true)
        (λ before x agrees. not_false (is_sound_lane config state x) agrees));
  }

  held : AreHeld state
  held = record {
    writers = of_told WriterLast (writer_kind config) IsHeldWriter (λ x is. is.held);
    batches = of_told OutBatch (batch_kind config) IsHeldBatch (λ x is. is.held);
    lanes = of_told LaneIn (lane_kind config) IsHeldLane (λ x is. is.held);
  }

  image_is : image_of config state ≡ records
  image_is = told_image config sound parts rows_fit counts_stand me me_is records told.records_are told.ascend

-- the first part that tells the node itself
record HasMe (config : Config) (parts : List Told) (state : State) : Type 0 where
  me : node.Peer
  first : first_told me_of_part parts ≡ Some me
  state_is : state_with config parts me ≡ state

has_me : (config : Config) (parts : List Told) (state : State) → state_told config parts ≡ Some state → HasMe config parts state
has_me config parts state is = on (first_told me_of_part parts) refl is
  where
    on : (o : Option node.Peer) → first_told me_of_part parts ≡ o → option_map (state_with config parts) o ≡ Some state → HasMe config parts state
    on None at told = no_value state told
    on (Some me) at told = record { me = me; first = at; state_is = same_Some (state_with config parts me) state told }

pub agreeing_records_are_images : AgreeingRecordsAreImages
agreeing_records_are_images config records parts state sound told is none =
    let has = has_me config parts state is in
    let none_so : first_disagreement config (state_with config parts has.me) parts ≡ None = subst (λ s. first_disagreement config s parts ≡ None) (sym has.state_is) none in (
      subst (IsSoundState config) has.state_is (sound_state config sound records parts told has.me has.first none_so),
      (
        subst AreHeld has.state_is (held config sound records parts told has.me has.first none_so),
        subst (λ s. image_of config s ≡ records) has.state_is (image_is config sound records parts told has.me has.first none_so),
      ),
    )
