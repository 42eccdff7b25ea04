-- Two sound states with one image are one state: each part is told by its records.
use Rattle.std.proofs.Common.{◌≡◌, ℕ, ◌<◌, ◌==◌, Bool, true, false, cond, List, [], ◌∷◌, ◌++◌, map, Less, refl, sym, ap, ◌∙◌, arith, true≢false, is_lt, nat_cmp}
use Rattle.std.specs.Prelude.{codes}
use Rattle.std.specs.List.{AllByRecursion}
use Rattle.std.specs.Cmp.Lexicographic.{slice_cmp}
use Rattle.std.proofs.lemmas.Bool.{eqb-true}
use Rattle.std.proofs.lemmas.Cmp.{nat_list_cmp_total, tied_itself}
use Rattle.std.proofs.lemmas.Option.{same_Some}
use Rattle.sds_types.specs.declared.batch.OutBatch.{OutBatch}
use Rattle.sds_types.specs.declared.config.Config.{Config}
use Rattle.sds_types.specs.declared.counts.Counts.{Counts}
use Rattle.sds_types.specs.declared.row.Change.{Change}
use Rattle.sds_types.specs.declared.row.TableRow.{TableRow}
use Rattle.sds_trade.specs.rules.Sound.{IsSound}
use Rattle.sds_trade.specs.rules.Tables.{Ascend, row_order}
use Rattle.sds_trade.proofs.TableLaws.{less_is, row_total}
use Rattle.sds_history.specs.history.Acts.{State}
use Rattle.sds_history.specs.history.Image.{count_records, records_of}
use Rattle.sds_history.specs.history.Lanes.{lane_key}
use Rattle.sds_history.specs.history.Openings.{opening_key}
use Rattle.sds_history.specs.history.Orders.{is_before}
use Rattle.sds_history.specs.history.Peers.{peer_key}
use Rattle.sds_history.specs.history.Records.{Record, batch_record, count_record, lane_record, me_record, opening_record, peer_record, writer_record}
use Rattle.sds_history.specs.history.RowRecords.{change_record, row_record}
use Rattle.sds_history.specs.history.SoundParts.{AreCounts}
use Rattle.sds_history.specs.history.SoundStates.{IsSoundState}
use Rattle.sds_history.specs.history.Writers.{writer_key}
use Rattle.sds_imagelaws.specs.Apart.{ErrorsHaveBits, ImagesTellStatesApart}
use Rattle.sds_image.specs.Pairs.{pairs}
use Rattle.sds_imagelaws.proofs.ChangeRecords.{ChangeFits, same_change, same_row}
use Rattle.sds_imagelaws.proofs.Distinct.{Distinct, ascending_distinct}
use Rattle.sds_imagelaws.proofs.Images.{tables_fit}
use Rattle.sds_imagelaws.proofs.LaneRecords.{BatchFits, LaneFits, same_batch, same_lane}
use Rattle.sds_imagelaws.proofs.Lookups.{body_at}
use Rattle.sds_imagelaws.proofs.NodeRecords.{OpeningFits, PeerFits, WriterFits, no_acts, peer_names, same_counts, same_me, same_opening, same_peer, same_writer}
use Rattle.sds_imagelaws.proofs.PartSteps.{batches_distinct, before_differs, by_key_distinct, changes_distinct}
use Rattle.sds_imagelaws.proofs.Parts.{RecordsAt, mapped_at}
use Rattle.sds_imagelaws.proofs.RowKeys.{RowFits, rows_tell}
use Rattle.sds_imagelaws.proofs.SameItems.{From, RecordsSame, first_same, from_last, from_part, parts_same, rest_same, same_items}
use Rattle.sds_imagelaws.proofs.Sorted.{sorted_has}
use Rattle.sds_imagelaws.proofs.SoundFits.{batches_fit, changes_fit, lanes_fit, openings_fit, peers_fit, writers_fit}
use Rattle.sds_imagelaws.proofs.Tests.{no_value}

-- ORDERS lead one way
abbrev Below : {A : Type 0} → (A → List ℕ) → A → A → Type 0
Below key a b = is_before (key a) (key b) ≡ true

below_once : {A : Type 0} (key : A → List ℕ) (a b : A) → Below key a b → Below key b a → ⊥
below_once key a b less more =
    before_differs (key a) (key a)
    (ap is_lt (nat_list_cmp_total.trans (key a) (key b) (key a) (less_is (slice_cmp nat_cmp (key a) (key b)) less) (less_is (slice_cmp nat_cmp (key b) (key a)) more)))
    refl

number_once : (m n : ℕ) → m < n → n < m → ⊥
number_once m n less more = absurd (omega (arith, less, more))

pub row_once : (config : Config) (a b : TableRow) → row_order config.tables a b ≡ Less → row_order config.tables b a ≡ Less → ⊥
row_once config a b less more =
    absurd (true≢false (sym (ap is_lt ((row_total config.tables).trans a b a less more)) ∙ ap is_lt (tied_itself (row_total config.tables) a)))

pub rows_distinct : (config : Config) → IsSound config → (rows : List TableRow) → AllByRecursion (RowFits config) rows → Ascend config.tables rows → Distinct (row_record config) rows
rows_distinct config sound rows fit up =
    ascending_distinct (row_record config) (RowFits config) (λ (a b : TableRow). row_order config.tables a b ≡ Less) rows
    (λ x y fits also less same. absurd (true≢false
    (sym (ap is_lt less) ∙ (ap is_lt ((rows_tell config sound).tells x y y fits also same) ∙ ap is_lt (tied_itself (row_total config.tables) y))))) fit up

-- THE NODE and its counters
counts_told : (a b : Counts) → AreCounts a → AreCounts b → RecordsSame (count_records a) (count_records b) → a ≡ b
counts_told a b are also same = on (a.acts == 0) (b.acts == 0) refl refl (same (codes "count"))
  where
    on : (x y : Bool) → (a.acts == 0) ≡ x → (b.acts == 0) ≡ y
        → body_at (codes "count") (pairs (cond x [] (count_record a ∷ []))) ≡ body_at (codes "count") (pairs (cond y [] (count_record b ∷ []))) → a ≡ b
    on true true is too told = no_acts a b are also (eqb-true a.acts 0 is) (eqb-true b.acts 0 too)
    on true false is too told = no_value (count_record b).body told
    on false true is too told = no_value (count_record a).body (sym told)
    on false false is too told = same_counts a b are also (same_Some (count_record a).body (count_record b).body told)

-- THE PARTS, each with those that stand after it
module _ (config : Config) where
  abbrev from_batches : State → List Record
  from_batches s = map (batch_record config) s.batches ++ map (lane_record config) s.lanes

  abbrev from_changes : State → List Record
  from_changes s = map (change_record config) s.changes ++ from_batches s

  abbrev from_tables : State → List Record
  from_tables s = map (row_record config) s.tables ++ from_changes s

  abbrev from_writers : State → List Record
  from_writers s = map writer_record s.writers ++ from_tables s

  abbrev from_openings : State → List Record
  from_openings s = map opening_record s.openings ++ from_writers s

  abbrev from_peers : State → List Record
  from_peers s = map peer_record s.peers ++ from_openings s

  abbrev from_counts : State → List Record
  from_counts s = count_records s.counts ++ from_peers s

  at_8 : (s : State) → RecordsAt 8 (map (lane_record config) s.lanes)
  at_8 s = mapped_at (lane_record config) 8 s.lanes (λ x. refl)

  at_7 : (s : State) → RecordsAt 7 (map (batch_record config) s.batches)
  at_7 s = mapped_at (batch_record config) 7 s.batches (λ x. refl)

  at_6 : (s : State) → RecordsAt 6 (map (change_record config) s.changes)
  at_6 s = mapped_at (change_record config) 6 s.changes (λ x. refl)

  at_5 : (s : State) → RecordsAt 5 (map (row_record config) s.tables)
  at_5 s = mapped_at (row_record config) 5 s.tables (λ x. refl)

  at_4 : (s : State) → RecordsAt 4 (map writer_record s.writers)
  at_4 s = mapped_at writer_record 4 s.writers (λ x. refl)

  at_3 : (s : State) → RecordsAt 3 (map opening_record s.openings)
  at_3 s = mapped_at opening_record 3 s.openings (λ x. refl)

  at_2 : (s : State) → RecordsAt 2 (map peer_record s.peers)
  at_2 s = mapped_at peer_record 2 s.peers (λ x. refl)

  at_1 : (counts : Counts) → RecordsAt 1 (count_records counts)
  at_1 counts = on (counts.acts == 0)
    where
      on : (b : Bool) → RecordsAt 1 (cond b [] (count_record counts ∷ []))
      on true = tt
      on false = (refl, tt)

  from_8 : (s : State) → From 8 (map (lane_record config) s.lanes)
  from_8 s = from_last 8 (map (lane_record config) s.lanes) (at_8 s)

  from_7 : (s : State) → From 7 (from_batches s)
  from_7 s = from_part 7 (map (batch_record config) s.batches) (map (lane_record config) s.lanes) (at_7 s) (from_8 s)

  from_6 : (s : State) → From 6 (from_changes s)
  from_6 s = from_part 6 (map (change_record config) s.changes) (from_batches s) (at_6 s) (from_7 s)

  from_5 : (s : State) → From 5 (from_tables s)
  from_5 s = from_part 5 (map (row_record config) s.tables) (from_changes s) (at_5 s) (from_6 s)

  from_4 : (s : State) → From 4 (from_writers s)
  from_4 s = from_part 4 (map writer_record s.writers) (from_tables s) (at_4 s) (from_5 s)

  from_3 : (s : State) → From 3 (from_openings s)
  from_3 s = from_part 3 (map opening_record s.openings) (from_writers s) (at_3 s) (from_4 s)

  from_2 : (s : State) → From 2 (from_peers s)
  from_2 s = from_part 2 (map peer_record s.peers) (from_openings s) (at_2 s) (from_3 s)

  from_1 : (s : State) → From 1 (from_counts s)
  from_1 s = from_part 1 (count_records s.counts) (from_peers s) (at_1 s.counts) (from_2 s)

  -- each part has the same records
  pub record PartsAreSame (a b : State) : Type 0 where
    pub me : RecordsSame (me_record a.me ∷ []) (me_record b.me ∷ [])
    pub counts : RecordsSame (count_records a.counts) (count_records b.counts)
    pub peers : RecordsSame (map peer_record a.peers) (map peer_record b.peers)
    pub openings : RecordsSame (map opening_record a.openings) (map opening_record b.openings)
    pub writers : RecordsSame (map writer_record a.writers) (map writer_record b.writers)
    pub tables : RecordsSame (map (row_record config) a.tables) (map (row_record config) b.tables)
    pub changes : RecordsSame (map (change_record config) a.changes) (map (change_record config) b.changes)
    pub batches : RecordsSame (map (batch_record config) a.batches) (map (batch_record config) b.batches)
    pub lanes : RecordsSame (map (lane_record config) a.lanes) (map (lane_record config) b.lanes)

  pub parts_are_same : (a b : State) → RecordsSame (records_of config a) (records_of config b) → PartsAreSame a b
  parts_are_same a b same =
      let s1 = rest_same 0 (me_record a.me ∷ []) (me_record b.me ∷ []) (from_counts a) (from_counts b) (refl, tt) (refl, tt) (from_1 a) (from_1 b) same in
      let s2 = rest_same 1 (count_records a.counts) (count_records b.counts) (from_peers a) (from_peers b) (at_1 a.counts) (at_1 b.counts) (from_2 a) (from_2 b) s1 in
      let s3 = rest_same 2 (map peer_record a.peers) (map peer_record b.peers) (from_openings a) (from_openings b) (at_2 a) (at_2 b) (from_3 a) (from_3 b) s2 in
      let s4 = rest_same 3 (map opening_record a.openings) (map opening_record b.openings) (from_writers a) (from_writers b) (at_3 a) (at_3 b) (from_4 a) (from_4 b) s3 in
      let s5 = rest_same 4 (map writer_record a.writers) (map writer_record b.writers) (from_tables a) (from_tables b) (at_4 a) (at_4 b) (from_5 a) (from_5 b) s4 in
      let s6 = rest_same 5 (map (row_record config) a.tables) (map (row_record config) b.tables) (from_changes a) (from_changes b) (at_5 a) (at_5 b) (from_6 a) (from_6 b) s5 in
      let s7 = rest_same 6 (map (change_record config) a.changes) (map (change_record config) b.changes) (from_batches a) (from_batches b) (at_6 a) (at_6 b) (from_7 a) (from_7 b) s6 in
      record {
        me = first_same 0 (me_record a.me ∷ []) (me_record b.me ∷ []) (from_counts a) (from_counts b) (refl, tt) (refl, tt) (from_1 a) (from_1 b) same;
        counts = first_same 1 (count_records a.counts) (count_records b.counts) (from_peers a) (from_peers b) (at_1 a.counts) (at_1 b.counts) (from_2 a) (from_2 b) s1;
        peers = first_same 2 (map peer_record a.peers) (map peer_record b.peers) (from_openings a) (from_openings b) (at_2 a) (at_2 b) (from_3 a) (from_3 b) s2;
        openings = first_same 3 (map opening_record a.openings) (map opening_record b.openings) (from_writers a) (from_writers b) (at_3 a) (at_3 b) (from_4 a) (from_4 b) s3;
        writers = first_same 4 (map writer_record a.writers) (map writer_record b.writers) (from_tables a) (from_tables b) (at_4 a) (at_4 b) (from_5 a) (from_5 b) s4;
        tables = first_same 5 (map (row_record config) a.tables) (map (row_record config) b.tables) (from_changes a) (from_changes b) (at_5 a) (at_5 b) (from_6 a) (from_6 b) s5;
        changes = first_same 6 (map (change_record config) a.changes) (map (change_record config) b.changes) (from_batches a) (from_batches b) (at_6 a) (at_6 b) (from_7 a) (from_7 b) s6;
        batches = first_same 7 (map (batch_record config) a.batches) (map (batch_record config) b.batches) (map (lane_record config) a.lanes) (map (lane_record config) b.lanes)
            (at_7 a) (at_7 b) (from_8 a) (from_8 b) s7;
        lanes = rest_same 7 (map (batch_record config) a.batches) (map (batch_record config) b.batches) (map (lane_record config) a.lanes) (map (lane_record config) b.lanes)
            (at_7 a) (at_7 b) (from_8 a) (from_8 b) s7;
      }

-- ONE STATE
module _ (config : Config) (sound : IsSound config) (a b : State) (are : IsSoundState config a) (also : IsSoundState config b)
    (bits : ErrorsHaveBits a) (too : ErrorsHaveBits b) (parts : PartsAreSame config a b) where
  me : a.me ≡ b.me
  me = same_me a.me b.me (peer_names config sound a.me are.me) (peer_names config sound b.me also.me)
      (same_Some (me_record a.me).body (me_record b.me).body (parts.me (codes "me")))

  counts : a.counts ≡ b.counts
  counts = counts_told a.counts b.counts are.counts also.counts parts.counts

  peers : a.peers ≡ b.peers
  peers = same_items peer_record PeerFits (Below peer_key) same_peer (below_once peer_key) a.peers b.peers
      (peers_fit config sound a are) (peers_fit config sound b also) are.lists.peers also.lists.peers
      (by_key_distinct peer_record peer_key (codes "n/") (λ x. refl) a.peers are.lists.peers)
      (by_key_distinct peer_record peer_key (codes "n/") (λ x. refl) b.peers also.lists.peers)
      (parts_same peer_record a.peers b.peers parts.peers)

  openings : a.openings ≡ b.openings
  openings = same_items opening_record OpeningFits (Below opening_key) same_opening (below_once opening_key) a.openings b.openings
      (openings_fit config sound a are) (openings_fit config sound b also) are.lists.openings also.lists.openings
      (by_key_distinct opening_record opening_key (codes "o/") (λ x. refl) a.openings are.lists.openings)
      (by_key_distinct opening_record opening_key (codes "o/") (λ x. refl) b.openings also.lists.openings)
      (parts_same opening_record a.openings b.openings parts.openings)

  writers : a.writers ≡ b.writers
  writers = same_items writer_record WriterFits (Below writer_key) same_writer (below_once writer_key) a.writers b.writers
      (writers_fit config sound a are) (writers_fit config sound b also) are.lists.writers also.lists.writers
      (by_key_distinct writer_record writer_key (codes "w/") (λ x. refl) a.writers are.lists.writers)
      (by_key_distinct writer_record writer_key (codes "w/") (λ x. refl) b.writers also.lists.writers)
      (parts_same writer_record a.writers b.writers parts.writers)

  tables : a.tables ≡ b.tables
  tables = same_items (row_record config) (RowFits config) (λ (x y : TableRow). row_order config.tables x y ≡ Less) (same_row config sound) (row_once config)
      a.tables b.tables (tables_fit config a.tables are.tables) (tables_fit config b.tables also.tables) are.tables.ascend also.tables.ascend
      (rows_distinct config sound a.tables (tables_fit config a.tables are.tables) are.tables.ascend)
      (rows_distinct config sound b.tables (tables_fit config b.tables also.tables) also.tables.ascend)
      (parts_same (row_record config) a.tables b.tables parts.tables)

  changes : a.changes ≡ b.changes
  changes = same_items (change_record config) (ChangeFits config) (λ (x y : Change). x.id < y.id) (same_change config sound) (λ x y. number_once x.id y.id)
      a.changes b.changes (changes_fit config sound a are) (changes_fit config sound b also) are.lists.changes also.lists.changes
      (changes_distinct config a are) (changes_distinct config b also) (parts_same (change_record config) a.changes b.changes parts.changes)

  batches : a.batches ≡ b.batches
  batches = same_items (batch_record config) (BatchFits config) (λ (x y : OutBatch). x.id < y.id) (same_batch config sound) (λ x y. number_once x.id y.id)
      a.batches b.batches (batches_fit config sound a are bits) (batches_fit config sound b also too) are.lists.batches also.lists.batches
      (batches_distinct config a are) (batches_distinct config b also) (parts_same (batch_record config) a.batches b.batches parts.batches)

  lanes : a.lanes ≡ b.lanes
  lanes = same_items (lane_record config) (LaneFits config) (Below (lane_key config)) (same_lane config sound) (below_once (lane_key config)) a.lanes b.lanes
      (lanes_fit config sound a are bits) (lanes_fit config sound b also too) are.lists.lanes also.lists.lanes
      (by_key_distinct (lane_record config) (lane_key config) (codes "i/") (λ x. refl) a.lanes are.lists.lanes)
      (by_key_distinct (lane_record config) (lane_key config) (codes "i/") (λ x. refl) b.lanes also.lists.lanes)
      (parts_same (lane_record config) a.lanes b.lanes parts.lanes)

  one_state : a ≡ b
  one_state = λ i. record {
    me = me i;
    counts = counts i;
    peers = peers i;
    openings = openings i;
    writers = writers i;
    tables = tables i;
    changes = changes i;
    batches = batches i;
    lanes = lanes i;
  }

pub images_tell_states_apart : ImagesTellStatesApart
images_tell_states_apart config a b sound are also bits too same =
    one_state config sound a b are also bits too
    (parts_are_same config a b (λ key. sym (sorted_has key (records_of config a))
    ∙ (ap (λ records. body_at key (pairs records)) same ∙ sorted_has key (records_of config b))))
