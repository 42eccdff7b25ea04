-- Records gathered place by place are those of all told parts, so the state that parts tell has them as its image.
use Rattle.std.proofs.Common.{◌≡◌, ◌≢◌, ℕ, ◌+◌, ◌<◌, ◌≤◌, ◌==◌, Bool, true, false, cond, List, [], ◌∷◌, ◌++◌, map, Option, None, Some, refl, sym, ap, subst, ◌∙◌, arith, filter, is_lt}
use Rattle.std.specs.Prelude.{codes, nat_lt, slice_get, unwrap_or}
use Rattle.std.specs.List.{AllByRecursion, filter_map}
use Rattle.std.specs.Str.{bytes_eq}
use Rattle.std.proofs.lemmas.Bool.{eqb-true}
use Rattle.std.proofs.lemmas.Bool.Decides.{nat_tests}
use Rattle.std.proofs.lemmas.Option.{same_Some}
use Rattle.sds_outside.specs.Records as outside
use Rattle.sds_value.specs.declared.row.Peer as node
use Rattle.sds_types.specs.declared.batch.OutBatch.{OutBatch}
use Rattle.sds_types.specs.declared.config.Config.{Config}
use Rattle.sds_types.specs.declared.counts.Counts as counted
use Rattle.sds_types.specs.declared.counts.WriterLast.{WriterLast}
use Rattle.sds_types.specs.declared.lane.LaneIn.{LaneIn}
use Rattle.sds_types.specs.declared.peer.KeptPeer.{KeptPeer}
use Rattle.sds_types.specs.declared.registration.Opening as opened
use Rattle.sds_types.specs.declared.row.Change as changed
use Rattle.sds_types.specs.declared.row.TableRow.{TableRow}
use Rattle.sds_trade.specs.rules.Sound.{IsSound}
use Rattle.sds_trade.specs.rules.Tables.{row_order}
use Rattle.sds_history.specs.history.Acts.{State}
use Rattle.sds_history.specs.history.Image.{count_records, image_of, key_of_record, records_of}
use Rattle.sds_history.specs.history.Records.{Record, batch_record, count_record, lane_record, me_record, opening_record, peer_record, writer_record}
use Rattle.sds_history.specs.history.RowRecords.{change_record, row_record}
use Rattle.sds_history.specs.history.SoundParts.{AscendBy}
use Rattle.sds_history.specs.history.States.{zero_counts}
use Rattle.sds_records.specs.Told.{record_of_told}
use Rattle.sds_records.specs.declared.told.Told.{Told}
use Rattle.sds_records.specs.declared.told.Told.TheVariants.{Me, Counts, Peer, Opening, Writer, Row, Change, Batch, Lane}
use Rattle.sds_image.specs.Reading.{counts_of_part, first_told, me_of_part, row_of_part, sorted_rows, state_with}
use Rattle.sds_nodelaws.proofs.Lists.{from_lt}
use Rattle.sds_image.specs.Pairs.{pairs}
use Rattle.sds_imagelaws.proofs.Items.{part_at, part_is, part_put}
use Rattle.sds_imagelaws.proofs.PartKinds.{Kind, batch_kind, change_kind, counts_kind, lane_kind, me_kind, opening_kind, peer_kind, place_told, row_kind, writer_kind}
use Rattle.sds_imagelaws.proofs.Lists.{each_append, each_filter}
use Rattle.sds_imagelaws.proofs.Lookups.{body_at, same_records}
use Rattle.sds_imagelaws.proofs.Parts.{RecordsAt, body_append, mapped_at, other_place, place_of, records_none}
use Rattle.sds_imagelaws.proofs.RowKeys.{RowFits, rows_tell}
use Rattle.sds_imagelaws.proofs.Sorted.{ascending_of, sorted_ascend, sorted_has}
use Rattle.sds_imagelaws.proofs.Tests.{differs, first_alone, first_of, no_value}

-- GATHERED by places from one on: no record of a lower place, and all that the records have of the others
module _ (all : List Record) where
  pub record Gathers (place : ℕ) (records : List Record) : Type 0 where
    pub low : (key : List ℕ) → place_of key < place → body_at key (pairs records) ≡ None
    pub has : (key : List ℕ) → place ≤ place_of key → body_at key (pairs records) ≡ body_at key (pairs all)

  next_place : (p place : ℕ) → (p == place) ≡ false → place ≤ p → place + 1 ≤ p
  next_place p place isnt low = grind (arith, nat_tests)

  lower_place : (p place : ℕ) → p < place → p < place + 1
  lower_place p place less = omega (arith, less)

  same_place : (p place : ℕ) → p ≡ place → p < place + 1
  same_place p place is = omega (arith, is)

  not_same : (p place : ℕ) → p < place → p ≢ place
  not_same p place less is = absurd (omega (arith, less, is))

  module _ (place : ℕ) (part rest : List Record) (at : RecordsAt place part)
      (same : (key : List ℕ) → place_of key ≡ place → body_at key (pairs part) ≡ body_at key (pairs all)) (later : Gathers (place + 1) rest) where
    has_on : (key : List ℕ) (b : Bool) → (place_of key == place) ≡ b → place ≤ place_of key
        → body_at key (pairs (part ++ rest)) ≡ body_at key (pairs all)
    has_on key true is within =
        let here : place_of key ≡ place = eqb-true (place_of key) place is in
        body_append key part rest
        ∙ (ap (first_of (body_at key (pairs part))) (later.low key (same_place (place_of key) place here))
        ∙ (first_alone (body_at key (pairs part)) ∙ same key here))
    has_on key false is within =
        body_append key part rest
        ∙ (ap (λ told. first_of told (body_at key (pairs rest))) (records_none key place part at (other_place (place_of key) place is))
        ∙ later.has key (next_place (place_of key) place is within))

    pub gathers_more : Gathers place (part ++ rest)
    gathers_more = record {
      low = λ key less. body_append key part rest
          ∙ (ap (λ told. first_of told (body_at key (pairs rest))) (records_none key place part at (not_same (place_of key) place less))
          ∙ later.low key (lower_place (place_of key) place less));
      has = λ key within. has_on key (place_of key == place) refl within;
    }

  module _ (place : ℕ) (part : List Record) (at : RecordsAt place part)
      (same : (key : List ℕ) → place_of key ≡ place → body_at key (pairs part) ≡ body_at key (pairs all))
      (none : (key : List ℕ) → place + 1 ≤ place_of key → body_at key (pairs all) ≡ None) where
    last_on : (key : List ℕ) (b : Bool) → (place_of key == place) ≡ b → place ≤ place_of key → body_at key (pairs part) ≡ body_at key (pairs all)
    last_on key true is within = same key (eqb-true (place_of key) place is)
    last_on key false is within =
        records_none key place part at (other_place (place_of key) place is) ∙ sym (none key (next_place (place_of key) place is within))

    pub gathers_last : Gathers place part
    gathers_last = record {
      low = λ key less. records_none key place part at (not_same (place_of key) place less);
      has = λ key within. last_on key (place_of key == place) refl within;
    }

-- ONE OF EACH KEY: where all items have one key, the first alone tells
module _ {A : Type 0} (kept : A → Record) (own : List ℕ) (keyed : (x : A) → (kept x).key ≡ own) where
  none_other : (key : List ℕ) (xs : List A) → bytes_eq own key ≡ false → body_at key (pairs (map kept xs)) ≡ None
  none_other key [] isnt = refl
  none_other key (x ∷ xs) isnt =
      ap (λ b. cond b (Some (kept x).body) (body_at key (pairs (map kept xs)))) (ap (λ k. bytes_eq k key) (keyed x) ∙ isnt) ∙ none_other key xs isnt

  first_same : (key : List ℕ) (x : A) (xs : List A) → body_at key (pairs (kept x ∷ [])) ≡ body_at key (pairs (map kept (x ∷ xs)))
  first_same key x xs = on (bytes_eq own key) refl
    where
      on : (b : Bool) → bytes_eq own key ≡ b
          → cond (bytes_eq (kept x).key key) (Some (kept x).body) None ≡ cond (bytes_eq (kept x).key key) (Some (kept x).body) (body_at key (pairs (map kept xs)))
      on true is = ap (λ b. cond b (Some (kept x).body) None) (ap (λ k. bytes_eq k key) (keyed x) ∙ is)
          ∙ sym (ap (λ b. cond b (Some (kept x).body) (body_at key (pairs (map kept xs)))) (ap (λ k. bytes_eq k key) (keyed x) ∙ is))
      on false is = ap (λ t. cond (bytes_eq (kept x).key key) (Some (kept x).body) t) (sym (none_other key xs is))

  pub first_alone_tells : (key : List ℕ) (xs : List A) (x : A) → slice_get xs 0 ≡ Some x
      → body_at key (pairs (kept x ∷ [])) ≡ body_at key (pairs (map kept xs))
  first_alone_tells key [] x is = no_value x is
  first_alone_tells key (y ∷ ys) x is =
      subst (λ z. body_at key (pairs (kept z ∷ [])) ≡ body_at key (pairs (map kept (y ∷ ys)))) (same_Some y x is) (first_same key y ys)

-- ROWS in the order of tables have the records that they have in any order
module _ (config : Config) (sound : IsSound config) where
  pub sorted_fit : (rows : List TableRow) → AllByRecursion (RowFits config) rows → AllByRecursion (RowFits config) (sorted_rows config.tables rows)
  sorted_fit [] are = tt
  sorted_fit (row ∷ rows) are =
      let rest = sorted_fit rows are.1 in
      each_append (RowFits config) (filter (λ (r : TableRow). is_lt (row_order config.tables r row)) (sorted_rows config.tables rows)) _
      (each_filter (RowFits config) (λ (r : TableRow). is_lt (row_order config.tables r row)) (sorted_rows config.tables rows) rest)
      (are.0, each_filter (RowFits config) (λ (r : TableRow). is_lt (row_order config.tables row r)) (sorted_rows config.tables rows) rest)

  pub sorted_part : (key : List ℕ) (rows : List TableRow) → AllByRecursion (RowFits config) rows
      → part_at (row_record config) key (sorted_rows config.tables rows) ≡ part_at (row_record config) key rows
  sorted_part key [] are = refl
  sorted_part key (row ∷ rows) are =
      part_put (row_record config) (row_order config.tables) (RowFits config) (rows_tell config sound) row key (sorted_rows config.tables rows) are.0
      (sorted_fit rows are.1)
      ∙ ap (λ told. cond (bytes_eq (row_record config row).key key) (Some (row_record config row).body) told) (sorted_part key rows are.1)

  pub sorted_tell : (key : List ℕ) (rows : List TableRow) → AllByRecursion (RowFits config) rows
      → body_at key (pairs (map (row_record config) (sorted_rows config.tables rows))) ≡ body_at key (pairs (map (row_record config) rows))
  sorted_tell key rows are =
      part_is (row_record config) key (sorted_rows config.tables rows) ∙ (sorted_part key rows are ∙ sym (part_is (row_record config) key rows))

pub none_first : {A : Type 0} (xs : List A) → slice_get xs 0 ≡ None → xs ≡ []
none_first [] is = refl
none_first (x ∷ xs) is = no_value x (sym is)

-- RECORDS by their pairs
abbrev record_at : outside.Record → Record
record_at pair = record { key = pair.0; body = pair.1 }

back : (records : List Record) → map record_at (pairs records) ≡ records
back [] = refl
back (kept ∷ records) = ap (λ l. kept ∷ l) (back records)

pub unpaired : (xs ys : List Record) → pairs xs ≡ pairs ys → xs ≡ ys
unpaired xs ys same = sym (back xs) ∙ (ap (map record_at) same ∙ back ys)

-- THE STATE that parts tell
module _ (config : Config) (sound : IsSound config) (parts : List Told) where
  abbrev all : List Record
  all = map (record_of_told config) parts

  low_kind : (told : Told) → nat_lt (place_of (record_of_told config told).key) 9 ≡ true
  low_kind (Me me) = refl
  low_kind (Counts counts) = refl
  low_kind (Peer kept) = refl
  low_kind (Opening opening) = refl
  low_kind (Writer last) = refl
  low_kind (Row row) = refl
  low_kind (Change change) = refl
  low_kind (Batch batch) = refl
  low_kind (Lane lane) = refl

  high_other : (p q : ℕ) → nat_lt p 9 ≡ true → 9 ≤ q → p ≢ q
  high_other p q low high is = let less = from_lt p 9 low in absurd (omega (arith, less, high, is))

  none_high : (key : List ℕ) (told : List Told) → 9 ≤ place_of key → body_at key (pairs (map (record_of_told config) told)) ≡ None
  none_high key [] high = refl
  none_high key (t ∷ told) high =
      ap (λ b. cond b (Some (record_of_told config t).body) (body_at key (pairs (map (record_of_told config) told))))
      (differs (record_of_told config t).key key (λ same. high_other (place_of (record_of_told config t).key) (place_of key) (low_kind t) high (ap place_of same)))
      ∙ none_high key told high

  own_same : (A : Type 0) (kind : Kind config A) (key : List ℕ) → place_of key ≡ kind.place
      → body_at key (pairs (map kind.kept (filter_map kind.of_part parts))) ≡ body_at key (pairs all)
  own_same A kind key at = sym (place_told config A kind key at parts)

  -- COUNTERS that are told are of an act
  abbrev pub CountsStand : Type 0
  CountsStand = (counts : counted.Counts) → first_told counts_of_part parts ≡ Some counts → (counts.acts == 0) ≡ false

  counts_at : (counts : counted.Counts) → RecordsAt 1 (count_records counts)
  counts_at counts = on (counts.acts == 0)
    where
      on : (b : Bool) → RecordsAt 1 (cond b [] (count_record counts ∷ []))
      on true = tt
      on false = (refl, tt)

  counts_same : CountsStand → (o : Option counted.Counts) → first_told counts_of_part parts ≡ o → (key : List ℕ) → place_of key ≡ 1
      → body_at key (pairs (count_records (unwrap_or o zero_counts))) ≡ body_at key (pairs all)
  counts_same stand None is key at =
      sym (ap (λ xs. body_at key (pairs (map count_record xs))) (none_first (filter_map counts_of_part parts) is))
      ∙ own_same counted.Counts (counts_kind config) key at
  counts_same stand (Some counts) is key at =
      ap (λ b. body_at key (pairs (cond b [] (count_record counts ∷ [])))) (stand counts is)
      ∙ (first_alone_tells count_record (codes "count") (λ x. refl) key (filter_map counts_of_part parts) counts is
      ∙ own_same counted.Counts (counts_kind config) key at)

  module _ (rows_fit : AllByRecursion (RowFits config) (filter_map row_of_part parts)) (stand : CountsStand) (me : node.Peer)
      (me_is : first_told me_of_part parts ≡ Some me) where
    abbrev pub told_state : State
    told_state = state_with config parts me

    gathered_8 : Gathers all 8 (map (lane_record config) told_state.lanes)
    gathered_8 = gathers_last all 8 (map (lane_record config) told_state.lanes) (mapped_at (lane_record config) 8 told_state.lanes (λ x. refl))
        (own_same LaneIn (lane_kind config)) (λ key high. none_high key parts high)

    gathered_7 : Gathers all 7 (map (batch_record config) told_state.batches ++ map (lane_record config) told_state.lanes)
    gathered_7 = gathers_more all 7 (map (batch_record config) told_state.batches) _ (mapped_at (batch_record config) 7 told_state.batches (λ x. refl))
        (own_same OutBatch (batch_kind config)) gathered_8

    gathered_6 : Gathers all 6 (map (change_record config) told_state.changes ++ (map (batch_record config) told_state.batches
        ++ map (lane_record config) told_state.lanes))
    gathered_6 = gathers_more all 6 (map (change_record config) told_state.changes) _ (mapped_at (change_record config) 6 told_state.changes (λ x. refl))
        (own_same changed.Change (change_kind config)) gathered_7

    gathered_5 : Gathers all 5 (map (row_record config) told_state.tables ++ (map (change_record config) told_state.changes
        ++ (map (batch_record config) told_state.batches ++ map (lane_record config) told_state.lanes)))
    gathered_5 = gathers_more all 5 (map (row_record config) told_state.tables) _ (mapped_at (row_record config) 5 told_state.tables (λ x. refl))
        (λ key at. sorted_tell config sound key (filter_map row_of_part parts) rows_fit ∙ own_same TableRow (row_kind config) key at) gathered_6

    gathered_4 : Gathers all 4 (map writer_record told_state.writers ++ (map (row_record config) told_state.tables
        ++ (map (change_record config) told_state.changes
        ++ (map (batch_record config) told_state.batches ++ map (lane_record config) told_state.lanes))))
    gathered_4 = gathers_more all 4 (map writer_record told_state.writers) _ (mapped_at writer_record 4 told_state.writers (λ x. refl))
        (own_same WriterLast (writer_kind config)) gathered_5

    gathered_3 : Gathers all 3 (map opening_record told_state.openings ++ (map writer_record told_state.writers
        ++ (map (row_record config) told_state.tables ++ (map (change_record config) told_state.changes
        ++ (map (batch_record config) told_state.batches ++ map (lane_record config) told_state.lanes)))))
    gathered_3 = gathers_more all 3 (map opening_record told_state.openings) _ (mapped_at opening_record 3 told_state.openings (λ x. refl))
        (own_same opened.Opening (opening_kind config)) gathered_4

    gathered_2 : Gathers all 2 (map peer_record told_state.peers ++ (map opening_record told_state.openings
        ++ (map writer_record told_state.writers ++ (map (row_record config) told_state.tables
        ++ (map (change_record config) told_state.changes
        ++ (map (batch_record config) told_state.batches ++ map (lane_record config) told_state.lanes))))))
    gathered_2 = gathers_more all 2 (map peer_record told_state.peers) _ (mapped_at peer_record 2 told_state.peers (λ x. refl))
        (own_same KeptPeer (peer_kind config)) gathered_3

    gathered_1 : Gathers all 1 (count_records told_state.counts ++ (map peer_record told_state.peers ++ (map opening_record told_state.openings
        ++ (map writer_record told_state.writers ++ (map (row_record config) told_state.tables
        ++ (map (change_record config) told_state.changes
        ++ (map (batch_record config) told_state.batches ++ map (lane_record config) told_state.lanes)))))))
    gathered_1 = gathers_more all 1 (count_records told_state.counts) _ (counts_at told_state.counts)
        (counts_same stand (first_told counts_of_part parts) refl) gathered_2

    gathered : Gathers all 0 (records_of config told_state)
    gathered = gathers_more all 0 (me_record me ∷ []) _ (refl, tt)
        (λ key at. first_alone_tells me_record (codes "me") (λ x. refl) key (filter_map me_of_part parts) me me_is ∙ own_same node.Peer (me_kind config) key at)
        gathered_1

    pub told_image : (records : List Record) → map (record_of_told config) parts ≡ records → AscendBy key_of_record records
        → image_of config told_state ≡ records
    told_image records are up =
        unpaired (image_of config told_state) records
        (same_records (pairs (image_of config told_state)) (pairs records) (sorted_ascend (records_of config told_state)) (ascending_of records up)
        (λ key. sorted_has key (records_of config told_state) ∙ (gathered.has key (omega arith) ∙ ap (λ (r : List Record). body_at key (pairs r)) are)))
