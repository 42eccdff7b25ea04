-- The parts of each kind among told parts: their records are those of the kind's place.
use Rattle.std.proofs.Common.{◌≡◌, ℕ, ◌==◌, false, cond, List, [], ◌∷◌, map, Option, None, Some, refl, sym, ap, subst, ◌∙◌, All, AllPairs}
use Rattle.std.specs.List.{cons_option, filter_map}
use Rattle.std.specs.Str.{bytes_eq}
use Rattle.std.proofs.lemmas.List.Elements.{All-nil, All-cons}
use Rattle.std.proofs.lemmas.List.Kept.{AllPairs-cons}
use Rattle.sds_value.specs.declared.row.Peer as node
use Rattle.sds_types.specs.declared.batch.OutBatch.{OutBatch}
use Rattle.sds_types.specs.declared.config.Config.{Config}
use Rattle.sds_types.specs.declared.counts.Counts as counted
use Rattle.sds_types.specs.declared.counts.WriterLast.{WriterLast}
use Rattle.sds_types.specs.declared.lane.LaneIn.{LaneIn}
use Rattle.sds_types.specs.declared.peer.KeptPeer.{KeptPeer}
use Rattle.sds_types.specs.declared.registration.Opening as opened
use Rattle.sds_types.specs.declared.row.Change as changed
use Rattle.sds_types.specs.declared.row.TableRow.{TableRow}
use Rattle.sds_trade.proofs.Lists.{all_head, all_tail, pairs_head, pairs_tail}
use Rattle.sds_history.specs.history.Records.{Record, batch_record, count_record, lane_record, me_record, opening_record, peer_record, writer_record}
use Rattle.sds_history.specs.history.RowRecords.{change_record, row_record}
use Rattle.sds_nodelaws.proofs.KeyedLists.{pairs_nil}
use Rattle.sds_records.specs.Told.{record_of_told}
use Rattle.sds_records.specs.declared.told.Told.{Told}
use Rattle.sds_records.specs.declared.told.Told.TheVariants.{Me, Counts, Peer, Opening, Writer, Row, Change, Batch, Lane}
use Rattle.sds_image.specs.Reading.{batch_of_part, change_of_part, counts_of_part, lane_of_part, me_of_part, opening_of_part, peer_of_part, row_of_part, writer_of_part}
use Rattle.sds_image.specs.Pairs.{pairs}
use Rattle.sds_imagelaws.proofs.Lookups.{body_at}
use Rattle.sds_imagelaws.proofs.Parts.{other_place, place_of}
use Rattle.sds_imagelaws.proofs.Tests.{differs}

-- a part is of a kind, or its record has another place
pub data Seen (config : Config) (A : Type 0) (of_part : Told → Option A) (part : A → Told) (place : ℕ) (told : Told) : Type 0 where
  own : (x : A) → told ≡ part x → Seen config A of_part part place told
  other : of_part told ≡ None → (place_of (record_of_told config told).key == place) ≡ false → Seen config A of_part part place told

-- A KIND of parts: which they are, and their records
pub record Kind (config : Config) (A : Type 0) : Type 0 where
  pub of_part : Told → Option A
  pub part : A → Told
  pub kept : A → Record
  pub place : ℕ
  pub found : (x : A) → of_part (part x) ≡ Some x
  pub keeps : (x : A) → record_of_told config (part x) ≡ kept x
  pub see : (told : Told) → Seen config A of_part part place told

module _ (config : Config) (A : Type 0) (kind : Kind config A) where
  abbrev pub parts_of : List Told → List A
  parts_of parts = filter_map kind.of_part parts

  abbrev recorded : Told → Record
  recorded told = record_of_told config told

  abbrev SeenSo : Told → Type 0
  SeenSo told = Seen config A kind.of_part kind.part kind.place told

  -- the records of a place are those of the parts of its kind
  pub place_told : (key : List ℕ) → place_of key ≡ kind.place → (parts : List Told)
      → body_at key (pairs (map (record_of_told config) parts)) ≡ body_at key (pairs (map kind.kept (filter_map kind.of_part parts)))
  place_told key at [] = refl
  place_told key at (told ∷ parts) = on (kind.see told) (place_told key at parts)
    where
      on : SeenSo told → body_at key (pairs (map recorded parts)) ≡ body_at key (pairs (map kind.kept (parts_of parts)))
          → body_at key (pairs (map recorded (told ∷ parts))) ≡ body_at key (pairs (map kind.kept (cons_option (kind.of_part told) (parts_of parts))))
      on (own x is) rest =
          subst (λ t. body_at key (pairs (map recorded (t ∷ parts))) ≡ body_at key (pairs (map kind.kept (cons_option (kind.of_part t) (parts_of parts))))) (sym is)
          (ap (λ (r : Record). cond (bytes_eq r.key key) (Some r.body) (body_at key (pairs (map recorded parts)))) (kind.keeps x)
          ∙ (ap (λ b. cond (bytes_eq (kind.kept x).key key) (Some (kind.kept x).body) b) rest
          ∙ sym (ap (λ o. body_at key (pairs (map kind.kept (cons_option o (parts_of parts))))) (kind.found x))))
      on (other none apart) rest =
          ap (λ b. cond b (Some (recorded told).body) (body_at key (pairs (map recorded parts))))
          (differs (recorded told).key key (λ same. other_place (place_of (recorded told).key) kind.place apart (ap place_of same ∙ at)))
          ∙ (rest ∙ sym (ap (λ o. body_at key (pairs (map kind.kept (cons_option o (parts_of parts))))) none))

  -- what holds of told parts holds of those of a kind
  pub told_all : (P : Told → Type 0) (Q : A → Type 0) → ((x : A) → P (kind.part x) → Q x) → (parts : List Told) → All P parts
      → All Q (filter_map kind.of_part parts)
  told_all P Q by [] are = All-nil Q
  told_all P Q by (told ∷ parts) are = on (kind.see told) (all_head P told parts are) (told_all P Q by parts (all_tail P told parts are))
    where
      on : SeenSo told → P told → All Q (parts_of parts) → All Q (cons_option (kind.of_part told) (parts_of parts))
      on (own x is) holds rest =
          subst (λ t. All Q (cons_option (kind.of_part t) (parts_of parts))) (sym is)
          (subst (λ o. All Q (cons_option o (parts_of parts))) (sym (kind.found x)) (All-cons Q x (parts_of parts) (by x (subst P is holds)) rest))
      on (other none apart) holds rest = subst (λ o. All Q (cons_option o (parts_of parts))) (sym none) rest

  pub told_pairs : (R : Told → Told → Type 0) (Q : A → A → Type 0) → ((x y : A) → R (kind.part x) (kind.part y) → Q x y) → (parts : List Told)
      → AllPairs R parts → AllPairs Q (filter_map kind.of_part parts)
  told_pairs R Q by [] are = pairs_nil Q
  told_pairs R Q by (told ∷ parts) are = on (kind.see told) (pairs_head R told parts are) (told_pairs R Q by parts (pairs_tail R told parts are))
    where
      on : SeenSo told → All (R told) parts → AllPairs Q (parts_of parts) → AllPairs Q (cons_option (kind.of_part told) (parts_of parts))
      on (own x is) holds rest =
          subst (λ t. AllPairs Q (cons_option (kind.of_part t) (parts_of parts))) (sym is)
          (subst (λ o. AllPairs Q (cons_option o (parts_of parts))) (sym (kind.found x))
          (AllPairs-cons Q x (parts_of parts)
          (told_all (R (kind.part x)) (Q x) (λ y is_so. by x y is_so) parts (subst (λ t. All (R t) parts) is holds)) rest))
      on (other none apart) holds rest = subst (λ o. AllPairs Q (cons_option o (parts_of parts))) (sym none) rest

-- THE KINDS
module _ (config : Config) where
  pub see_me : (told : Told) → Seen config node.Peer me_of_part Me 0 told
  see_me (Me me) = own me refl
  see_me (Counts counts) = other refl refl
  see_me (Peer kept) = other refl refl
  see_me (Opening opening) = other refl refl
  see_me (Writer last) = other refl refl
  see_me (Row row) = other refl refl
  see_me (Change change) = other refl refl
  see_me (Batch batch) = other refl refl
  see_me (Lane lane) = other refl refl

  abbrev pub me_kind : Kind config node.Peer
  me_kind = record {
    of_part = me_of_part;
    part = Me;
    kept = me_record;
    place = 0;
    found = λ x. refl;
    keeps = λ x. refl;
    see = see_me;
  }

  pub see_counts : (told : Told) → Seen config counted.Counts counts_of_part Counts 1 told
  see_counts (Me me) = other refl refl
  see_counts (Counts counts) = own counts refl
  see_counts (Peer kept) = other refl refl
  see_counts (Opening opening) = other refl refl
  see_counts (Writer last) = other refl refl
  see_counts (Row row) = other refl refl
  see_counts (Change change) = other refl refl
  see_counts (Batch batch) = other refl refl
  see_counts (Lane lane) = other refl refl

  abbrev pub counts_kind : Kind config counted.Counts
  counts_kind = record {
    of_part = counts_of_part;
    part = Counts;
    kept = count_record;
    place = 1;
    found = λ x. refl;
    keeps = λ x. refl;
    see = see_counts;
  }

  pub see_peer : (told : Told) → Seen config KeptPeer peer_of_part Peer 2 told
  see_peer (Me me) = other refl refl
  see_peer (Counts counts) = other refl refl
  see_peer (Peer kept) = own kept refl
  see_peer (Opening opening) = other refl refl
  see_peer (Writer last) = other refl refl
  see_peer (Row row) = other refl refl
  see_peer (Change change) = other refl refl
  see_peer (Batch batch) = other refl refl
  see_peer (Lane lane) = other refl refl

  abbrev pub peer_kind : Kind config KeptPeer
  peer_kind = record {
    of_part = peer_of_part;
    part = Peer;
    kept = peer_record;
    place = 2;
    found = λ x. refl;
    keeps = λ x. refl;
    see = see_peer;
  }

  pub see_opening : (told : Told) → Seen config opened.Opening opening_of_part Opening 3 told
  see_opening (Me me) = other refl refl
  see_opening (Counts counts) = other refl refl
  see_opening (Peer kept) = other refl refl
  see_opening (Opening opening) = own opening refl
  see_opening (Writer last) = other refl refl
  see_opening (Row row) = other refl refl
  see_opening (Change change) = other refl refl
  see_opening (Batch batch) = other refl refl
  see_opening (Lane lane) = other refl refl

  abbrev pub opening_kind : Kind config opened.Opening
  opening_kind = record {
    of_part = opening_of_part;
    part = Opening;
    kept = opening_record;
    place = 3;
    found = λ x. refl;
    keeps = λ x. refl;
    see = see_opening;
  }

  pub see_writer : (told : Told) → Seen config WriterLast writer_of_part Writer 4 told
  see_writer (Me me) = other refl refl
  see_writer (Counts counts) = other refl refl
  see_writer (Peer kept) = other refl refl
  see_writer (Opening opening) = other refl refl
  see_writer (Writer last) = own last refl
  see_writer (Row row) = other refl refl
  see_writer (Change change) = other refl refl
  see_writer (Batch batch) = other refl refl
  see_writer (Lane lane) = other refl refl

  abbrev pub writer_kind : Kind config WriterLast
  writer_kind = record {
    of_part = writer_of_part;
    part = Writer;
    kept = writer_record;
    place = 4;
    found = λ x. refl;
    keeps = λ x. refl;
    see = see_writer;
  }

  pub see_row : (told : Told) → Seen config TableRow row_of_part Row 5 told
  see_row (Me me) = other refl refl
  see_row (Counts counts) = other refl refl
  see_row (Peer kept) = other refl refl
  see_row (Opening opening) = other refl refl
  see_row (Writer last) = other refl refl
  see_row (Row row) = own row refl
  see_row (Change change) = other refl refl
  see_row (Batch batch) = other refl refl
  see_row (Lane lane) = other refl refl

  abbrev pub row_kind : Kind config TableRow
  row_kind = record {
    of_part = row_of_part;
    part = Row;
    kept = row_record config;
    place = 5;
    found = λ x. refl;
    keeps = λ x. refl;
    see = see_row;
  }

  pub see_change : (told : Told) → Seen config changed.Change change_of_part Change 6 told
  see_change (Me me) = other refl refl
  see_change (Counts counts) = other refl refl
  see_change (Peer kept) = other refl refl
  see_change (Opening opening) = other refl refl
  see_change (Writer last) = other refl refl
  see_change (Row row) = other refl refl
  see_change (Change change) = own change refl
  see_change (Batch batch) = other refl refl
  see_change (Lane lane) = other refl refl

  abbrev pub change_kind : Kind config changed.Change
  change_kind = record {
    of_part = change_of_part;
    part = Change;
    kept = change_record config;
    place = 6;
    found = λ x. refl;
    keeps = λ x. refl;
    see = see_change;
  }

  pub see_batch : (told : Told) → Seen config OutBatch batch_of_part Batch 7 told
  see_batch (Me me) = other refl refl
  see_batch (Counts counts) = other refl refl
  see_batch (Peer kept) = other refl refl
  see_batch (Opening opening) = other refl refl
  see_batch (Writer last) = other refl refl
  see_batch (Row row) = other refl refl
  see_batch (Change change) = other refl refl
  see_batch (Batch batch) = own batch refl
  see_batch (Lane lane) = other refl refl

  abbrev pub batch_kind : Kind config OutBatch
  batch_kind = record {
    of_part = batch_of_part;
    part = Batch;
    kept = batch_record config;
    place = 7;
    found = λ x. refl;
    keeps = λ x. refl;
    see = see_batch;
  }

  pub see_lane : (told : Told) → Seen config LaneIn lane_of_part Lane 8 told
  see_lane (Me me) = other refl refl
  see_lane (Counts counts) = other refl refl
  see_lane (Peer kept) = other refl refl
  see_lane (Opening opening) = other refl refl
  see_lane (Writer last) = other refl refl
  see_lane (Row row) = other refl refl
  see_lane (Change change) = other refl refl
  see_lane (Batch batch) = other refl refl
  see_lane (Lane lane) = own lane refl

  abbrev pub lane_kind : Kind config LaneIn
  lane_kind = record {
    of_part = lane_of_part;
    part = Lane;
    kept = lane_record config;
    place = 8;
    found = λ x. refl;
    keeps = λ x. refl;
    see = see_lane;
  }
