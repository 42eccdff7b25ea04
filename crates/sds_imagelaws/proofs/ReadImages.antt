-- The image of a sound state with its widths is read as a state: what is told of one record is one part.
use Rattle.std.proofs.Common.{◌≡◌, ℕ, ◌<◌, ◌^◌, ◌&&◌, true, List, [], ◌∷◌, length, map, Option, None, Some, refl, sym, ap, subst, ◌∙◌, arith, All}
use Rattle.std.specs.Prelude.{IfSome, codes, nat_lt, option_map, slice_get}
use Rattle.std.specs.List.{AllByRecursion, cons_option, filter_map}
use Rattle.std.specs.Str.{bytes_eq}
use Rattle.std.proofs.lemmas.List.Elements.{recursion_from_All}
use Rattle.std.proofs.lemmas.Option.{same_Some}
use Rattle.sds_value.specs.Names.{is_name_text}
use Rattle.sds_value.specs.declared.row.Peer as node
use Rattle.sds_types.specs.declared.batch.OutBatch.{OutBatch}
use Rattle.sds_types.specs.declared.batch.Standing.{Standing}
use Rattle.sds_types.specs.declared.batch.Standing.TheVariants as standing
use Rattle.sds_types.specs.declared.config.Config.{Config}
use Rattle.sds_types.specs.declared.counts.Counts as counted
use Rattle.sds_types.specs.declared.counts.WriterLast.{WriterLast}
use Rattle.sds_types.specs.declared.lane.LaneError.{LaneError}
use Rattle.sds_types.specs.declared.lane.LaneIn.{LaneIn}
use Rattle.sds_types.specs.declared.peer.KeptPeer.{KeptPeer}
use Rattle.sds_types.specs.declared.registration.Opening as opened
use Rattle.sds_types.specs.declared.registration.Stage.{Stage}
use Rattle.sds_types.specs.declared.registration.Stage.TheVariants.{Waiting, Given, Closed}
use Rattle.sds_types.specs.declared.row.Change as changed
use Rattle.sds_types.specs.declared.row.Row as row
use Rattle.sds_types.specs.declared.row.TableRow.{TableRow}
use Rattle.sds_trade.proofs.Lists.{all_head, all_tail}
use Rattle.sds_trade.specs.rules.Places.{columns_at}
use Rattle.sds_trade.specs.rules.Sound.{IsSound}
use Rattle.sds_history.specs.history.Acts.{State}
use Rattle.sds_history.specs.history.Image.{image_of}
use Rattle.sds_history.specs.history.Records.{Record}
use Rattle.sds_history.specs.history.SoundParts.{is_batch, is_opening, is_standing}
use Rattle.sds_records.specs.Parts.{FitsSide}
use Rattle.sds_records.specs.Told.{IsHeldError, IsHeldStanding, IsWide, names_node, names_source, record_of_told, sides_stand}
use Rattle.sds_records.specs.declared.told.Told.{Told}
use Rattle.sds_records.specs.declared.told.Told.TheVariants.{Me, Counts, Peer, Opening, Writer, Row, Change, Batch, Lane}
use Rattle.sds_nodelaws.proofs.Lists.{and_left, and_right, from_lt}
use Rattle.sds_nodelaws.proofs.Tests.{or_left, or_right}
use Rattle.sds_image.specs.ReadStates.{IsBadRecord, IsContradiction, has_me}
use Rattle.sds_image.specs.Reading.{IsTold, first_disagreement, first_told, me_of_part, state_told, state_with}
use Rattle.sds_image.specs.declared.refusal.StateRefusal.TheVariants.{BadRecord, Contradicts, NoMemory}
use Rattle.sds_imagelaws.specs.Reading.{ImagesAreRead, TellsState}
use Rattle.sds_imagelaws.proofs.ChangeRecords.{ChangeFits, SideFits, SourceFits, same_change, same_row}
use Rattle.sds_imagelaws.proofs.Fields.{Small, name_good}
use Rattle.sds_imagelaws.proofs.GoodRecords.{told_records_are_good}
use Rattle.sds_imagelaws.proofs.ImageParts.{images_are_told}
use Rattle.sds_imagelaws.proofs.LaneRecords.{BatchFits, ErrorFits, LaneFits, StandingFits, same_batch, same_lane}
use Rattle.sds_imagelaws.proofs.NodeRecords.{OpeningFits, StageFits, WriterFits, count_numbers, opening_fits, peer_fits, peer_names, same_me, same_opening, same_peer, same_writer, small_counts}
use Rattle.sds_imagelaws.proofs.PartKinds.{Kind, Seen, batch_kind, change_kind, counts_kind, lane_kind, me_kind, opening_kind, peer_kind, row_kind, see_me, writer_kind}
use Rattle.sds_imagelaws.proofs.PartKinds.Seen.{own, other}
use Rattle.sds_imagelaws.proofs.Parts.{other_place, place_of}
use Rattle.sds_imagelaws.proofs.RowKeys.{RowFits, columns_suit}
use Rattle.sds_imagelaws.proofs.Sides.{new_stands, old_stands}
use Rattle.sds_imagelaws.proofs.Tests.{itself, no_value}

-- WHAT IS TOLD is such that its record tells it
small_narrow : (n : ℕ) → n < 2 ^ 32 → Small n
small_narrow n narrow = omega (arith, narrow)

small_rule : (n : ℕ) → n < 256 → Small n
small_rule n narrow = omega (arith, narrow)

stage_fits : (stage : Stage) → names_node stage ≡ true → StageFits stage
stage_fits Waiting is = tt
stage_fits (Given node) is = name_good node is
stage_fits (Closed node) is = name_good node is

standing_fits : (s : Standing) → IsHeldStanding s → StandingFits s
standing_fits standing.New held = tt
standing_fits standing.Acked held = tt
standing_fits (standing.Erred row rule) held = (small_narrow row held.0, small_rule rule held.1)

error_fits : (error : Option LaneError) → IfSome error IsHeldError → IfSome error ErrorFits
error_fits None held = tt
error_fits (Some error) held = (held.0, small_narrow error.row held.1)

source_fits : (source : Option (List ℕ)) → names_source source ≡ true → SourceFits source
source_fits None is = tt
source_fits (Some node) is = name_good node is

module _ (config : Config) (sound : IsSound config) where
  abbrev IsPart : Told → Type 0
  IsPart told = IsTold config told

  side_fits : (table : ℕ) (side : Option row.Row) → FitsSide config.tables table side → SideFits (columns_at config.tables table) side
  side_fits table None fit = tt
  side_fits table (Some row) fit = columns_suit (columns_at config.tables table) row.0 fit

  counts_small : (counts : counted.Counts) → IsPart (Counts counts) → AllByRecursion Small (count_numbers counts)
  counts_small counts is = (is.held.0, (is.held.1.0, (is.held.1.1.0, (is.held.1.1.1.0, (is.held.1.1.1.1, tt)))))

  opening_told : (opening : opened.Opening) → IsPart (Opening opening) → OpeningFits opening
  opening_told opening is =
      opening_fits config sound opening (and_left (is_opening config opening) (names_node opening.stage) is.form)
      (stage_fits opening.stage (and_right (is_opening config opening) (names_node opening.stage) is.form))

  writer_told : (last : WriterLast) → IsPart (Writer last) → WriterFits last
  writer_told last is = record { number = is.held.0; first = is.held.1.0; count = small_narrow last.count is.held.1.1 }

  row_told : (row : TableRow) → IsPart (Row row) → RowFits config row
  row_told row is = record {
    known = from_lt row.table (length config.tables) is.form;
    suits = columns_suit (columns_at config.tables row.table) row.row.0 is.values;
  }

  change_told : (change : changed.Change) → IsPart (Change change) → ChangeFits config change
  change_told change is =
      let rest = and_right (nat_lt change.table (length config.tables))
      (nat_lt change.channel (length config.channels) && (sides_stand change.event change.new change.old && names_source change.source)) is.form in
      let last = and_right (nat_lt change.channel (length config.channels)) (sides_stand change.event change.new change.old && names_source change.source) rest in
      let sides = and_left (sides_stand change.event change.new change.old) (names_source change.source) last in
      record {
        id = is.held.0;
        tx = is.held.1.0;
        table = from_lt change.table (length config.tables) (and_left (nat_lt change.table (length config.tables))
            (nat_lt change.channel (length config.channels) && (sides_stand change.event change.new change.old && names_source change.source)) is.form);
        channel = from_lt change.channel (length config.channels) (and_left (nat_lt change.channel (length config.channels))
            (sides_stand change.event change.new change.old && names_source change.source) rest);
        new = new_stands change.event change.new change.old sides;
        old = old_stands change.event change.new change.old sides;
        new_row = side_fits change.table change.new is.values.0;
        old_row = side_fits change.table change.old is.values.1;
        source = source_fits change.source (and_right (sides_stand change.event change.new change.old) (names_source change.source) last);
      }

  batch_told : (batch : OutBatch) → IsPart (Batch batch) → BatchFits config batch
  batch_told batch is = record {
    id = is.held.0;
    peer = and_right (is_batch config batch) (is_name_text batch.peer) is.form;
    channel = from_lt batch.channel (length config.channels) (and_left (nat_lt batch.channel (length config.channels)) (is_standing batch.standing)
        (and_left (is_batch config batch) (is_name_text batch.peer) is.form));
    standing = standing_fits batch.standing is.held.1.1.0;
    changes = recursion_from_All IsWide batch.changes is.held.1.1.1;
  }

  lane_told : (lane : LaneIn) → IsPart (Lane lane) → LaneFits config lane
  lane_told lane is = record {
    peer = and_right (nat_lt lane.channel (length config.channels)) (is_name_text lane.peer) is.form;
    channel = from_lt lane.channel (length config.channels) (and_left (nat_lt lane.channel (length config.channels)) (is_name_text lane.peer) is.form);
    highest = is.held.1.0;
    error = error_fits lane.error is.held.1.1;
  }

  -- ONE PART of one record: of the kind of its key, and as the record tells it
  abbrev kept : Told → Record
  kept told = record_of_told config told

  abbrev TellsOne : (A : Type 0) → Kind config A → Type 0
  TellsOne A kind = (x y : A) → IsPart (kind.part x) → IsPart (kind.part y) → kept (kind.part x) ≡ kept (kind.part y) → x ≡ y

  one_of_kind : (A : Type 0) (kind : Kind config A) → TellsOne A kind → (x : A) → place_of (kept (kind.part x)).key ≡ kind.place → (told : Told)
      → IsPart (kind.part x) → IsPart told → kept (kind.part x) ≡ kept told → kind.part x ≡ told
  one_of_kind A kind one x at told is also same = on (kind.see told)
    where
      on : Seen config A kind.of_part kind.part kind.place told → kind.part x ≡ told
      on (own y made) = ap kind.part (one x y is (subst IsPart made also) (same ∙ ap kept made)) ∙ sym made
      on (other none apart) =
          absurd (other_place (place_of (kept told).key) kind.place apart (ap (λ (r : Record). place_of r.key) (sym same) ∙ at))

  one_part : (a b : Told) → IsPart a → IsPart b → kept a ≡ kept b → a ≡ b
  one_part (Me me) b =
      one_of_kind node.Peer (me_kind config)
      (λ x y is also same. same_me x y (peer_names config sound x is.form) (peer_names config sound y also.form) (ap (λ (r : Record). r.body) same))
      me refl b
  one_part (Counts counts) b =
      one_of_kind counted.Counts (counts_kind config)
      (λ x y is also same. small_counts x y (counts_small x is) (counts_small y also) (ap (λ (r : Record). r.body) same)) counts refl b
  one_part (Peer kept) b =
      one_of_kind KeptPeer (peer_kind config)
      (λ x y is also same. same_peer x y (peer_fits config sound x is.form) (peer_fits config sound y also.form)
      (ap (λ (r : Record). r.key) same) (ap (λ (r : Record). r.body) same)) kept refl b
  one_part (Opening opening) b =
      one_of_kind opened.Opening (opening_kind config)
      (λ x y is also same. same_opening x y (opening_told x is) (opening_told y also) (ap (λ (r : Record). r.key) same) (ap (λ (r : Record). r.body) same))
      opening refl b
  one_part (Writer last) b =
      one_of_kind WriterLast (writer_kind config)
      (λ x y is also same. same_writer x y (writer_told x is) (writer_told y also) (ap (λ (r : Record). r.key) same) (ap (λ (r : Record). r.body) same))
      last refl b
  one_part (Row row) b =
      one_of_kind TableRow (row_kind config)
      (λ x y is also same. same_row config sound x y (row_told x is) (row_told y also) (ap (λ (r : Record). r.key) same) (ap (λ (r : Record). r.body) same))
      row refl b
  one_part (Change change) b =
      one_of_kind changed.Change (change_kind config)
      (λ x y is also same. same_change config sound x y (change_told x is) (change_told y also)
      (ap (λ (r : Record). r.key) same) (ap (λ (r : Record). r.body) same)) change refl b
  one_part (Batch batch) b =
      one_of_kind OutBatch (batch_kind config)
      (λ x y is also same. same_batch config sound x y (batch_told x is) (batch_told y also)
      (ap (λ (r : Record). r.key) same) (ap (λ (r : Record). r.body) same)) batch refl b
  one_part (Lane lane) b =
      one_of_kind LaneIn (lane_kind config)
      (λ x y is also same. same_lane config sound x y (lane_told x is) (lane_told y also)
      (ap (λ (r : Record). r.key) same) (ap (λ (r : Record). r.body) same)) lane refl b

  pub one_list : (xs ys : List Told) → All IsPart xs → All IsPart ys → map (record_of_told config) xs ≡ map (record_of_told config) ys → xs ≡ ys
  one_list [] [] are also same = refl
  one_list [] (y ∷ ys) are also same = absurd (cc)
  one_list (x ∷ xs) [] are also same = absurd (cc)
  one_list (x ∷ xs) (y ∷ ys) are also same =
      let first : kept x ≡ kept y = ap (λ l. elim l [ [] ↦ kept x | r ∷ rs ↦ r ]) same in
      let rest : map (record_of_told config) xs ≡ map (record_of_told config) ys =
      ap (λ l. elim l [ [] ↦ map (record_of_told config) xs | r ∷ rs ↦ rs ]) same in
      ap (λ z. z ∷ xs) (one_part x y (all_head IsPart x xs are) (all_head IsPart y ys also) first)
      ∙ ap (λ zs. y ∷ zs) (one_list xs ys (all_tail IsPart x xs are) (all_tail IsPart y ys also) rest)

-- THE NODE ITSELF: where parts tell it, a record has its key
module _ (config : Config) where
  me_stands : (parts : List Told) (me : node.Peer) → first_told me_of_part parts ≡ Some me → has_me (map (record_of_told config) parts) ≡ true
  me_stands [] me is = no_value me is
  me_stands (told ∷ parts) me is = on (see_me config told) (me_stands parts me)
    where
      on : Seen config node.Peer me_of_part Me 0 told
          → (first_told me_of_part parts ≡ Some me → has_me (map (record_of_told config) parts) ≡ true)
          → has_me (map (record_of_told config) (told ∷ parts)) ≡ true
      on (own x made) later =
          or_left (bytes_eq (record_of_told config told).key (codes "me")) (has_me (map (record_of_told config) parts))
          (ap (λ (t : Told). bytes_eq (record_of_told config t).key (codes "me")) made ∙ itself (codes "me"))
      on (other none apart) later =
          or_right (bytes_eq (record_of_told config told).key (codes "me")) (has_me (map (record_of_told config) parts))
          (later (ap (λ o. slice_get (cons_option o (filter_map me_of_part parts)) 0) (sym none) ∙ is))

  told_me : (parts : List Told) (state : State) → state_told config parts ≡ Some state → has_me (map (record_of_told config) parts) ≡ true
  told_me parts state is = on (first_told me_of_part parts) refl is
    where
      on : (o : Option node.Peer) → first_told me_of_part parts ≡ o → option_map (state_with config parts) o ≡ Some state
          → has_me (map (record_of_told config) parts) ≡ true
      on None none told = no_value state told
      on (Some me) found told = me_stands parts me found

-- READING
module _ (config : Config) (sound : IsSound config) (state : State) (tells : TellsState config state) where
  not_bad : (key : List ℕ) → IsBadRecord config (image_of config state) key → ⊥
  not_bad key bad =
      let first = bad.with_me (ap has_me (sym tells.told.records_are) ∙ told_me config tells.parts state tells.state_is) in
      told_records_are_good config (image_of config state) tells.parts first.place tells.told first.first

  no_contradiction : (key : List ℕ) → IsContradiction config (image_of config state) key → ⊥
  no_contradiction key against =
      let parts : against.parts ≡ tells.parts =
      one_list config sound against.parts tells.parts against.told.each tells.told.each (against.told.records_are ∙ sym tells.told.records_are) in
      let one : against.state ≡ state =
      same_Some against.state state (sym against.state_is ∙ (ap (state_told config) parts ∙ tells.state_is)) in
      no_value against.part (sym tells.agree
      ∙ (ap (λ s. first_disagreement config s tells.parts) (sym one) ∙ (ap (first_disagreement config against.state) (sym parts) ∙ against.first)))

pub images_are_read : ImagesAreRead
images_are_read config state sound are held (BadRecord key) bad =
    absurd (not_bad config sound state (images_are_told config state sound are held) key bad)
images_are_read config state sound are held (Contradicts key) against =
    absurd (no_contradiction config sound state (images_are_told config state sound are held) key against)
images_are_read config state sound are held NoMemory reading = refl
