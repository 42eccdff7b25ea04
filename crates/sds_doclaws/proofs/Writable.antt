-- The documents of a sound state have a written form.
use Rattle.std.proofs.Common.{◌≡◌, ℕ, ◌≤◌, ◌==◌, Bool, true, List, [], ◌∷◌, length, Option, None, Some, refl, sym, ap, subst, arith, All, filter_map, get_or}
use Rattle.std.proofs.lemmas.List.Elements.{All-nil, All-cons}
use Rattle.std.proofs.lemmas.List.Sums.{AllPass-from_list_all}
use Rattle.std.specs.List.{cons_option}
use Rattle.std.specs.Option.{option_map_or}
use Rattle.std.specs.Prelude.{IsTrue, nat_le, nat_lt}
use Rattle.sds_value.specs.declared.row.DocRow.{DocRow}
use Rattle.sds_types.specs.Limits.{most_count}
use Rattle.sds_types.specs.declared.batch.OutBatch.{OutBatch}
use Rattle.sds_types.specs.declared.channel.ChannelDef.{ChannelDef}
use Rattle.sds_types.specs.declared.config.Config.{Config}
use Rattle.sds_types.specs.declared.row.Change.{Change}
use Rattle.sds_types.specs.declared.transform.Point.TheVariants.{Extract}
use Rattle.sds_types.specs.declared.transform.Shaped.{Shaped}
use Rattle.sds_types.specs.declared.transform.TransformDef.{TransformDef}
use Rattle.sds_types.specs.declared.way.Way.{Way}
use Rattle.sds_batchtext.specs.Writable.{is_batch_text, is_writable}
use Rattle.sds_trade.specs.rules.MadeRows.{made_rows}
use Rattle.sds_trade.specs.rules.Sides.{doc_of_change}
use Rattle.sds_trade.specs.rules.Sound.{IsSound}
use Rattle.sds_trade.specs.rules.Transforms.{adds_of, by_transforms, extracted_rows, is_meant, shaped_by, transforms_for}
use Rattle.sds_trade.specs.sound.Sections.{IsChannel}
use Rattle.sds_trade.specs.sound.Transforms.{IsTransform}
use Rattle.sds_trade.proofs.Lists.{passes}
use Rattle.sds_history.specs.history.Acts.{State}
use Rattle.sds_history.specs.history.Documents.{batch_rows, change_of_number, doc_of_batch, way_to}
use Rattle.sds_history.specs.history.SoundParts.{IsChange, is_batch, is_standing}
use Rattle.sds_history.specs.history.SoundStates.{IsSoundState, is_counted, is_counted_batch, is_peer_of}
use Rattle.sds_nodelaws.proofs.Held.{mapped}
use Rattle.sds_nodelaws.proofs.Lists.{all_flat, and_left, and_right, filter_all, find_all, from_le, from_lt, map_all, slice_all}
use Rattle.sds_nodelaws.proofs.SoundTables.{kept_name}
use Rattle.sds_doclaws.specs.Writable.{DocumentsAreWritable, HasFewKeys, IsOfCharacters}
use Rattle.sds_doclaws.proofs.Made.{IsReady, made_good}
use Rattle.sds_doclaws.proofs.Plain.{IsDoc, change_doc, plain_good, stands}
use Rattle.sds_doclaws.proofs.Ready.{ready}
use Rattle.sds_doclaws.proofs.Rows.{IsGood, IsName, IsNumbered, good_text, good_writable}

-- ROWS of a change
shaped_good : (config : Config) (way : Way) (doc : DocRow) (transform : TransformDef) → IsReady way transform doc → IsDoc doc
    → All (λ (s : Shaped). IsGood s.row) (shaped_by config.tables way doc transform)
shaped_good config way doc transform is one =
    map_all (λ (s : Shaped). IsGood s.row) (λ (row : DocRow). record { row = row; adds = adds_of config.tables transform doc })
    (made_rows way transform doc doc.event) (made_good way transform doc is one)

rows_good : (config : Config) (way : Way) (doc : DocRow) (transforms : List TransformDef) → IsDoc doc → All (λ (t : TransformDef). IsReady way t doc) transforms
    → All (λ (s : Shaped). IsGood s.row) (by_transforms config.tables way doc transforms)
rows_good config way doc [] is are = All-cons (λ (s : Shaped). IsGood s.row) (record { row = doc; adds = [] }) [] (plain_good doc is) (All-nil (λ (s : Shaped). IsGood s.row))
rows_good config way doc (t ∷ ts) is are =
    all_flat (λ (s : Shaped). IsGood s.row) (shaped_by config.tables way doc) (t ∷ ts)
    (mapped (λ (t : TransformDef). IsReady way t doc) (λ (t : TransformDef). All (λ (s : Shaped). IsGood s.row) (shaped_by config.tables way doc t)) (t ∷ ts)
    (λ t one. shaped_good config way doc t one is) are)

change_good : (config : Config) (way : Way) (change : Change) → IsSound config → All IsOfCharacters config.transforms → All (HasFewKeys config) config.transforms
    → IsName way.source → IsName way.target → IsChange config change → All IsGood (extracted_rows config way change)
change_good config way change sound texts few from to is =
    map_all IsGood (λ (made : Shaped). made.row) (by_transforms config.tables way doc (transforms_for config way Extract doc.table))
    (rows_good config way doc (transforms_for config way Extract doc.table) (change_doc config change sound is) are)
  where
    doc : DocRow
    doc = doc_of_change config.tables change

    meant : TransformDef → Bool
    meant = is_meant config way Extract doc.table

    one : (t : TransformDef) → IsTransform config t → IsOfCharacters t → HasFewKeys config t → meant t ≡ true → IsReady way t doc
    one t fits text less for = ready config change way t sound is from to fits text less for

    are : All (λ (t : TransformDef). IsReady way t doc) (transforms_for config way Extract doc.table)
    are = λ k d within. one _ (filter_all (IsTransform config) meant config.transforms sound.transforms.each k d within)
        (filter_all IsOfCharacters meant config.transforms texts k d within) (filter_all (HasFewKeys config) meant config.transforms few k d within)
        (passes meant config.transforms k d within)

-- BATCHES
found_all : {X Y : Type 0} (P : Y → Type 0) (f : X → Option Y) (xs : List X) → ((x : X) (y : Y) → f x ≡ Some y → P y) → All P (filter_map f xs)
found_all P f [] are = All-nil P
found_all {X} {Y} P f (x ∷ xs) are = on (f x) refl (found_all P f xs are)
  where
    on : (o : Option Y) → f x ≡ o → All P (filter_map f xs) → All P (cons_option o (filter_map f xs))
    on None is rest = rest
    on (Some y) is rest = All-cons P y (filter_map f xs) (are x y is) rest

batch_good : (config : Config) (state : State) (batch : OutBatch) → IsSound config → All IsOfCharacters config.transforms → All (HasFewKeys config) config.transforms
    → IsSoundState config state → IsName batch.peer → All IsGood (batch_rows config state batch)
batch_good config state batch sound texts few is to =
    all_flat IsGood (extracted_rows config (way_to state batch.peer)) (filter_map (change_of_number state) batch.changes)
    (mapped (IsChange config) (λ (change : Change). All IsGood (extracted_rows config (way_to state batch.peer) change)) (filter_map (change_of_number state) batch.changes)
    (λ change one. change_good config (way_to state batch.peer) change sound texts few (and_left _ _ is.me) to one)
    (found_all (IsChange config) (change_of_number state) batch.changes
    (λ number change found. find_all (IsChange config) (λ (c : Change). c.id == number) state.changes change is.changes found)))

-- its number and its channel
numbered : (config : Config) (state : State) (batch : OutBatch) → IsSound config → IsSoundState config state → is_batch config batch ≡ true
    → is_counted_batch state batch ≡ true → IsNumbered (doc_of_batch config state batch)
numbered config state batch sound is fits counted =
    let number = and_left (is_counted state.counts.last_batch batch.id) _ counted in
    let at = stands config.channels batch.channel (from_lt batch.channel (length config.channels) (and_left (nat_lt batch.channel (length config.channels)) (is_standing batch.standing) fits)) in
    record {
      binary = refl;
      least = from_le 1 batch.id (and_left (nat_le 1 batch.id) (nat_le batch.id state.counts.last_batch) number);
      most = on batch.id state.counts.last_batch (from_le batch.id state.counts.last_batch (and_right (nat_le 1 batch.id) (nat_le batch.id state.counts.last_batch) number))
          is.counts.last_batch;
      channel = subst IsName (sym (ap (λ (o : Option ChannelDef). option_map_or (λ (def : ChannelDef). def.id) o []) at.there))
          (slice_all IsChannel config.channels batch.channel at.one sound.channels.each at.there).named;
    }
  where
    on : (a b : ℕ) → a ≤ b → b ≤ most_count → a ≤ most_count
    on a b first second = omega (arith, first, second)

-- THE LAW
pub documents_are_writable : DocumentsAreWritable
documents_are_writable config state sound texts few is = λ k d within.
    one (get_or state.batches k d) (AllPass-from_list_all (is_batch config) state.batches is.batches k d within) (AllPass-from_list_all (is_counted_batch state) state.batches is.sent k d within)
  where
    one : (batch : OutBatch) → is_batch config batch ≡ true → is_counted_batch state batch ≡ true
        → IsTrue (is_writable (doc_of_batch config state batch)) × IsTrue (is_batch_text (doc_of_batch config state batch))
    one batch fits counted =
        let kept = and_left (is_peer_of state batch.peer) _ (and_right (is_counted state.counts.last_batch batch.id) _ counted) in
        let good = batch_good config state batch sound texts few is (kept_name config state batch.peer is.peers kept) in
        (good_writable (doc_of_batch config state batch) (numbered config state batch sound is fits counted) good, good_text (doc_of_batch config state batch) good)
