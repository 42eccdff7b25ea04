-- One more part beside those that stand before others.
use Rattle.std.proofs.Common.{Bor, ◌≡◌, ℕ, ◌+◌, List, [], ◌∷◌, ◌++◌, length, map, Option, None, Some, refl, sym, ap, ◌∙◌, append-nil}
use Rattle.std.specs.List.{cons_option, filter_map}
use Rattle.std.proofs.lemmas.List.{length-append, map-append}
use Rattle.std.proofs.lemmas.List.Elements.{filter_map-append}
use Rattle.sds_types.specs.declared.batch.OutBatch.{OutBatch}
use Rattle.sds_types.specs.declared.peer.KeptPeer.{KeptPeer}
use Rattle.sds_types.specs.declared.registration.Opening.{Opening}
use Rattle.sds_types.specs.declared.row.TableRow.{TableRow}
use Rattle.sds_records.specs.declared.told.Told.{Told}
use Rattle.sds_records.specs.declared.told.Told.TheVariants as told
use Rattle.sds_image.specs.PartsSeen.{AreEarlier}
use Rattle.sds_image.specs.Reading.{batch_of_part, opening_of_part, peer_of_part, row_of_part}
use Rattle.sds_image.specs.declared.earlier.Earlier.{Earlier}

-- items of a kind with those of one more part
module _ {A : Type 0} (kind : Told → Option A) (before : List Told) (part : Told) where
  last_none : kind part ≡ None → filter_map kind (before ++ part ∷ []) ≡ filter_map kind before
  last_none none = filter_map-append kind before (part ∷ [])
      ∙ (ap (λ o. filter_map kind before ++ cons_option o []) none ∙ append-nil (filter_map kind before))

  last_some : (x : A) → kind part ≡ Some x → filter_map kind (before ++ part ∷ []) ≡ filter_map kind before ++ x ∷ []
  last_some x some = filter_map-append kind before (part ∷ []) ∙ ap (λ o. filter_map kind before ++ cons_option o []) some

  pub as_many : (n m : ℕ) → kind part ≡ None → m ≡ n → n ≡ length (filter_map kind before) → m ≡ length (filter_map kind (before ++ part ∷ []))
  as_many n m none same is = same ∙ (is ∙ ap length (sym (last_none none)))

  pub one_more : (x : A) (n m : ℕ) → kind part ≡ Some x → m ≡ n + 1 → n ≡ length (filter_map kind before) → m ≡ length (filter_map kind (before ++ part ∷ []))
  one_more x n m some more is = more ∙ (ap (λ k. k + 1) is ∙ (sym (length-append (filter_map kind before) (x ∷ [])) ∙ ap length (sym (last_some x some))))

  pub as_kept : {B : Type 0} (f : B → A) (old new : List B) → kind part ≡ None → new ≡ old → map f old ≡ filter_map kind before
      → map f new ≡ filter_map kind (before ++ part ∷ [])
  as_kept f old new none same is = ap (map f) same ∙ (is ∙ sym (last_none none))

  pub one_kept : {B : Type 0} (f : B → A) (old new : List B) (y : B) → kind part ≡ Some (f y) → new ≡ old ++ y ∷ [] → map f old ≡ filter_map kind before
      → map f new ≡ filter_map kind (before ++ part ∷ [])
  one_kept f old new y some more is =
      ap (map f) more ∙ (map-append f old (y ∷ []) ∙ (ap (λ xs. xs ++ f y ∷ []) is ∙ sym (last_some (f y) some)))

-- WHAT STANDS before a part, with that part
module _ (old : Earlier) (before : List Told) (part : Told) (are : AreEarlier old before) where
  pub peer_added : (kept : KeptPeer) → part ≡ told.Peer kept → AreEarlier (record old { peers = old.peers + 1 }) (before ++ part ∷ [])
  peer_added kept is = record {
    peers = one_more peer_of_part before part kept old.peers (old.peers + 1) (ap peer_of_part is) refl are.peers;
    rows = as_many row_of_part before part old.rows old.rows (ap row_of_part is) refl are.rows;
    openings = as_kept opening_of_part before part (λ opening. opening.now) old.openings old.openings (ap opening_of_part is) refl are.openings;
    batches = as_kept batch_of_part before part (λ batch. batch.now) old.batches old.batches (ap batch_of_part is) refl are.batches;
  }

  pub row_added : (row : TableRow) → part ≡ told.Row row → AreEarlier (record old { rows = old.rows + 1 }) (before ++ part ∷ [])
  row_added row is = record {
    peers = as_many peer_of_part before part old.peers old.peers (ap peer_of_part is) refl are.peers;
    rows = one_more row_of_part before part row old.rows (old.rows + 1) (ap row_of_part is) refl are.rows;
    openings = as_kept opening_of_part before part (λ opening. opening.now) old.openings old.openings (ap opening_of_part is) refl are.openings;
    batches = as_kept batch_of_part before part (λ batch. batch.now) old.batches old.batches (ap batch_of_part is) refl are.batches;
  }

  pub opening_added : (opening : Bor Opening) (more : List (Bor Opening)) → part ≡ told.Opening opening.now → more ≡ old.openings ++ opening ∷ []
      → AreEarlier (record old { openings = more }) (before ++ part ∷ [])
  opening_added opening more is put = record {
    peers = as_many peer_of_part before part old.peers old.peers (ap peer_of_part is) refl are.peers;
    rows = as_many row_of_part before part old.rows old.rows (ap row_of_part is) refl are.rows;
    openings = one_kept opening_of_part before part (λ opening. opening.now) old.openings more opening (ap opening_of_part is) put are.openings;
    batches = as_kept batch_of_part before part (λ batch. batch.now) old.batches old.batches (ap batch_of_part is) refl are.batches;
  }

  pub batch_added : (batch : Bor OutBatch) (more : List (Bor OutBatch)) → part ≡ told.Batch batch.now → more ≡ old.batches ++ batch ∷ []
      → AreEarlier (record old { batches = more }) (before ++ part ∷ [])
  batch_added batch more is put = record {
    peers = as_many peer_of_part before part old.peers old.peers (ap peer_of_part is) refl are.peers;
    rows = as_many row_of_part before part old.rows old.rows (ap row_of_part is) refl are.rows;
    openings = as_kept opening_of_part before part (λ opening. opening.now) old.openings old.openings (ap opening_of_part is) refl are.openings;
    batches = one_kept batch_of_part before part (λ batch. batch.now) old.batches more batch (ap batch_of_part is) put are.batches;
  }

  pub other_added : peer_of_part part ≡ None → row_of_part part ≡ None → opening_of_part part ≡ None → batch_of_part part ≡ None
      → AreEarlier old (before ++ part ∷ [])
  other_added peer row opening batch = record {
    peers = as_many peer_of_part before part old.peers old.peers peer refl are.peers;
    rows = as_many row_of_part before part old.rows old.rows row refl are.rows;
    openings = as_kept opening_of_part before part (λ o. o.now) old.openings old.openings opening refl are.openings;
    batches = as_kept batch_of_part before part (λ b. b.now) old.batches old.batches batch refl are.batches;
  }
