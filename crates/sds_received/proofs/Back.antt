-- The batches of a message are batches of its node's state, so what holds of all those holds of
-- them: they come back from their text, and their channels are the configuration's.
use Rattle.std.proofs.Common.{◌≡◌, ℕ, ◌<◌, true, List, take, drop, length, map, sym, ap, subst, take-append-drop, All}
use Rattle.std.proofs.lemmas.List.Sums.{AllPass-from_list_all, list_all-from_AllPass}
use Rattle.std.specs.List.{list_all}
use Rattle.std.specs.Prelude.{nat_lt}
use Rattle.sds_types.specs.declared.batch.OutBatch.{OutBatch}
use Rattle.sds_types.specs.declared.config.Config.{Config}
use Rattle.sds_types.specs.declared.document.BatchDoc.{BatchDoc}
use Rattle.sds_types.specs.declared.message.MessagePart.{MessagePart}
use Rattle.sds_batchtext.specs.Documents.{Document}
use Rattle.sds_batchtext.specs.Writable.{is_batch_text, is_writable}
use Rattle.sds_batchtext.proofs.WrittenDocuments.{written_back}
use Rattle.sds_history.specs.history.Acts.{State}
use Rattle.sds_history.specs.history.Documents.{doc_of_batch}
use Rattle.sds_history.specs.history.Messages.{batches_in_part, batches_in_parts, is_in_lane, lane_made}
use Rattle.sds_history.specs.history.SoundParts.{is_batch, is_standing}
use Rattle.sds_nodelaws.proofs.Held.{all_of, first_all, last_all, mapped}
use Rattle.sds_nodelaws.proofs.Lists.{all_flat, and_left, filter_all, from_lt, map_all}
use Rattle.sds_doclaws.proofs.Writable.{documents_are_writable}
use Rattle.sds_received.specs.Messages.{MessagesAreReadBack, MessagesHaveChannels}

-- THE BATCHES of a message
taken : {X : Type 0} (P : X → Type 0) (n : ℕ) (xs : List X) → All P xs → All P (take n xs)
taken P n xs are = first_all P (take n xs) (drop n xs) (subst (All P) (sym (take-append-drop n xs)) are)

dropped : {X : Type 0} (P : X → Type 0) (n : ℕ) (xs : List X) → All P xs → All P (drop n xs)
dropped P n xs are = last_all P (take n xs) (drop n xs) (subst (All P) (sym (take-append-drop n xs)) are)

in_parts : (P : OutBatch → Type 0) (state : State) (to : List ℕ) (parts : List MessagePart) → All P state.batches → All P (batches_in_parts state to parts)
in_parts P state to parts are =
    all_flat P (batches_in_part state to) parts (all_of (λ (part : MessagePart). All P (batches_in_part state to part)) parts one)
  where
    one : (part : MessagePart) → All P (batches_in_part state to part)
    one part = taken P part.count (drop part.start (lane_made state to part.channel))
        (dropped P part.start (lane_made state to part.channel) (filter_all P (is_in_lane to part.channel) state.batches are))

-- THE LAWS
pub messages_have_channels : MessagesHaveChannels
messages_have_channels config state to parts is = in_parts (λ (batch : OutBatch). batch.channel < length config.channels) state to parts
    (mapped (λ (batch : OutBatch). is_batch config batch ≡ true) (λ (batch : OutBatch). batch.channel < length config.channels) state.batches
    (λ batch fits. from_lt batch.channel (length config.channels) (and_left (nat_lt batch.channel (length config.channels)) (is_standing batch.standing) fits))
    (AllPass-from_list_all (is_batch config) state.batches is.batches))

abbrev Fits : Config → State → OutBatch → Type 0
Fits config state batch = (is_writable (doc_of_batch config state batch) ≡ true) × (is_batch_text (doc_of_batch config state batch) ≡ true)

pub messages_are_read_back : MessagesAreReadBack
messages_are_read_back config state to parts sound texts few is =
    let batches = batches_in_parts state to parts in
    let both : All (Fits config state) batches = in_parts (Fits config state) state to parts (documents_are_writable config state sound texts few is) in
    let writable : list_all is_writable (map (doc_of_batch config state) batches) ≡ true =
    list_all-from_AllPass is_writable (map (doc_of_batch config state) batches)
    (map_all (λ (doc : BatchDoc). is_writable doc ≡ true) (doc_of_batch config state) batches
    (mapped (Fits config state) (λ (batch : OutBatch). is_writable (doc_of_batch config state batch) ≡ true) batches (λ batch one. one.0) both)) in
    let of_texts : list_all is_batch_text (map (doc_of_batch config state) batches) ≡ true =
    list_all-from_AllPass is_batch_text (map (doc_of_batch config state) batches)
    (map_all (λ (doc : BatchDoc). is_batch_text doc ≡ true) (doc_of_batch config state) batches
    (mapped (Fits config state) (λ (batch : OutBatch). is_batch_text (doc_of_batch config state batch) ≡ true) batches (λ batch one. one.1) both)) in
    ap (λ (document : Document). document.batches)
    (written_back state.me.id (map (doc_of_batch config state) batches) (and_left _ _ is.me) writable of_texts)
