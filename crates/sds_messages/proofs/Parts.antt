-- One more turn of the loop over channels, and the text of the whole message.
use Rattle.std.proofs.Common.{◌≡◌, ℕ, ◌+◌, ◌<◌, ◌≤◌, Bool, true, false, cond, List, [], ◌∷◌, ◌++◌, length, map, drop, get_or, refl, sym, ap, subst, ◌∙◌, append-nil, append_assoc, arith, filter}
use Rattle.std.proofs.lemmas.Grind.{flat_map-append}
use Rattle.std.proofs.lemmas.List.{drop_all, length-append}
use Rattle.std.proofs.lemmas.List.Concat.{flat_map-cons}
use Rattle.std.proofs.lemmas.List.Sums.{sum_by-cons}
use Rattle.std.specs.List.{flat_map}
use Rattle.sds_batcher.specs.Order.{entry_of}
use Rattle.sds_batchtext.specs.Writing.{batch_text, head_text, text_of}
use Rattle.sds_batchtext.proofs.Ordered.{batch_next}
use Rattle.sds_types.specs.declared.batch.OutBatch.{OutBatch}
use Rattle.sds_types.specs.declared.channel.ChannelDef.{ChannelDef}
use Rattle.sds_types.specs.declared.config.Config.{Config}
use Rattle.sds_types.specs.declared.document.BatchDoc.{BatchDoc}
use Rattle.sds_types.specs.declared.message.MessagePart.{MessagePart}
use Rattle.std.specs.Borrow.{Bor}
use Rattle.sds_history.specs.history.Acts.{State}
use Rattle.sds_history.specs.history.Documents.{doc_of_batch}
use Rattle.sds_history.specs.history.Messages.{batches_in_part, batches_in_parts, is_wanted, part_of, parts_of}
use Rattle.sds_history.specs.world.Sending.{batch_count}
use Rattle.sds_trade.specs.rules.Batches.{channels_in_order}
use Rattle.sds_messages.specs.Texts.{batches_text, part_text, parts_text, written_message}
use Rattle.sds_messages.proofs.Puts.{begins}

-- the parts of channels that are left
abbrev pub parts_in : Config → State → List ℕ → List ℕ → List (ℕ × Bor ChannelDef) → List MessagePart
parts_in config state to channels left = map (part_of config state to) (filter (is_wanted channels) (map entry_of left))

-- of all channels some are left; a text that began so has the parts of those before them, with so many batches
pub record PutsParts (config : Config) (state : State) (to channels : List ℕ) (all left : List (ℕ × Bor ChannelDef)) (before : List ℕ) (count : ℕ) (out : List ℕ) : Type 0 where
  pub counted : count + batch_count (parts_in config state to channels left) ≡ batch_count (parts_in config state to channels all)
  pub text : out ++ parts_text config state to (parts_in config state to channels left) ≡ before ++ parts_text config state to (parts_in config state to channels all)
  pub room : length before + count ≤ length out

none_counted : (count : ℕ) → count + 0 ≡ count
none_counted count = omega arith

from_zero : (n : ℕ) → 0 + n ≡ n
from_zero n = omega arith

added : (a b c : ℕ) → (a + b) + c ≡ a + (b + c)
added a b c = omega arith

room_on : (start count now more after : ℕ) → start + count ≤ now → now + more ≤ after → start + (count + more) ≤ after
room_on start count now more after room longer = omega (arith, room, longer)

module _ (config : Config) (state : State) (to channels : List ℕ) (all : List (ℕ × Bor ChannelDef)) (before : List ℕ) where
  abbrev rest : List (ℕ × Bor ChannelDef) → List MessagePart
  rest left = parts_in config state to channels left

  pub no_parts : PutsParts config state to channels all all before 0 before
  no_parts = record { counted = from_zero (batch_count (rest all)); text = refl; room = omega arith }

  pub all_counted : (i count : ℕ) (out : List ℕ) → length all ≤ i → PutsParts config state to channels all (drop i all) before count out → map entry_of all ≡ channels_in_order config
      → count ≡ batch_count (parts_of config state to channels)
  all_counted i count out end puts sorted =
      sym (none_counted count) ∙ (ap (λ (left : List (ℕ × Bor ChannelDef)). count + batch_count (rest left)) (sym (drop_all i all end))
      ∙ (puts.counted ∙ ap (λ (ats : List (ℕ × ChannelDef)). batch_count (map (part_of config state to) (filter (is_wanted channels) ats))) sorted))

  pub all_written : (i count : ℕ) (out : List ℕ) → length all ≤ i → PutsParts config state to channels all (drop i all) before count out → map entry_of all ≡ channels_in_order config
      → out ≡ before ++ parts_text config state to (parts_of config state to channels)
  all_written i count out end puts sorted =
      sym (append-nil out) ∙ (ap (λ (left : List (ℕ × Bor ChannelDef)). out ++ parts_text config state to (rest left)) (sym (drop_all i all end))
      ∙ (puts.text ∙ ap (λ (ats : List (ℕ × ChannelDef)). before ++ parts_text config state to (map (part_of config state to) (filter (is_wanted channels) ats))) sorted))

  module _ (i count : ℕ) (d : ℕ × Bor ChannelDef) (out : List ℕ) (within : i < length all) (puts : PutsParts config state to channels all (drop i all) before count out) where
    abbrev at : ℕ × ChannelDef
    at = entry_of (get_or all i d)

    abbrev turned : Bool → List MessagePart
    turned b = map (part_of config state to) (cond b (at ∷ filter (is_wanted channels) (map entry_of (drop (i + 1) all))) (filter (is_wanted channels) (map entry_of (drop (i + 1) all))))

    turn : (b : Bool) → b ≡ is_wanted channels at → turned b ≡ rest (drop i all)
    turn b is = ap turned is ∙ ap rest (sym (begins all i d within))

    pub unwanted : false ≡ is_wanted channels at → PutsParts config state to channels all (drop (i + 1) all) before count out
    unwanted is = record {
      counted = ap (λ (parts : List MessagePart). count + batch_count parts) (turn false is) ∙ puts.counted;
      text = ap (λ (parts : List MessagePart). out ++ parts_text config state to parts) (turn false is) ∙ puts.text;
      room = puts.room;
    }

    part_first : (part : MessagePart) (parts : List MessagePart) → part_text config state to part ++ parts_text config state to parts ≡ parts_text config state to (part ∷ parts)
    part_first part parts =
        let f : OutBatch → List ℕ = λ batch. batch_text (doc_of_batch config state batch) in
        sym (ap (flat_map f) (flat_map-cons (batches_in_part state to) part parts)
        ∙ flat_map-append f (batches_in_part state to part) (flat_map (batches_in_part state to) parts))

    pub part_on : (more : List ℕ) (size : ℕ) → true ≡ is_wanted channels at → size ≡ (part_of config state to at).count → more ≡ out ++ part_text config state to (part_of config state to at)
        → length out + size ≤ length more → PutsParts config state to channels all (drop (i + 1) all) before (count + size) more
    part_on more size is sized put longer =
        let part : MessagePart = part_of config state to at in
        let parts : List MessagePart = rest (drop (i + 1) all) in
        record {
          counted = added count size (batch_count parts) ∙ (ap (λ (n : ℕ). count + (n + batch_count parts)) sized
              ∙ (ap (λ (n : ℕ). count + n) (sym (sum_by-cons (λ (p : MessagePart). p.count) part parts))
              ∙ (ap (λ (ps : List MessagePart). count + batch_count ps) (turn true is) ∙ puts.counted)));
          text = ap (λ (t : List ℕ). t ++ parts_text config state to parts) put
              ∙ (append_assoc out (part_text config state to part) (parts_text config state to parts)
              ∙ (ap (λ (t : List ℕ). out ++ t) (part_first part parts)
              ∙ (ap (λ (ps : List MessagePart). out ++ parts_text config state to ps) (turn true is) ∙ puts.text)));
          room = room_on (length before) count (length out) size (length more) puts.room longer;
        }

-- THE MESSAGE: its head, and then the texts of its batches
text_on : (config : Config) (state : State) (node : List ℕ) (docs : List BatchDoc) (batches : List OutBatch)
    → text_of node (docs ++ map (doc_of_batch config state) batches) ≡ text_of node docs ++ batches_text config state batches
text_on config state node docs [] = ap (text_of node) (append-nil docs) ∙ sym (append-nil (text_of node docs))
text_on config state node docs (batch ∷ batches) =
    let doc : BatchDoc = doc_of_batch config state batch in
    ap (text_of node) (sym (append_assoc docs (doc ∷ []) (map (doc_of_batch config state) batches)))
    ∙ (text_on config state node (docs ++ doc ∷ []) batches
    ∙ (ap (λ (t : List ℕ). t ++ batches_text config state batches) (batch_next node docs doc)
    ∙ (append_assoc (text_of node docs) (batch_text doc) (batches_text config state batches)
    ∙ ap (λ (t : List ℕ). text_of node docs ++ t) (sym (flat_map-cons (λ (b : OutBatch). batch_text (doc_of_batch config state b)) batch batches)))))

pub message_is : (config : Config) (state : State) (to channels before head out : List ℕ) → head ≡ before ++ head_text state.me.id
    → out ≡ head ++ parts_text config state to (parts_of config state to channels) → out ≡ before ++ written_message config state to channels
message_is config state to channels before head out begun is =
    let parts : List MessagePart = parts_of config state to channels in
    is ∙ (ap (λ (t : List ℕ). t ++ parts_text config state to parts) begun
    ∙ (append_assoc before (head_text state.me.id) (parts_text config state to parts)
    ∙ ap (λ (t : List ℕ). before ++ t) (sym (text_on config state state.me.id [] (batches_in_parts state to parts)))))
