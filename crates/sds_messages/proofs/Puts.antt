-- One more turn of the loop over a lane's batches.
use Rattle.std.proofs.Common.{◌≡◌, ℕ, suc, ◌+◌, ◌-◌, ◌<◌, ◌≤◌, Bool, true, false, cond, not, List, [], ◌∷◌, ◌++◌, length, take, drop, drop-cons, add-one, get_or, refl, sym, ap, subst, ◌∙◌, append-nil, append_assoc, arith, filter, AllPairs}
use Rattle.std.proofs.lemmas.List.{drop_all, length-append}
use Rattle.std.proofs.lemmas.List.Concat.{flat_map-cons}
use Rattle.std.specs.Prelude.{IsTrue}
use Rattle.sds_types.specs.declared.batch.OutBatch.{OutBatch}
use Rattle.sds_types.specs.declared.channel.ChannelDef.{ChannelDef}
use Rattle.sds_types.specs.declared.config.Config.{Config}
use Rattle.sds_batchtext.specs.Writing.{batch_text}
use Rattle.sds_history.specs.history.Acts.{State}
use Rattle.sds_history.specs.history.Documents.{doc_of_batch}
use Rattle.sds_history.specs.history.Messages.{batches_in_part, bytes_of, count_through, ends_part, is_in_lane, lane_made, lane_waiting, part_of}
use Rattle.sds_history.specs.history.SoundStates.{acks_ascend}
use Rattle.sds_history.specs.history.Standings.{is_acked}
use Rattle.sds_outgoing.specs.Offering.{is_waiting}
use Rattle.sds_outgoing.proofs.Lists.{filter_both}
use Rattle.sds_messages.specs.Closing.{closes_part, going_after}
use Rattle.sds_messages.specs.Texts.{batches_text, part_text}
use Rattle.sds_messages.proofs.Acknowledged.{after_acked}
use Rattle.sds_messages.proofs.Going.{all_going, count_is}

-- what is left begins with the one at the turn
pub begins : {A : Type 0} (xs : List A) (i : ℕ) (d : A) → i < length xs → drop i xs ≡ get_or xs i d ∷ drop (i + 1) xs
begins xs i d within = rw add-one (drop-cons xs i d within)

-- NUMBERS
none_left : (n : ℕ) → n - n ≡ 0
none_left n = omega arith

one_counted : (count rest : ℕ) → count + suc rest ≡ (count + 1) + rest
one_counted count rest = omega arith

bytes_on : (start now size : ℕ) → start ≤ now → (now + size) - start ≡ (now - start) + size
bytes_on start now size within = omega (arith, within)

room_on : (start count now size : ℕ) → start + count ≤ now → start + (count + 1) ≤ now + suc size
room_on start count now size room = omega (arith, room)

start_within : (start count now : ℕ) → start + count ≤ now → start ≤ now
start_within start count now room = omega (arith, room)

from_zero : (n : ℕ) → 0 + n ≡ n
from_zero n = omega arith

some_counted : (count : ℕ) → count + 0 ≡ count
some_counted count = omega arith

-- a test on the lengths of texts
pub closed_at : {b : Bool} (most number now start : ℕ) (x : OutBatch) (more before : List ℕ) → now ≡ length more → start ≡ length before → b ≡ closes_part most number (now - start) x
    → b ≡ closes_part most number (length more - length before) x
closed_at most number now start x more before long short is =
    is ∙ (ap (λ (n : ℕ). closes_part most number (n - start) x) long ∙ ap (λ (n : ℕ). closes_part most number (length more - n) x) short)

-- WHAT STANDS between two turns, of the batches that wait to a peer in a channel:
-- of all batches some are left; a text that began so has those that went, so many
pub record Puts (config : Config) (state : State) (to : List ℕ) (channel most : ℕ) (all left : List OutBatch) (before : List ℕ) (count : ℕ) (out : List ℕ) : Type 0 where
  pub counted : count + length (going_after (bytes_of config state) most count (length out - length before) (filter (is_waiting to channel) left))
      ≡ length (going_after (bytes_of config state) most 0 0 (filter (is_waiting to channel) all))
  pub text : out ++ batches_text config state (going_after (bytes_of config state) most count (length out - length before) (filter (is_waiting to channel) left))
      ≡ before ++ batches_text config state (going_after (bytes_of config state) most 0 0 (filter (is_waiting to channel) all))
  pub room : length before + count ≤ length out

-- all that go went
pub record HasPut (config : Config) (state : State) (to : List ℕ) (channel most : ℕ) (all : List OutBatch) (before : List ℕ) (count : ℕ) (out : List ℕ) : Type 0 where
  pub counted : count ≡ length (going_after (bytes_of config state) most 0 0 (filter (is_waiting to channel) all))
  pub text : out ≡ before ++ batches_text config state (going_after (bytes_of config state) most 0 0 (filter (is_waiting to channel) all))
  pub room : length before + count ≤ length out

module _ (config : Config) (state : State) (to : List ℕ) (channel most : ℕ) (all : List OutBatch) (before : List ℕ) where
  abbrev size : OutBatch → ℕ
  size batch = length (batch_text (doc_of_batch config state batch))

  abbrev rest_of : ℕ → ℕ → List OutBatch → List OutBatch
  rest_of count bytes left = going_after (bytes_of config state) most count bytes (filter (is_waiting to channel) left)

  abbrev whole : List OutBatch
  whole = rest_of 0 0 all

  pub none_put : Puts config state to channel most all all before 0 before
  none_put = record {
    counted = from_zero (length (rest_of 0 (length before - length before) all)) ∙ ap (λ (n : ℕ). length (rest_of 0 n all)) (none_left (length before));
    text = ap (λ (n : ℕ). before ++ batches_text config state (rest_of 0 n all)) (none_left (length before));
    room = omega arith;
  }

  pub all_put : (i count : ℕ) (out : List ℕ) → length all ≤ i → Puts config state to channel most all (drop i all) before count out
      → HasPut config state to channel most all before count out
  all_put i count out end puts =
      let bytes : ℕ = length out - length before in
      record {
        counted = sym (some_counted count) ∙ (ap (λ (bs : List OutBatch). count + length (rest_of count bytes bs)) (sym (drop_all i all end)) ∙ puts.counted);
        text = sym (append-nil out) ∙ (ap (λ (bs : List OutBatch). out ++ batches_text config state (rest_of count bytes bs)) (sym (drop_all i all end)) ∙ puts.text);
        room = puts.room;
      }

  -- a turn at a batch, which waits or doesn't
  module _ (i count : ℕ) (x : OutBatch) (out : List ℕ) (within : i < length all) (at : x ≡ get_or all i x) (puts : Puts config state to channel most all (drop i all) before count out) where
    abbrev bytes : ℕ
    bytes = length out - length before

    abbrev later : List OutBatch
    later = filter (is_waiting to channel) (drop (i + 1) all)

    abbrev turned : Bool → List OutBatch
    turned b = going_after (bytes_of config state) most count bytes (cond b (x ∷ later) later)

    turn : (b : Bool) → b ≡ is_waiting to channel x → turned b ≡ rest_of count bytes (drop i all)
    turn b is =
        ap turned is
        ∙ ap (rest_of count bytes) (ap (λ (y : OutBatch). y ∷ drop (i + 1) all) at ∙ sym (begins all i x within))

    pub passed : false ≡ is_waiting to channel x → Puts config state to channel most all (drop (i + 1) all) before count out
    passed is = record {
      counted = ap (λ (bs : List OutBatch). count + length bs) (turn false is) ∙ puts.counted;
      text = ap (λ (bs : List OutBatch). out ++ batches_text config state bs) (turn false is) ∙ puts.text;
      room = puts.room;
    }

    -- it is put
    module _ (is : true ≡ is_waiting to channel x) (more : List ℕ) (put : more ≡ out ++ batch_text (doc_of_batch config state x)) where
      longer : length more ≡ length out + size x
      longer = ap (λ (t : List ℕ). length t) put ∙ length-append out (batch_text (doc_of_batch config state x))

      grown : length more - length before ≡ bytes + size x
      grown =
          ap (λ (n : ℕ). n - length before) longer
          ∙ bytes_on (length before) (length out) (size x) (start_within (length before) count (length out) puts.room)

      roomy : length before + (count + 1) ≤ length more
      roomy = subst (λ (n : ℕ). length before + (count + 1) ≤ n) (sym longer) (room_on (length before) count (length out) _ puts.room)

      abbrev others : Bool → ℕ → List OutBatch
      others b n = cond b [] (going_after (bytes_of config state) most (count + 1) n later)

      ended : (b : Bool) → b ≡ closes_part most (count + 1) (length more - length before) x → x ∷ others b (length more - length before) ≡ rest_of count bytes (drop i all)
      ended b ends =
          ap (λ (t : Bool). x ∷ others t (length more - length before)) ends
          ∙ (ap (λ (n : ℕ). x ∷ others (closes_part most (count + 1) n x) n) grown ∙ turn true is)

      texts : (bs : List OutBatch) → more ++ batches_text config state bs ≡ out ++ batches_text config state (x ∷ bs)
      texts bs =
          ap (λ (t : List ℕ). t ++ batches_text config state bs) put
          ∙ (append_assoc out (batch_text (doc_of_batch config state x)) (batches_text config state bs)
          ∙ ap (λ (t : List ℕ). out ++ t) (sym (flat_map-cons (λ (batch : OutBatch). batch_text (doc_of_batch config state batch)) x bs)))

      pub put_on : false ≡ closes_part most (count + 1) (length more - length before) x → Puts config state to channel most all (drop (i + 1) all) before (count + 1) more
      put_on ends =
          let bs : List OutBatch = others false (length more - length before) in
          record {
            counted = sym (one_counted count (length bs)) ∙ (ap (λ (gone : List OutBatch). count + length gone) (ended false ends) ∙ puts.counted);
            text = texts bs ∙ (ap (λ (gone : List OutBatch). out ++ batches_text config state gone) (ended false ends) ∙ puts.text);
            room = roomy;
          }

      pub put_last : true ≡ closes_part most (count + 1) (length more - length before) x → HasPut config state to channel most all before (count + 1) more
      put_last ends = record {
        counted = sym (one_counted count 0 ∙ some_counted (count + 1)) ∙ (ap (λ (gone : List OutBatch). count + length gone) (ended true ends) ∙ puts.counted);
        text = sym (append-nil more) ∙ (texts [] ∙ (ap (λ (gone : List OutBatch). out ++ batches_text config state gone) (ended true ends) ∙ puts.text));
        room = roomy;
      }

-- THE PART of a message
module _ (config : Config) (state : State) (to : List ℕ) (channel : ℕ) (def : ChannelDef) (items : List OutBatch) (before : List ℕ) (count : ℕ) (out : List ℕ)
    (same : items ≡ state.batches) (put : HasPut config state to channel def.max_batch_to_send items before count out) where
  abbrev waiting : List OutBatch
  waiting = lane_waiting state to channel

  all_wait : filter (is_waiting to channel) items ≡ waiting
  all_wait =
      ap (filter (is_waiting to channel)) same
      ∙ sym (filter_both (is_in_lane to channel) (λ (batch : OutBatch). not (is_acked batch.standing)) state.batches)

  pub part_count : count ≡ (part_of config state to (channel, def)).count
  part_count =
      put.counted
      ∙ (ap (λ (bs : List OutBatch). length (going_after (bytes_of config state) def.max_batch_to_send 0 0 bs)) all_wait
      ∙ sym (count_is (bytes_of config state) def.max_batch_to_send waiting))

  gone_is : AllPairs (λ (a b : OutBatch). IsTrue (acks_ascend a b)) state.batches
      → going_after (bytes_of config state) def.max_batch_to_send 0 0 (filter (is_waiting to channel) items) ≡ batches_in_part state to (part_of config state to (channel, def))
  gone_is order =
      ap (going_after (bytes_of config state) def.max_batch_to_send 0 0) all_wait
      ∙ (sym (all_going (bytes_of config state) def.max_batch_to_send waiting)
      ∙ ap (take (count_through (ends_part config state def.max_batch_to_send waiting) waiting)) (sym (after_acked state to channel order)))

  pub part_put : AllPairs (λ (a b : OutBatch). IsTrue (acks_ascend a b)) state.batches → out ≡ before ++ part_text config state to (part_of config state to (channel, def))
  part_put order = put.text ∙ ap (λ (bs : List OutBatch). before ++ batches_text config state bs) (gone_is order)
