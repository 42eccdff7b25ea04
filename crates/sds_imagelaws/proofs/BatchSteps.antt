-- The batches' and the lanes' records after an act, by its edits.
use Rattle.std.proofs.Common.{◌≡◌, ℕ, ◌+◌, ◌==◌, ◌&&◌, ◌||◌, Bool, true, false, not, cond, List, [], ◌∷◌, ◌++◌, length, drop, map, Some, unwrap_or, refl, sym, ap, subst, ◌∙◌, true≢false, filter, find, append-nil, arith}
use Rattle.std.specs.Prelude.{codes}
use Rattle.std.specs.List.{list_any, zip}
use Rattle.std.specs.Str.{bytes_eq}
use Rattle.std.proofs.lemmas.Bool.{eqb-true}
use Rattle.std.proofs.lemmas.Bool.Decides.{nat_tests}
use Rattle.sds_value.proofs.Characters.{left_true, right_true}
use Rattle.sds_types.specs.declared.ack.Ack.{Ack}
use Rattle.sds_types.specs.declared.batch.OutBatch.{OutBatch}
use Rattle.sds_types.specs.declared.batch.Standing.{Standing}
use Rattle.sds_types.specs.declared.batch.Standing.TheVariants as standing
use Rattle.sds_types.specs.declared.config.Config.{Config}
use Rattle.sds_types.specs.declared.lane.LaneIn.{LaneIn}
use Rattle.sds_history.specs.history.Acks.{same_standing}
use Rattle.sds_history.specs.history.Acts.{Act, State}
use Rattle.sds_history.specs.history.Acts.Act.{Opened, Joined, Confirmed, Wrote, Routed, Loaded, Erred, Acked}
use Rattle.sds_history.specs.history.Lanes.{channel_name, empty_lane, is_lane, lane_key, lane_of}
use Rattle.sds_history.specs.history.Made.{next_batches}
use Rattle.sds_history.specs.history.Orders.{pair_key, with_item}
use Rattle.sds_history.specs.history.Records.{Record, batch_record, lane_record}
use Rattle.sds_history.specs.history.SoundStates.{IsSoundState}
use Rattle.sds_history.specs.history.Standings.{acks_from, is_acked, is_error_of, is_ok_for, last_error, standing_of, with_standing}
use Rattle.sds_history.specs.history.States.{state_after}
use Rattle.sds_records.specs.Parts.{put_edit}
use Rattle.sds_imagelaws.specs.Edits.{batch_edits, lane_edits, puts_of, stands_anew}
use Rattle.sds_imagelaws.proofs.Distinct.{Distinct}
use Rattle.sds_imagelaws.proofs.Parts.{Part}
use Rattle.sds_imagelaws.proofs.PartSteps.{added_after, batches_distinct, changed_items, item_part, put_found, same_part}
use Rattle.sds_imagelaws.proofs.Tests.{both_true, equal, itself}

-- WITHOUT ACKS a batch stands as it stood
abbrev by_acks : List OutBatch → OutBatch → Standing → List Ack → Standing
by_acks batches batch before acks = cond (is_acked before || list_any (is_ok_for batches batch) acks) standing.Acked
    (last_error (filter (is_error_of batch) acks) before)

quiet_by : (batches : List OutBatch) (batch : OutBatch) (before : Standing) → by_acks batches batch before [] ≡ before
quiet_by batches batch standing.New = refl
quiet_by batches batch standing.Acked = refl
quiet_by batches batch (standing.Erred row rule) = refl

abbrev stood : OutBatch → Standing → OutBatch
stood batch s = record batch { standing = s }

quiet_batch : (batches : List OutBatch) (acts : List Act) (batch : OutBatch) → acks_from acts batch.peer ≡ [] → with_standing batches acts batch ≡ batch
quiet_batch batches acts batch quiet =
    ap (stood batch) (ap (by_acks batches batch batch.standing) quiet ∙ quiet_by batches batch batch.standing)

pub quiet_all : (batches : List OutBatch) (acts : List Act) (xs : List OutBatch) → ((peer : List ℕ) → acks_from acts peer ≡ [])
    → map (with_standing batches acts) xs ≡ xs
quiet_all batches acts [] quiet = refl
quiet_all batches acts (x ∷ xs) quiet =
    ap (λ y. y ∷ map (with_standing batches acts) xs) (quiet_batch batches acts x (quiet x.peer)) ∙ ap (λ ys. x ∷ ys) (quiet_all batches acts xs quiet)

-- STANDINGS that are one
same_is : (a b : Standing) → same_standing a b ≡ true → a ≡ b
same_is standing.New standing.New is = refl
same_is standing.New standing.Acked is = absurd (true≢false (sym is))
same_is standing.New (standing.Erred row rule) is = absurd (true≢false (sym is))
same_is standing.Acked standing.New is = absurd (true≢false (sym is))
same_is standing.Acked standing.Acked is = refl
same_is standing.Acked (standing.Erred row rule) is = absurd (true≢false (sym is))
same_is (standing.Erred row rule) standing.New is = absurd (true≢false (sym is))
same_is (standing.Erred row rule) standing.Acked is = absurd (true≢false (sym is))
same_is (standing.Erred row rule) (standing.Erred other because) is =
    ap (λ r. standing.Erred r rule) (eqb-true row other (left_true (row == other) (rule == because) is))
    ∙ ap (standing.Erred other) (eqb-true rule because (right_true (row == other) (rule == because) is))

not_false : (b : Bool) → not b ≡ false → b ≡ true
not_false true is = refl
not_false false is = absurd (true≢false is)

module _ (config : Config) where
  abbrev kept : OutBatch → Record
  kept = batch_record config

  abbrev changed_list : List OutBatch → List OutBatch → List OutBatch
  changed_list xs ys = map (λ (at : OutBatch × OutBatch). at.1) (filter stands_anew (zip xs ys))

  -- those that stand anew of items and what became of them
  zipped : (g : OutBatch → OutBatch) (xs : List OutBatch) → changed_list xs (map g xs) ≡ map g (filter (λ x. stands_anew (x, g x)) xs)
  zipped g [] = refl
  zipped g (x ∷ xs) = on (stands_anew (x, g x)) (zipped g xs)
    where
      on : (b : Bool) → changed_list xs (map g xs) ≡ map g (filter (λ y. stands_anew (y, g y)) xs)
          → map (λ (at : OutBatch × OutBatch). at.1) (cond b ((x, g x) ∷ filter stands_anew (zip xs (map g xs))) (filter stands_anew (zip xs (map g xs))))
          ≡ map g (cond b (x ∷ filter (λ y. stands_anew (y, g y)) xs) (filter (λ y. stands_anew (y, g y)) xs))
      on true rest = ap (λ ys. g x ∷ ys) rest
      on false rest = rest

  acked_part : (s : OutBatch → Standing) (xs ys : List OutBatch) → Distinct kept xs → ys ≡ map (λ x. stood x (s x)) xs
      → Part 7 (puts_of (map kept (changed_list xs ys))) (map kept xs) (map kept ys)
  acked_part s xs ys apart is =
      subst (λ list. Part 7 (puts_of (map kept (changed_list xs list))) (map kept xs) (map kept list)) (sym is)
      (subst (λ list. Part 7 (puts_of (map kept list)) (map kept xs) (map kept (map (λ x. stood x (s x)) xs))) (sym (zipped (λ x. stood x (s x)) xs))
      (changed_items 7 kept (λ x. refl) (λ x. stood x (s x)) (λ x. stands_anew (x, stood x (s x))) (λ x. refl)
      (λ x same. ap (λ t. kept (stood x t)) (sym (same_is x.standing (s x) (not_false (same_standing x.standing (s x)) same)))) xs apart))

  routed_part : (xs made ys : List OutBatch) → ys ≡ xs ++ made → Distinct kept ys
      → Part 7 (puts_of (map kept (drop (length xs) ys))) (map kept xs) (map kept ys)
  routed_part xs made ys is apart =
      subst (λ list. Part 7 (puts_of (map kept (drop (length xs) list))) (map kept xs) (map kept list)) (sym is)
      (added_after 7 kept (λ x. refl) xs made (subst (Distinct kept) is apart))

  left_part : (xs ys : List OutBatch) → ys ≡ xs → Part 7 [] (map kept xs) (map kept ys)
  left_part xs ys is = subst (λ list. Part 7 [] (map kept xs) (map kept list)) (sym is) (same_part 7 kept (λ x. refl) xs)

  quiet_left : (batches : List OutBatch) (acts : List Act) → ((peer : List ℕ) → acks_from acts peer ≡ [])
      → map (with_standing (batches ++ []) acts) (batches ++ []) ≡ batches
  quiet_left batches acts quiet = quiet_all (batches ++ []) acts (batches ++ []) quiet ∙ append-nil batches

  pub batch_part : (state : State) (act : Act) → IsSoundState config state → IsSoundState config (state_after config state act)
      → Part 7 (batch_edits config state (state_after config state act) act) (map kept state.batches) (map kept (state_after config state act).batches)
  batch_part state Routed sound after =
      let made = next_batches config state (state.counts.last_batch + 0 + 1) [] in
      routed_part state.batches made (state_after config state Routed).batches
      (quiet_all (state.batches ++ made) (Routed ∷ []) (state.batches ++ made) (λ peer. refl))
      (batches_distinct config (state_after config state Routed) after)
  batch_part state (Acked from acks) sound after =
      acked_part (standing_of (state.batches ++ []) (Acked from acks ∷ [])) state.batches (state_after config state (Acked from acks)).batches
      (batches_distinct config state sound) (ap (map (with_standing (state.batches ++ []) (Acked from acks ∷ []))) (append-nil state.batches))
  batch_part state (Opened group external token) sound after =
      left_part state.batches (state_after config state (Opened group external token)).batches (quiet_left state.batches (Opened group external token ∷ []) (λ peer. refl))
  batch_part state (Joined kept) sound after = left_part state.batches (state_after config state (Joined kept)).batches (quiet_left state.batches (Joined kept ∷ []) (λ peer. refl))
  batch_part state (Confirmed peer) sound after = left_part state.batches (state_after config state (Confirmed peer)).batches (quiet_left state.batches (Confirmed peer ∷ []) (λ peer. refl))
  batch_part state (Wrote writer number rows) sound after =
      left_part state.batches (state_after config state (Wrote writer number rows)).batches (quiet_left state.batches (Wrote writer number rows ∷ []) (λ peer. refl))
  batch_part state (Loaded channel batch) sound after =
      left_part state.batches (state_after config state (Loaded channel batch)).batches (quiet_left state.batches (Loaded channel batch ∷ []) (λ peer. refl))
  batch_part state (Erred from channel error) sound after =
      left_part state.batches (state_after config state (Erred from channel error)).batches (quiet_left state.batches (Erred from channel error ∷ []) (λ peer. refl))

  -- LANES
  equal_itself : (a : ℕ) → (a == a) ≡ true
  equal_itself a = grind (arith, nat_tests)

  pub lane_itself : (from : List ℕ) (channel : ℕ) → ((channel == channel) && bytes_eq from from) ≡ true
  lane_itself from channel = both_true (channel == channel) (bytes_eq from from) (equal_itself channel) (itself from)

  pub found_passes : (from : List ℕ) (channel : ℕ) (lanes : List LaneIn) → is_lane from channel (lane_of lanes from channel) ≡ true
  found_passes from channel lanes = on lanes
    where
      on : (xs : List LaneIn) → is_lane from channel (unwrap_or (find (is_lane from channel) xs) (empty_lane from channel)) ≡ true
      on [] = lane_itself from channel
      on (x ∷ xs) = by (is_lane from channel x) refl (on xs)
        where
          by : (b : Bool) → is_lane from channel x ≡ b → is_lane from channel (unwrap_or (find (is_lane from channel) xs) (empty_lane from channel)) ≡ true
              → is_lane from channel (unwrap_or (cond b (Some x) (find (is_lane from channel) xs)) (empty_lane from channel)) ≡ true
          by true is rest = is
          by false is rest = rest

  one_lane : (from : List ℕ) (channel : ℕ) (a b : LaneIn) → is_lane from channel a ≡ true → is_lane from channel b ≡ true → lane_key config a ≡ lane_key config b
  one_lane from channel a b is also = key_of a is ∙ sym (key_of b also)
    where
      key_of : (x : LaneIn) → is_lane from channel x ≡ true → lane_key config x ≡ pair_key from (channel_name config channel)
      key_of x is =
          ap (λ peer. pair_key peer (channel_name config x.channel)) (equal x.peer from (right_true (x.channel == channel) (bytes_eq x.peer from) is))
          ∙ ap (λ c. pair_key from (channel_name config c)) (eqb-true x.channel channel (left_true (x.channel == channel) (bytes_eq x.peer from) is))

  pub lane_found : (from : List ℕ) (channel : ℕ) (lanes : List LaneIn) (new : LaneIn) → is_lane from channel new ≡ true
      → lane_of (with_item (lane_key config) new lanes) from channel ≡ new
  lane_found from channel lanes new is =
      ap (λ found. unwrap_or found (empty_lane from channel))
      (put_found (lane_key config) (is_lane from channel) new lanes is (λ x also. one_lane from channel x new also is))

  lane_put : (from : List ℕ) (channel : ℕ) (lanes : List LaneIn) (new : LaneIn) → is_lane from channel new ≡ true
      → Part 8 (put_edit (lane_record config (lane_of (with_item (lane_key config) new lanes) from channel)) ∷ [])
      (map (lane_record config) lanes) (map (lane_record config) (with_item (lane_key config) new lanes))
  lane_put from channel lanes new is =
      subst (λ lane. Part 8 (put_edit (lane_record config lane) ∷ [])
      (map (lane_record config) lanes) (map (lane_record config) (with_item (lane_key config) new lanes)))
      (sym (lane_found from channel lanes new is))
      (item_part 8 (lane_record config) (λ x. refl) (lane_key config) (codes "i/") (λ x. refl) new lanes)

  pub lane_part : (state : State) (act : Act)
      → Part 8 (lane_edits config (state_after config state act) act) (map (lane_record config) state.lanes) (map (lane_record config) (state_after config state act).lanes)
  lane_part state (Loaded channel batch) = lane_put batch.from channel state.lanes _ (lane_itself batch.from channel)
  lane_part state (Erred from channel error) = lane_put from channel state.lanes _ (found_passes from channel state.lanes)
  lane_part state (Opened group external token) = same_part 8 (lane_record config) (λ x. refl) state.lanes
  lane_part state (Joined kept) = same_part 8 (lane_record config) (λ x. refl) state.lanes
  lane_part state (Confirmed peer) = same_part 8 (lane_record config) (λ x. refl) state.lanes
  lane_part state (Wrote writer number rows) = same_part 8 (lane_record config) (λ x. refl) state.lanes
  lane_part state Routed = same_part 8 (lane_record config) (λ x. refl) state.lanes
  lane_part state (Acked from acks) = same_part 8 (lane_record config) (λ x. refl) state.lanes
