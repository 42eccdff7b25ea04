-- What holds of a lane between two nodes, and stays so by each act of either.
use Rattle.std.proofs.Common.{◌≡◌, ℕ, ◌+◌, ◌<◌, ◌≤◌, Bool, true, false, cond, List, [], ◌∷◌, ◌++◌, length, map, Option, None, Some, refl, sym, ap, subst, ◌∙◌, arith, true≢false, filter, find, ◌||◌, ◌&&◌, ◌==◌, All, append-nil, not}
use Rattle.std.specs.List.{list_any, range_with_len}
use Rattle.std.specs.Option.{option_map_or}
use Rattle.std.specs.Prelude.{is_some, nat_le, unwrap_or}
use Rattle.std.specs.Str.{bytes_eq}
use Rattle.std.proofs.lemmas.Bool.Decides.{nat_tests}
use Rattle.std.proofs.lemmas.List.{map-append}
use Rattle.std.proofs.lemmas.List.Elements.{All-nil, All-append, filter-append}
use Rattle.std.proofs.lemmas.List.Folds.{list_any-append}
use Rattle.sds_types.specs.declared.ack.Ack.{Ack}
use Rattle.sds_types.specs.declared.batch.NewBatch.{NewBatch}
use Rattle.sds_types.specs.declared.batch.OutBatch.{OutBatch}
use Rattle.sds_types.specs.declared.batch.Standing.{Standing}
use Rattle.sds_types.specs.declared.batch.Standing.TheVariants as standing
use Rattle.sds_types.specs.declared.config.Config.{Config}
use Rattle.sds_types.specs.declared.lane.LaneError.{LaneError}
use Rattle.sds_types.specs.declared.lane.LaneIn.{LaneIn}
use Rattle.sds_types.specs.declared.peer.KeptPeer.{KeptPeer}
use Rattle.sds_types.specs.declared.prepared.Prepared.{Prepared}
use Rattle.sds_trade.proofs.Lists.{all_head, all_tail, passes}
use Rattle.sds_trade.specs.rules.Batches.{batches_of, routed_changes}
use Rattle.sds_trade.specs.rules.Outcomes.{prepared_batch}
use Rattle.sds_trade.specs.rules.Sound.{IsSound}
use Rattle.sds_history.specs.history.Acts.{Act, State}
use Rattle.sds_history.specs.history.Acts.Act.{Opened, Joined, Confirmed, Wrote, Routed, Loaded, Erred, Acked}
use Rattle.sds_history.specs.history.Changes.{run_after, unrouted_after}
use Rattle.sds_history.specs.history.Documents.{doc_of_batch, way_from}
use Rattle.sds_history.specs.history.Lanes.{empty_lane, is_ignored, is_lane, lane_key, lane_of}
use Rattle.sds_history.specs.history.Made.{out_batch}
use Rattle.sds_history.specs.history.Messages.{is_in_lane, lane_made}
use Rattle.sds_history.specs.history.Orders.{with_item}
use Rattle.sds_history.specs.history.Peers.{kept_peer}
use Rattle.sds_history.specs.history.Standings.{acks_in, erred_by, is_acked, is_error_of, is_ok_for, last_error, same_lane, with_standing}
use Rattle.sds_history.specs.history.States.{state_after}
use Rattle.sds_history.specs.world.LaneParts.{load_in, loads_of}
use Rattle.sds_nodelaws.proofs.Counted.{next_ids}
use Rattle.sds_nodelaws.proofs.Held.{any_map, equal_itself, mapped}
use Rattle.sds_nodelaws.proofs.Items.{equal, itself, new_found, other_found}
use Rattle.sds_nodelaws.proofs.Splicing.{numbered_after}
use Rattle.sds_nodelaws.proofs.Tests.{at_most, or_cases, or_left, same_number}
use Rattle.sds_worldlaws.proofs.LaneKeys.{one_lane}
use Rattle.sds_nodelaws.proofs.Lists.{Ascending, Either, In, all_in, and_both, and_left, and_right, ascending_filter, ascending_range, filter_all, filter_none, filter_through, find_passes, from_le, in_all, in_filter, is_le, map_all, map_same, map_twice, most_in_range, not_le, unmap_all}
use Rattle.sds_nodelaws.proofs.Lists.Either.{left, right}
use Rattle.sds_nodelaws.proofs.Documents.{document_same}
use Rattle.sds_nodelaws.proofs.NodeFacts.{Came, GoesOut, IsKept, IsUnsaid, NodeFacts, Suits, added, batches_after, joins_of, kept_stays, last_batch_rises}

-- A LANE from one node to another in a channel: what was made, what is kept of it, and a batch as it
-- is read
abbrev pub made : State → State → ℕ → List OutBatch
made from to channel = lane_made from to.me.id channel

abbrev pub kept_of : State → State → ℕ → LaneIn
kept_of from to channel = lane_of to.lanes from.me.id channel

abbrev pub read : Config → State → State → OutBatch → Prepared
read config from to batch = prepared_batch config (way_from to from.me.id) (doc_of_batch config from batch)

abbrev pub upto : ℕ → OutBatch → Bool
upto highest batch = nat_le batch.id highest

-- a number is that of the next batch after the highest that is loaded
pub record IsNext (highest : ℕ) (batches : List OutBatch) (number : ℕ) : Type 0 where
  pub more : highest < number
  pub has : list_any (λ (batch : OutBatch). batch.id == number) batches ≡ true
  pub next : All (λ (batch : OutBatch). Either (batch.id ≤ highest) (number ≤ batch.id)) batches

abbrev pub ErrorOk : ℕ → List OutBatch → Option LaneError → Type 0
ErrorOk highest batches None = Unit {0}
ErrorOk highest batches (Some error) = IsNext highest batches error.batch

abbrev pub AckedOk : ℕ → OutBatch → Type 0
AckedOk highest batch = is_acked batch.standing ≡ true → batch.id ≤ highest

-- what is loaded are the batches up to the highest, each as the receiver reads it; none is
-- acknowledged that isn't loaded; an error is at the next one
pub record LaneFacts (config : Config) (from to : State) (acts : List Act) (channel : ℕ) : Type 0 where
  pub loads : loads_of from.me.id channel acts
      ≡ map (read config from to) (filter (upto (kept_of from to channel).highest) (made from to channel))
  pub acked : All (AckedOk (kept_of from to channel).highest) (made from to channel)
  pub least : (kept_of from to channel).highest ≤ from.counts.last_batch
  pub error : ErrorOk (kept_of from to channel).highest (made from to channel) (kept_of from to channel).error

-- THE SENDER'S ACTS. A batch is read as before
pub read_same : (config : Config) (from to : State) (act : Act) (batch : OutBatch) → Suits config from act → GoesOut from batch
    → read config (state_after config from act) to batch ≡ read config from to batch
read_same config from to act batch suits out =
    ap (prepared_batch config (way_from to from.me.id)) (document_same config from act batch (joins_of config from act suits) out)

-- batches that an act makes are new
new_after : (config : Config) (state : State) (act : Act) → All (λ (batch : OutBatch). state.counts.last_batch < batch.id) (added config state act)
new_after config state Routed =
    numbered_after state.counts.last_batch (state.counts.last_batch + 0 + 1) (length (added config state Routed)) (added config state Routed)
    (less state.counts.last_batch) (next_ids config state (state.counts.last_batch + 0 + 1) [])
  where
    less : (a : ℕ) → a < a + 0 + 1
    less a = omega arith
new_after config state (Opened group external token) = All-nil (λ (batch : OutBatch). state.counts.last_batch < batch.id)
new_after config state (Joined kept) = All-nil (λ (batch : OutBatch). state.counts.last_batch < batch.id)
new_after config state (Confirmed peer) = All-nil (λ (batch : OutBatch). state.counts.last_batch < batch.id)
new_after config state (Wrote writer number rows) = All-nil (λ (batch : OutBatch). state.counts.last_batch < batch.id)
new_after config state (Loaded channel batch) = All-nil (λ (batch : OutBatch). state.counts.last_batch < batch.id)
new_after config state (Erred from channel error) = All-nil (λ (batch : OutBatch). state.counts.last_batch < batch.id)
new_after config state (Acked from acks) = All-nil (λ (batch : OutBatch). state.counts.last_batch < batch.id)

new_unacked : (config : Config) (state : State) (act : Act) → All (λ (batch : OutBatch). is_acked batch.standing ≡ false) (added config state act)
new_unacked config state Routed =
    map_all (λ (batch : OutBatch). is_acked batch.standing ≡ false) (out_batch (map (λ (kept : KeptPeer). kept.peer) state.peers))
    (batches_of config (state.counts.last_batch + 0 + 1)
    (routed_changes config state.me state.tables (map (λ (kept : KeptPeer). kept.peer) state.peers) (unrouted_after config state [])))
    (in_all (λ (batch : NewBatch). is_acked (out_batch (map (λ (kept : KeptPeer). kept.peer) state.peers) batch).standing ≡ false)
    (batches_of config (state.counts.last_batch + 0 + 1)
    (routed_changes config state.me state.tables (map (λ (kept : KeptPeer). kept.peer) state.peers) (unrouted_after config state [])))
    (λ batch is. refl))
new_unacked config state (Opened group external token) = All-nil (λ (batch : OutBatch). is_acked batch.standing ≡ false)
new_unacked config state (Joined kept) = All-nil (λ (batch : OutBatch). is_acked batch.standing ≡ false)
new_unacked config state (Confirmed peer) = All-nil (λ (batch : OutBatch). is_acked batch.standing ≡ false)
new_unacked config state (Wrote writer number rows) = All-nil (λ (batch : OutBatch). is_acked batch.standing ≡ false)
new_unacked config state (Loaded channel batch) = All-nil (λ (batch : OutBatch). is_acked batch.standing ≡ false)
new_unacked config state (Erred from channel error) = All-nil (λ (batch : OutBatch). is_acked batch.standing ≡ false)
new_unacked config state (Acked from acks) = All-nil (λ (batch : OutBatch). is_acked batch.standing ≡ false)

-- the numbers of a node's batches are within its counter
pub ids_within : (config : Config) (state : State) (acts : List Act) → NodeFacts config state acts
    → All (λ (batch : OutBatch). batch.id ≤ state.counts.last_batch) state.batches
ids_within config state acts facts =
    unmap_all (λ (n : ℕ). n ≤ state.counts.last_batch) (λ (batch : OutBatch). batch.id) state.batches
    (subst (All (λ (n : ℕ). n ≤ state.counts.last_batch)) (sym facts.ids)
    (mapped (λ (n : ℕ). n < 1 + state.counts.last_batch) (λ (n : ℕ). n ≤ state.counts.last_batch) (range_with_len 1 state.counts.last_batch)
    (λ n less. within n state.counts.last_batch less) (most_in_range 1 state.counts.last_batch)))
  where
    within : (n last : ℕ) → n < 1 + last → n ≤ last
    within n last less = omega (arith, less)

pub ids_ascend : (config : Config) (state : State) (acts : List Act) → NodeFacts config state acts → Ascending (λ (batch : OutBatch). batch.id) state.batches
ids_ascend config state acts facts = ascending_range (λ (batch : OutBatch). batch.id) state.batches 1 state.counts.last_batch facts.ids

-- a batch of a number is among batches
named_most : (number last : ℕ) (batches : List OutBatch) → All (λ (batch : OutBatch). batch.id ≤ last) batches
    → list_any (λ (batch : OutBatch). batch.id == number) batches ≡ true → number ≤ last
named_most number last [] within has = absurd (true≢false (sym has))
named_most number last (batch ∷ batches) within has =
    or_cases (batch.id == number) (list_any (λ (b : OutBatch). b.id == number) batches) has
    (λ here. subst (λ n. n ≤ last) (same_number batch.id number here) (all_head (λ (b : OutBatch). b.id ≤ last) batch batches within))
    (λ rest. named_most number last batches (all_tail (λ (b : OutBatch). b.id ≤ last) batch batches within) rest)

-- further batches leave the next one what it is
next_on : (highest last number : ℕ) (old new : List OutBatch) → All (λ (batch : OutBatch). batch.id ≤ last) old → All (λ (batch : OutBatch). last < batch.id) new
    → IsNext highest old number → IsNext highest (old ++ new) number
next_on highest last number old new within after is = record {
  more = is.more;
  has = list_any-append (λ (batch : OutBatch). batch.id == number) old new
      ∙ or_left (list_any (λ (batch : OutBatch). batch.id == number) old) (list_any (λ (batch : OutBatch). batch.id == number) new) is.has;
  next = All-append (λ (batch : OutBatch). Either (batch.id ≤ highest) (number ≤ batch.id)) old new is.next
      (mapped (λ (batch : OutBatch). last < batch.id) (λ (batch : OutBatch). Either (batch.id ≤ highest) (number ≤ batch.id)) new
      (λ batch less. right (later number last batch.id (named_most number last old within is.has) less)) after);
}
  where
    later : (n l id : ℕ) → n ≤ l → l < id → n ≤ id
    later n l id most less = omega (arith, most, less)

error_on : (highest last : ℕ) (old new : List OutBatch) (error : Option LaneError) → All (λ (batch : OutBatch). batch.id ≤ last) old
    → All (λ (batch : OutBatch). last < batch.id) new → ErrorOk highest old error → ErrorOk highest (old ++ new) error
error_on highest last old new None within after is = is
error_on highest last old new (Some error) within after is = next_on highest last error.batch old new within after is

none_upto : (highest last : ℕ) (new : List OutBatch) → highest ≤ last → All (λ (batch : OutBatch). last < batch.id) new → filter (upto highest) new ≡ []
none_upto highest last new least after =
    filter_none (upto highest) new
    (mapped (λ (batch : OutBatch). last < batch.id) (λ (batch : OutBatch). upto highest batch ≡ false) new
    (λ batch less. not_le batch.id highest (below highest last batch.id least less)) after)
  where
    below : (h l id : ℕ) → h ≤ l → l < id → h < id
    below h l id most less = omega (arith, most, less)

pub by_sender : (config : Config) (from to : State) (mine acts : List Act) (act : Act) (channel : ℕ) → IsUnsaid act → Suits config from act
    → NodeFacts config from mine → LaneFacts config from to acts channel → LaneFacts config (state_after config from act) to acts channel
by_sender config from to mine acts act channel none suits node before =
    let highest : ℕ = (kept_of from to channel).highest in
    let old : List OutBatch = made from to channel in
    let new : List OutBatch = filter (is_in_lane to.me.id channel) (added config from act) in
    let now : List OutBatch = made (state_after config from act) to channel in
    let same : now ≡ old ++ new = ap (filter (is_in_lane to.me.id channel)) (batches_after config from act none)
    ∙ filter-append (is_in_lane to.me.id channel) from.batches (added config from act) in
    let after : All (λ (batch : OutBatch). from.counts.last_batch < batch.id) new =
    filter_all (λ (batch : OutBatch). from.counts.last_batch < batch.id) (is_in_lane to.me.id channel) (added config from act) (new_after config from act) in
    let within : All (λ (batch : OutBatch). batch.id ≤ from.counts.last_batch) old =
    filter_all (λ (batch : OutBatch). batch.id ≤ from.counts.last_batch) (is_in_lane to.me.id channel) from.batches (ids_within config from mine node) in
    record {
      loads = before.loads
          ∙ (map_same (read config from to) (read config (state_after config from act) to) (filter (upto highest) old)
          (mapped (GoesOut from) (λ (batch : OutBatch). read config from to batch ≡ read config (state_after config from act) to batch) (filter (upto highest) old)
          (λ batch out. sym (read_same config from to act batch suits out))
          (filter_all (GoesOut from) (upto highest) old (filter_all (GoesOut from) (is_in_lane to.me.id channel) from.batches node.batches)))
          ∙ ap (map (read config (state_after config from act) to))
          (sym (ap (filter (upto highest)) same ∙ (filter-append (upto highest) old new
          ∙ (ap (λ bs. filter (upto highest) old ++ bs) (none_upto highest from.counts.last_batch new before.least after) ∙ append-nil (filter (upto highest) old))))));
      acked = subst (All (AckedOk highest)) (sym same)
          (All-append (AckedOk highest) old new before.acked
          (mapped (λ (batch : OutBatch). is_acked batch.standing ≡ false) (AckedOk highest) new (λ batch isnt is. absurd (true≢false (sym is ∙ isnt)))
          (filter_all (λ (batch : OutBatch). is_acked batch.standing ≡ false) (is_in_lane to.me.id channel) (added config from act) (new_unacked config from act))));
      least = at_most highest from.counts.last_batch (state_after config from act).counts.last_batch before.least (last_batch_rises config from act);
      error = subst (λ bs. ErrorOk highest bs (kept_of from to channel).error) (sym same)
          (error_on highest from.counts.last_batch old new (kept_of from to channel).error within after before.error);
    }

-- ACKS. A number is that of a batch that is loaded
pub record LoadedIn (config : Config) (from to : State) (number : ℕ) : Type 0 where
  pub channel : ℕ
  pub within : channel < length config.channels
  pub has : list_any (λ (batch : OutBatch). batch.id == number) (made from to channel) ≡ true
  pub most : number ≤ (kept_of from to channel).highest

-- an ack tells of a batch that is loaded, or of an error in one that was made
abbrev pub AckTells : Config → State → State → ℕ → Option (ℕ × ℕ) → Type 0
AckTells config from to number None = LoadedIn config from to number
AckTells config from to number (Some error) =
    list_any (λ (batch : OutBatch). batch.id == number && bytes_eq batch.peer to.me.id) from.batches ≡ true

abbrev pub AckOk : Config → State → State → Ack → Type 0
AckOk config from to ack = AckTells config from to ack.batch ack.error

-- of batches in the order of their numbers one has a number
apart_from : (number : ℕ) (q : OutBatch → Bool) (batches : List OutBatch) → All (λ (batch : OutBatch). number < batch.id) batches
    → list_any (λ (batch : OutBatch). batch.id == number && q batch) batches ≡ false
apart_from number q [] above = refl
apart_from number q (batch ∷ batches) above =
    ap (λ b. (b && q batch) || list_any (λ (o : OutBatch). o.id == number && q o) batches)
    (differ batch.id number (all_head (λ (b : OutBatch). number < b.id) batch batches above))
    ∙ apart_from number q batches (all_tail (λ (b : OutBatch). number < b.id) batch batches above)
  where
    differ : (a b : ℕ) → b < a → (a == b) ≡ false
    differ a b less = grind (arith, nat_tests, less)

none_of : (number : ℕ) (batches : List OutBatch) → All (λ (batch : OutBatch). number < batch.id) batches
    → list_any (λ (batch : OutBatch). batch.id == number) batches ≡ false
none_of number [] above = refl
none_of number (batch ∷ batches) above =
    ap (λ b. b || list_any (λ (o : OutBatch). o.id == number) batches) (differ batch.id number (all_head (λ (b : OutBatch). number < b.id) batch batches above))
    ∙ none_of number batches (all_tail (λ (b : OutBatch). number < b.id) batch batches above)
  where
    differ : (a b : ℕ) → b < a → (a == b) ≡ false
    differ a b less = grind (arith, nat_tests, less)

filter_apart : (number : ℕ) (p : OutBatch → Bool) (batches : List OutBatch) → All (λ (batch : OutBatch). number < batch.id) batches
    → list_any (λ (batch : OutBatch). batch.id == number) (filter p batches) ≡ false
filter_apart number p batches above =
    none_of number (filter p batches) (filter_all (λ (batch : OutBatch). number < batch.id) p batches above)

-- the one batch of a number passes both tests
record Both (p q : OutBatch → Bool) : Type 0 where
  batch : OutBatch
  first : p batch ≡ true
  second : q batch ≡ true

both_on : (number : ℕ) (p q : OutBatch → Bool) (batch : OutBatch) (batches : List OutBatch) (b : Bool) → p batch ≡ b
    → All (λ (o : OutBatch). batch.id < o.id) batches
    → (list_any (λ (o : OutBatch). o.id == number) (filter p batches) ≡ true
    → list_any (λ (o : OutBatch). o.id == number && q o) batches ≡ true → Both p q)
    → list_any (λ (o : OutBatch). o.id == number) (cond b (batch ∷ filter p batches) (filter p batches)) ≡ true
    → ((batch.id == number && q batch) || list_any (λ (o : OutBatch). o.id == number && q o) batches) ≡ true → Both p q
both_on number p q batch batches true pass above rest has other =
    or_cases (batch.id == number) (list_any (λ (o : OutBatch). o.id == number) (filter p batches)) has
    (λ here. or_cases (batch.id == number && q batch) (list_any (λ (o : OutBatch). o.id == number && q o) batches) other
    (λ is. record { batch = batch; first = pass; second = and_right (batch.id == number) (q batch) is })
    (λ later. absurd (true≢false (sym later ∙ apart_from number q batches
    (subst (λ n. All (λ (o : OutBatch). n < o.id) batches) (same_number batch.id number here) above)))))
    (λ later. or_cases (batch.id == number && q batch) (list_any (λ (o : OutBatch). o.id == number && q o) batches) other
    (λ is. absurd (true≢false (sym later ∙ filter_apart number p batches
    (subst (λ n. All (λ (o : OutBatch). n < o.id) batches) (same_number batch.id number (and_left (batch.id == number) (q batch) is)) above))))
    (λ more. rest later more))
both_on number p q batch batches false fail above rest has other =
    or_cases (batch.id == number && q batch) (list_any (λ (o : OutBatch). o.id == number && q o) batches) other
    (λ is. absurd (true≢false (sym has ∙ filter_apart number p batches
    (subst (λ n. All (λ (o : OutBatch). n < o.id) batches) (same_number batch.id number (and_left (batch.id == number) (q batch) is)) above))))
    (λ more. rest has more)

both_of : (number : ℕ) (p q : OutBatch → Bool) (batches : List OutBatch) → Ascending (λ (batch : OutBatch). batch.id) batches
    → list_any (λ (batch : OutBatch). batch.id == number) (filter p batches) ≡ true
    → list_any (λ (batch : OutBatch). batch.id == number && q batch) batches ≡ true → Both p q
both_of number p q [] ascend has other = absurd (true≢false (sym has))
both_of number p q (batch ∷ batches) ascend has other =
    both_on number p q batch batches (p batch) refl ascend.0 (λ h o. both_of number p q batches ascend.1 h o) has other

-- an OK of a loaded batch is one of a batch of the same lane
ok_is_loaded : (config : Config) (from to : State) (mine acts : List Act) (channel : ℕ) (batch : OutBatch) (ack : Ack) (error : Option (ℕ × ℕ))
    → ack.error ≡ error → NodeFacts config from mine → batch.channel ≡ channel
    → AckTells config from to ack.batch error → is_ok_for (from.batches ++ []) batch ack ≡ true → batch.id ≤ (kept_of from to channel).highest
ok_is_loaded config from to mine acts channel batch ack (Some error) is node in_lane tells ok =
    absurd (true≢false (sym (and_left (not (is_some ack.error)) (nat_le batch.id ack.batch
    && list_any (λ (other : OutBatch). other.id == ack.batch && same_lane batch other) (from.batches ++ [])) ok) ∙ ap (λ e. not (is_some e)) is))
ok_is_loaded config from to mine acts channel batch ack None is node in_lane tells ok =
    let named : (nat_le batch.id ack.batch && list_any (λ (other : OutBatch). other.id == ack.batch && same_lane batch other) (from.batches ++ [])) ≡ true =
    and_right (not (is_some ack.error)) (nat_le batch.id ack.batch
    && list_any (λ (other : OutBatch). other.id == ack.batch && same_lane batch other) (from.batches ++ [])) ok in
    let both : Both (is_in_lane to.me.id tells.channel) (same_lane batch) =
    both_of ack.batch (is_in_lane to.me.id tells.channel) (same_lane batch) from.batches (ids_ascend config from mine node) tells.has
    (subst (λ bs. list_any (λ (other : OutBatch). other.id == ack.batch && same_lane batch other) bs ≡ true) (append-nil from.batches)
    (and_right (nat_le batch.id ack.batch) (list_any (λ (other : OutBatch). other.id == ack.batch && same_lane batch other) (from.batches ++ [])) named)) in
    at_most batch.id ack.batch (kept_of from to channel).highest
    (from_le batch.id ack.batch (and_left (nat_le batch.id ack.batch) (list_any (λ (other : OutBatch). other.id == ack.batch && same_lane batch other) (from.batches ++ [])) named))
    (subst (λ c. ack.batch ≤ (kept_of from to c).highest)
    (sym (same_number both.batch.channel tells.channel (and_left (both.batch.channel == tells.channel) (bytes_eq both.batch.peer to.me.id) both.first))
    ∙ (sym (same_number batch.channel both.batch.channel (and_left (batch.channel == both.batch.channel) (bytes_eq batch.peer both.batch.peer) both.second)) ∙ in_lane))
    tells.most)

-- what acks made OK was so before, or is loaded
oks_loaded : (config : Config) (from to : State) (mine acts : List Act) (channel : ℕ) (batch : OutBatch) (acks : List Ack)
    → NodeFacts config from mine → batch.channel ≡ channel → All (AckOk config from to) acks
    → list_any (is_ok_for (from.batches ++ []) batch) acks ≡ true → batch.id ≤ (kept_of from to channel).highest
oks_loaded config from to mine acts channel batch [] node in_lane are is = absurd (true≢false (sym is))
oks_loaded config from to mine acts channel batch (ack ∷ acks) node in_lane are is =
    or_cases (is_ok_for (from.batches ++ []) batch ack) (list_any (is_ok_for (from.batches ++ []) batch) acks) is
    (λ here. ok_is_loaded config from to mine acts channel batch ack ack.error refl node in_lane (all_head (AckOk config from to) ack acks are) here)
    (λ rest. oks_loaded config from to mine acts channel batch acks node in_lane (all_tail (AckOk config from to) ack acks are) rest)

no_error_acks : (acks : List Ack) (before : Standing) → is_acked (last_error acks before) ≡ true → is_acked before ≡ true
no_error_acks [] before is = is
no_error_acks (ack ∷ acks) before is = not_erred ack.error is
  where
    not_erred : (error : Option (ℕ × ℕ)) → is_acked (erred_by error before) ≡ true → is_acked before ≡ true
    not_erred None acked = acked
    not_erred (Some error) acked = absurd (true≢false (sym acked))

acked_by : (batch : OutBatch) (oks : Bool) (errors : List Ack) (before : Standing) → is_acked (cond (is_acked before || oks) standing.Acked (last_error errors before)) ≡ true
    → Either (is_acked before ≡ true) (oks ≡ true)
acked_by batch true errors before is = right refl
acked_by batch false errors before is = left (acked_on (is_acked before) refl is)
  where
    acked_on : (b : Bool) → is_acked before ≡ b → is_acked (cond (b || false) standing.Acked (last_error errors before)) ≡ true → is_acked before ≡ true
    acked_on true acked told = acked
    acked_on false acked told = no_error_acks errors before told

told_next : (all : List OutBatch) (act : Act) (highest number : ℕ) (batches : List OutBatch) → IsNext highest batches number
    → IsNext highest (map (with_standing all (act ∷ [])) batches) number
told_next all act highest number batches is = record {
  more = is.more;
  has = any_map (λ (batch : OutBatch). batch.id == number) (with_standing all (act ∷ [])) batches ∙ is.has;
  next = map_all (λ (batch : OutBatch). Either (batch.id ≤ highest) (number ≤ batch.id)) (with_standing all (act ∷ [])) batches is.next;
}

told_error : (all : List OutBatch) (act : Act) (highest : ℕ) (batches : List OutBatch) (error : Option LaneError) → ErrorOk highest batches error
    → ErrorOk highest (map (with_standing all (act ∷ [])) batches) error
told_error all act highest batches None is = is
told_error all act highest batches (Some error) is = told_next all act highest error.batch batches is

-- acks of the receiver are sound; those of others say nothing of the lane
pub by_acks : (config : Config) (from to : State) (mine acts : List Act) (peer : List ℕ) (acks : List Ack) (channel : ℕ)
    → (bytes_eq peer to.me.id ≡ true → All (AckOk config from to) acks)
    → NodeFacts config from mine → LaneFacts config from to acts channel → LaneFacts config (state_after config from (Acked peer acks)) to acts channel
by_acks config from to mine acts peer acks channel sound node before =
    let act : Act = Acked peer acks in
    let all : List OutBatch = from.batches ++ [] in
    let told : OutBatch → OutBatch = with_standing all (act ∷ []) in
    let highest : ℕ = (kept_of from to channel).highest in
    let old : List OutBatch = made from to channel in
    let now : List OutBatch = made (state_after config from act) to channel in
    let same : now ≡ map told old = ap (λ bs. filter (is_in_lane to.me.id channel) (map told bs)) (append-nil from.batches)
    ∙ filter_through (is_in_lane to.me.id channel) told from.batches (λ batch. refl) in
    record {
      loads = before.loads
          ∙ (map_same (read config from to) (λ (batch : OutBatch). read config (state_after config from act) to (told batch)) (filter (upto highest) old)
          (mapped (GoesOut from) (λ (batch : OutBatch). read config from to batch ≡ read config (state_after config from act) to (told batch)) (filter (upto highest) old)
          (λ batch out. sym (read_same config from to act batch tt out))
          (filter_all (GoesOut from) (upto highest) old (filter_all (GoesOut from) (is_in_lane to.me.id channel) from.batches node.batches)))
          ∙ (sym (map_twice (read config (state_after config from act) to) told (filter (upto highest) old))
          ∙ ap (map (read config (state_after config from act) to))
          (sym (ap (filter (upto highest)) same ∙ filter_through (upto highest) told old (λ batch. refl)))));
      acked = subst (All (AckedOk highest)) (sym same)
          (map_all (AckedOk highest) told old (in_all (λ (batch : OutBatch). AckedOk highest (told batch)) old
          (λ batch is. acked_on batch (all_in (AckedOk highest) batch old before.acked is)
          (all_in (λ (b : OutBatch). is_in_lane to.me.id channel b ≡ true) batch old (passes (is_in_lane to.me.id channel) from.batches) is))));
      least = at_most highest from.counts.last_batch (state_after config from act).counts.last_batch before.least (last_batch_rises config from act);
      error = subst (λ bs. ErrorOk highest bs (kept_of from to channel).error) (sym same)
          (told_error all act highest old (kept_of from to channel).error before.error);
    }
  where
    given : (batch : OutBatch) → is_in_lane to.me.id channel batch ≡ true → batch.channel ≡ channel
    given batch is = same_number batch.channel channel (and_left (batch.channel == channel) (bytes_eq batch.peer to.me.id) is)

    oks_on : (batch : OutBatch) (b : Bool) → bytes_eq peer batch.peer ≡ b → is_in_lane to.me.id channel batch ≡ true
        → list_any (is_ok_for (from.batches ++ []) batch) (cond b acks [] ++ []) ≡ true → batch.id ≤ (kept_of from to channel).highest
    oks_on batch true same is oks =
        oks_loaded config from to mine acts channel batch acks node (given batch is)
        (sound (ap (λ p. bytes_eq peer p) (sym (equal batch.peer to.me.id (and_right (batch.channel == channel) (bytes_eq batch.peer to.me.id) is))) ∙ same))
        (subst (λ l. list_any (is_ok_for (from.batches ++ []) batch) l ≡ true) (append-nil acks) oks)
    oks_on batch false same is oks = absurd (true≢false (sym oks))

    by_case : (batch : OutBatch) → AckedOk (kept_of from to channel).highest batch → is_in_lane to.me.id channel batch ≡ true
        → Either (is_acked batch.standing ≡ true) (list_any (is_ok_for (from.batches ++ []) batch) (acks_in batch.peer (Acked peer acks) ++ []) ≡ true)
        → batch.id ≤ (kept_of from to channel).highest
    by_case batch ok is (left acked) = ok acked
    by_case batch ok is (right oks) = oks_on batch (bytes_eq peer batch.peer) refl is oks

    acked_on : (batch : OutBatch) → AckedOk (kept_of from to channel).highest batch → is_in_lane to.me.id channel batch ≡ true
        → AckedOk (kept_of from to channel).highest (with_standing (from.batches ++ []) (Acked peer acks ∷ []) batch)
    acked_on batch ok is acked =
        by_case batch ok is (acked_by batch (list_any (is_ok_for (from.batches ++ []) batch) (acks_in batch.peer (Acked peer acks) ++ []))
        (filter (is_error_of batch) (acks_in batch.peer (Acked peer acks) ++ [])) batch.standing acked)

-- THE RECEIVER'S ACTS. Where a peer isn't kept nothing was loaded of it
pub none_loaded : (config : Config) (to : State) (from : List ℕ) (channel : ℕ) (acts : List Act) → is_some (kept_peer to.peers from) ≡ false
    → All (Came config to) acts → loads_of from channel acts ≡ []
none_loaded config to from channel [] none came = refl
none_loaded config to from channel (act ∷ acts) none came =
    ap (λ ps. ps ++ load_in from channel act) (none_loaded config to from channel acts none (all_tail (Came config to) act acts came))
    ∙ not_this act (all_head (Came config to) act acts came)
  where
    not_on : (place : ℕ) (batch : Prepared) (a b : Bool) → bytes_eq batch.from from ≡ b → IsKept to.peers batch.from
        → cond (a && b) (batch ∷ []) [] ≡ []
    not_on place batch true true same kept = absurd (true≢false (sym kept ∙ (ap (λ i. is_some (kept_peer to.peers i)) (equal batch.from from same) ∙ none)))
    not_on place batch true false same kept = refl
    not_on place batch false b same kept = refl

    not_this : (a : Act) → Came config to a → load_in from channel a ≡ []
    not_this (Loaded place batch) is = not_on place batch (place == channel) (bytes_eq batch.from from) refl is.0
    not_this (Opened group external token) is = refl
    not_this (Joined kept) is = refl
    not_this (Confirmed peer) is = refl
    not_this (Wrote writer number rows) is = refl
    not_this Routed is = refl
    not_this (Erred peer place error) is = refl
    not_this (Acked peer acks) is = refl

no_items : {X Y : Type 0} (f : X → Y) (xs : List X) → [] ≡ map f xs → xs ≡ []
no_items f [] same = refl
no_items f (x ∷ xs) same = absurd (true≢false (sym (ap (λ l. elim l [ [] ↦ false | y ∷ ys ↦ true ]) same)))

-- an act of the receiver that loads nothing of the lane and says nothing of it
pub by_receiver : (config : Config) (from to : State) (acts : List Act) (act : Act) (channel : ℕ) → Suits config to act
    → load_in from.me.id channel act ≡ [] → kept_of from (state_after config to act) channel ≡ kept_of from to channel
    → NodeFacts config to acts → LaneFacts config from to acts channel → LaneFacts config from (state_after config to act) (act ∷ acts) channel
by_receiver config from to acts act channel suits nothing same node before =
    let highest : ℕ = (kept_of from to channel).highest in
    let firsts : List OutBatch = filter (upto highest) (made from to channel) in
    record {
      loads = ap (λ ps. loads_of from.me.id channel acts ++ ps) nothing ∙ (append-nil (loads_of from.me.id channel acts)
          ∙ (before.loads ∙ (read_again (kept_peer to.peers from.me.id) refl
          ∙ ap (λ (lane : LaneIn). map (read config from (state_after config to act)) (filter (upto lane.highest) (made from to channel))) (sym same))));
      acked = subst (λ (lane : LaneIn). All (AckedOk lane.highest) (made from to channel)) (sym same) before.acked;
      least = subst (λ (lane : LaneIn). lane.highest ≤ from.counts.last_batch) (sym same) before.least;
      error = subst (λ (lane : LaneIn). ErrorOk lane.highest (made from to channel) lane.error) (sym same) before.error;
    }
  where
    read_again : (found : Option KeptPeer) → kept_peer to.peers from.me.id ≡ found
        → map (read config from to) (filter (upto (kept_of from to channel).highest) (made from to channel))
        ≡ map (read config from (state_after config to act)) (filter (upto (kept_of from to channel).highest) (made from to channel))
    read_again None is =
        let none : filter (upto (kept_of from to channel).highest) (made from to channel) ≡ [] =
        no_items (read config from to) (filter (upto (kept_of from to channel).highest) (made from to channel))
        (sym (none_loaded config to from.me.id channel acts (ap is_some is) node.loads) ∙ before.loads) in
        ap (map (read config from to)) none ∙ ap (map (read config from (state_after config to act))) (sym none)
    read_again (Some p) is =
        map_same (read config from to) (read config from (state_after config to act)) (filter (upto (kept_of from to channel).highest) (made from to channel))
        (in_all (λ (batch : OutBatch). read config from to batch ≡ read config from (state_after config to act) batch)
        (filter (upto (kept_of from to channel).highest) (made from to channel))
        (λ batch b. ap (λ (k : Option KeptPeer). prepared_batch config (record {
          source = from.me.id;
          source_group = option_map_or (λ (kept : KeptPeer). kept.peer.group) k [];
          target = to.me.id;
          target_group = to.me.group;
        }) (doc_of_batch config from batch)) (is ∙ sym (kept_stays config to act from.me.id p (joins_of config to act suits) is))))

-- A LOAD. The record of the lane is found
lane_passes : (lane : LaneIn) (from : List ℕ) (channel : ℕ) → is_lane from channel lane ≡ true → (lane.peer ≡ from) × (lane.channel ≡ channel)
lane_passes lane from channel is = (
  equal lane.peer from (and_right (lane.channel == channel) (bytes_eq lane.peer from) is),
  same_number lane.channel channel (and_left (lane.channel == channel) (bytes_eq lane.peer from) is),
)

is_of_lane : (lane : LaneIn) (from : List ℕ) (channel : ℕ) → lane.peer ≡ from → lane.channel ≡ channel → is_lane from channel lane ≡ true
is_of_lane lane from channel peer place =
    and_both (lane.channel == channel) (bytes_eq lane.peer from) (ap (λ c. c == channel) place ∙ equal_itself channel)
    (ap (λ p. bytes_eq p from) peer ∙ itself from)

key_of_lane : (config : Config) (a b : LaneIn) → a.peer ≡ b.peer → a.channel ≡ b.channel → lane_key config a ≡ lane_key config b
key_of_lane config a b peer channel =
    ap (λ p. lane_key config (record a { peer = p })) peer ∙ ap (λ c. lane_key config (record a { peer = b.peer; channel = c })) channel

pub found_lane : (config : Config) (lanes : List LaneIn) (new : LaneIn) → lane_of (with_item (lane_key config) new lanes) new.peer new.channel ≡ new
found_lane config lanes new =
    ap (λ (found : Option LaneIn). unwrap_or found (empty_lane new.peer new.channel))
    (new_found (lane_key config) (is_lane new.peer new.channel) new lanes (is_of_lane new new.peer new.channel refl refl)
    (λ item is. let passed = lane_passes item new.peer new.channel is in key_of_lane config item new passed.0 passed.1))

-- and any other lane as before
pub other_lane : (config : Config) (lanes : List LaneIn) (new : LaneIn) (peer : List ℕ) (channel : ℕ) → IsSound config → new.channel < length config.channels
    → channel < length config.channels → ((new.peer ≡ peer) → (new.channel ≡ channel) → ⊥)
    → lane_of (with_item (lane_key config) new lanes) peer channel ≡ lane_of lanes peer channel
other_lane config lanes new peer channel sound first second isnt =
    ap (λ (found : Option LaneIn). unwrap_or found (empty_lane peer channel))
    (other_found (lane_key config) (is_lane peer channel) new lanes (lane_key config (empty_lane peer channel))
    (λ same. let both = one_lane config new.peer peer new.channel channel sound first second same in isnt both.0 both.1)
    (fails (is_lane peer channel new) refl)
    (λ item is. let passed = lane_passes item peer channel is in key_of_lane config item (empty_lane peer channel) passed.0 passed.1))
  where
    fails : (b : Bool) → is_lane peer channel new ≡ b → b ≡ false
    fails true is = let passed = lane_passes new peer channel is in absurd (isnt passed.0 passed.1)
    fails false is = refl

-- what is kept of a lane is of that lane
pub lane_is : (lanes : List LaneIn) (peer : List ℕ) (channel : ℕ) → ((lane_of lanes peer channel).peer ≡ peer) × ((lane_of lanes peer channel).channel ≡ channel)
lane_is lanes peer channel = on (find (is_lane peer channel) lanes) refl
  where
    on : (found : Option LaneIn) → find (is_lane peer channel) lanes ≡ found
        → ((unwrap_or found (empty_lane peer channel)).peer ≡ peer) × ((unwrap_or found (empty_lane peer channel)).channel ≡ channel)
    on None is = (refl, refl)
    on (Some lane) is = lane_passes lane peer channel (find_passes (is_lane peer channel) lanes lane is)

pub found_error : (config : Config) (lanes : List LaneIn) (peer : List ℕ) (channel : ℕ) (error : LaneError)
    → lane_of (with_item (lane_key config) (record (lane_of lanes peer channel) { error = Some error }) lanes) peer channel
    ≡ record (lane_of lanes peer channel) { error = Some error }
found_error config lanes peer channel error =
    let new : LaneIn = record (lane_of lanes peer channel) { error = Some error } in
    let is = lane_is lanes peer channel in
    ap (λ p. lane_of (with_item (lane_key config) new lanes) p channel) (sym is.0)
    ∙ (ap (λ c. lane_of (with_item (lane_key config) new lanes) new.peer c) (sym is.1) ∙ found_lane config lanes new)

pub other_error : (config : Config) (lanes : List LaneIn) (peer : List ℕ) (place : ℕ) (error : LaneError) (other : List ℕ) (channel : ℕ) → IsSound config
    → place < length config.channels → channel < length config.channels → ((peer ≡ other) → (place ≡ channel) → ⊥)
    → lane_of (with_item (lane_key config) (record (lane_of lanes peer place) { error = Some error }) lanes) other channel ≡ lane_of lanes other channel
other_error config lanes peer place error other channel sound first second isnt =
    let is = lane_is lanes peer place in
    other_lane config lanes (record (lane_of lanes peer place) { error = Some error }) other channel sound
    (subst (λ c. c < length config.channels) (sym is.1) first) second (λ p c. isnt (sym is.0 ∙ p) (sym is.1 ∙ c))

-- the next batch comes after those that are loaded
abbrev BatchId : OutBatch → ℕ
BatchId batch = batch.id

keep_head : (test : Bool) (batch : OutBatch) (batches others : List OutBatch) → test ≡ true → cond test (batch ∷ batches) batches ≡ batch ∷ batches
keep_head test batch batches others is = ap (λ b. cond b (batch ∷ batches) batches) is

drop_head : (test : Bool) (batch : OutBatch) (batches : List OutBatch) → test ≡ false → cond test (batch ∷ batches) batches ≡ batches
drop_head test batch batches is = ap (λ b. cond b (batch ∷ batches) batches) is

nothing_upto : (highest number : ℕ) (batches : List OutBatch) → highest ≤ number → All (λ (b : OutBatch). number < b.id) batches → filter (upto highest) batches ≡ []
nothing_upto highest number batches less above = none_upto highest number batches less above

one_more : (highest : ℕ) (batch : OutBatch) (batches : List OutBatch) → Ascending BatchId batches → In batch batches → highest < batch.id
    → All (λ (b : OutBatch). Either (b.id ≤ highest) (batch.id ≤ b.id)) batches
    → filter (upto batch.id) batches ≡ filter (upto highest) batches ++ batch ∷ []
one_more highest batch [] ascend is more next = absurd is
one_more highest batch (other ∷ batches) ascend (left same) more next =
    keep_head (upto batch.id other) other (filter (upto batch.id) batches) [] (is_le other.id batch.id (equal_most (ap BatchId (sym same))))
    ∙ (ap (λ bs. other ∷ bs) (nothing_upto batch.id other.id batches (equal_most (ap BatchId same)) ascend.0)
    ∙ (ap (λ b. b ∷ []) (sym same)
    ∙ sym (ap (λ bs. bs ++ batch ∷ []) (drop_head (upto highest other) other (filter (upto highest) batches) (not_le other.id highest (subst (λ n. highest < n) (ap BatchId same) more))
    ∙ nothing_upto highest other.id batches (below (subst (λ n. highest < n) (ap BatchId same) more)) ascend.0))))
  where
    equal_most : {a b : ℕ} → a ≡ b → a ≤ b
    equal_most {a} is = omega (arith, is)

    below : {a b : ℕ} → a < b → a ≤ b
    below {a} less = omega (arith, less)
one_more highest batch (other ∷ batches) ascend (right is) more next =
    let less : other.id < batch.id = all_in (λ (b : OutBatch). other.id < b.id) batch batches ascend.0 is in
    let loaded : other.id ≤ highest = settled (all_head (λ (b : OutBatch). Either (b.id ≤ highest) (batch.id ≤ b.id)) other batches next) less in
    keep_head (upto batch.id other) other (filter (upto batch.id) batches) [] (is_le other.id batch.id (below less))
    ∙ (ap (λ bs. other ∷ bs) (one_more highest batch batches ascend.1 is more (all_tail (λ (b : OutBatch). Either (b.id ≤ highest) (batch.id ≤ b.id)) other batches next))
    ∙ sym (ap (λ bs. bs ++ batch ∷ []) (keep_head (upto highest other) other (filter (upto highest) batches) [] (is_le other.id highest loaded))))
  where
    below : {a b : ℕ} → a < b → a ≤ b
    below {a} less = omega (arith, less)

    settled : {a h n : ℕ} → Either (a ≤ h) (n ≤ a) → a < n → a ≤ h
    settled (left is) less = is
    settled {a} (right past) less = absurd (omega (arith, past, less))

-- the next batch of a lane is loaded, or ignored
pub by_load : (config : Config) (from to : State) (mine acts : List Act) (channel : ℕ) (batch : OutBatch) → IsSound config → channel < length config.channels
    → NodeFacts config from mine → In batch (made from to channel) → IsNext (kept_of from to channel).highest (made from to channel) batch.id
    → LaneFacts config from to acts channel
    → LaneFacts config from (state_after config to (Loaded channel (read config from to batch))) (Loaded channel (read config from to batch) ∷ acts) channel
by_load config from to mine acts channel batch sound within node is next before =
    let act : Act = Loaded channel (read config from to batch) in
    let after : State = state_after config to act in
    let highest : ℕ = (kept_of from to channel).highest in
    let same : kept_of from after channel ≡ record {
      peer = from.me.id;
      channel = channel;
      highest = batch.id;
      ignored = Some (is_ignored (run_after config to [] act).end);
      error = None;
    } = found_lane config to.lanes (record {
      peer = from.me.id;
      channel = channel;
      highest = batch.id;
      ignored = Some (is_ignored (run_after config to [] act).end);
      error = None;
    }) in
    let ascend : Ascending BatchId (made from to channel) = ascending_filter BatchId (is_in_lane to.me.id channel) from.batches (ids_ascend config from mine node) in
    record {
      loads = ap (λ ps. loads_of from.me.id channel acts ++ ps) (loads_it channel from.me.id (read config from to batch) refl)
          ∙ (ap (λ ps. ps ++ read config from to batch ∷ []) before.loads
          ∙ (sym (map-append (read config from to) (filter (upto highest) (made from to channel)) (batch ∷ []))
          ∙ (ap (map (read config from to)) (sym (one_more highest batch (made from to channel) ascend is next.more next.next))
          ∙ ap (λ (lane : LaneIn). map (read config from to) (filter (upto lane.highest) (made from to channel))) (sym same))));
      acked = subst (λ (lane : LaneIn). All (AckedOk lane.highest) (made from to channel)) (sym same)
          (mapped (AckedOk highest) (AckedOk batch.id) (made from to channel) (λ other ok acked. below other.id highest batch.id (ok acked) next.more) before.acked);
      least = subst (λ (lane : LaneIn). lane.highest ≤ from.counts.last_batch) (sym same)
          (all_in (λ (b : OutBatch). b.id ≤ from.counts.last_batch) batch from.batches (ids_within config from mine node)
          (in_filter (is_in_lane to.me.id channel) batch from.batches is));
      error = subst (λ (lane : LaneIn). ErrorOk lane.highest (made from to channel) lane.error) (sym same) tt;
    }
  where
    below : (a h n : ℕ) → a ≤ h → h < n → a ≤ n
    below a h n most less = omega (arith, most, less)

    loads_it : (place : ℕ) (id : List ℕ) (new : Prepared) → new.from ≡ id → load_in id place (Loaded place new) ≡ new ∷ []
    loads_it place id new same = ap (λ b. cond b (new ∷ []) []) (and_both (place == place) (bytes_eq new.from id) (equal_itself place) (ap (λ p. bytes_eq p id) same ∙ itself id))

-- it breaks a rule
pub by_error : (config : Config) (from to : State) (acts : List Act) (channel : ℕ) (error : LaneError)
    → IsNext (kept_of from to channel).highest (made from to channel) error.batch → IsKept to.peers from.me.id
    → NodeFacts config to acts → LaneFacts config from to acts channel
    → LaneFacts config from (state_after config to (Erred from.me.id channel error)) (Erred from.me.id channel error ∷ acts) channel
by_error config from to acts channel error next kept node before =
    let same : kept_of from (state_after config to (Erred from.me.id channel error)) channel ≡ record (kept_of from to channel) { error = Some error } =
    found_error config to.lanes from.me.id channel error in
    record {
      loads = append-nil (loads_of from.me.id channel acts) ∙ (before.loads
          ∙ ap (λ (lane : LaneIn). map (read config from to) (filter (upto lane.highest) (made from to channel))) (sym same));
      acked = subst (λ (lane : LaneIn). All (AckedOk lane.highest) (made from to channel)) (sym same) before.acked;
      least = subst (λ (lane : LaneIn). lane.highest ≤ from.counts.last_batch) (sym same) before.least;
      error = subst (λ (lane : LaneIn). ErrorOk lane.highest (made from to channel) lane.error) (sym same) next;
    }

-- loads and errors of other lanes
load_elsewhere : (place channel : ℕ) (from : List ℕ) (batch : Prepared) → ((batch.from ≡ from) → (place ≡ channel) → ⊥) → load_in from channel (Loaded place batch) ≡ []
load_elsewhere place channel from batch isnt = ap (λ b. cond b (batch ∷ []) []) (fails (place == channel && bytes_eq batch.from from) refl)
  where
    fails : (b : Bool) → (place == channel && bytes_eq batch.from from) ≡ b → b ≡ false
    fails true is = absurd (isnt (equal batch.from from (and_right (place == channel) (bytes_eq batch.from from) is))
        (same_number place channel (and_left (place == channel) (bytes_eq batch.from from) is)))
    fails false is = refl

pub by_other_load : (config : Config) (from to : State) (acts : List Act) (place channel : ℕ) (batch : Prepared) → IsSound config
    → Suits config to (Loaded place batch) → channel < length config.channels → ((batch.from ≡ from.me.id) → (place ≡ channel) → ⊥)
    → NodeFacts config to acts → LaneFacts config from to acts channel
    → LaneFacts config from (state_after config to (Loaded place batch)) (Loaded place batch ∷ acts) channel
by_other_load config from to acts place channel batch sound suits within isnt node before =
    by_receiver config from to acts (Loaded place batch) channel suits (load_elsewhere place channel from.me.id batch isnt)
    (other_lane config to.lanes (record {
      peer = batch.from;
      channel = place;
      highest = batch.batch;
      ignored = Some (is_ignored (run_after config to [] (Loaded place batch)).end);
      error = None;
    }) from.me.id channel sound suits.1 within isnt) node before

pub by_other_error : (config : Config) (from to : State) (acts : List Act) (peer : List ℕ) (place channel : ℕ) (error : LaneError) → IsSound config
    → Suits config to (Erred peer place error) → place < length config.channels → channel < length config.channels → ((peer ≡ from.me.id) → (place ≡ channel) → ⊥)
    → NodeFacts config to acts → LaneFacts config from to acts channel
    → LaneFacts config from (state_after config to (Erred peer place error)) (Erred peer place error ∷ acts) channel
by_other_error config from to acts peer place channel error sound suits first second isnt node before =
    by_receiver config from to acts (Erred peer place error) channel suits refl
    (other_error config to.lanes peer place error from.me.id channel sound first second isnt) node before
