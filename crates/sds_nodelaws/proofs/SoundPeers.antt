-- The peers, openings, writers and lanes of a sound state after an act.
use Rattle.std.proofs.Common.{◌≡◌, ℕ, ◌+◌, ◌<◌, ◌≤◌, Bool, true, false, cond, List, [], length, Option, None, Some, refl, sym, ap, subst, ◌∙◌, arith, true≢false, find, not, ◌&&◌, All, AllPairs}
use Rattle.std.specs.List.{list_all}
use Rattle.std.specs.Option.{option_map_or}
use Rattle.std.specs.Prelude.{is_some, nat_le, nat_lt, unwrap_or}
use Rattle.std.specs.Str.{bytes_eq}
use Rattle.std.proofs.lemmas.List.Sums.{AllPass-from_list_all, list_all-from_AllPass}
use Rattle.sds_value.specs.Names.{is_name_text}
use Rattle.sds_value.specs.declared.row.Peer.{Peer}
use Rattle.sds_types.specs.Limits.{most_count, most_peers}
use Rattle.sds_types.specs.declared.config.Config.{Config}
use Rattle.sds_types.specs.declared.counts.Counts.{Counts}
use Rattle.sds_types.specs.declared.counts.WriterLast.{WriterLast}
use Rattle.sds_types.specs.declared.lane.LaneError.{LaneError}
use Rattle.sds_types.specs.declared.lane.LaneIn.{LaneIn}
use Rattle.sds_types.specs.declared.peer.KeptPeer.{KeptPeer}
use Rattle.sds_types.specs.declared.registration.Opening.{Opening}
use Rattle.sds_types.specs.declared.registration.Stage.{Stage}
use Rattle.sds_types.specs.declared.registration.Stage.TheVariants.{Waiting, Given, Closed}
use Rattle.sds_history.specs.history.Acts.{Act, State}
use Rattle.sds_history.specs.history.Acts.Act.{Opened, Joined, Confirmed, Wrote, Routed, Loaded, Erred, Acked}
use Rattle.sds_history.specs.history.Changes.{run_after}
use Rattle.sds_history.specs.history.Lanes.{empty_lane, is_ignored, is_lane, lane_key, lane_of}
use Rattle.sds_history.specs.history.Openings.{closed_for, closed_stage, given_if, given_to, is_opening_of, opening_key, went_to}
use Rattle.sds_history.specs.history.Orders.{is_before, pair_key}
use Rattle.sds_history.specs.history.Peers.{kept_peer, peer_key}
use Rattle.sds_history.specs.history.Runs.{captured_in, last_change_after}
use Rattle.sds_history.specs.history.SoundParts.{AscendBy, error_is_within, is_kept_peer, is_lane_of, is_opening}
use Rattle.sds_history.specs.history.SoundStates.{are_apart, error_is_later, is_counted_writer, is_peer_of, is_sound_lane, node_given, stage_stands}
use Rattle.sds_history.specs.history.States.{state_after}
use Rattle.sds_history.specs.history.Writers.{writer_key}
use Rattle.sds_nodelaws.proofs.Due.{Due, joins}
use Rattle.sds_nodelaws.proofs.Held.{mapped}
use Rattle.sds_nodelaws.proofs.Items.{differs, equal, itself, new_item}
use Rattle.sds_nodelaws.proofs.KeyedLists.{item_all, item_ascends, item_length, keys_stay, never_before_itself, pairs_both, pairs_item, pairs_mapped}
use Rattle.sds_nodelaws.proofs.Lists.{and_both, and_left, and_right, find_all, from_le, is_le, is_lt_test, map_all}
use Rattle.sds_nodelaws.proofs.NodeFacts.{IsKept, JoinsNew, still_kept}

-- PEERS
pub peers_ascend : (config : Config) (state : State) (act : Act) → AscendBy peer_key state.peers → AscendBy peer_key (state_after config state act).peers
peers_ascend config state (Joined kept) are = item_ascends peer_key kept state.peers are
peers_ascend config state (Opened group external token) are = are
peers_ascend config state (Confirmed peer) are = are
peers_ascend config state (Wrote writer number rows) are = are
peers_ascend config state Routed are = are
peers_ascend config state (Loaded channel batch) are = are
peers_ascend config state (Erred from channel error) are = are
peers_ascend config state (Acked from acks) are = are

pub peers_fit : (config : Config) (state : State) (act : Act) → Due config state act → list_all (is_kept_peer config) state.peers ≡ true
    → list_all (is_kept_peer config) (state_after config state act).peers ≡ true
peers_fit config state (Joined kept) due are =
    list_all-from_AllPass (is_kept_peer config) (state_after config state (Joined kept)).peers
    (item_all (λ (k : KeptPeer). is_kept_peer config k ≡ true) peer_key kept state.peers due.0 (AllPass-from_list_all (is_kept_peer config) state.peers are))
peers_fit config state (Opened group external token) due are = are
peers_fit config state (Confirmed peer) due are = are
peers_fit config state (Wrote writer number rows) due are = are
peers_fit config state Routed due are = are
peers_fit config state (Loaded channel batch) due are = are
peers_fit config state (Erred from channel error) due are = are
peers_fit config state (Acked from acks) due are = are

pub peers_few : (config : Config) (state : State) (act : Act) → Due config state act → length state.peers ≤ most_peers
    → length (state_after config state act).peers ≤ most_peers
peers_few config state (Joined kept) due few = at_last (item_length peer_key kept state.peers) due.1.few
  where
    at_last : {a b c : ℕ} → a ≤ b → b ≤ c → a ≤ c
    at_last {a} {b} {c} first second = omega (arith, first, second)
peers_few config state (Opened group external token) due few = few
peers_few config state (Confirmed peer) due few = few
peers_few config state (Wrote writer number rows) due few = few
peers_few config state Routed due few = few
peers_few config state (Loaded channel batch) due few = few
peers_few config state (Erred from channel error) due few = few
peers_few config state (Acked from acks) due few = few

-- OPENINGS. One that is given to a peer, or isn't its own
given_case : (P : Opening → Type 0) (peer : Peer) (opening : Opening)
    → (is_opening_of peer opening ≡ true → P (record opening { stage = Given peer.id })) → (is_opening_of peer opening ≡ false → P opening)
    → P (given_to peer opening)
given_case P peer opening own another = on (is_opening_of peer opening) refl
  where
    on : (b : Bool) → is_opening_of peer opening ≡ b → P (cond b (record opening { stage = Given peer.id }) opening)
    on true is = own is
    on false is = another is

given_key : (peer : Peer) (opening : Opening) → opening_key (given_to peer opening) ≡ opening_key opening
given_key peer opening = given_case (λ (o : Opening). opening_key o ≡ opening_key opening) peer opening (λ is. refl) (λ is. refl)

given_all : (P : Opening → Type 0) (child : Bool) (peer : Peer) (openings : List Opening) → All P openings → ((o : Opening) → P o → P (given_to peer o))
    → All P (given_if child peer openings)
given_all P false peer openings are gives = are
given_all P true peer openings are gives =
    map_all P (given_to peer) openings (mapped P (λ (o : Opening). P (given_to peer o)) openings (λ o is. gives o is) are)

pub openings_ascend : (config : Config) (state : State) (act : Act) → AscendBy opening_key state.openings
    → AscendBy opening_key (state_after config state act).openings
openings_ascend config state (Opened group external token) are =
    item_ascends opening_key (record { group = group; external = external; token = token; stage = Waiting }) state.openings are
openings_ascend config state (Joined kept) are = on kept.child
  where
    on : (child : Bool) → AscendBy opening_key (given_if child kept.peer state.openings)
    on true = keys_stay opening_key (given_to kept.peer) state.openings (given_key kept.peer) are
    on false = are
openings_ascend config state (Confirmed peer) are = keys_stay opening_key (closed_for peer) state.openings (λ o. refl) are
openings_ascend config state (Wrote writer number rows) are = are
openings_ascend config state Routed are = are
openings_ascend config state (Loaded channel batch) are = are
openings_ascend config state (Erred from channel error) are = are
openings_ascend config state (Acked from acks) are = are

pub openings_fit : (config : Config) (state : State) (act : Act) → Due config state act → list_all (is_opening config) state.openings ≡ true
    → list_all (is_opening config) (state_after config state act).openings ≡ true
openings_fit config state act due are =
    list_all-from_AllPass (is_opening config) (state_after config state act).openings (all_fit act due (AllPass-from_list_all (is_opening config) state.openings are))
  where
    all_fit : (a : Act) → Due config state a → All (λ (o : Opening). is_opening config o ≡ true) state.openings
        → All (λ (o : Opening). is_opening config o ≡ true) (state_after config state a).openings
    all_fit (Opened group external token) due each =
        item_all (λ (o : Opening). is_opening config o ≡ true) opening_key
        (record { group = group; external = external; token = token; stage = Waiting }) state.openings due each
    all_fit (Joined kept) due each =
        given_all (λ (o : Opening). is_opening config o ≡ true) kept.child kept.peer state.openings each
        (λ o is. given_case (λ (p : Opening). is_opening config p ≡ true) kept.peer o (λ _. is) (λ _. is))
    all_fit (Confirmed peer) due each = map_all (λ (o : Opening). is_opening config o ≡ true) (closed_for peer) state.openings each
    all_fit (Wrote writer number rows) due each = each
    all_fit Routed due each = each
    all_fit (Loaded channel batch) due each = each
    all_fit (Erred from channel error) due each = each
    all_fit (Acked from acks) due each = each

-- STAGES
abbrev StandsIn : State → Opening → Type 0
StandsIn state opening = stage_stands state opening.stage ≡ true

stage_stays : (config : Config) (state : State) (act : Act) (stage : Stage) → JoinsNew state act → stage_stands state stage ≡ true
    → stage_stands (state_after config state act) stage ≡ true
stage_stays config state act Waiting new is = refl
stage_stays config state act (Given node) new is = still_kept config state act node new is
stage_stays config state act (Closed node) new is = still_kept config state act node new is

closed_stands : (state : State) (peer : List ℕ) (stage : Stage) → stage_stands state stage ≡ true → stage_stands state (closed_stage peer stage) ≡ true
closed_stands state peer Waiting is = is
closed_stands state peer (Closed node) is = is
closed_stands state peer (Given node) is = on (bytes_eq node peer)
  where
    on : (b : Bool) → stage_stands state (cond b (Closed node) (Given node)) ≡ true
    on true = is
    on false = is

pub stages_stand : (config : Config) (state : State) (act : Act) → Due config state act → All (StandsIn state) state.openings
    → All (StandsIn (state_after config state act)) (state_after config state act).openings
stages_stand config state act due are =
    all_stand act due (mapped (StandsIn state) (StandsIn (state_after config state act)) state.openings
    (λ o is. stage_stays config state act o.stage (joins config state act due) is) are)
  where
    all_stand : (a : Act) → Due config state a → All (StandsIn (state_after config state a)) state.openings
        → All (StandsIn (state_after config state a)) (state_after config state a).openings
    all_stand (Opened group external token) due each =
        item_all (StandsIn (state_after config state (Opened group external token))) opening_key
        (record { group = group; external = external; token = token; stage = Waiting }) state.openings refl each
    all_stand (Joined kept) due each =
        given_all (StandsIn (state_after config state (Joined kept))) kept.child kept.peer state.openings each
        (λ o is. given_case (StandsIn (state_after config state (Joined kept))) kept.peer o
        (λ _. ap is_some (new_item peer_key kept state.peers)) (λ _. is))
    all_stand (Confirmed peer) due each =
        map_all (StandsIn (state_after config state (Confirmed peer))) (closed_for peer) state.openings
        (mapped (StandsIn (state_after config state (Confirmed peer))) (λ (o : Opening). StandsIn (state_after config state (Confirmed peer)) (closed_for peer o))
        state.openings (λ o is. closed_stands (state_after config state (Confirmed peer)) peer o.stage is) each)
    all_stand (Wrote writer number rows) due each = each
    all_stand Routed due each = each
    all_stand (Loaded channel batch) due each = each
    all_stand (Erred from channel error) due each = each
    all_stand (Acked from acks) due each = each

-- APART. No two openings went to one node
abbrev Apart : Opening → Opening → Type 0
Apart a b = are_apart a b ≡ true

-- the node of a stage that stands isn't a new peer
not_new : (state : State) (new node : List ℕ) → kept_peer state.peers new ≡ None → is_peer_of state node ≡ true → bytes_eq node new ≡ false
not_new state new node none stands = on (bytes_eq node new) refl
  where
    on : (b : Bool) → bytes_eq node new ≡ b → b ≡ false
    on true is = absurd (true≢false (sym stands ∙ (ap (λ (n : List ℕ). is_peer_of state n) (equal node new is) ∙ ap is_some none)))
    on false is = refl

other_way : (a b : List ℕ) → bytes_eq a b ≡ false → bytes_eq b a ≡ false
other_way a b isnt = differs b a (λ same. true≢false (sym (itself a) ∙ (ap (λ (t : List ℕ). bytes_eq a t) (sym same) ∙ isnt)))

went_elsewhere : (state : State) (new : List ℕ) (stage : Stage) → kept_peer state.peers new ≡ None → stage_stands state stage ≡ true → went_to new stage ≡ false
went_elsewhere state new Waiting none stands = refl
went_elsewhere state new (Given node) none stands = not_new state new node none stands
went_elsewhere state new (Closed node) none stands = not_new state new node none stands

given_elsewhere : (state : State) (new : List ℕ) (stage : Stage) → kept_peer state.peers new ≡ None → stage_stands state stage ≡ true
    → option_map_or (λ (node : List ℕ). went_to node (Given new)) (node_given stage) false ≡ false
given_elsewhere state new Waiting none stands = refl
given_elsewhere state new (Given node) none stands = other_way node new (not_new state new node none stands)
given_elsewhere state new (Closed node) none stands = other_way node new (not_new state new node none stands)

none_waits : (stage : Stage) → not (option_map_or (λ (node : List ℕ). went_to node Waiting) (node_given stage) false) ≡ true
none_waits Waiting = refl
none_waits (Given node) = refl
none_waits (Closed node) = refl

closed_given : (peer : List ℕ) (stage : Stage) → node_given (closed_stage peer stage) ≡ node_given stage
closed_given peer Waiting = refl
closed_given peer (Closed node) = refl
closed_given peer (Given node) = on (bytes_eq node peer)
  where
    on : (b : Bool) → node_given (cond b (Closed node) (Given node)) ≡ Some node
    on true = refl
    on false = refl

closed_went : (peer node : List ℕ) (stage : Stage) → went_to node (closed_stage peer stage) ≡ went_to node stage
closed_went peer node Waiting = refl
closed_went peer node (Closed other) = refl
closed_went peer node (Given other) = on (bytes_eq other peer)
  where
    on : (b : Bool) → went_to node (cond b (Closed other) (Given other)) ≡ bytes_eq other node
    on true = refl
    on false = refl

closed_apart : (peer : List ℕ) (a b : Opening) → are_apart (closed_for peer a) (closed_for peer b) ≡ are_apart a b
closed_apart peer a b =
    ap (λ (o : Option (List ℕ)). not (option_map_or (λ (node : List ℕ). went_to node (closed_stage peer b.stage)) o false)) (closed_given peer a.stage)
    ∙ on (node_given a.stage)
  where
    on : (o : Option (List ℕ)) → not (option_map_or (λ (node : List ℕ). went_to node (closed_stage peer b.stage)) o false)
        ≡ not (option_map_or (λ (node : List ℕ). went_to node b.stage) o false)
    on None = refl
    on (Some node) = ap not (closed_went peer node b.stage)

given_apart : (state : State) (peer : Peer) (a b : Opening) → kept_peer state.peers peer.id ≡ None → StandsIn state a → StandsIn state b
    → Apart a b → is_before (opening_key a) (opening_key b) ≡ true → Apart (given_to peer a) (given_to peer b)
given_apart state peer a b none first second apart less =
    given_case (λ (o : Opening). Apart o (given_to peer b)) peer a
    (λ own. given_case (λ (o : Opening). Apart (record a { stage = Given peer.id }) o) peer b
    (λ other. same_key (equal (opening_key a) (pair_key peer.group peer.external) own) (equal (opening_key b) (pair_key peer.group peer.external) other))
    (λ _. ap not (went_elsewhere state peer.id b.stage none second)))
    (λ _. given_case (λ (o : Opening). Apart a o) peer b
    (λ _. ap not (given_elsewhere state peer.id a.stage none first)) (λ _. apart))
  where
    same_key : {G : Type 0} → opening_key a ≡ pair_key peer.group peer.external → opening_key b ≡ pair_key peer.group peer.external → G
    same_key one two =
        never_before_itself (pair_key peer.group peer.external)
        (subst (λ k. is_before k (pair_key peer.group peer.external) ≡ true) one (subst (λ k. is_before (opening_key a) k ≡ true) two less))

pub openings_apart : (config : Config) (state : State) (act : Act) → Due config state act → AscendBy opening_key state.openings → All (StandsIn state) state.openings
    → AllPairs Apart state.openings → AllPairs Apart (state_after config state act).openings
openings_apart config state (Opened group external token) due ascend stand apart =
    pairs_item opening_key Apart (record { group = group; external = external; token = token; stage = Waiting }) state.openings ascend apart
    (λ o. none_waits o.stage) (λ o. refl)
openings_apart config state (Joined kept) due ascend stand apart = on kept.child
  where
    on : (child : Bool) → AllPairs Apart (given_if child kept.peer state.openings)
    on false = apart
    on true =
        pairs_mapped (StandsIn state) (λ (a b : Opening). Apart a b × (is_before (opening_key a) (opening_key b) ≡ true)) Apart (given_to kept.peer) state.openings stand
        (pairs_both Apart (λ (a b : Opening). is_before (opening_key a) (opening_key b) ≡ true) state.openings apart ascend)
        (λ a b first second both. given_apart state kept.peer a b due.1.joins.0 first second both.0 both.1)
openings_apart config state (Confirmed peer) due ascend stand apart =
    pairs_mapped (StandsIn state) Apart Apart (closed_for peer) state.openings stand apart (λ a b first second are. closed_apart peer a b ∙ are)
openings_apart config state (Wrote writer number rows) due ascend stand apart = apart
openings_apart config state Routed due ascend stand apart = apart
openings_apart config state (Loaded channel batch) due ascend stand apart = apart
openings_apart config state (Erred from channel error) due ascend stand apart = apart
openings_apart config state (Acked from acks) due ascend stand apart = apart

-- WRITERS
pub writers_ascend : (config : Config) (state : State) (act : Act) → AscendBy writer_key state.writers → AscendBy writer_key (state_after config state act).writers
writers_ascend config state (Wrote writer number rows) are = item_ascends writer_key (record {
  writer = writer;
  number = number;
  first = last_change_after config state [] + 1;
  count = length (captured_in config state 0 0 (run_after config state [] (Wrote writer number rows)));
}) state.writers are
writers_ascend config state (Opened group external token) are = are
writers_ascend config state (Joined kept) are = are
writers_ascend config state (Confirmed peer) are = are
writers_ascend config state Routed are = are
writers_ascend config state (Loaded channel batch) are = are
writers_ascend config state (Erred from channel error) are = are
writers_ascend config state (Acked from acks) are = are

still_counted : (a b : Counts) (last : WriterLast) → a.acts ≤ b.acts → a.last_change ≤ b.last_change → is_counted_writer a last ≡ true → is_counted_writer b last ≡ true
still_counted a b last acts changes is =
    let numbers : (nat_le last.number a.acts && nat_le (last.first + last.count) (a.last_change + 1)) ≡ true =
    and_right (is_name_text last.writer) (nat_le last.number a.acts && nat_le (last.first + last.count) (a.last_change + 1)) is in
    and_both (is_name_text last.writer) (nat_le last.number b.acts && nat_le (last.first + last.count) (b.last_change + 1))
    (and_left (is_name_text last.writer) (nat_le last.number a.acts && nat_le (last.first + last.count) (a.last_change + 1)) is)
    (and_both (nat_le last.number b.acts) (nat_le (last.first + last.count) (b.last_change + 1))
    (is_le last.number b.acts (below last.number a.acts b.acts
    (from_le last.number a.acts (and_left (nat_le last.number a.acts) (nat_le (last.first + last.count) (a.last_change + 1)) numbers)) acts))
    (is_le (last.first + last.count) (b.last_change + 1) (after (last.first + last.count) a.last_change b.last_change
    (from_le (last.first + last.count) (a.last_change + 1) (and_right (nat_le last.number a.acts) (nat_le (last.first + last.count) (a.last_change + 1)) numbers)) changes)))
  where
    below : (x y z : ℕ) → x ≤ y → y ≤ z → x ≤ z
    below x y z first second = omega (arith, first, second)

    after : (x y z : ℕ) → x ≤ y + 1 → y ≤ z → x ≤ z + 1
    after x y z first second = omega (arith, first, second)

pub writers_count : (config : Config) (state : State) (act : Act) → Due config state act → list_all (is_counted_writer state.counts) state.writers ≡ true
    → list_all (is_counted_writer (state_after config state act).counts) (state_after config state act).writers ≡ true
writers_count config state act due are =
    list_all-from_AllPass (is_counted_writer (state_after config state act).counts) (state_after config state act).writers
    (all_count act due (mapped (λ (l : WriterLast). is_counted_writer state.counts l ≡ true) (λ (l : WriterLast). is_counted_writer (state_after config state act).counts l ≡ true) state.writers
    (λ l is. still_counted state.counts (state_after config state act).counts l (more state.counts.acts 1) (more state.counts.last_change _) is)
    (AllPass-from_list_all (is_counted_writer state.counts) state.writers are)))
  where
    more : (n m : ℕ) → n ≤ n + m
    more n m = omega arith

    counted_to : (last count : ℕ) → last + 0 + 1 + count ≤ last + (0 + count) + 1
    counted_to last count = omega arith

    all_count : (a : Act) → Due config state a
        → All (λ (l : WriterLast). is_counted_writer (state_after config state a).counts l ≡ true) state.writers
        → All (λ (l : WriterLast). is_counted_writer (state_after config state a).counts l ≡ true) (state_after config state a).writers
    all_count (Wrote writer number rows) due each =
        let count : ℕ = length (captured_in config state 0 0 (run_after config state [] (Wrote writer number rows))) in
        item_all (λ (l : WriterLast). is_counted_writer (state_after config state (Wrote writer number rows)).counts l ≡ true) writer_key (record {
          writer = writer;
          number = number;
          first = last_change_after config state [] + 1;
          count = count;
        }) state.writers
        (and_both (is_name_text writer)
        (nat_le number (state.counts.acts + 1) && nat_le (last_change_after config state [] + 1 + count) (state.counts.last_change + (0 + count) + 1)) due.0
        (and_both (nat_le number (state.counts.acts + 1)) (nat_le (last_change_after config state [] + 1 + count) (state.counts.last_change + (0 + count) + 1))
        (is_le number (state.counts.acts + 1) due.1)
        (is_le (last_change_after config state [] + 1 + count) (state.counts.last_change + (0 + count) + 1) (counted_to state.counts.last_change count)))) each
    all_count (Opened group external token) due each = each
    all_count (Joined kept) due each = each
    all_count (Confirmed peer) due each = each
    all_count Routed due each = each
    all_count (Loaded channel batch) due each = each
    all_count (Erred from channel error) due each = each
    all_count (Acked from acks) due each = each

-- LANES
abbrev Sound : Config → State → LaneIn → Type 0
Sound config state lane = is_sound_lane config state lane ≡ true

sound_lane : (config : Config) (state : State) (lane : LaneIn) → lane.channel < length config.channels → lane.highest ≤ most_count → error_is_within lane ≡ true
    → IsKept state.peers lane.peer → error_is_later lane ≡ true → Sound config state lane
sound_lane config state lane there most few kept later =
    and_both (is_lane_of config lane) (is_peer_of state lane.peer && error_is_later lane)
    (and_both _ _ (is_lt_test lane.channel (length config.channels) there)
    (and_both (nat_le lane.highest most_count) (error_is_within lane) (is_le lane.highest most_count most) few))
    (and_both (is_peer_of state lane.peer) (error_is_later lane) kept later)

record Lane (config : Config) (state : State) (lane : LaneIn) : Type 0 where
  fits : is_lane_of config lane ≡ true
  kept : IsKept state.peers lane.peer
  later : error_is_later lane ≡ true

lane_parts : (config : Config) (state : State) (lane : LaneIn) → Sound config state lane → Lane config state lane
lane_parts config state lane is =
    let rest : (is_peer_of state lane.peer && error_is_later lane) ≡ true = and_right (is_lane_of config lane) (is_peer_of state lane.peer && error_is_later lane) is in
    record {
      fits = and_left (is_lane_of config lane) (is_peer_of state lane.peer && error_is_later lane) is;
      kept = and_left (is_peer_of state lane.peer) (error_is_later lane) rest;
      later = and_right (is_peer_of state lane.peer) (error_is_later lane) rest;
    }

lane_stays : (config : Config) (state : State) (act : Act) (lane : LaneIn) → JoinsNew state act → Sound config state lane → Sound config (state_after config state act) lane
lane_stays config state act lane new is =
    let parts = lane_parts config state lane is in
    and_both (is_lane_of config lane) (is_peer_of (state_after config state act) lane.peer && error_is_later lane) parts.fits
    (and_both (is_peer_of (state_after config state act) lane.peer) (error_is_later lane) (still_kept config state act lane.peer new parts.kept) parts.later)

pub lanes_ascend : (config : Config) (state : State) (act : Act) → AscendBy (lane_key config) state.lanes
    → AscendBy (lane_key config) (state_after config state act).lanes
lanes_ascend config state (Loaded channel batch) are = item_ascends (lane_key config) (record {
  peer = batch.from;
  channel = channel;
  highest = batch.batch;
  ignored = Some (is_ignored (run_after config state [] (Loaded channel batch)).end);
  error = None;
}) state.lanes are
lanes_ascend config state (Erred from channel error) are =
    item_ascends (lane_key config) (record (lane_of state.lanes from channel) { error = Some error }) state.lanes are
lanes_ascend config state (Opened group external token) are = are
lanes_ascend config state (Joined kept) are = are
lanes_ascend config state (Confirmed peer) are = are
lanes_ascend config state (Wrote writer number rows) are = are
lanes_ascend config state Routed are = are
lanes_ascend config state (Acked from acks) are = are

-- what is kept of a lane, or that nothing is, but for its error
without_error : (config : Config) (lane : LaneIn) → is_lane_of config lane ≡ true → is_lane_of config (record lane { error = None }) ≡ true
without_error config lane is =
    let numbers = and_right (nat_lt lane.channel (length config.channels)) (nat_le lane.highest most_count && error_is_within lane) is in
    and_both _ _ (and_left (nat_lt lane.channel (length config.channels)) (nat_le lane.highest most_count && error_is_within lane) is)
    (and_both (nat_le lane.highest most_count) true (and_left (nat_le lane.highest most_count) (error_is_within lane) numbers) refl)

with_error : (config : Config) (lane : LaneIn) (error : LaneError) → is_lane_of config (record lane { error = None }) ≡ true → error.batch ≤ most_count
    → is_lane_of config (record lane { error = Some error }) ≡ true
with_error config lane error is few =
    let numbers = and_right (nat_lt lane.channel (length config.channels)) (nat_le lane.highest most_count && true) is in
    and_both _ _ (and_left (nat_lt lane.channel (length config.channels)) (nat_le lane.highest most_count && true) is)
    (and_both (nat_le lane.highest most_count) (nat_le error.batch most_count) (and_left (nat_le lane.highest most_count) true numbers) (is_le error.batch most_count few))

found_lane : (config : Config) (state : State) (from : List ℕ) (channel : ℕ) → IsKept state.peers from → channel < length config.channels
    → All (Sound config state) state.lanes → Lane config state (record (lane_of state.lanes from channel) { error = None })
found_lane config state from channel kept there are = on (find (is_lane from channel) state.lanes) refl
  where
    zero_most : 0 ≤ most_count
    zero_most = omega arith

    on : (found : Option LaneIn) → find (is_lane from channel) state.lanes ≡ found
        → Lane config state (record (unwrap_or found (empty_lane from channel)) { error = None })
    on None is = record {
      fits = and_both _ _ (is_lt_test channel (length config.channels) there) (and_both (nat_le 0 most_count) true (is_le 0 most_count zero_most) refl);
      kept = kept;
      later = refl;
    }
    on (Some lane) is =
        let parts = lane_parts config state lane (find_all (Sound config state) (is_lane from channel) state.lanes lane are is) in
        record { fits = without_error config lane parts.fits; kept = parts.kept; later = refl }

pub lanes_sound : (config : Config) (state : State) (act : Act) → Due config state act → list_all (is_sound_lane config state) state.lanes ≡ true
    → list_all (is_sound_lane config (state_after config state act)) (state_after config state act).lanes ≡ true
lanes_sound config state act due are =
    list_all-from_AllPass (is_sound_lane config (state_after config state act)) (state_after config state act).lanes
    (all_sound act due (AllPass-from_list_all (is_sound_lane config state) state.lanes are)
    (mapped (Sound config state) (Sound config (state_after config state act)) state.lanes (λ l is. lane_stays config state act l (joins config state act due) is)
    (AllPass-from_list_all (is_sound_lane config state) state.lanes are)))
  where
    all_sound : (a : Act) → Due config state a → All (Sound config state) state.lanes → All (Sound config (state_after config state a)) state.lanes
        → All (Sound config (state_after config state a)) (state_after config state a).lanes
    all_sound (Loaded channel batch) due before each =
        item_all (Sound config (state_after config state (Loaded channel batch))) (lane_key config) (record {
          peer = batch.from;
          channel = channel;
          highest = batch.batch;
          ignored = Some (is_ignored (run_after config state [] (Loaded channel batch)).end);
          error = None;
        }) state.lanes
        (sound_lane config (state_after config state (Loaded channel batch)) (record {
          peer = batch.from;
          channel = channel;
          highest = batch.batch;
          ignored = Some (is_ignored (run_after config state [] (Loaded channel batch)).end);
          error = None;
        }) due.there due.most refl due.kept refl) each
    all_sound (Erred from channel error) due before each =
        let lane : LaneIn = record (lane_of state.lanes from channel) { error = Some error } in
        let parts = found_lane config state from channel due.0 due.1 before in
        item_all (Sound config (state_after config state (Erred from channel error))) (lane_key config) lane state.lanes
        (and_both (is_lane_of config lane) (is_peer_of state lane.peer && error_is_later lane)
        (with_error config (lane_of state.lanes from channel) error parts.fits due.3)
        (and_both (is_peer_of state lane.peer) (error_is_later lane) parts.kept
        (is_lt_test (lane_of state.lanes from channel).highest error.batch due.2))) each
    all_sound (Opened group external token) due before each = each
    all_sound (Joined kept) due before each = each
    all_sound (Confirmed peer) due before each = each
    all_sound (Wrote writer number rows) due before each = each
    all_sound Routed due before each = each
    all_sound (Acked from acks) due before each = each
