-- What a routing run takes and leaves.
use Rattle.std.proofs.Common.{◌≡◌, ℕ, zero, suc, ◌+◌, ◌<◌, ◌≤◌, Bool, true, false, cond, List, [], ◌∷◌, ◌++◌, length, map, drop, take, ◌-◌, Option, None, Some, refl, sym, ap, subst, ◌∙◌, arith, true≢false, append-nil, filter, All, AllPairs}
use Rattle.std.specs.Prelude.{nat_lt}
use Rattle.std.specs.List.{position, position_from, zip}
use Rattle.std.proofs.Math.Nat.{add-zero}
use Rattle.std.proofs.lemmas.Iterator.Adapters.{position_from-zero}
use Rattle.std.proofs.lemmas.List.{take_rest}
use Rattle.sds_outside.specs.declared.keeping.Edit.{Edit}
use Rattle.sds_value.specs.declared.row.Peer.{Peer}
use Rattle.sds_types.specs.declared.batch.NewBatch.{NewBatch}
use Rattle.sds_types.specs.declared.batch.OutBatch.{OutBatch}
use Rattle.sds_types.specs.declared.config.Config.{Config}
use Rattle.sds_types.specs.declared.counts.Counts.{Counts}
use Rattle.sds_types.specs.declared.peer.KeptPeer.{KeptPeer}
use Rattle.sds_types.specs.declared.row.Change.{Change}
use Rattle.sds_types.specs.declared.row.TableRow.{TableRow}
use Rattle.sds_trade.proofs.ChangeLaws.{peers_are_named_once}
use Rattle.sds_trade.proofs.Lists.{pairs_tail}
use Rattle.sds_trade.specs.rules.Batches.{batches_of, routed_changes}
use Rattle.sds_trade.specs.rules.Named.{targets_of}
use Rattle.sds_history.specs.history.Acts.{Act, State}
use Rattle.sds_history.specs.history.Acts.Act.{Routed}
use Rattle.sds_history.specs.history.Made.{next_batches, out_batch}
use Rattle.sds_history.specs.history.Records.{batch_record}
use Rattle.sds_history.specs.history.SoundParts.{AscendByNumber, IsChange}
use Rattle.sds_history.specs.history.States.{state_after}
use Rattle.sds_imagelaws.proofs.ActEdits.{edits_of_routes}
use Rattle.sds_imagelaws.specs.Edits.{edits_of, puts_of}
use Rattle.sds_nodelaws.proofs.Held.{all_of}
use Rattle.sds_nodelaws.proofs.Lists.{filter_all, from_lt, is_lt_test, map_all}
use Rattle.sds_nodelaws.proofs.NodeFacts.{batches_after}
use Rattle.sds_acts.specs.Counting.{after_route}
use Rattle.sds_acts.specs.Parts.{counts_put}

-- THE CHANGES above a mark, among changes that ascend: from the first of them on
abbrev is_above : ℕ → Change → Bool
is_above mark change = nat_lt mark change.id

higher : (mark a b : ℕ) → mark < a → a < b → mark < b
higher mark a b first second = omega (arith, first, second)

above_all : (mark : ℕ) (change : Change) (changes : List Change) → AscendByNumber (λ (c : Change). c.id) (change ∷ changes) → is_above mark change ≡ true
    → filter (is_above mark) changes ≡ changes
above_all mark change [] ascend is = refl
above_all mark change (next ∷ changes) ascend is =
    let less : change.id < next.id = ascend 0 1 change (omega arith) (omega arith) in
    let above : is_above mark next ≡ true = is_lt_test mark next.id (higher mark change.id next.id (from_lt mark change.id is) less) in
    ap (λ (b : Bool). cond b (next ∷ filter (is_above mark) changes) (filter (is_above mark) changes)) above
    ∙ ap (λ (cs : List Change). next ∷ cs)
    (above_all mark next changes (pairs_tail (λ (a b : Change). a.id < b.id) change (next ∷ changes) ascend) above)

abbrev pub dropped : List Change → Option ℕ → List Change
dropped changes None = []
dropped changes (Some at) = drop at changes

abbrev place_in : ℕ → Option ℕ → ℕ
place_in i None = i
place_in i (Some n) = n

found_from : (mark : ℕ) (changes : List Change) (i : ℕ) → AscendByNumber (λ (c : Change). c.id) changes
    → (at : ℕ) → position_from (is_above mark) i changes ≡ Some at → (k : ℕ) × (at ≡ i + k) × (filter (is_above mark) changes ≡ drop k changes)
found_from mark [] i ascend at found = absurd (true≢false (ap (λ (o : Option ℕ). elim o [ None ↦ false | Some n ↦ true ]) (sym found)))
found_from mark (change ∷ changes) i ascend at found =
    on (is_above mark change) refl found
    (found_from mark changes (i + 1) (pairs_tail (λ (a b : Change). a.id < b.id) change changes ascend) at)
  where
    here : (n : ℕ) → n ≡ n + 0
    here n = omega arith

    further : (n k : ℕ) → n ≡ (i + 1) + k → n ≡ i + suc k
    further n k is = omega (arith, is)

    on : (b : Bool) → is_above mark change ≡ b → cond b (Some i) (position_from (is_above mark) (i + 1) changes) ≡ Some at
        → (position_from (is_above mark) (i + 1) changes ≡ Some at → (k : ℕ) × (at ≡ (i + 1) + k) × (filter (is_above mark) changes ≡ drop k changes))
        → (k : ℕ) × (at ≡ i + k) × (cond b (change ∷ filter (is_above mark) changes) (filter (is_above mark) changes) ≡ drop k (change ∷ changes))
    on true is found later = (0, sym (ap (place_in i) found) ∙ here i, ap (λ (cs : List Change). change ∷ cs) (above_all mark change changes ascend is))
    on false is found later =
        let rest = later found in
        (suc rest.0, further at rest.0 rest.1, rest.2)

none_from : (mark : ℕ) (changes : List Change) (i : ℕ) → position_from (is_above mark) i changes ≡ None → filter (is_above mark) changes ≡ []
none_from mark [] i none = refl
none_from mark (change ∷ changes) i none = on (is_above mark change) none (none_from mark changes (i + 1))
  where
    on : (b : Bool) → cond b (Some i) (position_from (is_above mark) (i + 1) changes) ≡ None
        → (position_from (is_above mark) (i + 1) changes ≡ None → filter (is_above mark) changes ≡ [])
        → cond b (change ∷ filter (is_above mark) changes) (filter (is_above mark) changes) ≡ []
    on true none later = absurd (true≢false (ap (λ (o : Option ℕ). elim o [ None ↦ false | Some n ↦ true ]) none))
    on false none later = later none

pub unrouted_none : (mark : ℕ) (changes slice : List Change) → slice ≡ changes → None ≡ position (is_above mark) slice → [] ≡ filter (is_above mark) changes
unrouted_none mark changes slice same none =
    sym (none_from mark changes 0 (sym (none ∙ (ap (position (is_above mark)) same ∙ position_from-zero (is_above mark) changes))))

from_zero : (n : ℕ) → 0 + n ≡ n
from_zero n = omega arith

pub unrouted_some : (mark : ℕ) (changes slice : List Change) (at : ℕ) → AscendByNumber (λ (c : Change). c.id) changes → slice ≡ changes
    → Some at ≡ position (is_above mark) slice → take (length slice - at) (drop at slice) ≡ filter (is_above mark) changes
unrouted_some mark changes slice at ascend same some =
    let found = found_from mark changes 0 ascend at (sym (some ∙ (ap (position (is_above mark)) same ∙ position_from-zero (is_above mark) changes))) in
    take_rest slice at ∙ (ap (drop at) same ∙ (ap (λ (n : ℕ). drop n changes) (found.1 ∙ from_zero found.0) ∙ sym found.2))

-- a list with what becomes of each of its items
pub zip_map : {X Y : Type 0} (f : X → Y) (xs : List X) → zip xs (map f xs) ≡ map (λ x. (x, f x)) xs
zip_map f [] = refl
zip_map f (x ∷ xs) = ap (λ ps. (x, f x) ∷ ps) (zip_map f xs)

-- STATES after a run that makes these batches
abbrev with_run : State → ℕ → ℕ → ℕ → List Change → List OutBatch → State
with_run state change batch tx changes batches = record state {
  counts = record { acts = state.counts.acts + 1; last_change = change; last_batch = batch; last_tx = tx; routed = change };
  changes = changes;
  batches = batches;
}

abbrev made_at : Config → State → ℕ → List OutBatch
made_at config state first = next_batches config state (first + 1) []

pub routed_state : (config : Config) (state : State) → state_after config state Routed
    ≡ record state {
      counts = after_route state.counts (length (made_at config state state.counts.last_batch));
      batches = state.batches ++ made_at config state state.counts.last_batch;
    }
routed_state config state =
    let last : ℕ = state.counts.last_batch in
    let after : State = state_after config state Routed in
    ap (λ (n : ℕ). with_run state n after.counts.last_batch after.counts.last_tx after.changes after.batches) (add-zero state.counts.last_change)
    ∙ (ap (λ (n : ℕ). with_run state state.counts.last_change after.counts.last_batch n after.changes after.batches) (add-zero state.counts.last_tx)
    ∙ (ap (λ (cs : List Change). with_run state state.counts.last_change after.counts.last_batch state.counts.last_tx cs after.batches) (append-nil state.changes)
    ∙ (ap (λ (bs : List OutBatch). with_run state state.counts.last_change after.counts.last_batch state.counts.last_tx state.changes bs)
    (batches_after config state Routed (λ peer. refl))
    ∙ ap (λ (n : ℕ). with_run state state.counts.last_change (last + length (made_at config state n)) state.counts.last_tx state.changes
    (state.batches ++ made_at config state n)) (add-zero last))))

pub routed_counts_are : (config : Config) (state : State)
    → (state_after config state Routed).counts ≡ after_route state.counts (length (made_at config state state.counts.last_batch))
routed_counts_are config state = ap (λ (s : State). s.counts) (routed_state config state)

-- EDITS
pub routed_edits : (config : Config) (state : State) → edits_of config state Routed
    ≡ puts_of (map (batch_record config) (made_at config state state.counts.last_batch))
    ++ counts_put (after_route state.counts (length (made_at config state state.counts.last_batch)))
routed_edits config state =
    edits_of_routes config state
    ∙ ap (λ (c : Counts). puts_of (map (batch_record config) (made_at config state state.counts.last_batch)) ++ counts_put c) (routed_counts_are config state)

pub made_edits : (config : Config) (state : State) (made : List OutBatch) (counts : Counts) (whole committed : List Edit) (own : List OutBatch)
    → made ≡ made_at config state state.counts.last_batch → counts ≡ after_route state.counts (length made) → own ≡ made
    → whole ≡ puts_of (map (batch_record config) own) ++ counts_put counts → committed ≡ whole → committed ≡ edits_of config state Routed
made_edits config state made counts whole committed own is counted same edits whole_is =
    whole_is ∙ (edits ∙ (ap (λ (bs : List OutBatch). puts_of (map (batch_record config) bs) ++ counts_put counts) (same ∙ is)
    ∙ (ap (λ (c : Counts). puts_of (map (batch_record config) (made_at config state state.counts.last_batch)) ++ counts_put c)
    (counted ∙ ap (λ (bs : List OutBatch). after_route state.counts (length bs)) is) ∙ sym (routed_edits config state))))

pub made_state : (config : Config) (state : State) (made batches : List OutBatch) (counts : Counts) → made ≡ made_at config state state.counts.last_batch
    → counts ≡ after_route state.counts (length made) → batches ≡ state.batches ++ made
    → record state { counts = counts; batches = batches } ≡ state_after config state Routed
made_state config state made batches counts is counted joined =
    ap (λ (c : Counts). record state { counts = c; batches = batches }) (counted ∙ ap (λ (bs : List OutBatch). after_route state.counts (length bs)) is)
    ∙ (ap (λ (bs : List OutBatch). record state { counts = after_route state.counts (length (made_at config state state.counts.last_batch)); batches = bs })
    (joined ∙ ap (λ (bs : List OutBatch). state.batches ++ bs) is) ∙ sym (routed_state config state))

-- WHAT IS MADE of the changes that wait
pub targets_ascend : (config : Config) (me : Peer) (rows : List TableRow) (peers : List Peer) (changes : List Change) (targets : List (List ℕ))
    → targets ≡ map (targets_of config me rows peers) changes → All (AllPairs (λ (a b : ℕ). a < b)) targets
targets_ascend config me rows peers changes targets is =
    subst (All (AllPairs (λ (a b : ℕ). a < b))) (sym is)
    (map_all (AllPairs (λ (a b : ℕ). a < b)) (targets_of config me rows peers) changes
    (all_of (λ (c : Change). AllPairs (λ (a b : ℕ). a < b) (targets_of config me rows peers c)) changes
    (λ (c : Change). peers_are_named_once config me rows peers c)))

pub unrouted_are : (config : Config) (mark : ℕ) (all changes : List Change) → All (IsChange config) all → changes ≡ filter (is_above mark) all
    → All (IsChange config) changes
unrouted_are config mark all changes are is = subst (All (IsChange config)) (sym is) (filter_all (IsChange config) (is_above mark) all are)

pub made_are : (config : Config) (state : State) (peers named outs : List Peer) (changes : List Change) (targets lanes : List (List ℕ))
    (made slice : List NewBatch) → peers ≡ map (λ (kept : KeptPeer). kept.peer) state.peers → named ≡ peers → outs ≡ peers
    → changes ≡ filter (is_above state.counts.routed) state.changes
    → targets ≡ map (targets_of config state.me state.tables named) changes → lanes ≡ targets
    → made ≡ batches_of config (state.counts.last_batch + 1) (zip changes lanes) → slice ≡ made
    → map (out_batch outs) slice ≡ next_batches config state (state.counts.last_batch + 1) []
made_are config state peers named outs changes targets lanes made slice are one two waits aims lanes_are is same =
    let first : ℕ = state.counts.last_batch + 1 in
    let routed : zip changes lanes ≡ routed_changes config state.me state.tables peers changes =
    ap (zip changes) (lanes_are ∙ (aims ∙ ap (λ (ps : List Peer). map (targets_of config state.me state.tables ps) changes) one))
    ∙ zip_map (targets_of config state.me state.tables peers) changes in
    ap (λ (ps : List Peer). map (out_batch ps) slice) two
    ∙ (ap (map (out_batch peers)) (same ∙ (is ∙ ap (batches_of config first) routed))
    ∙ (ap (λ (cs : List Change). map (out_batch peers) (batches_of config first (routed_changes config state.me state.tables peers cs))) waits
    ∙ ap (λ (ps : List Peer). map (out_batch ps) (batches_of config first (routed_changes config state.me state.tables ps
    (filter (is_above state.counts.routed) state.changes)))) are))
