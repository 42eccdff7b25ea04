-- What a routing run makes of a node.
use Rattle.std.proofs.Common.{◌≡◌, ℕ, ◌+◌, Bool, true, false, ◌||◌, List, [], ◌∷◌, length, map, Result, Ok, refl, sym, ap, ◌∙◌, append-nil, suc, arith}
use Rattle.std.specs.Prelude.{if◌then◌else◌, filter, nat_lt}
use Rattle.std.specs.List.{list_any}
use Rattle.std.proofs.lemmas.Bool.Decides.{nat_tests}
use Rattle.std.proofs.lemmas.List.{length-map}
use Rattle.sds_types.specs.declared.node_fault.NodeFault.{NodeFault}
use Rattle.sds_types.specs.declared.batch.OutBatch.{OutBatch}
use Rattle.sds_types.specs.declared.peer.KeptPeer.{KeptPeer}
use Rattle.sds_types.specs.declared.row.Change.{Change}
use Rattle.sds_first_spec.specs.Acts.{State, History}
use Rattle.sds_first_spec.specs.Acts.Act.{Routed}
use Rattle.sds_first_spec.specs.Batches.{Piece, batches_from}
use Rattle.sds_first_spec.specs.Calls.{route_pieces, route_by, route_answer, route_acts}
use Rattle.sds_first_spec.specs.Cuts.{cut}
use Rattle.sds_first_spec.specs.History.{state_of}
use Rattle.sds_first_spec.specs.One.{one}
use Rattle.sds_first_node.specs.Meaning.{followed_by}
use Rattle.sds_first_node.specs.Routed.{is_waiting, lane_of, cut_on, ids_of, next_ids, out_batches, batches_by}
use Rattle.sds_first_node.specs.Steps.{routed, with_batches}
use Rattle.sds_first_node.proofs.Histories.{routed-state}
use Rattle.sds_first_node.proofs.Routes.{cut-ids}

abbrev piece_to : List ℕ → List Change → Piece
piece_to peer changes = record { peer = peer; channel = 0; changes = changes }

abbrev of_piece : Piece → List ℕ
of_piece piece = ids_of piece.changes

-- the pieces of a run of a node with one peer
one_lane : (s : State) (other : KeptPeer) → s.peers ≡ other ∷ []
    → route_pieces one s ≡ map (piece_to other.peer.id) (cut 10000 (lane_of s.me other.peer s.counts.routed s.changes))
one_lane s other are = rw are (append-nil _ ∙ append-nil _)

ids_to : (peer : List ℕ) (pieces : List (List Change)) → map of_piece (map (piece_to peer) pieces) ≡ map ids_of pieces
ids_to peer [] = refl
ids_to peer (piece ∷ pieces) = ap (λ (l : List (List ℕ)). ids_of piece ∷ l) (ids_to peer pieces)

-- the numbers of the changes in the pieces of a run
pub next-cut : (s : State) (other : KeptPeer) → s.peers ≡ other ∷ [] → next_ids s ≡ cut_on 10000 [] 0 (lane_of s.me other.peer s.counts.routed s.changes)
next-cut s other are =
    let lane = lane_of s.me other.peer s.counts.routed s.changes in
    ap (λ (pieces : List Piece). map of_piece pieces) (one_lane s other are) ∙ (ids_to other.peer.id (cut 10000 lane) ∙ cut-ids lane)

batches_to : (id : ℕ) (peer : List ℕ) (pieces : List (List Change)) → batches_from id (map (piece_to peer) pieces) ≡ out_batches id peer (map ids_of pieces)
batches_to id peer [] = refl
batches_to id peer (piece ∷ pieces) = rw (batches_to (id + 1) peer pieces) refl

next_count : (s : State) → length (next_ids s) ≡ length (route_pieces one s)
next_count s = length-map (route_pieces one s) of_piece

next_batches : (s : State) (other : KeptPeer) (id : ℕ) → s.peers ≡ other ∷ [] → batches_from id (route_pieces one s) ≡ out_batches id other.peer.id (next_ids s)
next_batches s other id are =
    let pieces = cut 10000 (lane_of s.me other.peer s.counts.routed s.changes) in
    ap (λ (l : List Piece). batches_from id l) (one_lane s other are)
    ∙ (batches_to id other.peer.id pieces ∙ sym (ap (λ (l : List (List ℕ)). out_batches id other.peer.id l) (ap (λ (l : List Piece). map of_piece l) (one_lane s other are) ∙ ids_to other.peer.id pieces)))

-- what a run makes of a state
pub routed-batches : (s s' : State) (other : KeptPeer) (ids : List (List ℕ)) (count : ℕ) (batches : List OutBatch) → s.peers ≡ other ∷ [] → ids ≡ next_ids s → count ≡ length ids
    → batches ≡ out_batches (s.counts.last_batch + 1) other.peer.id ids → s' ≡ with_batches s count batches → s' ≡ routed s
routed-batches s s' other ids count batches are is n made new =
    new ∙ (rw (n, made, is) (rw (next_count s, sym (next_batches s other (s.counts.last_batch + 1) are)) refl))

waits_not : (mark : ℕ) (c : Change) (cs : List Change) (b : Bool) → is_waiting mark c ≡ b → (is_waiting mark c || list_any (is_waiting mark) cs) ≡ false
    → (list_any (is_waiting mark) cs ≡ false → filter (is_waiting mark) cs ≡ []) → filter (is_waiting mark) (c ∷ cs) ≡ []
waits_not mark c cs true is none others = absurd (let e = rw is at none in cc)
waits_not mark c cs false is none others = rw is (others (rw is at none))

waits_so : (mark : ℕ) (c : Change) (cs : List Change) (b : Bool) → is_waiting mark c ≡ b → (is_waiting mark c || list_any (is_waiting mark) cs) ≡ true
    → (list_any (is_waiting mark) cs ≡ true → (x : Change) × (xs : List Change) × (filter (is_waiting mark) cs ≡ x ∷ xs)) → (x : Change) × (xs : List Change) × (filter (is_waiting mark) (c ∷ cs) ≡ x ∷ xs)
waits_so mark c cs true is some others = (c, filter (is_waiting mark) cs, rw is refl)
waits_so mark c cs false is some others = let found = others (rw is at some) in (found.0, found.1, rw is found.2)

none_waits : (mark : ℕ) (cs : List Change) → list_any (is_waiting mark) cs ≡ false → filter (is_waiting mark) cs ≡ []
none_waits mark [] is = refl
none_waits mark (c ∷ cs) is = waits_not mark c cs _ refl is (none_waits mark cs)

some_waits : (mark : ℕ) (cs : List Change) → list_any (is_waiting mark) cs ≡ true → (x : Change) × (xs : List Change) × (filter (is_waiting mark) cs ≡ x ∷ xs)
some_waits mark [] is = absurd (cc)
some_waits mark (c ∷ cs) is = waits_so mark c cs _ refl is (some_waits mark cs)

-- nothing waits
pub none_routed : (s : State) → list_any (is_waiting s.counts.routed) s.changes ≡ false → route_answer one s ≡ Ok 0
none_routed s none = rw (none_waits s.counts.routed s.changes none) refl

pub none_acts : (s : State) (n : ℕ) → list_any (is_waiting s.counts.routed) s.changes ≡ false → route_acts (Ok n) s ≡ []
none_acts s n none = rw (none_waits s.counts.routed s.changes none) refl

-- something waits
pub some_routed : (s : State) (r : Result ℕ NodeFault) (ids : List (List ℕ)) → list_any (is_waiting s.counts.routed) s.changes ≡ true → ids ≡ next_ids s
    → r ≡ batches_by s (length ids) → r ≡ route_answer one s
some_routed s r ids some are is =
    let found = some_waits s.counts.routed s.changes some in
    let answered : route_answer one s ≡ batches_by s (length (route_pieces one s)) = ap (λ (cs : List Change). route_by cs s (length (route_pieces one s))) found.2 in
    is ∙ (rw (are, next_count s) (sym answered))

longer : (n : ℕ) → nat_lt 0 (suc n) ≡ true
longer n = grind (arith, nat_tests)

pub some_acts : (s : State) (n : ℕ) → list_any (is_waiting s.counts.routed) s.changes ≡ true → route_acts (Ok n) s ≡ Routed ∷ []
some_acts s n some =
    let found = some_waits s.counts.routed s.changes some in
    ap (λ (cs : List Change). if nat_lt 0 (length cs) then Routed ∷ [] else []) found.2 ∙ rw (longer (length found.1)) refl

-- the history after a run
pub stands-routed : (h : History) (s s' : State) (n : ℕ) → list_any (is_waiting s.counts.routed) s.changes ≡ true → s' ≡ routed s → s ≡ state_of one h
    → s' ≡ state_of one (followed_by h (route_acts (Ok n) s))
stands-routed h s s' n some new stood = rw (some_acts s n some) (new ∙ (rw stood (routed-state h)))
