-- Every event of a link keeps its lanes in step.
use Rattle.std.proofs.Common.{◌≡◌, ℕ, ◌+◌, ◌<◌, ◌≤◌, zero, suc, Bool, true, false, ◌&&◌, ◌||◌, ◌==◌, cond, List, [], ◌∷◌, ◌++◌, length, take, drop, Option, None, Some, Result, Ok, Err, refl, sym, ap, subst, ◌∙◌, arith, append_assoc, append-nil, length-append}
use Rattle.std.specs.Prelude.{nat_lt, nat_le, is_none, if◌then◌else◌, map, filter, count_by, slice_get, All}
use Rattle.std.specs.List.{list_any, filter_map}
use Rattle.std.specs.Str.{bytes_eq}
use Rattle.std.proofs.lemmas.List.{map-append, length-map, drop-map, drop-append-le, take-append-drop}
use Rattle.std.proofs.lemmas.List.Elements.{filter-append}
use Rattle.std.proofs.lemmas.List.Folds.{list_any-append}
use Rattle.std.proofs.lemmas.List.Sums.{sum_by-cons}
use Rattle.std.proofs.lemmas.Bool.{eqb-true, leb-true}
use Rattle.std.proofs.lemmas.Bool.Decides.{nat_tests}
use Rattle.sds_value.specs.declared.row.DocRow.{DocRow}
use Rattle.sds_value.specs.declared.row.Peer.{Peer}
use Rattle.sds_types.specs.declared.config.Config.{Config}
use Rattle.sds_types.specs.declared.ack.Ack.{Ack}
use Rattle.sds_types.specs.declared.ack.AckRefusal.{AckRefusal}
use Rattle.sds_types.specs.declared.node_fault.NodeFault.{NodeFault}
use Rattle.sds_types.specs.declared.write_answer.WriteRefusal.{WriteRefusal}
use Rattle.sds_types.specs.declared.write_answer.Written.{Written}
use Rattle.sds_types.specs.declared.write_answer.Written.TheVariants.{Done, Again}
use Rattle.sds_types.specs.declared.batch.OutBatch.{OutBatch}
use Rattle.sds_first_spec.specs.declared.batch.Sent.{Sent}
use Rattle.sds_types.specs.declared.batch.Standing.{Standing}
use Rattle.sds_types.specs.declared.batch.Standing.TheVariants as standing
use Rattle.sds_types.specs.declared.peer.KeptPeer.{KeptPeer}
use Rattle.sds_types.specs.declared.row.Change.{Change}
use Rattle.sds_first_spec.specs.declared.row.LoadRow.{LoadRow}
use Rattle.sds_types.specs.declared.tx_row.TxRow.{TxRow}
use Rattle.sds_first_spec.specs.Acks.{is_up_to, is_acked_by, error_by, last_error, standing_after}
use Rattle.sds_first_spec.specs.Acts.{Act, State}
use Rattle.sds_first_spec.specs.Acts.Act.{Wrote, Routed, Loaded, Acked}
use Rattle.sds_first_spec.specs.Batches.{Piece, batches_from}
use Rattle.sds_first_spec.specs.Calls.{write_answer, write_acts, route_answer, route_acts, acks_answer, acks_acts, unrouted}
use Rattle.sds_first_spec.specs.Capture.{steps_of}
use Rattle.sds_first_spec.specs.Changes.{changes_from}
use Rattle.sds_first_spec.specs.History.{changes_of, last_change_of, last_tx_of, last_batch_of, batches_of, next_pieces, state_of}
use Rattle.sds_first_spec.specs.InStep.{Taken, taken_of, taken_as, is_taken, LaneInStep, PartInStep}
use Rattle.sds_first_spec.specs.Lanes.{is_ok, is_erred, made, acked, loaded, to_error, most_to_send, channels_of, change_at, rows_of, doc_of}
use Rattle.sds_first_spec.specs.One.{begun, paired}
use Rattle.sds_first_spec.specs.Outcome.{read_rows}
use Rattle.sds_first_spec.specs.World.{Part, Message, Reply, sent_of, part_of, message_of, received_parts, acks_for_parts}
use Rattle.sds_first_laws.specs.Counters.{Rising}
use Rattle.sds_first_laws.specs.Link.{Link, LinkEvent, delivered, answered, link_after, LanesStayInStep, MessagesInStep, MessagesStayInStep}
use Rattle.sds_first_laws.specs.Link.LinkEvent.{Write, Route, Send, Deliver, Answer}
use Rattle.sds_first_laws.proofs.Each.{Each, all_from_each, each_append, each_weaker, each_map, each_filter, each_both, each_of, each_front, each_behind, map_each, each_passes}
use Rattle.sds_first_laws.proofs.Counted.{Between, changes_between, BatchUpTo, batches_rise, batches_within, rising_further}
use Rattle.sds_first_laws.proofs.Delivery.{IsUnknown, Lane, Lanes, content, PartKept, is_numbered, or_right, same_number, AckTaken, Took, acks_later, parts_later, parts_took}

-- what a message, a lane or a reply says of the sender's batches stays where more are made
abbrev Grows : List Sent → List Sent → Type 0
Grows old new = (more : List Sent) × (old ++ more ≡ new)

-- ROWS. The rows of a batch stay where further changes have higher numbers.
not_above : (high id n : ℕ) → n ≤ high → high < id → (id == n) ≡ false
not_above high id n le lt = grind (arith, nat_tests)

no_change : (low high n : ℕ) (changes : List Change) → n ≤ low → Each (Between low high) changes → change_at n changes ≡ None
no_change low high n [] le each = refl
no_change low high n (change ∷ changes) le each = rw (not_above low change.id n le each.0.0) (no_change low high n changes le each.1)

found_on : (b : Bool) (change : Change) (first second : Option Change) → first ≡ second → (if b then Some change else first) ≡ (if b then Some change else second)
found_on true change first second same = refl
found_on false change first second same = same

change_stays : (low high n : ℕ) (changes more : List Change) → n ≤ low → Each (Between low high) more → change_at n (changes ++ more) ≡ change_at n changes
change_stays low high n [] more le each = no_change low high n more le each
change_stays low high n (change ∷ changes) more le each = found_on (change.id == n) change _ _ (change_stays low high n changes more le each)

found_by : (f g : ℕ → Option Change) (n : ℕ) (ns : List ℕ) → f n ≡ g n → filter_map f ns ≡ filter_map g ns → filter_map f (n ∷ ns) ≡ filter_map g (n ∷ ns)
found_by f g n ns same rest = rw (same, rest) refl

rows_found : (low high : ℕ) (changes more : List Change) (ns : List ℕ) → Each (λ (n : ℕ). n ≤ low) ns → Each (Between low high) more
    → filter_map (λ (n : ℕ). change_at n (changes ++ more)) ns ≡ filter_map (λ (n : ℕ). change_at n changes) ns
rows_found low high changes more [] within each = refl
rows_found low high changes more (n ∷ ns) within each =
    found_by (λ (k : ℕ). change_at k (changes ++ more)) (λ (k : ℕ). change_at k changes) n ns (change_stays low high n changes more within.0 each)
    (rows_found low high changes more ns within.1 each)

-- FACTS of a lane
abbrev pub one_if : Bool → ℕ
one_if t = cond t 1 0

pub count_cons : (b : OutBatch) (others : List OutBatch) → count_by (λ (b : OutBatch). is_ok b.standing) (b ∷ others) ≡ one_if (is_ok b.standing) + count_by (λ (b : OutBatch). is_ok b.standing) others
count_cons b others = sum_by-cons (λ (b : OutBatch). one_if (is_ok b.standing)) b others

pub count_unknown : (rest : List OutBatch) → Each IsUnknown rest → count_by (λ (b : OutBatch). is_ok b.standing) rest ≤ 0
count_unknown [] unknown = omega arith
count_unknown (b ∷ rest) unknown =
    let off : one_if (is_ok b.standing) ≡ 0 = rw unknown.0 refl in
    let e : count_by (λ (b : OutBatch). is_ok b.standing) (b ∷ rest) ≡ one_if (is_ok b.standing) + count_by (λ (b : OutBatch). is_ok b.standing) rest = count_cons b rest in
    let le : count_by (λ (b : OutBatch). is_ok b.standing) rest ≤ 0 = count_unknown rest unknown.1 in
    omega (arith, off, e, le)

at_most_one : (t : Bool) → one_if t ≤ 1
at_most_one true = omega arith
at_most_one false = omega arith

count_front : (heads rest : List OutBatch) → Each IsUnknown rest → count_by (λ (b : OutBatch). is_ok b.standing) (heads ++ rest) ≤ length heads
count_front [] rest unknown = count_unknown rest unknown
count_front (b ∷ heads) rest unknown =
    let one : one_if (is_ok b.standing) ≤ 1 = at_most_one (is_ok b.standing) in
    let e : count_by (λ (b : OutBatch). is_ok b.standing) (b ∷ (heads ++ rest)) ≡ one_if (is_ok b.standing) + count_by (λ (b : OutBatch). is_ok b.standing) (heads ++ rest) = count_cons b (heads ++ rest) in
    let le : count_by (λ (b : OutBatch). is_ok b.standing) (heads ++ rest) ≤ length heads = count_front heads rest unknown in
    omega (arith, one, e, le)

take_front : (config : Config) (s : State) (heads rest : List OutBatch) → take (length heads) (map (taken_as config s) (heads ++ rest)) ≡ map (taken_as config s) heads
take_front config s [] rest = refl
take_front config s (b ∷ heads) rest = ap (λ (l : List Taken). taken_as config s b ∷ l) (take_front config s heads rest)

pub lane_known : (config : Config) (s : State) (all : List OutBatch) (taken : List Taken) (n : ℕ) → Lane config s all taken n → count_by (λ (b : OutBatch). is_ok b.standing) all ≤ n
lane_known config s all taken n lane = subst (λ (l : List OutBatch). count_by (λ (b : OutBatch). is_ok b.standing) l ≤ n) lane.split
    (subst (λ (k : ℕ). count_by (λ (b : OutBatch). is_ok b.standing) (lane.heads ++ lane.rest) ≤ k) (sym lane.count) (count_front lane.heads lane.rest lane.unknown))

pub lane_within : (config : Config) (s : State) (all : List OutBatch) (taken : List Taken) (n : ℕ) → Lane config s all taken n → n ≤ length all
lane_within config s all taken n lane =
    let e : length lane.heads + length lane.rest ≡ length all = sym (length-append lane.heads lane.rest) ∙ ap (λ (l : List OutBatch). length l) lane.split in
    let count : n ≡ length lane.heads = lane.count in omega (arith, e, count)

pub lane_front : (config : Config) (s : State) (all : List OutBatch) (taken : List Taken) (n : ℕ) → Lane config s all taken n → taken ≡ take n (map (taken_as config s) all)
lane_front config s all taken n lane =
    lane.are ∙ (sym (take_front config s lane.heads lane.rest) ∙ (ap (λ (k : ℕ). take k (map (taken_as config s) (lane.heads ++ lane.rest))) (sym lane.count)
    ∙ ap (λ (l : List OutBatch). take n (map (taken_as config s) l)) lane.split))

-- NUMBERS. Of two lanes with a batch of one number each is the other, and what stands behind that batch has higher numbers.
none_after : (low high x : ℕ) (p : OutBatch → Bool) (batches : List OutBatch) → Rising low high batches → x ≤ low → list_any (λ (b : OutBatch). b.id == x && p b) batches ≡ false
none_after low high x p [] rising le = refl
none_after low high x p (b ∷ batches) rising le = rw (apart b.id x low rising.0 le) (none_after b.id high x p batches rising.1 (omega (arith, rising.0, le))) where
  apart : (id n low : ℕ) → low < id → n ≤ low → (id == n) ≡ false
  apart id n low lt le = grind (arith, nat_tests)

both_by : (t a b : Bool) (others_a others_b others : Bool) → (t ≡ true → others_a ≡ false) → (t ≡ true → others_b ≡ false) → (others_a ≡ true → others_b ≡ true → others ≡ true)
    → ((t && a) || others_a) ≡ true → ((t && b) || others_b) ≡ true → ((a && b) || others) ≡ true
both_by true true true others_a others_b others off_a off_b on x y = refl
both_by true false b others_a others_b others off_a off_b on x y = let off : others_a ≡ false = off_a refl in cc
both_by true true false others_a others_b others off_a off_b on x y = let off : others_b ≡ false = off_b refl in cc
both_by false a b others_a others_b others off_a off_b on x y = or_right (a && b) others (on x y)

both_at : (low high x : ℕ) (p q : OutBatch → Bool) (batches : List OutBatch) → Rising low high batches → list_any (λ (b : OutBatch). b.id == x && p b) batches ≡ true
    → list_any (λ (b : OutBatch). b.id == x && q b) batches ≡ true → list_any (λ (b : OutBatch). p b && q b) batches ≡ true
both_at low high x p q [] rising a b = a
both_at low high x p q (batch ∷ batches) rising a b =
    both_by (batch.id == x) (p batch) (q batch) _ _ _
    (λ is. none_after batch.id high x p batches rising.1 (let e : batch.id ≡ x = eqb-true batch.id x is in omega (arith, e)))
    (λ is. none_after batch.id high x q batches rising.1 (let e : batch.id ≡ x = eqb-true batch.id x is in omega (arith, e)))
    (λ c d. both_at batch.id high x p q batches rising.1 c d) a b

any_by : (p : OutBatch → Bool) (R : Type 0) (b : OutBatch) (others : Bool) (t : Bool) → p b ≡ t → ((b : OutBatch) → p b ≡ true → R) → (others ≡ true → R) → (t || others) ≡ true → R
any_by p R b others true is gives on h = gives b is
any_by p R b others false is gives on h = on h

any_gives : (p : OutBatch → Bool) (R : Type 0) (batches : List OutBatch) → ((b : OutBatch) → p b ≡ true → R) → list_any p batches ≡ true → R
any_gives p R [] gives h = absurd (cc)
any_gives p R (b ∷ batches) gives h = any_by p R b (list_any p batches) (p b) refl gives (any_gives p R batches gives) h

pub or_kept : (a b c d : Bool) → (a ≡ true → c ≡ true) → (b ≡ true → d ≡ true) → (a || b) ≡ true → (c || d) ≡ true
or_kept true b c d left right h = rw (left refl) refl
or_kept false b c d left right h = or_right c d (right h)

filter_any : (test p : OutBatch → Bool) (b : OutBatch) (batches : List OutBatch) (t : Bool) → p b ≡ t → (list_any test (filter p batches) ≡ true → list_any (λ (b : OutBatch). test b && p b) batches ≡ true)
    → list_any test (filter p (b ∷ batches)) ≡ true → list_any (λ (b : OutBatch). test b && p b) (b ∷ batches) ≡ true
filter_any test p b batches true is on h =
    let h' : (test b || list_any test (filter p batches)) ≡ true = rw is at h in
    or_kept (test b) (list_any test (filter p batches)) (test b && p b) (list_any (λ (b : OutBatch). test b && p b) batches) (λ t. rw (t, is) refl) on h'
filter_any test p b batches false is on h = let h' : list_any test (filter p batches) ≡ true = rw is at h in or_right (test b && p b) _ (on h')

any_filter : (test p : OutBatch → Bool) (batches : List OutBatch) → list_any test (filter p batches) ≡ true → list_any (λ (b : OutBatch). test b && p b) batches ≡ true
any_filter test p [] h = h
any_filter test p (b ∷ batches) h = filter_any test p b batches (p b) refl (any_filter test p batches) h

any_taken : (config : Config) (s : State) (x : ℕ) (heads : List OutBatch) → list_any (is_numbered x) (map (taken_as config s) heads) ≡ list_any (λ (b : OutBatch). b.id == x) heads
any_taken config s x [] = refl
any_taken config s x (b ∷ heads) = ap (λ (r : Bool). b.id == x || r) (any_taken config s x heads)

any_front : (p : OutBatch → Bool) (heads rest : List OutBatch) → list_any p heads ≡ true → list_any p (heads ++ rest) ≡ true
any_front p [] rest h = absurd (cc)
any_front p (b ∷ heads) rest h = or_kept (p b) (list_any p heads) (p b) (list_any p (heads ++ rest)) (λ t. t) (any_front p heads rest) h

pub rising_by : (p : OutBatch → Bool) (low high : ℕ) (b : OutBatch) (batches : List OutBatch) (t : Bool) → p b ≡ t → low < b.id → Rising b.id high (filter p batches) → Rising low high (filter p (b ∷ batches))
rising_by p low high b batches true is lt rising = rw is (lt, rising)
rising_by p low high b batches false is lt rising = rw is (rising_further low b.id high (filter p batches) (omega (arith, lt)) rising)

rising_filter : (p : OutBatch → Bool) (low high : ℕ) (batches : List OutBatch) → Rising low high batches → Rising low high (filter p batches)
rising_filter p low high [] rising = rising
rising_filter p low high (b ∷ batches) rising = rising_by p low high b batches (p b) refl rising.0 (rising_filter p b.id high batches rising.1)

pub all_above : (n low high : ℕ) (batches : List OutBatch) → n ≤ low → Rising low high batches → Each (λ (b : OutBatch). n < b.id) batches
all_above n low high [] le rising = tt
all_above n low high (b ∷ batches) le rising = (omega (arith, le, rising.0), all_above n b.id high batches (omega (arith, le, rising.0)) rising.1)

behind_by : (x high : ℕ) (b : OutBatch) (heads rest : List OutBatch) (t : Bool) → (b.id == x) ≡ t → Rising b.id high (heads ++ rest)
    → (list_any (λ (b : OutBatch). b.id == x) heads ≡ true → Each (λ (b : OutBatch). x < b.id) rest) → (t || list_any (λ (b : OutBatch). b.id == x) heads) ≡ true
    → Each (λ (b : OutBatch). x < b.id) rest
behind_by x high b heads rest true is rising on h =
    let e : b.id ≡ x = eqb-true b.id x is in each_behind (λ (b : OutBatch). x < b.id) heads rest (all_above x b.id high (heads ++ rest) (omega (arith, e)) rising)
behind_by x high b heads rest false is rising on h = on h

behind_named : (x low high : ℕ) (heads rest : List OutBatch) → Rising low high (heads ++ rest) → list_any (λ (b : OutBatch). b.id == x) heads ≡ true → Each (λ (b : OutBatch). x < b.id) rest
behind_named x low high [] rest rising h = absurd (cc)
behind_named x low high (b ∷ heads) rest rising h =
    behind_by x high b heads rest (b.id == x) refl rising.1 (behind_named x b.id high heads rest rising.1) h

-- TAKEN. What is taken was taken in some lane.
abbrev InSomeLane : List ℕ → ℕ → List Act → Type 0
InSomeLane from x acts = (channel : ℕ) × (list_any (is_numbered x) (taken_of from channel acts) ≡ true)

on_taken : (b : Bool) (taken : List Taken) (id : ℕ) (rows : List LoadRow) (x : ℕ) → list_any (is_numbered x) taken ≡ true → list_any (is_numbered x) (if b then taken ++ (id, rows) ∷ [] else taken) ≡ true
on_taken true taken id rows x h = list_any-append (is_numbered x) taken ((id, rows) ∷ []) ∙ rw h refl
on_taken false taken id rows x h = h

last_taken : (b : Bool) (taken : List Taken) (id : ℕ) (rows : List LoadRow) (x : ℕ) → b ≡ true → (id == x) ≡ true
    → list_any (is_numbered x) (if b then taken ++ (id, rows) ∷ [] else taken) ≡ true
last_taken true taken id rows x is same = list_any-append (is_numbered x) taken ((id, rows) ∷ []) ∙ or_right (list_any (is_numbered x) taken) _ (rw same refl)
last_taken false taken id rows x is same = cc

lane_of : (from place : List ℕ) (channel id x : ℕ) (rows : List LoadRow) (acts : List Act) (p r : Bool) → bytes_eq place from ≡ p → (id == x) ≡ r
    → (is_taken from x acts ≡ true → InSomeLane from x acts) → (if p && r then true else is_taken from x acts) ≡ true → InSomeLane from x (Loaded place channel id rows ∷ acts)
lane_of from place channel id x rows acts true true same is on h =
    (channel, last_taken (bytes_eq place from && channel == channel) (taken_of from channel acts) id rows x (rw (same, same_number channel) refl) is)
lane_of from place channel id x rows acts false r same is on h =
    let was : InSomeLane from x acts = on h in (was.0, on_taken (bytes_eq place from && channel == was.0) (taken_of from was.0 acts) id rows x was.1)
lane_of from place channel id x rows acts true false same is on h =
    let was : InSomeLane from x acts = on h in (was.0, on_taken (bytes_eq place from && channel == was.0) (taken_of from was.0 acts) id rows x was.1)

some_lane : (from : List ℕ) (x : ℕ) (acts : List Act) → is_taken from x acts ≡ true → InSomeLane from x acts
some_lane from x [] h = absurd (cc)
some_lane from x (Wrote writer number rows ∷ acts) h = some_lane from x acts h
some_lane from x (Routed ∷ acts) h = some_lane from x acts h
some_lane from x (Loaded place channel id rows ∷ acts) h = lane_of from place channel id x rows acts (bytes_eq place from) (id == x) refl refl (some_lane from x acts) h
some_lane from x (Acked peer acks ∷ acts) h = some_lane from x acts h

-- ACKED. Nothing behind what is loaded is acknowledged by acks that name loaded batches.
abbrev pub in_lane : List ℕ → ℕ → OutBatch → Bool
in_lane to channel b = bytes_eq b.peer to && b.channel == channel

pub and_left : (a b : Bool) → (a && b) ≡ true → a ≡ true
and_left true b is = refl
and_left false b is = is

pub and_right : (a b : Bool) → (a && b) ≡ true → b ≡ true
and_right true b is = is
and_right false b is = absurd (cc)

pub not_true : (b : Bool) → (b ≡ true → ⊥) → b ≡ false
not_true true never = absurd (never refl)
not_true false never = refl

one_channel : (to : List ℕ) (c c' : ℕ) (b0 b : OutBatch) → in_lane to c b0 ≡ true → (in_lane to c' b && (bytes_eq b.peer b0.peer && b.channel == b0.channel)) ≡ true → c' ≡ c
one_channel to c c' b0 b here both =
    let first : b.channel ≡ c' = eqb-true b.channel c' (and_right (bytes_eq b.peer to) (b.channel == c') (and_left (in_lane to c' b) _ both)) in
    let second : b.channel ≡ b0.channel = eqb-true b.channel b0.channel (and_right (bytes_eq b.peer b0.peer) (b.channel == b0.channel) (and_right (in_lane to c' b) _ both)) in
    let third : b0.channel ≡ c = eqb-true b0.channel c (and_right (bytes_eq b0.peer to) (b0.channel == c) here) in
    sym first ∙ (second ∙ third)

never_below : (id x : ℕ) → nat_le id x ≡ true → x < id → ⊥
never_below id x le lt = let h : id ≤ x = leb-true id x le in omega (arith, h, lt)

none_up_to : (to : List ℕ) (c c' high x : ℕ) (all rest : List OutBatch) → Rising 0 high all → list_any (λ (b : OutBatch). b.id == x && in_lane to c' b) all ≡ true
    → Each (λ (b : OutBatch). in_lane to c b ≡ true) rest → (c' ≡ c → Each (λ (b : OutBatch). x < b.id) rest) → Each (λ (b : OutBatch). is_up_to all x b ≡ false) rest
none_up_to to c c' high x all [] rising named here behind = tt
none_up_to to c c' high x all (b0 ∷ rest) rising named here behind = (
  not_true (is_up_to all x b0) (λ up.
      let both : list_any (λ (b : OutBatch). in_lane to c' b && (bytes_eq b.peer b0.peer && b.channel == b0.channel)) all ≡ true =
      both_at 0 high x (in_lane to c') (λ (b : OutBatch). bytes_eq b.peer b0.peer && b.channel == b0.channel) all rising named (and_right (nat_le b0.id x) _ up) in
      let same : c' ≡ c = any_gives (λ (b : OutBatch). in_lane to c' b && (bytes_eq b.peer b0.peer && b.channel == b0.channel)) (c' ≡ c) all (λ b h. one_channel to c c' b0 b here.0 h) both in
      never_below b0.id x (and_left (nat_le b0.id x) _ up) (behind same).0),
  none_up_to to c c' high x all rest rising named here.1 (λ same. (behind same).1),
)

lane_here : (config : Config) (s : State) (to : List ℕ) (c : ℕ) (taken : List Taken) (n : ℕ) (lane : Lane config s (made s to c) taken n) → Each (λ (b : OutBatch). in_lane to c b ≡ true) lane.rest
lane_here config s to c taken n lane =
    each_behind (λ (b : OutBatch). in_lane to c b ≡ true) lane.heads lane.rest
    (subst (λ (l : List OutBatch). Each (λ (b : OutBatch). in_lane to c b ≡ true) l) (sym lane.split) (each_passes (in_lane to c) s.batches))

ack_below : (config : Config) (s : State) (to from : List ℕ) (high x : ℕ) (acts : List Act) (lanes : Lanes config s to from acts) → Rising 0 high s.batches → is_taken from x acts ≡ true
    → (c : ℕ) → Each (λ (b : OutBatch). is_up_to s.batches x b ≡ false) (lanes c).rest
ack_below config s to from high x acts lanes rising taken c =
    let some : InSomeLane from x acts = some_lane from x acts taken in
    let in_heads : (k : ℕ) → list_any (is_numbered x) (taken_of from k acts) ≡ true → list_any (λ (b : OutBatch). b.id == x) (lanes k).heads ≡ true =
    λ (k : ℕ) (h : list_any (is_numbered x) (taken_of from k acts) ≡ true). sym (any_taken config s x (lanes k).heads) ∙ (ap (list_any (is_numbered x)) (sym (lanes k).are) ∙ h) in
    let in_made : list_any (λ (b : OutBatch). b.id == x) (made s to some.0) ≡ true =
    subst (λ (l : List OutBatch). list_any (λ (b : OutBatch). b.id == x) l ≡ true) (lanes some.0).split (any_front (λ (b : OutBatch). b.id == x) (lanes some.0).heads (lanes some.0).rest (in_heads some.0 some.1)) in
    none_up_to to c some.0 high x s.batches (lanes c).rest rising (any_filter (λ (b : OutBatch). b.id == x) (in_lane to some.0) s.batches in_made)
    (lane_here config s to c (taken_of from c acts) (loaded from c acts) (lanes c))
    (λ same. behind_named x 0 high (lanes c).heads (lanes c).rest
    (subst (λ (l : List OutBatch). Rising 0 high l) (sym (lanes c).split) (rising_filter (in_lane to c) 0 high s.batches rising))
    (in_heads c (subst (λ (k : ℕ). list_any (is_numbered x) (taken_of from k acts) ≡ true) same some.1)))

by_error : (e u rest : Bool) → (e ≡ true → u ≡ false) → rest ≡ false → ((e && u) || rest) ≡ false
by_error true u rest off is = rw (off refl) is
by_error false u rest off is = is

each_given : (e : Bool) (P : OutBatch → Type 0) (rest : List OutBatch) → (e ≡ true → Each P rest) → Each (λ (b : OutBatch). e ≡ true → P b) rest
each_given true P rest each = each_weaker P (λ (b : OutBatch). true ≡ true → P b) (λ b p is. p) rest (each refl)
each_given false P rest each = each_of (λ (b : OutBatch). false ≡ true → P b) (λ b is. absurd (cc)) rest

not_acked : (config : Config) (s : State) (to from : List ℕ) (high : ℕ) (acts : List Act) (lanes : Lanes config s to from acts) → Rising 0 high s.batches
    → (acks : List Ack) → Each (AckTaken from acts) acks → (c : ℕ) → Each (λ (b : OutBatch). is_acked_by s.batches acks b ≡ false) (lanes c).rest
not_acked config s to from high acts lanes rising [] named c = each_of (λ (b : OutBatch). false ≡ false) (λ b. refl) (lanes c).rest
not_acked config s to from high acts lanes rising (ack ∷ acks) named c =
    each_both (λ (b : OutBatch). is_none ack.error ≡ true → is_up_to s.batches ack.batch b ≡ false) (λ (b : OutBatch). is_acked_by s.batches acks b ≡ false)
    (λ (b : OutBatch). is_acked_by s.batches (ack ∷ acks) b ≡ false)
    (λ b off is. by_error (is_none ack.error) (is_up_to s.batches ack.batch b) (is_acked_by s.batches acks b) off is) (lanes c).rest
    (each_given (is_none ack.error) (λ (b : OutBatch). is_up_to s.batches ack.batch b ≡ false) (lanes c).rest
    (λ ok. ack_below config s to from high ack.batch acts lanes rising (named.0 ok) c))
    (not_acked config s to from high acts lanes rising acks named.1 c)

error_unknown : (error : Option (ℕ × ℕ)) (before : Standing) → is_ok before ≡ false → is_ok (error_by error before) ≡ false
error_unknown None before is = is
error_unknown (Some error) before is = refl

ack_error : (b : Bool) (error : Option (ℕ × ℕ)) (before : Standing) → is_ok before ≡ false → is_ok (if b then error_by error before else before) ≡ false
ack_error true error before is = error_unknown error before is
ack_error false error before is = is

last_unknown : (acks : List Ack) (id : ℕ) (before : Standing) → is_ok before ≡ false → is_ok (last_error acks id before) ≡ false
last_unknown [] id before is = is
last_unknown (ack ∷ acks) id before is = last_unknown acks id _ (ack_error (ack.batch == id) ack.error before is)

pub stays_unknown : (all : List OutBatch) (acks : List Ack) (b : OutBatch) (before : Standing) → is_ok before ≡ false → is_acked_by all acks b ≡ false → is_ok (standing_after all acks b before) ≡ false
stays_unknown all acks b standing.New is off = rw off (last_unknown acks b.id standing.New is)
stays_unknown all acks b (standing.Erred row rule) is off = rw off (last_unknown acks b.id (standing.Erred row rule) is)
stays_unknown all acks b standing.Acked is off = cc

abbrev pub after_acks : List OutBatch → List Ack → OutBatch → OutBatch
after_acks all acks b = record b { standing = standing_after all acks b b.standing }

acked_by_test : (all : List OutBatch) (acks : List Ack) (to : List ℕ) (c : ℕ) (b : OutBatch) (batches : List OutBatch) (t : Bool) → in_lane to c b ≡ t
    → filter (in_lane to c) (map (after_acks all acks) batches) ≡ map (after_acks all acks) (filter (in_lane to c) batches)
    → filter (in_lane to c) (map (after_acks all acks) (b ∷ batches)) ≡ map (after_acks all acks) (filter (in_lane to c) (b ∷ batches))
acked_by_test all acks to c b batches true is on = rw is (ap (λ (l : List OutBatch). after_acks all acks b ∷ l) on)
acked_by_test all acks to c b batches false is on = rw is on

pub made_acked : (all : List OutBatch) (acks : List Ack) (to : List ℕ) (c : ℕ) (batches : List OutBatch)
    → filter (in_lane to c) (map (after_acks all acks) batches) ≡ map (after_acks all acks) (filter (in_lane to c) batches)
made_acked all acks to c [] = refl
made_acked all acks to c (b ∷ batches) = acked_by_test all acks to c b batches (in_lane to c b) refl (made_acked all acks to c batches)

-- LINK. What is kept of a sender with these acts, a receiver with these, the messages and the replies.
abbrev pub at : Config → Peer → List KeptPeer → List Act → State
at config me peers acts = state_of config (record { opening = begun me peers; acts = acts })

abbrev pub MessageKept : Config → State → List ℕ → List ℕ → List Act → Message → Type 0
MessageKept config s to from acts message = (message.sender ≡ from) × Each (PartKept config s to from acts) message.parts

abbrev pub ReplyKept : List ℕ → List Act → Reply → Type 0
ReplyKept from acts reply = Each (AckTaken from acts) reply.acks

pub record Kept (config : Config) (s : State) (to from : List ℕ) (acts : List Act) (messages : List Message) (replies : List Reply) : Type 0 where
  pub lanes : Lanes config s to from acts
  pub lie : Each (MessageKept config s to from acts) messages
  pub name : Each (ReplyKept from acts) replies

-- a lane where batches keep their rows
same_rows : (config : Config) (s s' : State) (all : List OutBatch) (taken : List Taken) (n : ℕ) → Each (λ (b : OutBatch). rows_of config s b ≡ rows_of config s' b) all
    → Lane config s all taken n → Lane config s' all taken n
same_rows config s s' all taken n rows lane = record {
  heads = lane.heads;
  rest = lane.rest;
  split = lane.split;
  are = lane.are ∙ map_each (taken_as config s) (taken_as config s') lane.heads
      (each_weaker (λ (b : OutBatch). rows_of config s b ≡ rows_of config s' b) (λ (b : OutBatch). taken_as config s b ≡ taken_as config s' b)
      (λ b is. ap (λ (docs : List DocRow). (b.id, read_rows config 1 docs)) is) lane.heads
      (each_front (λ (b : OutBatch). rows_of config s b ≡ rows_of config s' b) lane.heads lane.rest
      (subst (λ (l : List OutBatch). Each (λ (b : OutBatch). rows_of config s b ≡ rows_of config s' b) l) (sym lane.split) rows)));
  count = lane.count;
  unknown = lane.unknown;
}

abbrev sent_with : ℕ → List DocRow → Sent
sent_with id docs = record { id = id; rows = docs }

same_content : (config : Config) (s s' : State) (all : List OutBatch) → Each (λ (b : OutBatch). rows_of config s b ≡ rows_of config s' b) all
    → map (sent_of config s) all ≡ map (sent_of config s') all
same_content config s s' all rows =
    map_each (sent_of config s) (sent_of config s') all
    (each_weaker (λ (b : OutBatch). rows_of config s b ≡ rows_of config s' b) (λ (b : OutBatch). sent_of config s b ≡ sent_of config s' b) (λ b is. ap (sent_with b.id) is) all rows)

lane_more : (config : Config) (s : State) (all more : List OutBatch) (taken : List Taken) (n : ℕ) → Each IsUnknown more → Lane config s all taken n → Lane config s (all ++ more) taken n
lane_more config s all more taken n unknown lane = record {
  heads = lane.heads;
  rest = lane.rest ++ more;
  split = sym (append_assoc lane.heads lane.rest more) ∙ ap (λ (l : List OutBatch). l ++ more) lane.split;
  are = lane.are;
  count = lane.count;
  unknown = each_append IsUnknown lane.rest more lane.unknown unknown;
}

taken_acked : (config : Config) (s s' : State) (all : List OutBatch) (acks : List Ack) (heads : List OutBatch) → s.changes ≡ s'.changes
    → map (taken_as config s) heads ≡ map (taken_as config s') (map (after_acks all acks) heads)
taken_acked config s s' all acks [] same = refl
taken_acked config s s' all acks (b ∷ heads) same =
    ap (λ (l : List Taken). taken_as config s b ∷ l) (taken_acked config s s' all acks heads same)
    ∙ ap (λ (changes : List Change). (b.id, read_rows config 1 (map (doc_of config) (filter_map (λ (id : ℕ). change_at id changes) b.changes))) ∷ map (taken_as config s') (map (after_acks all acks) heads)) same

content_acked : (config : Config) (s s' : State) (all : List OutBatch) (acks : List Ack) (batches : List OutBatch) → s.changes ≡ s'.changes
    → map (sent_of config s) batches ≡ map (sent_of config s') (map (after_acks all acks) batches)
content_acked config s s' all acks [] same = refl
content_acked config s s' all acks (b ∷ batches) same =
    ap (λ (l : List Sent). sent_of config s b ∷ l) (content_acked config s s' all acks batches same)
    ∙ ap (λ (changes : List Change). sent_with b.id (map (doc_of config) (filter_map (λ (id : ℕ). change_at id changes) b.changes)) ∷ map (sent_of config s') (map (after_acks all acks) batches)) same

lane_acked : (config : Config) (s s' : State) (batches : List OutBatch) (acks : List Ack) (all : List OutBatch) (taken : List Taken) (n : ℕ) → s.changes ≡ s'.changes → (lane : Lane config s all taken n)
    → Each (λ (b : OutBatch). is_acked_by batches acks b ≡ false) lane.rest → Lane config s' (map (after_acks batches acks) all) taken n
lane_acked config s s' batches acks all taken n same lane off = record {
  heads = map (after_acks batches acks) lane.heads;
  rest = map (after_acks batches acks) lane.rest;
  split = sym (map-append (after_acks batches acks) lane.heads lane.rest) ∙ ap (λ (l : List OutBatch). map (after_acks batches acks) l) lane.split;
  are = lane.are ∙ taken_acked config s s' batches acks lane.heads same;
  count = lane.count ∙ sym (length-map lane.heads (after_acks batches acks));
  unknown = each_map IsUnknown (after_acks batches acks) lane.rest
      (each_both IsUnknown (λ (b : OutBatch). is_acked_by batches acks b ≡ false) (λ (b : OutBatch). IsUnknown (after_acks batches acks b))
      (λ b is was. stays_unknown batches acks b b.standing is was) lane.rest lane.unknown off);
}

-- messages where what is made grows
part_grows : (config : Config) (s s' : State) (to from : List ℕ) (acts : List Act) (part : Part) → Lanes config s to from acts
    → Grows (content config s to part.channel) (content config s' to part.channel) → PartKept config s to from acts part → PartKept config s' to from acts part
part_grows config s s' to from acts part lanes grows kept =
    let below : loaded from part.channel acts ≤ length (made s to part.channel) =
    lane_within config s (made s to part.channel) (taken_of from part.channel acts) (loaded from part.channel acts) (lanes part.channel) in
    let same : length (content config s to part.channel) ≡ length (made s to part.channel) = length-map (made s to part.channel) (sent_of config s) in
    let begins : part.start ≤ loaded from part.channel acts = kept.begins in
    let within : part.start ≤ length (content config s to part.channel) = omega (arith, below, same, begins) in
    record {
      lies = (
        kept.lies.0 ++ grows.0,
        sym (append_assoc part.batches kept.lies.0 grows.0) ∙ (ap (λ (l : List Sent). l ++ grows.0) kept.lies.1
            ∙ (sym (drop-append-le part.start (content config s to part.channel) grows.0 within) ∙ ap (λ (l : List Sent). drop part.start l) grows.1)),
      );
      begins = kept.begins;
    }

messages_grow : (config : Config) (s s' : State) (to from : List ℕ) (acts : List Act) (messages : List Message) → Lanes config s to from acts
    → ((channel : ℕ) → Grows (content config s to channel) (content config s' to channel)) → Each (MessageKept config s to from acts) messages → Each (MessageKept config s' to from acts) messages
messages_grow config s s' to from acts messages lanes grows each =
    each_weaker (MessageKept config s to from acts) (MessageKept config s' to from acts)
    (λ message kept. (
      kept.0,
      each_weaker (PartKept config s to from acts) (PartKept config s' to from acts)
          (λ part was. part_grows config s s' to from acts part lanes (grows part.channel) was) message.parts kept.1,
    )) messages each

same_grows : (old new : List Sent) → old ≡ new → Grows old new
same_grows old new same = ([], append-nil old ∙ same)

-- WRITE
wrote_rows : (config : Config) (me : Peer) (peers : List KeptPeer) (acts : List Act) (writer : List ℕ) (number : ℕ) (rows : List TxRow) (b : OutBatch)
    → BatchUpTo (last_change_of config (begun me peers) acts) b → rows_of config (at config me peers acts) b ≡ rows_of config (at config me peers (Wrote writer number rows ∷ acts)) b
wrote_rows config me peers acts writer number rows b up =
    ap (λ (found : List Change). map (doc_of config) found) (sym (rows_found (last_change_of config (begun me peers) acts)
    (last_change_of config (begun me peers) acts + length (changes_from config me.group None (last_change_of config (begun me peers) acts + 1) (last_tx_of (begun me peers) acts + 1) (steps_of config rows)))
    (changes_of config (begun me peers) acts)
    (changes_from config me.group None (last_change_of config (begun me peers) acts + 1) (last_tx_of (begun me peers) acts + 1) (steps_of config rows)) b.changes up
    (changes_between config me.group None (last_change_of config (begun me peers) acts) _ (last_change_of config (begun me peers) acts + 1) _ (steps_of config rows) (omega arith) (omega arith))))

made_rows : (config : Config) (me : Peer) (peers : List KeptPeer) (acts : List Act) (writer : List ℕ) (number : ℕ) (rows : List TxRow) (to : List ℕ) (channel : ℕ)
    → Each (λ (b : OutBatch). rows_of config (at config me peers acts) b ≡ rows_of config (at config me peers (Wrote writer number rows ∷ acts)) b) (made (at config me peers acts) to channel)
made_rows config me peers acts writer number rows to channel =
    each_filter (λ (b : OutBatch). rows_of config (at config me peers acts) b ≡ rows_of config (at config me peers (Wrote writer number rows ∷ acts)) b) (in_lane to channel) (batches_of config (begun me peers) acts)
    (each_weaker (BatchUpTo (last_change_of config (begun me peers) acts)) (λ (b : OutBatch). rows_of config (at config me peers acts) b ≡ rows_of config (at config me peers (Wrote writer number rows ∷ acts)) b)
    (λ b up. wrote_rows config me peers acts writer number rows b up) (batches_of config (begun me peers) acts) (batches_within config me peers acts))

kept_wrote : (config : Config) (me : Peer) (peers : List KeptPeer) (mine : List Act) (to from : List ℕ) (acts : List Act) (messages : List Message) (replies : List Reply)
    → (writer : List ℕ) (number : ℕ) (rows : List TxRow) → Kept config (at config me peers mine) to from acts messages replies
    → Kept config (at config me peers (Wrote writer number rows ∷ mine)) to from acts messages replies
kept_wrote config me peers mine to from acts messages replies writer number rows kept = record {
  lanes = λ channel. same_rows config (at config me peers mine) (at config me peers (Wrote writer number rows ∷ mine)) (made (at config me peers mine) to channel) _ _
      (made_rows config me peers mine writer number rows to channel) (kept.lanes channel);
  lie = messages_grow config (at config me peers mine) (at config me peers (Wrote writer number rows ∷ mine)) to from acts messages kept.lanes
      (λ channel. same_grows _ _ (same_content config (at config me peers mine) (at config me peers (Wrote writer number rows ∷ mine)) (made (at config me peers mine) to channel)
      (made_rows config me peers mine writer number rows to channel))) kept.lie;
  name = kept.name;
}

-- ROUTE
pub new_unknown : (id : ℕ) (pieces : List Piece) → Each IsUnknown (batches_from id pieces)
new_unknown id [] = tt
new_unknown id (piece ∷ pieces) = (refl, new_unknown (id + 1) pieces)

kept_routed : (config : Config) (me : Peer) (peers : List KeptPeer) (mine : List Act) (to from : List ℕ) (acts : List Act) (messages : List Message) (replies : List Reply)
    → Kept config (at config me peers mine) to from acts messages replies → Kept config (at config me peers (Routed ∷ mine)) to from acts messages replies
kept_routed config me peers mine to from acts messages replies kept =
    record {
      lanes = λ channel. subst (λ (l : List OutBatch). Lane config (at config me peers (Routed ∷ mine)) l (taken_of from channel acts) (loaded from channel acts))
          (sym (filter-append (in_lane to channel) (batches_of config (begun me peers) mine) (batches_from (last_batch_of config (begun me peers) mine + 1) (next_pieces config (begun me peers) mine))))
          (same_rows config (at config me peers mine) (at config me peers (Routed ∷ mine)) _ _ _ (each_of _ (λ b. refl) _)
          (lane_more config (at config me peers mine) (made (at config me peers mine) to channel) (filter (in_lane to channel) (batches_from (last_batch_of config (begun me peers) mine + 1) (next_pieces config (begun me peers) mine))) _ _
          (each_filter IsUnknown (in_lane to channel) _ (new_unknown (last_batch_of config (begun me peers) mine + 1) (next_pieces config (begun me peers) mine))) (kept.lanes channel)));
      lie = messages_grow config (at config me peers mine) (at config me peers (Routed ∷ mine)) to from acts messages kept.lanes
          (λ channel. (
            map (sent_of config (at config me peers mine)) (filter (in_lane to channel) (batches_from (last_batch_of config (begun me peers) mine + 1) (next_pieces config (begun me peers) mine))),
            sym (map-append (sent_of config (at config me peers mine)) (made (at config me peers mine) to channel) _)
                ∙ ap (λ (l : List OutBatch). map (sent_of config (at config me peers mine)) l)
                (sym (filter-append (in_lane to channel) (batches_of config (begun me peers) mine) (batches_from (last_batch_of config (begun me peers) mine + 1) (next_pieces config (begun me peers) mine)))),
          )) kept.lie;
      name = kept.name;
    }

-- ACKS
kept_acked : (config : Config) (me : Peer) (peers : List KeptPeer) (mine : List Act) (to from : List ℕ) (acts : List Act) (messages : List Message) (replies : List Reply)
    → (by : List ℕ) (acks : List Ack) → Each (AckTaken from acts) acks → Kept config (at config me peers mine) to from acts messages replies
    → Kept config (at config me peers (Acked by acks ∷ mine)) to from acts messages replies
kept_acked config me peers mine to from acts messages replies by acks named kept = record {
  lanes = λ channel. subst (λ (l : List OutBatch). Lane config (at config me peers (Acked by acks ∷ mine)) l (taken_of from channel acts) (loaded from channel acts))
      (sym (made_acked (batches_of config (begun me peers) mine) acks to channel (batches_of config (begun me peers) mine)))
      (lane_acked config (at config me peers mine) (at config me peers (Acked by acks ∷ mine)) (batches_of config (begun me peers) mine) acks (made (at config me peers mine) to channel) _ _ refl (kept.lanes channel)
      (not_acked config (at config me peers mine) to from (last_batch_of config (begun me peers) mine) acts kept.lanes (batches_rise config me peers mine) acks named channel));
  lie = messages_grow config (at config me peers mine) (at config me peers (Acked by acks ∷ mine)) to from acts messages kept.lanes
      (λ channel. same_grows _ _ (content_acked config (at config me peers mine) (at config me peers (Acked by acks ∷ mine)) (batches_of config (begun me peers) mine) acks (made (at config me peers mine) to channel) refl
      ∙ ap (λ (l : List OutBatch). map (sent_of config (at config me peers (Acked by acks ∷ mine))) l)
      (sym (made_acked (batches_of config (begun me peers) mine) acks to channel (batches_of config (begun me peers) mine))))) kept.lie;
  name = kept.name;
}

-- SEND
front_by : (t : Bool) (b : OutBatch) (batches : List OutBatch) → (rest : List OutBatch) × (to_error batches ++ rest ≡ batches)
    → (rest : List OutBatch) × ((if t then b ∷ [] else b ∷ to_error batches) ++ rest ≡ b ∷ batches)
front_by true b batches front = (batches, refl)
front_by false b batches front = (front.0, ap (λ (l : List OutBatch). b ∷ l) front.1)

pub front_to_error : (batches : List OutBatch) → (rest : List OutBatch) × (to_error batches ++ rest ≡ batches)
front_to_error [] = ([], refl)
front_to_error (b ∷ batches) = front_by (is_erred b.standing) b batches (front_to_error batches)

pub part_kept : (config : Config) (s : State) (to from : List ℕ) (acts : List Act) (channel : ℕ) → Lanes config s to from acts → PartKept config s to from acts (part_of config s to channel)
part_kept config s to from acts channel lanes =
    let front : (rest : List OutBatch) × (to_error (drop (acked s to channel) (made s to channel)) ++ rest ≡ drop (acked s to channel) (made s to channel)) =
    front_to_error (drop (acked s to channel) (made s to channel)) in
    record {
      lies = (
        map (sent_of config s) (drop (most_to_send config channel) (to_error (drop (acked s to channel) (made s to channel))) ++ front.0),
        sym (map-append (sent_of config s) (take (most_to_send config channel) (to_error (drop (acked s to channel) (made s to channel)))) _)
            ∙ (ap (λ (l : List OutBatch). map (sent_of config s) l)
            (sym (append_assoc (take (most_to_send config channel) (to_error (drop (acked s to channel) (made s to channel)))) (drop (most_to_send config channel) (to_error (drop (acked s to channel) (made s to channel)))) front.0)
            ∙ (ap (λ (l : List OutBatch). l ++ front.0) (take-append-drop (most_to_send config channel) (to_error (drop (acked s to channel) (made s to channel)))) ∙ front.1))
            ∙ sym (drop-map (sent_of config s) (acked s to channel) (made s to channel))),
      );
      begins = lane_known config s (made s to channel) (taken_of from channel acts) (loaded from channel acts) (lanes channel);
    }

pub message_kept : (config : Config) (s : State) (to from : List ℕ) (acts : List Act) → s.me.id ≡ from → Lanes config s to from acts → MessageKept config s to from acts (message_of config s to [])
message_kept config s to from acts is lanes = (
  is,
  each_map (PartKept config s to from acts) (part_of config s to) (channels_of config [])
      (each_of (λ (channel : ℕ). PartKept config s to from acts (part_of config s to channel)) (λ channel. part_kept config s to from acts channel lanes) (channels_of config [])),
)

-- DELIVER
each_at : {X : Type 0} (P : X → Type 0) (xs : List X) (which : ℕ) (x : X) → slice_get xs which ≡ Some x → Each P xs → P x
each_at P [] which x is each = absurd (cc)
each_at P (y ∷ ys) zero x is each = let same : y ≡ x = cc in subst P same each.0
each_at P (y ∷ ys) (suc which) x is each = each_at P ys which x is each.1

pub kept_delivered : (config : Config) (s : State) (to from : List ℕ) (acts : List Act) (messages : List Message) (replies : List Reply) (message : Message)
    → MessageKept config s to from acts message → Kept config s to from acts messages replies
    → Kept config s to from (received_parts config message.sender message.parts acts) messages
    (record { receiver = message.receiver; sender = message.sender; acks = acks_for_parts config message.sender message.parts acts } ∷ replies)
kept_delivered config s to from acts messages replies message lies kept =
    let took : Took config s to from acts (received_parts config message.sender message.parts acts) (acks_for_parts config message.sender message.parts acts) =
    subst (λ (name : List ℕ). Took config s to from acts (received_parts config name message.parts acts) (acks_for_parts config name message.parts acts)) (sym lies.0)
    (parts_took config s to from message.parts acts lies.1 kept.lanes) in
    record {
      lanes = took.goes.lanes;
      lie = each_weaker (MessageKept config s to from acts) (MessageKept config s to from (received_parts config message.sender message.parts acts))
          (λ m was. (was.0, parts_later config s to from acts (received_parts config message.sender message.parts acts) m.parts took.goes.more was.1)) messages kept.lie;
      name = (
        took.named,
        each_weaker (ReplyKept from acts) (ReplyKept from (received_parts config message.sender message.parts acts))
            (λ r was. acks_later from acts (received_parts config message.sender message.parts acts) r.acks took.goes.kept was) replies kept.name,
      );
    }

-- LINK
abbrev pub others : Peer → List KeptPeer
others other = record { peer = other; token = []; child = false } ∷ []

abbrev pub link_of : Peer → Peer → List Act → List Act → List Message → List Reply → Link
link_of me other mine acts messages replies = record {
  sender = record { opening = paired me other; acts = mine };
  receiver = record { opening = paired other me; acts = acts };
  messages = messages;
  replies = replies;
}

abbrev pub Stands : Config → Peer → Peer → List Act → List Act → List Message → List Reply → Type 0
Stands config me other mine acts messages replies = Kept config (at config me (others other) mine) other.id me.id acts messages replies

pub write_stands : (config : Config) (me other : Peer) (mine acts : List Act) (messages : List Message) (replies : List Reply) (r : Result Written WriteRefusal) (writer : List ℕ) (number : ℕ) (rows : List TxRow)
    → Stands config me other mine acts messages replies → Stands config me other (write_acts r writer number rows ++ mine) acts messages replies
write_stands config me other mine acts messages replies (Ok (Done first count)) writer number rows kept =
    kept_wrote config me (others other) mine other.id me.id acts messages replies writer number rows kept
write_stands config me other mine acts messages replies (Ok (Again first count)) writer number rows kept = kept
write_stands config me other mine acts messages replies (Err refusal) writer number rows kept = kept

route_by : (config : Config) (me other : Peer) (mine acts : List Act) (messages : List Message) (replies : List Reply) (b : Bool)
    → Stands config me other mine acts messages replies → Stands config me other ((if b then Routed ∷ [] else []) ++ mine) acts messages replies
route_by config me other mine acts messages replies true kept = kept_routed config me (others other) mine other.id me.id acts messages replies kept
route_by config me other mine acts messages replies false kept = kept

pub route_stands : (config : Config) (me other : Peer) (mine acts : List Act) (messages : List Message) (replies : List Reply) (r : Result ℕ NodeFault) (s : State)
    → Stands config me other mine acts messages replies → Stands config me other (route_acts r s ++ mine) acts messages replies
route_stands config me other mine acts messages replies (Err fault) s kept = kept
route_stands config me other mine acts messages replies (Ok batches) s kept = route_by config me other mine acts messages replies (nat_lt 0 (length (unrouted s))) kept

acks_by_count : (config : Config) (me other : Peer) (mine acts : List Act) (messages : List Message) (replies : List Reply) (by : List ℕ) (acks : List Ack) (b : Bool) → Each (AckTaken me.id acts) acks
    → Stands config me other mine acts messages replies → Stands config me other ((if b then [] else Acked by acks ∷ []) ++ mine) acts messages replies
acks_by_count config me other mine acts messages replies by acks true named kept = kept
acks_by_count config me other mine acts messages replies by acks false named kept = kept_acked config me (others other) mine other.id me.id acts messages replies by acks named kept

pub acks_stand : (config : Config) (me other : Peer) (mine acts : List Act) (messages : List Message) (replies : List Reply) (r : Result ℕ AckRefusal) (by : List ℕ) (acks : List Ack) → Each (AckTaken me.id acts) acks
    → Stands config me other mine acts messages replies → Stands config me other (acks_acts r by acks ++ mine) acts messages replies
acks_stand config me other mine acts messages replies (Err refusal) by acks named kept = kept
acks_stand config me other mine acts messages replies (Ok changed) by acks named kept = acks_by_count config me other mine acts messages replies by acks (changed == 0) named kept

-- what follows from what is kept follows after a delivery and an answer
abbrev Follows : Config → Peer → Peer → (Link → Type 0) → Type 0
Follows config me other Goal = (mine acts : List Act) (messages : List Message) (replies : List Reply) → Stands config me other mine acts messages replies
    → Goal (link_of me other mine acts messages replies)

deliver_follows : (config : Config) (me other : Peer) (Goal : Link → Type 0) → Follows config me other Goal → (mine acts : List Act) (messages : List Message) (replies : List Reply) (which : ℕ) (o : Option Message)
    → slice_get messages which ≡ o → Stands config me other mine acts messages replies → Goal (delivered config (link_of me other mine acts messages replies) o)
deliver_follows config me other Goal follows mine acts messages replies which None is kept = follows mine acts messages replies kept
deliver_follows config me other Goal follows mine acts messages replies which (Some message) is kept =
    follows mine _ messages _ (kept_delivered config (at config me (others other) mine) other.id me.id acts messages replies message
    (each_at (MessageKept config (at config me (others other) mine) other.id me.id acts) messages which message is kept.lie) kept)

answer_follows : (config : Config) (me other : Peer) (Goal : Link → Type 0) → Follows config me other Goal → (mine acts : List Act) (messages : List Message) (replies : List Reply) (which : ℕ) (o : Option Reply)
    → slice_get replies which ≡ o → Stands config me other mine acts messages replies → Goal (answered config (link_of me other mine acts messages replies) o)
answer_follows config me other Goal follows mine acts messages replies which None is kept = follows mine acts messages replies kept
answer_follows config me other Goal follows mine acts messages replies which (Some reply) is kept =
    follows _ acts messages replies (acks_stand config me other mine acts messages replies (acks_answer (at config me (others other) mine) reply.receiver reply.acks) reply.receiver reply.acks
    (each_at (ReplyKept me.id acts) replies which reply is kept.name) kept)

abbrev LaterOf : Config → (Link → Type 0) → List LinkEvent → Link → Type 0
LaterOf config Goal events l = Goal (link_after config l events)

always : (config : Config) (me other : Peer) (Goal : Link → Type 0) → Follows config me other Goal → (events : List LinkEvent) → Follows config me other (LaterOf config Goal events)
always config me other Goal follows [] mine acts messages replies kept = follows mine acts messages replies kept
always config me other Goal follows (Write writer number rows ∷ events) mine acts messages replies kept =
    always config me other Goal follows events _ acts messages replies
    (write_stands config me other mine acts messages replies (write_answer config (at config me (others other) mine) writer number rows) writer number rows kept)
always config me other Goal follows (Route ∷ events) mine acts messages replies kept =
    always config me other Goal follows events _ acts messages replies
    (route_stands config me other mine acts messages replies (route_answer config (at config me (others other) mine)) (at config me (others other) mine) kept)
always config me other Goal follows (Send ∷ events) mine acts messages replies kept =
    always config me other Goal follows events mine acts (message_of config (at config me (others other) mine) other.id [] ∷ messages) replies
    (record { lanes = kept.lanes; lie = (message_kept config (at config me (others other) mine) other.id me.id acts refl kept.lanes, kept.lie); name = kept.name })
always config me other Goal follows (Deliver which ∷ events) mine acts messages replies kept =
    deliver_follows config me other (LaterOf config Goal events) (always config me other Goal follows events) mine acts messages replies which (slice_get messages which) refl kept
always config me other Goal follows (Answer which ∷ events) mine acts messages replies kept =
    answer_follows config me other (LaterOf config Goal events) (always config me other Goal follows events) mine acts messages replies which (slice_get replies which) refl kept

pub at_first : (config : Config) (me other : Peer) → Stands config me other [] [] [] []
at_first config me other = record { lanes = λ channel. record { heads = []; rest = []; split = refl; are = refl; count = refl; unknown = tt }; lie = tt; name = tt }

lane_in_step : (config : Config) (me other : Peer) (channel : ℕ) → Follows config me other (λ (l : Link). LaneInStep config l.sender l.receiver channel)
lane_in_step config me other channel mine acts messages replies kept = record {
  front = lane_front config (at config me (others other) mine) _ _ _ (kept.lanes channel);
  known = lane_known config (at config me (others other) mine) _ _ _ (kept.lanes channel);
  within = lane_within config (at config me (others other) mine) _ _ _ (kept.lanes channel);
}

pub in_step : LanesStayInStep
in_step config me other events channel =
    always config me other (λ (l : Link). LaneInStep config l.sender l.receiver channel) (lane_in_step config me other channel) events [] [] [] [] (at_first config me other)

-- MESSAGES AND REPLIES
pub part_in_step : (config : Config) (me other : Peer) (mine acts : List Act) (messages : List Message) (replies : List Reply) (part : Part)
    → PartKept config (at config me (others other) mine) other.id me.id acts part
    → PartInStep config (link_of me other mine acts messages replies).sender (link_of me other mine acts messages replies).receiver part
part_in_step config me other mine acts messages replies part kept = record {
  lies = (kept.lies.0, kept.lies.1 ∙ drop-map (sent_of config (at config me (others other) mine)) part.start (made (at config me (others other) mine) other.id part.channel));
  begins = kept.begins;
}

follow_messages : (config : Config) (me other : Peer) → Follows config me other (MessagesInStep config)
follow_messages config me other mine acts messages replies kept =
    record {
      parts = all_from_each (λ (m : Message). All (PartInStep config (link_of me other mine acts messages replies).sender (link_of me other mine acts messages replies).receiver) m.parts) messages
          (each_weaker (MessageKept config (at config me (others other) mine) other.id me.id acts)
          (λ (m : Message). All (PartInStep config (link_of me other mine acts messages replies).sender (link_of me other mine acts messages replies).receiver) m.parts)
          (λ m was. all_from_each (PartInStep config (link_of me other mine acts messages replies).sender (link_of me other mine acts messages replies).receiver) m.parts
          (each_weaker (PartKept config (at config me (others other) mine) other.id me.id acts)
          (PartInStep config (link_of me other mine acts messages replies).sender (link_of me other mine acts messages replies).receiver)
          (λ part lies. part_in_step config me other mine acts messages replies part lies) m.parts was.1)) messages kept.lie);
      oks = all_from_each (λ (r : Reply). All (AckTaken me.id acts) r.acks) replies
          (each_weaker (ReplyKept me.id acts) (λ (r : Reply). All (AckTaken me.id acts) r.acks) (λ r was. all_from_each (AckTaken me.id acts) r.acks was) replies kept.name);
    }

pub messages_in_step : MessagesStayInStep
messages_in_step config me other events =
    always config me other (MessagesInStep config) (follow_messages config me other) events [] [] [] [] (at_first config me other)
