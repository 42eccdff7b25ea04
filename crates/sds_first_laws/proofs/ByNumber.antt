-- The loads of a message by the numbers of its batches make what its delivery by places makes.
use Rattle.std.proofs.Common.{◌≡◌, ℕ, ◌+◌, ◌<◌, ◌≤◌, ◌^◌, zero, suc, Bool, true, false, ◌&&◌, ◌==◌, not, List, [], ◌∷◌, ◌++◌, length, take, drop, get_or, Option, None, Some, Result, Ok, Err, refl, sym, ap, subst, ◌∙◌, arith, length-append}
use Rattle.std.specs.Prelude.{nat_le, if◌then◌else◌, map, filter}
use Rattle.std.specs.Str.{bytes_eq}
use Rattle.std.proofs.lemmas.List.{drop-drop}
use Rattle.std.proofs.lemmas.Slice.Eq.{bytes_eq-Decides}
use Rattle.std.proofs.lemmas.Bool.{eqb-true, eqb-false}
use Rattle.std.proofs.lemmas.Bool.Decides.{nat_tests}
use Rattle.sds_value.specs.declared.row.DocRow.{DocRow}
use Rattle.sds_value.specs.declared.row.Peer.{Peer}
use Rattle.sds_types.specs.declared.config.Config.{Config}
use Rattle.sds_types.specs.declared.ack.Ack.{Ack}
use Rattle.sds_types.specs.declared.load_answer.LoadAnswer.{LoadAnswer}
use Rattle.sds_types.specs.declared.load_answer.LoadAnswer.TheVariants as load_answer
use Rattle.sds_types.specs.declared.load_answer.PeerRefusal.{PeerRefusal}
use Rattle.sds_types.specs.declared.lane.LaneIn.{LaneIn}
use Rattle.sds_types.specs.declared.batch.OutBatch.{OutBatch}
use Rattle.sds_first_spec.specs.declared.batch.Sent.{Sent}
use Rattle.sds_types.specs.declared.row.Change.{Change}
use Rattle.sds_first_spec.specs.declared.row.LoadRow.{LoadRow}
use Rattle.sds_first_spec.specs.Acts.{Act, State, History}
use Rattle.sds_first_spec.specs.Acts.Act.{Wrote, Routed, Loaded, Acked}
use Rattle.sds_first_spec.specs.Calls.{is_peer, may_add, may_count, load_answer_of, load_acts}
use Rattle.sds_first_spec.specs.Changes.{changes_from}
use Rattle.sds_first_spec.specs.History.{captured_of, last_tx_of, lanes_of, state_of, tables_of}
use Rattle.sds_first_spec.specs.InStep.{Taken, taken_of, taken_as}
use Rattle.sds_first_spec.specs.Kept.{is_lane, highest_in, with_lane}
use Rattle.sds_first_spec.specs.Lanes.{made, loaded, rows_of}
use Rattle.sds_first_spec.specs.One.{one, paired}
use Rattle.sds_first_spec.specs.Outcome.{load_steps, read_rows}
use Rattle.sds_first_spec.specs.World.{sent_of, after_batch, ack_at, received, acks_for}
use Rattle.sds_first_spec.proofs.Uncaptured.{no_changes}
use Rattle.sds_first_laws.specs.Counters.{Rising}
use Rattle.sds_first_laws.specs.Loads.{is_loaded, load_of, after_load, after_loads, loads_acks}
use Rattle.sds_first_laws.proofs.Delivery.{Lane, Lanes, content, same_number, same_lane, Stepped, by_place}
use Rattle.sds_first_laws.proofs.Each.{Each}

-- every act is a load of a batch from this node in the first channel
abbrev pub IsLoadFrom : List ℕ → Act → Type 0
IsLoadFrom from (Wrote writer number rows) = ⊥
IsLoadFrom from Routed = ⊥
IsLoadFrom from (Loaded place channel batch rows) = (place ≡ from) × (channel ≡ 0)
IsLoadFrom from (Acked peer acks) = ⊥

-- THE HIGHEST NUMBER of a lane is that of the batch taken last.
abbrev last_from : ℕ → List OutBatch → ℕ
last_from k [] = k
last_from k (b ∷ batches) = last_from b.id batches

abbrev last_taken : ℕ → List Taken → ℕ
last_taken k [] = k
last_taken k (t ∷ taken) = last_taken t.0 taken

last_same : (config : Config) (s : State) (k : ℕ) (heads : List OutBatch) → last_taken k (map (taken_as config s) heads) ≡ last_from k heads
last_same config s k [] = refl
last_same config s k (b ∷ heads) = last_same config s b.id heads

last_append : (k : ℕ) (taken : List Taken) (id : ℕ) (rows : List LoadRow) → last_taken k (taken ++ (id, rows) ∷ []) ≡ id
last_append k [] id rows = refl
last_append k (t ∷ taken) id rows = last_append t.0 taken id rows

highest_by : (new lane : LaneIn) (lanes : List LaneIn) (t : Bool) → is_lane new.peer new.channel lane ≡ t → highest_in new.peer new.channel (with_lane new lanes) ≡ new.highest
    → highest_in new.peer new.channel (if t then new ∷ lanes else lane ∷ with_lane new lanes) ≡ new.highest
highest_by new lane lanes true is on = rw (same_lane new.peer new.channel) refl
highest_by new lane lanes false is on = rw is on

highest_same : (new : LaneIn) (lanes : List LaneIn) → highest_in new.peer new.channel (with_lane new lanes) ≡ new.highest
highest_same new [] = rw (same_lane new.peer new.channel) refl
highest_same new (lane ∷ lanes) = highest_by new lane lanes (is_lane new.peer new.channel lane) refl (highest_same new lanes)

abbrev lane_with : List ℕ → ℕ → ℕ → LaneIn
lane_with from channel batch = record { peer = from; channel = channel; highest = batch; ignored = Some false; error = None }

taken_last : (from : List ℕ) (taken : List Taken) (batch : ℕ) (rows : List LoadRow) (lanes : List LaneIn)
    → highest_in from 0 (with_lane (lane_with from 0 batch) lanes) ≡ last_taken 0 (if bytes_eq from from && 0 == 0 then taken ++ (batch, rows) ∷ [] else taken)
taken_last from taken batch rows lanes = highest_same (lane_with from 0 batch) lanes ∙ sym (rw (same_lane from 0) (last_append 0 taken batch rows))

highest_is : (me other : Peer) (from : List ℕ) (acts : List Act) → Each (IsLoadFrom from) acts → highest_in from 0 (lanes_of (paired me other) acts) ≡ last_taken 0 (taken_of from 0 acts)
highest_is me other from [] each = refl
highest_is me other from (Wrote writer number rows ∷ acts) each = absurd each.0
highest_is me other from (Routed ∷ acts) each = absurd each.0
highest_is me other from (Loaded place channel batch rows ∷ acts) each =
    rw (each.0.0, each.0.1) (taken_last from (taken_of from 0 acts) batch rows (lanes_of (paired me other) acts))
highest_is me other from (Acked peer acks ∷ acts) each = absurd each.0

-- COUNTERS of a node that only loads
one_further : (b : Bool) (n : ℕ) → b ≡ true → (if b then n + 1 else n) ≡ n + 1
one_further true n is = refl
one_further false n is = cc

pub loaded_is : (from : List ℕ) (acts : List Act) → Each (IsLoadFrom from) acts → loaded from 0 acts ≡ length acts
loaded_is from [] each = refl
loaded_is from (Wrote writer number rows ∷ acts) each = absurd each.0
loaded_is from (Routed ∷ acts) each = absurd each.0
loaded_is from (Loaded place channel batch rows ∷ acts) each =
    let on : loaded from 0 (Loaded place channel batch rows ∷ acts) ≡ loaded from 0 acts + 1 = one_further (bytes_eq place from && channel == 0) (loaded from 0 acts) (rw (each.0.0, each.0.1) (same_lane from 0)) in
    let rest : loaded from 0 acts ≡ length acts = loaded_is from acts each.1 in omega (arith, on, rest)
loaded_is from (Acked peer acks ∷ acts) each = absurd each.0

txs_are : (me other : Peer) (from : List ℕ) (acts : List Act) → Each (IsLoadFrom from) acts → last_tx_of (paired me other) acts ≡ length acts
txs_are me other from [] each = refl
txs_are me other from (Wrote writer number rows ∷ acts) each = absurd each.0
txs_are me other from (Routed ∷ acts) each = absurd each.0
txs_are me other from (Loaded place channel batch rows ∷ acts) each = let rest : last_tx_of (paired me other) acts ≡ length acts = txs_are me other from acts each.1 in omega (arith, rest)
txs_are me other from (Acked peer acks ∷ acts) each = absurd each.0

pub none_captured : (me other : Peer) (from : List ℕ) (acts : List Act) → Each (IsLoadFrom from) acts → captured_of one (paired me other) acts ≡ []
none_captured me other from [] each = refl
none_captured me other from (Wrote writer number rows ∷ acts) each = absurd each.0
none_captured me other from (Routed ∷ acts) each = absurd each.0
none_captured me other from (Loaded place channel batch rows ∷ acts) each =
    ap (λ (l : List Change). captured_of one (paired me other) acts ++ l) (no_changes me.group place _ _ (load_steps one (tables_of one (paired me other) acts) rows))
    ∙ ap (λ (l : List Change). l ++ []) (none_captured me other from acts each.1)
none_captured me other from (Acked peer acks ∷ acts) each = absurd each.0

abbrev pub behind : Peer → Peer → List Act → History
behind me other acts = record { opening = paired me other; acts = acts }

fits_by : (a b c : ℕ) → a + 1 ≤ 2 ^ 62 → b + 1 ≤ 2 ^ 62 → c ≤ 2 ^ 62 → (may_add a 1 && (may_add b 1 && may_add c 0)) ≡ true
fits_by a b c first second third = rw (fits (a + 1) first, fits (b + 1) second, fits (c + 0) (omega (arith, third))) refl where
  fits : (n : ℕ) → n ≤ 2 ^ 62 → nat_le n (2 ^ 62) ≡ true
  fits n le = grind (arith, nat_tests)

may_load : (me other : Peer) (from : List ℕ) (acts : List Act) → Each (IsLoadFrom from) acts → length acts + 1 ≤ 2 ^ 62 → may_count (state_of one (behind me other acts)) 0 ≡ true
may_load me other from acts each few =
    let txs : last_tx_of (paired me other) acts ≡ length acts = txs_are me other from acts each in
    let none : length (captured_of one (paired me other) acts) ≡ 0 = ap length (none_captured me other from acts each) in
    fits_by (0 + length acts) (last_tx_of (paired me other) acts) (0 + length (captured_of one (paired me other) acts)) (omega (arith, few)) (omega (arith, few, txs)) (omega (arith, none))

-- THE ANSWER of a load, by the number
answers_again : (s : State) (from : List ℕ) (id : ℕ) (rows : List DocRow) → is_peer from s ≡ true → nat_le id (highest_in from 0 s.lanes) ≡ true → load_answer_of one s from 0 id rows ≡ Ok load_answer.Again
answers_again s from id rows known le = rw (known, le) refl

answers_loaded : (s : State) (from : List ℕ) (id : ℕ) (rows : List DocRow) → is_peer from s ≡ true → nat_le id (highest_in from 0 s.lanes) ≡ false → may_count s 0 ≡ true
    → load_answer_of one s from 0 id rows ≡ Ok (load_answer.Loaded (s.counts.acts + 1))
answers_loaded s from id rows known le fits =
    let none : length (changes_from one s.me.group (Some from) (s.counts.last_change + 1) (s.counts.last_tx + 1) (load_steps one s.tables (read_rows one 1 rows))) ≡ 0 =
    ap length (no_changes s.me.group from (s.counts.last_change + 1) (s.counts.last_tx + 1) (load_steps one s.tables (read_rows one 1 rows))) in
    rw (known, le, none, fits) refl

-- PLACES. The batch at the next place has a higher number than all before it, and one at an earlier place has not.
rises : (low high : ℕ) (heads rest : List OutBatch) → Rising low high (heads ++ rest) → low ≤ last_from low heads
rises low high [] rest rising = omega arith
rises low high (b ∷ heads) rest rising = let on : b.id ≤ last_from b.id heads = rises b.id high heads rest rising.1 in omega (arith, on, rising.0)

next_above : (low high : ℕ) (heads : List OutBatch) (b : OutBatch) (rest : List OutBatch) → Rising low high (heads ++ b ∷ rest) → last_from low heads < b.id
next_above low high [] b rest rising = rising.0
next_above low high (h ∷ heads) b rest rising = next_above h.id high heads b rest rising.1

at_most_last : (low high p : ℕ) (heads rest : List OutBatch) (b : OutBatch) (tail : List OutBatch) → p < length heads → Rising low high (heads ++ rest) → b ∷ tail ≡ drop p (heads ++ rest)
    → b.id ≤ last_from low heads
at_most_last low high p [] rest b tail within rising at = absurd (omega (arith, within))
at_most_last low high zero (h ∷ heads) rest b tail within rising at =
    let same : b.id ≡ h.id = ap (λ (l : List OutBatch). (get_or l 0 b).id) at in
    let on : h.id ≤ last_from h.id heads = rises h.id high heads rest rising.1 in omega (arith, same, on)
at_most_last low high (suc p) (h ∷ heads) rest b tail within rising at = at_most_last h.id high p heads rest b tail (omega (arith, within)) rising.1 at

longer : (low high : ℕ) (batches : List OutBatch) → Rising low high batches → low + length batches ≤ high
longer low high [] rising = omega (arith, rising)
longer low high (b ∷ batches) rising = let on : b.id + length batches ≤ high = longer b.id high batches rising.1 in omega (arith, on, rising.0)

dropped : (heads rest : List OutBatch) → drop (length heads) (heads ++ rest) ≡ rest
dropped [] rest = refl
dropped (b ∷ heads) rest = dropped heads rest

-- what a receiver and the batches of a lane have in common
pub record Meets (s : State) (me other : Peer) (acts : List Act) : Type 0 where
  pub loads : Each (IsLoadFrom other.id) acts
  pub lanes : Lanes one s me.id other.id acts
  pub rising : Rising 0 (2 ^ 62) (made s me.id 0)

is_known : (me other : Peer) (acts : List Act) → is_peer other.id (state_of one (behind me other acts)) ≡ true
is_known me other acts = rw ((bytes_eq-Decides other.id other.id).1 refl) refl

highest_of : (s : State) (me other : Peer) (acts : List Act) (meets : Meets s me other acts) → highest_in other.id 0 (lanes_of (paired me other) acts) ≡ last_from 0 (meets.lanes 0).heads
highest_of s me other acts meets = highest_is me other other.id acts meets.loads ∙ (ap (last_taken 0) (meets.lanes 0).are ∙ last_same one s 0 (meets.lanes 0).heads)

not_below : (a b : ℕ) → b < a → nat_le a b ≡ false
not_below a b lt = grind (arith, nat_tests)

is_below : (a b : ℕ) → a ≤ b → nat_le a b ≡ true
is_below a b le = grind (arith, nat_tests)

-- the batch at the next place is loaded now
next_loaded : (s : State) (me other : Peer) (acts : List Act) (meets : Meets s me other acts) (b : OutBatch) (tail : List OutBatch) (rows : List DocRow) → b ∷ tail ≡ drop (loaded other.id 0 acts) (made s me.id 0)
    → load_answer_of one (state_of one (behind me other acts)) other.id 0 b.id rows ≡ Ok (load_answer.Loaded ((state_of one (behind me other acts)).counts.acts + 1))
next_loaded s me other acts meets b tail rows at =
    let lane : Lane one s (made s me.id 0) (taken_of other.id 0 acts) (loaded other.id 0 acts) = meets.lanes 0 in
    let rest : b ∷ tail ≡ lane.rest = at ∙ (ap (λ (k : ℕ). drop k (made s me.id 0)) lane.count ∙ (ap (λ (l : List OutBatch). drop (length lane.heads) l) (sym lane.split) ∙ dropped lane.heads lane.rest)) in
    let all : lane.heads ++ b ∷ tail ≡ made s me.id 0 = ap (λ (l : List OutBatch). lane.heads ++ l) rest ∙ lane.split in
    let rising : Rising 0 (2 ^ 62) (lane.heads ++ b ∷ tail) = subst (λ (l : List OutBatch). Rising 0 (2 ^ 62) l) (sym all) meets.rising in
    let above : last_from 0 lane.heads < b.id = next_above 0 (2 ^ 62) lane.heads b tail rising in
    let count : loaded other.id 0 acts ≡ length acts = loaded_is other.id acts meets.loads in
    let heads : loaded other.id 0 acts ≡ length lane.heads = lane.count in
    let len : 0 + length (lane.heads ++ b ∷ tail) ≤ 2 ^ 62 = longer 0 (2 ^ 62) (lane.heads ++ b ∷ tail) rising in
    let sum : length (lane.heads ++ b ∷ tail) ≡ length lane.heads + length (b ∷ tail) = length-append lane.heads (b ∷ tail) in
    answers_loaded (state_of one (behind me other acts)) other.id b.id rows (is_known me other acts)
    (subst (λ (k : ℕ). nat_le b.id k ≡ false) (sym (highest_of s me other acts meets)) (not_below b.id (last_from 0 lane.heads) above))
    (may_load me other other.id acts meets.loads (omega (arith, count, heads, len, sum)))

-- the batch at an earlier place was loaded before
earlier_again : (s : State) (me other : Peer) (acts : List Act) (meets : Meets s me other acts) (p : ℕ) (b : OutBatch) (tail : List OutBatch) (rows : List DocRow) → p < loaded other.id 0 acts → b ∷ tail ≡ drop p (made s me.id 0)
    → load_answer_of one (state_of one (behind me other acts)) other.id 0 b.id rows ≡ Ok load_answer.Again
earlier_again s me other acts meets p b tail rows lt at =
    let lane : Lane one s (made s me.id 0) (taken_of other.id 0 acts) (loaded other.id 0 acts) = meets.lanes 0 in
    let below : b.id ≤ last_from 0 lane.heads = at_most_last 0 (2 ^ 62) p lane.heads lane.rest b tail (subst (λ (k : ℕ). p < k) lane.count lt)
    (subst (λ (l : List OutBatch). Rising 0 (2 ^ 62) l) (sym lane.split) meets.rising) (at ∙ ap (λ (l : List OutBatch). drop p l) (sym lane.split)) in
    answers_again (state_of one (behind me other acts)) other.id b.id rows (is_known me other acts)
    (subst (λ (k : ℕ). nat_le b.id k ≡ true) (sym (highest_of s me other acts meets)) (is_below b.id (last_from 0 lane.heads) below))

-- LOADS against places, batch by batch
pub record SameBoth (s : State) (me other : Peer) (p : ℕ) (batches : List OutBatch) (acts : List Act) : Type 0 where
  pub takes : after_loads one other.id 0 (map (sent_of one s) batches) (behind me other acts) ≡ behind me other (received one other.id 0 (p + 1) (map (sent_of one s) batches) acts)
  pub says : loads_acks one other.id 0 (map (sent_of one s) batches) (behind me other acts) ≡ acks_for one other.id 0 (p + 1) (map (sent_of one s) batches) acts

abbrev ack_of : OutBatch → Ack
ack_of b = record { batch = b.id; error = None }

received_loads : (from : List ℕ) (c place : ℕ) (sent : Sent) (acts : List Act) (t : Bool) → c ≡ 0 → Each (IsLoadFrom from) acts
    → Each (IsLoadFrom from) (if t then Loaded from c sent.id (read_rows one 1 sent.rows) ∷ acts else acts)
received_loads from c place sent acts true is each = ((refl, is), each)
received_loads from c place sent acts false is each = each

pub all_loads : (from : List ℕ) (place : ℕ) (sents : List Sent) (acts : List Act) → Each (IsLoadFrom from) acts → Each (IsLoadFrom from) (received one from 0 place sents acts)
all_loads from place [] acts each = each
all_loads from place (sent ∷ sents) acts each =
    all_loads from (place + 1) sents (after_batch one from 0 place sent acts) (received_loads from 0 place sent acts (place == loaded from 0 acts + 1) refl each)

abbrev taken_act : State → List ℕ → OutBatch → Act
taken_act s from b = Loaded from 0 b.id (read_rows one 1 (rows_of one s b))

-- the definition's step where the test on the place is known
batch_step : (s : State) (from : List ℕ) (p : ℕ) (b : OutBatch) (acts : List Act) (t : Bool) → (p + 1 == loaded from 0 acts + 1) ≡ t
    → after_batch one from 0 (p + 1) (sent_of one s b) acts ≡ (if t then taken_act s from b ∷ acts else acts)
batch_step s from p b acts t is = ap (λ (u : Bool). if u then taken_act s from b ∷ acts else acts) is

ack_step : (s : State) (from : List ℕ) (p : ℕ) (b : OutBatch) (acts : List Act) → p ≤ loaded from 0 acts → ack_at from 0 (p + 1) (sent_of one s b) acts ≡ ack_of b ∷ []
ack_step s from p b acts le = ap (λ (u : Bool). if u then ack_of b ∷ [] else []) (is_below (p + 1) (loaded from 0 acts + 1) (omega (arith, le)))

-- both make the same of a batch, and then the same of the others
step_same : (s : State) (me other : Peer) (p : ℕ) (b : OutBatch) (batches : List OutBatch) (acts next : List Act) → p ≤ loaded other.id 0 acts
    → after_batch one other.id 0 (p + 1) (sent_of one s b) acts ≡ next
    → is_loaded (load_of one other.id 0 (sent_of one s b) (behind me other acts)) ≡ true → after_load one other.id 0 (sent_of one s b) (behind me other acts) ≡ behind me other next
    → SameBoth s me other (p + 1) batches next → SameBoth s me other p (b ∷ batches) acts
step_same s me other p b batches acts next le batch answer load on =
    record {
      takes = rw answer (ap (λ (h : History). after_loads one other.id 0 (map (sent_of one s) batches) h) load
          ∙ (on.takes ∙ ap (λ (a : List Act). behind me other (received one other.id 0 (p + 1 + 1) (map (sent_of one s) batches) a)) (sym batch)));
      says = rw answer (ap (λ (h : History). ack_of b ∷ loads_acks one other.id 0 (map (sent_of one s) batches) h) load
          ∙ (ap (λ (l : List Ack). ack_of b ∷ l) on.says
          ∙ (ap (λ (a : List Act). ack_of b ∷ acks_for one other.id 0 (p + 1 + 1) (map (sent_of one s) batches) a) (sym batch)
          ∙ ap (λ (l : List Ack). l ++ acks_for one other.id 0 (p + 1 + 1) (map (sent_of one s) batches) (after_batch one other.id 0 (p + 1) (sent_of one s b) acts)) (sym (ack_step s other.id p b acts le)))));
    }

same_step : (s : State) (me other : Peer) (p : ℕ) (b : OutBatch) (batches tail : List OutBatch) (acts : List Act) (t : Bool) → (p + 1 == loaded other.id 0 acts + 1) ≡ t → p ≤ loaded other.id 0 acts
    → b ∷ tail ≡ drop p (made s me.id 0) → Meets s me other acts
    → SameBoth s me other (p + 1) batches (if t then taken_act s other.id b ∷ acts else acts)
    → SameBoth s me other p (b ∷ batches) acts
same_step s me other p b batches tail acts true is le at meets on =
    let e : p + 1 ≡ loaded other.id 0 acts + 1 = eqb-true (p + 1) (loaded other.id 0 acts + 1) is in
    let here : p ≡ loaded other.id 0 acts = omega (arith, e) in
    let answer : load_of one other.id 0 (sent_of one s b) (behind me other acts) ≡ Ok (load_answer.Loaded ((state_of one (behind me other acts)).counts.acts + 1)) =
    next_loaded s me other acts meets b tail (rows_of one s b) (at ∙ ap (λ (k : ℕ). drop k (made s me.id 0)) here) in
    step_same s me other p b batches acts (taken_act s other.id b ∷ acts) le (batch_step s other.id p b acts true is) (ap is_loaded answer)
    (ap (λ (r : Result LoadAnswer PeerRefusal). behind me other (load_acts r one other.id 0 b.id (rows_of one s b) ++ acts)) answer) on
same_step s me other p b batches tail acts false is le at meets on =
    let apart : p + 1 ≡ loaded other.id 0 acts + 1 → ⊥ = eqb-false (p + 1) (loaded other.id 0 acts + 1) is in
    let answer : load_of one other.id 0 (sent_of one s b) (behind me other acts) ≡ Ok load_answer.Again =
    earlier_again s me other acts meets p b tail (rows_of one s b) (below_of p (loaded other.id 0 acts) le apart) at in
    step_same s me other p b batches acts acts le (batch_step s other.id p b acts false is) (ap is_loaded answer)
    (ap (λ (r : Result LoadAnswer PeerRefusal). behind me other (load_acts r one other.id 0 b.id (rows_of one s b) ++ acts)) answer) on where
      below_of : (p n : ℕ) → p ≤ n → (p + 1 ≡ n + 1 → ⊥) → p < n
      below_of p n le apart = grind (arith, nat_tests)

pub by_number : (s : State) (me other : Peer) (p : ℕ) (batches more : List OutBatch) (acts : List Act) → batches ++ more ≡ drop p (made s me.id 0) → p ≤ loaded other.id 0 acts → Meets s me other acts
    → SameBoth s me other p batches acts
by_number s me other p [] more acts at le meets = record { takes = refl; says = refl }
by_number s me other p (b ∷ batches) more acts at le meets =
    let content_at : sent_of one s b ∷ map (sent_of one s) (batches ++ more) ≡ drop p (content one s me.id 0) =
    ap (λ (l : List OutBatch). map (sent_of one s) l) at ∙ sym (drop_mapped p (made s me.id 0)) in
    let step : Stepped one s me.id other.id 0 p (sent_of one s b) acts (after_batch one other.id 0 (p + 1) (sent_of one s b) acts) =
    by_place one s me.id other.id 0 p (sent_of one s b) (map (sent_of one s) (batches ++ more)) acts (p + 1 == loaded other.id 0 acts + 1) refl content_at le meets.lanes in
    same_step s me other p b batches (batches ++ more) acts (p + 1 == loaded other.id 0 acts + 1) refl le at meets
    (by_number s me other (p + 1) batches more (after_batch one other.id 0 (p + 1) (sent_of one s b) acts)
    (ap (λ (l : List OutBatch). drop 1 l) at ∙ drop-drop 1 p (made s me.id 0)) step.further
    (record {
      loads = received_loads other.id 0 (p + 1) (sent_of one s b) acts (p + 1 == loaded other.id 0 acts + 1) refl meets.loads;
      lanes = step.goes.lanes;
      rising = meets.rising;
    })) where
      drop_mapped : (k : ℕ) (batches : List OutBatch) → drop k (map (sent_of one s) batches) ≡ map (sent_of one s) (drop k batches)
      drop_mapped zero batches = refl
      drop_mapped (suc k) [] = refl
      drop_mapped (suc k) (b ∷ batches) = drop_mapped k batches
