-- A message that lies in what the sender made keeps each lane a front of it when it is delivered, and each ok of the reply names a loaded batch.
use Rattle.std.proofs.Common.{◌≡◌, ℕ, ◌+◌, ◌<◌, ◌≤◌, zero, suc, Bool, true, false, ◌&&◌, ◌||◌, ◌==◌, List, [], ◌∷◌, ◌++◌, length, drop, get_or, None, refl, sym, ap, subst, ◌∙◌, arith, append_assoc, length-append}
use Rattle.std.specs.Prelude.{nat_le, is_none, if◌then◌else◌, map}
use Rattle.std.specs.List.{list_any}
use Rattle.std.specs.Str.{bytes_eq}
use Rattle.std.proofs.lemmas.List.{map-append, drop-drop}
use Rattle.std.proofs.lemmas.List.Folds.{list_any-append}
use Rattle.std.proofs.lemmas.Slice.Eq.{bytes_eq-Decides}
use Rattle.std.proofs.lemmas.Bool.{eqb-true, eqb-false}
use Rattle.std.proofs.lemmas.Bool.Decides.{nat_tests}
use Rattle.sds_types.specs.declared.config.Config.{Config}
use Rattle.sds_types.specs.declared.ack.Ack.{Ack}
use Rattle.sds_types.specs.declared.batch.OutBatch.{OutBatch}
use Rattle.sds_first_spec.specs.declared.batch.Sent.{Sent}
use Rattle.sds_first_spec.specs.declared.row.LoadRow.{LoadRow}
use Rattle.sds_first_spec.specs.Acts.{Act, State}
use Rattle.sds_first_spec.specs.Acts.Act.{Wrote, Routed, Loaded, Acked}
use Rattle.sds_first_spec.specs.InStep.{Taken, taken_of, taken_as, is_taken}
use Rattle.sds_first_spec.specs.Lanes.{is_ok, made, loaded}
use Rattle.sds_first_spec.specs.Outcome.{read_rows}
use Rattle.sds_first_spec.specs.World.{Part, sent_of, after_batch, ack_at, received, acks_for, received_parts, acks_for_parts}
use Rattle.sds_first_laws.proofs.Each.{Each, each_append, each_weaker}

abbrev pub IsUnknown : OutBatch → Type 0
IsUnknown batch = is_ok batch.standing ≡ false

-- what is loaded is a front of what was made, and behind it nothing is known to be loaded
pub record Lane (config : Config) (s : State) (all : List OutBatch) (taken : List Taken) (n : ℕ) : Type 0 where
  pub heads : List OutBatch
  pub rest : List OutBatch
  pub split : heads ++ rest ≡ all
  pub are : taken ≡ map (taken_as config s) heads
  pub count : n ≡ length heads
  pub unknown : Each IsUnknown rest

abbrev pub Lanes : Config → State → List ℕ → List ℕ → List Act → Type 0
Lanes config s to from acts = (channel : ℕ) → Lane config s (made s to channel) (taken_of from channel acts) (loaded from channel acts)

abbrev pub content : Config → State → List ℕ → ℕ → List Sent
content config s to channel = map (sent_of config s) (made s to channel)

pub record PartKept (config : Config) (s : State) (to from : List ℕ) (acts : List Act) (part : Part) : Type 0 where
  pub lies : (rest : List Sent) × (part.batches ++ rest ≡ drop part.start (content config s to part.channel))
  pub begins : part.start ≤ loaded from part.channel acts

-- a batch of this number is among what was taken
abbrev pub is_numbered : ℕ → Taken → Bool
is_numbered x taken = taken.0 == x

pub or_right : (a b : Bool) → b ≡ true → (a || b) ≡ true
or_right true b is = refl
or_right false b is = is

pub same_number : (n : ℕ) → (n == n) ≡ true
same_number n = grind (arith, nat_tests)

pub same_lane : (from : List ℕ) (c : ℕ) → (bytes_eq from from && c == c) ≡ true
same_lane from c = rw ((bytes_eq-Decides from from).1 refl) (same_number c)

-- TAKEN. What was taken in some lane is taken.
taken_step : (p q r : Bool) (taken : List Taken) (id : ℕ) (rows : List LoadRow) (x : ℕ) (rest : Bool) → (list_any (is_numbered x) taken ≡ true → rest ≡ true) → (id == x) ≡ r
    → list_any (is_numbered x) (if p && q then taken ++ (id, rows) ∷ [] else taken) ≡ true → (if p && r then true else rest) ≡ true
taken_step true q true taken id rows x rest ih is h = refl
taken_step false q r taken id rows x rest ih is h = ih h
taken_step true false false taken id rows x rest ih is h = ih h
taken_step true true false taken id rows x rest ih is h =
    let split : (list_any (is_numbered x) taken || list_any (is_numbered x) ((id, rows) ∷ [])) ≡ true = sym (list_any-append (is_numbered x) taken ((id, rows) ∷ [])) ∙ h in
    ih (left_of (list_any (is_numbered x) taken) (id == x) is split) where
      left_of : (a b : Bool) → b ≡ false → (a || (b || false)) ≡ true → a ≡ true
      left_of true b off h = refl
      left_of false true off h = cc
      left_of false false off h = h

pub taken_by : (from : List ℕ) (c x : ℕ) (acts : List Act) → list_any (is_numbered x) (taken_of from c acts) ≡ true → is_taken from x acts ≡ true
taken_by from c x [] h = h
taken_by from c x (Wrote writer number rows ∷ acts) h = taken_by from c x acts h
taken_by from c x (Routed ∷ acts) h = taken_by from c x acts h
taken_by from c x (Loaded place channel id rows ∷ acts) h =
    taken_step (bytes_eq place from) (channel == c) (id == x) (taken_of from c acts) id rows x (is_taken from x acts) (taken_by from c x acts) refl h
taken_by from c x (Acked peer acks ∷ acts) h = taken_by from c x acts h

-- the batch at a place of a front is named there
named : (config : Config) (s : State) (place : ℕ) (heads rest : List OutBatch) (sent : Sent) (tail : List Sent) → place < length heads
    → sent ∷ tail ≡ drop place (map (sent_of config s) (heads ++ rest)) → list_any (is_numbered sent.id) (map (taken_as config s) heads) ≡ true
named config s place [] rest sent tail within lies = absurd (omega (arith, within))
named config s zero (b ∷ heads) rest sent tail within lies =
    let same : sent.id ≡ b.id = ap (λ (l : List Sent). (get_or l 0 sent).id) lies in rw (same, same_number b.id) refl
named config s (suc place) (b ∷ heads) rest sent tail within lies =
    or_right (b.id == sent.id) _ (named config s place heads rest sent tail (omega (arith, within)) lies)

-- THE NEXT BATCH
pub dropped : (config : Config) (s : State) (heads rest : List OutBatch) → drop (length heads) (map (sent_of config s) (heads ++ rest)) ≡ map (sent_of config s) rest
dropped config s [] rest = refl
dropped config s (b ∷ heads) rest = dropped config s heads rest

next_in : (config : Config) (s : State) (all : List OutBatch) (taken : List Taken) (n : ℕ) (sent : Sent) (tail : List Sent) (heads rest : List OutBatch)
    → heads ++ rest ≡ all → taken ≡ map (taken_as config s) heads → n ≡ length heads → Each IsUnknown rest → sent ∷ tail ≡ map (sent_of config s) rest
    → Lane config s all (taken ++ (sent.id, read_rows config 1 sent.rows) ∷ []) (n + 1)
next_in config s all taken n sent tail heads [] split are count unknown lies =
    let e : length (sent ∷ tail) ≡ 0 = ap length lies in absurd (omega (arith, e))
next_in config s all taken n sent tail heads (b ∷ rest) split are count unknown lies =
    let same : sent ≡ sent_of config s b = ap (λ (l : List Sent). get_or l 0 sent) lies in
    let longer : length (heads ++ b ∷ []) ≡ length heads + 1 = length-append heads (b ∷ []) in
    record {
      heads = heads ++ b ∷ [];
      rest = rest;
      split = append_assoc heads (b ∷ []) rest ∙ split;
      are = ap (λ (t : List Taken). t ++ (sent.id, read_rows config 1 sent.rows) ∷ []) are
          ∙ (ap (λ (x : Sent). map (taken_as config s) heads ++ (x.id, read_rows config 1 x.rows) ∷ []) same ∙ sym (map-append (taken_as config s) heads (b ∷ [])));
      count = omega (arith, count, longer);
      unknown = unknown.1;
    }

lane_next : (config : Config) (s : State) (all : List OutBatch) (taken : List Taken) (n : ℕ) (sent : Sent) (tail : List Sent) → Lane config s all taken n
    → sent ∷ tail ≡ drop n (map (sent_of config s) all) → Lane config s all (taken ++ (sent.id, read_rows config 1 sent.rows) ∷ []) (n + 1)
lane_next config s all taken n sent tail lane lies =
    next_in config s all taken n sent tail lane.heads lane.rest lane.split lane.are lane.count lane.unknown
    (lies ∙ (ap (λ (k : ℕ). drop k (map (sent_of config s) all)) lane.count
    ∙ (ap (λ (l : List OutBatch). drop (length lane.heads) (map (sent_of config s) l)) (sym lane.split) ∙ dropped config s lane.heads lane.rest)))

-- what goes on: each lane, and nothing that was loaded is lost
pub record Goes (config : Config) (s : State) (to from : List ℕ) (acts new : List Act) : Type 0 where
  pub lanes : Lanes config s to from new
  pub more : (channel : ℕ) → loaded from channel acts ≤ loaded from channel new
  pub kept : (x : ℕ) → is_taken from x acts ≡ true → is_taken from x new ≡ true

abbrev pub AckTaken : List ℕ → List Act → Ack → Type 0
AckTaken from acts ack = is_none ack.error ≡ true → is_taken from ack.batch acts ≡ true

pub record Took (config : Config) (s : State) (to from : List ℕ) (acts new : List Act) (acks : List Ack) : Type 0 where
  pub goes : Goes config s to from acts new
  pub named : Each (AckTaken from new) acks

pub acks_later : (from : List ℕ) (acts new : List Act) (acks : List Ack) → ((x : ℕ) → is_taken from x acts ≡ true → is_taken from x new ≡ true)
    → Each (AckTaken from acts) acks → Each (AckTaken from new) acks
acks_later from acts new acks kept each = each_weaker (AckTaken from acts) (AckTaken from new) (λ ack was ok. kept ack.batch (was ok)) acks each

took_then : (config : Config) (s : State) (to from : List ℕ) (acts middle new : List Act) (first later : List Ack) → Took config s to from acts middle first
    → Took config s to from middle new later → Took config s to from acts new (first ++ later)
took_then config s to from acts middle new first later a b = record {
  goes = record {
    lanes = b.goes.lanes;
    more = λ channel. (let x : loaded from channel acts ≤ loaded from channel middle = a.goes.more channel in
        let y : loaded from channel middle ≤ loaded from channel new = b.goes.more channel in omega (arith, x, y));
    kept = λ x is. b.goes.kept x (a.goes.kept x is);
  };
  named = each_append (AckTaken from new) first later (acks_later from middle new first b.goes.kept a.named) b.named;
}

-- a lane after a batch is loaded in some lane
loaded_at : (config : Config) (s : State) (all : List OutBatch) (b : Bool) (taken : List Taken) (n : ℕ) (id : ℕ) (rows : List LoadRow) → Lane config s all taken n
    → (b ≡ true → Lane config s all (taken ++ (id, rows) ∷ []) (n + 1)) → Lane config s all (if b then taken ++ (id, rows) ∷ [] else taken) (if b then n + 1 else n)
loaded_at config s all true taken n id rows lane next = next refl
loaded_at config s all false taken n id rows lane next = lane

no_less : (b : Bool) (n : ℕ) → n ≤ (if b then n + 1 else n)
no_less true n = omega arith
no_less false n = omega arith

still : (b c : Bool) → c ≡ true → (if b then true else c) ≡ true
still true c is = refl
still false c is = is

channel_of : (a b : Bool) → (a && b) ≡ true → b ≡ true
channel_of true b is = is
channel_of false b is = cc

load_goes : (config : Config) (s : State) (to from : List ℕ) (c : ℕ) (sent : Sent) (acts : List Act) → Lanes config s to from acts
    → Lane config s (made s to c) (taken_of from c acts ++ (sent.id, read_rows config 1 sent.rows) ∷ []) (loaded from c acts + 1)
    → Goes config s to from acts (Loaded from c sent.id (read_rows config 1 sent.rows) ∷ acts)
load_goes config s to from c sent acts lanes next = record {
  lanes = λ channel. loaded_at config s (made s to channel) (bytes_eq from from && c == channel) (taken_of from channel acts) (loaded from channel acts) sent.id (read_rows config 1 sent.rows)
      (lanes channel)
      (λ is. subst (λ (k : ℕ). Lane config s (made s to k) (taken_of from k acts ++ (sent.id, read_rows config 1 sent.rows) ∷ []) (loaded from k acts + 1))
      (eqb-true c channel (channel_of (bytes_eq from from) (c == channel) is)) next);
  more = λ channel. no_less (bytes_eq from from && c == channel) (loaded from channel acts);
  kept = λ x is. still (bytes_eq from from && sent.id == x) (is_taken from x acts) is;
}

-- STEP. One batch of a message.
pub record Stepped (config : Config) (s : State) (to from : List ℕ) (c place : ℕ) (sent : Sent) (acts new : List Act) : Type 0 where
  pub goes : Goes config s to from acts new
  pub further : place + 1 ≤ loaded from c new
  pub is_there : is_taken from sent.id new ≡ true

count_on : (b : Bool) (n : ℕ) → b ≡ true → (if b then n + 1 else n) ≡ n + 1
count_on true n is = refl
count_on false n is = cc

pub by_place : (config : Config) (s : State) (to from : List ℕ) (c place : ℕ) (sent : Sent) (tail : List Sent) (acts : List Act) (b : Bool) → (place + 1 == loaded from c acts + 1) ≡ b
    → sent ∷ tail ≡ drop place (content config s to c) → place ≤ loaded from c acts → Lanes config s to from acts
    → Stepped config s to from c place sent acts (if b then Loaded from c sent.id (read_rows config 1 sent.rows) ∷ acts else acts)
by_place config s to from c place sent tail acts true is lies le lanes =
    let e : place + 1 ≡ loaded from c acts + 1 = eqb-true (place + 1) (loaded from c acts + 1) is in
    let at : place ≡ loaded from c acts = omega (arith, e) in
    let on : loaded from c (Loaded from c sent.id (read_rows config 1 sent.rows) ∷ acts) ≡ loaded from c acts + 1 = count_on (bytes_eq from from && c == c) (loaded from c acts) (same_lane from c) in
    record {
      goes = load_goes config s to from c sent acts lanes
          (lane_next config s (made s to c) (taken_of from c acts) (loaded from c acts) sent tail (lanes c) (lies ∙ ap (λ (k : ℕ). drop k (content config s to c)) at));
      further = omega (arith, on, at);
      is_there = rw (same_lane from sent.id) refl;
    }
by_place config s to from c place sent tail acts false is lies le lanes =
    let apart : place + 1 ≡ loaded from c acts + 1 → ⊥ = eqb-false (place + 1) (loaded from c acts + 1) is in
    let below : place < loaded from c acts = below_of place (loaded from c acts) le apart in
    let within : place < length (lanes c).heads = subst (λ (k : ℕ). place < k) (lanes c).count below in
    record {
      goes = record { lanes = lanes; more = λ channel. omega arith; kept = λ x was. was };
      further = omega (arith, below);
      is_there = taken_by from c sent.id acts (ap (list_any (is_numbered sent.id)) (lanes c).are
          ∙ named config s place (lanes c).heads (lanes c).rest sent tail within (lies ∙ ap (λ (l : List OutBatch). drop place (map (sent_of config s) l)) (sym (lanes c).split)));
    } where
      below_of : (p n : ℕ) → p ≤ n → (p + 1 ≡ n + 1 → ⊥) → p < n
      below_of p n le apart = grind (arith, nat_tests)

one_ack : (from : List ℕ) (acts : List Act) (batch : ℕ) (b : Bool) → is_taken from batch acts ≡ true → Each (AckTaken from acts) (if b then record { batch = batch; error = None } ∷ [] else [])
one_ack from acts batch true is = ((λ ok. is), tt)
one_ack from acts batch false is = tt

received_took : (config : Config) (s : State) (to from : List ℕ) (c place : ℕ) (batches more : List Sent) (acts : List Act)
    → batches ++ more ≡ drop place (content config s to c) → place ≤ loaded from c acts → Lanes config s to from acts
    → Took config s to from acts (received config from c (place + 1) batches acts) (acks_for config from c (place + 1) batches acts)
received_took config s to from c place [] more acts lies le lanes =
    record { goes = record { lanes = lanes; more = λ channel. omega arith; kept = λ x was. was }; named = tt }
received_took config s to from c place (sent ∷ batches) more acts lies le lanes =
    let step : Stepped config s to from c place sent acts (after_batch config from c (place + 1) sent acts) =
    by_place config s to from c place sent (batches ++ more) acts (place + 1 == loaded from c acts + 1) refl lies le lanes in
    took_then config s to from acts (after_batch config from c (place + 1) sent acts) _ (ack_at from c (place + 1) sent acts) _
    (record { goes = step.goes; named = one_ack from (after_batch config from c (place + 1) sent acts) sent.id (nat_le (place + 1) (loaded from c acts + 1)) step.is_there })
    (received_took config s to from c (place + 1) batches more (after_batch config from c (place + 1) sent acts)
    (ap (λ (l : List Sent). drop 1 l) lies ∙ drop-drop 1 place (content config s to c)) step.further step.goes.lanes)

pub parts_later : (config : Config) (s : State) (to from : List ℕ) (acts new : List Act) (parts : List Part) → ((channel : ℕ) → loaded from channel acts ≤ loaded from channel new)
    → Each (PartKept config s to from acts) parts → Each (PartKept config s to from new) parts
parts_later config s to from acts new parts more each =
    each_weaker (PartKept config s to from acts) (PartKept config s to from new)
    (λ part kept. record { lies = kept.lies; begins = (let up : loaded from part.channel acts ≤ loaded from part.channel new = more part.channel in omega (arith, up, kept.begins)) }) parts each

pub parts_took : (config : Config) (s : State) (to from : List ℕ) (parts : List Part) (acts : List Act) → Each (PartKept config s to from acts) parts → Lanes config s to from acts
    → Took config s to from acts (received_parts config from parts acts) (acks_for_parts config from parts acts)
parts_took config s to from [] acts each lanes =
    record { goes = record { lanes = lanes; more = λ channel. omega arith; kept = λ x was. was }; named = tt }
parts_took config s to from (part ∷ parts) acts each lanes =
    let middle : List Act = received config from part.channel (part.start + 1) part.batches acts in
    let first : Took config s to from acts (received config from part.channel (part.start + 1) part.batches acts) (acks_for config from part.channel (part.start + 1) part.batches acts) =
    received_took config s to from part.channel part.start part.batches each.0.lies.0 acts each.0.lies.1 each.0.begins lanes in
    took_then config s to from acts (received config from part.channel (part.start + 1) part.batches acts) _ (acks_for config from part.channel (part.start + 1) part.batches acts) _
    first
    (parts_took config s to from parts (received config from part.channel (part.start + 1) part.batches acts)
    (parts_later config s to from acts (received config from part.channel (part.start + 1) part.batches acts) parts first.goes.more each.1) first.goes.lanes)
