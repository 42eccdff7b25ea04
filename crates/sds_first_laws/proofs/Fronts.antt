-- What a sender knows to be loaded is a front of what it made, so that a message begins with the first batch that isn't known to be.
use Rattle.std.proofs.Common.{◌≡◌, ℕ, ◌+◌, ◌<◌, ◌≤◌, suc, Bool, true, false, ◌&&◌, ◌||◌, ◌==◌, not, cond, List, [], ◌∷◌, ◌++◌, drop, refl, sym, ap, ◌∙◌, arith}
use Rattle.std.specs.Prelude.{nat_le, is_none, if◌then◌else◌, map, filter, count_by}
use Rattle.std.specs.List.{list_any}
use Rattle.std.specs.Str.{bytes_eq}
use Rattle.std.proofs.lemmas.Bool.{leb-true}
use Rattle.std.proofs.lemmas.Bool.Decides.{nat_tests}
use Rattle.sds_types.specs.declared.ack.Ack.{Ack}
use Rattle.sds_types.specs.declared.batch.OutBatch.{OutBatch}
use Rattle.sds_types.specs.declared.batch.Standing.{Standing}
use Rattle.sds_types.specs.declared.batch.Standing.TheVariants as standing
use Rattle.sds_first_spec.specs.Acks.{is_up_to, is_acked_by, last_error, standing_after}
use Rattle.sds_first_spec.specs.Lanes.{is_ok}
use Rattle.sds_first_laws.specs.Counters.{Rising}
use Rattle.sds_first_laws.proofs.Delivery.{IsUnknown}
use Rattle.sds_first_laws.proofs.Each.{Each, each_append, each_map, each_both}
use Rattle.sds_first_laws.proofs.Link.{after_acks, all_above, or_kept, not_true, and_left, and_right, stays_unknown, count_cons, count_unknown, one_if}

-- behind a batch that isn't known to be loaded none is
abbrev pub OkFirst : List OutBatch → Type 0
OkFirst [] = Unit {0}
OkFirst (b ∷ batches) = (is_ok b.standing ≡ false → Each IsUnknown batches) × OkFirst batches

-- each batch goes to this node in the first channel
abbrev pub GoesTo : List ℕ → OutBatch → Type 0
GoesTo to b = (b.peer ≡ to) × (b.channel ≡ 0)

abbrev pub not_ok : OutBatch → Bool
not_ok b = not (is_ok b.standing)

abbrev pub ok_count : List OutBatch → ℕ
ok_count batches = count_by (λ (b : OutBatch). is_ok b.standing) batches

all_unknown : (batches : List OutBatch) → Each IsUnknown batches → OkFirst batches
all_unknown [] each = tt
all_unknown (b ∷ batches) each = ((λ off. each.1), all_unknown batches each.1)

pub first_append : (batches more : List OutBatch) → OkFirst batches → Each IsUnknown more → OkFirst (batches ++ more)
first_append [] more first each = all_unknown more each
first_append (b ∷ batches) more first each = ((λ off. each_append IsUnknown batches more (first.0 off) each), first_append batches more first.1 each)

-- OPEN. The batches that aren't known to be loaded are those behind the ones that are.
unknown_open : (batches : List OutBatch) → Each IsUnknown batches → filter not_ok batches ≡ batches
unknown_open [] each = refl
unknown_open (b ∷ batches) each = rw each.0 (ap (λ (l : List OutBatch). b ∷ l) (unknown_open batches each.1))

one_plus : (n : ℕ) → cond true 1 0 + n ≡ suc n
one_plus n = omega arith

no_more : (n : ℕ) → n ≤ 0 → cond false 1 0 + n ≡ 0
no_more n le = omega (arith, le)

open_by : (b : OutBatch) (batches : List OutBatch) (t : Bool) → is_ok b.standing ≡ t → (t ≡ false → Each IsUnknown batches) → filter not_ok batches ≡ drop (ok_count batches) batches
    → filter not_ok (b ∷ batches) ≡ drop (ok_count (b ∷ batches)) (b ∷ batches)
open_by b batches true is off on =
    let count : ok_count (b ∷ batches) ≡ suc (ok_count batches) = count_cons b batches ∙ (ap (λ (t : Bool). one_if t + ok_count batches) is ∙ one_plus (ok_count batches)) in
    let skipped : filter not_ok (b ∷ batches) ≡ filter not_ok batches = rw is refl in
    skipped ∙ (on ∙ ap (λ (k : ℕ). drop k (b ∷ batches)) (sym count))
open_by b batches false is off on =
    let none : ok_count batches ≤ 0 = count_unknown batches (off refl) in
    let count : ok_count (b ∷ batches) ≡ 0 = count_cons b batches ∙ (ap (λ (t : Bool). one_if t + ok_count batches) is ∙ no_more (ok_count batches) none) in
    unknown_open (b ∷ batches) (is, off refl) ∙ ap (λ (k : ℕ). drop k (b ∷ batches)) (sym count)

pub open_is_rest : (batches : List OutBatch) → OkFirst batches → filter not_ok batches ≡ drop (ok_count batches) batches
open_is_rest [] first = refl
open_is_rest (b ∷ batches) first = open_by b batches (is_ok b.standing) refl first.0 (open_is_rest batches first.1)

-- ACKS
abbrev lane_has : List OutBatch → ℕ → List ℕ → ℕ → Bool
lane_has all x peer channel = list_any (λ (c : OutBatch). c.id == x && (bytes_eq c.peer peer && c.channel == channel)) all

both_true : (a b : Bool) → a ≡ true → b ≡ true → (a && b) ≡ true
both_true a b first second = rw first second

below_too : (a b x : ℕ) → a ≤ b → nat_le b x ≡ true → nat_le a x ≡ true
below_too a b x le is = grind (arith, nat_tests)

up_to_before : (to : List ℕ) (all : List OutBatch) (x : ℕ) (b later : OutBatch) → b.id ≤ later.id → GoesTo to b → GoesTo to later → is_up_to all x later ≡ true → is_up_to all x b ≡ true
up_to_before to all x b later le goes also up =
    let same : lane_has all x later.peer later.channel ≡ lane_has all x b.peer b.channel =
    ap (λ (p : List ℕ). lane_has all x p later.channel) (also.0 ∙ sym goes.0) ∙ ap (λ (c : ℕ). lane_has all x b.peer c) (also.1 ∙ sym goes.1) in
    both_true (nat_le b.id x) (lane_has all x b.peer b.channel) (below_too b.id later.id x le (and_left (nat_le later.id x) _ up)) (sym same ∙ and_right (nat_le later.id x) _ up)

acked_before : (to : List ℕ) (all : List OutBatch) (acks : List Ack) (b later : OutBatch) → b.id ≤ later.id → GoesTo to b → GoesTo to later → is_acked_by all acks later ≡ true → is_acked_by all acks b ≡ true
acked_before to all [] b later le goes also h = h
acked_before to all (ack ∷ acks) b later le goes also h =
    or_kept (is_none ack.error && is_up_to all ack.batch later) (is_acked_by all acks later) (is_none ack.error && is_up_to all ack.batch b) (is_acked_by all acks b)
    (λ t. both_true (is_none ack.error) (is_up_to all ack.batch b) (and_left (is_none ack.error) _ t) (up_to_before to all ack.batch b later le goes also (and_right (is_none ack.error) _ t)))
    (acked_before to all acks b later le goes also) h

by_acked : (all : List OutBatch) (acks : List Ack) (b : OutBatch) (before : Standing) (t : Bool) → is_acked_by all acks b ≡ t
    → is_ok (if t then standing.Acked else last_error acks b.id before) ≡ false → is_acked_by all acks b ≡ false
by_acked all acks b before true is off = absurd (cc)
by_acked all acks b before false is off = is

-- a batch that acks leave unknown was unknown, and they don't say that it is loaded
was_off : (all : List OutBatch) (acks : List Ack) (b : OutBatch) (before : Standing) → is_ok (standing_after all acks b before) ≡ false → (is_ok before ≡ false) × (is_acked_by all acks b ≡ false)
was_off all acks b standing.New off = (refl, by_acked all acks b standing.New (is_acked_by all acks b) refl off)
was_off all acks b (standing.Erred row rule) off = (refl, by_acked all acks b (standing.Erred row rule) (is_acked_by all acks b) refl off)
was_off all acks b standing.Acked off = absurd (cc)

later_unknown : (to : List ℕ) (all : List OutBatch) (acks : List Ack) (b : OutBatch) (batches : List OutBatch) → GoesTo to b → is_acked_by all acks b ≡ false
    → Each (λ (later : OutBatch). b.id < later.id) batches → Each (GoesTo to) batches → Each IsUnknown batches → Each IsUnknown (map (after_acks all acks) batches)
later_unknown to all acks b batches goes off above go unknown =
    each_map IsUnknown (after_acks all acks) batches
    (each_both (λ (later : OutBatch). (b.id < later.id) × GoesTo to later) IsUnknown (λ (later : OutBatch). IsUnknown (after_acks all acks later))
    (λ later at is. stays_unknown all acks later later.standing is
    (not_true (is_acked_by all acks later) (λ h. apart (acked_before to all acks b later (omega (arith, at.0)) goes at.1 h) off))) batches
    (each_both (λ (later : OutBatch). b.id < later.id) (GoesTo to) (λ (later : OutBatch). (b.id < later.id) × GoesTo to later) (λ later a g. (a, g)) batches above go) unknown) where
      apart : {t : Bool} → t ≡ true → t ≡ false → ⊥
      apart is off = cc

pub first_acked : (to : List ℕ) (all : List OutBatch) (acks : List Ack) (low high : ℕ) (batches : List OutBatch) → Rising low high batches → Each (GoesTo to) batches → OkFirst batches
    → OkFirst (map (after_acks all acks) batches)
first_acked to all acks low high [] rising goes first = tt
first_acked to all acks low high (b ∷ batches) rising goes first = (
  (λ off. let was : (is_ok b.standing ≡ false) × (is_acked_by all acks b ≡ false) = was_off all acks b b.standing off in
      later_unknown to all acks b batches goes.0 was.1 (all_above b.id b.id high batches (omega arith) rising.1) goes.1 (first.0 was.0)),
  first_acked to all acks b.id high batches rising.1 goes.1 first.1,
)
