-- A value that stands beside a place.
use Rattle.std.proofs.Common.{◌≡◌, ◌<◌, ◌≤◌, ◌+◌, ℕ, true, false, List, length, get_or, drop, refl, eqb, arith, Option, Some, None}
use Rattle.std.specs.Prelude.{slice_get, unwrap_or}
use Rattle.std.specs.List.{zip}
use Rattle.sds_value.specs.declared.kind.Value.{Value}
use Rattle.sds_value.specs.declared.kind.Value.TheVariants.{Null}
use Rattle.sds_trade.specs.rules.LoadRows.{value_for}
use Rattle.sds_trade.specs.rules.Tables.{value_at}
use Rattle.sds_rowvalues.proofs.Pairs.{next_pair, no_pair, past_end}

found_by : (places : List ℕ) (values : List Value) (i place : ℕ) → i < length places → eqb (get_or places i 0) place ≡ true
    → (o : Option Value) → slice_get values i ≡ o → value_for (zip (drop i places) (drop i values)) place ≡ unwrap_or o Null
found_by places values i place inside is None e = rw (no_pair places values i (past_end values i e)) refl
found_by places values i place inside is (Some v) e = rw (next_pair places values i 0 v inside e) (rw is refl)

-- the first of the places that are left is the one that is asked for
pub value_found : (places : List ℕ) (values : List Value) (i place : ℕ) → i < length places → eqb (get_or places i 0) place ≡ true
    → value_for (zip (drop i places) (drop i values)) place ≡ value_at values i
value_found places values i place inside is = found_by places values i place inside is (slice_get values i) refl

passed_by : (places : List ℕ) (values : List Value) (i place : ℕ) → i < length places → eqb (get_or places i 0) place ≡ false
    → (o : Option Value) → slice_get values i ≡ o → value_for (zip (drop i places) (drop i values)) place ≡ value_for (zip (drop (i + 1) places) (drop (i + 1) values)) place
passed_by places values i place inside is None e =
    let past : length values ≤ i + 1 = let here = past_end values i e in omega arith in
    rw (no_pair places values i (past_end values i e)) (rw (no_pair places values (i + 1) past) refl)
passed_by places values i place inside is (Some v) e = rw (next_pair places values i 0 v inside e) (rw is refl)

-- it is another one
pub value_passed : (places : List ℕ) (values : List Value) (i place : ℕ) → i < length places → eqb (get_or places i 0) place ≡ false
    → value_for (zip (drop i places) (drop i values)) place ≡ value_for (zip (drop (i + 1) places) (drop (i + 1) values)) place
value_passed places values i place inside is = passed_by places values i place inside is (slice_get values i) refl
