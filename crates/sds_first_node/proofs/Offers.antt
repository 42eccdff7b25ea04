-- What an offer takes of a node's batches, in the one configuration.
use Rattle.std.proofs.Common.{◌≡◌, ℕ, Bool, true, false, ◌&&◌, ◌||◌, ◌==◌, not, List, [], ◌∷◌, All, Ok, refl, sym, ◌∙◌, append-nil, suc, zero, take, map, arith}
use Rattle.std.specs.Prelude.{filter, ◌-◌}
use Rattle.std.proofs.lemmas.Bool.Decides.{nat_tests}
use Rattle.std.specs.Str.{bytes_eq}
use Rattle.std.proofs.lemmas.List.Elements.{All-head}
use Rattle.sds_types.specs.declared.batch.OutBatch.{OutBatch}
use Rattle.sds_first_spec.specs.Acts.{State}
use Rattle.sds_first_spec.specs.Calls.{is_peer, offer_answer}
use Rattle.sds_first_spec.specs.Lanes.{is_ok, is_erred, to_error, channels_of}
use Rattle.sds_first_spec.specs.One.{one}
use Rattle.sds_first_node.specs.Offered.{offered_ids, open_ids}

abbrev id_of : OutBatch → ℕ
id_of b = b.id

abbrev in_lane : List ℕ → OutBatch → Bool
in_lane to b = bytes_eq b.peer to && b.channel == 0

abbrev not_ok : OutBatch → Bool
not_ok b = not (is_ok b.standing)

abbrev taken : ℕ → List ℕ → List OutBatch → List ℕ
taken most to batches = map id_of (take most (to_error (filter not_ok (filter (in_lane to) batches))))

less_one : (n : ℕ) → suc n - 1 ≡ n
less_one n = omega arith

not_none : (n : ℕ) → (suc n == 0) ≡ false
not_none n = grind (arith, nat_tests)

none_left : (n : ℕ) → take {A = OutBatch} n [] ≡ []
none_left zero = refl
none_left (suc n) = refl

one_more : (n : ℕ) (to : List ℕ) (b : OutBatch) (batches : List OutBatch) (lane ok erred : Bool) → in_lane to b ≡ lane → is_ok b.standing ≡ ok → is_erred b.standing ≡ erred
    → open_ids n to batches ≡ taken n to batches → open_ids (suc n) to batches ≡ taken (suc n) to batches
    → open_ids (suc n) to (b ∷ batches) ≡ taken (suc n) to (b ∷ batches)
one_more n to b batches false ok erred is was bad less same = rw (not_none n, is) same
one_more n to b batches true true erred is was bad less same = rw (not_none n, is, was) same
one_more n to b batches true false true is was bad less same = rw (not_none n, is, was, bad, none_left n) refl
one_more n to b batches true false false is was bad less same = rw (not_none n, is, was, bad, less_one n, less) refl

none_more : (to : List ℕ) (batches : List OutBatch) → open_ids 0 to batches ≡ taken 0 to batches
none_more to [] = refl
none_more to (b ∷ batches) = refl

-- the open batches in one pass
pub open-taken : (most : ℕ) (to : List ℕ) (batches : List OutBatch) → open_ids most to batches ≡ taken most to batches
open-taken zero to batches = none_more to batches
open-taken (suc n) to [] = refl
open-taken (suc n) to (b ∷ batches) = one_more n to b batches _ _ _ refl refl refl (open-taken n to batches) (open-taken (suc n) to batches)

is_zero : (c : ℕ) (b : Bool) → c ≡ 0 → ((c == 0) || b) ≡ true
is_zero c b is = rw is refl

abbrev IsZero : ℕ → Type 0
IsZero c = c ≡ 0

-- the one channel is taken, whether it is named or none is
pub one_channel : (channels : List ℕ) → All (λ (channel : ℕ). channel ≡ 0) channels → channels_of one channels ≡ 0 ∷ []
one_channel [] are = refl
one_channel (c ∷ channels) are = rw (is_zero c _ (All-head IsZero c channels are)) refl

-- what is taken in one pass is what an offer takes
pub offered-open : (s : State) (to channels : List ℕ) → All (λ (channel : ℕ). channel ≡ 0) channels → offered_ids one s to channels ≡ open_ids 10000 to s.batches
offered-open s to channels are = rw (one_channel channels are) (append-nil _ ∙ sym (open-taken 10000 to s.batches))

pub offer-answered : (s : State) (to channels ids : List ℕ) → All (λ (channel : ℕ). channel ≡ 0) channels → is_peer to s ≡ true → ids ≡ open_ids 10000 to s.batches
    → offer_answer one s to channels ≡ Ok ids
offer-answered s to channels ids are is these = rw is (rw (offered-open s to channels are, these) refl)
