-- What the pairs of a reply say, one after another.
use Rattle.std.proofs.Common.{◌≡◌, ℕ, suc, ◌+◌, Bool, true, false, cond, nat_lt, List, [], ◌∷◌, ◌++◌, length, Option, Some, None, option_map, Result, Ok, Err, refl, sym, ap, ◌∙◌, arith, append_assoc}
use Rattle.std.proofs.lemmas.Bool.Decides.{nat_tests}
use Rattle.std.specs.List.{filter_map, position, position_or_len}
use Rattle.std.specs.Prelude.{is_none}
use Rattle.sds_types.specs.declared.ack.Ack.{Ack}
use Rattle.sds_types.specs.declared.ack.AcksRefusal.{AcksRefusal}
use Rattle.sds_types.specs.declared.ack.AcksRefusal.TheVariants.{BadAcks}
use Rattle.sds_told.specs.Replies.{ack_in, acks_of}
use native.Mathlib.Numerals.{one-add}

abbrev says_nothing : List ℕ × List ℕ → Bool
says_nothing pair = is_none (ack_in pair)

abbrev pub ended : List Ack → ℕ → List (List ℕ × List ℕ) → Option ℕ → Result (List Ack) AcksRefusal
ended acks place pairs None = Ok (acks ++ filter_map ack_in pairs)
ended acks place pairs (Some at) = Err (BadAcks (at + (place + 1)))

-- acks that stand before this place, and what the pairs from it on say
abbrev pub acks_from : List Ack → ℕ → List (List ℕ × List ℕ) → Result (List Ack) AcksRefusal
acks_from acks place pairs = ended acks place pairs (position says_nothing pairs)

pub from_first : (pairs : List (List ℕ × List ℕ)) → acks_from [] 0 pairs ≡ acks_of pairs
from_first pairs = by (position says_nothing pairs)
  where
    by : (o : Option ℕ) → ended [] 0 pairs o ≡ elim o [
      | None ↦ Ok (filter_map ack_in pairs)
      | Some at ↦ Err (BadAcks (at + 1))
    ]
    by None = refl
    by (Some at) = refl

abbrev counted : ℕ → ℕ → Option ℕ
counted n count = cond (nat_lt n count) (Some n) None

counted_more : (n count : ℕ) → counted (suc n) (suc count) ≡ option_map suc (counted n count)
counted_more n count = at (nat_lt n count) refl
  where
    less : (m n : ℕ) → nat_lt m n ≡ true → nat_lt (suc m) (suc n) ≡ true
    less m n f = grind (arith, nat_tests)

    not_less : (m n : ℕ) → nat_lt m n ≡ false → nat_lt (suc m) (suc n) ≡ false
    not_less m n f = grind (arith, nat_tests)

    at : (t : Bool) → nat_lt n count ≡ t → counted (suc n) (suc count) ≡ option_map suc (counted n count)
    at true f = rw (less n count f, f) refl
    at false f = rw (not_less n count f, f) refl

position_more : (pair : List ℕ × List ℕ) (pairs : List (List ℕ × List ℕ)) (ack : Ack) → ack_in pair ≡ Some ack → position says_nothing (pair ∷ pairs) ≡ option_map suc (position says_nothing pairs)
position_more pair pairs ack is =
    let whole : position_or_len says_nothing (pair ∷ pairs) ≡ suc (position_or_len says_nothing pairs) = rw is (one-add (position_or_len says_nothing pairs)) in
    ap (λ n. counted n (suc (length pairs))) whole ∙ counted_more (position_or_len says_nothing pairs) (length pairs)

ended_more : (acks : List Ack) (place : ℕ) (ack : Ack) (pair : List ℕ × List ℕ) (pairs : List (List ℕ × List ℕ)) (o : Option ℕ) → ack_in pair ≡ Some ack
    → ended (acks ++ ack ∷ []) (place + 1) pairs o ≡ ended acks place (pair ∷ pairs) (option_map suc o)
ended_more acks place ack pair pairs None is = rw is (ap Ok (append_assoc acks (ack ∷ []) (filter_map ack_in pairs)))
ended_more acks place ack pair pairs (Some at) is =
    let same : at + (place + 1 + 1) ≡ suc at + (place + 1) = omega arith in ap (λ n. Err (BadAcks n)) same

-- a pair that says something of a batch
pub from_more : (acks : List Ack) (place : ℕ) (ack : Ack) (pair : List ℕ × List ℕ) (pairs : List (List ℕ × List ℕ)) → ack_in pair ≡ Some ack
    → acks_from (acks ++ ack ∷ []) (place + 1) pairs ≡ acks_from acks place (pair ∷ pairs)
from_more acks place ack pair pairs is =
    ended_more acks place ack pair pairs (position says_nothing pairs) is ∙ ap (ended acks place (pair ∷ pairs)) (sym (position_more pair pairs ack is))
