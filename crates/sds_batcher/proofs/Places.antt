-- Lists of places that ascend, for the tests.
use Rattle.std.proofs.Common.{ℕ, ◌+◌, ◌<◌, List, [], ◌∷◌, ◌++◌, get_or, arith}
use Rattle.std.proofs.lemmas.List.Elements.{All-nil, All-cons, All-append}
use Rattle.std.proofs.lemmas.List.Quantifiers.{all_pairs_push}
use Rattle.std.specs.List.{All, AllPairs}

-- places that ascend and are all below a place
pub record Ascends (below : ℕ) (places : List ℕ) : Type 0 where
  pub pairs : AllPairs (λ (a b : ℕ). a < b) places
  pub each : All (λ (place : ℕ). place < below) places

pub as_before : (places : List ℕ) (place : ℕ) → Ascends place places → Ascends (place + 1) places
as_before places place are = record {
  pairs = are.pairs;
  each = λ k d within. let e : get_or places k d < place = are.each k d within in omega arith;
}

pub one_more : (places : List ℕ) (place : ℕ) → Ascends place places → Ascends (place + 1) (places ++ place ∷ [])
one_more places place are = record {
  pairs = all_pairs_push (λ (a b : ℕ). a < b) places place are.pairs are.each;
  each = All-append (λ (p : ℕ). p < place + 1) places (place ∷ []) (as_before places place are).each
      (All-cons (λ (p : ℕ). p < place + 1) place [] (omega arith) (All-nil (λ (p : ℕ). p < place + 1)));
}

pub one_list_more : (lists : List (List ℕ)) (places : List ℕ) → All (AllPairs (λ (a b : ℕ). a < b)) lists
    → AllPairs (λ (a b : ℕ). a < b) places → All (AllPairs (λ (a b : ℕ). a < b)) (lists ++ places ∷ [])
one_list_more lists places are is = All-append (AllPairs (λ (a b : ℕ). a < b)) lists (places ∷ []) are
    (All-cons (AllPairs (λ (a b : ℕ). a < b)) places [] is (All-nil (AllPairs (λ (a b : ℕ). a < b))))
