-- A batch is found by its number.
use Rattle.std.proofs.Common.{◌≡◌, ◌≢◌, ℕ, zero, suc, ◌+◌, ◌<◌, ◌==◌, Bool, true, false, cond, List, [], ◌∷◌, length, get_or, Option, None, Some, refl, sym, ap, subst, ◌∙◌, arith, find, All, AllPairs}
use Rattle.std.proofs.lemmas.Bool.Decides.{nat_tests}
use Rattle.sds_trade.proofs.Lists.{pairs_head, pairs_tail}
use Rattle.sds_types.specs.declared.batch.OutBatch.{OutBatch}
use Rattle.sds_history.specs.history.SoundParts.{AscendByNumber}
use Rattle.sds_outgoing.specs.Batches.{batch_of_number}

same_itself : (n : ℕ) → (n == n) ≡ true
same_itself n = grind (arith, nat_tests)

less_differs : (a b : ℕ) → a < b → (a == b) ≡ false
less_differs a b less = grind (arith, nat_tests, less)

abbrev number_of : OutBatch → ℕ
number_of batch = batch.id

-- where the numbers ascend, the batch at a place is the one of its number
pub found_at : (batches : List OutBatch) (i : ℕ) (d : OutBatch) → AscendByNumber number_of batches → i < length batches
    → batch_of_number batches (get_or batches i d).id ≡ Some (get_or batches i d)
found_at [] i d ascend within = absurd (omega arith)
found_at (batch ∷ batches) zero d ascend within =
    ap (λ (b : Bool). cond b (Some batch) (batch_of_number batches batch.id)) (same_itself batch.id)
found_at (batch ∷ batches) (suc i) d ascend within =
    let inside : i < length batches = omega arith in
    ap (λ (b : Bool). cond b (Some batch) (batch_of_number batches (get_or batches i d).id))
    (less_differs batch.id (get_or batches i d).id (pairs_head (λ (a b : OutBatch). a.id < b.id) batch batches ascend i d inside))
    ∙ found_at batches i d (pairs_tail (λ (a b : OutBatch). a.id < b.id) batch batches ascend) inside

pub found : (batches items : List OutBatch) (i : ℕ) (x : OutBatch) → AscendByNumber number_of batches → items ≡ batches → i < length items → x ≡ get_or items i x
    → batch_of_number batches x.id ≡ Some x
found batches items i x ascend same within is =
    let at : x ≡ get_or batches i x = is ∙ ap (λ (bs : List OutBatch). get_or bs i x) same in
    let inside : i < length batches = subst (λ (bs : List OutBatch). i < length bs) same within in
    ap (λ (b : OutBatch). batch_of_number batches b.id) at ∙ (found_at batches i x ascend inside ∙ ap (λ (b : OutBatch). Some b) (sym at))
