-- Keys of pairs of names: bytes that are compared without joining them.
use Rattle.std.proofs.Common.{◌≡◌, Bool, ℕ, List, ◌++◌, codes, Ordering, ap, ◌∙◌, nat_cmp}
use Rattle.std.specs.Cmp.Lexicographic.{slice_cmp}
use Rattle.std.specs.Ordering.{is_eq}
use Rattle.std.specs.Str.{bytes_eq, chars, encode_utf8_all}
use Rattle.std.proofs.lemmas.Map.Text.{is_eq-slice_cmp}
use Rattle.sds_history.specs.history.Orders.{pair_key}

-- a pair compares as equal with another exactly where their keys are one
pub same_pair : (first second group external a b : List ℕ) (o : Ordering) (same : Bool) → a ≡ encode_utf8_all first → b ≡ encode_utf8_all second
    → group ≡ encode_utf8_all (chars group) → external ≡ encode_utf8_all (chars external)
    → o ≡ slice_cmp nat_cmp (a ++ (codes "/" ++ b)) (group ++ (codes "/" ++ external)) → same ≡ is_eq o
    → same ≡ bytes_eq (pair_key first second) (pair_key (chars group) (chars external))
same_pair first second group external a b o same is_first is_second is_group is_external ordered is =
    let joined : List ℕ → List ℕ → List ℕ = λ x y. x ++ (codes "/" ++ y) in
    is ∙ (ap is_eq ordered ∙ (is_eq-slice_cmp (joined a b) (joined group external)
    ∙ (ap (λ x. bytes_eq (joined x b) (joined group external)) is_first
    ∙ (ap (λ y. bytes_eq (joined (encode_utf8_all first) y) (joined group external)) is_second
    ∙ (ap (λ x. bytes_eq (pair_key first second) (joined x external)) is_group
    ∙ ap (λ y. bytes_eq (pair_key first second) (joined (encode_utf8_all (chars group)) y)) is_external)))))
