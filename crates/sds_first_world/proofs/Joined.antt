-- The words of a reply's acks, joined.
use Rattle.std.proofs.Common.{◌≡◌, ℕ, ◌-◌, ◌≤◌, List, [], ◌∷◌, ◌++◌, suc, take, drop, length, get_or, sym, ap, ◌∙◌, append-nil, arith}
use Rattle.std.proofs.lemmas.List.{take_all}
use Rattle.sds_types.specs.declared.ack.Ack.{Ack}
use Rattle.sds_first_spec.specs.Screen.{ack_word, acks_words}
use Rattle.sds_first_world.specs.Acking.{others_words}

joined : (ack : Ack) (acks : List Ack) → acks_words (ack ∷ acks) ≡ ack_word ack ++ others_words acks
joined ack [] = sym (append-nil (ack_word ack))
joined ack (next ∷ acks) = ap (λ (l : List ℕ). ack_word ack ++ (38 ∷ l)) (joined next acks)

-- the words of the first ack and those of the others behind it
pub acks_put : (acks : List Ack) (other : Ack) (mid new : List ℕ) → 1 ≤ length acks → mid ≡ ack_word (get_or acks 0 other)
    → new ≡ mid ++ others_words (take (length acks - 1) (drop 1 acks)) → new ≡ acks_words acks
acks_put [] other mid new some was put = absurd (omega arith)
acks_put (ack ∷ acks) other mid new some was put =
    let all : take (suc (length acks) - 1) acks ≡ acks = take_all (suc (length acks) - 1) acks (omega arith) in
    put ∙ (ap (λ (l : List Ack). mid ++ others_words l) all ∙ (ap (λ (l : List ℕ). l ++ others_words acks) was ∙ sym (joined ack acks)))
