-- The words of a reply's acks, joined.
use Rattle.std.proofs.Common.{◌≡◌, ℕ, ◌-◌, ◌≤◌, Bool, false, ◌==◌, if◌then◌else◌, List, [], ◌∷◌, ◌++◌, suc, take, drop, length, get_or, map, refl, sym, ap, ◌∙◌, append-nil, append_assoc, arith}
use Rattle.std.specs.List.{join_with_byte}
use Rattle.std.proofs.lemmas.Bool.Decides.{nat_tests}
use Rattle.std.proofs.lemmas.List.{take_all}
use Rattle.sds_types.specs.declared.ack.Ack.{Ack}
use Rattle.sds_screen.specs.Words.{ack_word, reply_text}
use Rattle.sds_told.specs.Replies.{further_words}

joined : (ack : Ack) (acks : List Ack) → reply_text (ack ∷ acks) ≡ ack_word ack ++ further_words acks
joined ack [] = sym (append-nil (ack_word ack))
joined ack (next ∷ acks) = ap (λ (l : List ℕ). ack_word ack ++ (38 ∷ l)) (joined next acks)

-- the words of the first ack and those of the others after it
pub acks_put : (acks : List Ack) (other : Ack) (mid new : List ℕ) → 1 ≤ length acks → mid ≡ ack_word (get_or acks 0 other)
    → new ≡ mid ++ further_words (take (length acks - 1) (drop 1 acks)) → new ≡ reply_text acks
acks_put [] other mid new some was put = absurd (omega arith)
acks_put (ack ∷ acks) other mid new some was put =
    let all : take (suc (length acks) - 1) acks ≡ acks = take_all (suc (length acks) - 1) acks (omega arith) in
    put ∙ (ap (λ (l : List Ack). mid ++ further_words l) all ∙ (ap (λ (l : List ℕ). l ++ further_words acks) was ∙ sym (joined ack acks)))

-- a further word after those of acks
pub last_word : (ack : Ack) (acks : List Ack) (word : List ℕ) → join_with_byte 38 (map ack_word (ack ∷ acks) ++ word ∷ []) ≡ reply_text (ack ∷ acks) ++ 38 ∷ word
last_word ack [] word = refl
last_word ack (next ∷ acks) word =
    ap (λ (l : List ℕ). ack_word ack ++ 38 ∷ l) (last_word next acks word) ∙ sym (append_assoc (ack_word ack) (38 ∷ reply_text (next ∷ acks)) (38 ∷ word))

-- and after none
pub ended : (acks : List Ack) (only : Bool) (old new word : List ℕ) → only ≡ (length acks == 0) → old ≡ reply_text acks → new ≡ old ++ (if only then word else 38 ∷ word)
    → new ≡ join_with_byte 38 (map ack_word acks ++ word ∷ [])
ended [] only old new word none was is = is ∙ (ap (λ (l : List ℕ). l ++ (if only then word else 38 ∷ word)) was ∙ (rw none refl))
ended (ack ∷ acks) only old new word none was is =
    let some : (length (ack ∷ acks) == 0) ≡ false = grind (arith, nat_tests) in
    is ∙ (ap (λ (l : List ℕ). l ++ (if only then word else 38 ∷ word)) was ∙ (rw (none ∙ some) (sym (last_word ack acks word))))
