-- What parts are judged by, part after part.
use Rattle.std.proofs.Common.{◌≡◌, ℕ, suc, ◌+◌, ◌-◌, ◌<◌, ◌≤◌, Bool, true, false, ◌||◌, ◌&&◌, List, [], ◌∷◌, cond, map, Some, refl, sym, ap, ◌∙◌, arith}
use Rattle.std.specs.Prelude.{is_some}
use Rattle.std.specs.List.{find, list_all, list_any, range_with_len}
use Rattle.std.specs.Str.{bytes_eq, encode_utf8_all}
use Rattle.sds_types.specs.declared.peer.KeptPeer.{KeptPeer}
use Rattle.sds_history.specs.history.Acts.{State}
use Rattle.sds_history.specs.history.Peers.{peer_key}
use Rattle.sds_history.specs.history.SoundStates.{is_peer_of}

some_found : {A : Type 0} (p : A → Bool) (xs : List A) → is_some (find p xs) ≡ list_any p xs
some_found p [] = refl
some_found {A} p (x ∷ xs) = on (p x) (some_found p xs)
  where
    on : (b : Bool) → is_some (find p xs) ≡ list_any p xs → is_some (cond b (Some x) (find p xs)) ≡ (b || list_any p xs)
    on true rest = refl
    on false rest = rest

pub any_seen : {A B : Type 0} (p : A → Bool) (f : B → A) (xs : List B) → list_any (λ x. p (f x)) xs ≡ list_any p (map f xs)
any_seen p f [] = refl
any_seen p f (x ∷ xs) = ap (λ b. p (f x) || b) (any_seen p f xs)

-- a peer of an id
pub peer_any : {B : Type 0} (f : B → KeptPeer) (seen : List B) (state : State) (id : List ℕ) → map f seen ≡ state.peers
    → list_any (λ kept. bytes_eq (encode_utf8_all (f kept).peer.id) (encode_utf8_all id)) seen ≡ is_peer_of state id
peer_any f seen state id is =
    any_seen (λ (kept : KeptPeer). bytes_eq (peer_key kept) (encode_utf8_all id)) f seen
    ∙ (ap (list_any (λ (kept : KeptPeer). bytes_eq (peer_key kept) (encode_utf8_all id))) is
    ∙ sym (some_found (λ (kept : KeptPeer). bytes_eq (peer_key kept) (encode_utf8_all id)) state.peers))

-- NUMBERS that wait to be routed
pub next_number : (p : ℕ → Bool) (number last : ℕ) → number < last
    → list_all p (range_with_len (number + 1) (last - number)) ≡ (p (number + 1) && list_all p (range_with_len (number + 1 + 1) (last - (number + 1))))
next_number p number last within = on (last - number) (last - (number + 1)) (omega (arith, within))
  where
    on : (n m : ℕ) → n ≡ suc m → list_all p (range_with_len (number + 1) n) ≡ (p (number + 1) && list_all p (range_with_len (number + 1 + 1) m))
    on n m is = ap (λ k. list_all p (range_with_len (number + 1) k)) is

pub number_passed : (p : ℕ → Bool) (number last : ℕ) (all : Bool) → number < last → p (number + 1) ≡ true
    → list_all p (range_with_len (number + 1) (last - number)) ≡ all → list_all p (range_with_len (number + 1 + 1) (last - (number + 1))) ≡ all
number_passed p number last all within has is =
    sym (next_number p number last within ∙ ap (λ b. b && list_all p (range_with_len (number + 1 + 1) (last - (number + 1)))) has) ∙ is

pub no_number : (p : ℕ → Bool) (number last : ℕ) → last ≤ number → list_all p (range_with_len (number + 1) (last - number)) ≡ true
no_number p number last past = on (last - number) (omega (arith, past))
  where
    on : (n : ℕ) → n ≡ 0 → list_all p (range_with_len (number + 1) n) ≡ true
    on n is = ap (λ k. list_all p (range_with_len (number + 1) k)) is

pub all_same : (p q : ℕ → Bool) → ((number : ℕ) → p number ≡ q number) → (numbers : List ℕ) → list_all p numbers ≡ list_all q numbers
all_same p q same [] = refl
all_same p q same (number ∷ numbers) =
    ap (λ b. b && list_all p numbers) (same number) ∙ ap (λ b. q number && b) (all_same p q same numbers)
