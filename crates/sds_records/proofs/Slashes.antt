-- Names have no slash, so what stands before the first slash of a key is a name.
use Rattle.std.proofs.Common.{◌≡◌, ℕ, suc, ◌+◌, ◌-◌, ◌==◌, Bool, true, false, cond, not, List, [], ◌∷◌, ◌++◌, length, length-append, take, drop, Option, Some, None, refl, ap, ◌∙◌, arith}
use Rattle.std.proofs.lemmas.Bool.Decides.{nat_tests}
use Rattle.std.proofs.lemmas.List.{take_all}
use Rattle.std.specs.List.{list_all, position, prefix_len}
use Rattle.std.specs.Prelude.{nat_lt}
use Rattle.std.specs.Str.{encode_utf8_all}
use Rattle.sds_value.proofs.Characters.{left_true, right_true}
use Rattle.sds_value.specs.Names.{is_name_character, is_name_text}
use Rattle.sds_records.proofs.Texts.{name_bytes}

is_slash : ℕ → Bool
is_slash byte = byte == 47

plain : (c : ℕ) → is_name_character c ≡ true → (c == 47) ≡ false
plain c is = grind (arith, nat_tests)

before : (name rest : List ℕ) → list_all is_name_character name ≡ true → prefix_len (λ (byte : ℕ). not (byte == 47)) (name ++ 47 ∷ rest) ≡ length name
before [] rest named = refl
before (c ∷ name) rest named =
    ap (λ b. cond (not b) (1 + prefix_len (λ (byte : ℕ). not (byte == 47)) (name ++ 47 ∷ rest)) 0) (plain c (left_true _ _ named))
    ∙ (ap (λ n. 1 + n) (before name rest (right_true _ _ named)) ∙ count (length name))
  where
    count : (n : ℕ) → 1 + n ≡ suc n
    count n = omega arith

slash_is : (name rest : List ℕ) → list_all is_name_character name ≡ true → position (λ (byte : ℕ). byte == 47) (name ++ 47 ∷ rest) ≡ Some (length name)
slash_is name rest named =
    ap (λ n. cond (nat_lt n (length (name ++ 47 ∷ rest))) (Some n) None) (before name rest named) ∙ ap (λ b. cond b (Some (length name)) None) (within name rest)
  where
    within : (name rest : List ℕ) → (nat_lt (length name) (length (name ++ 47 ∷ rest))) ≡ true
    within name rest = let long = length-append name (47 ∷ rest) in grind (arith, nat_tests, long)

first_part : (name rest : List ℕ) → take (length name) (name ++ 47 ∷ rest) ≡ name
first_part [] rest = refl
first_part (c ∷ name) rest = ap (λ xs. c ∷ xs) (first_part name rest)

last_part : (name rest : List ℕ) → drop (suc (length name)) (name ++ 47 ∷ rest) ≡ rest
last_part [] rest = refl
last_part (c ∷ name) rest = last_part name rest

plus_one : (n : ℕ) → n + 1 ≡ suc n
plus_one n = omega arith

last_of : (name rest : List ℕ) → take (length (name ++ 47 ∷ rest) - (length name + 1)) (drop (length name + 1) (name ++ 47 ∷ rest)) ≡ rest
last_of name rest =
    ap (λ (n : ℕ). take n (drop (length name + 1) (name ++ 47 ∷ rest))) (length_of name rest)
    ∙ (ap (λ (n : ℕ). take (length rest) (drop n (name ++ 47 ∷ rest))) (plus_one (length name))
    ∙ (ap (take (length rest)) (last_part name rest) ∙ take_all (length rest) rest (omega arith)))
  where
    length_of : (name rest : List ℕ) → length (name ++ 47 ∷ rest) - (length name + 1) ≡ length rest
    length_of name rest = let long = length-append name (47 ∷ rest) in omega (arith, long)

abbrev both : List ℕ → List ℕ → Option (List ℕ × List ℕ)
both a b = Some (a, b)

pair : (a b c d : List ℕ) → a ≡ c → b ≡ d → ◌≡◌ {A = Option (List ℕ × List ℕ)} (Some (a, b)) (Some (c, d))
pair a b c d first second = ap (λ (x : List ℕ). both x b) first ∙ ap (λ (x : List ℕ). both c x) second

parts : (name rest : List ℕ) (at : ℕ) → at ≡ length name
    → ◌≡◌ {A = Option (List ℕ × List ℕ)} (Some (take at (name ++ 47 ∷ rest), take (length (name ++ 47 ∷ rest) - (at + 1)) (drop (at + 1) (name ++ 47 ∷ rest)))) (Some (name, rest))
parts name rest at is =
    pair (take at (name ++ 47 ∷ rest)) (take (length (name ++ 47 ∷ rest) - (at + 1)) (drop (at + 1) (name ++ 47 ∷ rest))) name rest
    (ap (λ (n : ℕ). take n (name ++ 47 ∷ rest)) is ∙ first_part name rest)
    (ap (λ (n : ℕ). take (length (name ++ 47 ∷ rest) - (n + 1)) (drop (n + 1) (name ++ 47 ∷ rest))) is ∙ last_of name rest)

some_of : {A : Type 0} {a b : A} → Some a ≡ Some b → a ≡ b
some_of {A} {a} {b} same = cc

named : (name : List ℕ) → is_name_text name ≡ true → list_all is_name_character (encode_utf8_all name) ≡ true
named name is = rw (name_bytes name is) (right_true _ _ (right_true _ _ is))

-- what stands before the slash that is found, and what stands after it
pub divided_at : (bytes name rest : List ℕ) (at : ℕ) → is_name_text name ≡ true → bytes ≡ encode_utf8_all name ++ 47 ∷ rest
    → Some at ≡ position (λ (byte : ℕ). byte == 47) bytes
    → ◌≡◌ {A = Option (List ℕ × List ℕ)} (Some (take at bytes, take (length bytes - (at + 1)) (drop (at + 1) bytes))) (Some (encode_utf8_all name, rest))
divided_at bytes name rest at is same found =
    rw same (parts (encode_utf8_all name) rest at (some_of (found ∙ (ap (position (λ (byte : ℕ). byte == 47)) same ∙ slash_is (encode_utf8_all name) rest (named name is)))))

pub slash_found : (bytes name rest : List ℕ) → is_name_text name ≡ true → bytes ≡ encode_utf8_all name ++ 47 ∷ rest
    → None ≡ position (λ (byte : ℕ). byte == 47) bytes → ⊥
slash_found bytes name rest is same found = none_some (found ∙ (ap (position (λ (byte : ℕ). byte == 47)) same ∙ slash_is (encode_utf8_all name) rest (named name is)))
  where
    none_some : {A : Type 0} {a : A} → None ≡ Some a → ⊥
    none_some {A} {a} same = cc
