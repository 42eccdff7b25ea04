-- A test that only ASCII texts pass answers the same of a text's bytes and of its characters.
use Rattle.std.proofs.Common.{◌≡◌, ℕ, zero, suc, ◌<◌, Bool, true, false, ◌&&◌, List, [], ◌∷◌, refl, sym, ap, ◌∙◌, arith}
use Rattle.std.proofs.lemmas.Bool.Decides.{nat_tests}
use Rattle.std.proofs.lemmas.Str.{chars-IsAscii, encodes-IsAscii, encodes-chars}
use Rattle.std.specs.List.{list_all}
use Rattle.std.specs.Str.{IsAscii, IsUtf8, chars}
use Rattle.std.specs.Char.{is_ascii_digit}
use Rattle.std.specs.Prelude.{if◌then◌else◌, Result, Ok, Err}
use Rattle.sds_value.specs.declared.kind.Value.{Value}
use Rattle.sds_value.specs.declared.refusal.ValueRefusal.{ValueRefusal}
use Rattle.sds_value.specs.declared.refusal.ValueRefusal.TheVariants.{BadText}
use Rattle.sds_value.specs.Names.{is_name_character, is_name_text}

pub left_true : (a b : Bool) → (a && b) ≡ true → a ≡ true
left_true true b both = refl
left_true false b both = both

pub right_true : (a b : Bool) → (a && b) ≡ true → b ≡ true
right_true true b both = both
right_true false b both = absurd (cc)

-- a text whose characters all pass a test of ASCII is ASCII
pub all_small : (test : ℕ → Bool) → ((c : ℕ) → test c ≡ true → c < 128) → (xs : List ℕ) → list_all test xs ≡ true → IsAscii xs
all_small test small [] pass i = omega arith
all_small test small (x ∷ xs) pass zero = small x (left_true _ _ pass)
all_small test small (x ∷ xs) pass (suc i) = all_small test small xs (right_true _ _ pass) i

pub digit_small : (c : ℕ) → is_ascii_digit c ≡ true → c < 128
digit_small c is = grind (arith, nat_tests)

name_small : (c : ℕ) → is_name_character c ≡ true → c < 128
name_small c is = grind (arith, nat_tests)

pub name_ascii : (xs : List ℕ) → is_name_text xs ≡ true → IsAscii xs
name_ascii xs is = all_small is_name_character name_small xs (right_true _ _ (right_true _ _ is))

same_by : (test : List ℕ → Bool) → ((xs : List ℕ) → test xs ≡ true → IsAscii xs) → (bs : List ℕ) → IsUtf8 bs → (a b : Bool) → test bs ≡ a → test (chars bs) ≡ b → test bs ≡ test (chars bs)
same_by test ascii bs utf8 true b is_a is_b = ap test (sym (chars-IsAscii bs (ascii bs is_a)))
same_by test ascii bs utf8 false true is_a is_b = ap test (sym (encodes-chars bs utf8) ∙ encodes-IsAscii (chars bs) (ascii (chars bs) is_b))
same_by test ascii bs utf8 false false is_a is_b = is_a ∙ sym is_b

pub same_test : (test : List ℕ → Bool) → ((xs : List ℕ) → test xs ≡ true → IsAscii xs) → (bs : List ℕ) → IsUtf8 bs → test bs ≡ test (chars bs)
same_test test ascii bs utf8 = same_by test ascii bs utf8 _ _ refl refl

-- what a text reads as, where only ASCII texts have the form
pub same_of : (test : List ℕ → Bool) (read : List ℕ → Result Value ValueRefusal) → ((xs : List ℕ) → test xs ≡ true → IsAscii xs) → (bs : List ℕ) → IsUtf8 bs
    → (if test bs then read bs else Err BadText) ≡ (if test (chars bs) then read (chars bs) else Err BadText)
same_of test read ascii bs utf8 = by (test bs) refl
  where
    by : (b : Bool) → test bs ≡ b → (if test bs then read bs else Err BadText) ≡ (if test (chars bs) then read (chars bs) else Err BadText)
    by true is = rw (chars-IsAscii bs (ascii bs is)) refl
    by false is = let other : test (chars bs) ≡ false = sym (same_test test ascii bs utf8) ∙ is in rw (is, other) refl

-- an ASCII text that reads is its characters
pub back_of : (test : List ℕ → Bool) (read : List ℕ → Result Value ValueRefusal) → ((xs : List ℕ) → test xs ≡ true → IsAscii xs) → (text : List ℕ) (value : Value)
    → (if test text then read text else Err BadText) ≡ Ok value → (if test (chars text) then read (chars text) else Err BadText) ≡ Ok value
back_of test read ascii text value = by (test text) refl
  where
    by : (b : Bool) → test text ≡ b → (if b then read text else Err BadText) ≡ Ok value → (if test (chars text) then read (chars text) else Err BadText) ≡ Ok value
    by true is reads = rw (chars-IsAscii text (ascii text is), is) reads
    by false is reads = absurd (cc)

pub name_same : (bs : List ℕ) → IsUtf8 bs → is_name_text bs ≡ is_name_text (chars bs)
name_same bs utf8 = same_test is_name_text name_ascii bs utf8
