-- What a reading that gave a value says: each of its parts gave one, and the value is as they say.
use Rattle.std.proofs.Common.{◌≡◌, ◌≢◌, ℕ, ℤ, pos, negsuc, ◌<◌, ◌≤◌, Bool, true, false, cond, List, [], ◌∷◌, ◌++◌, length, Option, None, Some, Result, Ok, Err, refl, sym, ap, subst, ◌∙◌, arith, true≢false, All, AllPairs, find, filter, ◌&&◌}
use Rattle.std.specs.Prelude.{nat_le, nat_lt, position, if◌then◌else◌}
use Rattle.std.specs.Bool.{IsTrue}
use Rattle.std.specs.List.{list_any, position_or_len}
use Rattle.std.specs.Str.{bytes_eq, chars}
use Rattle.std.proofs.lemmas.Bool.Decides.{nat_tests}
use Rattle.std.proofs.lemmas.List.Elements.{All-nil, All-cons, All-append}
use Rattle.std.proofs.lemmas.List.Folds.{list_any_at}
use Rattle.std.proofs.lemmas.List.Kept.{AllPairs-cons}
use Rattle.std.proofs.lemmas.List.Sums.{fails_before_first}
use Rattle.std.proofs.lemmas.Option.{cond_some}
use Rattle.std.proofs.lemmas.Slice.Eq.{bytes_eq-Decides}
use Rattle.toml.specs.Data.{Data, Members, get_member, as_integer, as_str}
use Rattle.sds_trade.proofs.Lists.{pairs_append}
use Rattle.sds_trade.proofs.ReferenceLaws.{both_left, both_right}
use Rattle.sds_types.specs.declared.config_refusal.ConfigRefusal.{ConfigRefusal}
use Rattle.sds_types.specs.declared.config_refusal.ConfigRefusal.TheVariants.{Duplicate, UnknownName}
use Rattle.sds_value.specs.Names.{is_name_text}
use Rattle.sds_config.specs.Fields.{allowed, field_path, typed, required, text_at, name_at, number_at, number_within, id_at, place_at, place_of}
use Rattle.sds_config.specs.Refusals.{and_then}

-- ANSWERS
abbrev pub Answer : Type 0 → Type 0
Answer T = Result T ConfigRefusal

abbrev is_ok : {T : Type 0} → Answer T → Bool
is_ok (Ok value) = true
is_ok (Err refusal) = false

abbrev value_or : {T : Type 0} → T → Answer T → T
value_or other (Ok value) = value
value_or other (Err refusal) = other

abbrev pub gives : {T : Type 0} → T → Answer T
gives value = Ok value

abbrev pub refuses : {T : Type 0} → ConfigRefusal → Answer T
refuses refusal = Err refusal

-- a reading gave a value
abbrev pub Is : {T : Type 0} → Answer T → T → Type 0
Is answer value = answer ≡ Ok value

pub same_value : {T : Type 0} (a b : T) → gives a ≡ gives b → a ≡ b
same_value a b is = ap (value_or a) is

pub never : {T G : Type 0} (refusal : ConfigRefusal) (value : T) → refuses {T = T} refusal ≡ gives value → G
never refusal value is = absurd (true≢false (sym (ap is_ok is)))

-- a reading that then another: the first gave a value, and the next gave this one of it
pub gave : {T U G : Type 0} (first : Answer T) (next : T → Answer U) (value : U) → and_then first next ≡ Ok value
    → ((given : T) → first ≡ Ok given → next given ≡ Ok value → G) → G
gave (Ok given) next value is follows = follows given refl is
gave {T} {U} {G} (Err refusal) next value is follows = never refusal value is

-- OPTIONS
abbrev is_there : {T : Type 0} → Option T → Bool
is_there None = false
is_there (Some value) = true

pub no_value : {T G : Type 0} (value : T) → Some value ≡ None → G
no_value value is = absurd (true≢false (ap is_there is))

pub was_allowed : {T : Type 0} (given : Option T) (at key : List ℕ) (value : T) → allowed given at key ≡ Ok value → given ≡ Some value
was_allowed (Some other) at key value is = ap (λ v. Some v) (same_value other value is)
was_allowed None at key value is = never _ value is

pub was_typed : {T : Type 0} (given : Option T) (at key : List ℕ) (value : T) → typed given at key ≡ Ok value → given ≡ Some value
was_typed (Some other) at key value is = ap (λ v. Some v) (same_value other value is)
was_typed None at key value is = never _ value is

-- TESTS
pub below : (a b : ℕ) → nat_le a b ≡ true → a ≤ b
below a b is = grind (arith, nat_tests)

pub not_above : (a b : ℕ) → nat_lt b a ≡ false → a ≤ b
not_above a b is = grind (arith, nat_tests)

pub before : (a b : ℕ) → nat_lt a b ≡ true → a < b
before a b is = grind (arith, nat_tests)

-- LISTS. One more at the end
pub all_snoc : {X : Type 0} (P : X → Type 0) (xs : List X) (x : X) → All P xs → P x → All P (xs ++ x ∷ [])
all_snoc P xs x are is = All-append P xs (x ∷ []) are (All-cons P x [] is (All-nil P))

pub all_mapped : {X : Type 0} (P Q : X → Type 0) (xs : List X) → ((x : X) → P x → Q x) → All P xs → All Q xs
all_mapped P Q xs follows are k d within = follows _ (are k d within)

single : {X : Type 0} (R : X → X → Type 0) (x : X) → AllPairs R (x ∷ [])
single R x i j d less within = absurd (omega (arith, less, within))

pub no_pairs : {X : Type 0} (R : X → X → Type 0) → AllPairs R []
no_pairs R i j d less within = absurd (omega (arith, within))

pub pairs_snoc : {X : Type 0} (R : X → X → Type 0) (xs : List X) (x : X) → AllPairs R xs → All (λ y. R y x) xs → AllPairs R (xs ++ x ∷ [])
pairs_snoc R xs x are each = pairs_append R xs (x ∷ []) are (single R x)
    (all_mapped (λ y. R y x) (λ y. All (R y) (x ∷ [])) xs (λ y is. All-cons (R y) x [] is (All-nil (R y))) each)

-- none passes
fails_on : {X : Type 0} (p : X → Bool) (xs : List X) (k : ℕ) (d x : X) (b : Bool) → p x ≡ b → (p x ≡ true → list_any p xs ≡ true) → list_any p xs ≡ false
    → p x ≡ false
fails_on p xs k d x false is found none = is
fails_on p xs k d x true is found none = absurd (true≢false (sym (found is) ∙ none))

pub none_passes : {X : Type 0} (p : X → Bool) (xs : List X) → list_any p xs ≡ false → All (λ x. p x ≡ false) xs
none_passes p xs none k d within = fails_on p xs k d _ _ refl (λ is. list_any_at p xs k d within is) none

-- PLACES. Where a name is found its place is that of an entry, and where it isn't no entry has it
past_on : (place all : ℕ) (b : Bool) → nat_lt place all ≡ b → cond b (Some place) None ≡ None → all ≤ place
past_on place all true is none = no_value place none
past_on place all false is none = not_above all place is

past : (place all k : ℕ) → all ≤ place → k < all → k < place
past place all k over within = omega (arith, over, within)

pub none_found : {E : Type 0} (p : E → Bool) (entries : List E) → position p entries ≡ None → All (λ entry. p entry ≡ false) entries
none_found p entries none k d within =
    fails_before_first p entries k d (past _ _ k (past_on (position_or_len p entries) (length entries) _ refl none) within)

pub place_within : {E : Type 0} (p : E → Bool) (entries : List E) (place : ℕ) → position p entries ≡ Some place → place < length entries
place_within p entries place is =
    let (is_below, same) = cond_some (nat_lt (position_or_len p entries) (length entries)) (position_or_len p entries) place is in
    subst (λ n. n < length entries) same (before _ _ is_below)

pub not_same : (a b : List ℕ) → bytes_eq a b ≡ false → a ≢ b
not_same a b isnt same = absurd (true≢false (sym ((bytes_eq-Decides a b).1 same) ∙ isnt))

pub others : {E : Type 0} (name_of : E → List ℕ) (entries : List E) (name : List ℕ) → place_of name_of entries name ≡ None
    → All (λ entry. name_of entry ≢ name) entries
others name_of entries name none =
    all_mapped (λ entry. bytes_eq (name_of entry) name ≡ false) (λ entry. name_of entry ≢ name) entries (λ entry isnt. not_same (name_of entry) name isnt)
    (none_found (λ entry. bytes_eq (name_of entry) name) entries none)

-- FIELDS. A name
named_on : (text name : List ℕ) (b : Bool) → is_name_text text ≡ b → cond b (Some text) None ≡ Some name → IsTrue (is_name_text name)
named_on text name true is given = subst (λ n. is_name_text n ≡ true) (ap (λ o. elim o [ None ↦ text | Some n ↦ n ]) given) is
named_on text name false is given = no_value name (sym given)

pub name_given : (entry : Members) (at key name : List ℕ) → name_at entry at key ≡ Ok name → IsTrue (is_name_text name)
name_given entry at key name is =
    gave (text_at entry at key) _ name is (λ text read rest. named_on text name (is_name_text text) refl (was_allowed _ at key name rest))

-- a name of its own
pub record IsNew {E : Type 0} (name_of : E → List ℕ) (earlier : List E) (name : List ℕ) : Type 0 where
  pub named : IsTrue (is_name_text name)
  pub apart : All (λ entry. name_of entry ≢ name) earlier

new_on : {E : Type 0} (name_of : E → List ℕ) (earlier : List E) (refusal : ConfigRefusal) (given name : List ℕ) (place : Option ℕ)
    → IsTrue (is_name_text given) → place_of name_of earlier given ≡ place
    → Is {T = List ℕ} (elim place [ None ↦ gives given | Some other ↦ refuses refusal ]) name → IsNew name_of earlier name
new_on name_of earlier refusal given name None is_name none is =
    subst (λ n. IsNew name_of earlier n) (same_value given name is) (record { named = is_name; apart = others name_of earlier given none })
new_on name_of earlier refusal given name (Some other) is_name found is = never _ name is

pub new_given : {E : Type 0} (name_of : E → List ℕ) (earlier : List E) (entry : Members) (at key name : List ℕ)
    → id_at name_of earlier entry at key ≡ Ok name → IsNew name_of earlier name
new_given name_of earlier entry at key name is = gave (name_at entry at key) _ name is (λ given read rest.
    new_on name_of earlier (Duplicate (chars (field_path at key))) given name (place_of name_of earlier given) (name_given entry at key given read) refl rest)

-- a place
place_on : {E : Type 0} (name_of : E → List ℕ) (entries : List E) (refusal : ConfigRefusal) (given : List ℕ) (place : ℕ) (found : Option ℕ)
    → place_of name_of entries given ≡ found → Is {T = ℕ} (elim found [ None ↦ refuses refusal | Some other ↦ gives other ]) place → place < length entries
place_on name_of entries refusal given place None none is = never _ place is
place_on name_of entries refusal given place (Some other) found is =
    subst (λ n. n < length entries) (same_value other place is) (place_within _ entries other found)

pub place_given : {E : Type 0} (name_of : E → List ℕ) (entries : List E) (entry : Members) (at key : List ℕ) (place : ℕ)
    → place_at name_of entries entry at key ≡ Ok place → place < length entries
place_given name_of entries entry at key place is = gave (name_at entry at key) _ place is (λ given read rest.
    place_on name_of entries (UnknownName (chars (field_path at key))) given place (place_of name_of entries given) refl rest)

-- a number
pub record IsWithin (least most n : ℕ) : Type 0 where
  pub enough : least ≤ n
  pub few : n ≤ most

within_on : (least most m n : ℕ) (b : Bool) → (nat_le least m && nat_le m most) ≡ b → cond b (Some m) None ≡ Some n → IsWithin least most n
within_on least most m n true is given = subst (λ k. IsWithin least most k) (ap (λ o. elim o [ None ↦ m | Some k ↦ k ]) given)
    (record { enough = below least m (both_left _ _ is); few = below m most (both_right _ _ is) })
within_on least most m n false is given = no_value n (sym given)

within : (least most : ℕ) (z : ℤ) (n : ℕ) → number_within least most z ≡ Some n → IsWithin least most n
within least most (pos m) n is = within_on least most m n (nat_le least m && nat_le m most) refl is
within least most (negsuc m) n is = no_value n (sym is)

pub number_given : (least most : ℕ) (entry : Members) (at key : List ℕ) (n : ℕ) → number_at least most entry at key ≡ Ok n → IsWithin least most n
number_given least most entry at key n is = gave (required entry at key) _ n is (λ value read rest.
    gave (typed (as_integer value) at key) _ n rest (λ z read last. within least most z n (was_allowed (number_within least most z) at key n last)))
