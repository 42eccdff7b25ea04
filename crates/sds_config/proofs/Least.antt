-- The key that isn't listed and is answered is the least: no other such key comes before it.
use Rattle.std.proofs.Common.{◌≡◌, ℕ, Bool, true, false, cond, List, [], ◌∷◌, map, Option, None, Some, String, Global, Ordering, Less, Equal, Greater, string_bytes, nat_cmp, refl, sym, ap, subst, ◌∙◌, true≢false}
use Rattle.std.specs.Prelude.{if◌then◌else◌}
use Rattle.std.specs.Cmp.{IsTotalOrder}
use Rattle.std.specs.Cmp.Lexicographic.{slice_cmp}
use Rattle.std.specs.List.{AllByRecursion}
use Rattle.std.specs.List.Sorted.{IsStrictlySortedBy}
use Rattle.std.specs.Map.{keys_of}
use Rattle.std.specs.Ordering.{is_lt, ordering_reverse}
use Rattle.std.specs.String.{string_cmp}
use Rattle.std.proofs.lemmas.Cmp.{nat_list_cmp_total}
use Rattle.toml.proofs.Views.{Entry}
use Rattle.toml.specs.Data.{Members, no_members, member}
use Rattle.toml.specs.View.{members_view, view}
use Rattle.sds_config.specs.Fields.{NoneBefore, first_unlisted, is_listed, lesser}

-- nothing is no key
abbrev is_there : Option (List ℕ) → Bool
is_there None = false
is_there (Some key) = true

no_value : {G : Type 0} (key : List ℕ) → Some key ≡ None → G
no_value key is = absurd (true≢false (ap is_there is))

-- ORDER
abbrev order : List ℕ → List ℕ → Ordering
order a b = slice_cmp nat_cmp a b

-- the key stays before what comes after it
lesser_key : (key other : List ℕ) → order key other ≡ Less → lesser key (Some other) ≡ key
lesser_key key other less =
    ap (λ o. cond (is_lt o) other key) (nat_list_cmp_total.antisymm other key ∙ ap ordering_reverse less)

one_of : (P : List ℕ → Type 0) (a b : List ℕ) (test : Bool) → P a → P b → P (cond test a b)
one_of P a b true first second = first
one_of P a b false first second = second

lesser_after : (key one : List ℕ) (later : Option (List ℕ)) → order key one ≡ Less → ((other : List ℕ) → later ≡ Some other → order key other ≡ Less)
    → order key (lesser one later) ≡ Less
lesser_after key one None less rest = less
lesser_after key one (Some other) less rest =
    one_of (λ k. order key k ≡ Less) other one (is_lt (order other one)) (rest other refl) less

-- SORTED. What is found among later keys comes after the key
found_on : (key one other : List ℕ) (later : Option (List ℕ)) (b : Bool) → order key one ≡ Less
    → ((found : List ℕ) → later ≡ Some found → order key found ≡ Less)
    → cond b later (Some (lesser one later)) ≡ Some other → order key other ≡ Less
found_on key one other later true less rest is = rest other is
found_on key one other later false less rest is =
    subst (λ k. order key k ≡ Less) (ap (λ o. elim o [ None ↦ other | Some k ↦ k ]) is) (lesser_after key one later less rest)

later_after : (key : String Global) (names : List (List ℕ)) (es : List Entry) → AllByRecursion (λ y. string_cmp key y ≡ Less) (keys_of es)
    → (other : List ℕ) → first_unlisted names (members_view es) ≡ Some other → order (string_bytes key) other ≡ Less
later_after key names [] less other is = no_value other (sym is)
later_after key names (e ∷ es) less other is =
    found_on (string_bytes key) (string_bytes e.0) other (first_unlisted names (members_view es)) (is_listed names (string_bytes e.0)) less.0
    (λ found found_is. later_after key names es less.1 found found_is) is

lesser_of : (key : List ℕ) (later : Option (List ℕ)) → ((other : List ℕ) → later ≡ Some other → order key other ≡ Less) → lesser key later ≡ key
lesser_of key None rest = refl
lesser_of key (Some other) rest = lesser_key key other (rest other refl)

-- of members that ascend the first that isn't listed is the least
pub first_is_least : (names : List (List ℕ)) (e : Entry) (es : List Entry) → AllByRecursion (λ y. string_cmp e.0 y ≡ Less) (keys_of es)
    → is_listed names (string_bytes e.0) ≡ false → first_unlisted names (members_view (e ∷ es)) ≡ Some (string_bytes e.0)
first_is_least names e es less isnt =
    ap (λ b. cond b (first_unlisted names (members_view es)) (Some (lesser (string_bytes e.0) (first_unlisted names (members_view es))))) isnt
    ∙ ap (λ k. Some k) (lesser_of (string_bytes e.0) (first_unlisted names (members_view es)) (λ other is. later_after e.0 names es less other is))

-- ANY. In whatever order they stand
less_is : (o : Ordering) → is_lt o ≡ true → o ≡ Less
less_is Less is = refl
less_is Equal is = absurd (true≢false (sym is))
less_is Greater is = absurd (true≢false (sym is))

not_itself : (o : Ordering) → o ≡ ordering_reverse o → is_lt o ≡ false
not_itself Less is = ap (λ p. elim p [ Less ↦ true | Equal ↦ false | Greater ↦ false ]) is
not_itself Equal is = refl
not_itself Greater is = refl

turned : (a b : List ℕ) → order a b ≡ Less → order b a ≡ Greater
turned a b less = nat_list_cmp_total.antisymm b a ∙ ap ordering_reverse less

-- a key isn't before one that comes after what it isn't before
isnt_on : (z key other : List ℕ) (o b : Ordering) → order key other ≡ o → order other key ≡ ordering_reverse o → order z key ≡ b
    → is_lt (ordering_reverse o) ≡ false → is_lt (order z other) ≡ false → is_lt b ≡ false
isnt_on z key other o Equal to from here isnt none = refl
isnt_on z key other o Greater to from here isnt none = refl
isnt_on z key other Less Less to from here isnt none =
    ap is_lt (sym (nat_list_cmp_total.trans z key other here to)) ∙ none
isnt_on z key other Equal Less to from here isnt none =
    let same : order key z ≡ order other z = nat_list_cmp_total.congr key other z to in
    let after : order other z ≡ Greater = sym same ∙ turned z key here in
    let less : order z other ≡ Less = nat_list_cmp_total.antisymm z other ∙ ap ordering_reverse after in
    ap is_lt (sym less) ∙ none
isnt_on z key other Greater Less to from here isnt none = absurd (true≢false isnt)

isnt_before : (z key other : List ℕ) → is_lt (order other key) ≡ false → is_lt (order z other) ≡ false → is_lt (order z key) ≡ false
isnt_before z key other isnt none =
    isnt_on z key other (order key other) (order z key) refl (nat_list_cmp_total.antisymm other key) refl
    (ap is_lt (sym (nat_list_cmp_total.antisymm other key)) ∙ isnt) none

none_more : (names : List (List ℕ)) (entry : Members) (key other : List ℕ) → is_lt (order other key) ≡ false → NoneBefore names entry other
    → NoneBefore names entry key
none_more names no_members key other isnt none = tt
none_more names (member z value rest) key other isnt none =
    (λ unlisted. isnt_before z key other isnt (none.0 unlisted), none_more names rest key other isnt none.1)

-- where none is found all are listed
all_on : (names : List (List ℕ)) (one : List ℕ) (later : Option (List ℕ)) (key : List ℕ) (b : Bool) → is_listed names one ≡ b
    → cond b later (Some (lesser one later)) ≡ None → is_listed names one ≡ false → is_lt (order one key) ≡ false
all_on names one later key true listed none isnt = absurd (true≢false (sym listed ∙ isnt))
all_on names one later key false listed none isnt = no_value (lesser one later) none

rest_on : (one : List ℕ) (later : Option (List ℕ)) (b : Bool) → cond b later (Some (lesser one later)) ≡ None → later ≡ None
rest_on one later true none = none
rest_on one later false none = no_value (lesser one later) none

all_listed : (names : List (List ℕ)) (entry : Members) (key : List ℕ) → first_unlisted names entry ≡ None → NoneBefore names entry key
all_listed names no_members key none = tt
all_listed names (member one value rest) key none = (
  all_on names one (first_unlisted names rest) key (is_listed names one) refl none,
  all_listed names rest key (rest_on one (first_unlisted names rest) (is_listed names one) none),
)

before_itself : (key : List ℕ) → is_lt (order key key) ≡ false
before_itself key = not_itself (order key key) (nat_list_cmp_total.antisymm key key)

-- the lesser of the key here and of what is found later
lesser_on : (names : List (List ℕ)) (one other : List ℕ) (rest : Members) (test : Bool) → is_lt (order other one) ≡ test → NoneBefore names rest other
    → (is_lt (order one (cond test other one)) ≡ false) × NoneBefore names rest (cond test other one)
lesser_on names one other rest true less none =
    (ap is_lt (turned other one (less_is (order other one) less)), none)
lesser_on names one other rest false isnt none = (before_itself one, none_more names rest one other isnt none)

here_on : (names : List (List ℕ)) (one : List ℕ) (rest : Members) (later : Option (List ℕ)) → first_unlisted names rest ≡ later
    → ((found : List ℕ) → later ≡ Some found → NoneBefore names rest found)
    → (is_lt (order one (lesser one later)) ≡ false) × NoneBefore names rest (lesser one later)
here_on names one rest None found more = (before_itself one, all_listed names rest one found)
here_on names one rest (Some other) found more = lesser_on names one other rest (is_lt (order other one)) refl (more other refl)

least_on : (names : List (List ℕ)) (one key : List ℕ) (rest : Members) (b : Bool) → is_listed names one ≡ b
    → ((found : List ℕ) → first_unlisted names rest ≡ Some found → NoneBefore names rest found)
    → cond b (first_unlisted names rest) (Some (lesser one (first_unlisted names rest))) ≡ Some key
    → (is_listed names one ≡ false → is_lt (order one key) ≡ false) × NoneBefore names rest key
least_on names one key rest true listed more is = (λ isnt. absurd (true≢false (sym listed ∙ isnt)), more key is)
least_on names one key rest false listed more is =
    let both : (is_lt (order one (lesser one (first_unlisted names rest))) ≡ false) × NoneBefore names rest (lesser one (first_unlisted names rest)) =
    here_on names one rest (first_unlisted names rest) refl more in
    subst (λ k. (is_listed names one ≡ false → is_lt (order one k) ≡ false) × NoneBefore names rest k)
    (ap (λ o. elim o [ None ↦ key | Some k ↦ k ]) is) (λ isnt. both.0, both.1)

pub unlisted_is_least : (names : List (List ℕ)) (entry : Members) (key : List ℕ) → first_unlisted names entry ≡ Some key → NoneBefore names entry key
unlisted_is_least names no_members key is = tt
unlisted_is_least names (member one value rest) key is =
    least_on names one key rest (is_listed names one) refl (λ found found_is. unlisted_is_least names rest found found_is) is

-- READ. The first of the members that are left, which ascend, is answered where it isn't listed
pub found_first : (names : List (List ℕ)) (e : Entry) (es left all : List Entry) (asked answered : List ℕ) → left ≡ e ∷ es
    → IsStrictlySortedBy string_cmp (keys_of left) → first_unlisted names (members_view left) ≡ first_unlisted names (members_view all)
    → is_listed names asked ≡ false → asked ≡ string_bytes e.0 → answered ≡ string_bytes e.0
    → Some answered ≡ first_unlisted names (members_view all)
unfolding IsStrictlySortedBy
found_first names e es left all asked answered is sorted same isnt ask answer =
    let ascend : IsStrictlySortedBy string_cmp (keys_of (e ∷ es)) = subst (λ l. IsStrictlySortedBy string_cmp (keys_of l)) is sorted in
    ap (λ k. Some k) answer
    ∙ (sym (first_is_least names e es ascend.0 (subst (λ k. is_listed names k ≡ false) ask isnt))
    ∙ (ap (λ l. first_unlisted names (members_view l)) (sym is) ∙ same))

-- and else it is passed over
pub passed_over : (names : List (List ℕ)) (e : Entry) (es left all : List Entry) (asked : List ℕ) → left ≡ e ∷ es
    → IsStrictlySortedBy string_cmp (keys_of left) → first_unlisted names (members_view left) ≡ first_unlisted names (members_view all)
    → is_listed names asked ≡ true → asked ≡ string_bytes e.0
    → (first_unlisted names (members_view es) ≡ first_unlisted names (members_view all)) × IsStrictlySortedBy string_cmp (keys_of es)
unfolding IsStrictlySortedBy
passed_over names e es left all asked is sorted same listed ask =
    let ascend : IsStrictlySortedBy string_cmp (keys_of (e ∷ es)) = subst (λ l. IsStrictlySortedBy string_cmp (keys_of l)) is sorted in
    let here : is_listed names (string_bytes e.0) ≡ true = subst (λ k. is_listed names k ≡ true) ask listed in (
      sym (ap (λ b. cond b (first_unlisted names (members_view es)) (Some (lesser (string_bytes e.0) (first_unlisted names (members_view es))))) here)
          ∙ (ap (λ l. first_unlisted names (members_view l)) (sym is) ∙ same),
      ascend.1,
    )
