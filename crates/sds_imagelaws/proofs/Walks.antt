-- Told parts kind by kind: none of them disagrees where each of a kind agrees with those of it that stand before it.
use Rattle.std.proofs.Common.{◌≡◌, ℕ, suc, ◌+◌, ◌<◌, ◌≤◌, Bool, true, false, not, ◌||◌, cond, List, [], ◌∷◌, ◌++◌, length, map, None, Some, refl, sym, ap, subst, ◌∙◌, arith, append-nil, All, AllPairs, true≢false}
use Rattle.std.specs.Prelude.{nat_le, Option}
use Rattle.std.specs.List.{cons_option, filter_map, list_any}
use Rattle.std.proofs.lemmas.List.{append_assoc, length-append}
use Rattle.std.proofs.lemmas.List.Elements.{All-cons, All-nil, filter_map-append}
use Rattle.sds_types.specs.declared.config.Config.{Config}
use Rattle.sds_trade.proofs.Lists.{all_head, all_tail, pairs_head, pairs_tail}
use Rattle.sds_history.specs.history.Acts.{State}
use Rattle.sds_nodelaws.proofs.Lists.{not_le}
use Rattle.sds_records.specs.declared.told.Told.{Told}
use Rattle.sds_image.specs.Reading.{disagreement_after}
use Rattle.sds_imagelaws.proofs.Agreement.{Agrees}

-- PARTS of a kind among others
own_parts : {A : Type 0} (f : Told → Option A) (part : A → Told) → ((x : A) → f (part x) ≡ Some x) → (xs : List A) (later : List Told)
    → filter_map f (map part xs ++ later) ≡ xs ++ filter_map f later
own_parts f part found [] later = refl
own_parts f part found (x ∷ xs) later =
    ap (λ o. cons_option o (filter_map f (map part xs ++ later))) (found x) ∙ ap (λ l. x ∷ l) (own_parts f part found xs later)

pub own_then : {A : Type 0} (f : Told → Option A) (part : A → Told) → ((x : A) → f (part x) ≡ Some x) → (xs : List A) (later : List Told)
    → filter_map f later ≡ [] → filter_map f (map part xs ++ later) ≡ xs
own_then f part found xs later none = own_parts f part found xs later ∙ (ap (λ l. xs ++ l) none ∙ append-nil xs)

pub other_then : {A B : Type 0} (f : Told → Option A) (part : B → Told) → ((x : B) → f (part x) ≡ None) → (xs : List B) (later : List Told) (ys : List A)
    → filter_map f later ≡ ys → filter_map f (map part xs ++ later) ≡ ys
other_then f part none [] later ys is = is
other_then f part none (x ∷ xs) later ys is =
    ap (λ o. cons_option o (filter_map f (map part xs ++ later))) (none x) ∙ other_then f part none xs later ys is

pub none_before : {A B : Type 0} (f : Told → Option A) (part : B → Told) → ((x : B) → f (part x) ≡ None) → (before : List Told) (xs : List B)
    → filter_map f before ≡ [] → filter_map f (before ++ map part xs) ≡ []
none_before f part none before xs is =
    filter_map-append f before (map part xs)
    ∙ (ap (λ l. l ++ filter_map f (map part xs)) is ∙ (ap (λ l. filter_map f l) (sym (append-nil (map part xs))) ∙ other_then f part none xs [] [] refl))

-- EACH ITEM with those before it
abbrev pub EachAfter : {A : Type 0} → (List A → A → Type 0) → List A → List A → Type 0
EachAfter Fits done [] = Unit {0}
EachAfter Fits done (x ∷ xs) = Fits done x × EachAfter Fits (done ++ x ∷ []) xs

pub each_alone : {A : Type 0} (P : A → Type 0) (done xs : List A) → All P xs → EachAfter (λ before x. P x) done xs
each_alone P done [] are = tt
each_alone P done (x ∷ xs) are = (all_head P x xs are, each_alone P (done ++ x ∷ []) xs (all_tail P x xs are))

pub each_and : {A : Type 0} (Fits Also : List A → A → Type 0) (done xs : List A) → EachAfter Fits done xs → EachAfter Also done xs
    → EachAfter (λ before x. Fits before x × Also before x) done xs
each_and Fits Also done [] are also = tt
each_and Fits Also done (x ∷ xs) are also = ((are.0, also.0), each_and Fits Also (done ++ x ∷ []) xs are.1 also.1)

middle : {A : Type 0} (P : A → Type 0) (done : List A) (x : A) (xs : List A) → All P (done ++ x ∷ xs) → P x
middle P [] x xs are = all_head P x xs are
middle P (d ∷ done) x xs are = middle P done x xs (all_tail P d (done ++ x ∷ xs) are)

pub with_earlier : {A : Type 0} (R : A → A → Type 0) (done : List A) (x : A) (xs : List A) → AllPairs R (done ++ x ∷ xs) → All (λ y. R y x) done
with_earlier R [] x xs up = All-nil (λ y. R y x)
with_earlier R (d ∷ done) x xs up =
    All-cons (λ y. R y x) d done (middle (R d) done x xs (pairs_head R d (done ++ x ∷ xs) up))
    (with_earlier R done x xs (pairs_tail R d (done ++ x ∷ xs) up))

pub each_paired : {A : Type 0} (R : A → A → Type 0) (done xs : List A) → AllPairs R (done ++ xs) → EachAfter (λ before x. All (λ y. R y x) before) done xs
each_paired R done [] up = tt
each_paired R done (x ∷ xs) up =
    (with_earlier R done x xs up, each_paired R (done ++ x ∷ []) xs (subst (AllPairs R) (sym (append_assoc done (x ∷ []) xs)) up))

pub each_few : {A : Type 0} (most : ℕ) (done xs : List A) → length done + length xs ≤ most
    → EachAfter (λ (before : List A) x. nat_le most (length before) ≡ false) done xs
each_few most done [] few = tt
each_few most done (x ∷ xs) few = (
  not_le most (length done) (room (length done) (length xs) few),
  each_few most (done ++ x ∷ []) xs (next (length done) (length xs) (length (done ++ x ∷ [])) few (length-append done (x ∷ []))),
)
  where
    room : (d n : ℕ) → d + suc n ≤ most → d < most
    room d n few = omega (arith, few)

    next : (d n m : ℕ) → d + suc n ≤ most → m ≡ d + 1 → m + n ≤ most
    next d n m few is = omega (arith, few, is)

-- none of a list passes
pub none_passes : {A : Type 0} (p : A → Bool) (xs : List A) → All (λ x. p x ≡ false) xs → list_any p xs ≡ false
none_passes p [] are = refl
none_passes p (x ∷ xs) are =
    ap (λ b. b || list_any p xs) (all_head (λ y. p y ≡ false) x xs are) ∙ none_passes p xs (all_tail (λ y. p y ≡ false) x xs are)

pub neither : (a b : Bool) → a ≡ false → b ≡ false → (a || b) ≡ false
neither true b is also = absurd (true≢false is)
neither false b is also = also

pub not_true : (b : Bool) → b ≡ true → not b ≡ false
not_true true is = refl
not_true false is = absurd (true≢false (sym is))

-- THE WALK over parts, kind by kind
module _ (config : Config) (state : State) where
  abbrev pub Walk : List Told → List Told → Type 0
  Walk before parts = disagreement_after config state before parts ≡ None

  walk_one : (before : List Told) (told : Told) (later : List Told) → Agrees config state before told → Walk (before ++ told ∷ []) later
      → Walk before (told ∷ later)
  walk_one before told later agrees rest =
      ap (λ b. cond b (Some told) (disagreement_after config state (before ++ told ∷ []) later)) agrees ∙ rest

  pub walk_kind : {A : Type 0} (f : Told → Option A) (part : A → Told) (Fits : List A → A → Type 0) → ((x : A) → f (part x) ≡ Some x)
      → ((before : List Told) (x : A) → Fits (filter_map f before) x → Agrees config state before (part x))
      → (done xs : List A) (before later : List Told) → filter_map f before ≡ done → EachAfter Fits done xs
      → Walk (before ++ map part xs) later → Walk before (map part xs ++ later)
  walk_kind f part Fits found by done [] before later is each rest = subst (λ l. Walk l later) (append-nil before) rest
  walk_kind f part Fits found by done (x ∷ xs) before later is each rest =
      walk_one before (part x) (map part xs ++ later) (by before x (subst (λ d. Fits d x) (sym is) each.0))
      (walk_kind f part Fits found by (done ++ x ∷ []) xs (before ++ part x ∷ []) later
      (filter_map-append f before (part x ∷ []) ∙ (ap (λ l. l ++ filter_map f (part x ∷ [])) is ∙ ap (λ o. done ++ cons_option o []) (found x))) each.1
      (subst (λ l. Walk l later) (sym (append_assoc before (part x ∷ []) (map part xs))) rest))
