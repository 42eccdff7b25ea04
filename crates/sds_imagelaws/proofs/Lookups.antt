-- What records have for a key, before and after edits; and records that have the same for every key are one.
use Rattle.std.proofs.Common.{◌≡◌, ℕ, Bool, true, false, cond, List, [], ◌∷◌, ◌++◌, Option, None, Some, Ordering, Less, Equal, Greater, refl, sym, ap, subst, ◌∙◌, true≢false}
use Rattle.std.specs.Ordering.{is_eq}
use Rattle.std.specs.Str.{bytes_eq}
use Rattle.std.proofs.lemmas.Map.Text.{is_eq-slice_cmp}
use Rattle.std.proofs.lemmas.Option.{same_Some}
use Rattle.sds_outside.specs.Records.{Record, compared, IsBelow, IsAscending, put_by, drop_by, with_record, without_record, edited_by, edited}
use Rattle.sds_outside.specs.declared.keeping.Edit.{Edit}
use Rattle.sds_outside.proofs.Ascending.{ascending_by, lower, turned}
use Rattle.sds_imagelaws.proofs.Tests.{equal, equal_keys, itself, no_value, other_way}

-- LOOK-UPS
abbrev pub body_at : List ℕ → List Record → Option (List ℕ)
body_at key [] = None
body_at key (first ∷ rest) = cond (bytes_eq first.0 key) (Some first.1) (body_at key rest)

-- what edits make of what there was for a key: the last of the key decides
abbrev pub told_by : List ℕ → List Edit → Option (List ℕ) → Option (List ℕ)
told_by key [] told = told
told_by key (edit ∷ edits) told = told_by key edits (cond (bytes_eq edit.key key) edit.body told)

pub told_append : (key : List ℕ) (first second : List Edit) (told : Option (List ℕ))
    → told_by key (first ++ second) told ≡ told_by key second (told_by key first told)
told_append key [] second told = refl
told_append key (edit ∷ edits) second told = told_append key edits second (cond (bytes_eq edit.key key) edit.body told)

-- ORDER
not_equal : (key other : List ℕ) (o : Ordering) → compared key other ≡ o → is_eq o ≡ false → bytes_eq key other ≡ false
not_equal key other o is isnt = sym (is_eq-slice_cmp key other) ∙ (ap is_eq is ∙ isnt)

-- a key below all has no record
below_none : (key : List ℕ) (records : List Record) → IsBelow key records → body_at key records ≡ None
below_none key [] below = refl
below_none key (first ∷ rest) below =
    ap (λ b. cond b (Some first.1) (body_at key rest)) (other_way key first.0 (not_equal key first.0 Less below.0 refl))
    ∙ below_none key rest below.1

-- PUT AND DROPPED. The record of a key is the first that has it
pub first_wins : {A : Type 0} (b : Bool) (x y z : A) → cond b x z ≡ cond b x (cond b y z)
first_wins true x y z = refl
first_wins false x y z = refl

swapped : {A : Type 0} (a b : Bool) (x y z : A) → (a ≡ true → b ≡ true → false ≡ true)
    → cond a x (cond b y z) ≡ cond b y (cond a x z)
swapped true true x y z apart = absurd (true≢false (sym (apart refl refl)))
swapped true false x y z apart = refl
swapped false b x y z apart = refl

both_keys : (key first wanted : List ℕ) → bytes_eq first key ≡ false → bytes_eq first wanted ≡ true → bytes_eq key wanted ≡ true → false ≡ true
both_keys key first wanted isnt is also =
    sym isnt ∙ subst (λ x. bytes_eq first x ≡ true) (equal first wanted is ∙ sym (equal key wanted also)) (itself first)

pub body_with : (key body wanted : List ℕ) (records : List Record)
    → body_at wanted (with_record key body records) ≡ cond (bytes_eq key wanted) (Some body) (body_at wanted records)
body_with key body wanted [] = refl
body_with key body wanted (first ∷ rest) = by (compared key first.0) refl (body_with key body wanted rest)
  where
    by : (o : Ordering) → compared key first.0 ≡ o
        → body_at wanted (with_record key body rest) ≡ cond (bytes_eq key wanted) (Some body) (body_at wanted rest)
        → body_at wanted (put_by o (key, body) first rest (with_record key body rest))
        ≡ cond (bytes_eq key wanted) (Some body) (cond (bytes_eq first.0 wanted) (Some first.1) (body_at wanted rest))
    by Less is later = refl
    by Equal is later =
        first_wins (bytes_eq key wanted) (Some body) (Some first.1) (body_at wanted rest)
        ∙ ap (λ k. cond (bytes_eq key wanted) (Some body) (cond (bytes_eq k wanted) (Some first.1) (body_at wanted rest))) (equal_keys key first.0 is)
    by Greater is later =
        ap (λ t. cond (bytes_eq first.0 wanted) (Some first.1) t) later
        ∙ swapped (bytes_eq first.0 wanted) (bytes_eq key wanted) (Some first.1) (Some body) (body_at wanted rest)
        (both_keys key first.0 wanted (other_way key first.0 (not_equal key first.0 Greater is refl)))

none_left : {A : Type 0} (b : Bool) (told : Option A) → (b ≡ true → told ≡ None) → told ≡ cond b None told
none_left true told none = none refl
none_left false told none = refl

pub body_without : (key wanted : List ℕ) (records : List Record) → IsAscending records
    → body_at wanted (without_record key records) ≡ cond (bytes_eq key wanted) None (body_at wanted records)
body_without key wanted [] up = none_left (bytes_eq key wanted) None (λ is. refl)
body_without key wanted (first ∷ rest) up = by (compared key first.0) refl (body_without key wanted rest up.1)
  where
    by : (o : Ordering) → compared key first.0 ≡ o
        → body_at wanted (without_record key rest) ≡ cond (bytes_eq key wanted) None (body_at wanted rest)
        → body_at wanted (drop_by o first rest (without_record key rest))
        ≡ cond (bytes_eq key wanted) None (cond (bytes_eq first.0 wanted) (Some first.1) (body_at wanted rest))
    by Less is later =
        none_left (bytes_eq key wanted) (body_at wanted (first ∷ rest))
        (λ same. subst (λ k. body_at k (first ∷ rest) ≡ None) (equal key wanted same)
        (below_none key (first ∷ rest) (is, lower key first.0 rest is up.0)))
    by Equal is later =
        none_left (bytes_eq key wanted) (body_at wanted rest)
        (λ same. subst (λ k. body_at k rest ≡ None) (sym (equal_keys key first.0 is) ∙ equal key wanted same) (below_none first.0 rest up.0))
        ∙ (first_wins (bytes_eq key wanted) None (Some first.1) (body_at wanted rest)
        ∙ ap (λ k. cond (bytes_eq key wanted) None (cond (bytes_eq k wanted) (Some first.1) (body_at wanted rest))) (equal_keys key first.0 is))
    by Greater is later =
        ap (λ t. cond (bytes_eq first.0 wanted) (Some first.1) t) later
        ∙ swapped (bytes_eq first.0 wanted) (bytes_eq key wanted) (Some first.1) None (body_at wanted rest)
        (both_keys key first.0 wanted (other_way key first.0 (not_equal key first.0 Greater is refl)))

body_by : (key : List ℕ) (body : Option (List ℕ)) (wanted : List ℕ) (records : List Record) → IsAscending records
    → body_at wanted (edited_by key body records) ≡ cond (bytes_eq key wanted) body (body_at wanted records)
body_by key None wanted records up = body_without key wanted records up
body_by key (Some body) wanted records up = body_with key body wanted records

-- what edited records have for a key is what the edits make of what there was
pub body_edited : (wanted : List ℕ) (edits : List Edit) (records : List Record) → IsAscending records
    → body_at wanted (edited edits records) ≡ told_by wanted edits (body_at wanted records)
body_edited wanted [] records up = refl
body_edited wanted (edit ∷ edits) records up =
    body_edited wanted edits (edited_by edit.key edit.body records) (ascending_by edit.key edit.body records up)
    ∙ ap (told_by wanted edits) (body_by edit.key edit.body wanted records up)

-- ONE LIST. Records that have the same for every key
abbrev pub HaveSame : List Record → List Record → Type 0
HaveSame xs ys = (key : List ℕ) → body_at key xs ≡ body_at key ys

head_body : (first : Record) (rest : List Record) → body_at first.0 (first ∷ rest) ≡ Some first.1
head_body first rest = ap (λ b. cond b (Some first.1) (body_at first.0 rest)) (itself first.0)

later_same : (x : Record) (xs ys : List Record) → IsBelow x.0 xs → IsBelow x.0 ys → HaveSame (x ∷ xs) (x ∷ ys) → HaveSame xs ys
later_same x xs ys low_x low_y same key = on (bytes_eq x.0 key) refl
  where
    on : (b : Bool) → bytes_eq x.0 key ≡ b → body_at key xs ≡ body_at key ys
    on true is =
        let at : x.0 ≡ key = equal x.0 key is in
        subst (λ k. body_at k xs ≡ body_at k ys) at (below_none x.0 xs low_x ∙ sym (below_none x.0 ys low_y))
    on false is =
        sym (ap (λ b. cond b (Some x.1) (body_at key xs)) is) ∙ (same key ∙ ap (λ b. cond b (Some x.1) (body_at key ys)) is)

pub same_records : (xs ys : List Record) → IsAscending xs → IsAscending ys → HaveSame xs ys → xs ≡ ys
same_records [] [] up_x up_y same = refl
same_records [] (y ∷ ys) up_x up_y same = no_value y.1 (same y.0 ∙ head_body y ys)
same_records (x ∷ xs) [] up_x up_y same = no_value x.1 (sym (same x.0) ∙ head_body x xs)
same_records (x ∷ xs) (y ∷ ys) up_x up_y same = by (compared x.0 y.0) refl (same_records xs ys up_x.1 up_y.1)
  where
    by : (o : Ordering) → compared x.0 y.0 ≡ o → (HaveSame xs ys → xs ≡ ys) → x ∷ xs ≡ y ∷ ys
    by Less is rest = no_value x.1
        (sym (below_none x.0 (y ∷ ys) (is, lower x.0 y.0 ys is up_y.0)) ∙ (sym (same x.0) ∙ head_body x xs))
    by Greater is rest = let less = turned x.0 y.0 is in no_value y.1
        (sym (below_none y.0 (x ∷ xs) (less, lower y.0 x.0 xs less up_x.0)) ∙ (same y.0 ∙ head_body y ys))
    by Equal is rest =
        let key : x.0 ≡ y.0 = equal_keys x.0 y.0 is in
        let body : x.1 ≡ y.1 = same_Some x.1 y.1
        (sym (head_body x xs) ∙ (same x.0 ∙ subst (λ k. body_at k (y ∷ ys) ≡ Some y.1) (sym key) (head_body y ys))) in
        let one : x ≡ y = λ i. (key i, body i) in
        let low : IsBelow x.0 ys = subst (λ k. IsBelow k ys) (sym key) up_y.0 in
        let all : HaveSame (x ∷ xs) (x ∷ ys) = subst (λ z. HaveSame (x ∷ xs) (z ∷ ys)) (sym one) same in
        ap (λ z. z ∷ xs) one ∙ ap (λ zs. y ∷ zs) (rest (later_same x xs ys up_x.0 low all))
