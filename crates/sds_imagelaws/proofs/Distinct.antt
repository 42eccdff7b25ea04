-- Items whose records have distinct keys: some of them changed in their places, and others added at the end.
use Rattle.std.proofs.Common.{◌≡◌, ◌≢◌, ℕ, Bool, true, false, cond, List, [], ◌∷◌, ◌++◌, map, Option, None, Some, refl, sym, ap, ◌∙◌, filter, AllPairs}
use Rattle.std.specs.List.{AllByRecursion}
use Rattle.std.specs.Str.{bytes_eq}
use Rattle.std.proofs.lemmas.List.Elements.{recursion_from_All}
use Rattle.sds_outside.specs.declared.keeping.Edit.{Edit}
use Rattle.sds_trade.proofs.Lists.{pairs_head, pairs_tail}
use Rattle.sds_history.specs.history.Records.{Record}
use Rattle.sds_imagelaws.specs.Edits.{puts_of}
use Rattle.sds_imagelaws.proofs.Items.{part_append, part_at}
use Rattle.sds_imagelaws.proofs.Lists.{each_both}
use Rattle.sds_imagelaws.proofs.Lookups.{told_by}
use Rattle.sds_imagelaws.proofs.Tests.{differs, equal, first_alone, first_of}

abbrev pub OtherKey : {A : Type 0} → (A → Record) → A → A → Type 0
OtherKey kept x y = (kept x).key ≢ (kept y).key

abbrev pub Distinct : {A : Type 0} → (A → Record) → List A → Type 0
Distinct kept [] = Unit {0}
Distinct kept (x ∷ xs) = AllByRecursion (OtherKey kept x) xs × Distinct kept xs

-- items that ascend are distinct, where their order tells their keys apart
pub ascending_distinct : {A : Type 0} (kept : A → Record) (P : A → Type 0) (R : A → A → Type 0) (xs : List A)
    → ((x y : A) → P x → P y → R x y → OtherKey kept x y) → AllByRecursion P xs → AllPairs R xs → Distinct kept xs
ascending_distinct kept P R [] tells are up = tt
ascending_distinct kept P R (x ∷ xs) tells are up = (
  each_both P (R x) (OtherKey kept x) xs (λ y holds above. tells x y are.0 holds above) are.1 (recursion_from_All (R x) xs (pairs_head R x xs up)),
  ascending_distinct kept P R xs tells are.1 (pairs_tail R x xs up),
)

module _ {A : Type 0} (kept : A → Record) (key : List ℕ) where
  abbrev pub HasNot : A → Type 0
  HasNot x = bytes_eq (kept x).key key ≡ false

  pub none_at : (xs : List A) → AllByRecursion HasNot xs → part_at kept key xs ≡ None
  none_at [] none = refl
  none_at (x ∷ xs) none = ap (λ b. cond b (Some (kept x).body) (part_at kept key xs)) none.0 ∙ none_at xs none.1

  pub others : (x : A) (xs : List A) → AllByRecursion (OtherKey kept x) xs → bytes_eq (kept x).key key ≡ true → AllByRecursion HasNot xs
  others x [] apart has = tt
  others x (y ∷ ys) apart has =
      (differs (kept y).key key (λ same. apart.0 (equal (kept x).key key has ∙ sym same)), others x ys apart.1 has)

  -- ADDED AT THE END
  puts_told : (xs : List A) (told : Option (List ℕ)) → Distinct kept xs → told_by key (puts_of (map kept xs)) told ≡ first_of (part_at kept key xs) told
  puts_told [] told apart = refl
  puts_told (x ∷ xs) told apart =
      puts_told xs (cond (bytes_eq (kept x).key key) (Some (kept x).body) told) apart.1 ∙ on (bytes_eq (kept x).key key) refl
    where
      on : (b : Bool) → bytes_eq (kept x).key key ≡ b
          → first_of (part_at kept key xs) (cond b (Some (kept x).body) told) ≡ first_of (cond b (Some (kept x).body) (part_at kept key xs)) told
      on true has = ap (λ o. first_of o (Some (kept x).body)) (none_at xs (others x xs apart.0 has))
      on false has = refl

  last_others : (x : A) (xs ys : List A) → AllByRecursion (OtherKey kept x) (xs ++ ys) → AllByRecursion (OtherKey kept x) ys
  last_others x [] ys apart = apart
  last_others x (z ∷ xs) ys apart = last_others x xs ys apart.1

  pub last_distinct : (xs ys : List A) → Distinct kept (xs ++ ys) → Distinct kept ys
  last_distinct [] ys apart = apart
  last_distinct (x ∷ xs) ys apart = last_distinct xs ys apart.1

  either_first : (xs ys : List A) → Distinct kept (xs ++ ys)
      → first_of (part_at kept key ys) (part_at kept key xs) ≡ first_of (part_at kept key xs) (part_at kept key ys)
  either_first [] ys apart = first_alone (part_at kept key ys)
  either_first (x ∷ xs) ys apart = on (bytes_eq (kept x).key key) refl (either_first xs ys apart.1)
    where
      on : (b : Bool) → bytes_eq (kept x).key key ≡ b
          → first_of (part_at kept key ys) (part_at kept key xs) ≡ first_of (part_at kept key xs) (part_at kept key ys)
          → first_of (part_at kept key ys) (cond b (Some (kept x).body) (part_at kept key xs))
          ≡ first_of (cond b (Some (kept x).body) (part_at kept key xs)) (part_at kept key ys)
      on true has rest = ap (λ o. first_of o (Some (kept x).body)) (none_at ys (others x ys (last_others x xs ys apart.0) has))
      on false has rest = rest

  pub added_part : (xs ys : List A) → Distinct kept (xs ++ ys)
      → told_by key (puts_of (map kept ys)) (part_at kept key xs) ≡ part_at kept key (xs ++ ys)
  added_part xs ys apart =
      puts_told ys (part_at kept key xs) (last_distinct xs ys apart) ∙ (either_first xs ys apart ∙ sym (part_append kept key xs ys))

  -- CHANGED IN THEIR PLACES
  module _ (f : A → A) (changed : A → Bool) (keyed : (x : A) → (kept (f x)).key ≡ (kept x).key)
      (left : (x : A) → changed x ≡ false → kept (f x) ≡ kept x) where
    abbrev edits_for : List A → List Edit
    edits_for xs = puts_of (map kept (map f (filter changed xs)))

    abbrev with_edit : Bool → A → List A → List A
    with_edit c x xs = cond c (x ∷ filter changed xs) (filter changed xs)

    has_on : (x : A) (b : Bool) → bytes_eq (kept x).key key ≡ b → bytes_eq (kept (f x)).key key ≡ b
    has_on x b has = ap (λ k. bytes_eq k key) (keyed x) ∙ has

    untouched : (xs : List A) (told : Option (List ℕ)) → AllByRecursion HasNot xs → told_by key (edits_for xs) told ≡ told
    untouched [] told none = refl
    untouched (x ∷ xs) told none = on (changed x) (untouched xs told none.1)
      where
        on : (c : Bool) → told_by key (edits_for xs) told ≡ told → told_by key (puts_of (map kept (map f (with_edit c x xs)))) told ≡ told
        on true rest = ap (λ b. told_by key (edits_for xs) (cond b (Some (kept (f x)).body) told)) (has_on x false none.0) ∙ rest
        on false rest = rest

    changed_on : (x : A) (xs : List A) (c b : Bool) → changed x ≡ c → bytes_eq (kept x).key key ≡ b → Distinct kept (x ∷ xs)
        → told_by key (edits_for xs) (part_at kept key xs) ≡ part_at kept key (map f xs)
        → told_by key (puts_of (map kept (map f (with_edit c x xs)))) (cond b (Some (kept x).body) (part_at kept key xs))
        ≡ cond (bytes_eq (kept (f x)).key key) (Some (kept (f x)).body) (part_at kept key (map f xs))
    changed_on x xs true true is has apart rest =
        ap (λ b. told_by key (edits_for xs) (cond b (Some (kept (f x)).body) (Some (kept x).body))) (has_on x true has)
        ∙ (untouched xs (Some (kept (f x)).body) (others x xs apart.0 has)
        ∙ sym (ap (λ b. cond b (Some (kept (f x)).body) (part_at kept key (map f xs))) (has_on x true has)))
    changed_on x xs true false is has apart rest =
        ap (λ b. told_by key (edits_for xs) (cond b (Some (kept (f x)).body) (part_at kept key xs))) (has_on x false has)
        ∙ (rest ∙ sym (ap (λ b. cond b (Some (kept (f x)).body) (part_at kept key (map f xs))) (has_on x false has)))
    changed_on x xs false true is has apart rest =
        untouched xs (Some (kept x).body) (others x xs apart.0 has)
        ∙ (ap (λ (r : Record). Some r.body) (sym (left x is))
        ∙ sym (ap (λ b. cond b (Some (kept (f x)).body) (part_at kept key (map f xs))) (has_on x true has)))
    changed_on x xs false false is has apart rest =
        rest ∙ sym (ap (λ b. cond b (Some (kept (f x)).body) (part_at kept key (map f xs))) (has_on x false has))

    pub changed_part : (xs : List A) → Distinct kept xs → told_by key (edits_for xs) (part_at kept key xs) ≡ part_at kept key (map f xs)
    changed_part [] apart = refl
    changed_part (x ∷ xs) apart = changed_on x xs (changed x) (bytes_eq (kept x).key key) refl refl apart (changed_part xs apart.1)
