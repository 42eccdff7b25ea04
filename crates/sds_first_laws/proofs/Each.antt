-- What holds of each item of a list, as a recursion that computes.
use Rattle.std.proofs.Common.{ap, ◌∙◌, ◌≡◌, Bool, true, false, List, [], ◌∷◌, ◌++◌, refl}
use Rattle.std.specs.Prelude.{All, map, filter}
use Rattle.std.specs.List.{flat_map}
use Rattle.std.proofs.lemmas.List.Elements.{All-nil, All-cons}
use Rattle.std.proofs.lemmas.List.Concat.{flat_map-cons}

abbrev pub Each : {X : Type 0} → (X → Type 0) → List X → Type 0
Each P [] = Unit {0}
Each P (x ∷ xs) = P x × Each P xs

pub all_from_each : {X : Type 0} (P : X → Type 0) (xs : List X) → Each P xs → All P xs
all_from_each P [] each = All-nil P
all_from_each P (x ∷ xs) each = All-cons P x xs each.0 (all_from_each P xs each.1)

pub each_append : {X : Type 0} (P : X → Type 0) (xs ys : List X) → Each P xs → Each P ys → Each P (xs ++ ys)
each_append P [] ys each more = more
each_append P (x ∷ xs) ys each more = (each.0, each_append P xs ys each.1 more)

pub each_weaker : {X : Type 0} (P Q : X → Type 0) (weaker : (x : X) → P x → Q x) (xs : List X) → Each P xs → Each Q xs
each_weaker P Q weaker [] each = tt
each_weaker P Q weaker (x ∷ xs) each = (weaker x each.0, each_weaker P Q weaker xs each.1)

pub each_map : {X Y : Type 0} (P : Y → Type 0) (f : X → Y) (xs : List X) → Each (λ x. P (f x)) xs → Each P (map f xs)
each_map P f [] each = tt
each_map P f (x ∷ xs) each = (each.0, each_map P f xs each.1)

by_test : {X : Type 0} (P : X → Type 0) (p : X → Bool) (x : X) (xs : List X) (b : Bool) → p x ≡ b → P x → Each P (filter p xs) → Each P (filter p (x ∷ xs))
by_test P p x xs true is here each = rw is (here, each)
by_test P p x xs false is here each = rw is each

pub each_filter : {X : Type 0} (P : X → Type 0) (p : X → Bool) (xs : List X) → Each P xs → Each P (filter p xs)
each_filter P p [] each = tt
each_filter P p (x ∷ xs) each = by_test P p x xs (p x) refl each.0 (each_filter P p xs each.1)

pub each_flat_map : {X Y : Type 0} (P : Y → Type 0) (f : X → List Y) (all : (x : X) → Each P (f x)) (xs : List X) → Each P (flat_map f xs)
each_flat_map P f all [] = tt
each_flat_map P f all (x ∷ xs) = rw (flat_map-cons f x xs) (each_append P (f x) (flat_map f xs) (all x) (each_flat_map P f all xs))

pub each_both : {X : Type 0} (P Q R : X → Type 0) (f : (x : X) → P x → Q x → R x) (xs : List X) → Each P xs → Each Q xs → Each R xs
each_both P Q R f [] p q = tt
each_both P Q R f (x ∷ xs) p q = (f x p.0 q.0, each_both P Q R f xs p.1 q.1)

pub each_of : {X : Type 0} (P : X → Type 0) (f : (x : X) → P x) (xs : List X) → Each P xs
each_of P f [] = tt
each_of P f (x ∷ xs) = (f x, each_of P f xs)

pub each_front : {X : Type 0} (P : X → Type 0) (xs ys : List X) → Each P (xs ++ ys) → Each P xs
each_front P [] ys each = tt
each_front P (x ∷ xs) ys each = (each.0, each_front P xs ys each.1)

pub each_behind : {X : Type 0} (P : X → Type 0) (xs ys : List X) → Each P (xs ++ ys) → Each P ys
each_behind P [] ys each = each
each_behind P (x ∷ xs) ys each = each_behind P xs ys each.1

pub map_each : {X Y : Type 0} (f g : X → Y) (xs : List X) → Each (λ (x : X). f x ≡ g x) xs → map f xs ≡ map g xs
map_each f g [] each = refl
map_each f g (x ∷ xs) each = ap (λ y. y ∷ map f xs) each.0 ∙ ap (λ ys. g x ∷ ys) (map_each f g xs each.1)

filter_by : {X : Type 0} (p : X → Bool) (x : X) (xs : List X) (b : Bool) → p x ≡ b → Each (λ (y : X). p y ≡ true) (filter p xs) → Each (λ (y : X). p y ≡ true) (filter p (x ∷ xs))
filter_by p x xs true is each = rw is (is, each)
filter_by p x xs false is each = rw is each

pub each_passes : {X : Type 0} (p : X → Bool) (xs : List X) → Each (λ (x : X). p x ≡ true) (filter p xs)
each_passes p [] = tt
each_passes p (x ∷ xs) = filter_by p x xs (p x) refl (each_passes p xs)
