-- What holds of each item of a list.
use Rattle.std.proofs.Common.{◌≡◌, Bool, true, false, cond, List, [], ◌∷◌, ◌++◌, filter}
use Rattle.std.specs.List.{AllByRecursion, list_all}
use Rattle.sds_value.proofs.Characters.{left_true, right_true}

pub each_of : {A : Type 0} (P : A → Type 0) (xs : List A) → ((x : A) → P x) → AllByRecursion P xs
each_of P [] each = tt
each_of P (x ∷ xs) each = (each x, each_of P xs each)

pub each_by : {A : Type 0} (P Q : A → Type 0) (xs : List A) → ((x : A) → P x → Q x) → AllByRecursion P xs → AllByRecursion Q xs
each_by P Q [] by are = tt
each_by P Q (x ∷ xs) by are = (by x are.0, each_by P Q xs by are.1)

pub each_both : {A : Type 0} (P Q R : A → Type 0) (xs : List A) → ((x : A) → P x → Q x → R x)
    → AllByRecursion P xs → AllByRecursion Q xs → AllByRecursion R xs
each_both P Q R [] by are also = tt
each_both P Q R (x ∷ xs) by are also = (by x are.0 also.0, each_both P Q R xs by are.1 also.1)

pub each_listed : {A : Type 0} (p : A → Bool) (P : A → Type 0) (xs : List A) → ((x : A) → p x ≡ true → P x) → list_all p xs ≡ true → AllByRecursion P xs
each_listed p P [] by are = tt
each_listed p P (x ∷ xs) by are =
    (by x (left_true (p x) (list_all p xs) are), each_listed p P xs by (right_true (p x) (list_all p xs) are))

pub each_filter : {A : Type 0} (P : A → Type 0) (q : A → Bool) (xs : List A) → AllByRecursion P xs → AllByRecursion P (filter q xs)
each_filter P q [] are = tt
each_filter P q (x ∷ xs) are = on (q x) (each_filter P q xs are.1)
  where
    on : (b : Bool) → AllByRecursion P (filter q xs) → AllByRecursion P (cond b (x ∷ filter q xs) (filter q xs))
    on true rest = (are.0, rest)
    on false rest = rest

pub each_append : {A : Type 0} (P : A → Type 0) (xs ys : List A) → AllByRecursion P xs → AllByRecursion P ys → AllByRecursion P (xs ++ ys)
each_append P [] ys are others = others
each_append P (x ∷ xs) ys are others = (are.0, each_append P xs ys are.1 others)
