-- What holds of each item of a list, and of a list of fields with their names.
use Rattle.std.proofs.Common.{◌≡◌, List, [], ◌∷◌, Option, None, Some, refl, All, filter_map}
use Rattle.std.specs.List.{cons_option}
use Rattle.std.proofs.lemmas.List.Elements.{All-nil, All-cons}
use Rattle.sds_trade.proofs.Lists.{all_head, all_tail}

-- what the items give that give something
pub given_all : {X Y : Type 0} (P : Y → Type 0) (f : X → Option Y) (xs : List X) → All (λ x. (y : Y) → f x ≡ Some y → P y) xs → All P (filter_map f xs)
given_all P f [] are = All-nil P
given_all {X} {Y} P f (x ∷ xs) are =
    on (f x) (all_head (λ (z : X). (y : Y) → f z ≡ Some y → P y) x xs are) (given_all P f xs (all_tail (λ (z : X). (y : Y) → f z ≡ Some y → P y) x xs are))
  where
    on : (o : Option Y) → ((y : Y) → o ≡ Some y → P y) → All P (filter_map f xs) → All P (cons_option o (filter_map f xs))
    on None here rest = rest
    on (Some y) here rest = All-cons P y (filter_map f xs) (here y refl) rest
