-- The name of a group past the last one.
use Rattle.std.proofs.Common.{◌≡◌, ℕ, ◌≤◌, Bool, List, [], ◌∷◌, length, zero, suc, refl, sym, ap, ◌∙◌, arith}
use Rattle.std.specs.Str.{bytes_eq, chars, encode_utf8_all}
use Rattle.std.proofs.lemmas.Str.{chars-nil}
use Rattle.sds_base.proofs.Texts.{same_text}
use Rattle.sds_trade.specs.rules.Places.{group_name}

past : (groups : List (List ℕ)) (place : ℕ) → length groups ≤ place → group_name groups place ≡ []
past [] place within = refl
past (group ∷ groups) zero within = absurd (omega arith)
past (group ∷ groups) (suc place) within = past groups place (omega arith)

pub no_group : (groups : List (List ℕ)) (place : ℕ) (name : List ℕ) (same : Bool) → length groups ≤ place
    → same ≡ bytes_eq [] name → name ≡ encode_utf8_all (chars name) → same ≡ bytes_eq (group_name groups place) (chars name)
no_group groups place name same within is utf8 =
    is ∙ (same_text [] name [] chars-nil refl utf8 ∙ ap (λ group. bytes_eq group (chars name)) (sym (past groups place within)))
