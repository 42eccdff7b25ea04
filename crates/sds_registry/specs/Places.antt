-- Where the item with a key stands among items that ascend by key, or where it would.
use Rattle.std.specs.Prelude.{◌≡◌, ℕ, ◌<◌, ◌≤◌, suc, IsTrue, List, length, take, drop}
use Rattle.std.specs.List.{All, HoldsAt}
use Rattle.sds_history.specs.history.Orders.{is_before}

-- the items before are below the key, that item has it, and the items after are above it
pub record StandsAt {A : Type 0} (key : A → List ℕ) (wanted : List ℕ) (items : List A) (at : ℕ)
    : Type 0 where
  pub within : at < length items
  pub below : All (λ item. IsTrue (is_before (key item) wanted)) (take at items)
  pub there : HoldsAt (λ item. key item ≡ wanted) items at
  pub above : All (λ item. IsTrue (is_before wanted (key item))) (drop (suc at) items)

-- the items before are below the key, and those from there on are above it
pub record BelongsAt {A : Type 0} (key : A → List ℕ) (wanted : List ℕ) (items : List A) (at : ℕ)
    : Type 0 where
  pub within : at ≤ length items
  pub below : All (λ item. IsTrue (is_before (key item) wanted)) (take at items)
  pub above : All (λ item. IsTrue (is_before wanted (key item))) (drop at items)
