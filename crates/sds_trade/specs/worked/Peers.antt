-- Worked cases: which peers a change is for, by trigger, group and node.
use Rattle.std.specs.Prelude.{◌≡◌, ℕ, false, List, [], ◌∷◌, None, codes, ◌++◌}
use Rattle.sds_value.specs.declared.row.Peer.{Peer}
use Rattle.sds_types.specs.declared.config.Config.{Config}
use Rattle.sds_types.specs.declared.column_test.Operand.TheVariants as operand
use Rattle.sds_types.specs.declared.router.RouterExpression.TheVariants.{Tests}
use Rattle.sds_types.specs.declared.router.RouterKind.TheVariants as router
use Rattle.sds_types.specs.declared.row.Change.{Change}
use Rattle.sds_trade.specs.rules.Named.{targets_of}
use Rattle.sds_trade.specs.worked.Entries.{default_router, join_of, peer_of}
use Rattle.sds_trade.specs.worked.Routing.{stock_change}
use Rattle.sds_trade.specs.worked.Shop.{corp, shop}
use Rattle.sds_trade.specs.worked.Tiers.{region, region_peers, tiers_with}

abbrev pub For : Config → Peer → List Peer → Change → List ℕ → Type 0
For config me peers change places = targets_of config me [] peers change ≡ places

abbrev pub store : Peer
store = peer_of (codes "s1") (codes "store") (codes "001")

-- at corp an item is for the store, a stock for nobody; at the store a stock is for corp, an item
-- for nobody
abbrev pub change_on : ℕ → Change
change_on table = record (stock_change None) { table = table; channel = 2 }

abbrev pub TriggersTell : Type 0
TriggersTell = For shop corp (store ∷ []) (change_on 0) (0 ∷ [])
    × For shop corp (store ∷ []) (change_on 1) []
    × For shop store (corp ∷ []) (change_on 1) (0 ∷ [])
    × For shop store (corp ∷ []) (change_on 0) []

-- a router of another group names nobody, and a node is never named at itself
abbrev pub from_stores : Config
from_stores = record (tiers_with false) { trigger_routers = join_of 0 0 ∷ [] }

abbrev pub GroupsTell : Type 0
GroupsTell = For from_stores corp (region ∷ []) (stock_change None) []
    × For from_stores store (region ∷ []) (stock_change None) (0 ∷ [])
    × For (tiers_with false) region (record corp { id = codes "r1" } ∷ region_peers)
    (stock_change None) (1 ∷ (2 ∷ (3 ∷ [])))

-- a router's expression is asked
abbrev pub asking : List ℕ → Config
asking text = record (tiers_with false) {
  routers = record (default_router (codes "rs") 1 2) {
    kind = router.Column;
    expression = codes "item=" ++ text;
    parsed = Tests (record {
      name = codes "item";
      old = false;
      differs = false;
      operand = operand.Text text;
    } ∷ []);
  } ∷ [];
  trigger_routers = join_of 0 0 ∷ [];
}

abbrev pub ExpressionsTell : Type 0
ExpressionsTell = For (asking (codes "1")) region region_peers (stock_change None) (1 ∷ (2 ∷ []))
    × For (asking (codes "2")) region region_peers (stock_change None) []
