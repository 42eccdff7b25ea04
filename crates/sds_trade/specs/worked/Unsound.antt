-- Worked cases: configurations that are sound, and ones that are not, each by one promise.
use Rattle.std.specs.Prelude.{ℕ, pos, true, false, List, [], ◌∷◌, None, Some, codes}
use Rattle.sds_value.specs.declared.kind.Kind.{Kind}
use Rattle.sds_value.specs.declared.table.TableDef.{TableDef}
use Rattle.sds_trade.specs.sound.Tables.{AreTableDefs}
use Rattle.sds_value.specs.declared.kind.Kind.TheVariants.{Integer, Varchar}
use Rattle.sds_types.specs.declared.config.Config.{Config}
use Rattle.sds_types.specs.declared.conflict.ResolveType.TheVariants.{NewerWins}
use Rattle.sds_types.specs.declared.link.Action.TheVariants.{P}
use Rattle.sds_types.specs.declared.router.RouterKind.TheVariants as router
use Rattle.sds_types.specs.declared.transform.TransformDef.{TransformDef}
use Rattle.sds_trade.specs.rules.Sound.{IsSound}
use Rattle.sds_trade.specs.worked.Entries.{channel_def, column_def, default_router, join_of, optional, table_def, trigger_def}
use Rattle.sds_trade.specs.worked.Resolving.{sale_setting}
use Rattle.sds_trade.specs.worked.Shop.{shop, item_columns, sum_column, sum_transform}
use Rattle.sds_trade.specs.worked.Tiers.{tiers_with}

abbrev pub ShopIsSound : Type 0
ShopIsSound = IsSound shop

abbrev pub TiersAreSound : Type 0
TiersAreSound = IsSound (tiers_with false) × IsSound (tiers_with true)

abbrev pub SettingIsSound : Type 0
SettingIsSound = IsSound (record shop { conflicts = sale_setting true ∷ [] })

abbrev pub Unsound : Config → Type 0
Unsound config = IsSound config → ⊥

-- a group that is named twice; a link to a group that isn't there; a batch that no change fills
abbrev pub SectionsAreChecked : Type 0
SectionsAreChecked =
    Unsound (record shop { groups = codes "corp" ∷ (codes "store" ∷ (codes "corp" ∷ [])) })
    × Unsound (record shop { links = record { source = 0; target = 2; action = P } ∷ shop.links })
    × Unsound (record shop { links = record { source = 0; target = 1; action = P } ∷ shop.links })
    × Unsound (record shop {
      channels = record (channel_def (codes "x") 1) { max_batch_size = 0 } ∷ shop.channels;
    })

-- a reference to a later table, and one to a key of another kind; a key that allows null; a name
-- that stands twice
abbrev pub Untabled : List TableDef → Type 0
Untabled defs = AreTableDefs defs → ⊥

abbrev pub items : TableDef
items = table_def (codes "item") item_columns

abbrev pub refers : Kind → ℕ → TableDef
refers kind parent =
    table_def (codes "refers") (column_def (codes "item_id") kind (Some parent) ∷ [])

abbrev pub TablesAreChecked : Type 0
TablesAreChecked = AreTableDefs (items ∷ (refers Integer 0 ∷ []))
    × AreTableDefs (refers Integer 0 ∷ (items ∷ []))
    × Untabled (refers Integer 1 ∷ (items ∷ []))
    × Untabled (items ∷ (refers (Varchar 5) 0 ∷ []))
    × Untabled
    (table_def (codes "item") (optional (column_def (codes "id") Integer None) ∷ []) ∷ [])
    × Untabled (items ∷ (items ∷ []))

-- a second trigger on a table; a router where no link leads, or of another text than it is parsed
-- as; a trigger that is joined to a router twice
abbrev pub RoutesAreChecked : Type 0
RoutesAreChecked =
    Unsound (record shop { triggers = trigger_def (codes "again") 0 ∷ shop.triggers })
    × Unsound (record shop { routers = default_router (codes "here") 0 0 ∷ shop.routers })
    × Unsound (record shop {
      routers = record (default_router (codes "down") 0 1) { expression = codes "x" }
          ∷ (default_router (codes "up") 1 0 ∷ []);
    })
    × Unsound (record shop {
      routers = record (default_router (codes "down") 0 1) { kind = router.Column }
          ∷ (default_router (codes "up") 1 0 ∷ []);
    })
    × Unsound (record shop { trigger_routers = join_of 0 0 ∷ shop.trigger_routers })

-- an additive column that is a key, or of another multiplier than its text's; newer values that win
-- without a column
abbrev pub with_transform : TransformDef → Config
with_transform transform = record shop { transforms = transform ∷ [] }

abbrev pub ValuesAreChecked : Type 0
ValuesAreChecked =
    Unsound (with_transform (record (sum_transform [] (pos 1)) {
      columns = record (sum_column [] (pos 1)) { target = codes "item_id" } ∷ [];
    }))
    × Unsound (with_transform (sum_transform (codes "2") (pos 1)))
    × Unsound (record shop {
      conflicts = record (sale_setting true) { resolve_type = NewerWins } ∷ [];
    })
    × Unsound (record shop { conflicts = sale_setting true ∷ (sale_setting false ∷ []) })
