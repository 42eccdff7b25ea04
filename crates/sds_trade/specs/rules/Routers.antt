-- Whom a router's expression names: the node with a peer's identity is named for a change, where
-- certain rows stand.
use Rattle.std.specs.Prelude.{ℕ, Bool, true, false, not, ◌&&◌, ◌==◌, List, Option, Some, is_none}
use Rattle.std.specs.List.{list_any, list_all}
use Rattle.std.specs.Option.{option_map_or}
use Rattle.sds_value.specs.declared.row.Peer.{Peer}
use Rattle.sds_value.specs.declared.table.TableDef.{TableDef}
use Rattle.sds_types.specs.declared.column_test.ColumnTest.{ColumnTest}
use Rattle.sds_types.specs.declared.column_test.Operand.{Operand}
use Rattle.sds_types.specs.declared.column_test.Operand.TheVariants as operand
use Rattle.sds_types.specs.declared.lookup.Lookup.{Lookup}
use Rattle.sds_types.specs.declared.router.RouterExpression.{RouterExpression}
use Rattle.sds_types.specs.declared.router.RouterExpression.TheVariants.{Everything, Tests, Finds, Chooses}
use Rattle.sds_types.specs.declared.row.Change.{Change}
use Rattle.sds_types.specs.declared.row.TableRow.{TableRow}
use Rattle.sds_types.specs.declared.subselect.Compared.{Compared}
use Rattle.sds_types.specs.declared.subselect.Compared.TheVariants as compared
use Rattle.sds_types.specs.declared.subselect.Condition.{Condition}
use Rattle.sds_types.specs.declared.subselect.NodeColumn.{NodeColumn}
use Rattle.sds_types.specs.declared.subselect.NodeColumn.TheVariants.{ExternalId, NodeId}
use Rattle.sds_types.specs.declared.subselect.Subselect.{Subselect}
use Rattle.sds_trade.specs.rules.Places.{columns_at, table_place}
use Rattle.sds_trade.specs.rules.RoutedValues.{text_in, current_text, old_text, is_text, are_one_text}

-- TESTS. A column's text, or null, is what an operand says of the peer
abbrev pub is_operand : Peer → Option (List ℕ) → Operand → Bool
is_operand peer here operand.NodeId = is_text here peer.id
is_operand peer here operand.ExternalId = is_text here peer.external
is_operand peer here operand.NodeGroupId = is_text here peer.group
is_operand peer here operand.Null = is_none here
is_operand peer here (operand.Text text) = is_text here text

abbrev pub tested_text : List TableDef → Change → ColumnTest → Option (List ℕ)
tested_text defs change test =
    elim test.old
    [ true ↦ old_text defs change test.name | false ↦ current_text defs change test.name ]

-- a test holds where the two are one, or where they are to differ and aren't; a null differs from
-- each text
abbrev pub test_holds : List TableDef → Change → Peer → ColumnTest → Bool
test_holds defs change peer test =
    let is_one = is_operand peer (tested_text defs change test) test.operand in
    elim test.differs [ true ↦ not is_one | false ↦ is_one ]

-- LOOKUPS. A row of the table that is looked up in has the routed row's text, and the peer's
-- external id
abbrev pub is_found : List TableDef → Change → Peer → Lookup → ℕ → TableRow → Bool
is_found defs change peer lookup table row = row.table == table
    && (are_one_text (text_in (columns_at defs table) lookup.lookup_column row.row)
    (current_text defs change lookup.column)
    && is_text (text_in (columns_at defs table) lookup.external_id row.row) peer.external)

abbrev pub finds : List TableDef → List TableRow → Change → Peer → Lookup → Bool
finds defs rows change peer lookup =
    option_map_or (λ (table : ℕ). list_any (is_found defs change peer lookup table) rows)
    (table_place defs lookup.table) false

-- CHOICES. A row of the table that is chosen from meets a condition; null meets none
abbrev pub compared_text : List TableDef → Change → Compared → Option (List ℕ)
compared_text defs change (compared.Routed name) = current_text defs change name
compared_text defs change (compared.Text text) = Some text

abbrev pub meets : List TableDef → Change → TableRow → Condition → Bool
meets defs change row condition =
    are_one_text (text_in (columns_at defs row.table) condition.column row.row)
    (compared_text defs change condition.value)

abbrev pub node_text : Peer → NodeColumn → List ℕ
node_text peer ExternalId = peer.external
node_text peer NodeId = peer.id

-- a row meets every condition, and names the peer by its id or external id
abbrev pub is_chosen : List TableDef → Change → Peer → Subselect → ℕ → TableRow → Bool
is_chosen defs change peer choice table row = row.table == table
    && (list_all (meets defs change row) choice.conditions
    && is_text (text_in (columns_at defs table) choice.column row.row) (node_text peer choice.by))

abbrev pub chooses : List TableDef → List TableRow → Change → Peer → Subselect → Bool
chooses defs rows change peer choice =
    option_map_or (λ (table : ℕ). list_any (is_chosen defs change peer choice table) rows)
    (table_place defs choice.table) false

-- an expression names a peer for a change
abbrev pub names_peer : List TableDef → List TableRow → Change → Peer → RouterExpression → Bool
names_peer defs rows change peer Everything = true
names_peer defs rows change peer (Tests tests) = list_any (test_holds defs change peer) tests
names_peer defs rows change peer (Finds lookup) = finds defs rows change peer lookup
names_peer defs rows change peer (Chooses choice) = chooses defs rows change peer choice
