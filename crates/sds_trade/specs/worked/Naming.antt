-- Worked cases: whom the expressions of routers name.
use Rattle.std.specs.Prelude.{◌≡◌, ℕ, Bool, true, false, List, [], ◌∷◌, ◌++◌, map, codes, Option, None, Some}
use Rattle.sds_value.specs.declared.kind.Kind.TheVariants.{Integer, Varchar}
use Rattle.sds_value.specs.declared.kind.Value.TheVariants as value
use Rattle.sds_value.specs.declared.row.Event.{Event}
use Rattle.sds_value.specs.declared.row.Event.TheVariants.{Insert, Update, Delete}
use Rattle.sds_value.specs.declared.row.Peer.{Peer}
use Rattle.sds_value.specs.declared.table.TableDef.{TableDef}
use Rattle.sds_types.specs.declared.router.RouterExpression.{RouterExpression}
use Rattle.sds_types.specs.declared.router.RouterKind.TheVariants as router
use Rattle.sds_types.specs.declared.router.RouterKind.{RouterKind}
use Rattle.sds_types.specs.declared.row.Change.{Change}
use Rattle.sds_types.specs.declared.row.Row.{Row}
use Rattle.sds_types.specs.declared.row.TableRow.{TableRow}
use Rattle.sds_trade.specs.rules.Expressions.{router_expression_of}
use Rattle.sds_trade.specs.rules.Routers.{names_peer}
use Rattle.sds_trade.specs.worked.Entries.{column_def, optional, table_def, number, table_row}

-- a table of orders, each of a store, and one that says which stores a store's orders go to
abbrev pub order_tables : List TableDef
order_tables = table_def (codes "order") (column_def (codes "id") Integer None
    ∷ (optional (column_def (codes "STORE_ID") (Varchar 3) None) ∷ []))
    ∷ (table_def (codes "stocked") (column_def (codes "id") Integer None
    ∷ (column_def (codes "place") (Varchar 3) None
    ∷ (column_def (codes "store") (Varchar 3) None ∷ []))) ∷ [])

abbrev pub order_in : List ℕ → Row
order_in store = record { 0 = number 7 ∷ (value.Text store ∷ []) }

-- a change of an order
abbrev pub order_change : Event → Option Row → Option Row → Change
order_change event new old = record {
  id = 1;
  tx = 1;
  table = 0;
  event = event;
  new = new;
  old = old;
  channel = 0;
  source = None;
}

abbrev pub moved : Change
moved = order_change Update (Some (order_in (codes "002"))) (Some (order_in (codes "001")))

abbrev pub put : Change
put = order_change Insert (Some (order_in (codes "001"))) None

abbrev pub taken : Change
taken = order_change Delete None (Some (order_in (codes "001")))

abbrev pub peer_at : List ℕ → List ℕ → Peer
peer_at id external = record { id = id; group = codes "store"; external = external }

-- which of the two stores an expression names for a change, where these rows stand
abbrev pub named_by : Option RouterExpression → List TableRow → Change → List Bool
named_by None rows change = []
named_by (Some says) rows change =
    map (λ (peer : Peer). names_peer order_tables rows change peer says)
    (peer_at (codes "s1") (codes "001") ∷ (peer_at (codes "s2") (codes "002") ∷ []))

abbrev pub Names : RouterKind → List ℕ → List TableRow → Change → Bool → Bool → Type 0
Names kind text rows change first second =
    named_by (router_expression_of kind text) rows change ≡ first ∷ (second ∷ [])

-- TESTS. An order that moves from one store to the other is for the latter; and for both, where the
-- old store is asked for too
abbrev pub MovesToNew : Type 0
MovesToNew = Names router.Column (codes "STORE_ID=:EXTERNAL_ID") [] moved false true

abbrev pub MovesFromOld : Type 0
MovesFromOld =
    Names router.Column (codes "STORE_ID=:EXTERNAL_ID or OLD_STORE_ID=:EXTERNAL_ID") [] moved
    true true

-- of a delete both are the old value; an insert has no old value: no text equals it, and null does
abbrev pub DeleteLooksBack : Type 0
DeleteLooksBack = Names router.Column (codes "STORE_ID=:EXTERNAL_ID") [] taken true false
    × Names router.Column (codes "OLD_STORE_ID=:EXTERNAL_ID") [] taken true false

abbrev pub InsertHasNoOld : Type 0
InsertHasNoOld = Names router.Column (codes "OLD_STORE_ID=:EXTERNAL_ID") [] put false false
    × Names router.Column (codes "OLD_STORE_ID=NULL") [] put true true
    × Names router.Column (codes "OLD_STORE_ID!=:EXTERNAL_ID") [] put true true

-- the three words of a peer, a text, a column that the table lacks
abbrev pub WordsAreApart : Type 0
WordsAreApart = Names router.Column (codes "STORE_ID=:NODE_ID") [] put false false
    × Names router.Column (codes "STORE_ID=:NODE_GROUP_ID") [] put false false
    × Names router.Column (codes "STORE_ID='001'") [] put true true
    × Names router.Column (codes "STORE_ID != 001") [] put false false
    × Names router.Column (codes "place=NULL") [] put true true

-- LOOKUPS. A row that is put after the change and before it is routed decides
abbrev pub lookup_text : List ℕ
lookup_text = codes "LOOKUP_TABLE=stocked\nKEY_COLUMN=STORE_ID\n"
    ++ codes "LOOKUP_KEY_COLUMN=place\nEXTERNAL_ID_COLUMN=store"

abbrev pub stocked_row : TableRow
stocked_row =
    table_row 1 (number 1 ∷ (value.Text (codes "001") ∷ (value.Text (codes "002") ∷ [])))

abbrev pub LookupDecides : Type 0
LookupDecides = Names router.LookupTable lookup_text [] put false false
    × Names router.LookupTable lookup_text (stocked_row ∷ []) put false true

-- CHOICES. A row that meets each condition names its store; a row that doesn't names none
abbrev pub choice_text : List ℕ
choice_text = codes "c.external_id in (select store from stocked where place=:STORE_ID and id='1')"

abbrev pub ChoiceDecides : Type 0
ChoiceDecides = Names router.Subselect choice_text (stocked_row ∷ []) put false true
    × Names router.Subselect choice_text (stocked_row ∷ []) moved false false
