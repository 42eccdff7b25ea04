-- Worked cases: what the tests and lookups of routers compare.
use Rattle.std.specs.Prelude.{ℕ, true, false, List, [], ◌∷◌, None, Some, codes}
use Rattle.sds_value.specs.declared.kind.Value.TheVariants as value
use Rattle.sds_value.specs.declared.row.Event.TheVariants.{Insert}
use Rattle.sds_types.specs.declared.router.RouterKind.TheVariants as router
use Rattle.sds_types.specs.declared.row.Change.{Change}
use Rattle.sds_types.specs.declared.row.TableRow.{TableRow}
use Rattle.sds_trade.specs.worked.Entries.{number, table_row}
use Rattle.sds_trade.specs.worked.Naming.{Names, choice_text, lookup_text, order_change, order_in, put, stocked_row}

-- an order that was put for a store, by what names it
abbrev pub put_for : List ℕ → Change
put_for store = order_change Insert (Some (order_in store)) None

-- the id of a node, its external id and its group are three things; a text that is there is no null
abbrev pub WordsAreTold : Type 0
WordsAreTold = Names router.Column (codes "STORE_ID=:NODE_ID") [] (put_for (codes "s1")) true false
    × Names router.Column (codes "STORE_ID=:EXTERNAL_ID") [] (put_for (codes "s1")) false false
    × Names router.Column (codes "STORE_ID=:NODE_GROUP_ID") [] (put_for (codes "store")) true true
    × Names router.Column (codes "STORE_ID=NULL") [] put false false
    × Names router.Column (codes "STORE_ID='002'") [] put false false

-- a default router's expression is empty, and names all
abbrev pub DefaultNamesAll : Type 0
DefaultNamesAll = Names router.Default [] [] put true true

-- a lookup looks in its own table, at its own column; so does a choice
abbrev pub stray_row : TableRow
stray_row = record stocked_row { table = 0 }

abbrev pub other_row : TableRow
other_row = table_row 1 (number 1 ∷ (value.Text (codes "009") ∷ (value.Text (codes "002") ∷ [])))

abbrev pub LookupsLookRight : Type 0
LookupsLookRight = Names router.LookupTable lookup_text (stray_row ∷ []) put false false
    × Names router.LookupTable lookup_text (other_row ∷ []) put false false
    × Names router.LookupTable lookup_text (other_row ∷ (stocked_row ∷ [])) put false true
    × Names router.Subselect choice_text (stray_row ∷ []) put false false
    × Names router.Subselect choice_text (other_row ∷ (stocked_row ∷ [])) put false true

-- a choice by the node's id, of another column
abbrev pub node_choice : List ℕ
node_choice = codes "c.node_id in (select store from stocked where place=:STORE_ID)"

abbrev pub ChoicesByNode : Type 0
ChoicesByNode = Names router.Subselect node_choice (stocked_row ∷ []) put false false
    × Names router.Subselect node_choice (table_row 1 (number 1 ∷ (value.Text (codes "001")
    ∷ (value.Text (codes "s1") ∷ []))) ∷ []) put true false
