-- Worked cases: own writes at corp, and the rule that each breaks.
use Rattle.std.specs.Prelude.{◌≡◌, ℕ, List, [], ◌∷◌, Some, codes}
use Rattle.sds_value.specs.declared.kind.Value.TheVariants as value
use Rattle.sds_value.specs.declared.row.Event.{Event}
use Rattle.sds_value.specs.declared.row.Event.TheVariants.{Insert, Update, Delete}
use Rattle.sds_value.specs.declared.row.Field.{Field}
use Rattle.sds_value.specs.declared.row.Field.TheVariants.{Null, Text}
use Rattle.sds_types.specs.declared.row.RowStep.TheVariants as step
use Rattle.sds_types.specs.declared.row.TableRow.{TableRow}
use Rattle.sds_types.specs.declared.rule.Rule.{Rule}
use Rattle.sds_types.specs.declared.rule.Rule.TheVariants.{UnknownTable, UnknownColumn, MissingKey, BadValue, NullNotAllowed, DuplicateKey, RowMissing, MissingParent, HasChildren}
use Rattle.sds_types.specs.declared.tx_row.TxRow.{TxRow}
use Rattle.sds_trade.specs.rules.OwnWrites.{outcome_of_write}
use Rattle.sds_trade.specs.rules.Runs.{RunEnd}
use Rattle.sds_trade.specs.rules.Runs.RunEnd.{Made, Refused}
use Rattle.sds_trade.specs.worked.Entries.{number, table_row}
use Rattle.sds_trade.specs.worked.Shop.{shop, pen, sale_a}

abbrev pub own_row : Event → List ℕ → List Field → TxRow
own_row event table fields = record { event = event; table = table; fields = fields }

abbrev pub insert_item : Field → Field → Field → TxRow
insert_item id name price = own_row Insert (codes "item") (id ∷ (name ∷ (price ∷ [])))

-- how a write at corp ends where an item stands, and a sale of it
abbrev pub ends : List TxRow → RunEnd
ends tx = outcome_of_write shop (codes "corp") 0 (pen ∷ (sale_a ∷ [])) tx

-- its first row breaks a rule
abbrev pub Breaks : TxRow → Rule → Type 0
Breaks row rule = ends (row ∷ []) ≡ Refused 1 rule

-- a second item of one id; an update of an item that isn't there; a sale of such an item; a delete
-- of an item that was sold
abbrev pub SecondKey : Type 0
SecondKey = Breaks (insert_item (Text (codes "1")) (Text (codes "Cap")) (Text (codes "2")))
    DuplicateKey

abbrev pub LostUpdate : Type 0
LostUpdate = Breaks (own_row Update (codes "item")
    (Text (codes "99") ∷ (Text (codes "price") ∷ (Text (codes "2") ∷ [])))) RowMissing

abbrev pub SaleOfNothing : Type 0
SaleOfNothing = Breaks (own_row Insert (codes "sale") (Text (codes "b") ∷ (Text (codes "001")
    ∷ (Text (codes "99") ∷ (Text (codes "1") ∷ []))))) MissingParent

abbrev pub DeleteOfSold : Type 0
DeleteOfSold = Breaks (own_row Delete (codes "item") (Text (codes "1") ∷ [])) HasChildren

-- a name that is null; a key that is no number; a row that is too short; a table that isn't there;
-- a key that is null
abbrev pub NullName : Type 0
NullName = Breaks (insert_item (Text (codes "1")) Null (Text (codes "2"))) NullNotAllowed

abbrev pub BadKey : Type 0
BadKey = Breaks (insert_item (Text (codes "x")) (Text (codes "Pen")) (Text (codes "2"))) BadValue

abbrev pub ShortRow : Type 0
ShortRow = Breaks (own_row Insert (codes "item") (Text (codes "1") ∷ [])) UnknownColumn

abbrev pub NoTable : Type 0
NoTable = Breaks (own_row Insert (codes "nix") (Text (codes "1") ∷ [])) UnknownTable

abbrev pub NullKey : Type 0
NullKey = Breaks (insert_item Null (Text (codes "Pen")) (Text (codes "2"))) MissingKey

-- of two rows the second breaks the rule that the first led to, and a row that breaks two rules is
-- answered by the first
abbrev pub SecondRow : Type 0
SecondRow = ends (insert_item (Text (codes "2")) (Text (codes "Cap")) Null
    ∷ (insert_item (Text (codes "+02")) (Text (codes "Hat")) Null ∷ [])) ≡ Refused 2 DuplicateKey

abbrev pub FirstOfTwo : Type 0
FirstOfTwo = Breaks (insert_item (Text (codes "1")) Null Null) NullNotAllowed

-- an update that names no row, by what it gives: a null, another row's key, or neither
abbrev pub update_missing : List ℕ → Field → TxRow
update_missing column field = own_row Update (codes "item")
    (Text (codes "9") ∷ (Text column ∷ (field ∷ [])))

abbrev pub MissingGivesNull : Type 0
MissingGivesNull = Breaks (update_missing (codes "name") Null) NullNotAllowed

abbrev pub MissingTakesKey : Type 0
MissingTakesKey = Breaks (update_missing (codes "id") (Text (codes "1"))) DuplicateKey

-- an item that was sold keeps its key, and one that wasn't may change it; a null new key is a null
abbrev pub SoldKeepsKey : Type 0
SoldKeepsKey = Breaks (own_row Update (codes "item")
    (Text (codes "1") ∷ (Text (codes "id") ∷ (Text (codes "3") ∷ [])))) HasChildren

abbrev pub KeyBecomesNull : Type 0
KeyBecomesNull = Breaks (own_row Update (codes "item")
    (Text (codes "1") ∷ (Text (codes "id") ∷ (Null ∷ [])))) NullNotAllowed

abbrev pub cap : TableRow
cap = table_row 0 (number 2 ∷ (value.Text (codes "Cap") ∷ (value.Null ∷ [])))

abbrev pub hat : TableRow
hat = table_row 0 (number 1 ∷ (value.Text (codes "Cap") ∷ (value.Null ∷ [])))

-- rows stand by table and key, wherever they were put
abbrev pub KeyChanges : Type 0
KeyChanges = outcome_of_write shop (codes "corp") 0 (cap ∷ (sale_a ∷ [])) (own_row Update
    (codes "item") (Text (codes "2") ∷ (Text (codes "id") ∷ (Text (codes "1") ∷ []))) ∷ [])
    ≡ Made (record {
      step = step.Update 0 (record { 0 = number 2 ∷ [] }) hat.row;
      old = Some cap.row;
    } ∷ []) (hat ∷ (sale_a ∷ []))
