-- Worked cases: batches from a store that corp loads.
use Rattle.std.specs.Prelude.{◌≡◌, ℕ, ◌-◌, ◌^◌, pos, neg_ℤ, List, [], ◌∷◌, Option, None, Some, codes}
use Rattle.sds_value.specs.declared.kind.Binary.TheVariants.{Base64}
use Rattle.sds_value.specs.declared.row.DocRow.{DocRow}
use Rattle.sds_value.specs.declared.row.Event.{Event}
use Rattle.sds_value.specs.declared.row.Event.TheVariants.{Insert, Update}
use Rattle.sds_value.specs.declared.row.Field.{Field}
use Rattle.sds_value.specs.declared.row.Field.TheVariants.{Text}
use Rattle.sds_types.specs.declared.config.Config.{Config}
use Rattle.sds_types.specs.declared.document.BatchDoc.{BatchDoc}
use Rattle.sds_types.specs.declared.row.RowStep.TheVariants as step
use Rattle.sds_types.specs.declared.row.TableRow.{TableRow}
use Rattle.sds_types.specs.declared.rule.Rule.TheVariants.{MissingParent, OldMissing, SumOutOfRange, UnknownChannel, UnknownTable}
use Rattle.sds_trade.specs.rules.Outcomes.{prepared_batch, outcome_of_batch}
use Rattle.sds_trade.specs.rules.Runs.{RunEnd}
use Rattle.sds_trade.specs.rules.Runs.RunEnd.{Made, Refused}
use Rattle.sds_trade.specs.worked.Entries.{number}
use Rattle.sds_trade.specs.worked.Shop.{shop, shop_adding, way_up, pen, stock_of}

-- a batch in a channel, and how its load at corp ends where certain rows stand
abbrev pub batch_doc : List ℕ → List DocRow → BatchDoc
batch_doc channel rows =
    record { channel = channel; batch = 1; binary = Base64; rows = rows }

abbrev pub load_end : Config → List TableRow → BatchDoc → RunEnd
load_end config rows doc =
    outcome_of_batch config (codes "corp") 0 rows (prepared_batch config way_up doc)

-- a stock of item 1: an insert, and an update whose old number is given or not
abbrev pub stock_doc : Event → List ℕ → List Field → Option (List Field) → DocRow
stock_doc event qty key old = record {
  event = event;
  table = codes "stock";
  keys = codes "item_id" ∷ [];
  columns = codes "item_id" ∷ (codes "qty" ∷ []);
  new = Text (codes "1") ∷ (Text qty ∷ []);
  key = key;
  old = old;
}

abbrev pub stock_insert : List ℕ → DocRow
stock_insert qty = stock_doc Insert qty [] None

abbrev pub stock_update : List ℕ → Option (List Field) → DocRow
stock_update qty old = stock_doc Update qty (Text (codes "1") ∷ []) old

-- the update of a stock that stands
abbrev pub updated : ℕ → ℕ → RunEnd
updated before after = Made (record {
  step = step.Update 1 (record { 0 = number 1 ∷ [] }) (stock_of 1 after).row;
  old = Some (stock_of 1 before).row;
} ∷ []) (pen ∷ (stock_of 1 after ∷ []))

abbrev pub stock_end : Config → ℕ → DocRow → RunEnd
stock_end config qty row =
    load_end config (pen ∷ (stock_of 1 qty ∷ [])) (batch_doc (codes "stock") (row ∷ []))

-- SUMS. A store's count is added to the one that stands; a sum of more than 64 bits is refused
abbrev pub CountIsAdded : Type 0
CountIsAdded = stock_end shop 5 (stock_insert (codes "5")) ≡ updated 5 10

abbrev pub SumIsTooGreat : Type 0
SumIsTooGreat = stock_end shop (2 ^ 63 - 1) (stock_insert (codes "1")) ≡ Refused 1 SumOutOfRange

-- twice taken away: 3 for 5 makes 14 of 10; without the old number it can't be reckoned
abbrev pub twice_less : Config
twice_less = shop_adding (codes "-2") (neg_ℤ (pos 2))

abbrev pub LessIsAdded : Type 0
LessIsAdded = stock_end twice_less 10
    (stock_update (codes "3") (Some (Text (codes "1") ∷ (Text (codes "5") ∷ [])))) ≡ updated 10 14

abbrev pub OldIsNeeded : Type 0
OldIsNeeded = stock_end twice_less 10 (stock_update (codes "3") None) ≡ Refused 1 OldMissing

-- RULES. Each of these batches is refused: by its channel, by its second row, and by the first row
-- whose texts are wrong even where an earlier one would break a later rule
abbrev pub ChannelIsUnknown : Type 0
ChannelIsUnknown = load_end shop (pen ∷ [])
    (batch_doc (codes "other") (stock_insert (codes "1") ∷ [])) ≡ Refused 0 UnknownChannel

abbrev pub nowhere : DocRow
nowhere = record (stock_insert (codes "1")) { table = codes "nowhere" }

abbrev pub TextsComeFirst : Type 0
TextsComeFirst = load_end shop []
    (batch_doc (codes "stock") (stock_insert (codes "1") ∷ (nowhere ∷ []))) ≡ Refused 2 UnknownTable

abbrev pub ParentIsMissing : Type 0
ParentIsMissing = load_end shop [] (batch_doc (codes "stock") (stock_insert (codes "1") ∷ []))
    ≡ Refused 1 MissingParent
