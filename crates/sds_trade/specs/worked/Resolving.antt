-- Worked cases: conflicts at corp, and what is done about them.
use Rattle.std.specs.Prelude.{◌≡◌, ℕ, ◌+◌, Bool, pos, true, false, List, [], ◌∷◌, None, Some, codes}
use Rattle.sds_value.specs.declared.kind.Kind.TheVariants.{Integer, Timestamp}
use Rattle.sds_value.specs.declared.kind.Value.{Value}
use Rattle.sds_value.specs.declared.kind.Value.TheVariants as value
use Rattle.sds_value.specs.declared.row.DocRow.{DocRow}
use Rattle.sds_value.specs.declared.row.Event.TheVariants.{Insert}
use Rattle.sds_value.specs.declared.row.Field.TheVariants.{Text}
use Rattle.sds_value.specs.declared.table.TableDef.{TableDef}
use Rattle.sds_types.specs.declared.conflict.ConflictDef.{ConflictDef}
use Rattle.sds_types.specs.declared.conflict.DetectType.TheVariants.{UseOldData, UseTimestamp}
use Rattle.sds_types.specs.declared.conflict.Resolution.{Resolution}
use Rattle.sds_types.specs.declared.conflict.Resolution.TheVariants.{Apply, SkipRow}
use Rattle.sds_types.specs.declared.conflict.ResolveType.TheVariants.{Ignore, Manual, NewerWins}
use Rattle.sds_types.specs.declared.row.Row.{Row}
use Rattle.sds_types.specs.declared.row.RowStep.TheVariants as step
use Rattle.sds_types.specs.declared.row.TableRow.{TableRow}
use Rattle.sds_types.specs.declared.rule.Rule.TheVariants.{ManualConflict}
use Rattle.sds_trade.specs.rules.Resolutions.{resolution_of}
use Rattle.sds_trade.specs.rules.Runs.{RunEnd}
use Rattle.sds_trade.specs.rules.Runs.RunEnd.{Made, Ignored, Refused}
use Rattle.sds_trade.specs.worked.Entries.{column_def, optional, table_def, number, table_row}
use Rattle.sds_trade.specs.worked.Shop.{shop, pen, sale_a}
use Rattle.sds_trade.specs.worked.Loading.{batch_doc, load_end}

-- CONFLICTS. A setting for the shop's sales
abbrev pub sale_setting : Bool → ConflictDef
sale_setting row_only = record {
  source_group = 1;
  target_group = 0;
  target_table = 2;
  detect_type = UseOldData;
  detect_expression = None;
  resolve_type = Ignore;
  resolve_row_only = row_only;
}

abbrev pub sale_doc : List ℕ → DocRow
sale_doc id = record {
  event = Insert;
  table = codes "sale";
  keys = codes "id" ∷ [];
  columns = codes "id" ∷ (codes "store" ∷ (codes "item_id" ∷ (codes "qty" ∷ [])));
  new = Text id ∷ (Text (codes "001") ∷ (Text (codes "1") ∷ (Text (codes "2") ∷ [])));
  key = [];
  old = None;
}

abbrev pub sale_b : TableRow
sale_b = table_row 2 (value.Text (codes "b")
    ∷ (value.Text (codes "001") ∷ (number 1 ∷ (number 2 ∷ []))))

abbrev pub sales_end : ConflictDef → RunEnd
sales_end setting = load_end (record shop { conflicts = setting ∷ [] }) (pen ∷ (sale_b ∷ []))
    (batch_doc (codes "sale") (sale_doc (codes "a") ∷ (sale_doc (codes "b") ∷ [])))

-- a sale that stands is skipped alone, or its whole batch is, or the batch is refused at its row
abbrev pub RowIsSkipped : Type 0
RowIsSkipped = sales_end (sale_setting true)
    ≡ Made (record { step = step.Insert 2 sale_a.row; old = None } ∷ [])
    (pen ∷ (sale_a ∷ (sale_b ∷ [])))

abbrev pub BatchIsIgnored : Type 0
BatchIsIgnored = sales_end (sale_setting false) ≡ Ignored

abbrev pub ManualIsRefused : Type 0
ManualIsRefused = sales_end (record (sale_setting true) { resolve_type = Manual })
    ≡ Refused 2 ManualConflict

-- NEWER WINS. Prices with the time at which they were set
abbrev pub price_tables : List TableDef
price_tables = table_def (codes "price") (column_def (codes "id") Integer None
    ∷ (optional (column_def (codes "set") Timestamp None) ∷ [])) ∷ []

abbrev pub by_time : ConflictDef
by_time = record (sale_setting true) {
  target_table = 0;
  detect_type = UseTimestamp;
  detect_expression = Some 1;
  resolve_type = NewerWins;
}

-- noon of 29 February 2024 and so many nanoseconds
abbrev pub noon : ℕ → Value
noon more = value.Stamp (pos 19782) (43200000000000 + more)

abbrev pub price_row : ℕ → Row
price_row more = record { 0 = number 1 ∷ (noon more ∷ []) }

-- what is to be done with a price of this time, where one of noon stands
abbrev pub price_resolution : ℕ → Resolution
price_resolution more = resolution_of price_tables (Some by_time)
    (record { table = 0; row = price_row 0 } ∷ []) (record {
      row = 1;
      table = 0;
      event = Insert;
      key = record { 0 = number 1 ∷ [] };
      columns = 0 ∷ (1 ∷ []);
      new = number 1 ∷ (noon more ∷ []);
      old = None;
      adds = [];
    })

abbrev pub TieIsSkipped : Type 0
TieIsSkipped = price_resolution 0 ≡ SkipRow

abbrev pub NewerIsApplied : Type 0
NewerIsApplied = price_resolution 1
    ≡ Apply (step.Update 0 (record { 0 = number 1 ∷ [] }) (price_row 1))
