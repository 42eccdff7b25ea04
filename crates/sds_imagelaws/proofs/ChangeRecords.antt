-- The records of rows and of changes tell them.
use Rattle.std.proofs.Common.{◌≡◌, ℕ, ◌<◌, ◌==◌, true, false, List, [], ◌∷◌, ◌++◌, length, Option, None, Some, refl, sym, ap, subst, ◌∙◌, true≢false, append-nil}
use Rattle.std.specs.Prelude.{IfSome, codes, is_some}
use Rattle.std.specs.Fmt.{decimal}
use Rattle.std.specs.Option.{option_map_or}
use Rattle.std.proofs.lemmas.List.{append_cancel_left}
use Rattle.sds_value.specs.Names.{is_name_text}
use Rattle.sds_value.specs.declared.row.Event.{Event}
use Rattle.sds_value.specs.declared.row.Event.TheVariants.{Insert, Update, Delete}
use Rattle.sds_value.specs.declared.row.Field.{Field}
use Rattle.sds_value.specs.declared.row.Field.TheVariants.{Null, Text}
use Rattle.sds_value.specs.declared.table.ColumnDef.{ColumnDef}
use Rattle.sds_value.specs.declared.table.TableDef.{TableDef}
use Rattle.sds_types.specs.declared.config.Config.{Config}
use Rattle.sds_types.specs.declared.row.Change.{Change}
use Rattle.sds_types.specs.declared.row.Row.{Row}
use Rattle.sds_types.specs.declared.row.TableRow.{TableRow}
use Rattle.sds_line.specs.Written.{are_fields, is_field, written_line}
use Rattle.sds_trade.specs.rules.Places.{columns_at, table_name}
use Rattle.sds_trade.specs.rules.Sound.{IsSound}
use Rattle.sds_history.specs.history.Lanes.{channel_name}
use Rattle.sds_history.specs.history.Records.{id_text, number_field}
use Rattle.sds_history.specs.history.RowRecords.{change_record, event_word, row_fields, row_record, side_fields}
use Rattle.sds_history.specs.history.SoundParts.{has_new, has_old}
use Rattle.sds_imagelaws.proofs.Fields.{Good, Small, fields_append, first_field, first_number, first_text, line_tells, name_good, number_good, parted, rest_of, same_option, with_field, with_text}
use Rattle.sds_imagelaws.proofs.Keys.{named_at, one_place, same_fields, same_id}
use Rattle.sds_imagelaws.proofs.LaneRecords.{channel_named, same_channel}
use Rattle.sds_imagelaws.proofs.RowKeys.{AllSuit, RowFits, fields_are, fields_length, one_key, same_values}

-- ROWS
pub same_row : (config : Config) → IsSound config → (a b : TableRow) → RowFits config a → RowFits config b
    → (row_record config a).key ≡ (row_record config b).key → (row_record config a).body ≡ (row_record config b).body → a ≡ b
same_row config sound a b fit also key same =
    let table : a.table ≡ b.table = (one_key config sound a b fit also key).table in
    let columns = columns_at config.tables b.table in
    let suits : AllSuit columns a.row.0 = subst (λ t. AllSuit (columns_at config.tables t) a.row.0) table fit.suits in
    let lines : written_line (row_fields columns a.row.0) ≡ written_line (row_fields columns b.row.0) =
    subst (λ t. written_line (row_fields (columns_at config.tables t) a.row.0) ≡ written_line (row_fields columns b.row.0)) table same in
    let values : a.row.0 ≡ b.row.0 = same_values columns a.row.0 b.row.0 suits also.suits
    (same_fields (row_fields columns a.row.0) (row_fields columns b.row.0) (fields_are columns a.row.0 suits) (fields_are columns b.row.0 also.suits)
    (fields_length columns a.row.0 suits ∙ sym (fields_length columns b.row.0 also.suits)) lines) in
    λ i. record { table = table i; row = record { 0 = values i } }

-- SIDES of a change
abbrev pub SideFits : List ColumnDef → Option Row → Type 0
SideFits columns side = IfSome side (λ (row : Row). AllSuit columns row.0)

side_good : (columns : List ColumnDef) (side : Option Row) → SideFits columns side → are_fields (side_fields columns side) ≡ true
side_good columns None fit = refl
side_good columns (Some row) fit = fields_are columns row.0 fit

record Sides (a b : Option Row) (xs ys : List Field) : Type 0 where
  side : a ≡ b
  rest : xs ≡ ys

same_side : (columns : List ColumnDef) (a b : Option Row) (xs ys : List Field) → is_some a ≡ is_some b → SideFits columns a → SideFits columns b
    → side_fields columns a ++ xs ≡ side_fields columns b ++ ys → Sides a b xs ys
same_side columns None None xs ys stand fit also is = record { side = refl; rest = is }
same_side columns None (Some row) xs ys stand fit also is = absurd (true≢false (sym stand))
same_side columns (Some row) None xs ys stand fit also is = absurd (true≢false stand)
same_side columns (Some a) (Some b) xs ys stand fit also is =
    let both = parted (row_fields columns a.0) (row_fields columns b.0) xs ys (fields_length columns a.0 fit ∙ sym (fields_length columns b.0 also)) is in
    let values : a.0 ≡ b.0 = same_values columns a.0 b.0 fit also both.first in
    record { side = λ i. Some (record { 0 = values i }); rest = both.second }

-- WORDS of events
abbrev event_by : List ℕ → Event
event_by [] = Insert
event_by (c ∷ cs) = elim (c == 73) [ true ↦ Insert | false ↦ elim (c == 85) [ true ↦ Update | false ↦ Delete ] ]

event_is : (event : Event) → event_by (event_word event) ≡ event
event_is Insert = refl
event_is Update = refl
event_is Delete = refl

event_good : (event : Event) → Good (event_word event)
event_good Insert = refl
event_good Update = refl
event_good Delete = refl

-- CHANGES
abbrev pub SourceFits : Option (List ℕ) → Type 0
SourceFits source = IfSome source (λ (node : List ℕ). Good node)

pub record ChangeFits (config : Config) (change : Change) : Type 0 where
  pub id : Small change.id
  pub tx : Small change.tx
  pub table : change.table < length config.tables
  pub channel : change.channel < length config.channels
  pub new : is_some change.new ≡ has_new change.event
  pub old : is_some change.old ≡ has_old change.event
  pub new_row : SideFits (columns_at config.tables change.table) change.new
  pub old_row : SideFits (columns_at config.tables change.table) change.old
  pub source : SourceFits change.source

source_good : (source : Option (List ℕ)) → SourceFits source → is_field (option_map_or (λ (node : List ℕ). Text node) source Null) ≡ true
source_good None fit = refl
source_good (Some node) fit = fit

module _ (config : Config) (sound : IsSound config) where
  abbrev columns_of : Change → List ColumnDef
  columns_of change = columns_at config.tables change.table

  abbrev sides : List ColumnDef → Change → List Field
  sides columns change = side_fields columns change.new ++ side_fields columns change.old

  abbrev from_source : List ColumnDef → Change → List Field
  from_source columns change = option_map_or (λ (node : List ℕ). Text node) change.source Null ∷ sides columns change

  abbrev from_channel : List ColumnDef → Change → List Field
  from_channel columns change = Text (channel_name config change.channel) ∷ from_source columns change

  abbrev from_event : List ColumnDef → Change → List Field
  from_event columns change = Text (event_word change.event) ∷ from_channel columns change

  abbrev from_table : List ColumnDef → Change → List Field
  from_table columns change = Text (table_name config.tables change.table) ∷ from_event columns change

  table_named : (table : ℕ) → table < length config.tables → is_name_text (table_name config.tables table) ≡ true
  table_named table within = named_at (λ (def : TableDef). def.name) config.tables table sound.tables.named within

  change_good : (change : Change) → ChangeFits config change → are_fields (number_field change.tx ∷ from_table (columns_of change) change) ≡ true
  change_good change fit = let columns = columns_of change in
      with_text (decimal change.tx) (from_table columns change) (number_good change.tx fit.tx)
      (with_text (table_name config.tables change.table) (from_event columns change)
      (name_good (table_name config.tables change.table) (table_named change.table fit.table))
      (with_text (event_word change.event) (from_channel columns change) (event_good change.event)
      (with_text (channel_name config change.channel) (from_source columns change)
      (name_good (channel_name config change.channel) (channel_named config sound change.channel fit.channel))
      (with_field (option_map_or (λ (node : List ℕ). Text node) change.source Null) (sides columns change) (source_good change.source fit.source)
      (fields_append (side_fields columns change.new) (side_fields columns change.old)
      (side_good columns change.new fit.new_row) (side_good columns change.old fit.old_row))))))

  pub same_change : (a b : Change) → ChangeFits config a → ChangeFits config b → (change_record config a).key ≡ (change_record config b).key
      → (change_record config a).body ≡ (change_record config b).body → a ≡ b
  same_change a b fit also key same =
      let ca = columns_of a in
      let cb = columns_of b in
      let id : a.id ≡ b.id = same_id a.id b.id fit.id also.id (append_cancel_left (codes "d/") (id_text a.id) (id_text b.id) key) in
      let fields = line_tells (decimal a.tx) (decimal b.tx) (from_table ca a) (from_table cb b) (change_good a fit) (change_good b also) same in
      let tx : a.tx ≡ b.tx = first_number a.tx b.tx (from_table ca a) (from_table cb b) fit.tx also.tx fields in
      let by_table = rest_of (number_field a.tx) (number_field b.tx) (from_table ca a) (from_table cb b) fields in
      let table : a.table ≡ b.table = one_place (λ (def : TableDef). def.name) config.tables a.table b.table sound.tables.apart fit.table also.table
      (first_text (table_name config.tables a.table) (table_name config.tables b.table) (from_event ca a) (from_event cb b) by_table) in
      let by_event = rest_of (Text (table_name config.tables a.table)) (Text (table_name config.tables b.table)) (from_event ca a) (from_event cb b) by_table in
      let event : a.event ≡ b.event = sym (event_is a.event)
      ∙ (ap event_by (first_text (event_word a.event) (event_word b.event) (from_channel ca a) (from_channel cb b) by_event) ∙ event_is b.event) in
      let by_channel = rest_of (Text (event_word a.event)) (Text (event_word b.event)) (from_channel ca a) (from_channel cb b) by_event in
      let channel : a.channel ≡ b.channel = same_channel config sound a.channel b.channel fit.channel also.channel
      (first_text (channel_name config a.channel) (channel_name config b.channel) (from_source ca a) (from_source cb b) by_channel) in
      let by_source = rest_of (Text (channel_name config a.channel)) (Text (channel_name config b.channel)) (from_source ca a) (from_source cb b) by_channel in
      let source : a.source ≡ b.source = same_option a.source b.source (ap first_field by_source) in
      let by_sides = rest_of _ _ (sides ca a) (sides cb b) by_source in
      let one : sides cb a ≡ sides cb b = subst (λ t. sides (columns_at config.tables t) a ≡ sides cb b) table by_sides in
      let new = same_side cb a.new b.new (side_fields cb a.old) (side_fields cb b.old) (fit.new ∙ (ap has_new event ∙ sym also.new))
      (subst (λ t. SideFits (columns_at config.tables t) a.new) table fit.new_row) also.new_row one in
      let old = same_side cb a.old b.old [] [] (fit.old ∙ (ap has_old event ∙ sym also.old))
      (subst (λ t. SideFits (columns_at config.tables t) a.old) table fit.old_row) also.old_row
      (append-nil (side_fields cb a.old) ∙ (new.rest ∙ sym (append-nil (side_fields cb b.old)))) in
      λ i. record {
        id = id i;
        tx = tx i;
        table = table i;
        event = event i;
        new = new.side i;
        old = old.side i;
        channel = channel i;
        source = source i;
      }
