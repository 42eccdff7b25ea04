-- The key of a row's record tells the row's table and its key.
use Rattle.std.proofs.Common.{◌≡◌, ℕ, zero, suc, ◌<◌, Bool, true, false, ◌||◌, List, [], ◌∷◌, ◌++◌, length, map, None, Some, refl, sym, ap, subst, ◌∙◌, arith, true≢false, All, Ordering, Less, Equal, Greater, nat_cmp}
use Rattle.std.specs.Prelude.{codes, slice_get}
use Rattle.std.specs.List.{AllByRecursion, zip}
use Rattle.std.specs.Ordering.{ordering_then}
use Rattle.std.specs.Cmp.Lexicographic.{slice_cmp}
use Rattle.std.specs.Option.{option_map_or}
use Rattle.std.specs.Str.{chars, encode_utf8_all}
use Rattle.std.proofs.lemmas.List.{append_cancel_left}
use Rattle.std.proofs.lemmas.List.Elements.{All-nil, recursion_from_All}
use Rattle.std.proofs.lemmas.Map.Lookups.{exact_unsigned}
use Rattle.std.proofs.lemmas.Str.{scalars-chars}
use Rattle.sds_value.specs.declared.kind.Binary.TheVariants.{Base64}
use Rattle.sds_value.specs.declared.kind.Kind.{Kind}
use Rattle.sds_value.specs.declared.kind.Kind.TheVariants as Kinds
use Rattle.sds_value.specs.declared.kind.Value.{Value}
use Rattle.sds_value.specs.declared.kind.Value.TheVariants as value
use Rattle.sds_value.specs.declared.row.Field.{Field}
use Rattle.sds_value.specs.declared.row.Field.TheVariants as field
use Rattle.sds_value.specs.declared.table.ColumnDef.{ColumnDef}
use Rattle.sds_value.specs.declared.table.TableDef.{TableDef}
use Rattle.sds_value.specs.Values as values
use Rattle.sds_value.specs.Values.{fits, is_written, printed, value_order}
use Rattle.sds_value.proofs.Back.{reads_back}
use Rattle.sds_value.proofs.Orders.{one_value}
use Rattle.sds_types.specs.declared.config.Config.{Config}
use Rattle.sds_types.specs.declared.row.Row.{Row}
use Rattle.sds_types.specs.declared.row.TableRow.{TableRow}
use Rattle.sds_line.specs.Written.{are_fields, is_field, written_line}
use Rattle.sds_trade.specs.rules.Fitting.{FitColumns, Suits}
use Rattle.sds_trade.specs.rules.Places.{columns_at, key_places, table_name}
use Rattle.sds_trade.specs.rules.RoutedValues.{field_of}
use Rattle.sds_trade.specs.rules.Sound.{IsSound}
use Rattle.sds_trade.specs.rules.Tables.{is_null, key_of, row_order, value_at}
use Rattle.sds_trade.specs.sound.Tables.{IsKey}
use Rattle.sds_trade.proofs.Lists.{all_head, all_tail}
use Rattle.sds_trade.proofs.TableLaws.{row_total}
use Rattle.sds_rowvalues.proofs.Printed.{printed_utf8}
use Rattle.sds_history.specs.history.RowRecords.{key_columns, row_fields, row_record}
use Rattle.sds_imagelaws.proofs.Fields.{is_text, text_in}
use Rattle.sds_imagelaws.proofs.Items.{Tells}
use Rattle.sds_imagelaws.proofs.Keys.{after_names, named_at, ok_value, one_place, same_fields}
use Rattle.sds_imagelaws.proofs.Tests.{both_true}

-- VALUES that suit a column
null_is : (v : Value) → is_null v ≡ true → v ≡ value.Null
null_is value.Null is = refl
null_is (value.Integer z) is = absurd (true≢false (sym is))
null_is (value.Decimal z) is = absurd (true≢false (sym is))
null_is (value.Text text) is = absurd (true≢false (sym is))
null_is (value.Stamp day nano) is = absurd (true≢false (sym is))
null_is (value.Bin bytes) is = absurd (true≢false (sym is))

abbrev field_by : Kind → Value → Bool → Field
field_by kind v null = option_map_or (λ (text : List ℕ). field.Text text)
    (elim null [ true ↦ None | false ↦ Some (chars (printed kind Base64 v)) ]) field.Null

written : (kind : Kind) → is_written kind Base64 ≡ true
written Kinds.Integer = refl
written (Kinds.Decimal s) = refl
written (Kinds.Varchar n) = refl
written Kinds.Timestamp = refl
written (Kinds.Varbinary n) = refl

or_other : (a b : Bool) → (a || b) ≡ true → a ≡ false → b ≡ true
or_other true b is isnt = absurd (true≢false isnt)
or_other false b is isnt = is

pub same_value : (kind : Kind) (v w : Value) → (is_null v || fits kind v) ≡ true → (is_null w || fits kind w) ≡ true
    → field_of kind v ≡ field_of kind w → v ≡ w
same_value kind v w suit also same = on (is_null v) (is_null w) refl refl same
  where
    on : (a b : Bool) → is_null v ≡ a → is_null w ≡ b → field_by kind v a ≡ field_by kind w b → v ≡ w
    on true true is too told = null_is v is ∙ sym (null_is w too)
    on true false is too told = absurd (true≢false (sym (ap is_text told)))
    on false true is too told = absurd (true≢false (ap is_text told))
    on false false is too told =
        ok_value v w (values.value_of kind Base64 (chars (printed kind Base64 w)))
        (ap (values.value_of kind Base64) (ap text_in (sym told)) ∙ reads_back kind Base64 v (written kind) (or_other (is_null v) (fits kind v) suit is))
        (reads_back kind Base64 w (written kind) (or_other (is_null w) (fits kind w) also too))

pub value_field : (kind : Kind) (v : Value) → (is_null v || fits kind v) ≡ true → is_field (field_of kind v) ≡ true
value_field kind v suit = on (is_null v) refl
  where
    on : (b : Bool) → is_null v ≡ b → is_field (field_by kind v b) ≡ true
    on true is = refl
    on false is = scalars-chars (printed kind Base64 v) (printed_utf8 kind v (or_other (is_null v) (fits kind v) suit is))

-- AS MANY VALUES AS COLUMNS
pub record AllSuit (columns : List ColumnDef) (vs : List Value) : Type 0 where
  pub whole : length vs ≡ length columns
  pub each : AllByRecursion Suits (zip columns vs)

tail_suits : (c : ColumnDef) (columns : List ColumnDef) (v : Value) (vs : List Value) → AllSuit (c ∷ columns) (v ∷ vs) → AllSuit columns vs
tail_suits c columns v vs suit = record { whole = omega (arith, suit.whole); each = suit.each.1 }

pub same_values : (columns : List ColumnDef) (vs ws : List Value) → AllSuit columns vs → AllSuit columns ws
    → row_fields columns vs ≡ row_fields columns ws → vs ≡ ws
same_values [] [] [] suit also same = refl
same_values [] [] (w ∷ ws) suit also same = absurd (omega (arith, also.whole))
same_values [] (v ∷ vs) ws suit also same = absurd (omega (arith, suit.whole))
same_values (c ∷ columns) [] ws suit also same = absurd (omega (arith, suit.whole))
same_values (c ∷ columns) (v ∷ vs) [] suit also same = absurd (omega (arith, also.whole))
same_values (c ∷ columns) (v ∷ vs) (w ∷ ws) suit also same =
    let first : field_of c.kind v ≡ field_of c.kind w = ap (λ l. elim l [ [] ↦ field_of c.kind v | x ∷ xs ↦ x ]) same in
    let rest : row_fields columns vs ≡ row_fields columns ws = ap (λ l. elim l [ [] ↦ row_fields columns vs | x ∷ xs ↦ xs ]) same in
    ap (λ x. x ∷ vs) (same_value c.kind v w suit.each.0 also.each.0 first)
    ∙ ap (λ xs. w ∷ xs) (same_values columns vs ws (tail_suits c columns v vs suit) (tail_suits c columns w ws also) rest)

pub fields_are : (columns : List ColumnDef) (vs : List Value) → AllSuit columns vs → are_fields (row_fields columns vs) ≡ true
fields_are [] vs suit = refl
fields_are (c ∷ columns) [] suit = refl
fields_are (c ∷ columns) (v ∷ vs) suit =
    both_true (is_field (field_of c.kind v)) (are_fields (row_fields columns vs)) (value_field c.kind v suit.each.0)
    (fields_are columns vs (tail_suits c columns v vs suit))

pub fields_length : (columns : List ColumnDef) (vs : List Value) → AllSuit columns vs → length (row_fields columns vs) ≡ length columns
fields_length [] vs suit = refl
fields_length (c ∷ columns) [] suit = absurd (omega (arith, suit.whole))
fields_length (c ∷ columns) (v ∷ vs) suit = ap suc (fields_length columns vs (tail_suits c columns v vs suit))

pub columns_suit : (columns : List ColumnDef) (vs : List Value) → FitColumns columns vs → AllSuit columns vs
columns_suit columns vs fit = record { whole = fit.whole; each = recursion_from_All Suits (zip columns vs) fit.each }

-- THE VALUES OF A KEY suit its columns
record At (columns : List ColumnDef) (vs : List Value) (place : ℕ) : Type 0 where
  column : ColumnDef
  stands : slice_get columns place ≡ Some column
  suits : Suits (column, value_at vs place)

at_place : (columns : List ColumnDef) (vs : List Value) (place : ℕ) → AllSuit columns vs → place < length columns → At columns vs place
at_place [] vs place suit within = absurd (omega (arith, within))
at_place (c ∷ columns) [] place suit within = absurd (omega (arith, suit.whole))
at_place (c ∷ columns) (v ∷ vs) zero suit within = record { column = c; stands = refl; suits = suit.each.0 }
at_place (c ∷ columns) (v ∷ vs) (suc place) suit within =
    let later = at_place columns vs place (tail_suits c columns v vs suit) (omega (arith, within)) in
    record { column = later.column; stands = later.stands; suits = later.suits }

key_with : (columns : List ColumnDef) (vs : List Value) (place : ℕ) (places : List ℕ) (at : At columns vs place)
    → AllSuit (key_columns columns places) (map (value_at vs) places) → AllSuit (key_columns columns (place ∷ places)) (map (value_at vs) (place ∷ places))
key_with columns vs place places at rest =
    subst (λ cs. AllSuit (cs ++ key_columns columns places) (map (value_at vs) (place ∷ places)))
    (sym (ap (λ o. option_map_or (λ (column : ColumnDef). column ∷ []) o []) at.stands))
    (record { whole = ap suc rest.whole; each = (at.suits, rest.each) })

pub key_suits : (columns : List ColumnDef) (vs : List Value) (places : List ℕ) → AllSuit columns vs
    → All (λ (place : ℕ). place < length columns) places → AllSuit (key_columns columns places) (map (value_at vs) places)
key_suits columns vs [] suit within = record { whole = refl; each = tt }
key_suits columns vs (place ∷ places) suit within =
    key_with columns vs place places
    (at_place columns vs place suit (all_head (λ (p : ℕ). p < length columns) place places within))
    (key_suits columns vs places suit (all_tail (λ (p : ℕ). p < length columns) place places within))

pub key_within : (defs : List TableDef) (table : ℕ) → All (λ (def : TableDef). IsKey def.columns def.key) defs
    → All (λ (place : ℕ). place < length (columns_at defs table)) (key_places defs table)
key_within [] table are = All-nil (λ (place : ℕ). place < length (columns_at [] table))
key_within (def ∷ defs) zero are = (all_head (λ (d : TableDef). IsKey d.columns d.key) def defs are).within
key_within (def ∷ defs) (suc table) are = key_within defs table (all_tail (λ (d : TableDef). IsKey d.columns d.key) def defs are)

-- ROWS that fit the tables
pub record RowFits (config : Config) (row : TableRow) : Type 0 where
  pub known : row.table < length config.tables
  pub suits : AllSuit (columns_at config.tables row.table) row.row.0

-- the values of a row's key, the line of a key, and the key of a row's record by its table and key
abbrev pub key_values : Config → ℕ → Row → List Value
key_values config table row = (key_of config.tables table row).0

abbrev pub key_fields : Config → ℕ → List Value → List Field
key_fields config table vs = row_fields (key_columns (columns_at config.tables table) (key_places config.tables table)) vs

abbrev pub record_key : Config → ℕ → List Value → List ℕ
record_key config table vs = codes "t/" ++ (encode_utf8_all (table_name config.tables table)
    ++ (codes "/" ++ written_line (key_fields config table vs)))

pub key_is : (config : Config) (row : TableRow) → (row_record config row).key ≡ record_key config row.table (key_values config row.table row.row)
key_is config row = refl

module _ (config : Config) (sound : IsSound config) where
  own_key : (table : ℕ) (row : Row) → AllSuit (columns_at config.tables table) row.0
      → AllSuit (key_columns (columns_at config.tables table) (key_places config.tables table)) (key_values config table row)
  own_key table row suit =
      key_suits (columns_at config.tables table) row.0 (key_places config.tables table) suit (key_within config.tables table sound.tables.keys)

  line_tells : (table : ℕ) (a b : Row) → AllSuit (columns_at config.tables table) a.0 → AllSuit (columns_at config.tables table) b.0
      → written_line (key_fields config table (key_values config table a)) ≡ written_line (key_fields config table (key_values config table b))
      → key_values config table a ≡ key_values config table b
  line_tells table a b suit also same =
      let columns = key_columns (columns_at config.tables table) (key_places config.tables table) in
      let one = own_key table a suit in
      let other = own_key table b also in
      same_values columns (key_values config table a) (key_values config table b) one other
      (same_fields (row_fields columns (key_values config table a)) (row_fields columns (key_values config table b))
      (fields_are columns (key_values config table a) one) (fields_are columns (key_values config table b) other)
      (fields_length columns (key_values config table a) one ∙ sym (fields_length columns (key_values config table b) other)) same)

  -- two rows of one table with one key
  pub record OneKey (x y : TableRow) : Type 0 where
    pub table : x.table ≡ y.table
    pub values : key_values config y.table x.row ≡ key_values config y.table y.row

  pub one_key : (x y : TableRow) → RowFits config x → RowFits config y → (row_record config x).key ≡ (row_record config y).key → OneKey x y
  one_key x y fit also same =
      let name = λ (def : TableDef). def.name in
      let halves = after_names (table_name config.tables x.table) (table_name config.tables y.table)
      (written_line (key_fields config x.table (key_values config x.table x.row)))
      (written_line (key_fields config y.table (key_values config y.table y.row)))
      (named_at name config.tables x.table sound.tables.named fit.known)
      (named_at name config.tables y.table sound.tables.named also.known)
      (append_cancel_left (codes "t/") _ _ same) in
      let table : x.table ≡ y.table = one_place name config.tables x.table y.table sound.tables.apart fit.known also.known halves.before in
      record {
        table = table;
        values = line_tells y.table x.row y.row
            (subst (λ t. AllSuit (columns_at config.tables t) x.row.0) table fit.suits) also.suits
            (subst (λ t. written_line (key_fields config t (key_values config t x.row))
            ≡ written_line (key_fields config y.table (key_values config y.table y.row))) table halves.after);
      }

  abbrev ranked : TableRow → ℕ → List Value → Ordering
  ranked z table vs = ordering_then (nat_cmp table z.table) (slice_cmp value_order vs (key_values config z.table z.row))

  tells : (x y z : TableRow) → OneKey x y → row_order config.tables x z ≡ row_order config.tables y z
  tells x y z one = ap (λ t. ranked z t (key_values config t x.row)) one.table ∙ ap (ranked z y.table) one.values

  then_first : (o p : Ordering) → ordering_then o p ≡ Equal → o ≡ Equal
  then_first Less p is = is
  then_first Equal p is = refl
  then_first Greater p is = is

  then_second : (o p : Ordering) → ordering_then o p ≡ Equal → o ≡ Equal → p ≡ Equal
  then_second o p is first = subst (λ q. ordering_then q p ≡ Equal) first is

  pub equal_values : (vs ws : List Value) → slice_cmp value_order vs ws ≡ Equal → vs ≡ ws
  equal_values [] [] is = refl
  equal_values [] (w ∷ ws) is = absurd (cc)
  equal_values (v ∷ vs) [] is = absurd (cc)
  equal_values (v ∷ vs) (w ∷ ws) is =
      let first = then_first (value_order v w) (slice_cmp value_order vs ws) is in
      ap (λ x. x ∷ vs) (one_value v w first)
      ∙ ap (λ xs. w ∷ xs) (equal_values vs ws (then_second (value_order v w) (slice_cmp value_order vs ws) is first))

  level : (x y : TableRow) → row_order config.tables x y ≡ Equal → (row_record config x).key ≡ (row_record config y).key
  level x y is =
      let first = then_first (nat_cmp x.table y.table) (slice_cmp value_order (key_values config x.table x.row) (key_values config y.table y.row)) is in
      let second = then_second (nat_cmp x.table y.table) (slice_cmp value_order (key_values config x.table x.row) (key_values config y.table y.row)) is first in
      ap (λ vs. record_key config x.table vs) (equal_values (key_values config x.table x.row) (key_values config y.table y.row) second)
      ∙ ap (λ t. record_key config t (key_values config y.table y.row)) (exact_unsigned x.table y.table first)

  pub rows_tell : Tells (row_record config) (row_order config.tables) (RowFits config)
  rows_tell = record {
    total = row_total config.tables;
    level = level;
    tells = λ x y z fit also same. tells x y z (one_key x y fit also same);
  }
