-- A row that was read gives values that suit its columns, and what it makes of a row that stands fits its table.
use Rattle.std.proofs.Common.{◌≡◌, ℕ, zero, suc, ◌+◌, ◌<◌, ◌==◌, Bool, true, false, cond, List, [], ◌∷◌, length, map, Option, None, Some, refl, sym, ap, subst, ◌∙◌, arith, true≢false, find, not, ◌||◌, ◌&&◌, All, ℤ}
use Rattle.std.specs.List.{enumerate_from, list_any, zip}
use Rattle.std.specs.Option.{option_map_or}
use Rattle.std.specs.Prelude.{if◌then◌else◌, min, slice_get, unwrap_or, nat_le, Result, Ok, Err}
use Rattle.std.specs.Result.{result_unwrap_or}
use Rattle.std.specs.Str.{all_scalars}
use Rattle.std.proofs.lemmas.List.{length-map}
use Rattle.std.proofs.lemmas.List.Elements.{All-nil, All-cons}
use Rattle.std.proofs.lemmas.List.FromFn.{length-enumerate_from}
use Rattle.std.proofs.lemmas.List.Sums.{AllPass-from_list_all}
use Rattle.std.proofs.lemmas.Slice.Zip.{length-zip}
use Rattle.sds_value.specs.Decimals.{is_decimal_text, decimal_value}
use Rattle.sds_value.specs.Values.{fits, has_zero, integer_value, is_in_range, is_integer_text, value_of}
use Rattle.sds_value.specs.declared.kind.Binary.{Binary}
use Rattle.sds_value.specs.declared.kind.Kind.{Kind}
use Rattle.sds_value.specs.declared.kind.Kind.TheVariants as kind
use Rattle.sds_value.specs.declared.kind.Value.{Value}
use Rattle.sds_value.specs.declared.kind.Value.TheVariants as value
use Rattle.sds_value.specs.declared.refusal.ValueRefusal.{ValueRefusal}
use Rattle.sds_value.specs.declared.refusal.ValueRefusal.TheVariants.{BadText, TooLong, OutOfRange}
use Rattle.sds_value.specs.declared.row.Field.{Field}
use Rattle.sds_value.specs.declared.row.Field.TheVariants as field
use Rattle.sds_value.specs.declared.table.ColumnDef.{ColumnDef}
use Rattle.sds_value.specs.declared.table.TableDef.{TableDef}
use Rattle.sds_value.proofs.Bytes.{binary_fits}
use Rattle.sds_value.proofs.Fitting.{value_fits}
use Rattle.sds_value.proofs.Lasting.{stamp_fits}
use Rattle.sds_types.specs.declared.load_row.Addend.{Addend}
use Rattle.sds_types.specs.declared.load_row.LoadRow.{LoadRow}
use Rattle.sds_types.specs.declared.row.Row.{Row}
use Rattle.sds_line.specs.Written.{is_field}
use Rattle.sds_trade.proofs.Lists.{all_head, all_tail}
use Rattle.sds_trade.specs.rules.Fitting.{FitsRow, Suits}
use Rattle.sds_trade.specs.rules.LoadRows.{value_for, value_in}
use Rattle.sds_trade.specs.rules.Places.{columns_at, key_places}
use Rattle.sds_trade.specs.rules.RowValues.{gives, given_or, is_added, key_alone, new_key, new_value, put_value, put_values, sum_at, sum_value, sums_fit}
use Rattle.sds_trade.specs.rules.Tables.{IsRowOf, is_null, may_hold, value_at}
use Rattle.sds_trade.specs.sound.TransformColumns.{is_number}
use Rattle.sds_nodelaws.specs.Asked.{is_spelt}
use Rattle.sds_nodelaws.proofs.Held.{mapped}
use Rattle.sds_nodelaws.proofs.Lists.{and_left, any_gives, find_all, find_passes}
use Rattle.sds_nodelaws.proofs.Tests.{or_left, or_right, same_number}

-- VALUES that are read are of their column's kind, within its limits, where their texts are made of characters
number_fits : (k : Kind) (make : ℤ → Value) (z : ℤ) (made : Value) → fits k (make z) ≡ is_in_range z → (form inside : Bool) → is_in_range z ≡ inside
    → (if form then (if inside then Ok (make z) else Err OutOfRange) else Err BadText) ≡ Ok made → fits k made ≡ true
number_fits k make z made same true true is reads = let one : make z ≡ made = cc in subst (λ v. fits k v ≡ true) one (same ∙ is)
number_fits k make z made same true false is reads = absurd (cc)
number_fits k make z made same false inside is reads = absurd (cc)

text_is : (n : ℕ) (text : List ℕ) (made : Value) (none short : Bool)
    → (if none then Err BadText else (if short then Ok (value.Text text) else Err TooLong)) ≡ Ok made → value.Text text ≡ made
text_is n text made true short reads = absurd (cc)
text_is n text made false true reads = cc
text_is n text made false false reads = absurd (cc)

spelt_fits : (k : Kind) (form : Binary) (text : List ℕ) (made : Value) → value_of k form text ≡ Ok made → is_spelt made ≡ true → fits k made ≡ true
spelt_fits kind.Integer form text made reads spelt =
    number_fits kind.Integer value.Integer (integer_value text) made refl (is_integer_text text) (is_in_range (integer_value text)) refl reads
spelt_fits (kind.Decimal s) form text made reads spelt =
    number_fits (kind.Decimal s) value.Decimal (decimal_value s text) made refl (is_decimal_text s text) (is_in_range (decimal_value s text)) refl reads
spelt_fits (kind.Varchar n) form text made reads spelt =
    value_fits (kind.Varchar n) form text made
    (subst (λ v. is_spelt v ≡ true) (sym (text_is n text made (has_zero text) (nat_le (length text) n) reads)) spelt) reads
spelt_fits kind.Timestamp form text made reads spelt = stamp_fits text made reads
spelt_fits (kind.Varbinary n) form text made reads spelt = binary_fits n form text made reads

pub value_suits : (form : Binary) (column : ColumnDef) (f : Field) → is_spelt (value_in form column f) ≡ true → Suits (column, value_in form column f)
value_suits form column field.Null spelt = refl
value_suits form column (field.Text text) spelt = on (value_of column.kind form text) refl spelt
  where
    on : (r : Result Value ValueRefusal) → value_of column.kind form text ≡ r → is_spelt (result_unwrap_or r value.Null) ≡ true
        → Suits (column, result_unwrap_or r value.Null)
    on (Ok made) reads is = or_right (is_null made) (fits column.kind made) (spelt_fits column.kind form text made reads is)
    on (Err why) reads is = refl

fits_spelt : (k : Kind) (made : Value) → fits k made ≡ true → is_spelt made ≡ true
fits_spelt (kind.Varchar n) (value.Text text) is = and_left (all_scalars text) (not (has_zero text) && nat_le (length text) n) is
fits_spelt kind.Integer (value.Text text) is = absurd (true≢false (sym is))
fits_spelt (kind.Decimal s) (value.Text text) is = absurd (true≢false (sym is))
fits_spelt kind.Timestamp (value.Text text) is = absurd (true≢false (sym is))
fits_spelt (kind.Varbinary n) (value.Text text) is = absurd (true≢false (sym is))
fits_spelt k value.Null is = refl
fits_spelt k (value.Integer z) is = refl
fits_spelt k (value.Decimal z) is = refl
fits_spelt k (value.Stamp day nano) is = refl
fits_spelt k (value.Bin bytes) is = refl

-- and those of fields are
pub field_spelt : (form : Binary) (column : ColumnDef) (f : Field) → is_field f ≡ true → is_spelt (value_in form column f) ≡ true
field_spelt form column field.Null is = refl
field_spelt form column (field.Text text) is = on (value_of column.kind form text) refl
  where
    on : (r : Result Value ValueRefusal) → value_of column.kind form text ≡ r → is_spelt (result_unwrap_or r value.Null) ≡ true
    on (Ok made) reads = fits_spelt column.kind made (value_fits column.kind form text made is reads)
    on (Err why) reads = refl

-- A ROW THAT IS READ: its values suit the columns at their places, and it adds to columns of numbers
abbrev pub SuitsAt : List ColumnDef → ℕ × Value → Type 0
SuitsAt columns at = (column : ColumnDef) → slice_get columns at.0 ≡ Some column → Suits (column, at.1)

abbrev pub NumberAt : List ColumnDef → ℕ → Type 0
NumberAt columns place = (column : ColumnDef) → slice_get columns place ≡ Some column → is_number column.kind ≡ true

pub record IsRead (defs : List TableDef) (row : LoadRow) : Type 0 where
  pub there : row.table < length defs
  pub new : All (SuitsAt (columns_at defs row.table)) (zip row.columns row.new)
  pub key : All (SuitsAt (columns_at defs row.table)) (zip (key_places defs row.table) row.key.0)
  pub adds : All (λ (addend : Addend). NumberAt (columns_at defs row.table) addend.column) row.adds

value_for_suits : (columns : List ColumnDef) (values : List (ℕ × Value)) (place : ℕ) (column : ColumnDef) → All (SuitsAt columns) values
    → slice_get columns place ≡ Some column → Suits (column, value_for values place)
value_for_suits columns values place column are at = on (find (λ (other : ℕ × Value). other.0 == place) values) refl
  where
    on : (found : Option (ℕ × Value)) → find (λ (other : ℕ × Value). other.0 == place) values ≡ found
        → Suits (column, option_map_or (λ (other : ℕ × Value). other.1) found value.Null)
    on None is = refl
    on (Some other) is =
        find_all (SuitsAt columns) (λ (one : ℕ × Value). one.0 == place) values other are is column
        (ap (slice_get columns) (same_number other.0 place (find_passes (λ (one : ℕ × Value). one.0 == place) values other is)) ∙ at)

-- THE SUMS on the columns that it adds to
abbrev pub SumsFit : LoadRow → List Value → Type 0
SumsFit row values = (place : ℕ) (kept : Value) → slice_get values place ≡ Some kept → is_added row place ≡ true
    → is_in_range (sum_at row place kept) ≡ true

pub sums_are : (row : LoadRow) (values : List Value) → sums_fit row values ≡ true → SumsFit row values
sums_are row values fit place kept at added =
    any_gives (λ (addend : Addend). addend.column == place)
    (λ (addend : Addend). is_in_range (sum_at row addend.column (value_at values addend.column)) ≡ true) row.adds added
    (AllPass-from_list_all (λ (addend : Addend). is_in_range (sum_at row addend.column (value_at values addend.column))) row.adds fit)
    (λ addend here is.
    subst (λ v. is_in_range (sum_at row place v) ≡ true) (ap (λ (o : Option Value). unwrap_or o value.Null) at)
    (subst (λ p. is_in_range (sum_at row p (value_at values p)) ≡ true) (same_number addend.column place here) is))

pub no_sums : (row : LoadRow) (values : List Value) → row.adds ≡ [] → SumsFit row values
no_sums row values none place kept at added =
    absurd (true≢false (sym added ∙ ap (λ (adds : List Addend). list_any (λ (addend : Addend). addend.column == place) adds) none))

-- THE ROW IT MAKES. A column's value is the given one, the sum, or the one that stands
sum_suits : (column : ColumnDef) (sum : ℤ) → is_number column.kind ≡ true → is_in_range sum ≡ true → Suits (column, sum_value column.kind sum)
sum_suits column sum number inside = on column.kind number
  where
    on : (k : Kind) → is_number k ≡ true → (is_null (sum_value k sum) || fits k (sum_value k sum)) ≡ true
    on kind.Integer is = inside
    on (kind.Decimal s) is = inside
    on (kind.Varchar n) is = absurd (true≢false (sym is))
    on kind.Timestamp is = absurd (true≢false (sym is))
    on (kind.Varbinary n) is = absurd (true≢false (sym is))

module _ (defs : List TableDef) (row : LoadRow) (read : IsRead defs row) where
  abbrev columns : List ColumnDef
  columns = columns_at defs row.table

  put_suits : (place : ℕ) (column : ColumnDef) (kept : Value) → slice_get columns place ≡ Some column → Suits (column, kept)
      → (is_added row place ≡ true → is_in_range (sum_at row place kept) ≡ true) → Suits (column, put_value row (place, column) kept)
  put_suits place column kept at suits sums = on (gives row place) (is_added row place) refl
    where
      added : is_added row place ≡ true → is_number column.kind ≡ true
      added is =
          any_gives (λ (addend : Addend). addend.column == place) (λ (addend : Addend). NumberAt columns addend.column) row.adds is read.adds
          (λ addend here number. number column (ap (slice_get columns) (same_number addend.column place here) ∙ at))

      on : (given adds : Bool) → is_added row place ≡ adds
          → Suits (column, cond given (new_value row place) (cond adds (sum_value column.kind (sum_at row place kept)) kept))
      on true adds is = value_for_suits columns (zip row.columns row.new) place column read.new at
      on false true is = sum_suits column (sum_at row place kept) (added is) (sums is)
      on false false is = suits

  -- columns that stand in the table from a place on
  abbrev From : ℕ → List ColumnDef → Type 0
  From n some = (i : ℕ) (column : ColumnDef) → slice_get some i ≡ Some column → slice_get columns (n + i) ≡ Some column

  from_next : (n : ℕ) (c : ColumnDef) (cs : List ColumnDef) → From n (c ∷ cs) → From (n + 1) cs
  from_next n c cs from i column is = subst (λ k. slice_get columns k ≡ Some column) (next n i) (from (suc i) column is)
    where
      next : (m j : ℕ) → m + suc j ≡ (m + 1) + j
      next m j = omega arith

  from_here : (n : ℕ) (c : ColumnDef) (cs : List ColumnDef) → From n (c ∷ cs) → slice_get columns n ≡ Some c
  from_here n c cs from = subst (λ k. slice_get columns k ≡ Some c) (here n) (from zero c refl)
    where
      here : (m : ℕ) → m + zero ≡ m
      here m = omega arith

  from_start : From 0 columns
  from_start i column is = subst (λ k. slice_get columns k ≡ Some column) (start i) is
    where
      start : (j : ℕ) → j ≡ 0 + j
      start j = omega arith

  abbrev put : (ℕ × ColumnDef) × Value → Value
  put at = put_value row at.0 at.1

  put_each : (n : ℕ) (some : List ColumnDef) (values : List Value) → From n some → All Suits (zip some values)
      → ((i : ℕ) (kept : Value) → slice_get values i ≡ Some kept → is_added row (n + i) ≡ true → is_in_range (sum_at row (n + i) kept) ≡ true)
      → All Suits (zip some (map put (zip (enumerate_from n some) values)))
  put_each n [] values from suits sums = All-nil Suits
  put_each n (c ∷ cs) [] from suits sums = All-nil Suits
  put_each n (c ∷ cs) (v ∷ vs) from suits sums =
      All-cons Suits (c, put_value row (n, c) v) (zip cs (map put (zip (enumerate_from (n + 1) cs) vs)))
      (put_suits n c v (from_here n c cs from) (all_head Suits (c, v) (zip cs vs) suits)
      (subst (λ k. is_added row k ≡ true → is_in_range (sum_at row k v) ≡ true) (here n) (sums zero v refl)))
      (put_each (n + 1) cs vs (from_next n c cs from) (all_tail Suits (c, v) (zip cs vs) suits)
      (λ i kept is. subst (λ k. is_added row k ≡ true → is_in_range (sum_at row k kept) ≡ true) (next n i) (sums (suc i) kept is)))
    where
      here : (m : ℕ) → m + zero ≡ m
      here m = omega arith

      next : (m j : ℕ) → m + suc j ≡ (m + 1) + j
      next m j = omega arith

  pub put_fits : (values : List Value) → length values ≡ length columns → All Suits (zip columns values) → SumsFit row values
      → FitsRow defs row.table (put_values defs row values)
  put_fits values whole suits sums = record {
    whole = length-map (zip (enumerate_from 0 columns) values) put
        ∙ (length-zip (enumerate_from 0 columns) values ∙ least (length (enumerate_from 0 columns)) (length values) (length columns) (length-enumerate_from 0 columns) whole);
    each = put_each 0 columns values from_start suits
        (λ i kept is added. subst (λ k. is_in_range (sum_at row k kept) ≡ true) (start i) (sums i kept is (subst (λ k. is_added row k ≡ true) (sym (start i)) added)));
  }
    where
      start : (j : ℕ) → j ≡ 0 + j
      start j = omega arith

      least : (a b c : ℕ) → a ≡ c → b ≡ c → min a b ≡ c
      least a b c first second = omega (arith, first, second)

  -- the key after the step, and the values that an insert begins with
  given_each : (places : List ℕ) (values : List Value) → All (SuitsAt columns) (zip places values)
      → All (SuitsAt columns) (zip places (map (given_or row) (zip places values)))
  given_each [] values are = All-nil (SuitsAt columns)
  given_each (place ∷ places) [] are = All-nil (SuitsAt columns)
  given_each (place ∷ places) (v ∷ vs) are =
      All-cons (SuitsAt columns) (place, given_or row (place, v)) (zip places (map (given_or row) (zip places vs)))
      (λ column at. one column at (gives row place))
      (given_each places vs (all_tail (SuitsAt columns) (place, v) (zip places vs) are))
    where
      one : (column : ColumnDef) → slice_get columns place ≡ Some column → (given : Bool) → Suits (column, cond given (new_value row place) v)
      one column at true = value_for_suits columns (zip row.columns row.new) place column read.new at
      one column at false = all_head (SuitsAt columns) (place, v) (zip places vs) are column at

  alone_each : (n : ℕ) (some : List ColumnDef) (values : List (ℕ × Value)) → From n some → All (SuitsAt columns) values
      → All Suits (zip some (map (λ (at : ℕ × ColumnDef). value_for values at.0) (enumerate_from n some)))
  alone_each n [] values from are = All-nil Suits
  alone_each n (c ∷ cs) values from are =
      All-cons Suits (c, value_for values n) (zip cs (map (λ (at : ℕ × ColumnDef). value_for values at.0) (enumerate_from (n + 1) cs)))
      (value_for_suits columns values n c are (from_here n c cs from)) (alone_each (n + 1) cs values (from_next n c cs from) are)

  pub inserted_fits : SumsFit row (key_alone defs row) → FitsRow defs row.table (put_values defs row (key_alone defs row))
  inserted_fits sums =
      put_fits (key_alone defs row)
      (length-map (enumerate_from 0 columns) (λ (at : ℕ × ColumnDef). value_for (zip (key_places defs row.table) (new_key defs row).0) at.0) ∙ length-enumerate_from 0 columns)
      (alone_each 0 columns (zip (key_places defs row.table) (new_key defs row).0) from_start (given_each (key_places defs row.table) row.key.0 read.key)) sums

  pub updated_fits : (kept : Row) → IsRowOf columns kept → SumsFit row kept.0 → FitsRow defs row.table (put_values defs row kept.0)
  updated_fits kept is sums =
      put_fits kept.0 is.whole
      (mapped (λ (at : ColumnDef × Value). may_hold at.0 at.1 ≡ true) Suits (zip columns kept.0) (λ at held. suits at.0 at.1 (is_null at.1) refl held) is.held) sums
    where
      suits : (column : ColumnDef) (v : Value) (null : Bool) → is_null v ≡ null → elim null [ true ↦ not column.not_null | false ↦ fits column.kind v ] ≡ true
          → (is_null v || fits column.kind v) ≡ true
      suits column v true null held = or_left (is_null v) (fits column.kind v) null
      suits column v false null held = or_right (is_null v) (fits column.kind v) held
