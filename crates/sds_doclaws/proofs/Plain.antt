-- The row of a change, as texts: its names and its fields, and that it has a written form.
use Rattle.std.proofs.Common.{◌≡◌, ℕ, zero, suc, ◌+◌, ◌*◌, ◌<◌, ◌≤◌, Bool, true, false, ◌==◌, List, [], ◌∷◌, length, map, Option, None, Some, option_map, refl, sym, ap, subst, ◌∙◌, arith, true≢false, All, AllPairs}
use Rattle.std.proofs.lemmas.Bool.Decides.{nat_tests}
use Rattle.std.proofs.lemmas.List.{length-map}
use Rattle.std.proofs.lemmas.List.Elements.{All-nil, All-cons}
use Rattle.std.proofs.lemmas.List.Kept.{AllPairs-cons}
use Rattle.std.proofs.lemmas.List.Sums.{sum_by-cons}
use Rattle.std.proofs.lemmas.Option.{get_or_from_slice_get}
use Rattle.std.specs.List.{sum_by, zip}
use Rattle.std.specs.Option.{option_map_or}
use Rattle.std.specs.Prelude.{IfSome, is_none, is_some, slice_get, unwrap_or}
use Rattle.std.specs.Str.{bytes_eq}
use Rattle.sds_value.specs.declared.kind.Value.{Value}
use Rattle.sds_value.specs.declared.row.DocRow.{DocRow}
use Rattle.sds_value.specs.declared.row.Event.{Event}
use Rattle.sds_value.specs.declared.row.Event.TheVariants.{Insert, Update, Delete}
use Rattle.sds_value.specs.declared.row.Field.{Field}
use Rattle.sds_value.specs.declared.row.Field.TheVariants.{Null}
use Rattle.sds_value.specs.declared.table.ColumnDef.{ColumnDef}
use Rattle.sds_value.specs.declared.table.TableDef.{TableDef}
use Rattle.sds_types.specs.declared.config.Config.{Config}
use Rattle.sds_types.specs.declared.row.Change.{Change}
use Rattle.sds_types.specs.declared.row.Row.{Row}
use Rattle.sds_batchtext.specs.Writable.{has_sides, is_old}
use Rattle.sds_trade.specs.rules.Places.{columns_at, column_name, key_places}
use Rattle.sds_trade.specs.rules.RoutedValues.{field_of}
use Rattle.sds_trade.specs.rules.Sides.{doc_of_change, field_at, fields_of, fields_or_none, key_fields_of}
use Rattle.sds_trade.specs.rules.Sound.{IsSound}
use Rattle.sds_trade.specs.rules.Tables.{IsRowOf, may_hold}
use Rattle.sds_trade.specs.sound.Tables.{AreColumns, HasSize, IsKey, width_of}
use Rattle.sds_trade.proofs.Lists.{all_head, all_tail, pairs_head, pairs_tail}
use Rattle.sds_history.specs.history.SoundParts.{IsChange, has_new, has_old}
use Rattle.sds_nodelaws.proofs.Held.{mapped}
use Rattle.sds_nodelaws.proofs.Items.{differs}
use Rattle.sds_nodelaws.proofs.Lists.{and_both, map_all, slice_all}
use Rattle.sds_doclaws.proofs.Rows.{AreShort, IsGood, IsName}
use Rattle.sds_doclaws.proofs.Sums.{Distinct, sum_most}
use Rattle.sds_doclaws.proofs.Values.{IsFit, Suits, held_suits, null_fits}
use Rattle.sds_doclaws.proofs.Weights.{cost, sum_of, total}

-- LISTS
pub same_count : (a b : ℕ) → a ≡ b → (a == b) ≡ true
same_count a b same = grind (arith, nat_tests, same)

pub record Stands {X : Type 0} (xs : List X) (place : ℕ) : Type 0 where
  pub one : X
  pub there : slice_get xs place ≡ Some one

pub stands : {X : Type 0} (xs : List X) (place : ℕ) → place < length xs → Stands xs place
stands [] place within = absurd (omega (arith, within))
stands (x ∷ xs) zero within = record { one = x; there = refl }
stands (x ∷ xs) (suc place) within = let later = stands xs place (omega (arith, within)) in record { one = later.one; there = later.there }

pub pairs_map : {X Y : Type 0} (R : Y → Y → Type 0) (f : X → Y) (xs : List X) → AllPairs (λ (a b : X). R (f a) (f b)) xs → AllPairs R (map f xs)
pairs_map R f [] are = λ i j d less within. absurd (omega (arith, within))
pairs_map {X} R f (x ∷ xs) are =
    AllPairs-cons R (f x) (map f xs) (map_all (R (f x)) f xs (pairs_head (λ (a b : X). R (f a) (f b)) x xs are))
    (pairs_map R f xs (pairs_tail (λ (a b : X). R (f a) (f b)) x xs are))

zip_length : {X Y : Type 0} (xs : List X) (ys : List Y) → length ys ≡ length xs → length (zip xs ys) ≡ length xs
zip_length [] ys same = refl
zip_length (x ∷ xs) [] same = absurd (cc)
zip_length (x ∷ xs) (y ∷ ys) same = ap suc (zip_length xs ys (omega (arith, same)))

-- FIELDS of a row of values: one for each column, each fit, and all together by the widths, which
-- are at most 16,000 in at most 64 columns: (4 * 16,000 + 67 * 64) / 3 bytes
pub record AreFields (names : List (List ℕ)) (fields : List Field) : Type 0 where
  pub whole : length fields ≡ length names
  pub fit : All IsFit fields
  pub narrow : total fields ≤ 22762

record Suit (columns : List ColumnDef) (fields : List Field) : Type 0 where
  fit : All IsFit fields
  narrow : 3 * total fields ≤ 4 * sum_of (λ (c : ColumnDef). width_of c.kind) columns + 67 * length columns

abbrev given_field : ColumnDef × Value → Field
given_field at = field_of at.0.kind at.1

fields_suit : (columns : List ColumnDef) (values : List Value) → All (λ (c : ColumnDef). HasSize c.kind) columns
    → All (λ (at : ColumnDef × Value). may_hold at.0 at.1 ≡ true) (zip columns values) → Suit columns (map given_field (zip columns values))
fields_suit [] values sized held = record { fit = All-nil IsFit; narrow = omega arith }
fields_suit (c ∷ cs) [] sized held = record { fit = All-nil IsFit; narrow = omega arith }
fields_suit (c ∷ cs) (v ∷ vs) sized held =
    let first : Suits c.kind (field_of c.kind v) = held_suits c v (all_head (λ (c : ColumnDef). HasSize c.kind) c cs sized)
    (all_head (λ (at : ColumnDef × Value). may_hold at.0 at.1 ≡ true) (c, v) (zip cs vs) held) in
    let rest = fields_suit cs vs (all_tail (λ (c : ColumnDef). HasSize c.kind) c cs sized)
    (all_tail (λ (at : ColumnDef × Value). may_hold at.0 at.1 ≡ true) (c, v) (zip cs vs) held) in
    record { fit = All-cons IsFit (field_of c.kind v) (map given_field (zip cs vs)) first.fit rest.fit; narrow = omega (arith, first.narrow, rest.narrow) }

width_sum : (columns : List ColumnDef) → sum_by (λ (c : ColumnDef). width_of c.kind) columns ≡ sum_of (λ (c : ColumnDef). width_of c.kind) columns
width_sum [] = refl
width_sum (c ∷ cs) = sum_by-cons (λ (x : ColumnDef). width_of x.kind) c cs ∙ ap (λ n. width_of c.kind + n) (width_sum cs)

pub fields_are : (columns : List ColumnDef) (row : Row) → AreColumns columns → IsRowOf columns row
    → AreFields (map (λ (c : ColumnDef). c.name) columns) (fields_of columns row)
fields_are columns row are is = record {
  whole = length-map (zip columns row.0) given_field ∙ (zip_length columns row.0 is.whole ∙ sym (length-map columns (λ (c : ColumnDef). c.name)));
  fit = suit.fit;
  narrow = on (total (fields_of columns row)) (sum_of (λ (c : ColumnDef). width_of c.kind) columns) (length columns) suit.narrow
      (subst (λ (n : ℕ). n ≤ 16000) (width_sum columns) are.narrow) are.few;
}
  where
    suit : Suit columns (map given_field (zip columns row.0))
    suit = fields_suit columns row.0 are.sized is.held

    on : (t w n : ℕ) → 3 * t ≤ 4 * w + 67 * n → w ≤ 16000 → n ≤ 64 → t ≤ 22762
    on t w n first second third = omega (arith, first, second, third)

-- NAMES of a table's columns and keys
columns_apart : (columns : List ColumnDef) → AreColumns columns → Distinct (map (λ (c : ColumnDef). c.name) columns)
columns_apart columns are = pairs_map (λ (a b : List ℕ). bytes_eq a b ≡ false) (λ (c : ColumnDef). c.name) columns
    (λ i j d less within. differs _ _ (are.apart i j d less within))

name_at : (columns : List ColumnDef) (place : ℕ) (c : ColumnDef) → slice_get columns place ≡ Some c → column_name columns place ≡ c.name
name_at columns place c is = ap (λ o. option_map_or (λ (column : ColumnDef). column.name) o []) is

key_name : (columns : List ColumnDef) (place : ℕ) → AreColumns columns → place < length columns → IsName (column_name columns place)
key_name columns place are within =
    let at = stands columns place within in
    subst IsName (sym (name_at columns place at.one at.there)) (slice_all (λ (c : ColumnDef). IsName c.name) columns place at.one are.named at.there)

key_differs : (columns : List ColumnDef) (p q : ℕ) → AreColumns columns → p < q → q < length columns → bytes_eq (column_name columns p) (column_name columns q) ≡ false
key_differs columns p q are less within =
    let a = stands columns p (omega (arith, less, within)) in
    let b = stands columns q within in
    differs (column_name columns p) (column_name columns q) (λ same. are.apart p q a.one less within
    (ap (λ (c : ColumnDef). c.name) (get_or_from_slice_get columns p a.one a.one a.there)
    ∙ (sym (name_at columns p a.one a.there) ∙ (same ∙ (name_at columns q b.one b.there ∙ sym (ap (λ (c : ColumnDef). c.name) (get_or_from_slice_get columns q b.one a.one b.there)))))))

keys_apart : (columns : List ColumnDef) (key : List ℕ) → AreColumns columns → AllPairs (λ (a b : ℕ). a < b) key → All (λ (place : ℕ). place < length columns) key
    → AllPairs (λ (a b : ℕ). bytes_eq (column_name columns a) (column_name columns b) ≡ false) key
keys_apart columns key are ascend within i j d less inside =
    key_differs columns _ _ are (ascend i j d less inside) (within j d inside)

-- DOCUMENTS. The old values where they are given
pub record HasOld (doc : DocRow) : Type 0 where
  pub values : List Field
  pub given : doc.old ≡ Some values
  pub are : AreFields doc.columns values

-- what holds of the row of a change, as texts
pub record IsDoc (doc : DocRow) : Type 0 where
  pub table : IsName doc.table
  pub keys : All IsName doc.keys
  pub some_key : 1 ≤ length doc.keys
  pub few_keys : length doc.keys ≤ 64
  pub keys_apart : Distinct doc.keys
  pub columns : All IsName doc.columns
  pub some_column : 1 ≤ length doc.columns
  pub few_columns : length doc.columns ≤ 64
  pub columns_apart : Distinct doc.columns
  pub new : has_new doc.event ≡ true → AreFields doc.columns doc.new
  pub no_new : has_new doc.event ≡ false → doc.new ≡ []
  pub old : has_old doc.event ≡ true → HasOld doc
  pub no_old : has_old doc.event ≡ false → doc.old ≡ None
  pub key : All IsFit doc.key
  pub whole_key : has_old doc.event ≡ true → length doc.key ≡ length doc.keys
  pub no_key : has_old doc.event ≡ false → doc.key ≡ []

-- it has a written form as it is
pub plain_good : (doc : DocRow) → IsDoc doc → IsGood doc
plain_good doc is = record {
  table = is.table;
  keys = is.keys;
  some_key = is.some_key;
  few_keys = more (length doc.keys) is.few_keys;
  columns = is.columns;
  some_column = is.some_column;
  few_columns = more (length doc.columns) is.few_columns;
  sides = sides_by doc.event refl;
  new = new_by (has_new doc.event) refl;
  key = is.key;
  old = old_by (has_old doc.event) refl;
  short = sum (total doc.new) (total doc.key) (length doc.key) (length doc.keys) (new_total (has_new doc.event) refl)
      (sum_most cost doc.key (mapped IsFit (λ (f : Field). cost f ≤ 8003) doc.key (λ f fit. fit.short) is.key)) (key_count (has_old doc.event) refl) is.few_keys;
  short_old = old_total (has_old doc.event) refl;
}
  where
    more : (n : ℕ) → n ≤ 64 → n ≤ 128
    more n few = omega (arith, few)

    sum : (a b n k : ℕ) → a ≤ 22762 → b ≤ 8003 * n → n ≤ k → k ≤ 64 → a + b ≤ 1048500
    sum a b n k first second third few = omega (arith, first, second, third, few)

    event_new : (e : Event) → doc.event ≡ e → has_new doc.event ≡ has_new e
    event_new e same = ap has_new same

    event_old : (e : Event) → doc.event ≡ e → has_old doc.event ≡ has_old e
    event_old e same = ap has_old same

    none : {X : Type 0} (o : Option X) → o ≡ None → is_none o ≡ true
    none o gone = ap is_none gone

    old_whole : (has : HasOld doc) → is_old doc.old doc.columns ≡ true
    old_whole has = subst (λ (o : Option (List Field)). is_old o doc.columns ≡ true) (sym has.given) (same_count (length has.values) (length doc.columns) has.are.whole)

    sides_by : (e : Event) → doc.event ≡ e → has_sides doc.event doc ≡ true
    sides_by Insert same = subst (λ (e : Event). has_sides e doc ≡ true) (sym same)
        (and_both _ _ (same_count (length doc.new) (length doc.columns) (is.new (event_new Insert same)).whole)
        (and_both _ _ (same_count (length doc.key) 0 (ap length (is.no_key (event_old Insert same)))) (none doc.old (is.no_old (event_old Insert same)))))
    sides_by Update same = subst (λ (e : Event). has_sides e doc ≡ true) (sym same)
        (and_both _ _ (same_count (length doc.new) (length doc.columns) (is.new (event_new Update same)).whole)
        (and_both _ _ (same_count (length doc.key) (length doc.keys) (is.whole_key (event_old Update same))) (old_whole (is.old (event_old Update same)))))
    sides_by Delete same = subst (λ (e : Event). has_sides e doc ≡ true) (sym same)
        (and_both _ _ (same_count (length doc.new) 0 (ap length (is.no_new (event_new Delete same))))
        (and_both _ _ (same_count (length doc.key) (length doc.keys) (is.whole_key (event_old Delete same))) (old_whole (is.old (event_old Delete same)))))

    new_by : (b : Bool) → has_new doc.event ≡ b → All IsFit doc.new
    new_by true has = (is.new has).fit
    new_by false has = subst (All IsFit) (sym (is.no_new has)) (All-nil IsFit)

    new_total : (b : Bool) → has_new doc.event ≡ b → total doc.new ≤ 22762
    new_total true has = (is.new has).narrow
    new_total false has = subst (λ (fields : List Field). total fields ≤ 22762) (sym (is.no_new has)) (omega arith)

    old_by : (b : Bool) → has_old doc.event ≡ b → IfSome doc.old (All IsFit)
    old_by true has = subst (λ (o : Option (List Field)). IfSome o (All IsFit)) (sym (is.old has).given) (is.old has).are.fit
    old_by false has = subst (λ (o : Option (List Field)). IfSome o (All IsFit)) (sym (is.no_old has)) tt

    wide : (n : ℕ) → n ≤ 22762 → n ≤ 1048500
    wide n less = omega (arith, less)

    old_total : (b : Bool) → has_old doc.event ≡ b → IfSome doc.old AreShort
    old_total true has = subst (λ (o : Option (List Field)). IfSome o AreShort) (sym (is.old has).given) (wide (total (is.old has).values) (is.old has).are.narrow)
    old_total false has = subst (λ (o : Option (List Field)). IfSome o AreShort) (sym (is.no_old has)) tt

    same_most : (a b : ℕ) → a ≡ b → a ≤ b
    same_most a b same = omega (arith, same)

    least : (n : ℕ) → 0 ≤ n
    least n = omega arith

    key_count : (b : Bool) → has_old doc.event ≡ b → length doc.key ≤ length doc.keys
    key_count true has = same_most (length doc.key) (length doc.keys) (is.whole_key has)
    key_count false has = subst (λ (fields : List Field). length fields ≤ length doc.keys) (sym (is.no_key has)) (least (length doc.keys))

-- the row of a change is such a one
field_fit : (fields : List Field) (place : ℕ) → All IsFit fields → IsFit (field_at fields place)
field_fit fields place are = on (slice_get fields place) refl
  where
    on : (found : Option Field) → slice_get fields place ≡ found → IsFit (unwrap_or found Null)
    on None is = null_fits
    on (Some f) is = slice_all IsFit fields place f are is

is_gone : {X : Type 0} (o : Option X) → is_some o ≡ false → o ≡ None
is_gone None is = refl
is_gone (Some x) is = absurd (true≢false is)

pub record IsThere {X : Type 0} (o : Option X) : Type 0 where
  pub one : X
  pub is : o ≡ Some one

is_there : {X : Type 0} (o : Option X) → is_some o ≡ true → IsThere o
is_there None is = absurd (true≢false (sym is))
is_there (Some x) is = record { one = x; is = refl }

if_some : {X : Type 0} (P : X → Type 0) (o : Option X) (x : X) → o ≡ Some x → IfSome o P → P x
if_some {X} P o x is are = subst (λ (p : Option X). IfSome p P) is are

pub change_doc : (config : Config) (change : Change) → IsSound config → IsChange config change → IsDoc (doc_of_change config.tables change)
change_doc config change sound is = record {
  table = subst IsName (sym (ap (λ o. option_map_or (λ (d : TableDef). d.name) o []) at.there))
      (slice_all (λ (d : TableDef). IsName d.name) config.tables change.table at.one sound.tables.named at.there);
  keys = map_all IsName (column_name columns) places (mapped (λ (place : ℕ). place < length columns) (λ (place : ℕ). IsName (column_name columns place)) places
      (λ place within. key_name columns place are within) key.within);
  some_key = subst (λ (n : ℕ). 1 ≤ n) (sym (length-map places (column_name columns))) key.some;
  few_keys = subst (λ (n : ℕ). n ≤ 64) (sym (length-map places (column_name columns))) key.few;
  keys_apart = pairs_map (λ (a b : List ℕ). bytes_eq a b ≡ false) (column_name columns) places (keys_apart columns places are key.ascends key.within);
  columns = map_all IsName (λ (c : ColumnDef). c.name) columns are.named;
  some_column = subst (λ (n : ℕ). 1 ≤ n) (sym (length-map columns (λ (c : ColumnDef). c.name))) (some_column places key.some key.within);
  few_columns = subst (λ (n : ℕ). n ≤ 64) (sym (length-map columns (λ (c : ColumnDef). c.name))) are.few;
  columns_apart = columns_apart columns are;
  new = λ has. let new = is_there change.new (is.new ∙ has) in
      subst (λ (o : Option Row). AreFields (map (λ (c : ColumnDef). c.name) columns) (fields_or_none columns o)) (sym new.is)
      (fields_are columns new.one are (if_some (IsRowOf columns) change.new new.one new.is is.new_row));
  no_new = λ has. ap (fields_or_none columns) (is_gone change.new (is.new ∙ has));
  old = λ has. let old = is_there change.old (is.old ∙ has) in record {
    values = fields_of columns old.one;
    given = ap (option_map (fields_of columns)) old.is;
    are = fields_are columns old.one are (if_some (IsRowOf columns) change.old old.one old.is is.old_row);
  };
  no_old = λ has. ap (option_map (fields_of columns)) (is_gone change.old (is.old ∙ has));
  key = key_fit change.old is.old_row;
  whole_key = λ has. let old = is_there change.old (is.old ∙ has) in
      ap (λ o. length (key_fields_of config.tables change.table o)) old.is
      ∙ (length-map places (field_at (fields_of columns old.one)) ∙ sym (length-map places (column_name columns)));
  no_key = λ has. ap (key_fields_of config.tables change.table) (is_gone change.old (is.old ∙ has));
}
  where
    at : Stands config.tables change.table
    at = stands config.tables change.table is.table

    columns : List ColumnDef
    columns = columns_at config.tables change.table

    places : List ℕ
    places = key_places config.tables change.table

    are : AreColumns columns
    are = subst AreColumns (sym (ap (λ o. option_map_or (λ (d : TableDef). d.columns) o []) at.there))
        (slice_all (λ (d : TableDef). AreColumns d.columns) config.tables change.table at.one sound.tables.columns at.there)

    key : IsKey columns places
    key = subst (λ (o : Option TableDef). IsKey (option_map_or (λ (d : TableDef). d.columns) o []) (option_map_or (λ (d : TableDef). d.key) o [])) (sym at.there)
        (slice_all (λ (d : TableDef). IsKey d.columns d.key) config.tables change.table at.one sound.tables.keys at.there)

    some_column : (ps : List ℕ) → 1 ≤ length ps → All (λ (place : ℕ). place < length columns) ps → 1 ≤ length columns
    some_column [] some within = absurd (omega (arith, some))
    some_column (p ∷ ps) some within = omega (arith, all_head (λ (place : ℕ). place < length columns) p ps within)

    key_fit : (o : Option Row) → IfSome o (IsRowOf columns) → All IsFit (key_fields_of config.tables change.table o)
    key_fit None held = All-nil IsFit
    key_fit (Some row) held =
        let fields = fields_are columns row are held in
        map_all IsFit (field_at (fields_of columns row)) places (λ k d within. field_fit (fields_of columns row) _ fields.fit)
