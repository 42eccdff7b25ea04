-- Rows of texts that are read for their tables: own rows, and those that the rows of a batch become.
use Rattle.std.proofs.Common.{◌≡◌, ◌≢◌, ℕ, zero, suc, ◌<◌, true, List, [], ◌∷◌, length, map, drop, get_or, Option, None, Some, refl, sym, ap, subst, ◌∙◌, true≢false, filter_map, find, not, ◌&&◌, All, AllPairs}
use Rattle.std.specs.List.{cons_option, list_all, zip}
use Rattle.std.specs.Option.{option_map_or}
use Rattle.std.specs.Prelude.{is_some, option_and_then, slice_get, unwrap_or, Ok}
use Rattle.std.specs.Str.{bytes_eq}
use Rattle.std.proofs.lemmas.List.Elements.{All-nil, All-cons, All-drop, All-take}
use Rattle.std.proofs.lemmas.List.Quantifiers.{position-Some}
use Rattle.std.proofs.lemmas.Option.{get_or_from_slice_get}
use Rattle.sds_value.specs.declared.kind.Binary.{Binary}
use Rattle.sds_value.specs.declared.kind.Binary.TheVariants.{Base64}
use Rattle.sds_value.specs.declared.kind.Value.{Value}
use Rattle.sds_value.specs.declared.kind.Value.TheVariants as value
use Rattle.sds_value.specs.declared.row.DocRow.{DocRow}
use Rattle.sds_value.specs.declared.row.Event.{Event}
use Rattle.sds_value.specs.declared.row.Event.TheVariants as event
use Rattle.sds_value.specs.declared.row.Field.{Field}
use Rattle.sds_value.specs.declared.row.Field.TheVariants as field
use Rattle.sds_value.specs.declared.table.ColumnDef.{ColumnDef}
use Rattle.sds_value.specs.declared.table.TableDef.{TableDef}
use Rattle.sds_types.specs.declared.load_row.Addend.{Addend}
use Rattle.sds_types.specs.declared.load_row.LoadRow.{LoadRow}
use Rattle.sds_types.specs.declared.rule.Rule.{Rule}
use Rattle.sds_types.specs.declared.transform.Add.{Add}
use Rattle.sds_types.specs.declared.tx_row.TxRow.{TxRow}
use Rattle.sds_line.specs.Written.{are_fields, is_field}
use Rattle.sds_trade.proofs.Lists.{all_head, all_tail, none_found, pairs_head, pairs_tail}
use Rattle.sds_trade.proofs.ReferenceLaws.{not_false}
use Rattle.sds_trade.specs.rules.DocRows.{are_columns, counts_fit, doc_columns, doc_table, field_in, key_fields, names_fit}
use Rattle.sds_trade.specs.rules.LoadRows.{addend_of, by_rule, named_value, plain_row, row_of, told_key, value_in, values_in, with_adds}
use Rattle.sds_trade.specs.rules.OwnWrites.{doc_of, every_other, own_doc}
use Rattle.sds_trade.specs.rules.Places.{column_name, column_named, column_place, columns_at, is_among, key_names, key_places, table_place}
use Rattle.sds_trade.specs.rules.TextRules.{broken_text_rule, text_breaks, text_rules}
use Rattle.sds_trade.specs.rules.Fitting.{Suits}
use Rattle.sds_trade.specs.sound.Tables.{AreColumns, AreTableDefs}
use Rattle.sds_nodelaws.specs.Asked.{is_spelt, is_spelt_row}
use Rattle.sds_nodelaws.proofs.Items.{equal}
use Rattle.sds_nodelaws.proofs.KeyedLists.{pairs_nil, position_within}
use Rattle.sds_nodelaws.proofs.Lists.{and_both, and_left, and_right, find_all, map_all, no_some, same_some, slice_all}
use Rattle.sds_nodelaws.proofs.ReadValues.{IsRead, NumberAt, SuitsAt, field_spelt, value_suits}

-- COLUMNS have names of their own
abbrev Apart : ColumnDef → ColumnDef → Type 0
Apart a b = a.name ≢ b.name

one_name : (columns : List ColumnDef) (p q : ℕ) (a b : ColumnDef) → AllPairs Apart columns → slice_get columns p ≡ Some a → slice_get columns q ≡ Some b
    → a.name ≡ b.name → a ≡ b
one_name [] p q a b apart first second same = no_some a first
one_name (c ∷ cs) zero zero a b apart first second same = sym (same_some c a first) ∙ same_some c b second
one_name (c ∷ cs) zero (suc q) a b apart first second same =
    absurd (slice_all (Apart c) cs q b (pairs_head Apart c cs apart) second (ap (λ (d : ColumnDef). d.name) (same_some c a first) ∙ same))
one_name (c ∷ cs) (suc p) zero a b apart first second same =
    absurd (slice_all (Apart c) cs p a (pairs_head Apart c cs apart) first (ap (λ (d : ColumnDef). d.name) (same_some c b second) ∙ sym same))
one_name (c ∷ cs) (suc p) (suc q) a b apart first second same = one_name cs p q a b (pairs_tail Apart c cs apart) first second same

columns_apart : (defs : List TableDef) (table : ℕ) → AreTableDefs defs → AllPairs Apart (columns_at defs table)
columns_apart defs table are = on (slice_get defs table) refl
  where
    on : (found : Option TableDef) → slice_get defs table ≡ found → AllPairs Apart (option_map_or (λ (def : TableDef). def.columns) found [])
    on None is = pairs_nil Apart
    on (Some def) is = (slice_all (λ (d : TableDef). AreColumns d.columns) defs table def are.columns is).apart

-- A VALUE BY A NAME is read by the column of the name
nil_right : {A B : Type 0} (P : A × B → Type 0) (xs : List A) → All P (zip xs [])
nil_right P [] = All-nil P
nil_right P (x ∷ xs) = All-nil P

module _ (columns : List ColumnDef) (form : Binary) where
  listed : (names : List (List ℕ)) (fields : List Field) → are_columns columns names ≡ true → list_all is_spelt (values_in form columns names fields) ≡ true
      → All (SuitsAt columns) (zip (filter_map (column_place columns) names) (values_in form columns names fields))
  listed [] fields known spelt = All-nil (SuitsAt columns)
  listed (name ∷ names) [] known spelt = nil_right (SuitsAt columns) (filter_map (column_place columns) (name ∷ names))
  listed (name ∷ names) (f ∷ fields) known spelt =
      on (column_place columns name) refl (and_left (is_some (column_named columns name)) (not (is_among names name) && are_columns columns names) known)
      (listed names fields (and_right (not (is_among names name)) (are_columns columns names)
      (and_right (is_some (column_named columns name)) (not (is_among names name) && are_columns columns names) known))
      (and_right (is_spelt (named_value form columns (name, f))) (list_all is_spelt (values_in form columns names fields)) spelt))
    where
      value_is : (place : ℕ) (column : ColumnDef) → column_place columns name ≡ Some place → slice_get columns place ≡ Some column
          → named_value form columns (name, f) ≡ value_in form column f
      value_is place column is at =
          ap (λ (o : Option ℕ). option_map_or (λ (c : ColumnDef). value_in form c f) (option_and_then (slice_get columns) o) value.Null) is
          ∙ ap (λ (o : Option ColumnDef). option_map_or (λ (c : ColumnDef). value_in form c f) o value.Null) at

      on : (o : Option ℕ) → column_place columns name ≡ o → is_some (option_and_then (slice_get columns) (column_place columns name)) ≡ true
          → All (SuitsAt columns) (zip (filter_map (column_place columns) names) (values_in form columns names fields))
          → All (SuitsAt columns) (zip (cons_option o (filter_map (column_place columns) names)) (named_value form columns (name, f) ∷ values_in form columns names fields))
      on None is some rest =
          absurd (true≢false (sym some ∙ ap (λ (o : Option ℕ). is_some (option_and_then (slice_get columns) o)) is))
      on (Some place) is some rest =
          All-cons (SuitsAt columns) (place, named_value form columns (name, f))
          (zip (filter_map (column_place columns) names) (values_in form columns names fields))
          (λ column at. let same = value_is place column is at in
          subst (λ v. Suits (column, v)) (sym same)
          (value_suits form column f (sym (ap is_spelt same)
          ∙ and_left (is_spelt (named_value form columns (name, f))) (list_all is_spelt (values_in form columns names fields)) spelt))) rest

  -- the column of the name of a column is that column
  named : (place : ℕ) (column : ColumnDef) (f : Field) → AllPairs Apart columns → slice_get columns place ≡ Some column
      → is_spelt (named_value form columns (column_name columns place, f)) ≡ true → Suits (column, named_value form columns (column_name columns place, f))
  named place column f apart at spelt = by_place (column_place columns (column_name columns place)) refl spelt
    where
      name_is : column_name columns place ≡ column.name
      name_is = ap (λ (o : Option ColumnDef). option_map_or (λ (c : ColumnDef). c.name) o []) at

      by_column : (q : ℕ) → column_place columns (column_name columns place) ≡ Some q → (found : Option ColumnDef) → slice_get columns q ≡ found
          → is_spelt (option_map_or (λ (c : ColumnDef). value_in form c f) found value.Null) ≡ true
          → Suits (column, option_map_or (λ (c : ColumnDef). value_in form c f) found value.Null)
      by_column q is None there good = refl
      by_column q is (Some other) there good =
          let passes = (position-Some (λ (c : ColumnDef). bytes_eq c.name (column_name columns place)) columns q other is).1 in
          let same : other.name ≡ column_name columns place =
          ap (λ (c : ColumnDef). c.name) (sym (get_or_from_slice_get columns q other other there)) ∙ equal (get_or columns q other).name (column_name columns place) passes in
          let one : other ≡ column = one_name columns q place other column apart there at (same ∙ name_is) in
          subst (λ (c : ColumnDef). Suits (c, value_in form other f)) one (value_suits form other f good)

      by_place : (o : Option ℕ) → column_place columns (column_name columns place) ≡ o
          → is_spelt (option_map_or (λ (c : ColumnDef). value_in form c f) (option_and_then (slice_get columns) o) value.Null) ≡ true
          → Suits (column, option_map_or (λ (c : ColumnDef). value_in form c f) (option_and_then (slice_get columns) o) value.Null)
      by_place None is good = refl
      by_place (Some q) is good = by_column q is (slice_get columns q) refl good

  told : (fields : List (List ℕ × Field)) (places : List ℕ) → AllPairs Apart columns
      → list_all is_spelt (map (λ (name : List ℕ). named_value form columns (name, field_in fields name)) (map (column_name columns) places)) ≡ true
      → All (SuitsAt columns) (zip places (map (λ (name : List ℕ). named_value form columns (name, field_in fields name)) (map (column_name columns) places)))
  told fields [] apart spelt = All-nil (SuitsAt columns)
  told fields (place ∷ places) apart spelt =
      let f : Field = field_in fields (column_name columns place) in
      let rest : List Value = map (λ (name : List ℕ). named_value form columns (name, field_in fields name)) (map (column_name columns) places) in
      All-cons (SuitsAt columns) (place, named_value form columns (column_name columns place, f)) (zip places rest)
      (λ column at. named place column f apart at (and_left (is_spelt (named_value form columns (column_name columns place, f))) (list_all is_spelt rest) spelt))
      (told fields places apart (and_right (is_spelt (named_value form columns (column_name columns place, f))) (list_all is_spelt rest) spelt))

-- A ROW THAT BREAKS NO RULE ON TEXTS
unbroken : (broken : Option Rule) (made row : LoadRow) → by_rule broken made ≡ Ok row → (broken ≡ None) × (made ≡ row)
unbroken None made row is = (refl, cc)
unbroken (Some rule) made row is = absurd (cc)

table_there : (defs : List TableDef) (doc : DocRow) → is_some (table_place defs doc.table) ≡ true → doc_table defs doc < length defs
table_there defs doc some = on (table_place defs doc.table) refl some
  where
    on : (o : Option ℕ) → table_place defs doc.table ≡ o → is_some o ≡ true → unwrap_or o (length defs) < length defs
    on None is some = absurd (true≢false (sym some))
    on (Some place) is some = position_within (λ (def : TableDef). bytes_eq def.name doc.table) defs place is

pub row_read : (defs : List TableDef) (form : Binary) (number : ℕ) (doc : DocRow) (adds : List Add) (row : LoadRow) → AreTableDefs defs
    → All (λ (add : Add). NumberAt (doc_columns defs doc) add.column) adds → row_of defs form number doc adds ≡ Ok row → is_spelt_row row ≡ true
    → IsRead defs row
row_read defs form number doc adds row are numbers is spelt =
    let parts = unbroken (broken_text_rule defs form doc) (with_adds (plain_row defs form number doc) adds) row is in
    let fails = none_found (text_breaks defs form doc) text_rules parts.0 in
    let known : names_fit defs doc ≡ true = not_false (names_fit defs doc) fails.1.0 in
    let columns : List ColumnDef = doc_columns defs doc in
    let plain : LoadRow = plain_row defs form number doc in
    let good : is_spelt_row plain ≡ true = ap is_spelt_row parts.1 ∙ spelt in
    subst (IsRead defs) parts.1 (record {
      there = table_there defs doc (not_false (is_some (table_place defs doc.table)) fails.0);
      new = listed columns form doc.columns doc.new
          (and_left (are_columns columns doc.columns) (counts_fit doc) (and_right (are_columns columns doc.keys) (are_columns columns doc.columns && counts_fit doc) known))
          (and_right (list_all is_spelt plain.key.0) (list_all is_spelt plain.new) good);
      key = told columns form (key_fields doc) (key_places defs (doc_table defs doc)) (columns_apart defs (doc_table defs doc) are)
          (and_left (list_all is_spelt plain.key.0) (list_all is_spelt plain.new) good);
      adds = map_all (λ (addend : Addend). NumberAt columns addend.column) (addend_of plain) adds numbers;
    })

-- OWN ROWS, whose fields are made of characters
abbrev IsField : Field → Type 0
IsField f = is_field f ≡ true

fields_are : (fields : List Field) → are_fields fields ≡ true → All IsField fields
fields_are [] is = All-nil IsField
fields_are (f ∷ fields) is =
    All-cons IsField f fields (and_left (is_field f) (are_fields fields) is) (fields_are fields (and_right (is_field f) (are_fields fields) is))

others_are : (fields : List Field) → All IsField fields → All IsField (every_other fields)
others_are [] are = All-nil IsField
others_are (f ∷ []) are = are
others_are (f ∷ (next ∷ fields)) are =
    All-cons IsField f (every_other fields) (all_head IsField f (next ∷ fields) are)
    (others_are fields (all_tail IsField next fields (all_tail IsField f (next ∷ fields) are)))

record AreSpelt (doc : DocRow) : Type 0 where
  new : All IsField doc.new
  key : All IsField doc.key

own_spelt : (columns keys : List (List ℕ)) (row : TxRow) (e : Event) → All IsField row.fields → AreSpelt (own_doc columns keys row e)
own_spelt columns keys row event.Insert are = record { new = are; key = All-nil IsField }
own_spelt columns keys row event.Update are = record {
  new = others_are (drop 1 (drop (length keys) row.fields)) (All-drop IsField 1 (drop (length keys) row.fields) (All-drop IsField (length keys) row.fields are));
  key = All-take IsField (length keys) row.fields are;
}
own_spelt columns keys row event.Delete are = record { new = All-nil IsField; key = are }

zip_fields : (names : List (List ℕ)) (fields : List Field) → All IsField fields → All (λ (at : List ℕ × Field). IsField at.1) (zip names fields)
zip_fields [] fields are = All-nil (λ (at : List ℕ × Field). IsField at.1)
zip_fields (name ∷ names) [] are = All-nil (λ (at : List ℕ × Field). IsField at.1)
zip_fields (name ∷ names) (f ∷ fields) are =
    All-cons (λ (at : List ℕ × Field). IsField at.1) (name, f) (zip names fields) (all_head IsField f fields are) (zip_fields names fields (all_tail IsField f fields are))

keys_are : (doc : DocRow) → AreSpelt doc → All (λ (at : List ℕ × Field). IsField at.1) (key_fields doc)
keys_are doc are = on doc.event
  where
    on : (e : Event) → All (λ (at : List ℕ × Field). IsField at.1)
        (elim e [ event.Insert ↦ zip doc.columns doc.new | event.Update ↦ zip doc.keys doc.key | event.Delete ↦ zip doc.keys doc.key ])
    on event.Insert = zip_fields doc.columns doc.new are.new
    on event.Update = zip_fields doc.keys doc.key are.key
    on event.Delete = zip_fields doc.keys doc.key are.key

found_field : (fields : List (List ℕ × Field)) (name : List ℕ) → All (λ (at : List ℕ × Field). IsField at.1) fields → IsField (field_in fields name)
found_field fields name are = on (find (λ (at : List ℕ × Field). bytes_eq at.0 name) fields) refl
  where
    on : (found : Option (List ℕ × Field)) → find (λ (at : List ℕ × Field). bytes_eq at.0 name) fields ≡ found
        → IsField (option_map_or (λ (at : List ℕ × Field). at.1) found field.Null)
    on None is = refl
    on (Some at) is = find_all (λ (one : List ℕ × Field). IsField one.1) (λ (one : List ℕ × Field). bytes_eq one.0 name) fields at are is

named_spelt : (form : Binary) (columns : List ColumnDef) (name : List ℕ) (f : Field) → IsField f → is_spelt (named_value form columns (name, f)) ≡ true
named_spelt form columns name f is = on (column_named columns name)
  where
    on : (found : Option ColumnDef) → is_spelt (option_map_or (λ (c : ColumnDef). value_in form c f) found value.Null) ≡ true
    on None = refl
    on (Some column) = field_spelt form column f is

values_spelt : (form : Binary) (columns : List ColumnDef) (names : List (List ℕ)) (fields : List Field) → All IsField fields
    → list_all is_spelt (values_in form columns names fields) ≡ true
values_spelt form columns [] fields are = refl
values_spelt form columns (name ∷ names) [] are = refl
values_spelt form columns (name ∷ names) (f ∷ fields) are =
    and_both (is_spelt (named_value form columns (name, f))) (list_all is_spelt (values_in form columns names fields))
    (named_spelt form columns name f (all_head IsField f fields are)) (values_spelt form columns names fields (all_tail IsField f fields are))

key_spelt : (form : Binary) (columns : List ColumnDef) (fields : List (List ℕ × Field)) (names : List (List ℕ)) → All (λ (at : List ℕ × Field). IsField at.1) fields
    → list_all is_spelt (map (λ (name : List ℕ). named_value form columns (name, field_in fields name)) names) ≡ true
key_spelt form columns fields [] are = refl
key_spelt form columns fields (name ∷ names) are =
    and_both (is_spelt (named_value form columns (name, field_in fields name)))
    (list_all is_spelt (map (λ (other : List ℕ). named_value form columns (other, field_in fields other)) names))
    (named_spelt form columns name (field_in fields name) (found_field fields name are)) (key_spelt form columns fields names are)

-- an own row that is read, which adds nothing
pub record IsOwn (defs : List TableDef) (row : LoadRow) : Type 0 where
  pub read : IsRead defs row
  pub adds : row.adds ≡ []

pub own_read : (defs : List TableDef) (tx : TxRow) (row : LoadRow) → AreTableDefs defs → are_fields tx.fields ≡ true
    → row_of defs Base64 0 (doc_of defs tx) [] ≡ Ok row → IsOwn defs row
own_read defs tx row are spelt is =
    let doc : DocRow = doc_of defs tx in
    let parts = unbroken (broken_text_rule defs Base64 doc) (with_adds (plain_row defs Base64 0 doc) []) row is in
    let fields : AreSpelt doc = own_spelt _ _ tx tx.event (fields_are tx.fields spelt) in
    record {
      read = row_read defs Base64 0 doc [] row are (All-nil (λ (add : Add). NumberAt (doc_columns defs doc) add.column)) is
          (sym (ap is_spelt_row parts.1)
          ∙ and_both (list_all is_spelt (told_key defs Base64 doc)) (list_all is_spelt (values_in Base64 (doc_columns defs doc) doc.columns doc.new))
          (key_spelt Base64 (doc_columns defs doc) (key_fields doc) (key_names defs (doc_table defs doc)) (keys_are doc fields))
          (values_spelt Base64 (doc_columns defs doc) doc.columns doc.new fields.new));
      adds = sym (ap (λ (r : LoadRow). r.adds) parts.1);
    }
