-- The values that tell a key are those of the fields that tell it.
use Rattle.std.proofs.Common.{◌≡◌, ℕ, Bool, true, false, List, [], ◌∷◌, map, refl, sym, ap, Option, Some, None}
use Rattle.std.specs.List.{zip}
use Rattle.std.specs.Str.{bytes_eq}
use Rattle.std.proofs.lemmas.Slice.Eq.{bytes_eq-Decides}
use Rattle.sds_value.specs.declared.kind.Binary.{Binary}
use Rattle.sds_value.specs.declared.kind.Value.{Value}
use Rattle.sds_value.specs.declared.kind.Value.TheVariants as value
use Rattle.sds_value.specs.declared.row.DocRow.{DocRow}
use Rattle.sds_value.specs.declared.row.Event.{Event}
use Rattle.sds_value.specs.declared.row.Event.TheVariants.{Insert, Update, Delete}
use Rattle.sds_value.specs.declared.row.Field.{Field}
use Rattle.sds_value.specs.declared.row.Field.TheVariants.{Null}
use Rattle.sds_value.specs.declared.table.ColumnDef.{ColumnDef}
use Rattle.sds_value.specs.declared.table.TableDef.{TableDef}
use Rattle.sds_trade.specs.rules.DocRows.{field_in}
use Rattle.sds_trade.specs.rules.LoadRows.{named_value, values_in}
use Rattle.sds_trade.specs.rules.Places.{column_named}
use Rattle.sds_rowtexts.specs.Named.{key_names_of, key_values, value_named}
use Rattle.sds_rowtexts.specs.Texts.{key_told}

null_by : (form : Binary) (columns : List ColumnDef) (name : List ℕ) (o : Option ColumnDef) → column_named columns name ≡ o → named_value form columns (name, Null) ≡ value.Null
null_by form columns name None e = rw e refl
null_by form columns name (Some column) e = rw e refl

same_by : (form : Binary) (columns : List ColumnDef) (n : List ℕ) (names : List (List ℕ)) (field : Field) (fields : List Field) (name : List ℕ) (b : Bool) → bytes_eq n name ≡ b
    → value_named (zip names (values_in form columns names fields)) name ≡ named_value form columns (name, field_in (zip names fields) name)
    → value_named (zip (n ∷ names) (values_in form columns (n ∷ names) (field ∷ fields))) name ≡ named_value form columns (name, field_in (zip (n ∷ names) (field ∷ fields)) name)
same_by form columns n names field fields name true e rest =
    let same : n ≡ name = (bytes_eq-Decides n name).0 e in
    rw e (ap (λ (x : List ℕ). named_value form columns (x, field)) same)
same_by form columns n names field fields name false e rest = rw e rest

told : (form : Binary) (columns : List ColumnDef) (names : List (List ℕ)) (fields : List Field) (name : List ℕ)
    → value_named (zip names (values_in form columns names fields)) name ≡ named_value form columns (name, field_in (zip names fields) name)
told form columns [] fields name = sym (null_by form columns name (column_named columns name) refl)
told form columns (n ∷ names) [] name = sym (null_by form columns name (column_named columns name) refl)
told form columns (n ∷ names) (field ∷ fields) name = same_by form columns n names field fields name (bytes_eq n name) refl (told form columns names fields name)

all_told : (form : Binary) (columns : List ColumnDef) (names : List (List ℕ)) (fields : List Field) (key : List (List ℕ))
    → map (value_named (zip names (values_in form columns names fields))) key ≡ map (λ (name : List ℕ). named_value form columns (name, field_in (zip names fields) name)) key
all_told form columns names fields [] = refl
all_told form columns names fields (name ∷ key) =
    rw (told form columns names fields name) (ap (λ values. named_value form columns (name, field_in (zip names fields) name) ∷ values) (all_told form columns names fields key))

told_by : (def : TableDef) (form : Binary) (row : DocRow) (event : Event) → row.event ≡ event
    → map (value_named (key_values row (values_in form def.columns row.keys row.key) (values_in form def.columns row.columns row.new))) (key_names_of def) ≡ key_told def form row
told_by def form row Insert is = rw is (all_told form def.columns row.columns row.new (key_names_of def))
told_by def form row Update is = rw is (all_told form def.columns row.keys row.key (key_names_of def))
told_by def form row Delete is = rw is (all_told form def.columns row.keys row.key (key_names_of def))

pub key_is_told : (def : TableDef) (form : Binary) (row : DocRow) (key new : List Value)
    → key ≡ values_in form def.columns row.keys row.key → new ≡ values_in form def.columns row.columns row.new
    → map (value_named (key_values row key new)) (key_names_of def) ≡ key_told def form row
key_is_told def form row key new is_key is_new = rw (is_key, is_new) (told_by def form row row.event refl)
