-- Worked cases: rows as texts, and the rule on texts that each breaks.
use Rattle.std.specs.Prelude.{◌≡◌, ℕ, List, [], ◌∷◌, Option, None, Some, codes}
use Rattle.sds_value.specs.declared.kind.Binary.{Binary}
use Rattle.sds_value.specs.declared.kind.Binary.TheVariants.{Base64, Hex}
use Rattle.sds_value.specs.declared.kind.Kind.TheVariants.{Integer, Varchar, Varbinary}
use Rattle.sds_value.specs.declared.row.DocRow.{DocRow}
use Rattle.sds_value.specs.declared.row.Event.TheVariants.{Insert, Update}
use Rattle.sds_value.specs.declared.row.Field.{Field}
use Rattle.sds_value.specs.declared.row.Field.TheVariants.{Null, Text}
use Rattle.sds_value.specs.declared.table.TableDef.{TableDef}
use Rattle.sds_types.specs.declared.rule.Rule.{Rule}
use Rattle.sds_types.specs.declared.rule.Rule.TheVariants.{UnknownColumn, MissingKey, BadValue, TooLong}
use Rattle.sds_trade.specs.rules.TextRules.{broken_text_rule}
use Rattle.sds_trade.specs.worked.Entries.{column_def, optional, table_def}

-- a part of an order: its key is of two columns
abbrev pub part_tables : List TableDef
part_tables = record (table_def (codes "part") (column_def (codes "order") Integer None
    ∷ (column_def (codes "line") Integer None
    ∷ (optional (column_def (codes "text") (Varchar 3) None)
    ∷ (optional (column_def (codes "sign") (Varbinary 3) None) ∷ []))))) { key = 0 ∷ (1 ∷ []) } ∷ []

-- an update of a part, with the key's names in the other order
abbrev pub part_doc : List (List ℕ) → List Field → List (List ℕ) → List Field
    → Option (List Field) → DocRow
part_doc keys key columns new old = record {
  event = Update;
  table = codes "part";
  keys = keys;
  columns = columns;
  new = new;
  key = key;
  old = old;
}

abbrev pub both_keys : List (List ℕ)
both_keys = codes "line" ∷ (codes "order" ∷ [])

abbrev pub one_two : List Field
one_two = Text (codes "1") ∷ (Text (codes "2") ∷ [])

abbrev pub Reads : Binary → DocRow → Option Rule → Type 0
Reads form doc expected = broken_text_rule part_tables form doc ≡ expected

abbrev pub text_update : Field → Option (List Field) → DocRow
text_update field old = part_doc both_keys one_two (codes "text" ∷ []) (field ∷ []) old

-- what of the texts of an update that gives its key, or gives its columns, breaks a rule
abbrev pub KeyBreaks : List (List ℕ) → List Field → Rule → Type 0
KeyBreaks keys key rule = Reads Base64 (part_doc keys key [] [] None) (Some rule)

abbrev pub ColumnsBreak : List (List ℕ) → List Field → Rule → Type 0
ColumnsBreak columns new rule =
    Reads Base64 (part_doc both_keys one_two columns new None) (Some rule)

-- NAMES. Key names stand in any order; one that is no column, or stands twice, is unknown; columns
-- that aren't the key's, one too few, and a null among the values don't tell the key
abbrev pub KeysAreNamed : Type 0
KeysAreNamed = Reads Base64 (text_update (Text (codes "abc")) None) None
    × KeyBreaks (codes "row" ∷ (codes "order" ∷ [])) one_two UnknownColumn
    × KeyBreaks (codes "line" ∷ (codes "line" ∷ [])) one_two UnknownColumn
    × KeyBreaks (codes "text" ∷ (codes "order" ∷ [])) one_two MissingKey
    × KeyBreaks (codes "order" ∷ []) (Text (codes "1") ∷ []) MissingKey
    × KeyBreaks both_keys (Text (codes "1") ∷ (Null ∷ [])) MissingKey

-- at an insert the key's names have to be right too, though its values stand among the new ones
abbrev pub part_insert : List (List ℕ) → DocRow
part_insert keys = record (part_doc keys [] (codes "order" ∷ (codes "line" ∷ [])) one_two None) {
  event = Insert;
}

abbrev pub InsertsNameTheKey : Type 0
InsertsNameTheKey = Reads Base64 (part_insert both_keys) None
    × Reads Base64 (part_insert (codes "order" ∷ (codes "text" ∷ []))) (Some MissingKey)

-- so it is with columns, and with more or fewer fields than names
abbrev pub ColumnsAreNamed : Type 0
ColumnsAreNamed = ColumnsBreak (codes "row" ∷ []) (Null ∷ []) UnknownColumn
    × ColumnsBreak (codes "text" ∷ (codes "text" ∷ [])) (Null ∷ (Null ∷ [])) UnknownColumn
    × ColumnsBreak (codes "text" ∷ []) [] UnknownColumn
    × KeyBreaks both_keys (Text (codes "1") ∷ []) UnknownColumn
    × Reads Base64 (text_update Null (Some [])) (Some UnknownColumn)

-- VALUES. Of the key's, the new and the old values one that is bad comes before one that is too
-- long, wherever they stand
abbrev pub long : Field
long = Text (codes "abcd")

abbrev pub TextsAreRead : Type 0
TextsAreRead = Reads Base64 (text_update long None) (Some TooLong)
    × Reads Base64 (text_update Null (Some (long ∷ []))) (Some TooLong)
    × Reads Base64 (part_doc both_keys (Text (codes "1") ∷ (Text (codes "x") ∷ []))
    (codes "text" ∷ []) (long ∷ []) None) (Some BadValue)
    × ColumnsBreak (codes "text" ∷ (codes "order" ∷ []))
    (long ∷ (Text (codes "9223372036854775808") ∷ [])) BadValue

-- bytes are read by the document's form
abbrev pub sign_update : List ℕ → DocRow
sign_update text = part_doc both_keys one_two (codes "sign" ∷ []) (Text text ∷ []) None

abbrev pub BytesAreRead : Type 0
BytesAreRead = Reads Hex (sign_update (codes "68690a")) None
    × Reads Hex (sign_update (codes "aGkK")) (Some BadValue)
    × Reads Base64 (sign_update (codes "aGkK")) None
    × Reads Base64 (sign_update (codes "AAAAAA==")) (Some TooLong)
