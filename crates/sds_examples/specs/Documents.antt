-- A batch document, byte for byte: three sales, one that is taken away by its id alone, and an item
-- whose name has a quote and a backslash.
use Rattle.std.specs.Prelude.{◌≡◌, ℕ, List, [], ◌∷◌, codes, Option, None, Some}
use Rattle.sds_value.specs.declared.kind.Binary.TheVariants.{Base64}
use Rattle.sds_value.specs.declared.row.DocRow.{DocRow}
use Rattle.sds_value.specs.declared.row.Event.{Event}
use Rattle.sds_value.specs.declared.row.Event.TheVariants.{Insert, Update, Delete}
use Rattle.sds_value.specs.declared.row.Field.{Field}
use Rattle.sds_value.specs.declared.row.Field.TheVariants.{Null, Text}
use Rattle.sds_types.specs.declared.document.BatchDoc.{BatchDoc}
use Rattle.sds_batchtext.specs.Writing.{text_of, text_of_lines}

abbrev pub text : List ℕ → Field
text letters = Text letters

-- a row of the table of sales
abbrev pub sale : Event → List (List ℕ) → List Field → List Field → Option (List Field) → DocRow
sale event columns new key old = record {
  event = event;
  table = codes "sale";
  keys = codes "id" ∷ [];
  columns = columns;
  new = new;
  key = key;
  old = old;
}

abbrev pub id_and_note : List (List ℕ)
id_and_note = codes "id" ∷ codes "note" ∷ []

abbrev pub rows : List DocRow
rows =
    sale Insert id_and_note (text (codes "a") ∷ text (codes "2 pens") ∷ []) [] None
    ∷ sale Insert id_and_note (text (codes "b") ∷ Null ∷ []) [] None
    ∷ sale Update id_and_note (text (codes "b") ∷ text [] ∷ []) (text (codes "b") ∷ [])
    (Some (text (codes "b") ∷ Null ∷ []))
    ∷ sale Delete (codes "id" ∷ []) [] (text (codes "a") ∷ []) (Some (text (codes "a") ∷ []))
    ∷ record {
      event = Update;
      table = codes "item";
      keys = codes "id" ∷ codes "store" ∷ [];
      columns = codes "id" ∷ codes "store" ∷ codes "name" ∷ [];
      new = text (codes "1") ∷ text (codes "001") ∷ text (codes "5\" nail \\") ∷ [];
      key = text (codes "1") ∷ text (codes "001") ∷ [];
      old = None;
    }
    ∷ []

abbrev pub batch : BatchDoc
batch = record { channel = codes "sale"; batch = 7; binary = Base64; rows = rows }

abbrev pub document_lines : List (List ℕ)
document_lines =
    codes "nodeid,s1"
    ∷ codes "binary,BASE64"
    ∷ codes "channel,sale"
    ∷ codes "batch,7"
    ∷ codes "table,sale"
    ∷ codes "keys,id"
    ∷ codes "columns,id,note"
    ∷ codes "insert,\"a\",\"2 pens\""
    ∷ codes "insert,\"b\","
    ∷ codes "old,\"b\","
    ∷ codes "update,\"b\",\"\",\"b\""
    ∷ codes "table,sale"
    ∷ codes "keys,id"
    ∷ codes "columns,id"
    ∷ codes "old,\"a\""
    ∷ codes "delete,\"a\""
    ∷ codes "table,item"
    ∷ codes "keys,id,store"
    ∷ codes "columns,id,store,name"
    ∷ codes "update,\"1\",\"001\",\"5\\\" nail \\\\\",\"1\",\"001\""
    ∷ codes "commit,7"
    ∷ []

abbrev pub DocumentIsWritten : Type 0
DocumentIsWritten = text_of (codes "s1") (batch ∷ []) ≡ text_of_lines document_lines
