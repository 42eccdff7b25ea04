-- The batches that have a written form.
use Rattle.std.specs.Prelude.{ℕ, Bool, true, false, ◌&&◌, ◌==◌, nat_lt, nat_le, is_none, List, length, Option, Some, None}
use Rattle.std.specs.List.{list_all}
use Rattle.sds_line.specs.Written.{are_fields}
use Rattle.sds_types.specs.Limits.{most_count, most_line_bytes}
use Rattle.sds_types.specs.declared.document.BatchDoc.{BatchDoc}
use Rattle.sds_value.specs.Names.{is_name_text}
use Rattle.sds_value.specs.declared.kind.Binary.{Binary}
use Rattle.sds_value.specs.declared.kind.Binary.TheVariants.{Base64, Hex, Plain}
use Rattle.sds_value.specs.declared.row.DocRow.{DocRow}
use Rattle.sds_value.specs.declared.row.Event.{Event}
use Rattle.sds_value.specs.declared.row.Event.TheVariants as event
use Rattle.sds_value.specs.declared.row.Field.{Field}
use Rattle.sds_batchtext.specs.Writing.{lines_of_batch}

-- one name or more
abbrev pub are_names : List (List ℕ) → Bool
are_names names = nat_lt 0 (length names) && list_all is_name_text names

-- an old row has a value for each column
abbrev pub is_old : Option (List Field) → List (List ℕ) → Bool
is_old None columns = true
is_old (Some values) columns = length values == length columns

-- the values that an event asks for, and no others
abbrev pub has_sides : Event → DocRow → Bool
has_sides event.Insert row =
    length row.new == length row.columns && (length row.key == 0 && is_none row.old)
has_sides event.Update row = length row.new == length row.columns
    && (length row.key == length row.keys && is_old row.old row.columns)
has_sides event.Delete row =
    length row.new == 0 && (length row.key == length row.keys && is_old row.old row.columns)

abbrev pub is_row : DocRow → Bool
is_row row = is_name_text row.table && (are_names row.keys && (are_names row.columns
    && has_sides row.event row))

abbrev pub is_base64 : Binary → Bool
is_base64 Base64 = true
is_base64 Hex = false
is_base64 Plain = false

-- A batch has a written form: its bytes are in base64, its id is 1 to 2^62, its channel, tables,
-- keys and columns are names, each row has the values that its event asks for, and no line is too
-- long.
abbrev pub is_writable : BatchDoc → Bool
is_writable batch = is_base64 batch.binary && ((nat_le 1 batch.batch
    && nat_le batch.batch most_count) && (is_name_text batch.channel
    && (list_all is_row batch.rows
    && list_all (λ line. nat_le (length line) most_line_bytes) (lines_of_batch batch))))

-- the values of a row are made of characters
abbrev pub is_old_text : Option (List Field) → Bool
is_old_text None = true
is_old_text (Some values) = are_fields values

abbrev pub is_row_text : DocRow → Bool
is_row_text row = are_fields row.new && (are_fields row.key && is_old_text row.old)

abbrev pub is_batch_text : BatchDoc → Bool
is_batch_text batch = list_all is_row_text batch.rows
