-- The batch that is written and read: so many equal rows of a table of sales.
use Rattle.std.specs.Prelude.{ℕ, [], ◌∷◌, codes, replicate, None}
use Rattle.sds_types.specs.declared.document.BatchDoc.{BatchDoc}
use Rattle.sds_value.specs.declared.kind.Binary.TheVariants.{Base64}
use Rattle.sds_value.specs.declared.row.DocRow.{DocRow}
use Rattle.sds_value.specs.declared.row.Event.TheVariants.{Insert}
use Rattle.sds_value.specs.declared.row.Field.TheVariants.{Text}

-- an inserted sale of two pens
abbrev pub sample_row : DocRow
sample_row = record {
  event = Insert;
  table = codes "sale";
  keys = codes "id" ∷ [];
  columns = codes "id" ∷ (codes "store" ∷ (codes "item_id" ∷ (codes "qty" ∷ [])));
  new = Text (codes "s1-123456") ∷ (Text (codes "001") ∷ (Text (codes "1") ∷ (Text (codes "2") ∷ [])));
  key = [];
  old = None;
}

abbrev pub sample_batch : ℕ → BatchDoc
sample_batch count = record {
  channel = codes "sale";
  batch = 1;
  binary = Base64;
  rows = replicate count sample_row;
}
