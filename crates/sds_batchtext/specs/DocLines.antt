-- What a line of a document says by itself: its fields after the directive, where they are what the
-- directive asks for.
use Rattle.std.specs.Prelude.{ℕ, ◌&&◌, nat_le, if◌then◌else◌, List, [], ◌∷◌, codes, Option, Some, None}
use Rattle.std.specs.Str.{bytes_eq}
use Rattle.sds_types.specs.Limits.{most_count}
use Rattle.sds_value.specs.Digits.{digits_value, is_digit_text}
use Rattle.sds_value.specs.Names.{is_name_text}
use Rattle.sds_value.specs.declared.kind.Binary.{Binary}
use Rattle.sds_value.specs.declared.kind.Binary.TheVariants.{Base64, Hex, Plain}
use Rattle.sds_value.specs.declared.row.Field.{Field}
use Rattle.sds_value.specs.declared.row.Field.TheVariants.{Null, Text}
use Rattle.sds_batchtext.specs.declared.directive.Directive.{Directive}
use Rattle.sds_batchtext.specs.declared.directive.Directive.TheVariants as directive
use Rattle.sds_batchtext.specs.declared.doc_line.DocLine.{DocLine}
use Rattle.sds_batchtext.specs.declared.doc_line.DocLine.TheVariants.{NodeId, Binary as BinaryForm, Channel, Batch, Table, Keys, Columns, Insert, Update, Old, Delete, Commit, Skipped}

-- the text, where it is a name
abbrev pub name_of : List ℕ → Option (List ℕ)
name_of text = if is_name_text text then Some text else None

-- the one field, which is a name
abbrev pub name_in : List Field → Option (List ℕ)
name_in (Text text ∷ []) = name_of text
name_in fields = None

-- the names that the fields are, where each is one
abbrev pub field_name : Field → Option (List ℕ)
field_name Null = None
field_name (Text text) = name_of text

abbrev pub onto : Option (List ℕ) → Option (List (List ℕ)) → Option (List (List ℕ))
onto None names = None
onto (Some name) None = None
onto (Some name) (Some names) = Some (name ∷ names)

abbrev pub all_names : List Field → Option (List (List ℕ))
all_names [] = Some []
all_names (field ∷ fields) = onto (field_name field) (all_names fields)

-- one name or more
abbrev pub names_in : List Field → Option (List (List ℕ))
names_in [] = None
names_in (field ∷ fields) = all_names (field ∷ fields)

-- an id of a batch: 1 to 2^62 in decimal digits, which may begin with zeros
abbrev pub in_range : ℕ → Option ℕ
in_range id = if nat_le 1 id && nat_le id most_count then Some id else None

abbrev pub id_of : List ℕ → Option ℕ
id_of text = if is_digit_text text then in_range (digits_value text) else None

abbrev pub id_in : List Field → Option ℕ
id_in (Text text ∷ []) = id_of text
id_in fields = None

-- how bytes are written: one of three words
abbrev pub binary_named : List ℕ → Option Binary
binary_named word =
    if bytes_eq word (codes "BASE64") then Some Base64 else
    if bytes_eq word (codes "HEX") then Some Hex else
    if bytes_eq word (codes "NONE") then Some Plain else None

abbrev pub binary_in : List Field → Option Binary
binary_in (Text word ∷ []) = binary_named word
binary_in fields = None

-- what is said of a thing that was read, if it was
abbrev pub said : {A : Type 0} → (A → DocLine) → Option A → Option DocLine
said say None = None
said say (Some thing) = Some (say thing)

-- What the line of this number says, by its directive and its other fields. How many values a row
-- has is judged where it stands.
abbrev pub line_said : ℕ → Directive → List Field → Option DocLine
line_said number directive.NodeId fields =
    said (λ id. NodeId (record { id = id; line = number })) (name_in fields)
line_said number directive.Binary fields = said BinaryForm (binary_in fields)
line_said number directive.Channel fields = said Channel (name_in fields)
line_said number directive.Batch fields = said Batch (id_in fields)
line_said number directive.Table fields = said Table (name_in fields)
line_said number directive.Keys fields = said Keys (names_in fields)
line_said number directive.Columns fields = said Columns (names_in fields)
line_said number directive.Insert fields = Some (Insert fields)
line_said number directive.Update fields = Some (Update fields)
line_said number directive.Old fields = Some (Old fields)
line_said number directive.Delete fields = Some (Delete fields)
line_said number directive.Commit fields = said Commit (id_in fields)
line_said number directive.Skipped fields = Some Skipped

-- the directive of what a line says
abbrev pub directive_for : DocLine → Directive
directive_for (NodeId node) = directive.NodeId
directive_for (BinaryForm binary) = directive.Binary
directive_for (Channel name) = directive.Channel
directive_for (Batch id) = directive.Batch
directive_for (Table name) = directive.Table
directive_for (Keys names) = directive.Keys
directive_for (Columns names) = directive.Columns
directive_for (Insert values) = directive.Insert
directive_for (Update values) = directive.Update
directive_for (Old values) = directive.Old
directive_for (Delete values) = directive.Delete
directive_for (Commit id) = directive.Commit
directive_for Skipped = directive.Skipped
