-- Whether a line of a document may stand where it stands, and the first line that may not.
use Rattle.std.specs.Prelude.{ℕ, ◌+◌, Bool, true, false, not, ◌&&◌, ◌||◌, ◌==◌, is_some, if◌then◌else◌, List, [], ◌∷◌, length, drop, Option, Some, None, Result, Ok, Err}
use Rattle.sds_line.specs.declared.line.Line.{Line}
use Rattle.sds_types.specs.declared.document.DocumentCause.{DocumentCause}
use Rattle.sds_types.specs.declared.document.DocumentCause.TheVariants.{OutOfPlace, BadFields, CommitMismatch}
use Rattle.sds_types.specs.declared.document.End.{End}
use Rattle.sds_types.specs.declared.document.End.TheVariants.{Broken}
use Rattle.sds_value.specs.declared.row.Field.{Field}
use Rattle.sds_batchtext.specs.declared.directive.Directive.{Directive}
use Rattle.sds_batchtext.specs.declared.directive.Directive.TheVariants as directive
use Rattle.sds_batchtext.specs.declared.doc_line.DocLine.{DocLine}
use Rattle.sds_batchtext.specs.declared.doc_line.DocLine.TheVariants.{Insert, Update, Old, Delete, Commit}
use Rattle.sds_batchtext.specs.declared.heading.Heading.{Heading}
use Rattle.sds_batchtext.specs.Directives.{directive_of}
use Rattle.sds_batchtext.specs.DocLines.{line_said}
use Rattle.sds_batchtext.specs.LookingBack.{node_of, channel_of, is_open, last_batch, table_of, heading_of, pending_old}

-- the names where they are given
abbrev pub given : Option (List (List ℕ)) → List (List ℕ)
given None = []
given (Some names) = names

-- a table is the current one, and its keys and columns are given
abbrev pub is_complete : Heading → Bool
is_complete heading = is_some heading.table && (is_some heading.keys && is_some heading.columns)

-- where a directive may stand, where no old row waits
abbrev pub has_place : List DocLine → Directive → Bool
has_place older directive.NodeId =
    not (is_open older) && (not (is_some (node_of older)) && not (is_some (channel_of older)))
has_place older directive.Binary = not (is_open older)
has_place older directive.Channel = not (is_open older) && is_some (node_of older)
has_place older directive.Batch = not (is_open older) && is_some (channel_of older)
has_place older directive.Table = is_open older
has_place older directive.Keys = is_open older && is_some (table_of older)
has_place older directive.Columns = is_open older && is_some (table_of older)
has_place older directive.Insert = is_open older && is_complete (heading_of older)
has_place older directive.Update = is_open older && is_complete (heading_of older)
has_place older directive.Old = is_open older && is_complete (heading_of older)
has_place older directive.Delete = is_open older && is_complete (heading_of older)
has_place older directive.Commit = is_open older
has_place older directive.Skipped = true

-- what may stand after an old row that waits
abbrev pub follows_old : Directive → Bool
follows_old directive.Update = true
follows_old directive.Delete = true
follows_old directive.Skipped = true
follows_old directive = false

-- a line with the directive may stand after these lines
abbrev pub may_stand : List DocLine → Directive → Bool
may_stand older directive =
    (not (is_some (pending_old older)) || follows_old directive) && has_place older directive

-- a row has a value for each column and for each key that it asks for
abbrev pub has_values : Heading → DocLine → Bool
has_values heading (Insert values) = length values == length (given heading.columns)
has_values heading (Update values) =
    length values == length (given heading.columns) + length (given heading.keys)
has_values heading (Old values) = length values == length (given heading.columns)
has_values heading (Delete values) = length values == length (given heading.keys)
has_values heading line = true

-- a `commit` line has the id of the batch
abbrev pub is_id : Option ℕ → ℕ → Bool
is_id None id = false
is_id (Some batch) id = batch == id

abbrev pub has_its_id : List DocLine → DocLine → Bool
has_its_id older (Commit id) = is_id (last_batch older) id
has_its_id older line = true

-- What a line says where it may stand, or the first of the causes for which it may not: no
-- directive that is obeyed, a directive out of place, bad fields, another batch's id.
abbrev pub judged_said : List DocLine → Option DocLine → Result DocLine DocumentCause
judged_said older None = Err BadFields
judged_said older (Some line) =
    if has_values (heading_of older) line
    then (if has_its_id older line then Ok line else Err CommitMismatch) else Err BadFields

abbrev pub judged_directive : List DocLine → Result Directive DocumentCause → ℕ → List Field
    → Result DocLine DocumentCause
judged_directive older (Err cause) number fields = Err cause
judged_directive older (Ok directive) number fields =
    if may_stand older directive
    then judged_said older (line_said number directive fields) else Err OutOfPlace

abbrev pub judged : List DocLine → ℕ → List Field → Result DocLine DocumentCause
judged older number fields = judged_directive older (directive_of fields) number (drop 1 fields)

-- what is made of what a line says, where it may stand
abbrev pub if_judged : {A : Type 0} → Result DocLine DocumentCause → (DocumentCause → A) → (DocLine
    → A) → A
if_judged (Err cause) refused goes_on = refused cause
if_judged (Ok line) refused goes_on = goes_on line

-- what the lines say up to the first that may not stand, the newest first, after what these older
-- lines say
abbrev pub lines_said : List DocLine → List Line → List DocLine
lines_said older [] = older
lines_said older (line ∷ lines) =
    if_judged (judged older line.number line.fields) (λ cause. older) (λ said. lines_said (said ∷ older) lines)

-- the first line that may not stand
abbrev pub broken_line : List DocLine → List Line → Option End
broken_line older [] = None
broken_line older (line ∷ lines) =
    if_judged (judged older line.number line.fields) (λ cause. Some (Broken line.number cause))
    (λ said. broken_line (said ∷ older) lines)
