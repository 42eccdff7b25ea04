-- The ids of whole batches are 1 to 2^62, as the `commit` lines that end them were judged.
use Rattle.std.proofs.Common.{◌≡◌, ℕ, ◌≤◌, Bool, true, false, ◌&&◌, nat_le, List, [], ◌∷◌, refl, Option, None, Some, IfSome, Result, Ok, Err, IfOk, if◌then◌else◌, drop, All}
use Rattle.std.proofs.lemmas.List.Elements.{All-nil, All-cons, All-append}
use Rattle.sds_line.specs.Splitting.{lines_in}
use Rattle.sds_line.specs.declared.line.Line.{Line}
use Rattle.sds_types.specs.Limits.{most_count}
use Rattle.sds_types.specs.declared.document.BatchDoc.{BatchDoc}
use Rattle.sds_types.specs.declared.document.DocumentCause.{DocumentCause}
use Rattle.sds_types.specs.declared.document.DocumentCause.TheVariants.{OutOfPlace, BadFields, CommitMismatch}
use Rattle.sds_value.specs.Digits.{digits_value, is_digit_text}
use Rattle.sds_value.specs.declared.row.Field.{Field}
use Rattle.sds_value.specs.declared.row.Field.TheVariants.{Null, Text}
use Rattle.sds_batchtext.specs.declared.directive.Directive.{Directive}
use Rattle.sds_batchtext.specs.declared.directive.Directive.TheVariants as directive
use Rattle.sds_batchtext.specs.declared.doc_line.DocLine.{DocLine}
use Rattle.sds_batchtext.specs.declared.doc_line.DocLine.TheVariants.{NodeId, Binary as BinaryForm, Channel, Batch, Table, Keys, Columns, Insert, Update, Old, Delete, Commit, Skipped}
use Rattle.sds_batchtext.specs.Directives.{directive_of}
use Rattle.sds_batchtext.specs.DocLines.{binary_in, id_in, id_of, in_range, line_said, name_in, names_in, said}
use Rattle.sds_batchtext.specs.Documents.{and_one, batch_said, batches_in, batches_of}
use Rattle.sds_batchtext.specs.Judging.{has_its_id, has_values, if_judged, judged, judged_directive, judged_said, lines_said, may_stand}
use Rattle.sds_batchtext.specs.LookingBack.{heading_of}
use Rattle.sds_nodelaws.proofs.Lists.{and_left, and_right, from_le}

-- IDS
abbrev pub IsId : ℕ → Type 0
IsId id = (1 ≤ id) × (id ≤ most_count)

abbrev pub HasId : BatchDoc → Type 0
HasId batch = IsId batch.batch

range_good : (n : ℕ) → IfSome (in_range n) IsId
range_good n = on (nat_le 1 n && nat_le n most_count) refl
  where
    on : (b : Bool) → (nat_le 1 n && nat_le n most_count) ≡ b → IfSome (if b then Some n else None) IsId
    on true is = (from_le 1 n (and_left (nat_le 1 n) (nat_le n most_count) is), from_le n most_count (and_right (nat_le 1 n) (nat_le n most_count) is))
    on false is = tt

id_good : (text : List ℕ) → IfSome (id_of text) IsId
id_good text = on (is_digit_text text)
  where
    on : (b : Bool) → IfSome (if b then in_range (digits_value text) else None) IsId
    on true = range_good (digits_value text)
    on false = tt

id_in_good : (fields : List Field) → IfSome (id_in fields) IsId
id_in_good [] = tt
id_in_good (Null ∷ fields) = tt
id_in_good (Text text ∷ []) = id_good text
id_in_good (Text text ∷ (field ∷ fields)) = tt

-- LINES. A `commit` line has such an id
abbrev IsGood : DocLine → Type 0
IsGood (Commit id) = IsId id
IsGood line = Unit {0}

said_good : {A : Type 0} (say : A → DocLine) (o : Option A) → ((x : A) → IsGood (say x)) → IfSome (said say o) IsGood
said_good say None each = tt
said_good say (Some x) each = each x

commit_good : (o : Option ℕ) → IfSome o IsId → IfSome (said Commit o) IsGood
commit_good None is = tt
commit_good (Some id) is = is

line_good : (number : ℕ) (d : Directive) (fields : List Field) → IfSome (line_said number d fields) IsGood
line_good number directive.NodeId fields = said_good (λ id. NodeId (record { id = id; line = number })) (name_in fields) (λ x. tt)
line_good number directive.Binary fields = said_good BinaryForm (binary_in fields) (λ x. tt)
line_good number directive.Channel fields = said_good Channel (name_in fields) (λ x. tt)
line_good number directive.Batch fields = said_good Batch (id_in fields) (λ x. tt)
line_good number directive.Table fields = said_good Table (name_in fields) (λ x. tt)
line_good number directive.Keys fields = said_good Keys (names_in fields) (λ x. tt)
line_good number directive.Columns fields = said_good Columns (names_in fields) (λ x. tt)
line_good number directive.Insert fields = tt
line_good number directive.Update fields = tt
line_good number directive.Old fields = tt
line_good number directive.Delete fields = tt
line_good number directive.Commit fields = commit_good (id_in fields) (id_in_good fields)
line_good number directive.Skipped fields = tt

-- so has one that is judged
said_judged : (older : List DocLine) (o : Option DocLine) → IfSome o IsGood → IfOk (judged_said older o) IsGood
said_judged older None good = tt
said_judged older (Some line) good = on (has_values (heading_of older) line) (has_its_id older line)
  where
    on : (values id : Bool) → IfOk (if values then (if id then Ok line else Err CommitMismatch) else Err BadFields) IsGood
    on true true = good
    on true false = tt
    on false id = tt

directive_judged : (older : List DocLine) (r : Result Directive DocumentCause) (number : ℕ) (fields : List Field)
    → IfOk (judged_directive older r number fields) IsGood
directive_judged older (Err cause) number fields = tt
directive_judged older (Ok d) number fields = on (may_stand older d)
  where
    on : (b : Bool) → IfOk (if b then judged_said older (line_said number d fields) else Err OutOfPlace) IsGood
    on true = said_judged older (line_said number d fields) (line_good number d fields)
    on false = tt

-- BATCHES
batch_good : (older : List DocLine) (line : DocLine) → IsGood line → IfSome (batch_said older line) HasId
batch_good older (NodeId node) good = tt
batch_good older (BinaryForm binary) good = tt
batch_good older (Channel name) good = tt
batch_good older (Batch id) good = tt
batch_good older (Table name) good = tt
batch_good older (Keys names) good = tt
batch_good older (Columns names) good = tt
batch_good older (Insert values) good = tt
batch_good older (Update values) good = tt
batch_good older (Old values) good = tt
batch_good older (Delete values) good = tt
batch_good older (Commit id) good = good
batch_good older Skipped good = tt

one_more : (batches : List BatchDoc) (o : Option BatchDoc) → All HasId batches → IfSome o HasId → All HasId (and_one batches o)
one_more batches None are is = are
one_more batches (Some batch) are is = All-append HasId batches (batch ∷ []) are (All-cons HasId batch [] is (All-nil HasId))

lines_good : (older : List DocLine) (lines : List Line) → All HasId (batches_of older) → All HasId (batches_of (lines_said older lines))
lines_good older [] are = are
lines_good older (line ∷ lines) are =
    on (judged older line.number line.fields) (directive_judged older (directive_of line.fields) line.number (drop 1 line.fields))
    (λ next good. lines_good (next ∷ older) lines (one_more (batches_of older) (batch_said older next) are (batch_good older next good)))
  where
    on : (r : Result DocLine DocumentCause) → IfOk r IsGood → ((next : DocLine) → IsGood next → All HasId (batches_of (lines_said (next ∷ older) lines)))
        → All HasId (batches_of (if_judged r (λ cause. older) (λ said. lines_said (said ∷ older) lines)))
    on (Err cause) good goes_on = are
    on (Ok next) good goes_on = goes_on next good

pub batches_good : (finished : Bool) (text : List ℕ) → All HasId (batches_in finished text)
batches_good finished text = lines_good [] (lines_in finished text).lines (All-nil HasId)
