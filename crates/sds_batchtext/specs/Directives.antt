-- The directives of a document, by the words that name them.
use Rattle.std.specs.Prelude.{ℕ, Bool, ◌||◌, if◌then◌else◌, List, [], ◌∷◌, codes, Option, Some, None, Result, Ok, Err}
use Rattle.std.specs.Str.{bytes_eq}
use Rattle.sds_types.specs.declared.document.DocumentCause.{DocumentCause}
use Rattle.sds_types.specs.declared.document.DocumentCause.TheVariants.{UnknownDirective, RefusedDirective}
use Rattle.sds_value.specs.declared.row.Field.{Field}
use Rattle.sds_value.specs.declared.row.Field.TheVariants.{Text}
use Rattle.sds_batchtext.specs.declared.directive.Directive.{Directive}
use Rattle.sds_batchtext.specs.declared.directive.Directive.TheVariants as directive

-- the directives of rows
abbrev pub row_directive : List ℕ → Option Directive
row_directive word =
    if bytes_eq word (codes "insert") then Some directive.Insert else
    if bytes_eq word (codes "update") then Some directive.Update else
    if bytes_eq word (codes "old") then Some directive.Old else
    if bytes_eq word (codes "delete") then Some directive.Delete else None

-- those of tables
abbrev pub table_directive : List ℕ → Option Directive
table_directive word =
    if bytes_eq word (codes "table") then Some directive.Table else
    if bytes_eq word (codes "keys") then Some directive.Keys else
    if bytes_eq word (codes "columns") then Some directive.Columns else None

-- those of the document and its batches
abbrev pub document_directive : List ℕ → Option Directive
document_directive word =
    if bytes_eq word (codes "nodeid") then Some directive.NodeId else
    if bytes_eq word (codes "binary") then Some directive.Binary else
    if bytes_eq word (codes "channel") then Some directive.Channel else
    if bytes_eq word (codes "batch") then Some directive.Batch else
    if bytes_eq word (codes "commit") then Some directive.Commit else None

-- those that say nothing that symds needs
abbrev pub is_skipped : List ℕ → Bool
is_skipped word = bytes_eq word (codes "schema") || (bytes_eq word (codes "catalog")
    || (bytes_eq word (codes "stats_columns")
    || (bytes_eq word (codes "stats") || bytes_eq word (codes "ts"))))

-- those that symds doesn't obey
abbrev pub is_refused : List ℕ → Bool
is_refused word =
    bytes_eq word (codes "sql") || (bytes_eq word (codes "bsh") || bytes_eq word (codes "create"))

-- a word that is none of the first three kinds
abbrev pub other_directive : List ℕ → Result Directive DocumentCause
other_directive word =
    if is_skipped word then Ok directive.Skipped else
    if is_refused word then Err RefusedDirective else Err UnknownDirective

-- the directive, or else what comes next
abbrev pub directive_or : Option Directive → Result Directive DocumentCause
    → Result Directive DocumentCause
directive_or (Some directive) next = Ok directive
directive_or None next = next

-- the directive of a word, or why it has none that is obeyed
abbrev pub directive_named : List ℕ → Result Directive DocumentCause
directive_named word =
    directive_or (row_directive word)
    (directive_or (table_directive word)
    (directive_or (document_directive word) (other_directive word)))

-- The directive of a line with these fields: its first field, in lower case, plain or quoted.
abbrev pub directive_of : List Field → Result Directive DocumentCause
directive_of [] = Err UnknownDirective
directive_of (Text word ∷ fields) = directive_named word
directive_of (field ∷ fields) = Err UnknownDirective
