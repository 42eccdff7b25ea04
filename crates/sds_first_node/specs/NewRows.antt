-- The rows that an own write adds, and the changes that they become, in the one configuration.
use Rattle.std.specs.Prelude.{◌≡◌, ℕ, ◌+◌, Bool, true, if◌then◌else◌, List, [], ◌∷◌, ◌++◌, length, map, All, Option, None, Some, codes}
use Rattle.std.specs.Str.{bytes_eq}
use Rattle.sds_value.specs.declared.row.Event.TheVariants.{Insert}
use Rattle.sds_types.specs.declared.row.Change.{Change}
use Rattle.sds_types.specs.declared.row.TableRow.{TableRow}
use Rattle.sds_types.specs.declared.tx_row.TxRow.{TxRow}
use Rattle.sds_types.specs.declared.rule.Rule.{Rule}
use Rattle.sds_types.specs.declared.rule.Rule.TheVariants.{DuplicateKey}
use Rattle.sds_first_spec.specs.Capture.{is_own_insert, row_values, by_rule}
use Rattle.sds_first_spec.specs.Acts.{State}
use Rattle.sds_first_spec.specs.One.{one}
use Rattle.sds_first_spec.specs.Places.{columns_of}
use Rattle.sds_first_spec.specs.Tables.{key_of, stands}

-- each of these rows is an insert of the one table with a number and a text
abbrev pub ArePairRows : List TxRow → Type 0
ArePairRows tx = All (λ (row : TxRow). is_own_insert one row ≡ true) tx

-- a row as it is kept
abbrev pub new_row : TxRow → TableRow
new_row row = record { table = 0; row = record { 0 = row_values (columns_of one 0) row.fields } }

abbrev pub new_rows : List TxRow → List TableRow
new_rows tx = map new_row tx

-- the first of these rows, numbered from n on, whose key stands before it
abbrev pub first_taken : ℕ → List TableRow → List TableRow → Option (ℕ × Rule)
first_taken n kept [] = None
first_taken n kept (row ∷ rows) =
    by_rule (if stands one 0 (key_of one 0 row.row) kept then Some DuplicateKey else None) n (first_taken (n + 1) (kept ++ row ∷ []) rows)

-- the changes of these rows, with consecutive numbers from id on
abbrev pub numbered : ℕ → ℕ → List TableRow → List Change
numbered id tx [] = []
numbered id tx (row ∷ rows) =
    record { id = id; tx = tx; table = 0; event = Insert; new = Some row.row; old = None; channel = 0; source = None } ∷ numbered (id + 1) tx rows

-- the changes that a node captures of its own rows: all of them at a node of the group corp
abbrev pub captured : Bool → ℕ → ℕ → List TableRow → List Change
captured is_captured id tx rows = if is_captured then numbered id tx rows else []

-- the changes that these rows become at a node
abbrev pub captured_at : State → List TableRow → List Change
captured_at s rows = captured (bytes_eq s.me.group (codes "corp")) (s.counts.last_change + 1) (s.counts.last_tx + 1) rows

-- how many changes these rows become at a node
abbrev pub count_at : State → List TableRow → ℕ
count_at s rows = if bytes_eq s.me.group (codes "corp") then length rows else 0
