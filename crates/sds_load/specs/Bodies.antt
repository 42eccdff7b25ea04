-- The body of a batch of which some rows are read.
use Rattle.std.specs.Prelude.{ℕ, List, [], ◌++◌, Option, None, Some, option_and_then, slice_get, Result}
use Rattle.std.specs.List.{filter_map}
use Rattle.std.specs.Result.{result_err, result_ok}
use Rattle.sds_types.specs.declared.load_row.LoadRow.{LoadRow}
use Rattle.sds_types.specs.declared.prepared.Body.{Body}
use Rattle.sds_types.specs.declared.prepared.Body.TheVariants as body
use Rattle.sds_types.specs.declared.rule.Rule.{Rule}
use Rattle.sds_trade.specs.rules.Outcomes.{body_by}

-- a row that is read, or the number of its document's row with the rule that it breaks
abbrev pub Reading : Type 0
Reading = Result LoadRow (ℕ × Rule)

-- the body, where these rows are read and those readings are left
abbrev pub body_after : List LoadRow → List Reading → Body
body_after rows readings =
    body_by (filter_map result_err readings) (rows ++ filter_map result_ok readings)

-- the same, where a rule may be broken at a row of this number
abbrev pub body_from : Option Rule → ℕ → List LoadRow → List Reading → Body
body_from None number rows rest = body_after rows rest
body_from (Some rule) number rows rest = body.Broken number rule

-- the rows of a body, where they are read
abbrev pub rows_in : Body → List LoadRow
rows_in (body.Rows rows) = rows
rows_in (body.Broken number rule) = []

-- the place of the conflict setting for the table at a place
abbrev pub setting_at : List (Option ℕ) → ℕ → Option ℕ
setting_at settings table = option_and_then (λ (place : Option ℕ). place) (slice_get settings table)
