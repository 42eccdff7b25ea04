-- How a run of rows ends, as the code tells it.
use Rattle.std.specs.Prelude.{ℕ, ◌+◌, List, [], ◌∷◌, Result, Ok, Err}
use Rattle.std.specs.Str.{chars}
use Rattle.sds_types.specs.declared.row.TableRow.{TableRow}
use Rattle.sds_types.specs.declared.tx_row.Broken.{Broken}
use Rattle.sds_types.specs.declared.tx_row.Broken.TheVariants as broken
use Rattle.sds_types.specs.declared.conflict.Resolution.{Resolution}
use Rattle.sds_trade.specs.rules.Captured as plain
use Rattle.sds_trade.specs.rules.Runs.{RunEnd, run, with_done}
use Rattle.sds_trade.specs.rules.Runs.RunEnd.{Made, Ignored, Refused}
use Rattle.sds_rows.specs.declared.undo.Done.{Done}
use Rattle.sds_rows.specs.Undoing.{without_undos}
use Rattle.sds_capture.specs.declared.outcome.Outcome.{Outcome}
use Rattle.sds_capture.specs.declared.outcome.Outcome.TheVariants as outcome
use Rattle.sds_capture.specs.declared.run.Capturing.{Capturing}
use Rattle.sds_capture.specs.declared.run.Taken.{Taken}
use Rattle.sds_capture.specs.declared.run.Taken.TheVariants.{Further, SkipsBatch, Breaks}

-- the end of a run that leaves these rows
abbrev pub end_of : Outcome → List TableRow → RunEnd
end_of (outcome.Done dones) rows = Made (without_undos dones) rows
end_of outcome.Ignored rows = Ignored
end_of (outcome.Broken row rule) rows = Refused row rule

-- the steps that stand after it
abbrev pub dones_of : Outcome → List Done
dones_of (outcome.Done dones) = dones
dones_of outcome.Ignored = []
dones_of (outcome.Broken row rule) = []

-- the same of an own write, which is never ignored; out of memory stands for no end
abbrev pub write_end : Result (List Done) Broken → List TableRow → RunEnd
write_end (Ok dones) rows = Made (without_undos dones) rows
write_end (Err (broken.Rule row rule)) rows = Refused row rule
write_end (Err broken.NoMemory) rows = Ignored

abbrev pub write_dones : Result (List Done) Broken → List Done
write_dones (Ok dones) = dones
write_dones (Err broken) = []

-- rows with their numbers, which go by the row and by its place
abbrev pub numbered : {R : Type 0} → (ℕ → R → ℕ) → ℕ → List R → List (ℕ × R)
numbered number place [] = []
numbered number place (row ∷ rows) = (number place row, row) ∷ numbered number (place + 1) rows

-- how a run ends with these steps before
abbrev pub with_dones : List plain.Done → RunEnd → RunEnd
with_dones [] end = end
with_dones (done ∷ dones) end = with_done done (with_dones dones end)

-- how a run ends with what a row of this number comes to, where its later rows end so
abbrev pub end_with : Taken → ℕ → RunEnd → RunEnd
end_with Further number end = end
end_with SkipsBatch number end = Ignored
end_with (Breaks rule) number end = Refused number rule

-- the run of numbered rows where steps are captured so
abbrev pub run_at : {R : Type 0} → Capturing → (List TableRow → R → Resolution) → List TableRow
    → List (ℕ × R) → RunEnd
run_at at asked rows later = run at.config.now.tables
    (plain.overflows at.config.now (chars at.group.now) at.incoming at.waiting) asked rows later
