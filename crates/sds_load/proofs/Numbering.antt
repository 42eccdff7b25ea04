-- The rows of a batch go by the numbers of the document's rows that they come from.
use Rattle.std.proofs.Common.{◌≡◌, ℕ, ◌+◌, true, List, [], ◌∷◌, map, Option, None, Some, refl, sym, ap, ◌∙◌, true≢false}
use Rattle.std.specs.Prelude.{is_some}
use Rattle.sds_types.specs.declared.config.Config.{Config}
use Rattle.sds_types.specs.declared.load_row.LoadRow.{LoadRow}
use Rattle.sds_types.specs.declared.prepared.Body.TheVariants as body
use Rattle.sds_types.specs.declared.prepared.Prepared.{Prepared}
use Rattle.sds_types.specs.declared.row.TableRow.{TableRow}
use Rattle.sds_trade.specs.rules.Captured.{overflows}
use Rattle.sds_trade.specs.rules.Outcomes.{batch_judge, by_body, by_channel, outcome_of_batch, with_number}
use Rattle.sds_trade.specs.rules.Runs.{run}
use Rattle.sds_capture.specs.Ends.{numbered}

numbered_rows : (place : ℕ) (rows : List LoadRow) → numbered (λ (at : ℕ) (row : LoadRow). row.row) place rows ≡ map with_number rows
numbered_rows place [] = refl
numbered_rows place (row ∷ rows) = ap (λ later. (row.row, row) ∷ later) (numbered_rows (place + 1) rows)

-- the outcome of a batch of a known channel whose rows are read
pub outcome_by_run : (config : Config) (group : List ℕ) (waiting : ℕ) (rows : List TableRow) (batch : Prepared) (made : List LoadRow) → is_some batch.channel ≡ true
    → batch.body ≡ body.Rows made
    → run config.tables (overflows config group true waiting) (batch_judge config batch) rows (numbered (λ (at : ℕ) (row : LoadRow). row.row) 0 made)
    ≡ outcome_of_batch config group waiting rows batch
outcome_by_run config group waiting rows batch made known read = on batch.channel known
  where
    on : (channel : Option ℕ) → is_some channel ≡ true
        → run config.tables (overflows config group true waiting) (batch_judge config batch) rows (numbered (λ (at : ℕ) (row : LoadRow). row.row) 0 made)
        ≡ by_channel config group waiting rows batch channel
    on None is = absurd (true≢false (sym is))
    on (Some channel) is =
        ap (run config.tables (overflows config group true waiting) (batch_judge config batch) rows) (numbered_rows 0 made)
        ∙ ap (by_body config group waiting rows batch) (sym read)
