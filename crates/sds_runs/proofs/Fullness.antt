-- Of how many changes wait a run sees only whether they are too many.
use Rattle.std.proofs.Common.{◌≡◌, ℕ, ◌&&◌, Bool, true, false, List, map, Option, None, Some, refl, ap}
use Rattle.std.specs.Prelude.{is_some}
use Rattle.std.specs.List.{enumerate_from}
use Rattle.sds_types.specs.declared.config.Config.{Config}
use Rattle.sds_types.specs.declared.prepared.Body.{Body}
use Rattle.sds_types.specs.declared.prepared.Body.TheVariants as body
use Rattle.sds_types.specs.declared.prepared.Prepared.{Prepared}
use Rattle.sds_types.specs.declared.row.RowStep.{RowStep}
use Rattle.sds_types.specs.declared.row.TableRow.{TableRow}
use Rattle.sds_types.specs.declared.tx_row.TxRow.{TxRow}
use Rattle.sds_trade.specs.rules.Captured.{captured_channel}
use Rattle.sds_trade.specs.rules.Outcomes.{batch_judge, by_body, by_channel, outcome_of_batch, with_number}
use Rattle.sds_trade.specs.rules.OwnWrites.{outcome_of_write, own_judge}
use Rattle.sds_trade.specs.rules.Runs.{run}
use Rattle.sds_runs.specs.Fitting.{is_full}

pub write_by_full : (config : Config) (group : List ℕ) (a b : ℕ) (rows : List TableRow) (tx : List TxRow) → is_full a ≡ is_full b
    → outcome_of_write config group a rows tx ≡ outcome_of_write config group b rows tx
write_by_full config group a b rows tx same =
    ap (λ full. run config.tables (λ (step : RowStep). full && is_some (captured_channel config group false step)) (own_judge config.tables) rows (enumerate_from 1 tx)) same

pub load_by_full : (config : Config) (group : List ℕ) (a b : ℕ) (rows : List TableRow) (batch : Prepared) → is_full a ≡ is_full b
    → outcome_of_batch config group a rows batch ≡ outcome_of_batch config group b rows batch
load_by_full config group a b rows batch same = by_place batch.channel
  where
    on : (made : Body) → by_body config group a rows batch made ≡ by_body config group b rows batch made
    on (body.Broken number rule) = refl
    on (body.Rows made) =
        ap (λ full. run config.tables (λ (step : RowStep). full && is_some (captured_channel config group true step)) (batch_judge config batch) rows (map with_number made)) same

    by_place : (channel : Option ℕ) → by_channel config group a rows batch channel ≡ by_channel config group b rows batch channel
    by_place None = refl
    by_place (Some channel) = on batch.body
