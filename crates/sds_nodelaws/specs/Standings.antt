-- An OK is final.
use Rattle.std.specs.Prelude.{◌≡◌, ℕ, Some, slice_get}
use Rattle.sds_types.specs.declared.batch.OutBatch.{OutBatch}
use Rattle.sds_types.specs.declared.batch.Standing.TheVariants as standing
use Rattle.sds_types.specs.declared.config.Config.{Config}
use Rattle.sds_history.specs.history.Acts.{Act, History}
use Rattle.sds_history.specs.history.States.{state_of}
use Rattle.sds_history.specs.world.Calling.{with_act}

-- a batch that is acknowledged stays as it is, whatever comes
abbrev pub OkIsFinal : Type 0
OkIsFinal = (config : Config) (history : History) (act : Act) (place : ℕ) (batch : OutBatch)
    → slice_get (state_of config history).batches place ≡ Some batch
    → batch.standing ≡ standing.Acked
    → slice_get (state_of config (with_act history act)).batches place ≡ Some batch
