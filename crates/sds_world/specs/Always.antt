-- What holds after each line of a scenario.
use Rattle.std.specs.Prelude.{ℕ, List}
use Rattle.sds_types.specs.declared.config.Config.{Config}
use Rattle.sds_trade.specs.rules.Sound.{IsSound}
use Rattle.sds_history.specs.world.InStep.{InStep}
use Rattle.sds_screen.specs.WorldAt.{world_at}

-- under a sound configuration the world after the first lines of a text, so many of them, is in step
abbrev pub ScenariosStayInStep : Type 0
ScenariosStayInStep = (config : Config) → IsSound config → (noise text : List ℕ) (count : ℕ)
    → InStep config (world_at config noise text count)
