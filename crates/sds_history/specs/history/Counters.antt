-- No counter passes its end: a call that would make an act past it makes none.
use Rattle.std.specs.Prelude.{Bool, true, false, ◌||◌, nat_lt, if◌then◌else◌, Option, None, Some, Result, Err}
use Rattle.std.specs.Option.{option_map_or}
use Rattle.sds_types.specs.Limits.{most_count}
use Rattle.sds_types.specs.declared.config.Config.{Config}
use Rattle.sds_types.specs.declared.counts.Counts.{Counts}
use Rattle.sds_types.specs.declared.node_fault.NodeFault.{NodeFault}
use Rattle.sds_types.specs.declared.node_fault.NodeFault.TheVariants.{Counters}
use Rattle.sds_history.specs.history.Acts.{Act, State}
use Rattle.sds_history.specs.history.States.{state_after}

abbrev pub is_past : Counts → Bool
is_past counts = nat_lt most_count counts.acts || (nat_lt most_count counts.last_change
    || (nat_lt most_count counts.last_batch || nat_lt most_count counts.last_tx))

-- a counter would pass its end by an act
abbrev pub act_passes : Config → State → Act → Bool
act_passes config state act = is_past (state_after config state act).counts

abbrev pub would_pass : Config → State → Option Act → Bool
would_pass config state act = option_map_or (act_passes config state) act false

-- the act that a call makes of the one that it is about to make
abbrev pub within : Config → State → Option Act → Option Act
within config state act = if would_pass config state act then None else act

-- what a call answers that is about to make an act: that a counter would pass its end, or else its
-- own answer. How the call says a fault is its own
abbrev pub answer_within : {A E : Type 0} → (NodeFault → E) → Config → State → Option Act
    → Result A E → Result A E
answer_within fault config state act answer =
    if would_pass config state act then Err (fault Counters) else answer

-- the act that a call makes where it answers with a value
abbrev pub act_if : Bool → Act → Option Act
act_if true act = Some act
act_if false act = None
