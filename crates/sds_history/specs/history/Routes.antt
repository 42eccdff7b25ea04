-- What a node answers to a routing run, and the act that it makes.
use Rattle.std.specs.Prelude.{ℕ, ◌-◌, nat_lt, Option, Result, Ok}
use Rattle.std.specs.Option.{option_map_or}
use Rattle.sds_types.specs.declared.config.Config.{Config}
use Rattle.sds_types.specs.declared.node_fault.NodeFault.{NodeFault}
use Rattle.sds_history.specs.history.Acts.{Act, State}
use Rattle.sds_history.specs.history.Acts.Act.{Routed}
use Rattle.sds_history.specs.history.Counters.{act_if, answer_within, within}
use Rattle.sds_history.specs.history.States.{state_after}
use Rattle.sds_history.specs.history.Writes.{waiting_in}

-- a run is made where a change waits
abbrev pub next_route : State → Option Act
next_route state = act_if (nat_lt 0 (waiting_in state)) Routed

-- how many batches an act makes
abbrev pub batches_made : Config → State → Act → ℕ
batches_made config state act =
    (state_after config state act).counts.last_batch - state.counts.last_batch

-- ROUTE: a counter; else how many batches it makes, which is 0 where no change waits
abbrev pub route_answer : Config → State → Result ℕ NodeFault
route_answer config state = answer_within (λ fault. fault) config state (next_route state)
    (Ok (option_map_or (batches_made config state) (next_route state) 0))

abbrev pub route_act : Config → State → Option Act
route_act config state = within config state (next_route state)
