-- Calls of the nodes of a rehearsal, by the law of calls.
use Rattle.std.proofs.Common.{◌≡◌, ℕ, List, Option, Some, None, Result, Ok, Err, refl, sym, subst}
use Rattle.std.specs.Prelude.{IfOk}
use Rattle.sds_outside.specs.MemKeeping.{IsKeptOpen, kept_told}
use Rattle.sds_outside.specs.declared.mem_keeper.MemKeeper.{MemKeeper}
use Rattle.sds_types.specs.declared.config.Config.{Config}
use Rattle.sds_types.specs.declared.node_fault.NodeFault.{NodeFault}
use Rattle.sds_history.specs.history.Acts.{State}
use Rattle.sds_history.specs.world.Calling.{Called, call}
use Rattle.sds_history.specs.world.Worlds as world
use Rattle.sds_nodelaws.specs.Asked.{IsAsked}
use Rattle.sds_nodelaws.specs.Calls.{Call, act_of}
use Rattle.sds_imagelaws.specs.Widths.{IsHeldCall}
use Rattle.sds_commit.specs.Ends.{LacksMemory}
use Rattle.sds_node.specs.Going as going
use Rattle.sds_node.specs.Meaning.{IsNode}
use Rattle.sds_node.specs.declared.node.Node.{Node}
use Rattle.sds_node.proofs.Endings.{Ended}
use Rattle.sds_standing.specs.Standing.{GoesAs}
use Rattle.sds_standing.proofs.Calls.{calls_go}
use Rattle.sds_stage.specs.Standing.{Goes, undamaged}

-- a call with its answer, unless memory was wanting
pub goes_by : {A E N : Type 0} (as_fault : NodeFault → E) (asks : Call) (answer : Config → State → Result A E) → ((end : Result A E) → Ended as_fault end)
    → (before after : Node MemKeeper) (end : Result A E) (kept : Result (Result A E) N)
    → ((config : Config) (state : State) → IsAsked config state asks) → IsHeldCall asks → IsNode IsKeptOpen kept_told after → going.IsStill before after
    → going.Goes kept_told undamaged before after (λ state. act_of before.config state asks) as_fault (λ state. answer before.config state) end
    → IfOk kept (λ told. (told ≡ end) × (LacksMemory as_fault end → ⊥))
    → IfOk kept (λ told. Goes before after told
    (λ config stood. call as_fault stood (act_of config (world.state_in config stood) asks) (answer config (world.state_in config stood))))
goes_by as_fault asks answer ended before after end (Ok told) asked few node still goes is =
    λ config stood stands. subst (λ told. GoesAs IsKeptOpen kept_told undamaged config after told
    (call as_fault stood (act_of config (world.state_in config stood) asks) (answer config (world.state_in config stood)))) (sym is.0)
    (calls_go IsKeptOpen kept_told undamaged as_fault asks answer ended config before after stood end stands
    (asked config (world.state_in config stood)) few node still refl goes is.1)
goes_by as_fault asks answer ended before after end (Err none) asked few node still goes is = tt

pub if_ok : {A N : Type 0} {P Q : A → Type 0} (kept : Result A N) → IfOk kept P → ((told : A) → P told → Q told) → IfOk kept Q
if_ok (Ok told) is by = by told is
if_ok (Err none) is by = tt
