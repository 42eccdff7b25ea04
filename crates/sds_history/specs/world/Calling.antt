-- A call at a node of a world: its answer, and the node after it. The act that it makes takes the
-- first of the node's faults. The call then fails, and the act stands or it doesn't.
use Rattle.std.specs.Prelude.{Bool, true, false, if◌then◌else◌, List, [], ◌∷◌, ◌++◌, Option, None, Some, Result, Err}
use Rattle.sds_types.specs.declared.node_fault.NodeFault.{NodeFault}
use Rattle.sds_types.specs.declared.node_fault.NodeFault.TheVariants.{Keeper}
use Rattle.sds_history.specs.history.Acts.{Act, History}
use Rattle.sds_history.specs.world.Worlds.{Node}

pub record Called (A E : Type 0) : Type 0 where
  pub node : Node
  pub answer : Result A E

abbrev pub with_act : History → Act → History
with_act history act = record history { acts = act ∷ history.acts }

abbrev pub act_stands : Bool → History → Act → History
act_stands true history act = with_act history act
act_stands false history act = history

-- the node after an act that its first fault meets, if it has one
abbrev pub after_act : Node → Act → List Bool → Node
after_act node act [] = record node { history = with_act node.history act }
after_act node act (stands ∷ faults) =
    record { history = act_stands stands node.history act; faults = faults }

abbrev pub after_call : Node → Option Act → Node
after_call node None = node
after_call node (Some act) = after_act node act node.faults

-- a call fails where it makes an act that a fault meets
abbrev pub fails : Option Act → List Bool → Bool
fails None faults = false
fails (Some act) [] = false
fails (Some act) (stands ∷ faults) = true

abbrev pub call : {A E : Type 0} → (NodeFault → E) → Node → Option Act → Result A E → Called A E
call fault node act answer = record {
  node = after_call node act;
  answer = if fails act node.faults then Err (fault Keeper) else answer;
}

-- a fault is armed after those that are armed already
abbrev pub armed : Node → Bool → Node
armed node stands = record node { faults = node.faults ++ stands ∷ [] }
