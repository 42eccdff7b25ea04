-- The names of the faults that any call of a node may meet.
use Rattle.std.specs.Prelude.{ℕ, List, codes}
use Rattle.sds_types.specs.declared.node_fault.NodeFault.{NodeFault}
use Rattle.sds_types.specs.declared.node_fault.NodeFault.TheVariants.{Keeper, BadKept, Damaged, Counters, NoMemory}

abbrev pub name_of : NodeFault → List ℕ
name_of Keeper = codes "KeeperFault"
name_of (BadKept key) = codes "BadKept"
name_of (Damaged offset) = codes "Damaged"
name_of Counters = codes "Counters"
name_of NoMemory = codes "NoMemory"
