-- A commit that isn't known to stand, as a fault of a node.
use Rattle.sds_types.specs.declared.node_fault.NodeFault.{NodeFault}
use Rattle.sds_types.specs.declared.node_fault.NodeFault.TheVariants as node
use Rattle.sds_commit.specs.declared.committing.Uncommitted.{Uncommitted}
use Rattle.sds_commit.specs.declared.committing.Uncommitted.TheVariants.{Failed, NoMemory}

abbrev pub fault_of : Uncommitted → NodeFault
fault_of Failed = node.Keeper
fault_of NoMemory = node.NoMemory
