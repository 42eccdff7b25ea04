-- A failure of a keeper, as a fault of a node.
use Rattle.sds_outside.specs.declared.keeping.KeepFail.{KeepFail}
use Rattle.sds_outside.specs.declared.keeping.KeepFail.TheVariants as keep
use Rattle.sds_types.specs.declared.node_fault.NodeFault.{NodeFault}
use Rattle.sds_types.specs.declared.node_fault.NodeFault.TheVariants.{Keeper, Damaged, NoMemory}

abbrev pub fault_of_fail : KeepFail → NodeFault
fault_of_fail keep.Failed = Keeper
fault_of_fail (keep.Damaged at) = Damaged at
fault_of_fail keep.NoMemory = NoMemory
