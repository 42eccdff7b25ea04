-- The numbers and names of the ways in which the program ends.
use Rattle.std.specs.Prelude.{ℕ, List, codes}
use Rattle.sds_types.specs.declared.status.InputCause.{InputCause}
use Rattle.sds_types.specs.declared.status.InputCause.TheVariants.{Scenario, Document}
use Rattle.sds_types.specs.declared.status.Status.{Status}
use Rattle.sds_types.specs.declared.status.Status.TheVariants as status
use Rattle.sds_types.specs.DocumentCauses as document
use Rattle.sds_types.specs.ScenarioCauses as scenario

abbrev pub cause_number_of : InputCause → ℕ
cause_number_of (Scenario cause) = scenario.number_of cause
cause_number_of (Document cause) = document.number_of cause

abbrev pub cause_name_of : InputCause → List ℕ
cause_name_of (Scenario cause) = scenario.name_of cause
cause_name_of (Document cause) = document.name_of cause

-- the number with which the process ends
abbrev pub number_of : Status → ℕ
number_of status.Done = 0
number_of (status.Refused row rule) = 1
number_of (status.Words place) = 2
number_of (status.Config refusal) = 3
number_of (status.ReadFault what) = 4
number_of status.WriteFault = 5
number_of status.KeeperFault = 6
number_of status.LinkFault = 7
number_of status.NoMemory = 8
number_of (status.BadInput line cause) = 9
number_of (status.BadKept key) = 10
number_of (status.Peer code) = 11
number_of (status.Number last) = 12
number_of status.NoWay = 13
number_of (status.Registration refusal) = 14
number_of (status.Create refusal) = 15
number_of status.Counters = 16
number_of status.TooManyRows = 17
number_of (status.BadAcks place) = 18
number_of (status.Damaged offset) = 22

abbrev pub name_of : Status → List ℕ
name_of status.Done = codes "Done"
name_of (status.Refused row rule) = codes "Refused"
name_of (status.Words place) = codes "Words"
name_of (status.Config refusal) = codes "Config"
name_of (status.ReadFault what) = codes "ReadFault"
name_of status.WriteFault = codes "WriteFault"
name_of status.KeeperFault = codes "KeeperFault"
name_of status.LinkFault = codes "LinkFault"
name_of status.NoMemory = codes "NoMemory"
name_of (status.BadInput line cause) = codes "BadInput"
name_of (status.BadKept key) = codes "BadKept"
name_of (status.Peer code) = codes "Peer"
name_of (status.Number last) = codes "Number"
name_of status.NoWay = codes "NoWay"
name_of (status.Registration refusal) = codes "Registration"
name_of (status.Create refusal) = codes "Create"
name_of status.Counters = codes "Counters"
name_of status.TooManyRows = codes "TooManyRows"
name_of (status.BadAcks place) = codes "BadAcks"
name_of (status.Damaged offset) = codes "Damaged"
