-- The numbers and names of the refusals of registrations and of new nodes.
use Rattle.std.specs.Prelude.{ℕ, List, codes}
use Rattle.sds_types.specs.declared.registration.CreateRefusal.{CreateRefusal}
use Rattle.sds_types.specs.declared.registration.CreateRefusal.TheVariants as create
use Rattle.sds_types.specs.declared.registration.RegRefusal.{RegRefusal}
use Rattle.sds_types.specs.declared.registration.RegRefusal.TheVariants.{NotOpen, UnknownGroup, AlreadyOpen, IdTaken, TooManyNodes, Fault}
use Rattle.sds_types.specs.NodeFaults.{name_of}

abbrev pub reg_number_of : RegRefusal → ℕ
reg_number_of NotOpen = 1
reg_number_of UnknownGroup = 2
reg_number_of AlreadyOpen = 3
reg_number_of IdTaken = 4
reg_number_of TooManyNodes = 5
reg_number_of (Fault fault) = 0

abbrev pub reg_name_of : RegRefusal → List ℕ
reg_name_of NotOpen = codes "NotOpen"
reg_name_of UnknownGroup = codes "UnknownGroup"
reg_name_of AlreadyOpen = codes "AlreadyOpen"
reg_name_of IdTaken = codes "IdTaken"
reg_name_of TooManyNodes = codes "TooManyNodes"
reg_name_of (Fault fault) = name_of fault

abbrev pub create_number_of : CreateRefusal → ℕ
create_number_of create.NotEmpty = 1
create_number_of create.UnknownGroup = 2
create_number_of (create.Fault fault) = 0

abbrev pub create_name_of : CreateRefusal → List ℕ
create_name_of create.NotEmpty = codes "NotEmpty"
create_name_of create.UnknownGroup = codes "UnknownGroup"
create_name_of (create.Fault fault) = name_of fault
