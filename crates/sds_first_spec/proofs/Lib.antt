pub mod TwoNodesComputed
pub mod WorkedComputed
pub mod CutLaw
pub mod CutOnly
pub mod Uncaptured
