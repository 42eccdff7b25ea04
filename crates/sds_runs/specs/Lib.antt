-- What contracts say of the calls of a node that run rows over its tables.
pub mod Fitting
pub mod Keeping
pub mod Lanes
pub mod Made
pub mod Ready
