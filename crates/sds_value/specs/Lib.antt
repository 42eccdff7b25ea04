pub mod Digits
pub mod Decimals
pub mod Binaries
pub mod Stamps
pub mod Names
pub mod Values
