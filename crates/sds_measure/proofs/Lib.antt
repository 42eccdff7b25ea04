pub mod Samples
mod Filled
