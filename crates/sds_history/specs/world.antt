-- Worlds of nodes: what happens in them, and when their nodes are in step.
pub mod Worlds
pub mod Calling
pub mod Happened
pub mod Registering
pub mod Sending
pub mod DeliverOrder
pub mod Delivery
pub mod Delivering
pub mod Answering
pub mod Exchanging
pub mod Events
pub mod LaneParts
pub mod RoutedOnce
pub mod InStep
