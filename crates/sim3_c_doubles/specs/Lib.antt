-- To be read in this order.
pub mod Root
pub mod Order
pub mod Join
pub mod Shelf
pub mod Probe
