-- To be read in this order.
pub mod State
pub mod Records
pub mod Chain
pub mod Retakes
