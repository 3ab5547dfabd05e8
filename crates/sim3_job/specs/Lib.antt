-- To be read in this order.
pub mod Filled
pub mod Sent
pub mod Ran
