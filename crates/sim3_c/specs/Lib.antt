-- To be read in this order.
pub mod Calls
pub mod Near
