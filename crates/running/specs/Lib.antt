-- To be read in this order.
pub mod Running
pub mod History
