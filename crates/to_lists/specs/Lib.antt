-- To be read in this order.
pub mod Counts
pub mod Written
