-- To be read in this order.
pub mod Tables
pub mod Patterns
pub mod Every
pub mod Rows
