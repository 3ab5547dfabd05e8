-- To be read in this order.
pub mod Value
pub mod Roundoff
pub mod Tree
pub mod Arithmetic
pub mod Leaves
pub mod Theorem
