-- To be read in this order.
pub mod Floats
pub mod Blocks
pub mod Side
pub mod Pair
pub mod Examples
