-- To be read in this order.
pub mod Floats
pub mod Values
pub mod Limits
pub mod Arm
