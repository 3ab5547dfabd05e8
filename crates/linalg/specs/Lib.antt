-- To be read in this order.
pub mod Floats
pub mod Answer
pub mod Vector
pub mod Matrix
