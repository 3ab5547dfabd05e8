-- To be read in this order.
pub mod Floats
pub mod Jac
