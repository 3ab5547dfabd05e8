-- To be read in this order.
pub mod Floats
pub mod Pose
pub mod Joins
pub mod Laws
