-- To be read in this order.
pub mod Floats
pub mod Tangent
pub mod Pose
pub mod Exp
