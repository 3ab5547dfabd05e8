-- To be read in this order.
pub mod Products
pub mod Joins
pub mod Running
pub mod Similarity
pub mod Sigma
pub mod Scale
pub mod Join
pub mod Numbers
