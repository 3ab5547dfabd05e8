-- To be read in this order.
pub mod Poses
pub mod ManyPoints
pub mod Blocks
pub mod InverseBlocks
