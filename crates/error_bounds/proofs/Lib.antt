pub mod Holds
pub mod ManyPoints
pub mod Blocks
pub mod InverseBlocks
