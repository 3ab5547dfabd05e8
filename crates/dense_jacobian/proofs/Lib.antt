-- The columns of a flat matrix as parts of a list.
pub mod Parts
