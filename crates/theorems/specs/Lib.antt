-- To be read in this order.
pub mod Floats
pub mod Demand3
pub mod Views
pub mod Flags
pub mod RhoNegated
pub mod RhoNegatedExamples
