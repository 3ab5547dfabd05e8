pub mod Holds
pub mod Flags
pub mod Opposite
pub mod RhoNegated
pub mod RhoNegatedExamples
