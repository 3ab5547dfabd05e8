-- To be read in this order. Private is for the proofs alone: no public contract cites it.
pub mod Floats
pub mod Series
pub mod Recurrence
pub mod Pass
pub mod Asked
pub mod Private
