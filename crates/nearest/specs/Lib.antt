-- To be read in this order. Private is for the proofs alone: no public contract cites it.
pub mod Nearest
pub mod Theorem
pub mod Neighbours
pub mod Private
