-- To be read in this order. Private is for the proofs alone: no public contract cites it.
pub mod Floats
pub mod Limits
pub mod Kernel
pub mod Private
