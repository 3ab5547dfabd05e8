-- To be read in this order. Private is for the proofs alone: no public contract cites it.
pub mod Floats
pub mod Group
pub mod Entries
pub mod Private
