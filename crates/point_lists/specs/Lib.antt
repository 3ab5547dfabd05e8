-- To be read in this order. Private is for the proofs alone: no public contract cites it.
pub mod Points
pub mod Private
