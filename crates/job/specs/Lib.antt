-- To be read in this order. Private is for the proofs alone: no public contract cites it.
pub mod Counts
pub mod Job
pub mod Feed
pub mod Run
pub mod Input
pub mod Private
