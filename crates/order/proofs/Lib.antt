-- What the order means, and the lemmas that the functions' proofs cite.
pub mod Magnitudes
pub mod Keys
pub mod Tangents
pub mod Flat
pub mod Counts
pub mod Theorem
pub mod Sorting
pub mod Examples
