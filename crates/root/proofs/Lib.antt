-- What the root means, and the lemmas that the functions' proofs cite.
pub mod Squares
pub mod Largest
pub mod Digits
pub mod Assembly
pub mod Cases
pub mod Only
pub mod Nearest
pub mod Rounding
pub mod Level
pub mod Theorem
pub mod Examples
