-- Lemmas on the IEEE 754 operations, each for any format.
pub mod Sign
pub mod Zero
pub mod Signed
pub mod Product
pub mod Finite
pub mod Clear
pub mod Order
pub mod Mono
pub mod Exact
pub mod Square
pub mod Table
pub mod Nan
mod Limits
pub mod Values
pub mod Patterns
pub mod Neighbours
pub mod Spacing
