-- Lemmas on poses with frames as bytes, on parts of a list, on how many sheets are kept, on the store, on its results,
-- on any history of shots, and on what a query returns.
pub mod Framed
mod Parts
pub mod Counted
pub mod Own
mod Stored
mod Views
pub mod Past
pub mod Highest
pub mod Back
