-- Lemmas on the series, each for any format.
pub mod PartialSums
pub mod Sum
pub mod Solo
pub mod Asked
pub mod Guard
