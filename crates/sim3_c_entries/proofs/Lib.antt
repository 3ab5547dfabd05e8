-- Lemmas on the arms.
pub mod Unfolds
pub mod Arms
