-- Lemmas on lists that are written whole.
pub mod OnLists
pub mod Fits
pub mod Stored
