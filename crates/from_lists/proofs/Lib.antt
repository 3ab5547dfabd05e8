-- Lemmas on lists that hold exactly one structure.
pub mod Back
pub mod Lists
