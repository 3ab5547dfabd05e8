-- Lemmas on bytes, on bytes at a place in a list, on the search for a NaN among numbers, and on lists to and from
-- bytes.
pub mod Bytes
pub mod Lists
pub mod Nans
pub mod Places
