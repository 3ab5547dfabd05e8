-- Lemmas on the result of a record and on what is written for it.
pub mod Views
pub mod Record
pub mod Frames
