-- Lemmas on the job, from one record to any run of a program.
pub mod Rows
pub mod Turns
pub mod Loop
pub mod Steps
pub mod Dispatched
pub mod Lent
pub mod Ending
pub mod Pieces
pub mod Stream
pub mod Whole
pub mod Adding
pub mod Few
pub mod Progress
pub mod Input
pub mod Examples
