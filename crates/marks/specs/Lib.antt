-- To be read in this order.
pub mod Marks
pub mod Rows
pub mod History
pub mod Answers
