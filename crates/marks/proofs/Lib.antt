-- Every row of the table; the head of the input and the state after it; its place in the counts by mark; any history of
-- records; whole records; the replies after a history; and examples.
pub mod Table
pub mod Heads
pub mod Rows
pub mod Past
pub mod Whole
pub mod Answered
mod Examples
