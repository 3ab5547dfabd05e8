-- Lemmas on replies, and on calls on lists as answers.
pub mod Unfolds
pub mod Arms
pub mod Calls
pub mod Replies
pub mod Views
mod ArAsCo
mod ArAsPa
mod Examples
