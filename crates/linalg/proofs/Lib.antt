pub mod Unfolds
pub mod Answers
pub mod Even
