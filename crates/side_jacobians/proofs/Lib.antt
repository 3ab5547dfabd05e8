pub mod Unfolds
pub mod Flags
pub mod Examples
mod Findings
