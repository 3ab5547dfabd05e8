pub mod Lists
pub mod Fours
mod Findings
