pub mod Unfolds
