-- Lemmas on tangents by their patterns, on lists of poses, on the lists of a running join, on lists of zeros, and on
-- the documented probe.
mod Patterns
pub mod Unfolds
pub mod PoseRuns
mod Held
mod Zeros
mod Documented
