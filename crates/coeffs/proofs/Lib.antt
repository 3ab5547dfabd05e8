pub mod Unfolds
pub mod ClosedForms
pub mod GroupForms
pub mod Arms
